use Rattle.half_grid.proofs.Places.{place_at_most, right_by_place, number_below, left_by_place, same_strips, same_number, one_line, legal_places}
use Rattle.half_grid.proofs.laws.row_laws.Goals as goal

pub returns : goal.returns
returns c = record {
  right_by_place = λ t line. (place_at_most t line, right_by_place t line);
  left_by_place = λ t line. (number_below t line, left_by_place t line);
  strips_name_tile = same_strips;
  number_names_tile = same_number;
  place_names_line = one_line;
  legal_places = legal_places;
}
