use Rattle.std.proofs.Common.{refl}
use Rattle.oas_fields.specs.Values.{is_relative, layer_of, datatype_of, width_of, height_of, polygon_points_of}
use Rattle.oas_fields.specs.Values.{half_width_of, start_of, end_of, path_points_of, kind_of, cell_of, repetition_of}
use Rattle.oas_fields.specs.Values.{coordinate, place_of}
use Rattle.oas_fields.proofs.fields.Fields.new.Goals as goal

pub returns : goal.returns
unfolding is_relative layer_of datatype_of width_of height_of polygon_points_of half_width_of start_of end_of
    path_points_of kind_of cell_of repetition_of coordinate place_of
returns c = record {
  mode = refl;
  layer = refl;
  datatype = refl;
  width = refl;
  height = refl;
  polygon_points = refl;
  half_width = refl;
  start = refl;
  end = refl;
  path_points = refl;
  kind = refl;
  cell = refl;
  repetition = refl;
  placement = refl;
  geometry = refl;
  text = refl;
}
