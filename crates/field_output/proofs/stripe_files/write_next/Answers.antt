use Rattle.std.proofs.Common.{rules, ◌≡◌, ◌+ℤ◌, pos, ℤ, ℕ, List, All, length, vec_len, ap, subst, sym, refl, ◌∙◌, arith, FitsSigned, w64}
use Rattle.std.proofs.lemmas.Int.{to_z-of_z}
use Rattle.std.proofs.lemmas.List.Elements.{All-filter}
use Rattle.std.specs.List.{AllZip, filter}
use Rattle.depot.proofs.ForCallers.{refused}
use Rattle.half_grid.specs.Trapezoids.{Trapezoid, IsShot}
use Rattle.field_split.specs.Looks.{IsFieldShot}
use Rattle.field_output.specs.Lists.{lists_from}
use Rattle.field_output.specs.Meeting.{HasNumber, meets, numbers}
use Rattle.field_output.specs.Stripes.{stripe_name, sums_of}
use Rattle.field_output.proofs.ListLemmas.{lists_length, sums_length}
use Rattle.field_output.proofs.NextLemmas.{rows_at, pieces_as, file_as, part_as, each_more}
use Rattle.field_output.proofs.NumberLemmas.{numbered, filter_few}
use Rattle.field_output.proofs.stripe_files.write_next.Goals as goal

zipped : (shots : List Trapezoid) (size first : ℤ) (place : ℕ) (ns chosen : List ℕ) → ns ≡ chosen → chosen ≡ numbers
    (meets size first place) 0 shots → AllZip (HasNumber shots) ns (filter (meets size first place) shots)
zipped shots size first place ns chosen e f =
    subst (λ (l : List ℕ). AllZip (HasNumber shots) l (filter (meets size first place) shots)) (sym (e ∙ f)) (numbered shots
    (meets size first place) 0 shots refl)

legal : (shots : List Trapezoid) → All IsFieldShot shots → All IsShot shots
legal shots h = λ i d lt. (h i d lt).shot

pub write_stripe-requires-clause-stripe : goal.write_stripe-requires-clause-stripe
write_stripe-requires-clause-stripe g c =
    let span = c.args.span in
    let number : FitsSigned w64 c.number_of-number.result = search rules in
    simp to_z-of_z (rows_at span.size c.args.fields.now (span.first +ℤ pos c.args.place) c.number_of-number.result c.requires.size
    c.number_of-number.ensures (c.requires.rows c.args.place c.requires.place))

pub write_stripe-requires-clause-chosen : goal.write_stripe-requires-clause-chosen
write_stripe-requires-clause-chosen g c =
    let span = c.args.span in
    let shots = c.args.shots.now in
    let test = meets span.size span.first c.args.place in (
      filter test shots,
      zipped shots span.size span.first c.args.place c.numbers.result.now _ c.numbers.ensures c.turn.ensures.chosen,
      All-filter test IsFieldShot shots c.requires.shots,
      omega (arith, filter_few test shots, c.requires.few),
    )

pub returns-in_err-sums-clause-content : goal.returns-in_err-sums-clause-content
returns-in_err-sums-clause-content g c = record {
  ok = search rules;
  refused = refused c.from_residual.result _ (λ told.
      let span = c.args.span in
      let shots = c.args.shots.now in
      let number : FitsSigned w64 c.number_of-number.result = search rules in
      let chosen = filter (meets span.size span.first c.args.place) shots in
      let zip = zipped shots span.size span.first c.args.place c.numbers.result.now _ c.numbers.ensures c.turn.ensures.chosen in
      let name = simp to_z-of_z at c.spell_name.ensures.name in
      let part = simp to_z-of_z at ((c.in_err-sums.ensures.content chosen zip).refused told) in
      let pieces = pieces_as span.size c.args.fields.now span.first c.number_of-number.result span.count c.args.place shots span.positive
      (legal shots c.requires.shots) c.requires.placed c.requires.size c.number_of-number.ensures in
      part_as (g.D.Depot.content c.args.depot.now) (g.D.Depot.content c.write_stripe.new.depot) c.as_str.result.now c.args.base.now
      (span.first +ℤ pos c.args.place) c.args.head _ _ (c.as_str.ensures.value ∙ name ∙ ap
      (stripe_name c.args.base.now) c.number_of-number.ensures) pieces part);
}

pub push_reserved-requires : goal.push_reserved-requires
push_reserved-requires g c =
    let span = c.args.span in
    let shots = c.args.shots.now in
    let lists = lists_from span.size shots span.first c.args.place in
    let len : vec_len c.args.room.now.each ≡ length c.args.room.now.each.items = search rules in
    omega (
      arith,
      len,
      ap length c.requires.room.each,
      sums_length span.first lists,
      lists_length span.size shots span.first c.args.place,
      c.requires.place,
      c.requires.room.each_room,
    )

pub returns-clause-sums : goal.returns-clause-sums
returns-clause-sums g c =
    let span = c.args.span in
    let shots = c.args.shots.now in
    let number : FitsSigned w64 c.number_of-number.result = search rules in
    let chosen = filter (meets span.size span.first c.args.place) shots in
    let zip = zipped shots span.size span.first c.args.place c.numbers.result.now _ c.numbers.ensures c.turn.ensures.chosen in
    let is = simp to_z-of_z at (c.in_ok-sums.ensures.sums chosen zip) in
    let pieces = pieces_as span.size c.args.fields.now span.first c.number_of-number.result span.count c.args.place shots span.positive
    (legal shots c.requires.shots) c.requires.placed c.requires.size c.number_of-number.ensures in
    is ∙ ap sums_of pieces

pub returns-clause-content : goal.returns-clause-content
returns-clause-content g c = record {
  ok = λ told.
      let span = c.args.span in
      let shots = c.args.shots.now in
      let number : FitsSigned w64 c.number_of-number.result = search rules in
      let chosen = filter (meets span.size span.first c.args.place) shots in
      let zip = zipped shots span.size span.first c.args.place c.numbers.result.now _ c.numbers.ensures c.turn.ensures.chosen in
      let name = simp to_z-of_z at c.spell_name.ensures.name in
      let is = simp to_z-of_z at ((c.in_ok-sums.ensures.content chosen zip).ok told) in
      let pieces = pieces_as span.size c.args.fields.now span.first c.number_of-number.result span.count c.args.place shots span.positive
      (legal shots c.requires.shots) c.requires.placed c.requires.size c.number_of-number.ensures in
      file_as (g.D.Depot.content c.args.depot.now) (g.D.Depot.content c.write_stripe.new.depot) c.as_str.result.now c.args.base.now
      (span.first +ℤ pos c.args.place) c.args.head _ _ (c.as_str.ensures.value ∙ name ∙ ap (stripe_name c.args.base.now) c.number_of-number.ensures) pieces is;
  refused = search rules;
}

pub returns-clause-room : goal.returns-clause-room
returns-clause-room g c =
    let span = c.args.span in
    let number : FitsSigned w64 c.number_of-number.result = search rules in
    let is = simp to_z-of_z at c.push_reserved.ensures.items in
    record {
      name = omega (arith, c.requires.room.name, c.spell_name.ensures.capacity);
      each = each_more span.size c.args.shots.now span.first c.args.place c.args.room.now.each.items _ c.number_of-number.result c.in_ok-sums.sums
          c.requires.room.each c.number_of-number.ensures (returns-clause-sums g c) is;
      each_room = omega (arith, c.push_reserved.ensures.capacity, c.requires.room.each_room);
      choice = c.turn.ensures.ready;
    }
