use Rattle.std.proofs.Common.{FitsSigned, w64, ◌<ℤ◌, ◌≡◌, ◌+◌, ℤ, pos, ◌-ℤ◌, List, ◌∷◌, [], ◌++◌, length, refl, ap, subst, sym, ◌∙◌, rules, arith}
use Rattle.std.proofs.lemmas.Int.{ints, to_z-of_z}
use Rattle.std.proofs.lemmas.List.{length-append}
use Rattle.density_map.specs.Rows.{RowMap, row_map}
use Rattle.density_map.specs.Windows.{IsRowWithinReach}
use Rattle.density_map.proofs.ForCallers.{gap_value}
use Rattle.density_report.specs.declared.strips.Mesh.{Mesh}
use Rattle.density_report.specs.Rows.{AreMapsOf}
use Rattle.density_report.proofs.MapLemmas.{no_maps, one_more_map}
use Rattle.density_report.proofs.StripLemmas.{but_last, reached, row_falls}
use Rattle.density_report.proofs.maps.put_empty.Goals as goal

pub loop-rest-init : goal.loop-rest-init
loop-rest-init c =
    let none = ap (λ (l : List RowMap). length l) c.requires.empty in
    record {
      mesh = refl;
      row = refl;
      rest = c.requires.batch;
      maps = no_maps c.args.batch.now.mesh.size c.args.batch.now.end [] c.args.maps.now.items c.requires.empty;
      count = omega (arith, ints, none);
    }

pub map_at_end-requires-clause-size : goal.map_at_end-requires-clause-size
map_at_end-requires-clause-size c =
    let fr : FitsSigned w64 c.loop-rest.rest.row = search rules in
    let fe : FitsSigned w64 c.loop-rest.rest.end = search rules in
    let test = simp to_z-of_z at c.loop-rest-test.true in
    let less : c.loop-rest.rest.row <ℤ c.loop-rest.rest.end = omega (arith, ints, test) in
    let l = c.loop-rest in
    let b = but_last l.rest c.without_last-rest.result l.invariant.rest less c.without_last-rest.ensures.mesh
    c.without_last-rest.ensures.row c.without_last-rest.ensures.end in
    b.size

pub map_at_end-requires-clause-reach : goal.map_at_end-requires-clause-reach
map_at_end-requires-clause-reach c =
    let fr : FitsSigned w64 c.loop-rest.rest.row = search rules in
    let fe : FitsSigned w64 c.loop-rest.rest.end = search rules in
    let test = simp to_z-of_z at c.loop-rest-test.true in
    let less : c.loop-rest.rest.row <ℤ c.loop-rest.rest.end = omega (arith, ints, test) in
    let l = c.loop-rest in
    let end = c.without_last-rest.ensures.end in
    subst (λ (m : Mesh). IsRowWithinReach m.size c.without_last-rest.result.end) (sym c.without_last-rest.ensures.mesh)
    (reached l.rest c.without_last-rest.result.end l.invariant.rest (omega (arith, ints, less, end)) (omega (arith, ints, end)))

pub loop-rest-smaller : goal.loop-rest-smaller
loop-rest-smaller c =
    let fr : FitsSigned w64 c.loop-rest.rest.row = search rules in
    let fe : FitsSigned w64 c.loop-rest.rest.end = search rules in
    let test = simp to_z-of_z at c.loop-rest-test.true in
    let less : c.loop-rest.rest.row <ℤ c.loop-rest.rest.end = omega (arith, ints, test) in
    row_falls c.loop-rest.rest c.without_last-rest.result c.without_last-rest.ensures.row c.without_last-rest.ensures.end less

pub loop-rest-preserved : goal.loop-rest-preserved
loop-rest-preserved c =
    let fr : FitsSigned w64 c.loop-rest.rest.row = search rules in
    let fe : FitsSigned w64 c.loop-rest.rest.end = search rules in
    let test = simp to_z-of_z at c.loop-rest-test.true in
    let less : c.loop-rest.rest.row <ℤ c.loop-rest.rest.end = omega (arith, ints, test) in
    let l = c.loop-rest in
    let e : c.push.new.self.items ≡ l.maps.items ++ c.map_at_end.result ∷ [] = search rules in
    let all = length-append l.maps.items (c.map_at_end.result ∷ []) in
    let longer = ap (λ (ms : List RowMap). length ms) e in
    let count = l.invariant.count in
    let end = c.without_last-rest.ensures.end in
    let mesh = c.without_last-rest.ensures.mesh ∙ l.invariant.mesh in
    let here : c.without_last-rest.result.end ≡ c.args.batch.now.end -ℤ pos (length l.maps.items + 1) = omega (arith, ints, count, end) in
    let made = c.map_at_end.ensures ∙ ap (λ (m : Mesh). row_map m.size c.without_last-rest.result.end []) mesh ∙ ap
    (λ (r : ℤ). row_map c.args.batch.now.mesh.size r []) here in
    record {
      mesh = mesh;
      row = c.without_last-rest.ensures.row ∙ l.invariant.row;
      rest = but_last l.rest c.without_last-rest.result l.invariant.rest less c.without_last-rest.ensures.mesh
          c.without_last-rest.ensures.row c.without_last-rest.ensures.end;
      maps = subst (λ (ms : List RowMap). AreMapsOf c.args.batch.now.mesh.size c.args.batch.now.end [] ms) (sym e)
          (one_more_map c.args.batch.now.mesh.size c.args.batch.now.end l.maps.items c.map_at_end.result (length l.maps.items) refl made l.invariant.maps);
      count = omega (arith, ints, all, longer, count, end);
    }

pub returns-clause-count : goal.returns-clause-count
returns-clause-count c =
    let l = c.loop-rest in
    let row = l.invariant.row in
    let count = l.invariant.count in
    let ascending = l.invariant.rest.ascending in
    let fr : FitsSigned w64 c.loop-rest.rest.row = search rules in
    let fe : FitsSigned w64 c.loop-rest.rest.end = search rules in
    let test = simp to_z-of_z at c.loop-rest-test.false in
    let whole = c.requires.batch.ascending in
    gap_value c.args.batch.now.row c.args.batch.now.end (length l.maps.items) whole (omega (arith, ints, row, count, ascending, test))
