use Rattle.std.proofs.Common.{◌+◌, ◌<◌, inr, pos, ◌-ℤ◌, List, ◌∷◌, [], ◌++◌, length, take, refl, sym, subst, ◌∙◌, arith}
use Rattle.std.proofs.lemmas.List.{length-set}
use Rattle.half_grid.specs.JoinedLists.{IsInWindow}
use Rattle.half_grid.specs.Trapezoids.{Trapezoid}
use Rattle.density_map.specs.Rows.{RowMap}
use Rattle.density_report.specs.Rows.{rows_of, AreMapsOf, IsMapAt}
use Rattle.density_report.proofs.MapLemmas.{none_done, one_done, all_done, added_at, next_apart, next_traps}
use Rattle.density_report.proofs.maps.add_next.Goals as goal

pub places_of-places-requires-clause-inside : goal.places_of-places-requires-clause-inside
places_of-places-requires-clause-inside c =
    let z = c.index-traps-next.result in
    subst (λ (x : Trapezoid). IsInWindow (rows_of c.args.batch.now) x) (sym c.index-traps-next.is) (c.requires.inside c.args.next z c.requires.next)

pub loop-at-init : goal.loop-at-init
loop-at-init c =
    let before = take c.args.next c.args.traps.now in
    record {
      count = refl;
      done = none_done c.args.batch.now.mesh.size c.args.batch.now.end before
          (before ++ c.index-traps-next.result ∷ []) c.places_of-places.result.from c.args.maps.now.items
          c.requires.maps;
    }

pub add-requires : goal.add-requires
add-requires c =
    let l = c.loop-at in
    let z = c.index-traps-next.result in
    let inside : l.at < length l.maps.items = omega
    (arith, c.loop-at-test.true, c.places_of-places.ensures.inside, c.requires.count, l.invariant.count) in
    let old = subst (λ (m : RowMap).
    IsMapAt c.args.batch.now.mesh.size (c.args.batch.now.end -ℤ pos (l.at + 1)) (take c.args.next c.args.traps.now) m)
    (sym c.index_mut.ensures.value) (l.invariant.done.rest l.at c.index_mut.result.now inside (inr (omega arith))) in
    record {
      apart = record {
        traps = take c.args.next c.args.traps.now;
        counted = old.counted;
        apart = next_apart c.args.traps.now c.args.next z c.requires.next c.index-traps-next.is c.requires.apart;
      };
    }

pub loop-at-preserved : goal.loop-at-preserved
loop-at-preserved c =
    let l = c.loop-at in
    let size = c.args.batch.now.mesh.size in
    let end = c.args.batch.now.end in
    let before = take c.args.next c.args.traps.now in
    let z = c.index-traps-next.result in
    let up = c.loop-at.auto.at in
    let inside : l.at < length l.maps.items = omega (arith, c.loop-at-test.true, c.places_of-places.ensures.inside, c.requires.count, l.invariant.count) in
    let old = subst (λ (m : RowMap). IsMapAt c.args.batch.now.mesh.size (c.args.batch.now.end -ℤ pos (l.at + 1))
    (take c.args.next c.args.traps.now) m) (sym c.index_mut.ensures.value)
    (l.invariant.done.rest l.at c.index_mut.result.now inside (inr (omega arith))) in
    record {
      count = length-set l.maps.items l.at c.add.new.self ∙ l.invariant.count;
      done = one_done size end before (before ++ z ∷ []) c.places_of-places.result.from l.at l.maps.items c.add.new.self inside up l.invariant.done
          (added_at size (end -ℤ pos (l.at + 1)) before z c.index_mut.result.now c.add.new.self old c.in_ok-add.ensures.ok);
    }

pub returns-clause-maps : goal.returns-clause-maps
returns-clause-maps c =
    let l = c.loop-at in
    let z = c.index-traps-next.result in
    subst (λ (ts : List Trapezoid). AreMapsOf c.args.batch.now.mesh.size c.args.batch.now.end ts l.maps.items)
    (sym (next_traps c.args.traps.now c.args.next z c.requires.next c.index-traps-next.is))
    (all_done c.args.batch.now
    (take c.args.next c.args.traps.now) z c.places_of-places.result.from c.places_of-places.result.end l.at
    l.maps.items c.requires.batch.size c.places_of-places.ensures
    (omega (arith, c.loop-at-test.false)) l.invariant.done)
