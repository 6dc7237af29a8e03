use Rattle.std.proofs.Common.{ℤ, List, ◌++◌, pos, ◌+ℤ◌, Bool, FitsSigned, w64, rules, refl, ap, sym, subst, ◌∙◌}
use Rattle.std.proofs.lemmas.Int.{to_z-of_z}
use Rattle.active_lines.specs.declared.item.ActiveLine.{ActiveLine}
use Rattle.row_lists.specs.RowLists.{AreAlike}
use Rattle.plane_sweep.specs.Stops.{AreNear, PassesLines}
use Rattle.plane_sweep.proofs.AlikeRuns.{alike_append}
use Rattle.plane_sweep.proofs.AlikeHalfway.{alike_near, alike_at}
use Rattle.plane_sweep.proofs.CrossPoint.{crossed_point, same_runs}
use Rattle.plane_sweep.proofs.StopLemmas.{ascend_rest, same_at}
use Rattle.plane_sweep.proofs.point.pass_point.Goals as goal

pub put_all-requires : goal.put_all-requires
put_all-requires g c =
    subst AreNear (sym c.as_slice.ensures.value)
    (alike_near c.cross.new.front.above.items c.cross_runs.new.front.opened.items c.in_ok-runs.ensures.opened c.in_ok-sides.ensures.near)

pub returns-clause-passes : goal.returns-clause-passes
returns-clause-passes g c = record {
  old = c.cross.new.front.below.items;
  passes = subst (λ (ls : List ActiveLine). PassesLines c.args.point.y c.args.point.x c.args.front.now.lines.after c.cross.new.front.below.items ls)
      (sym (c.in_ok-put_all.ensures.after ∙ c.in_ok-runs.ensures.after)) c.in_ok-sides.ensures.passes;
}

pub returns-clause-at : goal.returns-clause-at
returns-clause-at g c = λ edges is.
    let p = c.args.point in
    let front = c.args.front.now in
    let new = c.cross.new.front.above.items in
    let before1 = c.cross_runs.new.front.lines.before in
    let opened = c.cross_runs.new.front.opened.items in
    let alike = subst (λ (ls : List ActiveLine). AreAlike ls before1) c.in_ok-sides.ensures.before c.in_ok-runs.ensures.alike in
    let over = alike_at edges p.y (p.x +ℤ pos 1) c.in_ok-sides.sides.below c.in_ok-sides.sides.above (front.lines.before ++ new)
    (before1 ++ opened) c.cross.new.front.lines.after _ (alike_append front.lines.before new before1 opened alike c.in_ok-runs.ensures.opened)
    (c.in_ok-sides.ensures.at edges is) in
    same_at edges p.y (p.x +ℤ pos 1) c.in_ok-sides.sides.below c.in_ok-sides.sides.above _ _ c.put_all.new.lines.before
    c.put_all.new.lines.after _ over (c.in_ok-put_all.ensures.before ∙ ap (λ (ls : List ActiveLine). before1 ++ ls) c.as_slice.ensures.value)
    (c.in_ok-put_all.ensures.after ∙ c.in_ok-runs.ensures.after)

pub returns-clause-runs : goal.returns-clause-runs
returns-clause-runs g c = λ takes edges events lines test may at s.
    let p = c.args.point in
    let short : FitsSigned w64 p.y = search rules in
    let passes = simp to_z-of_z at c.in_ok-runs.ensures.runs in
    let left = c.args.left in
    let old = c.args.front.now in
    let front = c.cross.new.front in
    let front1 = c.cross_runs.new.front in
    let right = c.in_ok-sides.sides in
    let post : ℤ → ℤ → Bool → Type 0 = λ a b r. g.F.Fn.post c.args.rule.now (a, (b, tt)) r in
    let here = same_at edges p.y p.x left.sides.below left.sides.above old.lines.before old.lines.after front.lines.before old.lines.after events at
    c.in_ok-sides.ensures.before refl in
    let so_far = same_runs takes p.y p.x lines old.lines.before front.lines.before old.lines.after old.lines.after old.ended.items front.ended.items
    left.sides.below left.sides.below left.runs c.in_ok-sides.ensures.before refl c.in_ok-sides.ensures.ended refl s in
    let ascend = ascend_rest p.y old.lines.before front.above.items ((c.in_ok-sides.ensures.at c.requires.is_at.0 c.requires.is_at.1).halfway.ascend_before) in
    same_runs takes p.y (p.x +ℤ pos 1) lines (front1.lines.before ++ front1.opened.items) c.put_all.new.lines.before front.lines.after
    c.put_all.new.lines.after front1.ended.items front1.ended.items right.below right.below c.in_ok-runs.runs
    (c.in_ok-put_all.ensures.before ∙ ap (λ (ls : List ActiveLine). front1.lines.before ++ ls) c.as_slice.ensures.value)
    (c.in_ok-put_all.ensures.after ∙ c.in_ok-runs.ensures.after) refl refl
    (crossed_point takes post edges p.y p.x left.sides.below left.sides.above right.below right.above events lines old.lines.after front front1 left.runs
    c.in_ok-runs.runs test may here so_far c.in_ok-sides.ensures.passes c.in_ok-sides.ensures.through ascend
    c.in_ok-sides.ensures.sides.0 c.in_ok-sides.ensures.sides.1 passes)
