use Rattle.std.proofs.Common.{List, [], ◌++◌, pos, ◌+ℤ◌, ap, sym, subst, ◌∙◌}
use Rattle.active_lines.specs.declared.item.ActiveLine.{ActiveLine}
use Rattle.active_lines.specs.declared.item.Windings.{Windings}
use Rattle.row_lists.specs.RowRuns.{last_windings}
use Rattle.plane_sweep.specs.Bundles.{HasChangesOf}
use Rattle.plane_sweep.specs.Stops.{IsAt}
use Rattle.plane_sweep.proofs.FillLemmas.{passes_at, last_is}
use Rattle.plane_sweep.proofs.StopLemmas.{after_within, over_point, near_lines}
use Rattle.plane_sweep.proofs.point.cross.Goals as goal

pub take_through-requires-clause-within : goal.take_through-requires-clause-within
take_through-requires-clause-within g c = let at = c.requires.is_at in after_within at.0 _ _ _ _ _ _ at.1.known at.1.halfway

pub returns-clause-at : goal.returns-clause-at
returns-clause-at g c = λ edges is.
    let p = c.args.point in
    let taken = c.take_through.new.taken.items in
    let has = subst (λ (ls : List ActiveLine). HasChangesOf c.args.left.below ls c.in_ok-bundle.bundle) c.as_slice.ensures.value c.in_ok-bundle.ensures in
    let right = ap (last_windings c.args.left.below) (sym c.as_slice-2.ensures.value) ∙ sym c.right_of-below.ensures in
    subst (λ (w : Windings). IsAt edges p.y (p.x +ℤ pos 1) w c.in_ok-above.above
    (c.args.front.now.lines.before ++ c.fill.new.lines.items) c.take_through.new.lines.after
    (g.E.EventSource.left c.take_events.new.events)) right
    (over_point edges p.y p.x c.args.left.below c.args.left.above c.args.front.now.lines.before
    c.args.front.now.lines.after (g.E.EventSource.left c.args.events.now) is taken
    c.take_through.new.lines.after c.in_ok-take_through.ensures.passes c.in_ok-bundle.bundle c.in_ok-bundle-2.bundle
    (g.E.EventSource.left c.take_events.new.events) has c.in_ok-bundle-2.ensures
    c.fill.new.lines.items c.in_ok-above.above c.in_ok-above.ensures)

pub returns-clause-near : goal.returns-clause-near
returns-clause-near g c =
    let p = c.args.point in
    near_lines p.y p.x c.fill.new.lines.items
    (passes_at [] p.y p.x c.in_ok-bundle-2.bundle c.args.left.above c.fill.new.lines.items c.in_ok-above.above
    c.in_ok-above.ensures)
    c.requires.point.x c.requires.point.y

pub returns-clause-through : goal.returns-clause-through
returns-clause-through g c =
    passes_at [] c.args.point.y c.args.point.x c.in_ok-bundle-2.bundle c.args.left.above c.fill.new.lines.items c.in_ok-above.above c.in_ok-above.ensures

pub returns-clause-sides : goal.returns-clause-sides
returns-clause-sides g c = (
  sym (ap (last_windings c.args.left.below) (sym c.as_slice-2.ensures.value) ∙ sym c.right_of-below.ensures),
  sym (last_is [] c.args.point.y c.args.point.x c.in_ok-bundle-2.bundle c.args.left.above c.fill.new.lines.items c.in_ok-above.above c.in_ok-above.ensures),
)
