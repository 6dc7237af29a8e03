use Rattle.std.proofs.Common.{ℤ, List, ◌++◌, ◌∷◌, [], Bool, None, drop, pos, ◌+ℤ◌, refl, ap, sym, subst, ◌∙◌}
use Rattle.half_grid.specs.Lines.{x_on}
use Rattle.active_lines.specs.ActiveLists.{ActiveList, BeginsOn}
use Rattle.active_lines.specs.declared.item.ActiveLine.{ActiveLine}
use Rattle.row_lists.specs.RowLists.{AreAlike}
use Rattle.plane_sweep.specs.Bundles.{added}
use Rattle.plane_sweep.specs.Stops.{IsAt}
use Rattle.plane_sweep.proofs.AlikeHalfway.{alike_at, alike_noted, only_one}
use Rattle.plane_sweep.proofs.CrossPoint.{crossed_noted, same_runs}
use Rattle.plane_sweep.proofs.StopLemmas.{same_at, first_rest, pass_alone}
use Rattle.plane_sweep.proofs.point.pass_line.Goals as goal

pub pass_one-requires : goal.pass_one-requires
pass_one-requires g c =
    let l = c.args.line in
    let noted : ActiveLine = record { line = l.line; windings = c.in_ok-above.above; opened = None } in
    let alike = subst (λ (ls : List ActiveLine). AreAlike ls c.cross_runs.new.front.opened.items) c.in_ok-note_line.ensures.above c.in_ok-runs.ensures.opened in
    let one = only_one noted c.cross_runs.new.front.opened.items alike in
    let after = c.in_ok-runs.ensures.after ∙ (ap (λ (list : ActiveList). list.after) c.in_ok-note_line.ensures.lines
    ∙ first_rest c.args.front.now.lines.after l c.requires.first) in (
      one.0,
      c.as_slice.ensures.value ∙ one.1,
      subst (BeginsOn one.0.line) (sym after) one.2,
    )

pub returns-clause-after : goal.returns-clause-after
returns-clause-after g c =
    let l = c.args.line in
    let same = c.in_ok-runs.ensures.after ∙ ap (λ (list : ActiveList). list.after) c.in_ok-note_line.ensures.lines in
    first_rest c.args.front.now.lines.after l c.requires.first
    ∙ ap (λ (ls : List ActiveLine). l ∷ ls) (sym (c.pass_one.ensures.after ∙ ap (λ (ls : List ActiveLine). drop 1 ls) same))

pub returns-clause-at : goal.returns-clause-at
returns-clause-at g c = λ edges x events is alone.
    let l = c.args.line in
    let y = c.args.level.y in
    let left = c.args.left in
    let old = c.args.front.now.lines in
    let front = c.note_line.new.front in
    let front1 = c.cross_runs.new.front in
    let rest = c.pass_one.new.lines.after in
    let list = front1.lines.before ++ front1.opened.items in
    let w = c.in_ok-above.above in
    let same = c.in_ok-runs.ensures.after ∙ ap (λ (ls : ActiveList). ls.after) c.in_ok-note_line.ensures.lines in
    let split = first_rest old.after l c.requires.first
    ∙ ap (λ (ls : List ActiveLine). l ∷ ls) (sym (c.pass_one.ensures.after ∙ ap (λ (ls : List ActiveLine). drop 1 ls) same)) in
    let here = subst (λ (ls : List ActiveLine). IsAt edges y x left.sides.below left.sides.above old.before ls events) split is in
    let sum = c.in_ok-above.ensures ∙ ap (added left.sides.above) c.in_ok-difference.ensures in
    let alike = alike_noted l w old.before front1.lines.before front1.opened.items
    (subst (λ (ls : List ActiveLine). AreAlike ls front1.lines.before) (ap (λ (ls : ActiveList). ls.before) c.in_ok-note_line.ensures.lines)
    c.in_ok-runs.ensures.alike)
    (subst (λ (ls : List ActiveLine). AreAlike ls front1.opened.items) c.in_ok-note_line.ensures.above c.in_ok-runs.ensures.opened) in
    let over = alike_at edges y (x_on l.line y +ℤ pos 1) l.windings w (old.before ++ (record { line = l.line; windings = w; opened = l.opened }) ∷ [])
    list rest events alike (pass_alone edges y x left.sides.below left.sides.above old.before l rest events here alone w sum) in
    same_at edges y (x_on l.line y +ℤ pos 1) l.windings w list rest c.pass_one.new.lines.before rest events over
    (c.pass_one.ensures.before ∙ ap (λ (ls : List ActiveLine). front1.lines.before ++ ls) c.as_slice.ensures.value) refl

pub returns-clause-runs : goal.returns-clause-runs
returns-clause-runs g c = λ takes edges x events lines test may is alone s.
    let l = c.args.line in
    let y = c.args.level.y in
    let left = c.args.left in
    let old = c.args.front.now in
    let front = c.note_line.new.front in
    let front1 = c.cross_runs.new.front in
    let rest = c.pass_one.new.lines.after in
    let post : ℤ → ℤ → Bool → Type 0 = λ a b r. g.F.Fn.post c.args.rule.now (a, (b, tt)) r in
    let same = c.in_ok-runs.ensures.after ∙ ap (λ (ls : ActiveList). ls.after) c.in_ok-note_line.ensures.lines in
    let split = first_rest old.lines.after l c.requires.first
    ∙ ap (λ (ls : List ActiveLine). l ∷ ls) (sym (c.pass_one.ensures.after ∙ ap (λ (ls : List ActiveLine). drop 1 ls) same)) in
    let before = ap (λ (ls : ActiveList). ls.before) c.in_ok-note_line.ensures.lines in
    let here = same_at edges y x left.sides.below left.sides.above old.lines.before old.lines.after front.lines.before (l ∷ rest) events is before
    (sym split) in
    let so_far = same_runs takes y x lines old.lines.before front.lines.before old.lines.after (l ∷ rest) old.ended.items front.ended.items
    left.sides.below left.sides.below left.runs before (sym split) c.in_ok-note_line.ensures.ended refl s in
    same_runs takes y (x_on l.line y +ℤ pos 1) lines (front1.lines.before ++ front1.opened.items) c.pass_one.new.lines.before rest rest front1.ended.items
    front1.ended.items l.windings l.windings c.in_ok-runs.runs
    (c.pass_one.ensures.before ∙ ap (λ (ls : List ActiveLine). front1.lines.before ++ ls) c.as_slice.ensures.value) refl refl refl
    (crossed_noted takes post edges y x left.sides.below left.sides.above c.in_ok-above.above events lines rest l front front1 left.runs c.in_ok-runs.runs
    test may here alone so_far c.in_ok-note_line.ensures.below c.in_ok-note_line.ensures.above c.in_ok-runs.ensures.runs)
