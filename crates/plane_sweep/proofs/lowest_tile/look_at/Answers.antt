use Rattle.std.proofs.Common.{ℤ, pos, ◌-ℤ◌, ◌+ℤ◌, ◌≤ℤ◌, ◌<ℤ◌, Bool, List, [], length, rules, arith, sym, subst, append-nil}
use Rattle.std.proofs.lemmas.Int.{ints}
use Rattle.half_grid.specs.Trapezoids.{Trapezoid}
use Rattle.scan_line.specs.ClippedEdges.{parts_in}
use Rattle.active_lines.specs.ActiveLists.{items}
use Rattle.plane_sweep.specs.Lowest.{IsFirstOfAll, open_up_to}
use Rattle.plane_sweep.proofs.LowestSoFar.{joined_all, joined_up, open_shots, spot_found, stays, none_more}
use Rattle.plane_sweep.proofs.lowest_tile.look_at.Goals as goal

pub returns-then-y1-progress-clause-found : goal.returns-then-y1-progress-clause-found
returns-then-y1-progress-clause-found g c = λ edges come.
    let post : ℤ → ℤ → Bool → Type 0 = λ a b r. g.F.Fn.post c.args.rule.now (a, (b, tt)) r in
    let p = c.args.progress.now in
    let y : ℤ = p.from.y -ℤ pos 1 in
    let waiting = p.front.waiting.items in
    let lt : p.window.y1 <ℤ p.from.y = search rules in
    spot_found post edges p.window y waiting [] come.high
    (joined_all _ post c.requires.rule (parts_in p.window edges) p.window y (items p.front.lines) p.events waiting come (omega (arith, ints, lt)))
    c.lowest_waiting-found.result
    (subst (λ (zs : List Trapezoid). IsFirstOfAll zs c.lowest_waiting-found.result) (sym (append-nil waiting)) c.lowest_waiting-found.ensures.lowest)

pub returns-then-y1-progress-clause-fewer : goal.returns-then-y1-progress-clause-fewer
returns-then-y1-progress-clause-fewer g c =
    none_more c.args.progress.now.window.y1 _ _ (length c.args.progress.now.front.waiting.items) c.lowest_waiting-found.ensures.none

pub lowest_open-requires : goal.lowest_open-requires
lowest_open-requires g c =
    let p = c.args.progress.now in
    let y : ℤ = p.from.y -ℤ pos 1 in
    let le : p.from.y ≤ℤ p.window.y1 = search rules in
    let k = c.requires.come in (
      y +ℤ pos 1,
      open_shots _ _ c.requires.rule (parts_in p.window k.0) p.window y (items p.front.lines) p.events p.front.waiting.items k.1 (omega (arith, ints, le)),
    )

pub returns-clause-found : goal.returns-clause-found
returns-clause-found g c = λ edges come.
    let post : ℤ → ℤ → Bool → Type 0 = λ a b r. g.F.Fn.post c.args.rule.now (a, (b, tt)) r in
    let p = c.args.progress.now in
    let y : ℤ = p.from.y -ℤ pos 1 in
    let waiting = p.front.waiting.items in
    let le : p.from.y ≤ℤ p.window.y1 = search rules in
    let lt : y <ℤ p.window.y1 = omega (arith, ints, le) in
    spot_found post edges p.window (y +ℤ pos 1) waiting (open_up_to (y +ℤ pos 1) (items p.front.lines)) (omega (arith, ints, le))
    (joined_up _ post c.requires.rule (parts_in p.window edges) p.window y (items p.front.lines) p.events waiting come lt)
    c.lowest_open.result.found (c.lowest_open.ensures.lowest waiting (y +ℤ pos 1) c.lowest_waiting-found.ensures.lowest)

pub returns-clause-none : goal.returns-clause-none
returns-clause-none g c = λ edges come.
    let post : ℤ → ℤ → Bool → Type 0 = λ a b r. g.F.Fn.post c.args.rule.now (a, (b, tt)) r in
    let p = c.args.progress.now in
    let y : ℤ = p.from.y -ℤ pos 1 in
    let waiting = p.front.waiting.items in
    stays post (parts_in p.window edges) p.window y (items p.front.lines) (items c.lowest_open.new.lines) p.events waiting
    c.lowest_waiting-found.new.waiting.items (open_up_to (y +ℤ pos 1) (items p.front.lines)) c.lowest_open.result.found come
    (c.lowest_open.ensures.lowest waiting (y +ℤ pos 1) c.lowest_waiting-found.ensures.lowest) c.lowest_waiting-found.ensures.none c.lowest_open.ensures.same

pub returns-clause-fewer : goal.returns-clause-fewer
returns-clause-fewer g c =
    none_more c.args.progress.now.window.y1 _ _ (length c.args.progress.now.front.waiting.items) c.lowest_waiting-found.ensures.none
