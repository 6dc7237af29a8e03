use Rattle.std.proofs.Common.{◌≡◌, List, [], ◌∷◌, ◌++◌, Some, None, refl, ap, sym, subst, ◌∙◌}
use Rattle.half_grid.specs.Trapezoids.{Trapezoid}
use Rattle.active_lines.specs.ActiveLists.{items, first_of}
use Rattle.active_lines.specs.declared.item.ActiveLine.{ActiveLine}
use Rattle.plane_sweep.specs.Lowest.{IsFirstOfAll, open_up_to}
use Rattle.plane_sweep.proofs.LowestSoFar.{open_step, open_end, passed_on, shots_here, shots_after}
use Rattle.plane_sweep.proofs.lowest_tile.lowest_open.Goals as goal

pub loop-line-init : goal.loop-line-init
loop-line-init c =
    let all : items c.rewind.new.self ≡ c.rewind.new.self.after = rw c.rewind.ensures refl in
    record {
      same = refl;
      lowest = λ traps top h. (traps, ap (λ (ls : List ActiveLine). traps ++ open_up_to top ls) all, h);
      shots = rw c.rewind.ensures c.requires;
    }

pub lower_at-requires : goal.lower_at-requires
lower_at-requires c =
    let shots = c.loop-line.invariant.shots in
    let first : first_of c.loop-line.lines.after ≡ Some c.in-Some.line = sym c.first.ensures ∙ c.in-Some.is in
    (shots.0, shots_here shots.0 c.loop-line.lines.after c.in-Some.line first shots.1)

pub loop-line-preserved : goal.loop-line-preserved
loop-line-preserved c =
    let before = c.loop-line.lines.before in
    let after = c.loop-line.lines.after in
    let line = c.in-Some.line in
    let shots = c.loop-line.invariant.shots in
    let first : first_of after ≡ Some line = sym c.first.ensures ∙ c.in-Some.is in
    record {
      same = rw (c.pass.ensures.before, c.pass.ensures.after) (passed_on before after line first ∙ c.loop-line.invariant.same);
      lowest = λ traps top h.
          (let k = c.loop-line.invariant.lowest traps top h in (
            k.0 ++ open_up_to top (line ∷ []),
            k.1
                ∙ (open_step top k.0 after line first
                ∙ ap (λ (ls : List ActiveLine). (k.0 ++ open_up_to top (line ∷ [])) ++ open_up_to top ls) (sym c.pass.ensures.after)),
            c.lower_at.ensures k.0 top k.2,
          ));
      shots = (shots.0, rw c.pass.ensures.after (shots_after shots.0 after line first shots.1));
    }

pub returns-clause-lowest : goal.returns-clause-lowest
returns-clause-lowest c = λ traps top h.
    let k = c.loop-line.invariant.lowest traps top h in
    let none : first_of c.loop-line.lines.after ≡ None = sym c.first.ensures ∙ c.in_default.is in
    let all : items c.rewind.new.self ≡ items c.args.lines.now = rw c.rewind.ensures refl in
    let whole = ap (λ (ls : List ActiveLine). traps ++ open_up_to top ls) (sym all) ∙ (k.1 ∙ open_end top k.0 c.loop-line.lines.after none) in
    subst (λ (zs : List Trapezoid). IsFirstOfAll zs c.loop-line.look.found) (sym whole) k.2
