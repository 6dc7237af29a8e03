use Rattle.std.proofs.Common.{◌≡◌, false, ltb, ◌∙◌, sym, subst, length, refl}
use Rattle.flat_walk.specs.Ways.{level_rest}
use Rattle.flat_walk.proofs.RestLemmas.{skip_on}
use Rattle.flat_walk.proofs.WayLemmas.{level_within, level_with, level_found, level_none, level_onward, level_ends, same_place_on, ltb_no, looked_up}
use Rattle.flat_walk.proofs.levels.Level.next.Goals as goal

pub returns-then-is_some-clause-gives : goal.returns-then-is_some-clause-gives
returns-then-is_some-clause-gives c =
    level_found c.args.scene.now (level_rest c.args.scene.now c.args.self.now) c.loop-found.self c.next_spot-found.new.self c.next_spot-found.result
    c.loop-found.invariant.skips c.next_spot-found.ensures.same c.next_spot-found.ensures.next
    c.next_spot-found.ensures.gives (sym c.is_some.ensures ∙ c.if-is_some.true)

pub placements_of-requires : goal.placements_of-requires
placements_of-requires c = level_within c.args.scene.now c.next_spot-found.new.self c.requires.scene c.next_spot-found.ensures.level

pub returns-in_default-clause-gives : goal.returns-in_default-clause-gives
returns-in_default-clause-gives c =
    let b = c.next_spot-found.new.self in
    level_ends c.args.scene.now (level_rest c.args.scene.now c.args.self.now) b.orient b.at b.cell c.onward-next.result
    (skip_on c.args.scene.now.window _ _ _
    (level_none c.args.scene.now
    (level_rest c.args.scene.now c.args.self.now) c.loop-found.self b c.next_spot-found.result
    c.loop-found.invariant.skips c.next_spot-found.ensures.same c.next_spot-found.ensures.next
    c.next_spot-found.ensures.gives (sym c.is_some.ensures ∙ c.if-is_some.false)) c.onward-next.ensures.skips)
    (ltb_no _ _ (subst (λ l. false ≡ ltb c.onward-next.result (length l)) c.placements_of.ensures c.in_default.ensures.lookup.0))

pub loop-found-preserved : goal.loop-found-preserved
loop-found-preserved c =
    let b = c.next_spot-found.new.self in
    let k = c.onward-next.result in
    let same = same_place_on c.args.self.now c.loop-found.self b c.loop-found.invariant.same c.next_spot-found.ensures.same in
    record {
      level = level_with c.args.scene.now b _ c.next_spot-found.ensures.level
          (record { cell = refl; orient = refl; at = refl; depth = refl }) c.run_of-self.ensures.run;
      skips = level_onward c.args.scene.now (level_rest c.args.scene.now c.args.self.now) b.orient b.at b.cell k c.in-Some.placement.now c.run_of-self.result
          (skip_on c.args.scene.now.window _ _ _
          (level_none c.args.scene.now
          (level_rest c.args.scene.now c.args.self.now) c.loop-found.self b c.next_spot-found.result
          c.loop-found.invariant.skips c.next_spot-found.ensures.same c.next_spot-found.ensures.next
          c.next_spot-found.ensures.gives (sym c.is_some.ensures ∙ c.if-is_some.false)) c.onward-next.ensures.skips)
          (looked_up c.placements_of.result.now _ k c.in-Some.placement.now c.placements_of.ensures
          c.in-Some.ensures.lookup.3.0 c.in-Some.ensures.lookup.1) c.run_of-self.ensures.gives;
      same = record { cell = same.cell; orient = same.orient; at = same.at; depth = same.depth };
    }
