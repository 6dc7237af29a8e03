use Rattle.std.proofs.Common.{◌∙◌, sym, ap, subst, arith, ◌+◌, ◌≡◌, [], ◌∷◌, ◌++◌, None, length, length-append}
use Rattle.flat_walk.specs.Rests.{Skips}
use Rattle.flat_walk.specs.Hands.{own_rest}
use Rattle.flat_walk.specs.Ways.{levels_rest, AreLevels}
use Rattle.flat_walk.proofs.WayLemmas.{level_shallow}
use Rattle.flat_walk.proofs.WalkLemmas.{levels_pushed, levels_front, levels_last, enters, leaves}
use Rattle.flat_walk.proofs.walks.enter.Goals as goal

pub next-requires-clause-level : goal.next-requires-clause-level
next-requires-clause-level c =
    (levels_last c.args.scene.now 0 c.pop.new.self.items c.in-Some.level
    (subst (AreLevels c.args.scene.now 0) c.in-Some.ensures.items c.loop-level.invariant.levels)).1

pub push_reserved-requires-in-Some-next : goal.push_reserved-requires-in-Some-next
push_reserved-requires-in-Some-next c =
    let last = (levels_last c.args.scene.now 0 c.pop.new.self.items c.in-Some.level
    (subst (AreLevels c.args.scene.now 0) c.in-Some.ensures.items c.loop-level.invariant.levels)).0 in
    let i = c.in-Some-next.ensures.inner in
    let deep = i.depth in
    let shallow = level_shallow c.args.scene.now c.in-Some-next.inner c.requires.scene i.level in
    let long = c.push_reserved.ensures.len in
    let room = c.push_reserved.ensures.capacity in
    let kept = c.pop.ensures.capacity in
    let before = c.loop-level.invariant.room in
    let ok = c.pop.new.self.ok in
    let most = c.requires.room in
    omega arith

pub returns-in-Some-next-clause-levels : goal.returns-in-Some-next-clause-levels
returns-in-Some-next-clause-levels c =
    let sc = c.args.scene.now in
    let rest = c.pop.new.self.items in
    let all = subst (AreLevels sc 0) c.in-Some.ensures.items c.loop-level.invariant.levels in
    let last = (levels_last sc 0 rest c.in-Some.level all).0 in
    let n = c.in-Some-next.ensures in
    let i = n.inner in
    let two = levels_pushed sc 0 rest c.next.new.self (levels_front sc 0 rest c.in-Some.level all) (n.same.depth ∙ last) n.level in
    let longer = length-append rest (c.next.new.self ∷ []) in
    let three = levels_pushed sc 0 (rest ++ c.next.new.self ∷ []) c.in-Some-next.inner two
    (i.depth ∙ (ap (λ d. d + 1) last
    ∙ (let z : (0 + length rest) + 1 ≡ 0 + length (rest ++ c.next.new.self ∷ []) = omega (arith, longer) in
    z))) i.level in
    subst (AreLevels sc 0) (sym (c.push_reserved-in-Some-next.ensures.items ∙ ap (λ l. l ++ c.in-Some-next.inner ∷ []) c.push_reserved.ensures.items)) three

pub returns-in-Some-next-clause-gives : goal.returns-in-Some-next-clause-gives
returns-in-Some-next-clause-gives c =
    let sc = c.args.scene.now in
    let before = levels_rest sc c.args.levels.now.items in
    let rest = c.pop.new.self.items in
    let n = c.in-Some-next.ensures in
    subst (λ l. Skips sc.window before (None ∷ (own_rest sc.pair c.own_of-own.result ++ levels_rest sc l)))
    (sym (c.push_reserved-in-Some-next.ensures.items ∙ ap
    (λ l. l ++ c.in-Some-next.inner ∷ []) c.push_reserved.ensures.items))
    (enters sc before rest c.in-Some.level c.next.new.self c.in-Some-next.inner (own_rest sc.pair c.own_of-own.result) c.requires.scene
    (subst (λ l. Skips sc.window before (levels_rest sc l)) c.in-Some.ensures.items c.loop-level.invariant.skips) n.gives n.inner c.own_of-own.ensures.list)

pub loop-level-preserved : goal.loop-level-preserved
loop-level-preserved c =
    let sc = c.args.scene.now in
    let rest = c.pop.new.self.items in
    record {
      levels = levels_front sc 0 rest c.in-Some.level (subst (AreLevels sc 0) c.in-Some.ensures.items c.loop-level.invariant.levels);
      room = c.pop.ensures.capacity ∙ c.loop-level.invariant.room;
      skips = leaves sc (levels_rest sc c.args.levels.now.items) rest c.in-Some.level
          (subst (λ l. Skips sc.window (levels_rest sc c.args.levels.now.items) (levels_rest sc l))
          c.in-Some.ensures.items c.loop-level.invariant.skips) c.in_default-next.ensures.gives;
    }
