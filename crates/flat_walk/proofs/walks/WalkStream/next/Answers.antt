use Rattle.std.proofs.Common.{◌∙◌, sym, ap, subst, ◌≡◌, ◌≤◌, ◌+◌, ◌++◌, ◌∷◌, [], List, Some, None, All, vec_capacity}
use Rattle.half_grid.specs.Quads.{Corners}
use Rattle.flat_walk.specs.Rests.{Skips, Gives, IsMarkedQuad}
use Rattle.flat_walk.specs.Hands.{own_rest}
use Rattle.flat_walk.specs.Ways.{levels_rest, AreLevels}
use Rattle.flat_walk.specs.Streams.{rest_of, StandsForWalk, walk_size}
use Rattle.flat_walk.proofs.RestLemmas.{skip_on, skip_left, skip_over, skip_quads, marked_left}
use Rattle.flat_walk.proofs.WalkLemmas.{walk_gives, walk_ends, size_falls, walk_enters}
use Rattle.flat_walk.proofs.walks.WalkStream.next.Goals as goal

pub next-requires-clause-quads : goal.next-requires-clause-quads
next-requires-clause-quads c =
    let i = c.loop-quad.invariant in
    subst (λ s. All IsMarkedQuad (own_rest s.pair c.loop-quad.self.own)) (sym i.scene)
    (marked_left (own_rest c.args.self.now.scene.pair c.loop-quad.self.own)
    (levels_rest c.args.self.now.scene c.loop-quad.self.levels.items) i.quads)

pub returns-in-Some-clause-first : goal.returns-in-Some-clause-first
returns-in-Some-clause-first c =
    let i = c.loop-quad.invariant in
    let sc = c.args.self.now.scene in
    let g = subst (λ s. Gives s.window (own_rest s.pair c.loop-quad.self.own) (Some c.in-Some.quad)
    (own_rest s.pair c.next.new.self)) i.scene c.in-Some.ensures.gives in
    let later = levels_rest sc c.loop-quad.self.levels.items in
    let skips = skip_on sc.window (rest_of sc c.args.self.now.own c.args.self.now.levels.items)
    (rest_of sc c.loop-quad.self.own c.loop-quad.self.levels.items)
    (Some c.in-Some.quad ∷ rest_of sc c.next.new.self c.loop-quad.self.levels.items)
    i.skips (skip_left sc.window (own_rest sc.pair c.loop-quad.self.own) (Some c.in-Some.quad ∷ own_rest sc.pair c.next.new.self) later g.0) in
    λ items st. subst (λ s. (others : List Corners) × (items ≡ c.in-Some.quad ∷ others)
    × StandsForWalk s c.next.new.self c.loop-quad.self.levels.items (vec_capacity c.loop-quad.self.levels) others)
    (sym i.scene)
    (walk_gives sc c.args.self.now.own c.next.new.self c.args.self.now.levels.items c.loop-quad.self.levels.items
    (vec_capacity c.args.self.now.levels) (vec_capacity c.loop-quad.self.levels)
    c.in-Some.quad items skips g.1 c.in-Some.ensures.own i.levels i.room st)

pub returns-in-Some-clause-size : goal.returns-in-Some-clause-size
returns-in-Some-clause-size c =
    let i = c.loop-quad.invariant in
    let sc = c.args.self.now.scene in
    let g = subst (λ s. Gives s.window (own_rest s.pair c.loop-quad.self.own) (Some c.in-Some.quad)
    (own_rest s.pair c.next.new.self)) i.scene c.in-Some.ensures.gives in
    let later = levels_rest sc c.loop-quad.self.levels.items in
    let skips = skip_on sc.window (rest_of sc c.args.self.now.own c.args.self.now.levels.items)
    (rest_of sc c.loop-quad.self.own c.loop-quad.self.levels.items)
    (Some c.in-Some.quad ∷ rest_of sc c.next.new.self c.loop-quad.self.levels.items)
    i.skips (skip_left sc.window (own_rest sc.pair c.loop-quad.self.own) (Some c.in-Some.quad ∷ own_rest sc.pair c.next.new.self) later g.0) in
    subst (λ s. walk_size s c.next.new.self c.loop-quad.self.levels.items + 1 ≤ walk_size sc c.args.self.now.own c.args.self.now.levels.items) (sym i.scene)
    (size_falls sc c.args.self.now.own c.next.new.self c.args.self.now.levels.items c.loop-quad.self.levels.items c.in-Some.quad skips g.1)

pub loop-quad-preserved : goal.loop-quad-preserved
loop-quad-preserved c =
    let i = c.loop-quad.invariant in
    let sc = c.args.self.now.scene in
    let before = rest_of sc c.args.self.now.own c.args.self.now.levels.items in
    let over = subst (λ s. Skips s.window (own_rest s.pair c.loop-quad.self.own) []) i.scene c.in_default.ensures.gives.0 in
    let g = subst (λ s. Skips s.window (levels_rest s c.loop-quad.self.levels.items)
    (None ∷ rest_of s c.in-Some-enter.own c.enter.new.levels.items)) i.scene c.in-Some-enter.ensures.gives in
    let skips = walk_enters sc before c.loop-quad.self.own c.in-Some-enter.own c.loop-quad.self.levels.items c.enter.new.levels.items i.skips over g in
    record {
      scene = i.scene;
      own = c.in-Some-enter.ensures.own;
      levels = subst (λ s. AreLevels s 0 c.enter.new.levels.items) i.scene c.in-Some-enter.ensures.levels;
      room = c.in-Some-enter.ensures.room ∙ i.room;
      quads = skip_quads IsMarkedQuad sc.window before (rest_of sc c.in-Some-enter.own c.enter.new.levels.items) skips (c.requires.1).are_quads;
      skips = skips;
    }

pub returns-in-None-clause-first : goal.returns-in-None-clause-first
returns-in-None-clause-first c =
    let i = c.loop-quad.invariant in
    let sc = c.args.self.now.scene in
    let before = rest_of sc c.args.self.now.own c.args.self.now.levels.items in
    let over = subst (λ s. Skips s.window (own_rest s.pair c.loop-quad.self.own) []) i.scene c.in_default.ensures.gives.0 in
    let none = subst (λ s. own_rest s.pair c.next.new.self ≡ []) i.scene c.in_default.ensures.gives.1 in
    let g = subst (λ s. Skips s.window (levels_rest s c.loop-quad.self.levels.items) []) i.scene c.in-None.ensures.gives.0 in
    let left = subst (λ s. levels_rest s c.enter.new.levels.items ≡ []) i.scene c.in-None.ensures.gives.1 in
    let skips = skip_on sc.window before (rest_of sc c.loop-quad.self.own c.loop-quad.self.levels.items) [] i.skips
    (skip_on sc.window (rest_of sc c.loop-quad.self.own c.loop-quad.self.levels.items)
    (levels_rest sc c.loop-quad.self.levels.items) []
    (skip_over sc.window (own_rest sc.pair c.loop-quad.self.own)
    (levels_rest sc c.loop-quad.self.levels.items) over) g) in
    λ items st. subst (λ s. (items ≡ []) × StandsForWalk s c.next.new.self c.enter.new.levels.items (vec_capacity c.enter.new.levels) []) (sym i.scene)
    (walk_ends sc c.args.self.now.own c.next.new.self c.args.self.now.levels.items c.enter.new.levels.items
    (vec_capacity c.args.self.now.levels) (vec_capacity c.enter.new.levels) items skips
    (ap (λ l. l ++ levels_rest sc c.enter.new.levels.items) none ∙ left) c.in_default.ensures.own
    (subst (λ s. AreLevels s 0 c.enter.new.levels.items) i.scene c.in-None.ensures.levels)
    (c.in-None.ensures.room ∙ i.room) st)
