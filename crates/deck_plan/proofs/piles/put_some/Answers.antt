use Rattle.std.proofs.Common.{◌∙◌, ◌++◌, List, [], ap, arith}
use Rattle.half_grid.specs.Quads.{Corners}
use Rattle.deck_plan.proofs.PileLemmas.{none_put, one_put_more}
use Rattle.deck_plan.proofs.piles.put_some.Goals as goal

pub loop-n-init : goal.loop-n-init
loop-n-init g c = record {
  put = λ list left. none_put (g.S.Stream.stands_for c.args.quads.now) list c.args.edges.now.items left;
  size = omega arith;
}

pub next-requires : goal.next-requires
next-requires g c = let k = c.loop-n.invariant.put c.requires.0 c.requires.1 in (k.1, k.3)

pub loop-n-preserved : goal.loop-n-preserved
loop-n-preserved g c = record {
  put = λ list left.
      one_put_more (g.S.Stream.stands_for c.loop-n.quads) (g.S.Stream.stands_for c.next.new.self) list c.args.edges.now.items c.loop-n.edges.items
      c.put_ring.new.edges.items c.in-Some.quad (λ rest has. c.in-Some.ensures.first rest has) c.in_ok-put_ring-in-Some.ensures
      (c.loop-n.invariant.put list left);
  size = (let step = c.in-Some.ensures.size in let before = c.loop-n.invariant.size in omega (arith, step, before));
}

pub returns-in-None-clause-put : goal.returns-in-None-clause-put
returns-in-None-clause-put g c = λ list left.
    let k = c.loop-n.invariant.put list left in
    let last = c.in-None.ensures.first k.1 k.3 in
    (k.0, [], k.2 ∙ ap (λ (qs : List Corners). k.0 ++ qs) last.0, last.1, k.4)
