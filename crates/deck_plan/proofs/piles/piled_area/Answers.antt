use Rattle.std.proofs.Common.{◌≡◌, ◌∙◌, ◌++◌, ◌∷◌, List, [], refl, ap, sym, subst, append-nil}
use Rattle.std.proofs.lemmas.List.Elements.{All-nil}
use Rattle.half_grid.specs.Outlines.{HasGridEdges}
use Rattle.half_grid.specs.Quads.{Corners, IsQuad, ring_of}
use Rattle.deck_plan.specs.Lists.{HasArea}
use Rattle.deck_plan.specs.Rings.{IsInSomeQuad}
use Rattle.deck_plan.proofs.PileLemmas.{quads_have, none_are_put, batch_put, batch_all, list_is, more_have}
use Rattle.deck_plan.proofs.Quads.{quads_balanced}
use Rattle.deck_plan.proofs.piles.piled_area.Goals as goal

pub unite-requires : goal.unite-requires
unite-requires g c = quads_balanced [] c.new.result.items c.args.window (All-nil (λ q. HasGridEdges (ring_of q)))
    (none_are_put c.new.result.items c.new.ensures.items)

pub loop-quad-init : goal.loop-quad-init
loop-quad-init g c = λ list left quads. (
  [],
  list,
  refl,
  left,
  quads_have c.args.window [] c.new.result.items (All-nil IsQuad) (none_are_put c.new.result.items c.new.ensures.items) c.in_ok-area.area.items
      c.in_ok-area.ensures,
)

pub next-requires : goal.next-requires
next-requires g c = let k = c.loop-quad.invariant c.requires.0 c.requires.1 c.requires.2 in (k.1, k.3)

pub put_some-requires : goal.put_some-requires
put_some-requires g c =
    let k = c.loop-quad.invariant c.requires.0 c.requires.1 c.requires.2 in
    let first = c.in-Some.ensures.first k.1 k.3 in
    (first.0, first.2)

pub unite-requires-in-Some : goal.unite-requires-in-Some
unite-requires-in-Some g c =
    let k = c.loop-quad.invariant c.requires.0 c.requires.1 c.requires.2 in
    let first = c.in-Some.ensures.first k.1 k.3 in
    let some = c.in_ok-put_some.ensures.put first.0 first.2 in
    quads_balanced (c.in-Some.quad ∷ some.0) c.put_some.new.edges.items c.args.window
    (batch_all c.requires.0 k.0 k.1 first.0 some.0 some.1 c.in-Some.quad k.2 first.1 some.2 (λ q. HasGridEdges (ring_of q)) c.requires.2.1)
    (batch_put c.in-Some.quad some.0 c.new-edges.result.items c.put_ring.new.edges.items c.put_some.new.edges.items c.new-edges.ensures.items
    c.in_ok-put_ring.ensures some.4)

pub loop-quad-preserved : goal.loop-quad-preserved
loop-quad-preserved g c = λ list left quads.
    let k = c.loop-quad.invariant list left quads in
    let first = c.in-Some.ensures.first k.1 k.3 in
    let some = c.in_ok-put_some.ensures.put first.0 first.2 in
    let batch = c.in-Some.quad ∷ some.0 in
    let put = batch_put c.in-Some.quad some.0 c.new-edges.result.items c.put_ring.new.edges.items c.put_some.new.edges.items c.new-edges.ensures.items
    c.in_ok-put_ring.ensures some.4 in
    let now = quads_have c.args.window batch c.put_some.new.edges.items
    (batch_all list k.0 k.1 first.0 some.0 some.1 c.in-Some.quad k.2 first.1 some.2 IsQuad quads.0) put c.in_ok-more.more.items c.in_ok-more.ensures in (
      k.0 ++ batch,
      some.1,
      list_is list k.0 k.1 first.0 some.0 some.1 c.in-Some.quad k.2 first.1 some.2,
      some.3,
      more_have c.args.window k.0 batch c.loop-quad.area.items c.in_ok-more.more.items c.in_ok-area-2.area.items k.4 now
          (rw (c.as_slice.ensures.value, c.as_slice-in-Some.ensures.value) at c.in_ok-area-2.ensures),
    )

pub returns : goal.returns
returns g c = λ list left quads.
    let k = c.loop-quad.invariant list left quads in
    let last = c.in_default.ensures.first k.1 k.3 in
    let whole : list ≡ k.0 = k.2 ∙ ap (λ (qs : List Corners). k.0 ++ qs) last.0 ∙ append-nil k.0 in
    subst (λ (qs : List Corners). HasArea c.args.window (IsInSomeQuad qs) c.loop-quad.area.items) (sym whole) k.4
