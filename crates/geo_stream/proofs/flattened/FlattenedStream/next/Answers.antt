use Rattle.geo_stream.proofs.Flattening.{taken, turned, turned_size, ended}
use Rattle.geo_stream.proofs.flattened.FlattenedStream.next.Goals as goal

pub next_in_hand-requires : goal.next_in_hand-requires
next_in_hand-requires g c =
    let p = c.loop-item.invariant.0 c.requires.0 c.requires.1 in
    (p.front, p.first)

pub returns-in-Some-clause-first : goal.returns-in-Some-clause-first
returns-in-Some-clause-first g c = λ items p.
    taken g.S.Stream.stands_for g.S.Item.Stream.stands_for _ _ _ c.in-Some.item c.in-Some.ensures.first items (c.loop-item.invariant.0 items p)

pub next-requires : goal.next-requires
next-requires g c =
    let p = c.loop-item.invariant.0 c.requires.0 c.requires.1 in
    (p.streams, p.given)

pub loop-item-preserved-in-Some-next : goal.loop-item-preserved-in-Some-next
loop-item-preserved-in-Some-next g c =
    let invariant = c.loop-item.invariant in
    let gave = c.in-Some-next.ensures.first in (
      λ items p. turned g.S.Stream.stands_for g.S.Item.Stream.stands_for _ _ _ _ c.in-Some-next.stream
          c.in_default.ensures.first gave items (invariant.0 items p),
      turned_size g.S.Stream.stands_for g.S.Item.Stream.stands_for g.S.Stream.size g.met.S.Item.Stream.bounded _ _ _
          c.in-Some-next.stream gave c.in-Some-next.ensures.size c.requires.0
          (invariant.0 c.requires.0 c.requires.1) _ invariant.1,
    )

pub loop-item-preserved : goal.loop-item-preserved
loop-item-preserved g c =
    let invariant = c.loop-item.invariant in
    let gave = c.in-Some-next.ensures.first in (
      λ items p. turned g.S.Stream.stands_for g.S.Item.Stream.stands_for _ _ _ _ c.in-Some-next.stream
          c.in_default.ensures.first gave items (invariant.0 items p),
      turned_size g.S.Stream.stands_for g.S.Item.Stream.stands_for g.S.Stream.size g.met.S.Item.Stream.bounded _ _ _
          c.in-Some-next.stream gave c.in-Some-next.ensures.size c.requires.0
          (invariant.0 c.requires.0 c.requires.1) _ invariant.1,
    )

pub returns-in-None-clause-first : goal.returns-in-None-clause-first
returns-in-None-clause-first g c = λ items p.
    ended g.S.Stream.stands_for g.S.Item.Stream.stands_for _ _ _ _ c.in_default.ensures.first c.in-None.ensures.first items (c.loop-item.invariant.0 items p)
