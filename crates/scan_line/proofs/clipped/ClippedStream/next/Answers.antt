use Rattle.scan_line.proofs.Clipping.{clipped_takes, clipped_ends}
use Rattle.scan_line.proofs.clipped.ClippedStream.next.Goals as goal

pub next-requires : goal.next-requires
next-requires g c = let p = c.loop-edge.invariant.0 c.requires.0 c.requires.1 in (p.edges, p.source)

pub returns-in-Some-part_in-clause-first : goal.returns-in-Some-part_in-clause-first
returns-in-Some-part_in-clause-first g c = λ items p.
    clipped_takes g.S.Stream.stands_for _ _ _ c.in-Some.edge c.in-Some-part_in.part c.in-Some.ensures.first
    c.in-Some-part_in.ensures items (c.loop-edge.invariant.0 items p)

pub returns-in-None-clause-first : goal.returns-in-None-clause-first
returns-in-None-clause-first g c = λ items p.
    clipped_ends g.S.Stream.stands_for _ _ _ c.in-None.ensures.first items (c.loop-edge.invariant.0 items p)
