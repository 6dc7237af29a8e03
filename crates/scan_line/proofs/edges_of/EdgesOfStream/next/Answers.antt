use Rattle.std.proofs.Common.{◌∙◌, sym, refl, arith}
use Rattle.scan_line.specs.OutlineEdges.{edges_along}
use Rattle.scan_line.proofs.Outlining.{along_none, along_some, near_step}
use Rattle.scan_line.proofs.edges_of.EdgesOfStream.next.Goals as goal

pub loop-point-preserved : goal.loop-point-preserved
loop-point-preserved c =
    let i = c.loop-point.invariant in
    let same = c.in-Some.ensures.cases.0 in
    let shorter = c.in-Some.ensures.cases.1 in
    let before = i.shorter in
    record {
      near = (near_step _ _ _ i.near same).later;
      operand = i.operand;
      edges = along_none _ _ _ _ same c.in_default-first_edge.ensures ∙ i.edges;
      shorter = omega arith;
    }

pub returns-in-Some-first_edge-clause-first : goal.returns-in-Some-first_edge-clause-first
returns-in-Some-first_edge-clause-first c = λ items p.
    (let i = c.loop-point.invariant in
    let same = c.in-Some.ensures.cases.0 in (
      edges_along c.loop-point.self.operand c.in-Some.rest.now,
      p.is
          ∙ (sym i.edges ∙ along_some _ _ _ _ _ same c.in-Some-first_edge.ensures),
      record {
        near =
            (near_step _ _ _ i.near same).later;
        is = refl;
      },
    ))
