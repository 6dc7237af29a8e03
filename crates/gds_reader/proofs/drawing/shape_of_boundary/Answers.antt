use Rattle.std.proofs.Common.{◌≡◌, ◌∙◌, ◌^◌, All, rules, arith, refl, subst, sym}
use Rattle.half_grid.specs.Outlines.{IsClosed, HasGridEdges}
use Rattle.layout_model.specs.Layouts.{AreOffsets, IsWithin}
use Rattle.gds_reader.proofs.drawing.shape_of_boundary.Goals as goal
use Rattle.gds_reader.proofs.DrawLemmas.{slant_lowest, no_rule_hidden}
use Rattle.gds_reader.proofs.GridLemmas.{all_near, origin_offsets}

pub returns-in-Err-Slant-clause-broken : goal.returns-in-Err-Slant-clause-broken
returns-in-Err-Slant-clause-broken c =
    let closed : IsClosed c.args.points.now = search rules in (
      12,
      refl,
      slant_lowest c.args.points.now c.in-Err-Slant.field-0-0 (omega arith) (omega arith) closed
          ((c.new.ensures.slant c.in-Err-Slant.field-0-0).0 (cc)),
    )

pub returns-in-Err-NoMemory-clause-memory : goal.returns-in-Err-NoMemory-clause-memory
returns-in-Err-NoMemory-clause-memory c = λ e rule low.
    let closed : IsClosed c.args.points.now = search rules in
    no_rule_hidden c.args.points.now rule (omega arith) (omega arith) closed (λ k first. absurd (let told = (c.new.ensures.slant k).1 first in cc)) low

pub returns-in-Ok-clause-grid : goal.returns-in-Ok-clause-grid
returns-in-Ok-clause-grid c =
    let points : c.in-Ok.shape.points ≡ c.args.points.now = c.in-Ok.ensures.points in
    let closed : IsClosed c.args.points.now = search rules in
    record {
      closed = subst IsClosed (sym points) closed;
      edges = subst HasGridEdges (sym points) c.in-Ok.ensures.grid;
      near = subst (All (IsWithin (2 ^ 42))) (sym points) (all_near c.args.points.now c.requires.points);
      offsets = subst AreOffsets (sym (c.in-Ok.ensures.offsets ∙ c.in_ok-offsets.ensures.ok)) origin_offsets;
    }
