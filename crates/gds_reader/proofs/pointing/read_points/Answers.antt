use Rattle.std.proofs.Common.{◌++◌, ◌∙◌, [], ◌∷◌, arith, sym, ap, subst, length, length-append}
use Rattle.std.specs.Prelude.{All}
use Rattle.gds_reader.specs.Values.{points_from}
use Rattle.std.proofs.lemmas.List.Elements.{All-append, All-cons, All-nil}
use Rattle.gds_reader.specs.Elements.{IsFilePoint}
use Rattle.gds_reader.proofs.pointing.read_points.Goals as goal
use Rattle.gds_reader.proofs.PointLemmas.{points_more}

pub loop-index-preserved : goal.loop-index-preserved
loop-index-preserved c =
    let more = c.in_ok-push.ensures.items in
    let before = c.loop-index.invariant in
    let next = c.point_at.result in
    let one : All IsFilePoint (next ∷ []) = All-cons IsFilePoint next [] c.point_at.ensures.grid (All-nil IsFilePoint) in
    record {
      points =
          more ∙ ap (λ xs. xs ++ next ∷ []) before.points
          ∙ ap (λ p. points_from c.args.bytes.now c.args.current.first c.loop-index.index ++ p ∷ []) c.point_at.ensures.point
          ∙ sym (points_more c.args.bytes.now c.args.current.first c.loop-index.index);
      grid = subst (All IsFilePoint) (sym more) (All-append IsFilePoint c.loop-index.points.items (next ∷ []) before.grid one);
      count = omega (arith, simp length-append at (ap length more), before.count);
    }
