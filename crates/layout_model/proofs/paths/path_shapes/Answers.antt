use Rattle.std.proofs.Common.{◌≡◌, ◌<ℤ◌, pos, ap, of_z, w64, FitsSigned, Some, inl, inr}
use Rattle.std.proofs.lemmas.Int.{to_z-of_z}
use Rattle.layout_model.specs.declared.paths.PathBad.TheVariants.{Diagonal, TurnBack, EmptyEnd}
use Rattle.layout_model.specs.Paths.{segments_of}
use Rattle.std.proofs.lemmas.List.Elements.{All-same}
use Rattle.layout_model.specs.declared.shapes.Shape.{Shape}
use Rattle.layout_model.specs.PathLaws.{IsOutline}
use Rattle.layout_model.proofs.NearLemmas.{all_outlines}
use Rattle.layout_model.proofs.DrawLemmas.{near_points}
use Rattle.layout_model.proofs.AreaLemmas.{above_zero, all_tiles}
use Rattle.layout_model.proofs.paths.path_shapes.Goals as goal

pub returns-in-Some-clause-diagonal : goal.returns-in-Some-clause-diagonal
returns-in-Some-clause-diagonal c k =
    let clause = c.in-Some.ensures.diagonal k in (
      λ e. (let same : c.in-Some.bad ≡ Diagonal k = cc in let why = clause.0 (ap Some same) in
          (λ zero. c.if-half-eq0.false (ap (of_z w64) zero), why.0, why.1)),
      λ why. (let same = clause.1 (why.1, why.2) in cc),
    )

pub returns-in-Some-clause-turn_back : goal.returns-in-Some-clause-turn_back
returns-in-Some-clause-turn_back c k =
    let clause = c.in-Some.ensures.turn_back k in (
      λ e. (let same : c.in-Some.bad ≡ TurnBack k = cc in let why = clause.0 (ap Some same) in
          (λ zero. c.if-half-eq0.false (ap (of_z w64) zero), why.0, why.1, why.2)),
      λ why. (let same = clause.1 (why.1, why.2, why.3) in cc),
    )

pub returns-in-Some-clause-empty_end : goal.returns-in-Some-clause-empty_end
returns-in-Some-clause-empty_end c =
    let half : FitsSigned w64 c.args.half = c.ranges.half in
    let begin : FitsSigned w64 c.args.begin = c.ranges.begin in
    let end : FitsSigned w64 c.args.end = c.ranges.end in
    let clause = simp to_z-of_z at c.in-Some.ensures.empty_end in (
      λ e. (let same : c.in-Some.bad ≡ EmptyEnd = cc in let why = clause.0 (ap Some same) in
          (λ zero. c.if-half-eq0.false (ap (of_z w64) zero), why.0, why.1, why.2, why.3)),
      λ why. (let same = clause.1 (why.1, why.2, why.3, why.4) in cc),
    )

pub returns-in-Ok-clause-area : goal.returns-in-Ok-clause-area
returns-in-Ok-clause-area c nonzero =
    let half : FitsSigned w64 c.args.half = c.ranges.half in
    let begin : FitsSigned w64 c.args.begin = c.ranges.begin in
    let end : FitsSigned w64 c.args.end = c.ranges.end in
    let some : pos 0 <ℤ c.args.half = above_zero c.args.half c.requires.half_low nonzero in
    let drawable = simp to_z-of_z at c.in_default.ensures.none in
    all_tiles c.args.half c.args.begin c.args.end (segments_of c.args.points.now) some (λ empty. drawable.ends (inl empty)) (λ empty. drawable.ends (inr empty))

pub returns-in-Ok-clause-outlines : goal.returns-in-Ok-clause-outlines
returns-in-Ok-clause-outlines c =
    let half : FitsSigned w64 c.args.half = c.ranges.half in
    let begin : FitsSigned w64 c.args.begin = c.ranges.begin in
    let end : FitsSigned w64 c.args.end = c.ranges.end in
    let items = simp to_z-of_z at c.in-Ok.ensures in
    All-same (λ (shape : Shape). IsOutline shape.points) c.in-Ok.shapes.items _ items
    (all_outlines c.args.pair c.args.offsets.now c.args.fixed c.args.points.now c.args.half c.args.begin c.args.end
    (near_points c.args.points.now c.requires.points) c.requires.half c.requires.begin c.requires.end)

pub draw-requires-clause-points : goal.draw-requires-clause-points
draw-requires-clause-points c = near_points c.args.points.now c.requires.points
