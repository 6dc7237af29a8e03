use Rattle.std.proofs.Common.{refl, arith}
use Rattle.std.proofs.lemmas.Option.{slice_get_within}
use Rattle.cell_tree.proofs.CopyLemmas.{none_copied}
use Rattle.cell_tree.proofs.factors.has_fixed.Goals as goal

pub loop-k-preserved : goal.loop-k-preserved
loop-k-preserved c =
    let copies = c.copies_at-copies.result in (
      c.copies_at-copies.ensures.within,
      none_copied c.args.shapes.now c.loop-k.k copies.period copies.times c.copies_at-copies.ensures c.loop-k.invariant.1
          (c.if-has_fixed_between.ensures.no refl),
    )

pub returns : goal.returns
returns c = (
  λ never. absurd (cc),
  λ has. absurd (c.loop-k.invariant.1 has.number has.shape (omega arith)
      (omega (arith, slice_get_within c.args.shapes.now has.number has.shape has.here, c.loop-k-test.false, c.len-many.ensures)) has.here has.fixed),
)
