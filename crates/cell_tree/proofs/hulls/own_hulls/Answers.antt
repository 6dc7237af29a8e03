use Rattle.std.proofs.Common.{◌≡◌, length, subst, arith}
use Rattle.cell_tree.specs.HullTables.{AreFirstHulls}
use Rattle.cell_tree.proofs.CopyLemmas.{hulls_copied}
use Rattle.cell_tree.proofs.hulls.own_hulls.Goals as goal

pub loop-k-preserved : goal.loop-k-preserved
loop-k-preserved c =
    let copies = c.copies_at-copies.result in (
      c.copies_at-copies.ensures.within,
      hulls_copied c.args.shapes.now c.loop-k.k copies.period copies.times c.widen_between.new.hulls.items c.copies_at-copies.ensures
          c.in_ok-widen_between.ensures,
    )

pub returns : goal.returns
returns c =
    let e : c.loop-k.k ≡ length c.args.shapes.now = omega (arith, c.loop-k-test.false, c.len-many.ensures, c.loop-k.invariant.0) in
    subst (λ n. AreFirstHulls c.args.shapes.now n c.loop-k.hulls.items) e c.loop-k.invariant.1
