use Rattle.std.proofs.Common.{None, get_or, arith}
use Rattle.std.proofs.lemmas.Option.{slice_get_within, slice_get-get_or}
use Rattle.cell_tree.proofs.SlotLemmas.{slot_read}
use Rattle.cell_tree.proofs.FactorLemmas.{beyond_more}
use Rattle.cell_tree.proofs.factors.find_enlarging.Goals as goal

pub loop-k-preserved : goal.loop-k-preserved
loop-k-preserved c =
    let k = c.loop-k.k in
    beyond_more c.args.placements.now c.args.targets.now c.args.farthest.now c.args.factor k c.index-placements-k.result (get_or c.args.targets.now k None)
    (slot_read c.args.placements.now k c.index-placements-k.result (omega (arith, c.loop-k-test.true)) c.index-placements-k.is)
    (slice_get-get_or c.args.targets.now k None c.loop-k-test.true) c.in_default.ensures.none c.loop-k.invariant

pub returns-in-Some-clause-some : goal.returns-in-Some-clause-some
returns-in-Some-clause-some c =
    let k = c.loop-k.k in (
      k,
      record {
        placement = c.index-placements-k.result;
        target = get_or c.args.targets.now k None;
        placed = slot_read c.args.placements.now k c.index-placements-k.result (omega (arith, c.loop-k-test.true)) c.index-placements-k.is;
        targeted = slice_get-get_or c.args.targets.now k None c.loop-k-test.true;
        goes = c.in-Some.ensures.some;
      },
    )

pub returns-clause-none : goal.returns-clause-none
returns-clause-none c = λ k far leads. c.loop-k.invariant k far
    (let within = slice_get_within c.args.targets.now k leads.target leads.targeted in omega
    (arith, c.loop-k-test.false)) leads
