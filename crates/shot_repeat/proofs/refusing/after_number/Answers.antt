use Rattle.std.proofs.Common.{refl, arith, get_or}
use Rattle.shot_repeat.proofs.Numbers.{gone_last, gone_more, no_number}
use Rattle.shot_repeat.proofs.refusing.after_number.Goals as goal

pub returns-then-byte-lt128-clause-some : goal.returns-then-byte-lt128-clause-some
returns-then-byte-lt128-clause-some c =
    gone_last c.args.bytes.now c.args.at c.loop-next.next
    (get_or c.args.bytes.now c.loop-next.next 0) c.loop-next.invariant (omega (arith, c.loop-next-test.true)) refl
    (omega (arith, c.if-byte-lt128.true))

pub loop-next-preserved : goal.loop-next-preserved
loop-next-preserved c =
    gone_more c.args.bytes.now c.args.at c.loop-next.next
    (get_or c.args.bytes.now c.loop-next.next 0) c.loop-next.invariant (omega (arith, c.loop-next-test.true)) refl
    (omega (arith, c.if-byte-lt128.false))

pub returns-clause-all : goal.returns-clause-all
returns-clause-all c = λ number after n e.
    absurd (no_number c.args.bytes.now c.args.at c.loop-next.next number after c.loop-next.invariant (omega (arith, c.loop-next-test.false)) n e)
