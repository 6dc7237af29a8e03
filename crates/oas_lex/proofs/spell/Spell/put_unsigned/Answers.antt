use Rattle.std.proofs.Common.{arith}
use Rattle.oas_lex.proofs.PutUnsigned.{put_none, put_room}
use Rattle.oas_lex.proofs.spell.Spell.put_unsigned.Goals as goal

pub loop-left-init : goal.loop-left-init
loop-left-init c = put_none c.args.self.now c.args.value c.requires.narrow

pub push-requires : goal.push-requires
push-requires c =
    omega (arith, put_room c.args.self.now c.args.value c.loop-left.self c.loop-left.left c.loop-left.invariant c.requires.narrow)

pub push-requires-2 : goal.push-requires-2
push-requires-2 c =
    omega (arith, put_room c.args.self.now c.args.value c.loop-left.self c.loop-left.left c.loop-left.invariant c.requires.narrow)

pub returns-clause-size : goal.returns-clause-size
returns-clause-size c =
    omega (arith, put_room c.args.self.now c.args.value c.loop-left.self c.loop-left.left c.loop-left.invariant c.requires.narrow)
