use Rattle.std.proofs.Common.{slice_index_or, arith}
use Rattle.std.proofs.lemmas.Option.{slice_get_past, slice_get-get_or}
use Rattle.field_output.specs.StreamLaws.{chain_over, chain_step, chain_size}
use Rattle.field_output.proofs.chain.ChainStream.next.Goals as goal

pub returns-then-self-number-clause-first : goal.returns-then-self-number-clause-first
returns-then-self-number-clause-first c = λ items chain.
    let next = c.args.self.now.next.now in
    chain_over next c.args.self.now.at items (slice_get_past next c.args.self.now.at (omega (arith, c.if-self-number.true))) chain

pub returns-clause-first : goal.returns-clause-first
returns-clause-first c = λ items chain.
    let next = c.args.self.now.next.now in
    let at = c.args.self.now.at in
    chain_step next at (slice_index_or next at 0) items (slice_get-get_or next at 0 (omega (arith, c.if-self-number.false))) chain

pub returns-clause-size : goal.returns-clause-size
returns-clause-size c =
    let next = c.args.self.now.next.now in
    let at = c.args.self.now.at in
    chain_size next at (slice_index_or next at 0) c.requires.0 (slice_get-get_or next at 0 (omega (arith, c.if-self-number.false))) c.requires.1
