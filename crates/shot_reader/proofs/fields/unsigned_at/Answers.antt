use Rattle.std.proofs.Common.{◌+◌, length, arith}
use Rattle.oas_lex.specs.Spelling.{unsigned_text}
use Rattle.oas_lex.proofs.ForCallers.{has_one}
use Rattle.shot_reader.proofs.Places.{unsigned_there, read_next}
use Rattle.shot_reader.proofs.Shorts.{has_after, short_spelled, spelled_short, short_by}
use Rattle.shot_reader.proofs.fields.unsigned_at.Goals as goal

pub is_short-requires-clause-some : goal.is_short-requires-clause-some
is_short-requires-clause-some c = has_after c.args.bytes.now c.args.at c.in-Ok.value c.in-Ok.next c.in-Ok.ensures.ok

pub returns-then-is_short-clause-spelled : goal.returns-then-is_short-clause-spelled
returns-then-is_short-clause-spelled c = λ within. (
  has_after c.args.bytes.now c.args.at c.in-Ok.value c.in-Ok.next c.in-Ok.ensures.ok,
  short_spelled c.args.bytes.now c.args.at c.in-Ok.value c.in-Ok.next
      (λ i. omega (arith, c.type_inv.bytes i)) c.in-Ok.ensures.ok (c.is_short.ensures.0 c.if-is_short.true),
)

pub returns-then-is_short-clause-read : goal.returns-then-is_short-clause-read
returns-then-is_short-clause-read c = λ n after narrow h e.
    let there = unsigned_there c.args.at n c.args.bytes.now after h narrow e in
    let one = has_one c.args.bytes.now c.args.at c.in-Ok.value c.in-Ok.next n (c.args.at + length (unsigned_text n)) c.in-Ok.ensures.ok there in
    let both = read_next n c.in-Ok.value c.args.at c.in-Ok.next c.args.bytes.now (unsigned_text n) after h e one.0 one.1 in
    (both.0, both.1, c.in-Ok.ensures.ok.within)

pub returns-else-is_short-clause-read : goal.returns-else-is_short-clause-read
returns-else-is_short-clause-read c = λ n after narrow h e.
    let there = unsigned_there c.args.at n c.args.bytes.now after h narrow e in
    let one = has_one c.args.bytes.now c.args.at n (c.args.at + length (unsigned_text n)) c.in-Ok.value c.in-Ok.next there c.in-Ok.ensures.ok in
    let short = c.is_short.ensures.1 (short_by c.args.bytes.now c.args.at _ c.in-Ok.next one.1 (spelled_short c.args.bytes.now after c.args.at n narrow e)) in
    absurd (cc)

pub returns-in-Err-clause-read : goal.returns-in-Err-clause-read
returns-in-Err-clause-read c = λ n after narrow h e.
    let found = c.unsigned.ensures.read n (c.args.at + length (unsigned_text n)) (unsigned_there c.args.at n c.args.bytes.now after h narrow e) in
    absurd (cc)
