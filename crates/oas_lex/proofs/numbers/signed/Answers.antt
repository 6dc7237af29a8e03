use Rattle.std.proofs.Common.{◌≡◌, FitsSigned, w64, rules, ap, ◌∙◌, take, drop, ◌-◌}
use Rattle.std.proofs.lemmas.Int.{to_z-of_z}
use Rattle.oas_lex.specs.Numbers.{signed_value, value_of}
use Rattle.oas_lex.proofs.Reading.{has_one, unsigned_of_signed}
use Rattle.oas_lex.proofs.numbers.signed.Goals as goal

pub returns-clause-read : goal.returns-clause-read
returns-clause-read c = λ z next h.
    let fits : FitsSigned w64 c.value_of_code.result = search rules in
    let there = unsigned_of_signed c.args.bytes.now c.args.at z next h in
    let both = has_one c.args.bytes.now c.args.at c.in_ok-code.code c.in_ok-code.next
    (value_of (take (next - c.args.at) (drop c.args.at c.args.bytes.now))) next c.in_ok-code.ensures.ok there in
    let value : c.value_of_code.result ≡ z = c.value_of_code.ensures ∙ (ap signed_value both.0 ∙ h.spells.value) in
    let end = both.1 in
    simp to_z-of_z (cc)
