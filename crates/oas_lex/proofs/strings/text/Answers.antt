use Rattle.std.proofs.Common.{refl, inr}
use Rattle.oas_lex.specs.Strings.{HasText, TextFails}
use Rattle.oas_lex.proofs.Readers.{found_ok, fault_ok, found_err, fault_err, refused, text_reader}
use Rattle.oas_lex.proofs.strings.text.Goals as goal

has : (c : goal.In_ok-next) → HasText c.args.bytes.now c.args.at c.in_ok-size.first c.in_ok-next.next
has c = (c.in_ok-size.size, c.in_ok-size.ensures.ok, (c.in_ok-next.ensures.found c.in_ok-next.next).0 refl)

pub returns-clause-found : goal.returns-clause-found
returns-clause-found c = λ first next. found_ok (text_reader c.args.bytes.now c.args.at) _ (c.in_ok-size.first, c.in_ok-next.next) refl (has c) (first, next)

pub returns-clause-fault : goal.returns-clause-fault
returns-clause-fault c = fault_ok (text_reader c.args.bytes.now c.args.at) _ (c.in_ok-size.first, c.in_ok-next.next) refl (has c)

fails : (c : goal.After-from_residual-in_err-next) → TextFails c.args.bytes.now c.args.at c.in_err-next.field-0.0
fails c = inr (c.in_ok-size.size, c.in_ok-size.first, c.in_ok-size.ensures.ok, (c.in_err-next.ensures.fault c.in_err-next.field-0.0).0 refl)

pub returns-in_err-next-clause-found : goal.returns-in_err-next-clause-found
returns-in_err-next-clause-found c = λ first next. found_err
    (text_reader c.args.bytes.now c.args.at) c.from_residual-in_err-next.result c.in_err-next.field-0.0
    (refused _ _ c.from_residual-in_err-next.ensures.0 c.from_residual-in_err-next.ensures.1) (fails c) (first, next)

pub returns-in_err-next-clause-fault : goal.returns-in_err-next-clause-fault
returns-in_err-next-clause-fault c = fault_err
    (text_reader c.args.bytes.now c.args.at) c.from_residual-in_err-next.result c.in_err-next.field-0.0
    (refused _ _ c.from_residual-in_err-next.ensures.0 c.from_residual-in_err-next.ensures.1) (fails c)
