use Rattle.std.proofs.Common.{refl, inl, inr, arith, ap, FitsSigned, w64, rules}
use Rattle.std.proofs.lemmas.Int.{to_z-of_z}
use Rattle.oas_lex.specs.Deltas.{move, HasDeltaG, DeltaGFails}
use Rattle.oas_lex.proofs.Readers.{found_ok, fault_ok, found_err, fault_err, refused, number_fails, delta_g_reader}
use Rattle.oas_lex.proofs.deltas.delta_g.Goals as goal

pub returns-then-code-eq0-clause-found : goal.returns-then-code-eq0-clause-found
returns-then-code-eq0-clause-found c = λ p next. found_ok (delta_g_reader c.args.bytes.now c.args.at) _ (c.towards.result, c.in_ok-code.next) refl
    (inl (c.in_ok-code.code, record { even = c.if-code-eq0.true; spells = c.in_ok-code.ensures.ok; value = c.towards.ensures })) (p, next)

fails : (c : goal.After-from_residual-in_err-y) → DeltaGFails c.args.bytes.now c.args.at c.in_err-y.field-0.0
fails c = inr (
  c.in_ok-code.code,
  c.in_ok-code.next,
  record {
    odd = omega (arith, c.if-code-eq0.false);
    spells = c.in_ok-code.ensures.ok;
    fails = number_fails _ _ _ _ c.in_err-y.ensures.short c.in_err-y.ensures.wide c.in_err-y.ensures.no_real refl;
  },
)

pub returns-in_err-y-clause-found : goal.returns-in_err-y-clause-found
returns-in_err-y-clause-found c = λ p next. found_err
    (delta_g_reader c.args.bytes.now c.args.at) c.from_residual-in_err-y.result c.in_err-y.field-0.0
    (refused _ _ c.from_residual-in_err-y.ensures.0 c.from_residual-in_err-y.ensures.1) (fails c) (p, next)

pub returns-in_err-y-clause-fault : goal.returns-in_err-y-clause-fault
returns-in_err-y-clause-fault c = fault_err
    (delta_g_reader c.args.bytes.now c.args.at) c.from_residual-in_err-y.result c.in_err-y.field-0.0
    (refused _ _ c.from_residual-in_err-y.ensures.0 c.from_residual-in_err-y.ensures.1) (fails c)

has : (c : goal.After-sideways-x) → HasDeltaG c.args.bytes.now c.args.at (move c.sideways-x.result c.in_ok-y.y) c.in_ok-y.end
has c = inr (
  c.in_ok-code.code,
  c.in_ok-code.next,
  c.in_ok-y.y,
  record {
    odd = omega (arith, c.if-code-eq0.false);
    spells = c.in_ok-code.ensures.ok;
    spells_y = c.in_ok-y.ensures.ok;
    value = ap (λ x. move x c.in_ok-y.y) c.sideways-x.ensures;
  },
)

pub returns-clause-found : goal.returns-clause-found
returns-clause-found c =
    let fx : FitsSigned w64 c.sideways-x.result = search rules in
    let fy : FitsSigned w64 c.in_ok-y.y = search rules in
    λ p next. simp to_z-of_z
    (found_ok (delta_g_reader c.args.bytes.now c.args.at) _
    (move c.sideways-x.result c.in_ok-y.y, c.in_ok-y.end) refl (has c) (p, next))

pub returns-clause-fault : goal.returns-clause-fault
returns-clause-fault c =
    let fx : FitsSigned w64 c.sideways-x.result = search rules in
    let fy : FitsSigned w64 c.in_ok-y.y = search rules in
    λ bad. simp to_z-of_z (fault_ok (delta_g_reader c.args.bytes.now c.args.at) _ (move c.sideways-x.result c.in_ok-y.y, c.in_ok-y.end) refl (has c) bad)
