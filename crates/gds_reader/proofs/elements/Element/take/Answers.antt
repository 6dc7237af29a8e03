use Rattle.std.proofs.Common.{rules, ◌≡◌, ℕ, Option, Some, None, refl, subst, sym}
use Rattle.std.specs.Prelude.{IsSome}
use Rattle.layout_model.specs.Names.{IsName}
use Rattle.gds_record.specs.Numbers.{number_at}
use Rattle.gds_reader.specs.Values.{name_in, IsReference, IsGdsiiFactor, IsGdsiiAngle, KeepsAs}
use Rattle.gds_reader.proofs.elements.Element.take.Goals as goal

not_both : (r : Option ℕ) → r ≡ None → IsSome r → ⊥
not_both None e s = absurd (cc)
not_both (Some n) e s = absurd (cc)

pub returns-in-Sname-clause-element : goal.returns-in-Sname-clause-element
returns-in-Sname-clause-element c = λ past wanted e keeps.
    let named : IsName (name_in c.args.bytes.now c.args.current) =
    subst (λ k. (rule : ℕ) → KeepsAs k c.args.bytes.now wanted past c.args.current rule) c.in-Sname.is keeps 2 refl in
    search rules

pub returns-in-None-clause-element : goal.returns-in-None-clause-element
returns-in-None-clause-element c = λ past wanted e keeps.
    let none : IsReference past → ⊥ = λ reference.
    let factor : IsGdsiiFactor (number_at 8 c.args.bytes.now c.args.current.first) =
    subst (λ k. (rule : ℕ) → KeepsAs k c.args.bytes.now wanted past c.args.current rule) c.in-Mag.is keeps 4 refl reference in
    not_both c.factor_of.result c.in-None.is (c.factor_of.ensures.some.1 (subst IsGdsiiFactor (sym c.int8.ensures) factor)) in
    search rules

pub returns-in-None-quarter_turns-clause-element : goal.returns-in-None-quarter_turns-clause-element
returns-in-None-quarter_turns-clause-element c = λ past wanted e keeps.
    let none : IsReference past → ⊥ = λ reference.
    let angle : IsGdsiiAngle (number_at 8 c.args.bytes.now c.args.current.first) =
    subst (λ k. (rule : ℕ) → KeepsAs k c.args.bytes.now wanted past c.args.current rule) c.in-Angle.is keeps 5 refl reference in
    not_both c.quarter_turns.result c.in-None-quarter_turns.is (c.quarter_turns.ensures.some.1 (subst IsGdsiiAngle (sym c.int8-in-Angle.ensures) angle)) in
    search rules
