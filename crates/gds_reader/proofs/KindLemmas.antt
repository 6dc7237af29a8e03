-- Kinds of records as a test.
use Rattle.std.proofs.Common.{◌≡◌, true, Some, refl, sym, ap, ◌∙◌}
use Rattle.gds_record.specs.Heads.{head_of, kind_with_head}
use Rattle.gds_record.specs.declared.kinds.Kind.{Kind}
use Rattle.gds_record.specs.declared.kinds.Kind.TheVariants.{Header}
use Rattle.gds_reader.specs.Past.{same_kind}
use Rattle.std.proofs.lemmas.Bool.{eq-eqb, eqb-true}

kind_again : (kind : Kind) → kind_with_head (head_of kind) ≡ Some kind
unfolding kind_with_head
kind_again kind = elim kind as (λ k. kind_with_head (head_of k) ≡ Some k) [ Header ↦ refl | _ ↦ refl ]

-- two kinds with one head are one
one_head : (a b : Kind) → head_of a ≡ head_of b → a ≡ b
one_head a b h =
    let some : Some a ≡ Some b = sym (kind_again a) ∙ ap kind_with_head h ∙ kind_again b in cc

pub same_kind_is : (a b : Kind) → same_kind a b ≡ true → a ≡ b
same_kind_is a b h = one_head a b (eqb-true (head_of a) (head_of b) h)

pub same_kind_refl : (a : Kind) → same_kind a a ≡ true
same_kind_refl a = eq-eqb (head_of a) (head_of a) refl
