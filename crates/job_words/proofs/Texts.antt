-- Two words and three, as texts, and the first of some.
use Rattle.std.proofs.Common.{◌≡◌, ◌≢◌, ◌↔◌, ◌++◌, IsTrue, Option, Some, None, Bor, subst, ℕ, List, [], ◌∷◌, length}
use Rattle.std.proofs.Common.{get_or, refl, arith, sym, ap, ◌∙◌, false, nat_eq}
use Rattle.std.proofs.lemmas.List.{append_cancel_left}
use Rattle.std.specs.Option.{MatchOption}
use Rattle.std.specs.Cmp.Lexicographic.{pointwise, bytes_decides}
use Rattle.std.specs.Prelude.{String, string_bytes}
use Rattle.std.specs.declared.alloc.Global.{Global}
use Rattle.job_words.specs.Texts.{texts}
use Rattle.job_words.specs.Words.{IsStripeName, is_stripe_ending}

pub three_texts : (words : List (String Global)) (x y z : String Global) → length words ≡ 3 → x ≡ get_or words 0 x → y ≡ get_or words 1 y → z ≡ get_or words 2 z
    → texts words ≡ string_bytes x ∷ string_bytes y ∷ string_bytes z ∷ []
three_texts [] x y z n ex ey ez = absurd (omega (arith, n))
three_texts (a ∷ []) x y z n ex ey ez = absurd (omega (arith, n))
three_texts (a ∷ b ∷ []) x y z n ex ey ez = absurd (omega (arith, n))
three_texts (a ∷ b ∷ c ∷ []) x y z n ex ey ez =
    let px : a ≡ x = sym ex in
    let py : b ≡ y = sym ey in
    let pz : c ≡ z = sym ez in
    rw (px, py, pz) refl
three_texts (a ∷ b ∷ c ∷ d ∷ rest) x y z n ex ey ez = absurd (omega (arith, n))

pub four_texts : (words : List (String Global)) (v x y z : String Global) → length words ≡ 4 → v ≡ get_or words 0 v
    → x ≡ get_or words 1 x → y ≡ get_or words 2 y → z ≡ get_or words 3 z
    → texts words ≡ string_bytes v ∷ string_bytes x ∷ string_bytes y ∷ string_bytes z ∷ []
four_texts [] v x y z n ev ex ey ez = absurd (omega (arith, n))
four_texts (a ∷ []) v x y z n ev ex ey ez = absurd (omega (arith, n))
four_texts (a ∷ b ∷ []) v x y z n ev ex ey ez = absurd (omega (arith, n))
four_texts (a ∷ b ∷ c ∷ []) v x y z n ev ex ey ez = absurd (omega (arith, n))
four_texts (a ∷ b ∷ c ∷ d ∷ []) v x y z n ev ex ey ez =
    let pv : a ≡ v = sym ev in
    let px : b ≡ x = sym ex in
    let py : c ≡ y = sym ey in
    let pz : d ≡ z = sym ez in
    rw (pv, px, py, pz) refl
four_texts (a ∷ b ∷ c ∷ d ∷ e ∷ rest) v x y z n ev ex ey ez = absurd (omega (arith, n))

pub two_texts : (words : List (String Global)) (x y : String Global) → length words ≡ 2 → x ≡ get_or words 0 x → y ≡ get_or words 1 y
    → texts words ≡ string_bytes x ∷ string_bytes y ∷ []
two_texts [] x y n ex ey = absurd (omega (arith, n))
two_texts (a ∷ []) x y n ex ey = absurd (omega (arith, n))
two_texts (a ∷ b ∷ []) x y n ex ey =
    let px : a ≡ x = sym ex in
    let py : b ≡ y = sym ey in
    rw (px, py) refl
two_texts (a ∷ b ∷ c ∷ rest) x y n ex ey = absurd (omega (arith, n))

pub first_text : (words : List (String Global)) (x : String Global) (w : List ℕ) (rest : List (List ℕ))
    → x ≡ get_or words 0 x → texts words ≡ w ∷ rest → string_bytes x ≡ w
first_text [] x w rest is e = let no : ⊥ = cc in absurd no
first_text (a ∷ more) x w rest is e = ap (λ (y : String Global). string_bytes y) is ∙ ap (λ (t : List (List ℕ)). get_or t 0 []) e

pub other_text : (x y : List ℕ) → pointwise nat_eq x y ≡ false → x ≡ y → ⊥
other_text x y e f = let same = (bytes_decides x y).1 f in let no : ⊥ = cc in no

-- a name that doesn't begin with OUT isn't that of a stripe's file
pub begins_otherwise : (out name : List ℕ) → ((rest : List ℕ) → name ≢ out ++ rest) → IsStripeName out name → ⊥
begins_otherwise out name other s = other s.ending s.is

-- and one that begins with it is where its ending is
pub ends_so : (out name ending : List ℕ) → name ≡ out ++ ending → IsTrue (is_stripe_ending ending) ↔ IsStripeName out name
ends_so out name ending e = (
  λ whole. record { ending = ending; is = e; of_stripe = whole },
  λ s. subst (λ (x : List ℕ). IsTrue (is_stripe_ending x)) (append_cancel_left out s.ending ending (sym s.is ∙ e)) s.of_stripe,
)

-- what a name has after OUT, from the two answers
pub left_of_none : (r : Option (Bor (List ℕ))) (A : Type 0) (B : Bor (List ℕ) → Type 0) → MatchOption r A B → r ≡ None → A
left_of_none None A B h e = h
left_of_none (Some x) A B h e = let no : ⊥ = cc in absurd no

pub left_of_some : (r : Option (Bor (List ℕ))) (A : Type 0) (B : Bor (List ℕ) → Type 0) (x : Bor (List ℕ)) → MatchOption r A B → r ≡ Some x → B x
left_of_some None A B x h e = let no : ⊥ = cc in absurd no
left_of_some (Some y) A B x h e = let same : y ≡ x = cc in subst B same h
