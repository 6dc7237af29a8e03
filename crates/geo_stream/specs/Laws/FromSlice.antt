-- The laws of a slice's stream.
use Rattle.std.proofs.Common.{◌≡◌, ℕ, ◌<◌, ◌≤◌, List, length, ap, sym, ◌∙◌, arith}

pub FromSlice-one_list : {A : Type 0} (items xs ys : List A) → xs ≡ items → ys ≡ items → xs ≡ ys
FromSlice-one_list items xs ys p q = p ∙ sym q

pub FromSlice-no_longer : {A : Type 0} (items xs : List A) → xs ≡ items → length xs ≤ length items
FromSlice-no_longer items xs p = omega (arith, ap length p)

pub FromSlice-bounded : (n most : ℕ) → n < most → n ≤ most
FromSlice-bounded n most h = omega arith
