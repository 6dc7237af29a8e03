-- Where no edge is the first that isn't on the grid, all edges are on it.
use Rattle.std.proofs.Common.{◌≡◌, ◌+◌, ◌*◌, ◌≤◌, ℕ, zero, suc, Bool, true, false, ℤ, pos, negsuc, ◌&&◌, List}
use Rattle.std.proofs.Common.{length, get_or, refl, sym, subst, ◌∙◌, inl, inr, arith}
use Rattle.std.specs.Prelude.{◌+ℤ◌, ◌-ℤ◌}
use Rattle.std.specs.List.{AllWithin}
use Rattle.std.specs.Ordering.{int_eq}
use borrow.Author.Differences.{up, down}
use Rattle.std.proofs.lemmas.Bool.{cases_lt}
use Rattle.std.proofs.lemmas.Bool.Decides.{nat_tests}
use Rattle.std.proofs.lemmas.Int.{ints}
use Rattle.std.proofs.lemmas.List.{get_or_default}
use Rattle.half_grid.specs.Halves.{half, twice, is_even}
use Rattle.half_grid.specs.Lines.{share_rising, share_falling}
use Rattle.half_grid.specs.Outlines.{IsOnGrid, HasGridEdges}
use Rattle.half_grid.specs.Winding.{edges_of}
use Rattle.half_grid.specs.declared.plane.Line.TheVariants.{Upright, Rising, Falling}
use Rattle.half_grid.specs.declared.plane.Point.{Point}
use Rattle.half_grid.proofs.ForCallers.{int_eq_true, int_eq_false, int_eq_same}
use Rattle.layout_model.specs.Slants.{IsFirstSlant}

half_even : (z : ℤ) → is_even z ≡ true → up z + 2 * down (half z) ≡ down z + 2 * up (half z)
half_even (pos n) e = grind (arith, nat_tests)
half_even (negsuc n) e = grind (arith, nat_tests)

even_twice : (c : ℤ) → is_even (twice c) ≡ true
even_twice (pos n) = grind (arith, ints)
even_twice (negsuc n) = grind (arith, ints)

both : (p q : Bool) → p && q ≡ true → (p ≡ true) × (q ≡ true)
both true q h = (refl, h)
both false q h = absurd (let no : ⊥ = cc in no)

no_clash : (b : Bool) → b ≡ false → b ≡ true → ⊥
no_clash b h k = absurd (let no : ⊥ = cc in no)

-- two differences, or sums, that are equal to twice a number
shared : (m n c : ℤ) → m ≡ twice c → n ≡ twice c → is_even m && int_eq m n ≡ true
shared m n c e f =
    let even : is_even m ≡ true = subst (λ z. is_even z ≡ true) (sym e) (even_twice c) in
    let same : int_eq m n ≡ true = int_eq_same m n (e ∙ sym f) in
    rw (even, same) refl

off_grid : (a b : Point) → int_eq a.y b.y ≡ false → int_eq a.x b.x ≡ false → share_rising a b ≡ false → share_falling a b ≡ false
    → IsOnGrid (a, b) → ⊥
off_grid a b ey ex er ef (inl level) = int_eq_false _ _ ey level
off_grid a b ey ex er ef (inr (Upright c, p, q)) = int_eq_false _ _ ex (p ∙ sym q)
off_grid a b ey ex er ef (inr (Rising c, p, q)) =
    no_clash _ er (shared (a.x -ℤ a.y) (b.x -ℤ b.y) c (omega (arith, ints, p)) (omega (arith, ints, q)))
off_grid a b ey ex er ef (inr (Falling c, p, q)) =
    no_clash _ ef (shared (a.x +ℤ a.y) (b.x +ℤ b.y) c (omega (arith, ints, p)) (omega (arith, ints, q)))

decided : (ty tx tr tf : Bool) (a b : Point) → int_eq a.y b.y ≡ ty → int_eq a.x b.x ≡ tx → share_rising a b ≡ tr → share_falling a b ≡ tf
    → ((IsOnGrid (a, b) → ⊥) → ⊥) → IsOnGrid (a, b)
decided true tx tr tf a b ey ex er ef h = inl (int_eq_true _ _ ey)
decided false true tr tf a b ey ex er ef h = inr (Upright a.x, refl, sym (int_eq_true _ _ ex))
decided false false true tf a b ey ex er ef h =
    let p = both (is_even (a.x -ℤ a.y)) (int_eq (a.x -ℤ a.y) (b.x -ℤ b.y)) er in
    let e : a.x -ℤ a.y ≡ b.x -ℤ b.y = int_eq_true _ _ p.1 in
    inr (Rising (half (a.x -ℤ a.y)), omega (arith, ints, half_even (a.x -ℤ a.y) p.0), omega (arith, ints, half_even (a.x -ℤ a.y) p.0, e))
decided false false false true a b ey ex er ef h =
    let p = both (is_even (a.x +ℤ a.y)) (int_eq (a.x +ℤ a.y) (b.x +ℤ b.y)) ef in
    let e : a.x +ℤ a.y ≡ b.x +ℤ b.y = int_eq_true _ _ p.1 in
    inr (Falling (half (a.x +ℤ a.y)), omega (arith, ints, half_even (a.x +ℤ a.y) p.0), omega (arith, ints, half_even (a.x +ℤ a.y) p.0, e))
decided false false false false a b ey ex er ef h = absurd (h (off_grid a b ey ex er ef))

-- an edge that can't be off the grid is on it
on_grid : (edge : Point × Point) → ((IsOnGrid edge → ⊥) → ⊥) → IsOnGrid edge
on_grid (a, b) h = decided _ _ _ _ a b refl refl refl refl h

-- the first n edges are on the grid
front_on_grid : (points : List Point) → ((k : ℕ) → IsFirstSlant points k → ⊥) → (n : ℕ) → n ≤ length (edges_of points)
    → AllWithin IsOnGrid (edges_of points) 0 n
front_on_grid points none zero le = λ j d low high. absurd (omega arith)
front_on_grid points none (suc n) le = λ j d low high.
    let before = front_on_grid points none n (omega arith) in
    elim (cases_lt j n) [
      | inl less ↦ before j d low less
      | inr more ↦
          let same : n ≡ j = omega arith in
          subst (λ i. IsOnGrid (get_or (edges_of points) i d)) same
          (on_grid (get_or (edges_of points) n d) (λ off.
          none n (record {
            inside = omega arith;
            on_grid = before;
            slanted = λ e on. off (subst IsOnGrid (get_or_default (edges_of points) n e d (omega arith)) on);
          })))
    ]

pub no_slant : (points : List Point) → ((k : ℕ) → IsFirstSlant points k → ⊥) → HasGridEdges points
no_slant points none j d lt = front_on_grid points none (length (edges_of points)) (omega arith) j d (omega arith) lt
