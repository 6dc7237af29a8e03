-- Lists that have an area, from joined lists of tests on tiles.
use Rattle.std.proofs.Common.{◌≡◌, ℕ, zero, suc, ◌≤◌, pos, Bool, true, false, not, ◌⊎◌, inl, inr, List, [], ◌∷◌, count_by, refl, sym, ◌∙◌, arith}
use Rattle.std.proofs.lemmas.Int.{ints, by_lt_z}
use Rattle.std.specs.List.{list_any}
use Rattle.std.specs.Ordering.{int_eq}
use Rattle.half_grid.specs.Trapezoids.{Trapezoid, count_in, trapezoid_has}
use Rattle.half_grid.specs.Windows.{RowRange}
use Rattle.half_grid.specs.declared.plane.Tile.{Tile}
use Rattle.half_grid.proofs.ForCallers.{count_by-cons}
use Rattle.square_size.specs.EdgeLaws.{IsInSome}
use Rattle.bool_ops.specs.declared.operations.Op.{Op}
use Rattle.bool_ops.specs.declared.operations.Op.TheVariants.{Or, And, Sub, Xor}
use Rattle.bool_ops.specs.Operations.{IsInRows, IsJoinedOf, IsInResult, has_tile, takes}
use Rattle.deck_plan.specs.Lists.{HasArea, OfBoth}

abbrev pub Decided : Type 0 → Type 0
Decided P = P ⊎ (P → ⊥)

-- the joined list of tiles that are decided has their area
pub joined_has : (window : RowRange) (P area : Tile → Type 0) (traps : List Trapezoid) → IsJoinedOf window P traps → ((t : Tile) → Decided (P t))
    → ((t : Tile) → P t → IsInRows window t × area t) → ((t : Tile) → IsInRows window t → area t → P t) → HasArea window area traps
joined_has window P area traps joined decided to back = record {
  joined = joined.joined;
  inside = λ t some. elim (decided t) [ inl h ↦ to t h | inr out ↦ (let none = joined.covers.never t out in absurd (omega (arith, some, none))) ];
  all = λ t rows h. (let once = joined.covers.once t (back t rows h) in omega (arith, once));
}

-- the same list for an area of the same tiles in the window
pub same_area : (window : RowRange) (area other : Tile → Type 0) (traps : List Trapezoid)
    → ((t : Tile) → IsInRows window t → area t → other t) → ((t : Tile) → IsInRows window t → other t → area t)
    → HasArea window area traps → HasArea window other traps
same_area window area other traps to back h = record {
  joined = h.joined;
  inside = λ t some. (let i = h.inside t some in (i.0, to t i.0 i.1));
  all = λ t rows o. h.all t rows (back t rows o);
}

not_some : (n : ℕ) → (1 ≤ n → ⊥) → n ≡ 0
not_some zero f = refl
not_some (suc n) f = absurd (f (omega arith))

-- a list with the area covers it exactly
pub covers_exactly : (window : RowRange) (area : Tile → Type 0) (traps : List Trapezoid) → HasArea window area traps
    → IsJoinedOf window (λ t. IsInRows window t × area t) traps
covers_exactly window area traps h = record {
  joined = h.joined;
  covers = record {
    once = λ t a. (let some = h.all t a.0 a.1 in let one = h.joined.apart t in omega (arith, some, one));
    never = λ t out. not_some (count_in traps t) (λ some. out (h.inside t some));
  };
}

pub rows_decided : (window : RowRange) (t : Tile) → Decided (IsInRows window t)
rows_decided window t =
    by_lt_z t.j window.y0
    (λ under. inr (λ h. (let from = h.from in omega (arith, ints, under, from))))
    (λ from. by_lt_z t.j window.y1 (λ below. inl (record { from = from; below = below }))
    (λ over. inr (λ h. (let below = h.below in omega (arith, ints, over, below)))))

-- ---- the operations

by_test : {P : Type 0} (b : Bool) → b ≡ b → (b ≡ true → P) → (b ≡ false → P) → P
by_test true e f g = f refl
by_test false e f g = g refl

false_true : false ≡ true → ⊥
false_true e = grind (arith, e)

positive : (n : ℕ) → not (int_eq (pos n) (pos 0)) ≡ true → 1 ≤ n
positive zero h = absurd (false_true h)
positive (suc n) h = omega arith

zero_only : (n : ℕ) → not (int_eq (pos n) (pos 0)) ≡ false → n ≡ 0
zero_only zero h = refl
zero_only (suc n) h = absurd (grind (arith, ints, h))

has_count : {X : Type 0} (p : X → Bool) (xs : List X) → not (int_eq (pos (count_by p xs)) (pos 0)) ≡ list_any p xs
has_count p [] = refl
has_count p (x ∷ xs) = rw (count_by-cons p x xs) (grind (arith, has_count p xs))

pub has_some : (traps : List Trapezoid) (t : Tile) → has_tile traps t ≡ true → IsInSome traps t
has_some traps t h = positive (count_in traps t) (has_count (trapezoid_has t) traps ∙ h)

pub has_none : (traps : List Trapezoid) (t : Tile) → has_tile traps t ≡ false → IsInSome traps t → ⊥
has_none traps t h some = (let none = zero_only (count_in traps t) (has_count (trapezoid_has t) traps ∙ h) in omega (arith, some, none))

pub some_has : (traps : List Trapezoid) (t : Tile) → IsInSome traps t → has_tile traps t ≡ true
some_has traps t some = by_test (has_tile traps t) refl (λ h. h) (λ h. absurd (has_none traps t h some))

pub none_has : (traps : List Trapezoid) (t : Tile) → (IsInSome traps t → ⊥) → has_tile traps t ≡ false
none_has traps t out = by_test (has_tile traps t) refl (λ h. absurd (out (has_some traps t h))) (λ h. h)

pub some_decided : (traps : List Trapezoid) (t : Tile) → Decided (IsInSome traps t)
some_decided traps t = by_test (has_tile traps t) refl (λ h. inl (has_some traps t h)) (λ h. inr (has_none traps t h))

-- what a test tells
abbrev pub Tells : Bool → Type 0 → Type 0
Tells true P = P
Tells false P = P → ⊥

pub tells_by : (P : Type 0) (b : Bool) → (b ≡ true → P) → (b ≡ false → P → ⊥) → Tells b P
tells_by P true f g = f refl
tells_by P false f g = g refl

tells_some : (traps : List Trapezoid) (t : Tile) → Tells (has_tile traps t) (IsInSome traps t)
tells_some traps t = tells_by (IsInSome traps t) (has_tile traps t) (has_some traps t) (has_none traps t)

-- what an operation takes by two tests
pub taken_of : (op : Op) (P Q : Type 0) (p q : Bool) → Tells p P → Tells q Q → takes op p q ≡ true → OfBoth op P Q
taken_of Or P Q true q e f h = inl e
taken_of Or P Q false true e f h = inr f
taken_of Or P Q false false e f h = absurd (false_true h)
taken_of And P Q true true e f h = (e, f)
taken_of And P Q true false e f h = absurd (false_true h)
taken_of And P Q false q e f h = absurd (false_true h)
taken_of Sub P Q true false e f h = (e, f)
taken_of Sub P Q true true e f h = absurd (false_true h)
taken_of Sub P Q false q e f h = absurd (false_true h)
taken_of Xor P Q true false e f h = inl (e, f)
taken_of Xor P Q true true e f h = absurd (false_true h)
taken_of Xor P Q false true e f h = inr (e, f)
taken_of Xor P Q false false e f h = absurd (false_true h)

pub of_taken : (op : Op) (P Q : Type 0) (p q : Bool) → Tells p P → Tells q Q → OfBoth op P Q → takes op p q ≡ true
of_taken Or P Q true q e f h = refl
of_taken Or P Q false true e f h = refl
of_taken Or P Q false false e f (inl h) = absurd (e h)
of_taken Or P Q false false e f (inr h) = absurd (f h)
of_taken And P Q true true e f h = refl
of_taken And P Q true false e f h = absurd (f h.1)
of_taken And P Q false q e f h = absurd (e h.0)
of_taken Sub P Q true false e f h = refl
of_taken Sub P Q true true e f h = absurd (h.1 f)
of_taken Sub P Q false q e f h = absurd (e h.0)
of_taken Xor P Q true false e f h = refl
of_taken Xor P Q true true e f (inl h) = absurd (h.1 f)
of_taken Xor P Q true true e f (inr h) = absurd (h.0 e)
of_taken Xor P Q false true e f h = refl
of_taken Xor P Q false false e f (inl h) = absurd (e h.0)
of_taken Xor P Q false false e f (inr h) = absurd (f h.1)

-- what holds in the window's rows where a test says so
pub tested : (window : RowRange) (t : Tile) (P : Type 0) (b : Bool) → (IsInRows window t → b ≡ true → P)
    → (P → IsInRows window t) → (P → b ≡ true) → Decided P
tested window t P b make rows says = elim (rows_decided window t) [
  | inl inside ↦ by_test b refl (λ h. inl (make inside h)) (λ h. inr (λ p. false_true (sym h ∙ says p)))
  | inr out ↦ inr (λ p. out (rows p))
]

result_decided : (op : Op) (a b : List Trapezoid) (window : RowRange) (t : Tile) → Decided (IsInResult op a b window t)
result_decided op a b window t = tested window t (IsInResult op a b window t) (takes op (has_tile a t) (has_tile b t))
    (λ rows h. record { rows = rows; taken = h })
    (λ r. r.rows)
    (λ r. r.taken)

-- what is combined of two lists has the tiles that the operation takes
pub combined_has : (op : Op) (a b : List Trapezoid) (window : RowRange) (traps : List Trapezoid) → IsJoinedOf window (IsInResult op a b window) traps
    → HasArea window (λ t. OfBoth op (IsInSome a t) (IsInSome b t)) traps
combined_has op a b window traps joined =
    joined_has window (IsInResult op a b window) (λ t. OfBoth op (IsInSome a t) (IsInSome b t)) traps joined (result_decided op a b window)
    (λ t r. (r.rows, taken_of op (IsInSome a t) (IsInSome b t) (has_tile a t) (has_tile b t) (tells_some a t) (tells_some b t) r.taken))
    (λ t rows h. record {
      rows = rows;
      taken = of_taken op (IsInSome a t) (IsInSome b t) (has_tile a t) (has_tile b t) (tells_some a t) (tells_some b t) h;
    })
