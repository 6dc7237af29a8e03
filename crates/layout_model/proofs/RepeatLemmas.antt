-- Lists that are given again and again: how long they are, their items by number, their sums.
use Rattle.std.proofs.Common.{ℕ, zero, suc, ◌≡◌, ◌≤◌, ◌<◌, ◌+◌, ◌*◌, ◌/◌, ◌%◌, List, [], ◌∷◌, ◌++◌, length, take, drop, slice_get}
use Rattle.std.proofs.Common.{refl, sym, ap, ◌∙◌, subst, append_assoc, length-append, length-drop, arith}
use Rattle.std.specs.List.{sum_by}
use Rattle.std.proofs.Math.Nat.{lt_of_mul-lt-mul_right}
use Rattle.std.proofs.Math.Seq.{take-add, take-append_seam}
use Rattle.std.proofs.lemmas.Nat.{div-add-mod', mod_below}
use Rattle.std.proofs.lemmas.List.{append-nil, length-take-le}
use Rattle.std.proofs.lemmas.List.Sums.{sum_by-append}
use Rattle.layout_model.specs.declared.shapes.Shape.{Shape}
use Rattle.layout_model.specs.Repeats.{repeated, AreCopies}

-- the item with a number: in what is dropped or taken, and in the first or the second of two lists
pub get_dropped : {A : Type 0} (n : ℕ) (l : List A) (i : ℕ) → slice_get (drop n l) i ≡ slice_get l (n + i)
get_dropped zero l i = ap (slice_get l) (omega arith)
get_dropped (suc n) [] i = refl
get_dropped (suc n) (x ∷ l) i =
    let e : suc (n + i) ≡ suc n + i = omega arith in get_dropped n l i ∙ ap (slice_get (x ∷ l)) e

pub get_taken : {A : Type 0} (n : ℕ) (l : List A) (i : ℕ) → i < n → slice_get (take n l) i ≡ slice_get l i
get_taken zero l i h = absurd (omega arith)
get_taken (suc n) [] i h = refl
get_taken (suc n) (x ∷ l) zero h = refl
get_taken (suc n) (x ∷ l) (suc i) h = get_taken n l i (omega arith)

pub get_left : {A : Type 0} (xs ys : List A) (i : ℕ) → i < length xs → slice_get (xs ++ ys) i ≡ slice_get xs i
get_left [] ys i h = absurd (omega arith)
get_left (x ∷ xs) ys zero h = refl
get_left (x ∷ xs) ys (suc i) h = get_left xs ys i (omega arith)

pub get_right : {A : Type 0} (xs ys : List A) (i k : ℕ) → k ≡ length xs + i → slice_get (xs ++ ys) k ≡ slice_get ys i
get_right [] ys i k e = ap (slice_get ys) (omega arith)
get_right (x ∷ xs) ys i zero e = absurd (omega arith)
get_right (x ∷ xs) ys i (suc k) e = get_right xs ys i k (omega arith)

-- ---- a list so many times

pub given_once : {A : Type 0} (items : List A) → repeated 1 items ≡ items
given_once items = append-nil items

pub repeated_length : {A : Type 0} (times : ℕ) (items : List A) → length (repeated times items) ≡ times * length items
repeated_length zero items = omega arith
repeated_length (suc times) items = length-append items (repeated times items) ∙ omega (arith, repeated_length times items)

-- the items of one time, by their numbers in it
in_time : {A : Type 0} (times : ℕ) (items : List A) (q s : ℕ) → s < length items → q < times
    → slice_get (repeated times items) (q * length items + s) ≡ slice_get items s
in_time zero items q s inside early = absurd (omega arith)
in_time (suc times) items zero s inside early =
    let e : 0 * length items + s ≡ s = omega arith in
    ap (slice_get (items ++ repeated times items)) e ∙ get_left items (repeated times items) s inside
in_time (suc times) items (suc q) s inside early =
    get_right items (repeated times items) (q * length items + s) (suc q * length items + s) (omega arith) ∙ in_time times items q s inside (omega arith)

pub repeated_at : {A : Type 0} (times : ℕ) (items : List A) (j s : ℕ) → s ≡ j % length items → s < length items → j < times * length items
    → slice_get (repeated times items) j ≡ slice_get items s
repeated_at times items j s is inside less =
    let n : ℕ = length items in
    let whole : j / n * n + j % n ≡ j = div-add-mod' j n in
    let place : j / n * n + s ≡ j = omega (arith, whole, is) in
    let early : j / n < times = lt_of_mul-lt-mul_right n (omega (arith, whole)) in
    ap (slice_get (repeated times items)) (sym place) ∙ in_time times items (j / n) s inside early

-- ---- copies

-- shapes that are given once
pub once_alone : (shapes : List Shape) (k period : ℕ) → 0 < period → k + period ≤ length shapes → AreCopies shapes k period 1
once_alone shapes k period some within =
    let e : 1 * period ≡ period = omega arith in
    record {
      some = some;
      once = omega arith;
      within = omega arith;
      is = ap (λ n. take n (drop k shapes)) e ∙ sym (given_once (take period (drop k shapes)));
    }

-- shapes that begin with a list so many times
pub copies_from : (shapes : List Shape) (k times : ℕ) (items : List Shape) (period : ℕ) (rest : List Shape) → period ≡ length items → 0 < period → 0 < times
    → drop k shapes ≡ repeated times items ++ rest → AreCopies shapes k period times
copies_from shapes k zero items period rest many some once e = absurd (omega arith)
copies_from shapes k (suc times) items period rest many some once e =
    let all : suc times * period ≡ length (repeated (suc times) items) =
    ap (λ n. suc times * n) many ∙ sym (repeated_length (suc times) items) in
    let front : take (suc times * period) (drop k shapes) ≡ repeated (suc times) items =
    ap (λ n. take n (drop k shapes)) all ∙ ap (take (length (repeated (suc times) items))) e ∙ take-append_seam (repeated (suc times) items) rest in
    let first : take period (drop k shapes) ≡ items =
    ap (λ n. take n (drop k shapes)) many ∙ ap (take (length items)) (e ∙ append_assoc items (repeated times items) rest)
    ∙ take-append_seam items (repeated times items ++ rest) in
    let sum : length (drop k shapes) ≡ suc times * period + length rest =
    ap length e ∙ length-append (repeated (suc times) items) rest ∙ ap (λ n. n + length rest) (sym all) in
    let more : suc times * period ≡ period + times * period = omega arith in
    record {
      some = some;
      once = once;
      within = omega (arith, sum, length-drop k shapes, more);
      is = front ∙ ap (repeated (suc times)) (sym first);
    }

-- the sum over a list so many times
pub sum_repeated : {A : Type 0} (f : A → ℕ) (times : ℕ) (items : List A) → sum_by f (repeated times items) ≡ times * sum_by f items
sum_repeated f zero items = omega arith
sum_repeated f (suc times) items = sum_by-append f items (repeated times items) ∙ omega (arith, sum_repeated f times items)

-- the shapes with which all copies are the same
pub copied : (shapes : List Shape) (k period times j : ℕ) → AreCopies shapes k period times → j < times * period
    → slice_get shapes (k + j) ≡ slice_get shapes (k + j % period)
copied shapes k period times j is inside =
    let block : List Shape = take period (drop k shapes) in
    let more : period ≤ times * period = at_least times period is.once in
    let long : length block ≡ period = length-take-le period (drop k shapes) (omega (arith, is.within, length-drop k shapes, more)) in
    let small : j % period < period = mod_below j period is.some in
    sym (get_dropped k shapes j) ∙ sym (get_taken (times * period) (drop k shapes) j inside)
    ∙ ap (λ l. slice_get l j) is.is
    ∙ repeated_at times block j (j % period) (ap (λ n. j % n) (sym long)) (omega (arith, long)) (subst (λ n. j < times * n) (sym long) inside)
    ∙ get_taken period (drop k shapes) (j % period) small ∙ get_dropped k shapes (j % period)
  where
    at_least : (times period : ℕ) → 0 < times → period ≤ times * period
    at_least zero period some = absurd (omega arith)
    at_least (suc times) period some = omega arith

-- the sum over copies
pub sum_copied : (f : Shape → ℕ) (shapes : List Shape) (k period times : ℕ) → AreCopies shapes k period times
    → sum_by f (take (k + times * period) shapes) ≡ sum_by f (take k shapes) + times * sum_by f (take period (drop k shapes))
sum_copied f shapes k period times is =
    ap (sum_by f) (take-add k (times * period) shapes) ∙ sum_by-append f (take k shapes) (take (times * period) (drop k shapes))
    ∙ ap (λ n. sum_by f (take k shapes) + n) (ap (sum_by f) is.is ∙ sum_repeated f times (take period (drop k shapes)))
