-- The tiles of a frame, each once, and the count of a window.
use Rattle.std.proofs.Common.{ℕ, zero, suc, ◌+◌, ◌≤◌, ◌≡◌, ◌↔◌, Bool, true, false, cond, ◌&&◌, nat_eq, ℤ, pos, ◌+ℤ◌}
use Rattle.std.proofs.Common.{◌-ℤ◌, ◌≤ℤ◌, ◌<ℤ◌, List, [], ◌∷◌, ◌++◌, sum_by, count_by, length, arith, refl, ap, ◌∙◌}
use Rattle.std.proofs.Common.{sym}
use Rattle.std.proofs.lemmas.Int.{ints, by_lt_z}
use Rattle.std.proofs.lemmas.Bool.Decides.{nat_tests}
use Rattle.std.proofs.lemmas.List.Sums.{sum_by-cons, sum_by_push, sum_by-append}
use Rattle.std.specs.Ordering.{int_eq}
use Rattle.half_grid.specs.Sizes.{is_tile, is_same_side}
use Rattle.half_grid.specs.Trapezoids.{Trapezoid, count_in}
use Rattle.half_grid.specs.declared.plane.Side.{Side}
use Rattle.half_grid.specs.declared.plane.Side.TheVariants.{Left, Right}
use Rattle.half_grid.specs.declared.plane.Tile.{Tile}
use Rattle.half_grid.proofs.ForCallers.{int_eq_true, int_eq_same}
use Rattle.density_map.specs.Frames.{IsInFrame, natural, row_tiles, rows_tiles, frame_tiles, count_in_frame}
use Rattle.density_map.specs.Windows.{IsTakenInWindow, IsWindowCount, window, window_sum}
use Rattle.density_map.specs.Rows.{AreApart}
use Rattle.density_map.specs.Laws.{EachTileOnce, NoOtherTile, SumIsCount, OneMore}
use Rattle.density_map.proofs.Numbers.{natural_is, natural_none}
use Rattle.density_map.proofs.RowLemmas.{bit}
use Rattle.density_map.proofs.SumLemmas.{window_sum_is}

-- ---- tiles, one by one

both : (a b : Bool) → (a && b) ≡ true → (a ≡ true) × (b ≡ true)
both true true e = (refl, refl)
both true false e = absurd cc
both false b e = absurd cc

same_side : (a b : Side) → is_same_side a b ≡ true → a ≡ b
same_side Left Left e = refl
same_side Left Right e = absurd cc
same_side Right Left e = absurd cc
same_side Right Right e = refl

pub same_tile : (t u : Tile) → is_tile t u ≡ true → t ≡ u
same_tile t u e =
    let p = both (int_eq t.i u.i) (int_eq t.j u.j && is_same_side t.side u.side) e in
    let q = both (int_eq t.j u.j) (is_same_side t.side u.side) p.1 in
    let i = int_eq_true t.i u.i p.0 in
    let j = int_eq_true t.j u.j q.0 in
    let side = same_side t.side u.side q.1 in
    ap (λ (x : ℤ). record { i = x; j = t.j; side = t.side }) i
    ∙ (ap (λ (x : ℤ). record { i = u.i; j = x; side = t.side }) j ∙ ap
    (λ (x : Side). record { i = u.i; j = u.j; side = x }) side)

not_one : (b : Bool) → (b ≡ true → ⊥) → bit b ≡ 0
not_one true h = absurd (h refl)
not_one false h = refl

one_of_two : (t : Tile) (i j : ℤ) → t.i ≡ i → t.j ≡ j → bit (is_tile t (record { i = i; j = j; side = Left })) + bit
    (is_tile t (record { i = i; j = j; side = Right })) ≡ 1
one_of_two t i j e f = rw (int_eq_same t.i i e, int_eq_same t.j j f) (by t.side)
  where
    by : (s : Side) → bit (is_same_side s Left) + bit (is_same_side s Right) ≡ 1
    by Left = refl
    by Right = refl

two_more : (t u v : Tile) (ts : List Tile) → count_by (is_tile t) (u ∷ v ∷ ts) ≡ bit (is_tile t u) + (bit (is_tile t v) + count_by (is_tile t) ts)
two_more t u v ts = sum_by-cons (λ (w : Tile). bit (is_tile t w)) u (v ∷ ts) ∙ ap (λ (n : ℕ). bit (is_tile t u) + n)
    (sum_by-cons (λ (w : Tile). bit (is_tile t w)) v ts)

row_never : (t : Tile) (i j : ℤ) (k : ℕ) → (t.j ≡ j → i ≤ℤ t.i → t.i <ℤ (i +ℤ pos k) → ⊥) → count_by (is_tile t) (row_tiles i j k) ≡ 0
row_never t i j zero out = refl
row_never t i j (suc k) out =
    let u : Tile = record { i = i; j = j; side = Left } in
    let v : Tile = record { i = i; j = j; side = Right } in
    let first = not_one (is_tile t u)
    (λ e. (let s = same_tile t u e in let x : t.i ≡ i = ap (λ (w : Tile). w.i) s in out
    (ap (λ (w : Tile). w.j) s) (omega (arith, ints, x)) (omega (arith, ints, x)))) in
    let second = not_one (is_tile t v)
    (λ e. (let s = same_tile t v e in let x : t.i ≡ i = ap (λ (w : Tile). w.i) s in out
    (ap (λ (w : Tile). w.j) s) (omega (arith, ints, x)) (omega (arith, ints, x)))) in
    let rest = row_never t (i +ℤ pos 1) j k (λ e low high. out e (omega (arith, ints, low)) (omega (arith, ints, high))) in
    let all = two_more t u v (row_tiles (i +ℤ pos 1) j k) in
    omega (arith, first, second, rest, all)

row_once : (t : Tile) (i j : ℤ) (k : ℕ) → t.j ≡ j → i ≤ℤ t.i → t.i <ℤ (i +ℤ pos k) → count_by (is_tile t) (row_tiles i j k) ≡ 1
row_once t i j zero e low high = absurd (omega (arith, ints, low, high))
row_once t i j (suc k) e low high =
    let u : Tile = record { i = i; j = j; side = Left } in
    let v : Tile = record { i = i; j = j; side = Right } in
    let all = two_more t u v (row_tiles (i +ℤ pos 1) j k) in
    by_lt_z i t.i
    (λ less. (
    let first = not_one (is_tile t u) (λ h. (let x : t.i ≡ i = ap (λ (w : Tile). w.i) (same_tile t u h) in omega (arith, ints, x, less))) in
    let second = not_one (is_tile t v) (λ h. (let x : t.i ≡ i = ap (λ (w : Tile). w.i) (same_tile t v h) in omega (arith, ints, x, less))) in
    let rest = row_once t (i +ℤ pos 1) j k e (omega (arith, ints, less)) (omega (arith, ints, high)) in
    omega (arith, first, second, rest, all)
    ))
    (λ more. (
    let x : t.i ≡ i = omega (arith, ints, low, more) in
    let here = one_of_two t i j x e in
    let rest = row_never t (i +ℤ pos 1) j k (λ f l h. omega (arith, ints, x, l)) in
    omega (arith, here, rest, all)
    ))

rows_never : (t : Tile) (i j : ℤ) (k n : ℕ) → (i ≤ℤ t.i → t.i <ℤ (i +ℤ pos k) → j ≤ℤ t.j → t.j <ℤ (j +ℤ pos n) → ⊥)
    → count_by (is_tile t) (rows_tiles i k j n) ≡ 0
rows_never t i j k zero out = refl
rows_never t i j k (suc n) out =
    let here = row_never t i j k (λ e low high. out low high (omega (arith, ints, e)) (omega (arith, ints, e))) in
    let rest = rows_never t i (j +ℤ pos 1) k n (λ low high from under. out low high (omega (arith, ints, from)) (omega (arith, ints, under))) in
    let sum = sum_by-append (λ (w : Tile). bit (is_tile t w)) (row_tiles i j k) (rows_tiles i k (j +ℤ pos 1) n) in
    omega (arith, here, rest, sum)

rows_once : (t : Tile) (i j : ℤ) (k n : ℕ) → i ≤ℤ t.i → t.i <ℤ (i +ℤ pos k) → j ≤ℤ t.j → t.j <ℤ (j +ℤ pos n) → count_by (is_tile t) (rows_tiles i k j n) ≡ 1
rows_once t i j k zero low high from under = absurd (omega (arith, ints, from, under))
rows_once t i j k (suc n) low high from under =
    let sum = sum_by-append (λ (w : Tile). bit (is_tile t w)) (row_tiles i j k) (rows_tiles i k (j +ℤ pos 1) n) in
    by_lt_z j t.j
    (λ less. (
    let here = row_never t i j k (λ e l h. omega (arith, ints, e, less)) in
    let rest = rows_once t i (j +ℤ pos 1) k n low high (omega (arith, ints, less)) (omega (arith, ints, under)) in
    omega (arith, here, rest, sum)
    ))
    (λ more. (
    let e : t.j ≡ j = omega (arith, ints, from, more) in
    let here = row_once t i j k e low high in
    let rest = rows_never t i (j +ℤ pos 1) k n (λ l h f u. omega (arith, ints, e, f)) in
    omega (arith, here, rest, sum)
    ))

-- a number from a up to below b, where there is one, is below a and the natural number of what lies between
up_to : (x a b : ℤ) → a ≤ℤ x → x <ℤ b → x <ℤ (a +ℤ pos (natural (b -ℤ a)))
up_to x a b low high = let n = natural_is (b -ℤ a) (omega (arith, ints, low, high)) in omega (arith, ints, n, high)

back_to : (x a b : ℤ) → a ≤ℤ x → x <ℤ (a +ℤ pos (natural (b -ℤ a))) → x <ℤ b
back_to x a b low high =
    by_lt_z a b
    (λ less. (let n = natural_is (b -ℤ a) (omega (arith, ints, less)) in omega (arith, ints, n, high)))
    (λ more. absurd (let n = natural_none (b -ℤ a) (omega (arith, ints, more)) in omega (arith, ints, n, high, low)))

pub each_once : EachTileOnce
unfolding frame_tiles
each_once f t h =
    rows_once t f.x0 f.y0 (natural (f.x1 -ℤ f.x0)) (natural (f.y1 -ℤ f.y0)) h.from_left
    (up_to t.i f.x0 f.x1 h.from_left h.below_right) h.above_bottom (up_to t.j f.y0 f.y1 h.above_bottom h.below_top)

pub no_other : NoOtherTile
unfolding frame_tiles
no_other f t out =
    rows_never t f.x0 f.y0 (natural (f.x1 -ℤ f.x0)) (natural (f.y1 -ℤ f.y0))
    (λ low high from under. out
    (record {
      from_left = low;
      below_right = back_to t.i f.x0 f.x1 low high;
      above_bottom = from;
      below_top =
          back_to t.j f.y0 f.y1 from under;
    }))

-- ---- the tiles of a list that pass a test

abbrev kept : (Tile → Bool) → List Tile → List Tile
kept p [] = []
kept p (t ∷ ts) = cond (p t) (t ∷ kept p ts) (kept p ts)

kept_length_by : (p : Tile → Bool) (t : Tile) (ts : List Tile) (b : Bool) → length (kept p ts) ≡ count_by p ts
    → length (cond b (t ∷ kept p ts) (kept p ts)) ≡ bit b + count_by p ts
kept_length_by p t ts true h = omega (arith, h)
kept_length_by p t ts false h = omega (arith, h)

kept_length : (p : Tile → Bool) (ts : List Tile) → length (kept p ts) ≡ count_by p ts
kept_length p [] = refl
kept_length p (t ∷ ts) = kept_length_by p t ts (p t) (kept_length p ts) ∙ sym (sum_by-cons (λ (u : Tile). bit (p u)) t ts)

kept_all_by : (p : Tile → Bool) (t u : Tile) (ts : List Tile) (b : Bool) → p t ≡ true → p u ≡ b → count_by (is_tile t) (kept p ts) ≡ count_by (is_tile t) ts
    → count_by (is_tile t) (cond b (u ∷ kept p ts) (kept p ts)) ≡ bit (is_tile t u) + count_by (is_tile t) ts
kept_all_by p t u ts true pass e rest = let one = sum_by-cons (λ (w : Tile). bit (is_tile t w)) u (kept p ts) in omega (arith, one, rest)
kept_all_by p t u ts false pass e rest =
    let here = not_one (is_tile t u) (λ s. (let f = ap p (same_tile t u s) in let clash : ⊥ = cc in clash)) in
    omega (arith, here, rest)

-- a tile that passes stands among them as often as in the list
kept_all : (p : Tile → Bool) (t : Tile) (ts : List Tile) → p t ≡ true → count_by (is_tile t) (kept p ts) ≡ count_by (is_tile t) ts
kept_all p t [] pass = refl
kept_all p t (u ∷ ts) pass = kept_all_by p t u ts (p u) pass refl (kept_all p t ts pass) ∙ sym (sum_by-cons (λ (w : Tile). bit (is_tile t w)) u ts)

kept_none_by : (p : Tile → Bool) (t u : Tile) (ts : List Tile) (b : Bool) → p t ≡ false → p u ≡ b
    → count_by (is_tile t) (kept p ts) ≡ 0 → count_by (is_tile t) (cond b (u ∷ kept p ts) (kept p ts)) ≡ 0
kept_none_by p t u ts true no_pass e rest =
    let here = not_one (is_tile t u) (λ s. (let f = ap p (same_tile t u s) in let clash : ⊥ = cc in clash)) in
    let one = sum_by-cons (λ (w : Tile). bit (is_tile t w)) u (kept p ts) in
    omega (arith, here, one, rest)
kept_none_by p t u ts false no_pass e rest = rest

kept_none : (p : Tile → Bool) (t : Tile) (ts : List Tile) → p t ≡ false → count_by (is_tile t) (kept p ts) ≡ 0
kept_none p t [] no_pass = refl
kept_none p t (u ∷ ts) no_pass = kept_none_by p t u ts (p u) no_pass refl (kept_none p t ts no_pass)

-- ---- the count of a window

abbrev is_one : ℕ → Bool
is_one n = nat_eq n 1

bit_of : (n : ℕ) → n ≤ 1 → bit (is_one n) ≡ n
bit_of zero h = refl
bit_of (suc zero) h = refl
bit_of (suc (suc n)) h = absurd (omega (arith, h))

one_is : (n : ℕ) → is_one n ≡ true → n ≡ 1
one_is n e = grind (arith, nat_tests)

is_one_yes : (n : ℕ) → n ≡ 1 → is_one n ≡ true
is_one_yes n e = rw e refl

count_is_sum : (zs : List Trapezoid) (ts : List Tile) → AreApart zs
    → count_by (λ (t : Tile). is_one (count_in zs t)) ts ≡ sum_by (λ (t : Tile). count_in zs t) ts
count_is_sum zs [] apart = refl
count_is_sum zs (t ∷ ts) apart =
    let one = sum_by-cons (λ (u : Tile). bit (is_one (count_in zs u))) t ts in
    let two = sum_by-cons (λ (u : Tile). count_in zs u) t ts in
    let here = bit_of (count_in zs t) (apart t) in
    let rest = count_is_sum zs ts apart in
    omega (arith, one, two, here, rest)

not_one_and_none : (n : ℕ) → n ≡ 1 → n ≡ 0 → ⊥
not_one_and_none n e f = omega (arith, e, f)

none_of_one : (n : ℕ) → n ≤ 1 → (n ≡ 1 → ⊥) → n ≡ 0
none_of_one zero h out = refl
none_of_one (suc zero) h out = absurd (out refl)
none_of_one (suc (suc n)) h out = absurd (omega (arith, h))

-- where in the window the trapezoids have the tiles of an area
pub sum_is_count : (area : Tile → Type 0) (size i j : ℤ) (zs : List Trapezoid) → AreApart zs
    → ((t : Tile) → IsInFrame (window size i j) t → (area t → count_in zs t ≡ 1) × ((area t → ⊥) → count_in zs t ≡ 0))
    → IsWindowCount area size i j (window_sum size i j zs)
sum_is_count area size i j zs apart same =
    let f = window size i j in
    record {
      tiles = kept (λ (t : Tile). is_one (count_in zs t)) (frame_tiles f);
      once = λ t h. kept_all (λ (t : Tile). is_one (count_in zs t)) t (frame_tiles f)
          (is_one_yes (count_in zs t) ((same t h.inside).0 h.taken)) ∙ each_once f t h.inside;
      never = λ t out. never_by t (is_one (count_in zs t)) refl out;
      count = kept_length (λ (t : Tile). is_one (count_in zs t)) (frame_tiles f) ∙ count_is_sum zs (frame_tiles f) apart ∙ sym (window_sum_is size i j zs);
    }
  where
    never_by : (t : Tile) (b : Bool) → is_one (count_in zs t) ≡ b → (IsTakenInWindow area size i j t → ⊥)
        → count_by (is_tile t) (kept (λ (t : Tile). is_one (count_in zs t)) (frame_tiles (window size i j))) ≡ 0
    never_by t true e out =
        kept_all (λ (t : Tile). is_one (count_in zs t)) t (frame_tiles (window size i j)) e
        ∙ no_other (window size i j) t
        (λ inside. not_one_and_none (count_in zs t) (one_is (count_in zs t) e)
        ((same t inside).1 (λ a. out (record { inside = inside; taken = a }))))
    never_by t false e out = kept_none (λ (t : Tile). is_one (count_in zs t)) t (frame_tiles (window size i j)) e

pub one_more : OneMore
one_more m new zs z counted added i =
    added.counts i ∙ ap (λ (n : ℕ). n + count_in_frame (window m.size i m.row) z) (counted i) ∙ sym (sum_by_push (count_in_frame (window m.size i m.row)) zs z)
    ∙ same new.size new.row (sym added.size) (sym added.row)
  where
    same : (size row : ℤ) → m.size ≡ size → m.row ≡ row → window_sum m.size i m.row (zs ++ z ∷ []) ≡ window_sum size i row (zs ++ z ∷ [])
    same size row e f = rw (e, f) refl

pub sum_of_own : SumIsCount
sum_of_own size i j zs apart = sum_is_count (λ (t : Tile). count_in zs t ≡ 1) size i j zs apart
    (λ t h. (λ e. e, λ out. none_of_one (count_in zs t) (apart t) out))
