-- The triangles of shots that don't overlap are as many as the tiles that they cover, and never too many to be summed up.
use Rattle.std.proofs.Common.{ℕ, suc, ◌+◌, ◌^◌, ◌≤◌, ◌<◌, ℤ, pos, negsuc, neg_ℤ, ◌+ℤ◌, ◌-ℤ◌, ◌*ℤ◌, ◌≤ℤ◌, ◌≡◌, Bool}
use Rattle.std.proofs.Common.{true, false, cond, ◌&&◌, List, [], ◌∷◌, ◌++◌, length, unsigned_abs, count_by, arith, refl}
use Rattle.std.proofs.Common.{sym, ap, ◌∙◌}
use Rattle.std.proofs.lemmas.Int.{ints}
use Rattle.std.proofs.lemmas.List.{length-append}
use Rattle.std.proofs.lemmas.List.Elements.{All-head, All-tail}
use Rattle.std.proofs.lemmas.List.Sums.{sum_by-append, sum_by-cons}
use Rattle.std.specs.List.{All}
use Rattle.std.specs.Ordering.{int_eq}
use Rattle.half_grid.specs.Sizes.{is_tile, is_same_side, IsNumberIn}
use Rattle.half_grid.specs.Trapezoids.{Trapezoid, trapezoid, IsInTrapezoid, IsLegal, IsShot, CoversExactly, bottom_of, top_of, count_in, trapezoid_has}
use Rattle.half_grid.specs.Winding.{count_one}
use Rattle.half_grid.specs.declared.plane.Line.TheVariants.{Upright}
use Rattle.half_grid.specs.declared.plane.Side.{Side}
use Rattle.half_grid.specs.declared.plane.Side.TheVariants.{Left, Right}
use Rattle.half_grid.specs.declared.plane.Tile.{Tile}
use Rattle.half_grid.proofs.ForCallers.{size_is, has_in, in_has, count_by-cons, tile_of_shot_within, int_eq_true, int_eq_same}
use Rattle.shot_writer.specs.Writing.{triangles_in, triangles_of}

-- ---- the tiles of shots

product : (a b : ℤ) → pos 0 ≤ℤ a → pos 0 ≤ℤ b → pos (unsigned_abs (a *ℤ b)) ≡ a *ℤ b
product (pos m) (pos n) p q = refl
product (pos m) (negsuc n) p q = absurd (omega (arith, ints, q))
product (negsuc m) b p q = absurd (omega (arith, ints, p))

tiles_of_one : (z : Trapezoid) → IsLegal z → IsNumberIn (IsInTrapezoid z) (triangles_in z)
tiles_of_one z legal = size_is z (triangles_in z) legal
    (product (z.y1 -ℤ z.y0) (bottom_of z +ℤ top_of z) (omega (arith, ints, legal.has_rows))
    (omega (arith, ints, legal.not_flat)))

counted_by : (z : Trapezoid) (n : ℕ) (p : IsNumberIn (IsInTrapezoid z) n) (t : Tile) (b : Bool) → trapezoid_has t z ≡ b → count_by (is_tile t) p.tiles ≡ count_one b
counted_by z n p t true e = p.once t (has_in t z e)
counted_by z n p t false e = p.never t (λ h. (let yes = in_has t z h in absurd cc))

-- a list with each tile as often as some shots have it
pub record AreTilesOf (zs : List Trapezoid) (tiles : List Tile) : Type 0 where
  pub each : (t : Tile) → count_by (is_tile t) tiles ≡ count_in zs t
  pub count : length tiles ≡ triangles_of zs

pub tiles_of : (zs : List Trapezoid) → All IsShot zs → (tiles : List Tile) × AreTilesOf zs tiles
tiles_of [] shots = ([], record { each = λ t. refl; count = refl })
tiles_of (z ∷ zs) shots =
    let one = tiles_of_one z (All-head IsShot z zs shots).legal in
    let rest = tiles_of zs (All-tail IsShot z zs shots) in (
      one.tiles ++ rest.0,
      record {
        each = λ t. sum_by-append _ one.tiles rest.0 ∙ omega (
          arith,
          counted_by z (triangles_in z) one t (trapezoid_has t z) refl,
          rest.1.each t,
          count_by-cons
              (trapezoid_has t) z zs,
        );
        count = omega (arith, length-append one.tiles rest.0, one.count, rest.1.count, sum_by-cons triangles_in z zs);
      },
    )

-- where shots cover an area exactly, their triangles are as many as its tiles
pub area_count : (area : Tile → Type 0) (zs : List Trapezoid) → All IsShot zs → CoversExactly zs area → IsNumberIn area (triangles_of zs)
area_count area zs shots cover =
    let t = tiles_of zs shots in
    record {
      tiles = t.0;
      once = λ u h. t.1.each u ∙ cover.once u h;
      never = λ u h. t.1.each u ∙ cover.never u h;
      count = t.1.count;
    }

-- ---- a list that has no tile more often than another is no longer

both : (a b : Bool) → (a && b) ≡ true → (a ≡ true) × (b ≡ true)
both true true e = (refl, refl)
both true false e = absurd cc
both false b e = absurd cc

same_side : (a b : Side) → is_same_side a b ≡ true → a ≡ b
same_side Left Left e = refl
same_side Left Right e = absurd cc
same_side Right Left e = absurd cc
same_side Right Right e = refl

same_tile : (t u : Tile) → is_tile t u ≡ true → t ≡ u
same_tile t u e =
    let p = both (int_eq t.i u.i) (int_eq t.j u.j && is_same_side t.side u.side) e in
    let q = both (int_eq t.j u.j) (is_same_side t.side u.side) p.1 in
    let i = int_eq_true t.i u.i p.0 in
    let j = int_eq_true t.j u.j q.0 in
    let side = same_side t.side u.side q.1 in
    ap (λ (x : ℤ). record { i = x; j = t.j; side = t.side }) i
    ∙ (ap (λ (x : ℤ). record { i = u.i; j = x; side = t.side }) j ∙ ap
    (λ (x : Side). record { i = u.i; j = u.j; side = x }) side)

-- the tiles but for the first one that is the given one
abbrev without : Tile → List Tile → List Tile
without x [] = []
without x (y ∷ ys) = cond (is_tile x y) ys (y ∷ without x ys)

-- of a tile that is there one is taken off, of each other none
fewer_by : (t x y : Tile) (ys : List Tile) (b : Bool) → is_tile x y ≡ b → 1 ≤ count_by (is_tile x) (y ∷ ys)
    → ((c : Bool) → 1 ≤ count_by (is_tile x) ys → count_by (is_tile t) ys ≡ count_one (is_tile t x) + count_by (is_tile t) (without x ys))
    → count_by (is_tile t) (y ∷ ys) ≡ count_one (is_tile t x) + count_by (is_tile t) (cond b ys (y ∷ without x ys))
fewer_by t x y ys true e one rest = count_by-cons (is_tile t) y ys ∙ ap (λ u. count_one (is_tile t u) + count_by (is_tile t) ys) (sym (same_tile x y e))
fewer_by t x y ys false e one rest =
    let there : 1 ≤ count_by (is_tile x) ys = omega (arith, one, count_by-cons (is_tile x) y ys, ap count_one e) in
    omega (arith, rest true there, count_by-cons (is_tile t) y ys, count_by-cons (is_tile t) y (without x ys))

fewer : (t x : Tile) (ys : List Tile) → 1 ≤ count_by (is_tile x) ys → count_by (is_tile t) ys ≡ count_one (is_tile t x) + count_by (is_tile t) (without x ys)
fewer t x [] one = absurd (omega (arith, one))
fewer t x (y ∷ ys) one = fewer_by t x y ys (is_tile x y) refl one (λ c. fewer t x ys)

shorter_by : (x y : Tile) (ys : List Tile) (b : Bool) → is_tile x y ≡ b → 1 ≤ count_by (is_tile x) (y ∷ ys)
    → (1 ≤ count_by (is_tile x) ys → length ys ≡ suc (length (without x ys)))
    → suc (length ys) ≡ suc (length (cond b ys (y ∷ without x ys)))
shorter_by x y ys true e one rest = refl
shorter_by x y ys false e one rest = ap suc (rest (omega (arith, one, count_by-cons (is_tile x) y ys, ap count_one e)))

shorter : (x : Tile) (ys : List Tile) → 1 ≤ count_by (is_tile x) ys → length ys ≡ suc (length (without x ys))
shorter x [] one = absurd (omega (arith, one))
shorter x (y ∷ ys) one = shorter_by x y ys (is_tile x y) refl one (shorter x ys)

int_eq_refl : (x : ℤ) → int_eq x x ≡ true
int_eq_refl x = int_eq_same x x refl

is_itself : (t : Tile) → is_tile t t ≡ true
is_itself t = rw (int_eq_refl t.i, int_eq_refl t.j) (same t.side)
  where
    same : (s : Side) → is_same_side s s ≡ true
    same Left = refl
    same Right = refl

pub no_longer : (xs ys : List Tile) → ((t : Tile) → count_by (is_tile t) xs ≤ count_by (is_tile t) ys) → length xs ≤ length ys
no_longer [] ys h = omega arith
no_longer (x ∷ xs) ys h =
    let here : 1 ≤ count_by (is_tile x) ys = omega (arith, h x, count_by-cons (is_tile x) x xs, ap count_one (is_itself x)) in
    let rest = no_longer xs (without x ys) (λ t. omega (arith, h t, count_by-cons (is_tile t) x xs, fewer t x ys here)) in
    omega (arith, rest, shorter x ys here)

-- ---- within reach there are few tiles

-- a little more than all that is within reach
abbrev whole : Trapezoid
whole = trapezoid (neg_ℤ (pos 17592186044417)) (pos 17592186044417) (Upright (neg_ℤ (pos 17592186044417))) (Upright (pos 17592186044417))

whole_legal : IsLegal whole
whole_legal = record { has_rows = omega (arith, ints); bottom = omega (arith, ints); top = omega (arith, ints); not_flat = omega (arith, ints) }

inside_whole : (z : Trapezoid) (t : Tile) → IsShot z → IsInTrapezoid z t → IsInTrapezoid whole t
inside_whole z t s h =
    let w = tile_of_shot_within z t s h in
    record {
      above_bottom = omega (arith, ints, w.row.low);
      below_top = omega (arith, ints, w.row.high);
      right_of_left = omega (arith, ints, w.column.low);
      left_of_right = omega (arith, ints, w.column.high);
    }

none_outside : (t : Tile) (zs : List Trapezoid) → All IsShot zs → (IsInTrapezoid whole t → ⊥) → count_in zs t ≡ 0
none_outside t [] shots out = refl
none_outside t (z ∷ zs) shots out =
    omega (arith, count_by-cons (trapezoid_has t) z zs, not_here (trapezoid_has t z) refl, none_outside t zs (All-tail IsShot z zs shots) out)
  where
    not_here : (b : Bool) → trapezoid_has t z ≡ b → count_one b ≡ 0
    not_here true e = absurd (out (inside_whole z t (All-head IsShot z zs shots) (has_in t z e)))
    not_here false e = refl

pub few_triangles : (zs : List Trapezoid) → All IsShot zs → ((t : Tile) → count_in zs t ≤ 1) → triangles_of zs < 2 ^ 127
few_triangles zs shots apart =
    let t = tiles_of zs shots in
    let all = tiles_of_one whole whole_legal in
    let less : length t.0 ≤ length all.tiles = no_longer t.0 all.tiles (λ u. by u (trapezoid_has u whole) refl) in
    omega (arith, less, t.1.count, all.count)
  where
    by : (u : Tile) (b : Bool) → trapezoid_has u whole ≡ b → count_by (is_tile u) (tiles_of zs shots).0 ≤ count_by
        (is_tile u) (tiles_of_one whole whole_legal).tiles
    by u true e = omega (arith, (tiles_of zs shots).1.each u, apart u, (tiles_of_one whole whole_legal).once u (has_in u whole e))
    by u false e = omega (arith, (tiles_of zs shots).1.each u, none_outside u zs shots (λ h. (let yes = in_has u whole h in absurd cc)))
