-- What the number of an event stands for.
use Rattle.std.proofs.Common.{ℕ, ℤ, pos, negsuc, ◌+◌, ◌*◌, ◌/◌, ◌%◌, ◌^◌, ◌≤◌, ◌+ℤ◌, ◌-ℤ◌, ◌≡◌, Bool, true, false, arith, refl, sym, ap, ◌∙◌, suc}
use Rattle.std.proofs.lemmas.Int.{ints}
use Rattle.half_grid.specs.Halves.{half, twice}
use Rattle.half_grid.specs.Lines.{x_on}
use Rattle.half_grid.specs.declared.border.Operand.{Operand}
use Rattle.half_grid.specs.declared.border.Operand.TheVariants.{A, B}
use Rattle.half_grid.specs.declared.plane.Line.{Line}
use Rattle.half_grid.specs.declared.plane.Line.TheVariants.{Upright, Rising, Falling}
use Rattle.row_lists.specs.declared.event.Event.{Event}
use Rattle.edge_events.specs.EventNumbers.{rank_of, operand_kind, way_kind, kind_of, event_at, x_of}

half_twice : (z : ℤ) → half (twice z) ≡ z
half_twice (pos n) = let e : (n + n) / 2 ≡ n = omega arith in ap pos e
half_twice (negsuc n) = let e : suc (n + n) / 2 ≡ n = omega arith in ap negsuc e

rising : (c y : ℤ) → half ((twice c +ℤ y) -ℤ y) ≡ c
rising c y = let e : (twice c +ℤ y) -ℤ y ≡ twice c = omega (arith, ints) in ap half e ∙ half_twice c

falling : (c y : ℤ) → half ((twice c -ℤ y) +ℤ y) ≡ c
falling c y = let e : (twice c -ℤ y) +ℤ y ≡ twice c = omega (arith, ints) in ap half e ∙ half_twice c

abbrev plain : ℤ → ℤ → Line → Bool → Operand → Event
plain y x line up operand = record { y = y; x = x; line = line; up = up; operand = operand }

-- kind, X and Y give each part back
back : (y : ℤ) (line : Line) (up : Bool) (o : Operand)
    → event_at (rank_of line * 4 + operand_kind o + way_kind up) (x_on line y) y ≡ plain y (x_on line y) line up o
back y (Upright c) true A = refl
back y (Upright c) true B = refl
back y (Upright c) false A = refl
back y (Upright c) false B = refl
back y (Rising c) true A = ap (λ (n : ℤ). plain y (twice c +ℤ y) (Rising n) true A) (rising c y)
back y (Rising c) true B = ap (λ (n : ℤ). plain y (twice c +ℤ y) (Rising n) true B) (rising c y)
back y (Rising c) false A = ap (λ (n : ℤ). plain y (twice c +ℤ y) (Rising n) false A) (rising c y)
back y (Rising c) false B = ap (λ (n : ℤ). plain y (twice c +ℤ y) (Rising n) false B) (rising c y)
back y (Falling c) true A = ap (λ (n : ℤ). plain y (twice c -ℤ y) (Falling n) true A) (falling c y)
back y (Falling c) true B = ap (λ (n : ℤ). plain y (twice c -ℤ y) (Falling n) true B) (falling c y)
back y (Falling c) false A = ap (λ (n : ℤ). plain y (twice c -ℤ y) (Falling n) false A) (falling c y)
back y (Falling c) false B = ap (λ (n : ℤ). plain y (twice c -ℤ y) (Falling n) false B) (falling c y)

kind_small : (line : Line) (up : Bool) (o : Operand) → (rank_of line * 4 + operand_kind o + way_kind up) / 12 ≡ 0
kind_small (Upright c) true A = refl
kind_small (Upright c) true B = refl
kind_small (Upright c) false A = refl
kind_small (Upright c) false B = refl
kind_small (Rising c) true A = refl
kind_small (Rising c) true B = refl
kind_small (Rising c) false A = refl
kind_small (Rising c) false B = refl
kind_small (Falling c) true A = refl
kind_small (Falling c) true B = refl
kind_small (Falling c) false A = refl
kind_small (Falling c) false B = refl

low : (m k : ℕ) → k / 12 ≡ 0 → (m * 16 + k) % 16 ≡ k
low m k h = omega (arith, h)

high : (m k : ℕ) → k / 12 ≡ 0 → (m * 16 + k) / 16 ≡ m
high m k h = omega (arith, h)

moved : (m : ℕ) (x : ℤ) → pos m ≡ x +ℤ pos (2 ^ 44) → pos m -ℤ pos (2 ^ 44) ≡ x
moved m x h = omega (arith, ints, h)

-- what was packed comes back
pub event_same : (e : Event) (m : ℕ) → e.x ≡ x_on e.line e.y → pos m ≡ e.x +ℤ pos (2 ^ 44)
    → event_at ((m * 16 + kind_of e) % 16) (x_of (m * 16 + kind_of e)) e.y ≡ e
event_same e m on_line up =
    let small = kind_small e.line e.up e.operand in
    let x_back : x_of (m * 16 + kind_of e) ≡ x_on e.line e.y = ap (λ (n : ℕ). pos n -ℤ pos (2 ^ 44)) (high m (kind_of e) small) ∙ (moved m e.x up ∙ on_line) in
    ap (λ (k : ℕ). event_at k (x_of (m * 16 + kind_of e)) e.y) (low m (kind_of e) small)
    ∙ (ap (λ (x : ℤ). event_at (kind_of e) x e.y) x_back
    ∙ (back e.y e.line e.up e.operand ∙ ap (λ (x : ℤ). plain e.y x e.line e.up e.operand) (sym on_line)))

-- and so does its kind, which is one of the twelve
pub kind_same : (e : Event) (m : ℕ) → (m * 16 + kind_of e) % 16 ≡ kind_of e
kind_same e m = low m (kind_of e) (kind_small e.line e.up e.operand)

pub kind_within : (e : Event) → kind_of e ≤ 11
kind_within e = let small = kind_small e.line e.up e.operand in omega (arith, small)
