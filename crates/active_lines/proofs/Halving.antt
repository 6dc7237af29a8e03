-- Lines from left to right at a Y, cut at a point.
use Rattle.std.proofs.Common.{ℕ, ℤ, ◌+◌, ◌-◌, ◌/◌, ◌≤◌, ◌<◌, ◌≤ℤ◌, zero, suc, List, [], ◌∷◌, All, length, take, drop, get_or, arith}
use Rattle.std.proofs.lemmas.Int.{ints}
use Rattle.std.proofs.lemmas.List.Elements.{All-nil, All-cons, All-weaker}
use Rattle.half_grid.specs.Lines.{x_on}
use Rattle.active_lines.specs.declared.item.ActiveLine.{ActiveLine}
use Rattle.active_lines.specs.Points.{IsBefore, IsNotBefore, AscendAt}

pub middle_low : (low high : ℕ) → low ≤ low + (high - low) / 2
middle_low low high = omega arith

pub middle_high : (low high : ℕ) → low < high → low + (high - low) / 2 < high
middle_high low high h = omega (arith, h)

-- of lines from left to right those up to one that is left of the point are left of it,
pub before_up_to : (x y : ℤ) (lines : List ActiveLine) (n : ℕ) (d : ActiveLine) → AscendAt y lines → n < length lines
    → IsBefore x y (get_or lines n d) → All (IsBefore x y) (take (suc n) lines)
before_up_to x y [] n d a inside h = absurd (omega (arith, inside))
before_up_to x y (l ∷ lines) zero d a inside h = All-cons (IsBefore x y) l [] h (All-nil (IsBefore x y))
before_up_to x y (l ∷ lines) (suc n) d a inside h =
    let rest = before_up_to x y lines n d a.1 (omega (arith, inside)) h in
    let here : x_on l.line y ≤ℤ x_on (get_or lines n d).line y = a.0 n d (omega (arith, inside)) in
    All-cons (IsBefore x y) l (take (suc n) lines) (omega (arith, ints, here, h)) rest

-- and those from one on that isn't are not
pub after_from : (x y : ℤ) (lines : List ActiveLine) (n : ℕ) (d : ActiveLine) → AscendAt y lines → n < length lines
    → IsNotBefore x y (get_or lines n d) → All (IsNotBefore x y) (drop n lines)
after_from x y [] n d a inside h = absurd (omega (arith, inside))
after_from x y (l ∷ lines) zero d a inside h =
    All-cons (IsNotBefore x y) l lines h (All-weaker (λ (m : ActiveLine). x_on l.line y ≤ℤ x_on m.line y) (IsNotBefore x y)
    (λ m le. omega (arith, ints, le, h)) lines a.0)
after_from x y (l ∷ lines) (suc n) d a inside h = after_from x y lines n d a.1 (omega (arith, inside)) h
