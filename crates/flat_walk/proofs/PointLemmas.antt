-- Points, how far they are from 0, and what becomes of that.
use Rattle.std.proofs.Common.{◌≡◌, ℕ, ℤ, zero, suc, pos, negsuc, neg_ℤ, ◌*ℤ◌, ◌≤ℤ◌, ◌+◌, ◌*◌, ◌≤◌, Bool, true, false, arith}
use Rattle.std.proofs.Math.IntN.{pos-*ℤ-pos, pos-*ℤ-negsuc}
use Rattle.std.proofs.Math.Nat.{mul-le-mul}
use Rattle.std.proofs.lemmas.Int.{ints}
use Rattle.half_grid.specs.declared.plane.Point.{Point}
use Rattle.layout_model.specs.Images.{moved, turned, flipped, enlarged, quarter_turn, image_of}
use Rattle.layout_model.specs.declared.orient.Orient.{Orient}
use Rattle.flat_walk.specs.Poses.{oriented}
use Rattle.layout_model.specs.Layouts.{IsWithin}

pub same_point : (a b : Point) → a.x ≡ b.x → a.y ≡ b.y → a ≡ b
same_point a b e f = λ i. record { x = e i; y = f i }

pub record IsBetween (bound : ℕ) (z : ℤ) : Type 0 where
  pub low : neg_ℤ (pos bound) ≤ℤ z
  pub high : z ≤ℤ pos bound

product_between : (mag bound : ℕ) (z : ℤ) → mag ≤ 16 → IsBetween bound z → IsBetween (16 * bound) (pos mag *ℤ z)
product_between mag bound (pos n) small near =
    let low : n ≤ bound = omega (arith, ints, near.high) in
    let m : mag * n ≤ 16 * bound = mul-le-mul small low in
    rw (pos-*ℤ-pos mag n) (record { low = omega (arith, ints); high = omega (arith, ints, m) })
product_between mag bound (negsuc n) small near =
    let low : n + 1 ≤ bound = omega (arith, ints, near.low) in
    let m : mag * (n + 1) ≤ 16 * bound = mul-le-mul small low in
    rw (pos-*ℤ-negsuc mag n) (record { low = omega (arith, ints, m); high = omega (arith, ints) })

pub enlarged_within : (mag bound : ℕ) (p : Point) → mag ≤ 16 → IsWithin bound p → IsWithin (16 * bound) (enlarged mag p)
enlarged_within mag bound p small near =
    let x = product_between mag bound p.x small (record { low = near.x_low; high = near.x_high }) in
    let y = product_between mag bound p.y small (record { low = near.y_low; high = near.y_high }) in
    record { x_low = x.low; x_high = x.high; y_low = y.low; y_high = y.high }

neg_between : (bound : ℕ) (z : ℤ) → IsBetween bound z → IsBetween bound (neg_ℤ z)
neg_between bound z b = let l = b.low in let h = b.high in record { low = omega (arith, ints); high = omega (arith, ints) }

quarter_within : (bound : ℕ) (p : Point) → IsWithin bound p → IsWithin bound (quarter_turn p)
quarter_within bound p w = let n = neg_between bound p.y (record { low = w.y_low; high = w.y_high }) in
    record { x_low = n.low; x_high = n.high; y_low = w.x_low; y_high = w.x_high }

turned_within : (turns bound : ℕ) (p : Point) → IsWithin bound p → IsWithin bound (turned turns p)
turned_within zero bound p w = w
turned_within (suc turns) bound p w = turned_within turns bound (quarter_turn p) (quarter_within bound p w)

flipped_within : (flip : Bool) (bound : ℕ) (p : Point) → IsWithin bound p → IsWithin bound (flipped flip p)
flipped_within true bound p w = let n = neg_between bound p.y (record { low = w.y_low; high = w.y_high }) in
    record { x_low = w.x_low; x_high = w.x_high; y_low = n.low; y_high = n.high }
flipped_within false bound p w = w

pub oriented_within : (orient : Orient) (bound : ℕ) (p : Point) → orient.mag ≤ 16 → IsWithin bound p → IsWithin (16 * bound) (oriented orient p)
oriented_within orient bound p small w =
    turned_within orient.turns (16 * bound) (flipped orient.flip (enlarged orient.mag p))
    (flipped_within orient.flip (16 * bound) (enlarged orient.mag p) (enlarged_within orient.mag bound p small w))

pub moved_within : (a b : ℕ) (at p : Point) → IsWithin a at → IsWithin b p → IsWithin (a + b) (moved at p)
moved_within a b at p u v =
    let ul = u.x_low in let uh = u.x_high in let um = u.y_low in let un = u.y_high in
    let vl = v.x_low in let vh = v.x_high in let vm = v.y_low in let vn = v.y_high in
    record { x_low = omega (arith, ints); x_high = omega (arith, ints); y_low = omega (arith, ints); y_high = omega (arith, ints) }

-- a move by nothing
pub not_moved : (p : Point) → moved (record { x = pos 0; y = pos 0 }) p ≡ p
not_moved p = same_point _ _ (omega (arith, ints)) (omega (arith, ints))

pub image_within : (orient : Orient) (a b : ℕ) (at p : Point) → orient.mag ≤ 16 → IsWithin a at → IsWithin b p → IsWithin (a + 16 * b) (image_of orient at p)
image_within orient a b at p small u v = moved_within a (16 * b) at (oriented orient p) u (oriented_within orient b p small v)

pub within_more : (a b : ℕ) (p : Point) → a ≤ b → IsWithin a p → IsWithin b p
within_more a b p more w =
    let xl = w.x_low in let xh = w.x_high in let yl = w.y_low in let yh = w.y_high in
    record { x_low = omega (arith, ints); x_high = omega (arith, ints); y_low = omega (arith, ints); y_high = omega (arith, ints) }
