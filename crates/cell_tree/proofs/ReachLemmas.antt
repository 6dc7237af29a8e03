-- How far the vertices of a reachable cell are from 0.
use Rattle.std.proofs.Common.{◌≡◌, ℕ, ℤ, zero, suc, pos, negsuc, neg_ℤ, ◌+ℤ◌, ◌+◌, ◌*◌, ◌^◌, ◌≤◌, Bool, true, false}
use Rattle.std.proofs.Common.{List, [], ◌∷◌, ◌++◌, All, length, unsigned_abs, refl, sym, ap, subst, inl, inr, arith}
use Rattle.std.proofs.Common.{mul_assoc}
use Rattle.std.proofs.Math.Nat.{mul-le-mul, mul-le-mul_left, mul-le-mul_right}
use Rattle.std.proofs.lemmas.Int.{ints, unsigned_abs-mul}
use Rattle.std.proofs.lemmas.List.Elements.{All-head, All-tail}
use Rattle.half_grid.specs.declared.plane.Point.{Point}
use Rattle.layout_model.specs.Images.{moved, turned, flipped, enlarged, quarter_turn}
use Rattle.layout_model.specs.Layouts.{IsWithin, IsMove, IsShapeOnGrid, IsPlacementOnGrid, IsCellOnGrid}
use Rattle.layout_model.specs.declared.pair.Pair.{Pair}
use Rattle.layout_model.specs.declared.orient.Orient.{Orient}
use Rattle.layout_model.specs.declared.cells.Cell.{Cell}
use Rattle.cell_tree.specs.Cells.{shapes_at, placements_at}
use Rattle.cell_tree.specs.Chains.{Link, IsChain, chain_factor, IsReachable, IsShort}
use Rattle.cell_tree.specs.Trees.{IsShallow, IsMild}
use Rattle.cell_tree.specs.Flattening.{IsVertex}
use Rattle.cell_tree.specs.HullTables.{OwnVertex, HasNearVertices}
use Rattle.cell_tree.specs.Boxes.{IsUpTo}
use Rattle.cell_tree.proofs.SlotLemmas.{All-slot}
use Rattle.cell_tree.proofs.ChainLemmas.{chain_joined, factor_joined}
use Rattle.cell_tree.proofs.FactorLemmas.{on_grid, mags_on_grid}
use Rattle.cell_tree.proofs.FlatLemmas.{vertex_cases, short_placed, short_below}
use Rattle.cell_tree.proofs.BoxLemmas.{oriented_point}

abs_in : (z : ℤ) → IsUpTo (unsigned_abs z) z
abs_in (pos n) = record { low = omega (arith, ints); high = omega (arith, ints) }
abs_in (negsuc n) = record { low = omega (arith, ints); high = omega (arith, ints) }

abs_of : (z : ℤ) (n : ℕ) → IsUpTo n z → unsigned_abs z ≤ n
abs_of (pos m) n near = omega (arith, ints, near.high)
abs_of (negsuc m) n near = omega (arith, ints, near.low)

abs_sum : (x y : ℤ) → unsigned_abs (x +ℤ y) ≤ unsigned_abs x + unsigned_abs y
abs_sum x y = let a = abs_in x in let b = abs_in y in let al = a.low in let ah = a.high in let bl = b.low in let bh = b.high in
    abs_of (x +ℤ y) (unsigned_abs x + unsigned_abs y) (record { low = omega (arith, ints); high = omega (arith, ints) })

abs_neg : (z : ℤ) → unsigned_abs (neg_ℤ z) ≡ unsigned_abs z
abs_neg (pos zero) = refl
abs_neg (pos (suc n)) = omega arith
abs_neg (negsuc n) = omega arith

-- both coordinates, so many times enlarged, are within the bound
pub record Fits (a bound : ℕ) (p : Point) : Type 0 where
  pub x : a * unsigned_abs p.x ≤ bound
  pub y : a * unsigned_abs p.y ≤ bound

fits_quarter : (a bound : ℕ) (p : Point) → Fits a bound p → Fits a bound (quarter_turn p)
fits_quarter a bound p f = record { x = subst (λ n. a * n ≤ bound) (sym (abs_neg p.y)) f.y; y = f.x }

fits_turned : (turns a bound : ℕ) (p : Point) → Fits a bound p → Fits a bound (turned turns p)
fits_turned zero a bound p f = f
fits_turned (suc turns) a bound p f = fits_turned turns a bound (quarter_turn p) (fits_quarter a bound p f)

fits_flipped : (flip : Bool) (a bound : ℕ) (p : Point) → Fits a bound p → Fits a bound (flipped flip p)
fits_flipped false a bound p f = f
fits_flipped true a bound p f = record { x = f.x; y = subst (λ n. a * n ≤ bound) (sym (abs_neg p.y)) f.y }

fits_enlarged : (mag a bound : ℕ) (p : Point) → Fits (a * mag) bound p → Fits a bound (enlarged mag p)
fits_enlarged mag a bound p f = record {
  x = let e = unsigned_abs-mul (pos mag) p.x in let g = mul_assoc a mag (unsigned_abs p.x) in let h = ap (λ n. a * n) e in omega (arith, f.x);
  y = let e = unsigned_abs-mul (pos mag) p.y in let g = mul_assoc a mag (unsigned_abs p.y) in let h = ap (λ n. a * n) e in omega (arith, f.y);
}

fits_oriented : (orient : Orient) (a bound : ℕ) (p : Point) → Fits (a * orient.mag) bound p → Fits a bound (oriented_point orient p)
fits_oriented orient a bound p f = fits_turned orient.turns a bound (flipped orient.flip (enlarged orient.mag p))
    (fits_flipped orient.flip a bound (enlarged orient.mag p) (fits_enlarged orient.mag a bound p f))

-- a move by so much more
fits_moved : (a bound most : ℕ) (at p : Point) → a ≤ 16 → Fits a bound p → unsigned_abs at.x ≤ most
    → unsigned_abs at.y ≤ most → Fits a (bound + 16 * most) (moved at p)
fits_moved a bound most at p small f x y = record {
  x = let s = mul-le-mul_left a (abs_sum p.x at.x) in let m = mul-le-mul small x in omega (arith, f.x);
  y = let s = mul-le-mul_left a (abs_sum p.y at.y) in let m = mul-le-mul small y in omega (arith, f.y);
}

within_x : (bound : ℕ) (p : Point) → IsWithin bound p → unsigned_abs p.x ≤ bound
within_x bound p w = abs_of p.x bound (record { low = w.x_low; high = w.x_high })

within_y : (bound : ℕ) (p : Point) → IsWithin bound p → unsigned_abs p.y ≤ bound
within_y bound p w = abs_of p.y bound (record { low = w.y_low; high = w.y_high })

pub shapes_on_grid : (cells : List Cell) → All IsCellOnGrid cells → (n : ℕ) → All IsShapeOnGrid (shapes_at cells n)
shapes_on_grid [] all n = λ k d inside. absurd (omega arith)
shapes_on_grid (cell ∷ cells) all zero = (All-head IsCellOnGrid cell cells all).shapes
shapes_on_grid (cell ∷ cells) all (suc n) = shapes_on_grid cells (All-tail IsCellOnGrid cell cells all) n

module _ (cells : List Cell) (grid : All IsCellOnGrid cells) where
  own_fits : (n bound : ℕ) (a : ℕ) (pair : Pair) (p : Point) → a ≤ 16 → OwnVertex (shapes_at cells n) bound pair p → Fits a (2 ^ 47) p
  own_fits n bound a pair p small own =
      let shape = All-slot (shapes_at cells n) IsShapeOnGrid (shapes_on_grid cells grid n) own.number own.shape own.here in
      let v = All-slot own.shape.points (IsWithin (2 ^ 42)) shape.near own.vertex.corner own.vertex.v own.vertex.point in
      let by = (All-slot own.shape.offsets IsMove shape.offsets.moves own.vertex.place own.vertex.by own.vertex.offset).near in
      let vx = within_x (2 ^ 42) own.vertex.v v in let vy = within_y (2 ^ 42) own.vertex.v v in
      let start : Fits a (16 * 2 ^ 42) own.vertex.v = record { x = mul-le-mul small vx; y = mul-le-mul small vy } in
      let f = fits_moved a (16 * 2 ^ 42) (2 ^ 41) own.vertex.by own.vertex.v small start
      (within_x (2 ^ 41) own.vertex.by by) (within_y (2 ^ 41) own.vertex.by by) in
      subst (Fits a (2 ^ 47)) own.vertex.is (record { x = omega (arith, f.x); y = omega (arith, f.y) })

  near_within : (depth n a : ℕ) → depth ≤ 64 → IsShort cells depth n → 1 ≤ a
      → ((links : List Link) → IsChain cells n links → a * chain_factor links ≤ 16) → (pair : Pair) (p : Point)
      → IsVertex cells n pair p
      → Fits a ((depth + 1) * 2 ^ 46) p
  near_within zero n a low short some mild pair p vertex = absurd (let none = short [] tt in omega arith)
  near_within (suc depth) n a low short some mild pair p vertex =
      let small : a ≤ 16 = (let one = mild [] tt in omega arith) in
      elim (vertex_cases cells n pair p (λ links chain. (let h = short links chain in omega arith)) vertex) [
        | inl own ↦ (let f = own_fits n (length (shapes_at cells n)) a pair p small own in record { x = omega (arith, f.x); y = omega (arith, f.y) })
        | inr pv ↦ (let placement = All-slot (placements_at cells n) IsPlacementOnGrid (on_grid cells grid n) pv.number pv.placement pv.placed in
            let by = (All-slot pv.placement.offsets IsMove placement.offsets.moves pv.place pv.by pv.offset).near in
            let mag = pv.placement.orient.mag in
            let more : 1 ≤ a * mag = mul-le-mul some placement.orient.enlarges in
            let step = near_within depth pv.target (a * pv.placement.orient.mag) (omega arith)
            (short_placed cells depth n pv.number pv.placement pv.target short pv.placed pv.targeted) more
            (λ links chain. (let h = mild (record { placement = pv.placement; cell = pv.target } ∷ links)
            (record { number = pv.number; placed = pv.placed; target = pv.targeted }, chain) in
            let e = mul_assoc a pv.placement.orient.mag (chain_factor links) in omega arith)) pair pv.v pv.vertex in
            let o = fits_oriented pv.placement.orient a ((depth + 1) * 2 ^ 46) pv.v step in
            let bx = within_x (2 ^ 41) pv.by by in let by' = within_y (2 ^ 41) pv.by by in
            let ax = within_x (2 ^ 41) pv.placement.at placement.at.near in let ay = within_y (2 ^ 41) pv.placement.at placement.at.near in
            let mx = abs_sum pv.placement.at.x pv.by.x in let my = abs_sum pv.placement.at.y pv.by.y in
            let f = fits_moved a ((depth + 1) * 2 ^ 46) (2 ^ 42) (moved pv.by pv.placement.at)
            (oriented_point pv.placement.orient pv.v) small o (omega arith) (omega arith) in
            subst (Fits a ((suc depth + 1) * 2 ^ 46)) pv.is (record { x = omega (arith, f.x); y = omega (arith, f.y) }))
      ]

  factor_some : (n : ℕ) (links : List Link) → IsChain cells n links → 1 ≤ chain_factor links
  factor_some n [] chain = omega arith
  factor_some n (link ∷ links) chain =
      let mag = mags_on_grid cells grid n chain.0.number link.placement chain.0.placed in
      let rest = factor_some link.cell links chain.1 in
      mul-le-mul mag rest

  pub near_below : (top n : ℕ) → IsShallow cells top → IsMild cells top → IsReachable cells top n → HasNearVertices cells n
  near_below top n shallow mild reach pair p vertex =
      let f = near_within 64 n 1 (omega arith) (short_below cells top n shallow reach) (omega arith)
      (λ links chain. (let h = mild (reach.links ++ links)
      (chain_joined cells top reach.links links reach.chain
      (subst (λ m. IsChain cells m links) (sym reach.end) chain)) in
      let e = factor_joined reach.links links in let one = factor_some top reach.links reach.chain in let m =
      mul-le-mul_right (chain_factor links) one in omega arith)) pair p vertex in
      let x = abs_in p.x in let y = abs_in p.y in
      let xl = x.low in let xh = x.high in let yl = y.low in let yh = y.high in let fx = f.x in let fy = f.y in
      record { x_low = omega (arith, ints); x_high = omega (arith, ints); y_low = omega (arith, ints); y_high = omega (arith, ints) }
