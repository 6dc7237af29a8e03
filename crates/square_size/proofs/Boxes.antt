-- Ranges of the four strips, and when some tile has its strips in them.
use Rattle.std.proofs.Common.{ℤ, pos, ◌+ℤ◌, ◌-ℤ◌, ◌≤ℤ◌, ◌≡◌, arith, refl}
use Rattle.std.proofs.lemmas.Int.{ints, clamps}
use Rattle.std.specs.Int.{int_max}
use Rattle.half_grid.specs.Halves.{twice}
use Rattle.half_grid.specs.Rows.{number_in_row}
use Rattle.half_grid.specs.Tiles.{strips_of}
use Rattle.half_grid.specs.declared.plane.Tile.{Tile}
use Rattle.half_grid.proofs.ForCallers.{i_low, i_high, p_low, p_high, q_low, q_high, tile_with, tile_with_number}

-- least and greatest numbers of the four strips
pub record Box : Type 0 where
  pub i0 : ℤ
  pub i1 : ℤ
  pub j0 : ℤ
  pub j1 : ℤ
  pub p0 : ℤ
  pub p1 : ℤ
  pub q0 : ℤ
  pub q1 : ℤ

pub record IsInBox (b : Box) (t : Tile) : Type 0 where
  pub i0 : b.i0 ≤ℤ t.i
  pub i1 : t.i ≤ℤ b.i1
  pub j0 : b.j0 ≤ℤ t.j
  pub j1 : t.j ≤ℤ b.j1
  pub p0 : b.p0 ≤ℤ (strips_of t).p
  pub p1 : (strips_of t).p ≤ℤ b.p1
  pub q0 : b.q0 ≤ℤ (strips_of t).q
  pub q1 : (strips_of t).q ≤ℤ b.q1

-- What the strips of one tile leave of four ranges: by its column and row, i + j <= 2p + 1 <= i + j + 2 and
-- j - 1 <= i - 2q - 1 <= j + 1; and p + q <= i <= p + q + 1 and j <= p - q <= j + 1.
pub record IsFull (b : Box) : Type 0 where
  pub columns : b.i0 ≤ℤ b.i1
  pub rows : b.j0 ≤ℤ b.j1
  pub sums : b.p0 ≤ℤ b.p1
  pub differences : b.q0 ≤ℤ b.q1
  pub ij_p : (b.i0 +ℤ b.j0) ≤ℤ (twice b.p1 +ℤ pos 1)
  pub p_ij : twice b.p0 ≤ℤ ((b.i1 +ℤ b.j1) +ℤ pos 1)
  pub i_jq : b.i0 ≤ℤ ((b.j1 +ℤ twice b.q1) +ℤ pos 2)
  pub jq_i : (b.j0 +ℤ twice b.q0) ≤ℤ b.i1
  pub pq_i : (b.p0 +ℤ b.q0) ≤ℤ b.i1
  pub i_pq : b.i0 ≤ℤ ((b.p1 +ℤ b.q1) +ℤ pos 1)
  pub p_jq : b.p0 ≤ℤ ((b.j1 +ℤ b.q1) +ℤ pos 1)
  pub jq_p : (b.j0 +ℤ b.q0) ≤ℤ b.p1

abbrev greatest : ℤ → ℤ → ℤ
greatest a b = int_max a b

greatest_low : (a b : ℤ) → (a ≤ℤ greatest a b) × (b ≤ℤ greatest a b)
greatest_low a b = (omega (arith, ints, clamps), omega (arith, ints, clamps))

greatest_high : (a b u : ℤ) → a ≤ℤ u → b ≤ℤ u → greatest a b ≤ℤ u
greatest_high a b u h k = omega (arith, ints, clamps, h, k)

-- a number that is between each of four and each of four others
record Between4 (a b c d e f g h : ℤ) : Type 0 where
  k : ℤ
  from_a : a ≤ℤ k
  from_b : b ≤ℤ k
  from_c : c ≤ℤ k
  from_d : d ≤ℤ k
  to_e : k ≤ℤ e
  to_f : k ≤ℤ f
  to_g : k ≤ℤ g
  to_h : k ≤ℤ h

above4 : (a b c d u : ℤ) → a ≤ℤ u → b ≤ℤ u → c ≤ℤ u → d ≤ℤ u → greatest (greatest a b) (greatest c d) ≤ℤ u
above4 a b c d u ha hb hc hd = greatest_high _ _ u (greatest_high a b u ha hb) (greatest_high c d u hc hd)

low4 : (a b c d : ℤ) → (a ≤ℤ greatest (greatest a b) (greatest c d)) × (b ≤ℤ greatest (greatest a b) (greatest c d))
    × (c ≤ℤ greatest (greatest a b) (greatest c d)) × (d ≤ℤ greatest (greatest a b) (greatest c d))
low4 a b c d =
    let x = greatest_low a b in
    let y = greatest_low c d in
    let z = greatest_low (greatest a b) (greatest c d) in
    (omega (arith, ints, x.0, z.0), omega (arith, ints, x.1, z.0), omega (arith, ints, y.0, z.1), omega (arith, ints, y.1, z.1))

-- a row in which a tile may stand
abbrev row_in : Box → Type 0
row_in b = Between4 b.j0 (twice b.p0 -ℤ b.i1 -ℤ pos 1) (b.i0 -ℤ twice b.q1 -ℤ pos 2) (b.p0 -ℤ b.q1 -ℤ pos 1)
    b.j1 ((twice b.p1 +ℤ pos 1) -ℤ b.i0) (b.i1 -ℤ twice b.q0) (b.p1 -ℤ b.q0)

a_row : (b : Box) → IsFull b → row_in b
a_row b f =
    let a0 = b.j0 in
    let a1 = twice b.p0 -ℤ b.i1 -ℤ pos 1 in
    let a2 = b.i0 -ℤ twice b.q1 -ℤ pos 2 in
    let a3 = b.p0 -ℤ b.q1 -ℤ pos 1 in
    let low = low4 a0 a1 a2 a3 in
    record {
      k = greatest (greatest a0 a1) (greatest a2 a3);
      from_a = low.0;
      from_b = low.1;
      from_c = low.2;
      from_d = low.3;
      to_e = above4 a0 a1 a2 a3 b.j1 f.rows (omega (arith, ints, f.p_ij)) (omega (arith, ints, f.i_jq)) (omega (arith, ints, f.p_jq));
      to_f = above4 a0 a1 a2 a3 ((twice b.p1 +ℤ pos 1) -ℤ b.i0) (omega (arith, ints, f.ij_p))
          (omega (arith, ints, f.sums, f.columns)) (omega (arith, ints, f.i_pq)) (omega (arith, ints, f.sums, f.i_pq));
      to_g = above4 a0 a1 a2 a3 (b.i1 -ℤ twice b.q0) (omega (arith, ints, f.jq_i)) (omega (arith, ints, f.pq_i))
          (omega (arith, ints, f.columns, f.differences)) (omega (arith, ints, f.pq_i, f.differences));
      to_h = above4 a0 a1 a2 a3 (b.p1 -ℤ b.q0) (omega (arith, ints, f.jq_p)) (omega (arith, ints, f.sums, f.pq_i))
          (omega (arith, ints, f.differences, f.i_pq)) (omega (arith, ints, f.sums, f.differences));
    }

-- its number in that row
record NumberIn (b : Box) (k : ℤ) : Type 0 where
  n : ℤ
  from_i : twice b.i0 ≤ℤ n
  from_p : (twice (twice b.p0) -ℤ twice k -ℤ pos 1) ≤ℤ n
  from_q : (twice (twice b.q0) +ℤ twice k +ℤ pos 1) ≤ℤ n
  to_i : n ≤ℤ (twice b.i1 +ℤ pos 1)
  to_p : n ≤ℤ (twice (twice b.p1) -ℤ twice k +ℤ pos 2)
  to_q : n ≤ℤ (twice (twice b.q1) +ℤ twice k +ℤ pos 4)

a_number : (b : Box) → IsFull b → (r : row_in b) → NumberIn b r.k
a_number b f r =
    let a0 = twice b.i0 in
    let a1 = twice (twice b.p0) -ℤ twice r.k -ℤ pos 1 in
    let a2 = twice (twice b.q0) +ℤ twice r.k +ℤ pos 1 in
    let low = low4 a0 a1 a2 a2 in
    record {
      n = greatest (greatest a0 a1) (greatest a2 a2);
      from_i = low.0;
      from_p = low.1;
      from_q = low.2;
      to_i = above4 a0 a1 a2 a2 (twice b.i1 +ℤ pos 1) (omega (arith, ints, f.columns)) (omega (arith, ints, r.from_b))
          (omega (arith, ints, r.to_g)) (omega (arith, ints, r.to_g));
      to_p = above4 a0 a1 a2 a2 (twice (twice b.p1) -ℤ twice r.k +ℤ pos 2) (omega (arith, ints, r.to_f))
          (omega (arith, ints, f.sums)) (omega (arith, ints, r.to_h)) (omega (arith, ints, r.to_h));
      to_q = above4 a0 a1 a2 a2 (twice (twice b.q1) +ℤ twice r.k +ℤ pos 4) (omega (arith, ints, r.from_c))
          (omega (arith, ints, r.from_d)) (omega (arith, ints, f.differences)) (omega (arith, ints, f.differences));
    }

-- a tile with these numbers is in the box
tile_in : (b : Box) (r : row_in b) (m : NumberIn b r.k) (t : Tile) → t.j ≡ r.k → number_in_row t ≡ m.n → IsInBox b t
tile_in b r m t e n = record {
  i0 = omega (arith, ints, n, m.from_i, i_high t);
  i1 = omega (arith, ints, n, m.to_i, i_low t);
  j0 = omega (arith, ints, e, r.from_a);
  j1 = omega (arith, ints, e, r.to_e);
  p0 = omega (arith, ints, e, n, m.from_p, p_high t);
  p1 = omega (arith, ints, e, n, m.to_p, p_low t);
  q0 = omega (arith, ints, e, n, m.from_q, q_high t);
  q1 = omega (arith, ints, e, n, m.to_q, q_low t);
}

-- some tile has its strips in four such ranges
pub tile_of_box : (b : Box) → IsFull b → (t : Tile) × IsInBox b t
tile_of_box b f =
    let r = a_row b f in
    let m = a_number b f r in
    (tile_with m.n r.k, tile_in b r m (tile_with m.n r.k) refl (tile_with_number m.n r.k))
