-- A tile is near to some tile of a legal trapezoid exactly where it is near in each strip.
use Rattle.std.proofs.Common.{ℤ, pos, negsuc, ◌+ℤ◌, ◌-ℤ◌, ◌≤ℤ◌, ◌≡◌, ◌↔◌, true, arith}
use Rattle.std.proofs.lemmas.Int.{ints, clamps}
use Rattle.std.proofs.lemmas.Bool.Decides.{nat_tests}
use Rattle.half_grid.specs.Halves.{half, is_even, twice}
use Rattle.half_grid.specs.Nearness.{DifferAtMost, IsGrown}
use Rattle.half_grid.specs.Tiles.{strips_of}
use Rattle.half_grid.specs.Trapezoids.{Trapezoid, IsInTrapezoid, IsLegal}
use Rattle.half_grid.specs.declared.plane.Tile.{Tile}
use Rattle.half_grid.proofs.ForCallers.{i_low, i_high, p_low, p_high, q_low, q_high}
use Rattle.square_size.specs.Ranges.{column_of, row_of, sum_of, difference_of, IsNearRange, IsNearInEachStrip, IsRectangle}
use Rattle.square_size.proofs.Boxes.{Box, IsFull, tile_of_box}
use Rattle.square_size.proofs.Extremes.{Span, Extremes, extremes, whole}
use Rattle.square_size.proofs.Mixing as mix
use Rattle.square_size.proofs.Mixing.{Meets, from_both, to_both, some_common}

pub half_twice : (z : ℤ) → is_even z ≡ true → half z +ℤ half z ≡ z
half_twice (pos n) e = grind (arith, ints, nat_tests)
half_twice (negsuc n) e = grind (arith, ints, nat_tests)

-- ---- near in each strip

strip_near : (strip : Tile → ℤ) (d : ℤ) (z : Trapezoid) (t u : Tile) → IsInTrapezoid z u → DifferAtMost d (strip t) (strip u) → IsNearRange strip d z t
strip_near strip d z t u h near = (strip u, record { low = u; high = u; low_in = h; high_in = h; from = omega (arith, ints); to = omega (arith, ints) }, near)

near_in_each : (dx dy : ℤ) (z : Trapezoid) (t : Tile) → IsGrown dx dy (IsInTrapezoid z) t → IsNearInEachStrip dx dy z t
near_in_each dx dy z t h = record {
  columns = strip_near column_of dx z t h.0 h.1 h.2.columns;
  rows = strip_near row_of dy z t h.0 h.1 h.2.rows;
  sums = strip_near sum_of (half (dx +ℤ dy)) z t h.0 h.1 h.2.sums;
  differences = strip_near difference_of (half (dx +ℤ dy)) z t h.0 h.1 h.2.differences;
}

-- ---- near to some tile

-- what the strips of one tile have to do with one another
ij_p : (t : Tile) → (t.i +ℤ t.j) ≤ℤ (twice (strips_of t).p +ℤ pos 1)
ij_p t = omega (arith, ints, i_low t, p_high t)

p_ij : (t : Tile) → (twice (strips_of t).p) ≤ℤ ((t.i +ℤ t.j) +ℤ pos 1)
p_ij t = omega (arith, ints, i_high t, p_low t)

i_jq : (t : Tile) → t.i ≤ℤ ((t.j +ℤ twice (strips_of t).q) +ℤ pos 2)
i_jq t = omega (arith, ints, i_low t, q_high t)

jq_i : (t : Tile) → (t.j +ℤ twice (strips_of t).q) ≤ℤ t.i
jq_i t = omega (arith, ints, i_high t, q_low t)

pq_i : (t : Tile) → ((strips_of t).p +ℤ (strips_of t).q) ≤ℤ t.i
pq_i t = omega (arith, ints, i_high t, p_low t, q_low t)

i_pq : (t : Tile) → t.i ≤ℤ (((strips_of t).p +ℤ (strips_of t).q) +ℤ pos 1)
i_pq t = omega (arith, ints, i_low t, p_high t, q_high t)

p_jq : (t : Tile) → (strips_of t).p ≤ℤ ((t.j +ℤ (strips_of t).q) +ℤ pos 1)
p_jq t = omega (arith, ints, p_low t, q_high t)

jq_p : (t : Tile) → (t.j +ℤ (strips_of t).q) ≤ℤ (strips_of t).p
jq_p t = omega (arith, ints, p_high t, q_low t)

meets : (strip : Tile → ℤ) (d : ℤ) (z : Trapezoid) (t : Tile) → pos 0 ≤ℤ d → (s : Span strip z)
    → IsNearRange strip d z t → Meets (strip s.least) (strip s.greatest) d (strip t)
meets strip d z t wide s h = record {
  some = s.low s.greatest s.greatest_in;
  wide = wide;
  from = omega (arith, ints, s.low h.1.low h.1.low_in, h.1.from, h.2.below);
  to = omega (arith, ints, s.high h.1.high h.1.high_in, h.1.to, h.2.above);
}

from_low : (low d own n : ℤ) → from_both low d own ≤ℤ n → (low ≤ℤ n) × ((own -ℤ n) ≤ℤ d)
from_low low d own n h = (omega (arith, ints, clamps, h), omega (arith, ints, clamps, h))

to_high : (high d own n : ℤ) → n ≤ℤ to_both high d own → (n ≤ℤ high) × ((n -ℤ own) ≤ℤ d)
to_high high d own n h = (omega (arith, ints, clamps, h), omega (arith, ints, clamps, h))

differ : (d own n : ℤ) → (own -ℤ n) ≤ℤ d → (n -ℤ own) ≤ℤ d → DifferAtMost d own n
differ d own n a b = record { above = a; below = b }

module _ (dx dy s : ℤ) (z : Trapezoid) (e : Extremes z) (t : Tile) (even : s +ℤ s ≡ dx +ℤ dy) (wx : pos 0 ≤ℤ dx) (wy : pos 0 ≤ℤ dy)
    (mi : Meets (column_of e.columns.least) (column_of e.columns.greatest) dx t.i) (mj : Meets (row_of e.rows.least) (row_of e.rows.greatest) dy t.j)
    (mp : Meets (sum_of e.sums.least) (sum_of e.sums.greatest) s (strips_of t).p)
    (mq : Meets (difference_of e.differences.least) (difference_of e.differences.greatest) s (strips_of t).q) where
  abbrev common : Box
  common = record {
    i0 = from_both (column_of e.columns.least) dx t.i;
    i1 = to_both (column_of e.columns.greatest) dx t.i;
    j0 = from_both (row_of e.rows.least) dy t.j;
    j1 = to_both (row_of e.rows.greatest) dy t.j;
    p0 = from_both (sum_of e.sums.least) s (strips_of t).p;
    p1 = to_both (sum_of e.sums.greatest) s (strips_of t).p;
    q0 = from_both (difference_of e.differences.least) s (strips_of t).q;
    q1 = to_both (difference_of e.differences.greatest) s (strips_of t).q;
  }

  full : IsFull common
  full = record {
    columns = some_common _ _ _ _ mi;
    rows = some_common _ _ _ _ mj;
    sums = some_common _ _ _ _ mp;
    differences = some_common _ _ _ _ mq;
    ij_p = mix.ij_p (ij_p t) even wx wy mi mj mp
        (omega (
          arith,
          ints,
          ij_p e.columns.greatest,
          e.rows.low e.columns.greatest e.columns.greatest_in,
          e.sums.high
              e.columns.greatest e.columns.greatest_in,
        ))
        (omega (
          arith,
          ints,
          ij_p e.rows.greatest,
          e.columns.low e.rows.greatest e.rows.greatest_in,
          e.sums.high
              e.rows.greatest e.rows.greatest_in,
        ))
        (omega (
          arith,
          ints,
          ij_p e.sums.least,
          e.columns.low e.sums.least e.sums.least_in,
          e.rows.low e.sums.least
              e.sums.least_in,
        ));
    p_ij = mix.p_ij (p_ij t) even wx wy mp mi mj
        (omega (
          arith,
          ints,
          p_ij e.sums.greatest,
          e.columns.high e.sums.greatest e.sums.greatest_in,
          e.rows.high
              e.sums.greatest e.sums.greatest_in,
        ))
        (omega (
          arith,
          ints,
          p_ij e.columns.least,
          e.sums.low e.columns.least e.columns.least_in,
          e.rows.high
              e.columns.least e.columns.least_in,
        ))
        (omega (
          arith,
          ints,
          p_ij e.rows.least,
          e.sums.low e.rows.least e.rows.least_in,
          e.columns.high e.rows.least
              e.rows.least_in,
        ));
    i_jq = mix.i_jq (i_jq t) even wx wy mi mj mq
        (omega (
          arith,
          ints,
          i_jq e.columns.greatest,
          e.rows.high e.columns.greatest e.columns.greatest_in,
          e.differences.high e.columns.greatest e.columns.greatest_in,
        ))
        (omega (
          arith,
          ints,
          i_jq e.rows.least,
          e.columns.low e.rows.least e.rows.least_in,
          e.differences.high
              e.rows.least e.rows.least_in,
        ))
        (omega (
          arith,
          ints,
          i_jq e.differences.least,
          e.columns.low e.differences.least e.differences.least_in,
          e.rows.high e.differences.least e.differences.least_in,
        ));
    jq_i = mix.jq_i (jq_i t) even wx wy mj mq mi
        (omega (
          arith,
          ints,
          jq_i e.rows.greatest,
          e.differences.low e.rows.greatest e.rows.greatest_in,
          e.columns.high
              e.rows.greatest e.rows.greatest_in,
        ))
        (omega (
          arith,
          ints,
          jq_i e.differences.greatest,
          e.rows.low e.differences.greatest e.differences.greatest_in,
          e.columns.high e.differences.greatest e.differences.greatest_in,
        ))
        (omega (
          arith,
          ints,
          jq_i e.columns.least,
          e.rows.low e.columns.least e.columns.least_in,
          e.differences.low
              e.columns.least e.columns.least_in,
        ));
    pq_i = mix.pq_i (pq_i t) even wx wy mp mq mi
        (omega (
          arith,
          ints,
          pq_i e.sums.greatest,
          e.differences.low e.sums.greatest e.sums.greatest_in,
          e.columns.high
              e.sums.greatest e.sums.greatest_in,
        ))
        (omega (
          arith,
          ints,
          pq_i e.differences.greatest,
          e.sums.low e.differences.greatest e.differences.greatest_in,
          e.columns.high e.differences.greatest e.differences.greatest_in,
        ))
        (omega (
          arith,
          ints,
          pq_i e.columns.least,
          e.sums.low e.columns.least e.columns.least_in,
          e.differences.low
              e.columns.least e.columns.least_in,
        ));
    i_pq = mix.i_pq (i_pq t) even wx wy mi mp mq
        (omega (
          arith,
          ints,
          i_pq e.columns.greatest,
          e.sums.high e.columns.greatest e.columns.greatest_in,
          e.differences.high e.columns.greatest e.columns.greatest_in,
        ))
        (omega (
          arith,
          ints,
          i_pq e.sums.least,
          e.columns.low e.sums.least e.sums.least_in,
          e.differences.high
              e.sums.least e.sums.least_in,
        ))
        (omega (
          arith,
          ints,
          i_pq e.differences.least,
          e.columns.low e.differences.least e.differences.least_in,
          e.sums.high e.differences.least e.differences.least_in,
        ));
    p_jq = mix.p_jq (p_jq t) even wx wy mp mj mq
        (omega (
          arith,
          ints,
          p_jq e.sums.greatest,
          e.rows.high e.sums.greatest e.sums.greatest_in,
          e.differences.high
              e.sums.greatest e.sums.greatest_in,
        ))
        (omega (
          arith,
          ints,
          p_jq e.rows.least,
          e.sums.low e.rows.least e.rows.least_in,
          e.differences.high
              e.rows.least e.rows.least_in,
        ))
        (omega (
          arith,
          ints,
          p_jq e.differences.least,
          e.sums.low e.differences.least e.differences.least_in,
          e.rows.high e.differences.least e.differences.least_in,
        ));
    jq_p = mix.jq_p (jq_p t) even wx wy mj mq mp
        (omega (
          arith,
          ints,
          jq_p e.rows.greatest,
          e.differences.low e.rows.greatest e.rows.greatest_in,
          e.sums.high
              e.rows.greatest e.rows.greatest_in,
        ))
        (omega (
          arith,
          ints,
          jq_p e.differences.greatest,
          e.rows.low e.differences.greatest e.differences.greatest_in,
          e.sums.high e.differences.greatest e.differences.greatest_in,
        ))
        (omega (
          arith,
          ints,
          jq_p e.sums.least,
          e.rows.low e.sums.least e.sums.least_in,
          e.differences.low e.sums.least
              e.sums.least_in,
        ));
  }

  near_tile : (u : Tile) × IsInTrapezoid z u × DifferAtMost dx t.i u.i × DifferAtMost dy t.j u.j
      × DifferAtMost s (strips_of t).p (strips_of u).p × DifferAtMost s (strips_of t).q (strips_of u).q
  near_tile =
      let found = tile_of_box common full in
      let u = found.0 in
      let b = found.1 in
      let i0 = from_low _ _ _ _ b.i0 in
      let i1 = to_high _ _ _ _ b.i1 in
      let j0 = from_low _ _ _ _ b.j0 in
      let j1 = to_high _ _ _ _ b.j1 in
      let p0 = from_low _ _ _ _ b.p0 in
      let p1 = to_high _ _ _ _ b.p1 in
      let q0 = from_low _ _ _ _ b.q0 in
      let q1 = to_high _ _ _ _ b.q1 in
      (u, whole z e u i0.0 i1.0 j0.0 j1.0 p0.0 p1.0 q0.0 q1.0, differ _ _ _ i0.1 i1.1, differ _ _ _ j0.1 j1.1, differ _ _ _ p0.1 p1.1, differ _ _ _ q0.1 q1.1)

-- near to some tile of the trapezoid, by the extremes of its strips
pub record MeetsAll (dx dy s : ℤ) (z : Trapezoid) (e : Extremes z) (t : Tile) : Type 0 where
  pub columns : Meets (column_of e.columns.least) (column_of e.columns.greatest) dx t.i
  pub rows : Meets (row_of e.rows.least) (row_of e.rows.greatest) dy t.j
  pub sums : Meets (sum_of e.sums.least) (sum_of e.sums.greatest) s (strips_of t).p
  pub differences : Meets (difference_of e.differences.least) (difference_of e.differences.greatest) s (strips_of t).q

pub near_where_meets : (dx dy : ℤ) (z : Trapezoid) (e : Extremes z) (t : Tile) → IsRectangle dx dy
    → MeetsAll dx dy (half (dx +ℤ dy)) z e t → IsGrown dx dy (IsInTrapezoid z) t
near_where_meets dx dy z e t r m =
    let found = near_tile dx dy (half (dx +ℤ dy)) z e t (half_twice (dx +ℤ dy) r.even) r.columns r.rows m.columns m.rows m.sums m.differences in
    (found.0, found.1, record { columns = found.2; rows = found.3; sums = found.4; differences = found.5 })

meets_where_each : (dx dy : ℤ) (z : Trapezoid) (e : Extremes z) (t : Tile) → IsRectangle dx dy
    → IsNearInEachStrip dx dy z t → MeetsAll dx dy (half (dx +ℤ dy)) z e t
meets_where_each dx dy z e t r n =
    let even = half_twice (dx +ℤ dy) r.even in
    let ws : pos 0 ≤ℤ half (dx +ℤ dy) = omega (arith, ints, even, r.columns, r.rows) in
    record {
      columns = meets column_of dx z t r.columns e.columns n.columns;
      rows = meets row_of dy z t r.rows e.rows n.rows;
      sums = meets sum_of (half (dx +ℤ dy)) z t ws e.sums n.sums;
      differences = meets difference_of (half (dx +ℤ dy)) z t ws e.differences n.differences;
    }

pub meets_where_near : (dx dy : ℤ) (z : Trapezoid) (e : Extremes z) (t : Tile) → IsRectangle dx dy
    → IsGrown dx dy (IsInTrapezoid z) t → MeetsAll dx dy (half (dx +ℤ dy)) z e t
meets_where_near dx dy z e t r h = meets_where_each dx dy z e t r (near_in_each dx dy z t h)

near_to_some : (dx dy : ℤ) (z : Trapezoid) (t : Tile) → IsRectangle dx dy → IsLegal z → IsNearInEachStrip dx dy z t → IsGrown dx dy (IsInTrapezoid z) t
near_to_some dx dy z t r legal n = near_where_meets dx dy z (extremes z legal) t r (meets_where_each dx dy z (extremes z legal) t r n)

pub near_by_strips : (dx dy : ℤ) (z : Trapezoid) (t : Tile) → IsRectangle dx dy → IsLegal z → IsGrown dx dy (IsInTrapezoid z) t ↔ IsNearInEachStrip dx dy z t
near_by_strips dx dy z t r legal = (near_in_each dx dy z t, near_to_some dx dy z t r legal)
