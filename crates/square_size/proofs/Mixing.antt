-- Two boxes, one of a trapezoid's extremes and one round a tile, have a tile in common: the arithmetic of each of the
-- conditions, where each end is that of the one box or of the other.
use Rattle.std.proofs.Common.{ℤ, pos, ◌+ℤ◌, ◌-ℤ◌, ◌≤ℤ◌, ◌≡◌, arith}
use Rattle.std.proofs.lemmas.Int.{ints, clamps}
use Rattle.std.specs.Int.{int_max, int_min}
use Rattle.half_grid.specs.Halves.{twice}

-- a range of one strip, and a tile's own number in it, which differs by at most d from some number of the range
pub record Meets (low high d own : ℤ) : Type 0 where
  pub some : low ≤ℤ high
  pub wide : pos 0 ≤ℤ d
  pub from : low ≤ℤ (own +ℤ d)
  pub to : (own -ℤ d) ≤ℤ high

-- the least and the greatest number that are in the range and near to the tile's own
abbrev pub from_both : ℤ → ℤ → ℤ → ℤ
from_both low d own = int_max low (own -ℤ d)

abbrev pub to_both : ℤ → ℤ → ℤ → ℤ
to_both high d own = int_min high (own +ℤ d)

pub some_common : (low high d own : ℤ) → Meets low high d own → from_both low d own ≤ℤ to_both high d own
some_common low high d own m = omega (arith, ints, clamps, m.some, m.wide, m.from, m.to)

pub ij_p : {i j p dx dy s i0 i1 j0 j1 p0 p1 : ℤ} → (i +ℤ j) ≤ℤ (twice p +ℤ pos 1) → (s +ℤ s) ≡ (dx +ℤ dy) → pos 0 ≤ℤ dx
    → pos 0 ≤ℤ dy → Meets i0 i1 dx i → Meets j0 j1 dy j → Meets p0 p1 s p → (i1 +ℤ j0) ≤ℤ (twice p1 +ℤ pos 1)
    → (i0 +ℤ j1) ≤ℤ (twice p1 +ℤ pos 1) → (i0 +ℤ j0) ≤ℤ (twice p0 +ℤ pos 1)
    → (from_both i0 dx i +ℤ from_both j0 dy j) ≤ℤ (twice (to_both p1 s p) +ℤ pos 1)
ij_p own even x y mi mj mp ei ej ep = omega (
  arith,
  ints,
  clamps,
  own,
  even,
  x,
  y,
  mi.some,
  mi.from,
  mi.to,
  mj.some,
  mj.from,
  mj.to,
  mp.some,
  mp.from,
  mp.to,
  ei,
  ej,
  ep,
)

pub p_ij : {p i j s dx dy p0 p1 i0 i1 j0 j1 : ℤ} → (twice p) ≤ℤ ((i +ℤ j) +ℤ pos 1) → (s +ℤ s) ≡ (dx +ℤ dy)
    → pos 0 ≤ℤ dx → pos 0 ≤ℤ dy → Meets p0 p1 s p → Meets i0 i1 dx i → Meets j0 j1 dy j
    → (twice p1) ≤ℤ ((i1 +ℤ j1) +ℤ pos 1) → (twice p0) ≤ℤ ((i0 +ℤ j1) +ℤ pos 1) → (twice p0) ≤ℤ ((i1 +ℤ j0) +ℤ pos 1)
    → (twice (from_both p0 s p)) ≤ℤ ((to_both i1 dx i +ℤ to_both j1 dy j) +ℤ pos 1)
p_ij own even x y mp mi mj ep ei ej = omega (
  arith,
  ints,
  clamps,
  own,
  even,
  x,
  y,
  mp.some,
  mp.from,
  mp.to,
  mi.some,
  mi.from,
  mi.to,
  mj.some,
  mj.from,
  mj.to,
  ep,
  ei,
  ej,
)

pub i_jq : {i j q dx dy s i0 i1 j0 j1 q0 q1 : ℤ} → i ≤ℤ ((j +ℤ twice q) +ℤ pos 2) → (s +ℤ s) ≡ (dx +ℤ dy) → pos 0 ≤ℤ dx
    → pos 0 ≤ℤ dy → Meets i0 i1 dx i → Meets j0 j1 dy j → Meets q0 q1 s q → i1 ≤ℤ ((j1 +ℤ twice q1) +ℤ pos 2)
    → i0 ≤ℤ ((j0 +ℤ twice q1) +ℤ pos 2) → i0 ≤ℤ ((j1 +ℤ twice q0) +ℤ pos 2)
    → (from_both i0 dx i) ≤ℤ ((to_both j1 dy j +ℤ twice (to_both q1 s q)) +ℤ pos 2)
i_jq own even x y mi mj mq ei ej eq = omega (
  arith,
  ints,
  clamps,
  own,
  even,
  x,
  y,
  mi.some,
  mi.from,
  mi.to,
  mj.some,
  mj.from,
  mj.to,
  mq.some,
  mq.from,
  mq.to,
  ei,
  ej,
  eq,
)

pub jq_i : {j q i dy s dx j0 j1 q0 q1 i0 i1 : ℤ} → (j +ℤ twice q) ≤ℤ i → (s +ℤ s) ≡ (dx +ℤ dy) → pos 0 ≤ℤ dx
    → pos 0 ≤ℤ dy → Meets j0 j1 dy j → Meets q0 q1 s q → Meets i0 i1 dx i → (j1 +ℤ twice q0) ≤ℤ i1
    → (j0 +ℤ twice q1) ≤ℤ i1 → (j0 +ℤ twice q0) ≤ℤ i0
    → (from_both j0 dy j +ℤ twice (from_both q0 s q)) ≤ℤ (to_both i1 dx i)
jq_i own even x y mj mq mi ej eq ei = omega (
  arith,
  ints,
  clamps,
  own,
  even,
  x,
  y,
  mj.some,
  mj.from,
  mj.to,
  mq.some,
  mq.from,
  mq.to,
  mi.some,
  mi.from,
  mi.to,
  ej,
  eq,
  ei,
)

pub pq_i : {p q i s dx dy p0 p1 q0 q1 i0 i1 : ℤ} → (p +ℤ q) ≤ℤ i → (s +ℤ s) ≡ (dx +ℤ dy) → pos 0 ≤ℤ dx → pos 0 ≤ℤ dy
    → Meets p0 p1 s p → Meets q0 q1 s q → Meets i0 i1 dx i → (p1 +ℤ q0) ≤ℤ i1 → (p0 +ℤ q1) ≤ℤ i1 → (p0 +ℤ q0) ≤ℤ i0
    → (from_both p0 s p +ℤ from_both q0 s q) ≤ℤ (to_both i1 dx i)
pq_i own even x y mp mq mi ep eq ei = omega (
  arith,
  ints,
  clamps,
  own,
  even,
  x,
  y,
  mp.some,
  mp.from,
  mp.to,
  mq.some,
  mq.from,
  mq.to,
  mi.some,
  mi.from,
  mi.to,
  ep,
  eq,
  ei,
)

pub i_pq : {i p q dx s dy i0 i1 p0 p1 q0 q1 : ℤ} → i ≤ℤ ((p +ℤ q) +ℤ pos 1) → (s +ℤ s) ≡ (dx +ℤ dy) → pos 0 ≤ℤ dx
    → pos 0 ≤ℤ dy → Meets i0 i1 dx i → Meets p0 p1 s p → Meets q0 q1 s q → i1 ≤ℤ ((p1 +ℤ q1) +ℤ pos 1)
    → i0 ≤ℤ ((p0 +ℤ q1) +ℤ pos 1) → i0 ≤ℤ ((p1 +ℤ q0) +ℤ pos 1)
    → (from_both i0 dx i) ≤ℤ ((to_both p1 s p +ℤ to_both q1 s q) +ℤ pos 1)
i_pq own even x y mi mp mq ei ep eq = omega (
  arith,
  ints,
  clamps,
  own,
  even,
  x,
  y,
  mi.some,
  mi.from,
  mi.to,
  mp.some,
  mp.from,
  mp.to,
  mq.some,
  mq.from,
  mq.to,
  ei,
  ep,
  eq,
)

pub p_jq : {p j q s dy dx p0 p1 j0 j1 q0 q1 : ℤ} → p ≤ℤ ((j +ℤ q) +ℤ pos 1) → (s +ℤ s) ≡ (dx +ℤ dy) → pos 0 ≤ℤ dx
    → pos 0 ≤ℤ dy → Meets p0 p1 s p → Meets j0 j1 dy j → Meets q0 q1 s q → p1 ≤ℤ ((j1 +ℤ q1) +ℤ pos 1)
    → p0 ≤ℤ ((j0 +ℤ q1) +ℤ pos 1) → p0 ≤ℤ ((j1 +ℤ q0) +ℤ pos 1)
    → (from_both p0 s p) ≤ℤ ((to_both j1 dy j +ℤ to_both q1 s q) +ℤ pos 1)
p_jq own even x y mp mj mq ep ej eq = omega (
  arith,
  ints,
  clamps,
  own,
  even,
  x,
  y,
  mp.some,
  mp.from,
  mp.to,
  mj.some,
  mj.from,
  mj.to,
  mq.some,
  mq.from,
  mq.to,
  ep,
  ej,
  eq,
)

pub jq_p : {j q p dy s dx j0 j1 q0 q1 p0 p1 : ℤ} → (j +ℤ q) ≤ℤ p → (s +ℤ s) ≡ (dx +ℤ dy) → pos 0 ≤ℤ dx → pos 0 ≤ℤ dy
    → Meets j0 j1 dy j → Meets q0 q1 s q → Meets p0 p1 s p → (j1 +ℤ q0) ≤ℤ p1 → (j0 +ℤ q1) ≤ℤ p1 → (j0 +ℤ q0) ≤ℤ p0
    → (from_both j0 dy j +ℤ from_both q0 s q) ≤ℤ (to_both p1 s p)
jq_p own even x y mj mq mp ej eq ep = omega (
  arith,
  ints,
  clamps,
  own,
  even,
  x,
  y,
  mj.some,
  mj.from,
  mj.to,
  mq.some,
  mq.from,
  mq.to,
  mp.some,
  mp.from,
  mp.to,
  ej,
  eq,
  ep,
)
