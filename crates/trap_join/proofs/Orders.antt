-- Lists that stand in order: parts of them, and two end to end.
use Rattle.std.proofs.Common.{ℤ, pos, ◌-ℤ◌, ◌<ℤ◌, Bool, true, false, cond, arith, refl, subst, List, [], ◌∷◌, ◌++◌, map, filter}
use Rattle.std.proofs.lemmas.Int.{ints}
use Rattle.std.proofs.lemmas.List.Elements.{All-contains, Contains-append_left, Contains-append_right, Contains-append_cases}
use Rattle.std.specs.List.{Contains}
use mathlib.Core.Logic.{inl, inr}
use Rattle.half_grid.specs.Rows.{place}
use Rattle.half_grid.specs.Trapezoids.{Trapezoid}
use Rattle.half_grid.specs.JoinedLists.{StandsBefore, StandInOrder}
use Rattle.scan_line.specs.Runs.{StandApart}
use Rattle.scan_line.specs.declared.runs.Run.{Run}
use Rattle.trap_join.specs.declared.front.Growing.{Growing}
use Rattle.trap_join.specs.Fronts.{grown_into, ended_at}
use Rattle.trap_join.proofs.Members.{none_in_empty, is_first, among_rest, first_or_later, all_members, mapped, origin, passing}

-- each of the first list stands before each of the second
abbrev pub AllBefore : List Trapezoid → List Trapezoid → Type 0
AllBefore xs ys = (x y : Trapezoid) → Contains xs x → Contains ys y → StandsBefore x y

pub order_append : (xs ys : List Trapezoid) → StandInOrder xs → StandInOrder ys → AllBefore xs ys → StandInOrder (xs ++ ys)
order_append [] ys ox oy b = oy
order_append (x ∷ xs) ys ox oy b = (
  all_members (StandsBefore x) (xs ++ ys)
      (λ z h. elim (Contains-append_cases xs ys z h) [
        | inl e ↦ All-contains (StandsBefore x) xs z ox.0 e
        | inr e ↦
            b x z (is_first x xs) e
      ]),
  order_append xs ys ox.1 oy (λ y z hy hz. b y z (among_rest x y xs hy) hz),
)

pub order_first : (xs ys : List Trapezoid) → StandInOrder (xs ++ ys) → StandInOrder xs
order_first [] ys o = tt
order_first (x ∷ xs) ys o = (
  all_members (StandsBefore x) xs
      (λ z h. All-contains (StandsBefore x) (xs ++ ys) z o.0 (Contains-append_left xs ys z h)),
  order_first xs ys o.1,
)

pub order_second : (xs ys : List Trapezoid) → StandInOrder (xs ++ ys) → StandInOrder ys
order_second [] ys o = o
order_second (x ∷ xs) ys o = order_second xs ys o.1

pub order_between : (xs ys : List Trapezoid) → StandInOrder (xs ++ ys) → AllBefore xs ys
order_between [] ys o x y hx hy = none_in_empty x hx
order_between (w ∷ xs) ys o x y hx hy =
    elim (first_or_later w x xs hx) [
      | inl e ↦ subst (λ (u : Trapezoid). StandsBefore u y) e (All-contains (StandsBefore w) (xs ++ ys) y o.0 (Contains-append_right xs ys y hy))
      | inr later ↦ order_between xs ys o.1 x y later hy
    ]

-- what passes a test stands in order
module _ (f : Growing → Trapezoid) (p : Growing → Bool) where
  passed_by : (b : Bool) (x : Growing) (xs : List Growing) → StandInOrder (f x ∷ map f xs)
      → StandInOrder (map f (filter p xs)) → StandInOrder (map f (cond b (x ∷ filter p xs) (filter p xs)))
  passed_by true x xs o later = (
    all_members (StandsBefore (f x)) (map f (filter p xs)) (λ z h. (let from = origin f z (filter p xs) h in
        let member = passing p from.0 xs from.1 in
        All-contains (StandsBefore (f x)) (map f xs) z o.0 (subst (λ (u : Trapezoid). Contains (map f xs) u) from.2 (mapped f from.0 xs member.0)))),
    later,
  )
  passed_by false x xs o later = later

  pub order_filter : (xs : List Growing) → StandInOrder (map f xs) → StandInOrder (map f (filter p xs))
  order_filter [] o = tt
  order_filter (x ∷ xs) o = passed_by (p x) x xs o (order_filter xs o.1)

-- ---- a front that ends at one Y

module _ (front : List Growing) (y top : ℤ) where
  new_before : (n : Run) (runs : List Run) → StandApart (top -ℤ pos 1) (n ∷ runs) → (z : Trapezoid)
      → Contains (map (ended_at top) (map (grown_into front y) runs)) z
      → StandsBefore (ended_at top (grown_into front y n)) z
  new_before n runs apart z h =
      let g = origin (ended_at top) z (map (grown_into front y) runs) h in
      let m = origin (grown_into front y) g.0 runs g.1 in
      let a = apart.0 in
      let b = All-contains (λ (u : Run). place n.right (top -ℤ pos 1) <ℤ place u.left (top -ℤ pos 1)) runs m.0 apart.1 m.1 in
      let before : StandsBefore (ended_at top (grown_into front y n)) (ended_at top (grown_into front y m.0)) = inr (refl, omega (arith, ints, a, b)) in
      subst (λ (u : Trapezoid). StandsBefore (ended_at top (grown_into front y n)) u) g.2
      (subst (λ (u : Growing). StandsBefore (ended_at top (grown_into front y n)) (ended_at top u)) m.2 before)

  pub order_grown : (runs : List Run) → StandApart (top -ℤ pos 1) runs → StandInOrder (map (ended_at top) (map (grown_into front y) runs))
  order_grown [] apart = tt
  order_grown (n ∷ runs) apart = (
    all_members (StandsBefore (ended_at top (grown_into front y n)))
        (map (ended_at top) (map (grown_into front y) runs)) (new_before n runs apart),
    order_grown runs apart.2,
  )
