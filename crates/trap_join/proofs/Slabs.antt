-- The runs of a slab's rows as runs of the area that the rule takes.
use Rattle.std.proofs.Common.{◌≡◌, ℤ, pos, ◌+ℤ◌, ◌≤ℤ◌, ◌<ℤ◌, Bool, arith, refl, ap, subst, ◌∙◌, sym, List, [], ◌∷◌}
use Rattle.std.proofs.lemmas.Int.{ints}
use Rattle.std.proofs.lemmas.List.Elements.{All-contains}
use Rattle.std.specs.List.{Contains}
use mathlib.Core.Logic.{◌⊎◌, inl, inr}
use Rattle.half_grid.specs.Edges.{EdgeParts}
use Rattle.half_grid.specs.Rows.{place, number_in_row}
use Rattle.half_grid.specs.Windows.{RowRange}
use Rattle.half_grid.specs.declared.plane.Tile.{Tile}
use Rattle.half_grid.specs.declared.plane.Line.{Line}
use Rattle.half_grid.proofs.ForCallers.{tile_with, tile_with_number}
use Rattle.scan_line.specs.Runs.{IsTaken, RunHas, StandApart, AreRuns}
use Rattle.scan_line.specs.declared.runs.Run.{Run}
use Rattle.trap_join.specs.Maximal.{IsRunAt}
use Rattle.trap_join.specs.Joins.{IsTakenIn}
use Rattle.trap_join.proofs.Members.{none_in_empty, first_or_later, some_member, any_by}
use Rattle.trap_join.proofs.Merging.{run_has_tile}
use Rattle.trap_join.proofs.Rows.{inside_at, same_left, same_right}

-- a run of one area is a run of another that has the same tiles in the row
pub run_in : (first second : Tile → Type 0) (l r : Line) (j : ℤ) → ((t : Tile) → t.j ≡ j → first t → second t)
    → ((t : Tile) → t.j ≡ j → second t → first t) → IsRunAt first l r j → IsRunAt second l r j
run_in first second l r j f g run = record {
  has_tile = run.has_tile;
  inside = λ t e a b. f t e (run.inside t e a b);
  left_end = λ t e n a. run.left_end t e n (g t e a);
  right_end = λ t e n a. run.right_end t e n (g t e a);
}

-- one of two runs of a row ends before the other begins, or they are one
pub which_first : (j : ℤ) (runs : List Run) (m n : Run) → StandApart j runs → Contains runs m → Contains runs n
    → (m ≡ n) ⊎ ((place m.right j <ℤ place n.left j) ⊎ (place n.right j <ℤ place m.left j))
which_first j [] m n apart hm hn = none_in_empty m hm
which_first j (x ∷ runs) m n apart hm hn =
    elim (first_or_later x m runs hm) [
      | inl em ↦ elim (first_or_later x n runs hn) [
        | inl en ↦ inl (sym em ∙ en)
        | inr ln ↦ inr (inl (subst (λ (u : Run). place u.right j <ℤ place n.left j) em
            (All-contains (λ (u : Run). place x.right j <ℤ place u.left j) runs n apart.1 ln)))
      ]
      | inr lm ↦ elim (first_or_later x n runs hn) [
        | inl en ↦ inr (inr (subst (λ (u : Run). place u.right j <ℤ place m.left j) en
            (All-contains (λ (u : Run). place x.right j <ℤ place u.left j) runs m apart.1 lm)))
        | inr ln ↦ which_first j runs m n apart.2 lm ln
      ]
    ]

-- the run with this tile
pub record Has (j x : ℤ) (runs : List Run) : Type 0 where
  pub m : Run
  pub member : Contains runs m
  pub from : place m.left j ≤ℤ x
  pub to : x <ℤ place m.right j

module _ (post : ℤ → ℤ → Bool → Type 0) (edges : List EdgeParts) where
  -- a tile that is taken in some rows is taken in others that have its row
  pub other_rows : (first second : RowRange) (t : Tile) (j : ℤ) → t.j ≡ j → second.y0 ≤ℤ j → j <ℤ second.y1
      → IsTakenIn post edges first t → IsTakenIn post edges second t
  other_rows first second t j e a b h = record { from = rw e a; below = rw e b; taken = h.taken }

  pub run_in_rows : (first second : RowRange) (l r : Line) (j : ℤ) → first.y0 ≤ℤ j → j <ℤ first.y1 → second.y0 ≤ℤ j
      → j <ℤ second.y1 → IsRunAt (IsTakenIn post edges first) l r j → IsRunAt (IsTakenIn post edges second) l r j
  run_in_rows first second l r j a b c d run =
      run_in (IsTakenIn post edges first) (IsTakenIn post edges second) l r j
      (λ t e h. other_rows first second t j e c d h) (λ t e h. other_rows second first t j e a b h) run

  module _ (j : ℤ) (runs : List Run) (are : AreRuns post edges j runs) where
    taken_by : (t : Tile) (n : Run) → t.j ≡ j → Contains runs n → place n.left j ≤ℤ number_in_row t → number_in_row t <ℤ place n.right j → IsTaken post edges t
    taken_by t n e h a b = (are.taken t e).1 (any_by (RunHas t) n runs h (record { from_left = rw e a; below_right = rw e b }))

    pub has_taken : (t : Tile) → t.j ≡ j → IsTaken post edges t → Has j (number_in_row t) runs
    has_taken t e h =
        let s = some_member (RunHas t) runs ((are.taken t e).0 h) in
        record {
          m = s.0;
          member = s.1;
          from = subst
              (λ (x : ℤ). place s.0.left x ≤ℤ number_in_row t) e s.2.from_left;
          to = subst
              (λ (x : ℤ). number_in_row t <ℤ place s.0.right x) e s.2.below_right;
        }

    not_between : (n : Run) (x : ℤ) → Contains runs n → Has j x runs → ((x +ℤ pos 1) ≡ place n.left j) ⊎ (x ≡ place n.right j) → ⊥
    not_between n x h has side =
        let own = run_has_tile j runs n are.apart h in
        let from = has.from in
        let to = has.to in
        elim (which_first j runs has.m n are.apart has.member h) [
          | inl e ↦ (let el : place has.m.left j ≡ place n.left j = ap (λ (u : Run). place u.left j) e in
              let er : place has.m.right j ≡ place n.right j = ap (λ (u : Run). place u.right j) e in
              elim side [ inl s ↦ omega (arith, ints, el, er, from, to, s) | inr s ↦ omega (arith, ints, el, er, from, to, s) ])
          | inr (inl before) ↦ elim side [ inl s ↦ omega (arith, ints, before, from, to, own, s) | inr s ↦ omega (arith, ints, before, from, to, own, s) ]
          | inr (inr after) ↦ elim side [ inl s ↦ omega (arith, ints, after, from, to, own, s) | inr s ↦ omega (arith, ints, after, from, to, own, s) ]
        ]

    -- a run of the scan is a run of the area
    pub scan_run : (rows : RowRange) (n : Run) → rows.y0 ≤ℤ j → j <ℤ rows.y1 → Contains runs n → IsRunAt (IsTakenIn post edges rows) n.left n.right j
    scan_run rows n low high h = record {
      has_tile = run_has_tile j runs n are.apart h;
      inside = λ t e a b. record { from = rw e low; below = rw e high; taken = taken_by t n e h a b };
      left_end = λ t e s a. not_between n (number_in_row t) h (has_taken t e a.taken) (inl s);
      right_end = λ t e s a. not_between n (number_in_row t) h (has_taken t e a.taken) (inr s);
    }

    -- a run of the area is a run of the scan
    pub found_run : (rows : RowRange) (l r : Line) → rows.y0 ≤ℤ j → j <ℤ rows.y1
        → IsRunAt (IsTakenIn post edges rows) l r j → (n : Run) × Contains runs n × (n.left ≡ l) × (n.right ≡ r)
    found_run rows l r low high run =
        let x = place l j in
        let inside = inside_at l r j x run (omega (arith, ints)) run.has_tile in
        let has = has_taken (tile_with x j) refl inside.taken in
        let from = rw (tile_with_number x j) at has.from in
        let to = rw (tile_with_number x j) at has.to in
        let own = scan_run rows has.m low high has.member in (
          has.m,
          has.member,
          same_left has.m.left has.m.right l r j x own run from to (omega (arith, ints)) run.has_tile,
          same_right has.m.left has.m.right l r j x own run from to (omega (arith, ints)) run.has_tile,
        )
