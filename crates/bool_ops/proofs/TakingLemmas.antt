-- Whether a list has a tile, by the windings of its edges.
use Rattle.std.proofs.Common.{◌≡◌, ◌≢◌, ◌≤ℤ◌, ◌<ℤ◌, ℤ, pos, Bool, true, false, ◌&&◌, not, refl, sym, ◌∙◌, List, [], ◌∷◌, count_by, subst, arith}
use Rattle.std.specs.Ordering.{int_eq}
use Rattle.std.specs.List.{list_any}
use Rattle.half_grid.specs.Trapezoids.{Trapezoid, count_in, trapezoid_has}
use Rattle.half_grid.specs.Edges.{EdgeParts, edges_winding}
use Rattle.half_grid.specs.declared.plane.Tile.{Tile}
use Rattle.half_grid.specs.declared.border.Operand.TheVariants.{A, B}
use Rattle.half_grid.proofs.ForCallers.{count_by-cons}
use Rattle.std.proofs.lemmas.Int.{ints}
use Rattle.half_grid.specs.Windows.{RowRange}
use Rattle.trap_join.specs.Joins.{IsTakenIn}
use Rattle.column_sweep.specs.Operands.{WindsByCount}
use Rattle.column_sweep.specs.Sweeps.{IsSwept}
use Rattle.bool_ops.specs.declared.operations.Op.{Op}
use Rattle.bool_ops.specs.Operations.{has_tile, takes, is_wound, IsInResult, IsLeftIn, IsWoundBy, IsWoundIn, IsJoinedOf}

-- a list has an item that passes a test exactly where the number of these isn't 0
any_by_count : {X : Type 0} (p : X → Bool) (xs : List X) → not (int_eq (pos (count_by p xs)) (pos 0)) ≡ list_any p xs
any_by_count p [] = refl
any_by_count p (x ∷ xs) = rw (count_by-cons p x xs) (grind (arith, any_by_count p xs))

pub has_by_winding : (traps : List Trapezoid) (t : Tile) (w : ℤ) → w ≡ pos (count_in traps t) → not (int_eq w (pos 0)) ≡ has_tile traps t
has_by_winding traps t w e = rw e (any_by_count (trapezoid_has t) traps)

-- what a sweep by the operation gives, by windings
pub swept_wound : (op : Op) (window : RowRange) (post : ℤ → ℤ → Bool → Type 0)
    → ((x y : ℤ) (r : Bool) → post x y r → r ≡ takes op (not (int_eq x (pos 0))) (not (int_eq y (pos 0))))
    → ((x y : ℤ) → post x y (takes op (not (int_eq x (pos 0))) (not (int_eq y (pos 0)))))
    → (edges : List EdgeParts) (traps : List Trapezoid) → IsSwept post edges window traps → IsJoinedOf window (IsWoundBy op edges window) traps
swept_wound op window post only allowed edges traps swept =
    let to : (t : Tile) → IsTakenIn post edges window t → IsWoundBy op edges window t = λ t h. record {
      rows = record { from = h.from; below = h.below };
      taken = sym (only _ _ true h.taken);
    } in
    let back : (t : Tile) → IsWoundBy op edges window t → IsTakenIn post edges window t = λ t h. record {
      from = h.rows.from;
      below = h.rows.below;
      taken = subst (λ r. post (edges_winding A edges t) (edges_winding B edges t) r)
          h.taken (allowed (edges_winding A edges t) (edges_winding B edges t));
    } in
    record {
      joined = swept.joined;
      covers = record { once = λ t h. swept.covers.once t (back t h); never = λ t h. swept.covers.never t (λ taken. h (to t taken)) };
    }

-- of edges that wind by the counts of two lists it is the joined list of the operation's result
pub wound_result : (op : Op) (a b : List Trapezoid) (window : RowRange) (edges : List EdgeParts)
    → WindsByCount A edges a window → WindsByCount B edges b window
    → (traps : List Trapezoid) → IsJoinedOf window (IsWoundBy op edges window) traps → IsJoinedOf window (IsInResult op a b window) traps
wound_result op a b window edges first second traps joined =
    let same : (t : Tile) → window.y0 ≤ℤ t.j → t.j <ℤ window.y1 → takes op (is_wound A edges t) (is_wound B edges t) ≡ takes op (has_tile a t) (has_tile b t) =
    λ t low high. rw (has_by_winding a t (edges_winding A edges t) (first t low high), has_by_winding b t (edges_winding B edges t) (second t low high)) refl in
    record {
      joined = joined.joined;
      covers = record {
        once = λ t h. joined.covers.once t (record { rows = h.rows; taken = same t h.rows.from h.rows.below ∙ h.taken });
        never = λ t h. joined.covers.never t (λ wound. h (record { rows = wound.rows; taken = sym (same t wound.rows.from wound.rows.below) ∙ wound.taken }));
      };
    }

-- a number that isn't 0, by the test
nonzero_test : (w : ℤ) → not (int_eq w (pos 0)) ≡ true → w ≢ pos 0
nonzero_test w h e = grind (arith, ints, h, e)

test_nonzero : (w : ℤ) → w ≢ pos 0 → not (int_eq w (pos 0)) ≡ true
test_nonzero w h = grind (arith, ints, h)

-- what a sweep by the nonzero rule gives
pub swept_union : (window : RowRange) (post : ℤ → ℤ → Bool → Type 0)
    → ((x y : ℤ) (r : Bool) → post x y r → r ≡ not (int_eq x (pos 0))) → ((x y : ℤ) → post x y (not (int_eq x (pos 0))))
    → (edges : List EdgeParts) (traps : List Trapezoid) → IsSwept post edges window traps → IsJoinedOf window (IsWoundIn edges window) traps
swept_union window post only allowed edges traps swept =
    let to : (t : Tile) → IsTakenIn post edges window t → IsWoundIn edges window t = λ t h. record {
      rows = record { from = h.from; below = h.below };
      wound = nonzero_test (edges_winding A edges t) (sym (only _ _ true h.taken));
    } in
    let back : (t : Tile) → IsWoundIn edges window t → IsTakenIn post edges window t = λ t h. record {
      from = h.rows.from;
      below = h.rows.below;
      taken = subst (λ r. post (edges_winding A edges t) (edges_winding B edges t) r)
          (test_nonzero (edges_winding A edges t) h.wound)
          (allowed (edges_winding A edges t) (edges_winding B edges t));
    } in
    record {
      joined = swept.joined;
      covers = record { once = λ t h. swept.covers.once t (back t h); never = λ t h. swept.covers.never t (λ taken. h (to t taken)) };
    }

and_first : (a b : Bool) → (a && b) ≡ true → a ≡ true
and_first true b h = refl
and_first false b h = h

and_second : (a b : Bool) → (a && b) ≡ true → b ≡ true
and_second true b h = h
and_second false true h = refl
and_second false false h = h

and_both : (a b : Bool) → a ≡ true → b ≡ true → (a && b) ≡ true
and_both true b e f = f
and_both false b e f = e

zero_test : (w : ℤ) → int_eq w (pos 0) ≡ true → w ≡ pos 0
zero_test w h = grind (arith, ints, h)

test_zero : (w : ℤ) → w ≡ pos 0 → int_eq w (pos 0) ≡ true
test_zero w e = grind (arith, ints, e)

left_test : (a b : ℤ) → (int_eq a (pos 0) && not (int_eq b (pos 0))) ≡ true → (a ≡ pos 0) × (b ≢ pos 0)
left_test a b h = (
  zero_test a (and_first (int_eq a (pos 0)) (not (int_eq b (pos 0))) h),
  nonzero_test b (and_second (int_eq a (pos 0)) (not (int_eq b (pos 0))) h),
)

test_left : (a b : ℤ) → a ≡ pos 0 → b ≢ pos 0 → (int_eq a (pos 0) && not (int_eq b (pos 0))) ≡ true
test_left a b e h = and_both (int_eq a (pos 0)) (not (int_eq b (pos 0))) (test_zero a e) (test_nonzero b h)

-- what a sweep gives of operand B where operand A isn't
pub swept_left : (window : RowRange) (post : ℤ → ℤ → Bool → Type 0)
    → ((x y : ℤ) (r : Bool) → post x y r → r ≡ (int_eq x (pos 0) && not (int_eq y (pos 0))))
    → ((x y : ℤ) → post x y (int_eq x (pos 0) && not (int_eq y (pos 0))))
    → (edges : List EdgeParts) (traps : List Trapezoid) → IsSwept post edges window traps → IsJoinedOf window (IsLeftIn edges window) traps
swept_left window post only allowed edges traps swept =
    let to : (t : Tile) → IsTakenIn post edges window t
    → IsLeftIn edges window t = λ t h.
    (let told = left_test (edges_winding A edges t) (edges_winding B edges t) (sym (only _ _ true h.taken)) in
    record {
      rows = record { from = h.from; below = h.below };
      free = told.0;
      wound = told.1;
    }) in
    let back : (t : Tile) → IsLeftIn edges window t → IsTakenIn post edges window t = λ t h. record {
      from = h.rows.from;
      below = h.rows.below;
      taken = subst (λ r. post (edges_winding A edges t) (edges_winding B edges t) r)
          (test_left (edges_winding A edges t) (edges_winding B edges t) h.free h.wound)
          (allowed (edges_winding A edges t) (edges_winding B edges t));
    } in
    record {
      joined = swept.joined;
      covers = record { once = λ t h. swept.covers.once t (back t h); never = λ t h. swept.covers.never t (λ taken. h (to t taken)) };
    }
