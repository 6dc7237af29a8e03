-- A rule that asks another one.
use Rattle.std.proofs.Common.{List, ℤ, pos, Bool, true, false, IsTrue, arith, ◌≡◌, refl, sym, subst, Option, Some, None}
use Rattle.std.proofs.lemmas.Int.{ints}
use Rattle.std.specs.Prelude.{◌↔◌}
use Rattle.half_grid.specs.Edges.{EdgeParts}
use Rattle.half_grid.specs.Trapezoids.{Trapezoid}
use Rattle.half_grid.specs.Windows.{RowRange}
use Rattle.half_grid.specs.declared.plane.Tile.{Tile}
use Rattle.trap_join.specs.Joins.{IsTakenIn}
use Rattle.scan_line.specs.Rules.{IsWinding, IsTheAnswer, IsRule, Takes}
use Rattle.column_sweep.specs.Looking.{IsFirstTaken}
use Rattle.column_sweep.specs.Sweeps.{IsSwept}
use Rattle.column_sweep.specs.Tries.{IsTried}
use Rattle.column_sweep.specs.declared.sweep.Tried.{Tried}
use Rattle.column_sweep.specs.declared.sweep.Tried.TheVariants.{Whole, GivenUp}
use Rattle.plane_sweep.specs.declared.lowest_tile.LowestTile.{LowestTile}

no_winding : IsWinding (pos 0)
no_winding = record { low = omega (arith, ints); high = omega (arith, ints) }

as_taken : (post : ℤ → ℤ → Bool → Type 0) (a b : ℤ) (answer other : Bool) → post a b answer
    → ((r : Bool) → post a b r → r ≡ answer) → (IsTrue other ↔ Takes post a b) → other ≡ answer
as_taken post a b true other is only h = h.1 is
as_taken post a b false true is only h = only true (h.0 refl)
as_taken post a b false false is only h = refl

asked : (post : ℤ → ℤ → Bool → Type 0) (a b : ℤ) (answer : Bool) → post a b answer → ((r : Bool) → post a b r → r ≡ answer) → IsTrue answer ↔ Takes post a b
asked post a b answer is only = (λ t. subst (post a b) t is, λ t. sym (only true t))

module _ (pre : ℤ → ℤ → Type 0) (post : ℤ → ℤ → Bool → Type 0) (own : ℤ → ℤ → Type 0) (gives : ℤ → ℤ → Bool → Type 0) (rule : IsRule pre post)
    (callable : (a b : ℤ) → IsWinding a → IsWinding b → own a b)
    (to : (a b : ℤ) (r : Bool) → gives a b r → IsTrue r ↔ Takes post a b) (back : (a b : ℤ) (r : Bool) → IsTrue r ↔ Takes post a b → gives a b r) where
  lent_answer : (a b : ℤ) (answer : Bool) → IsWinding a → IsWinding b → IsTheAnswer pre post a b answer → IsTheAnswer own gives a b answer
  lent_answer a b answer ha hb h = record {
    callable = callable a b ha hb;
    allowed = back a b answer (asked post a b answer h.allowed h.only);
    only = λ other g. as_taken post a b answer other h.allowed h.only (to a b other g);
  }

  pub lent_is_rule : IsRule own gives
  lent_is_rule = record {
    one_answer = λ a b ha hb. (let due = rule.one_answer a b ha hb in (due.0, lent_answer a b due.0 ha hb due.1));
    leaves_nothing = lent_answer (pos 0) (pos 0) false no_winding no_winding rule.leaves_nothing;
  }

module _ (post : ℤ → ℤ → Bool → Type 0) (gives : ℤ → ℤ → Bool → Type 0)
    (to : (a b : ℤ) (r : Bool) → gives a b r → IsTrue r ↔ Takes post a b) (back : (a b : ℤ) (r : Bool) → IsTrue r ↔ Takes post a b → gives a b r) where
  lent_taken : (edges : List EdgeParts) (window : RowRange) (t : Tile) → IsTakenIn gives edges window t → IsTakenIn post edges window t
  lent_taken edges window t h = record { from = h.from; below = h.below; taken = (to _ _ true h.taken).0 refl }

  taken_lent : (edges : List EdgeParts) (window : RowRange) (t : Tile) → IsTakenIn post edges window t → IsTakenIn gives edges window t
  taken_lent edges window t h = record { from = h.from; below = h.below; taken = back _ _ true (λ _. h.taken, λ _. refl) }

  pub lent_swept : (edges : List EdgeParts) (window : RowRange) (traps : List Trapezoid) → IsSwept gives edges window traps → IsSwept post edges window traps
  lent_swept edges window traps h = record {
    joined = h.joined;
    covers = record { once = λ t a. h.covers.once t (taken_lent edges window t a); never = λ t no. h.covers.never t (λ a. no (lent_taken edges window t a)) };
  }

  pub lent_first : (edges : List EdgeParts) (window : RowRange) (answer : Option LowestTile)
      → IsFirstTaken gives edges window answer → IsFirstTaken post edges window answer
  lent_first edges window None none = λ t taken. none t (taken_lent edges window t taken)
  lent_first edges window (Some found) lowest = record {
    taken = lent_taken edges window found.tile lowest.taken;
    a = lowest.a;
    b = lowest.b;
    first = λ t taken. lowest.first t (taken_lent edges window t taken);
  }

  pub lent_tried : (edges : List EdgeParts) (window : RowRange) (tried : Tried) → IsTried gives edges window tried → IsTried post edges window tried
  lent_tried edges window (Whole swept) h = lent_swept edges window swept.traps.items h
  lent_tried edges window (GivenUp rest walked) h = h
