-- What a scan's joined list is for the edges that the scan was given, in whatever order it keeps them.
use Rattle.std.proofs.Common.{◌≡◌, ℤ, Bool, List, IsPermutation}
use Rattle.std.proofs.lemmas.List.Sorted.{IsPermutation-sym, IsPermutation-trans}
use Rattle.half_grid.specs.Edges.{EdgeParts}
use Rattle.half_grid.specs.Trapezoids.{Trapezoid}
use Rattle.half_grid.specs.Windows.{RowRange}
use Rattle.scan_line.proofs.ForCallers.{balanced_permuted, taken_permuted}
use Rattle.scan_line.specs.Runs.{IsBalanced}
use Rattle.column_sweep.specs.Sweeps.{IsSwept}
use Rattle.column_sweep.specs.Tries.{IsTried}
use Rattle.column_sweep.specs.declared.sweep.Tried.{Tried}
use Rattle.column_sweep.specs.declared.sweep.Tried.TheVariants.{Whole, GivenUp}

pub balanced_rest : (edges rest : List EdgeParts) (window : RowRange) → IsPermutation rest edges → IsBalanced edges window → IsBalanced rest window
balanced_rest edges rest window same h = balanced_permuted edges rest window (IsPermutation-sym _ _ same) h

pub swept_rest : (post : ℤ → ℤ → Bool → Type 0) (edges rest : List EdgeParts) (window : RowRange)
    → IsPermutation rest edges → (traps : List Trapezoid) → IsSwept post rest window traps
    → IsSwept post edges window traps
swept_rest post edges rest window same traps h = record {
  joined = h.joined;
  covers = record {
    once = λ t taken. h.covers.once t (record { from = taken.from; below = taken.below; taken = (taken_permuted post rest edges t same).1 taken.taken });
    never = λ t not. h.covers.never t
        (λ taken. not (record {
          from = taken.from;
          below = taken.below;
          taken =
              (taken_permuted post rest edges t same).0 taken.taken;
        }));
  };
}

module _ {F : Type 0} (post : F → ℤ → ℤ → Bool → Type 0) where
  pub swept_of_given : (rule own : F) (edges others : List EdgeParts) (window range : RowRange) → own ≡ rule → IsPermutation edges others → range ≡ window
      → (traps : List Trapezoid) → IsSwept (post own) edges range traps → IsSwept (post rule) others window traps
  swept_of_given rule own edges others window range r same w traps h = swept_rest (post rule) others edges window same traps (rw (r, w) at h)

  pub tried_of_given : (rule own : F) (edges others : List EdgeParts) (window range : RowRange) → own ≡ rule → IsPermutation edges others → range ≡ window
      → (tried : Tried) → IsTried (post own) edges range tried → IsTried (post rule) others window tried
  tried_of_given rule own edges others window range r same w (Whole swept) h = swept_of_given rule own edges others window range r same w swept.traps.items h
  tried_of_given rule own edges others window range r same w (GivenUp rest walked) h = IsPermutation-trans rest.items edges others h same
