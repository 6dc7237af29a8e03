-- What a stream of shots stands for: the shots of what is in hand of one trapezoid, and then those of each trapezoid
-- that the source still gives. In hand are a piece, whose shots come first, and the rows above it.
use Rattle.std.specs.Prelude.{◌≡◌, ℕ, suc, ◌*◌, ℤ, List, [], ◌++◌, Option, Some, None}
use Rattle.half_grid.specs.Trapezoids.{Trapezoid, trapezoid}
use Rattle.fracture.specs.declared.cuts.InHand.{InHand}
use Rattle.fracture.specs.declared.cuts.Rest.{Rest}
use Rattle.fracture.specs.Cutting.{cut_by_width, cut_list, shots_of, enough_cuts}

-- the shots of a piece and of the rows above it, where there are such
abbrev pub shots_of_piece : ℤ → Option Trapezoid → List Trapezoid
shots_of_piece width None = []
shots_of_piece width (Some piece) = cut_by_width width piece

abbrev pub shots_of_rows : ℤ → ℤ → Option Trapezoid → List Trapezoid
shots_of_rows height width None = []
shots_of_rows height width (Some rows) = cut_list height width rows

-- what is kept to be cut, as a trapezoid
abbrev pub trap_of : Option Rest → Option Trapezoid
trap_of None = None
trap_of (Some rest) = Some (trapezoid rest.y0 rest.y1 rest.left rest.right)

abbrev pub shots_in_hand : InHand → List Trapezoid
shots_in_hand hand = shots_of_piece hand.limits.width (trap_of hand.piece) ++ shots_of_rows hand.limits.height hand.limits.width (trap_of hand.above)

-- No trapezoid has more shots than this.
unfoldable pub most_shots : ℕ
most_shots = suc enough_cuts * suc enough_cuts

module _ {S : Type 0} (source_for : S → List Trapezoid → Type 0) where
  -- the shots in hand, and then those of the trapezoids that the source gives, are this list
  pub record StandsForCuts (source : S) (hand : InHand) (shots : List Trapezoid) : Type 0 where
    pub traps : List Trapezoid
    pub is : shots ≡ shots_in_hand hand ++ shots_of hand.limits.height hand.limits.width traps
    pub given : source_for source traps
