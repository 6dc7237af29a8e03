-- A stream of the pieces of shots in a stripe stands for the pieces of the shot in hand that are still to come, followed
-- by those of the shots that its source stands for.
use Rattle.std.specs.Prelude.{ℕ, ℤ, ◌≡◌, ◌≤◌, length, List, [], ◌∷◌, ◌++◌, Option, None, Some}
use Rattle.std.specs.List.{All}
use Rattle.half_grid.specs.Trapezoids.{Trapezoid, trapezoid}
use Rattle.field_split.specs.declared.part.Part.{Part}
use Rattle.field_split.specs.declared.in_hand.Ahead.{Ahead}
use Rattle.field_split.specs.declared.in_hand.InHand.{InHand}
use Rattle.field_split.specs.Cutting.{pieces_across, pieces_of_shot, pieces_of, most_pieces}
use Rattle.field_split.specs.Looks.{IsFieldShot}

abbrev pub shape_of : Part → Trapezoid
shape_of part = trapezoid part.y0 part.y1 part.left part.right

abbrev pub shape_of_some : Option Part → Option Trapezoid
shape_of_some None = None
shape_of_some (Some part) = Some (shape_of part)

-- a piece that waits, if one does
abbrev pub waiting : Option Part → List Trapezoid
waiting None = []
waiting (Some part) = shape_of part ∷ []

abbrev pub fields_of : Option Ahead → ℕ
fields_of None = 0
fields_of (Some ahead) = ahead.fields

-- the pieces in the fields that are still to be opened
abbrev pub pieces_ahead : ℤ → Option Ahead → List Trapezoid
pieces_ahead size None = []
pieces_ahead size (Some ahead) = pieces_across size (shape_of ahead.part) ahead.fields ahead.x

-- how many these are
abbrev pub fields_ahead : InHand → ℕ
fields_ahead hand = fields_of hand.ahead

-- the pieces of the field that was opened last
abbrev pub waiting_in : InHand → List Trapezoid
waiting_in hand = waiting hand.lower ++ (waiting hand.middle ++ waiting hand.upper)

abbrev pub pieces_in_hand : ℤ → InHand → List Trapezoid
pieces_in_hand size hand = waiting_in hand ++ pieces_ahead size hand.ahead

-- a shot has no more pieces in the stripe
abbrev pub HasFewPieces : ℤ → ℤ → Trapezoid → Type 0
HasFewPieces size k z = length (pieces_of_shot size k z) ≤ most_pieces

module _ {S : Type 0} (source_for : S → List Trapezoid → Type 0) where
  -- the pieces in hand, and then those of the shots that the source gives, are this list
  pub record StandsForPieces (size k : ℤ) (source : S) (hand : InHand) (pieces : List Trapezoid) : Type 0 where
    pub shots : List Trapezoid
    pub given : source_for source shots
    pub within : All IsFieldShot shots
    pub few : All (HasFewPieces size k) shots
    pub is : pieces ≡ pieces_in_hand size hand ++ pieces_of size k shots
