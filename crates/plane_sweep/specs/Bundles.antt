-- The lines through one point, by their weights: at most one that falls, one that is upright and one that rises.
use Rattle.std.specs.Prelude.{ℤ, pos, negsuc, ◌+ℤ◌, ◌-ℤ◌, ◌≡◌, ◌≢◌, Bool, true, false, List, [], ◌∷◌, ◌++◌, Option, Some, None, All}
use Rattle.half_grid.specs.Lines.{x_on}
use Rattle.half_grid.specs.Rows.{place}
use Rattle.half_grid.specs.declared.plane.Line.{Line}
use Rattle.half_grid.specs.declared.plane.Line.TheVariants.{Upright, Rising, Falling}
use Rattle.half_grid.specs.declared.border.Operand.{Operand}
use Rattle.half_grid.specs.declared.border.Operand.TheVariants.{A, B}
use Rattle.active_lines.specs.declared.item.ActiveLine.{ActiveLine}
use Rattle.active_lines.specs.declared.item.Windings.{Windings}
use Rattle.row_lists.specs.declared.event.Event.{Event}
use Rattle.row_lists.specs.RowLists.{winding_of, AscendIn, change_at}
use Rattle.row_lists.specs.Halfway.{PassAt}
use Rattle.row_lists.specs.Events.{amount}
use Rattle.plane_sweep.specs.declared.bundle.Bundle.{Bundle}

abbrev pub added : Windings → Windings → Windings
added v w = record { a = v.a +ℤ w.a; b = v.b +ℤ w.b }

abbrev pub less : Windings → Windings → Windings
less v w = record { a = v.a -ℤ w.a; b = v.b -ℤ w.b }

-- what a bundle has for a line through its point
abbrev pub weight_in : Bundle → Line → Windings
weight_in b (Falling c) = b.falling
weight_in b (Upright c) = b.upright
weight_in b (Rising c) = b.rising

-- no line has a weight in the bundle
abbrev pub IsEmptyBundle : Bundle → Type 0
IsEmptyBundle b = (o : Operand) (line : Line) → winding_of o (weight_in b line) ≡ pos 0

-- the bundle with this weight more for the line
abbrev pub with_weight : Bundle → Line → Windings → Bundle
with_weight b (Falling c) w = record { falling = added b.falling w; upright = b.upright; rising = b.rising }
with_weight b (Upright c) w = record { falling = b.falling; upright = added b.upright w; rising = b.rising }
with_weight b (Rising c) w = record { falling = b.falling; upright = b.upright; rising = added b.rising w }

-- the bundle has these weights for the lines through the point
abbrev pub IsBundleOf : ℤ → ℤ → (Operand → Line → ℤ) → Bundle → Type 0
IsBundleOf y x weights b = (o : Operand) (line : Line) → x_on line y ≡ x → winding_of o (weight_in b line) ≡ weights o line

-- the lines through a point in the row below it change the windings there as the bundle has it
abbrev pub HasChangesOf : Windings → List ActiveLine → Bundle → Type 0
HasChangesOf below lines b = (y x : ℤ) → AscendIn (y -ℤ pos 1) lines → PassAt y x lines
    → IsBundleOf y x (λ o line. change_at o (y -ℤ pos 1) (place line (y -ℤ pos 1)) below lines) b

-- what the event adds to the weight of its line
abbrev pub sign_of : Bool → ℤ
sign_of true = pos 1
sign_of false = negsuc 0

abbrev pub change_for : Operand → ℤ → Windings
change_for A n = record { a = n; b = pos 0 }
change_for B n = record { a = pos 0; b = n }

abbrev pub change_of : Event → Windings
change_of e = change_for e.operand (sign_of e.up)

abbrev pub first_event : List Event → Option Event
first_event [] = None
first_event (e ∷ events) = Some e

-- the events are at the point
abbrev pub AreEventsAt : ℤ → ℤ → List Event → Type 0
AreEventsAt y x events = All (λ e. (e.y ≡ y) × (e.x ≡ x)) events

-- each event's line passes through its point
abbrev pub AreOnLines : List Event → Type 0
AreOnLines events = All (λ e. x_on e.line e.y ≡ e.x) events

-- the first event isn't at the point
abbrev pub BeginsElsewhere : ℤ → ℤ → List Event → Type 0
BeginsElsewhere y x [] = Unit {0}
BeginsElsewhere y x (e ∷ events) = (e.y ≡ y) × (e.x ≡ x) → ⊥

-- the second bundle has what these events at the point add to the first
abbrev pub HasEventsMore : ℤ → ℤ → List Event → Bundle → Bundle → Type 0
HasEventsMore y x events b c = (weights : Operand → Line → ℤ) → IsBundleOf y x weights b
    → IsBundleOf y x (λ o line. weights o line +ℤ amount o events line y) c

-- some events at the point are passed
pub record HasPassed (y x : ℤ) (events left : List Event) (b c : Bundle) : Type 0 where
  pub here : List Event
  pub split : events ≡ here ++ left
  pub at : AreEventsAt y x here
  pub more : AreOnLines events → HasEventsMore y x here b c

-- the events at the point are passed
pub record PassesEvents (y x : ℤ) (events left : List Event) (b c : Bundle) : Type 0 where
  pub passed : HasPassed y x events left b c
  pub elsewhere : BeginsElsewhere y x left

-- the falling line through the point, where there is one
abbrev pub IsFallingAt : ℤ → ℤ → Option Line → Type 0
IsFallingAt y x None = (c : ℤ) → x_on (Falling c) y ≢ x
IsFallingAt y x (Some (Upright c)) = ⊥
IsFallingAt y x (Some (Rising c)) = ⊥
IsFallingAt y x (Some (Falling c)) = x_on (Falling c) y ≡ x

-- the rising line through the point, where there is one
abbrev pub IsRisingAt : ℤ → ℤ → Option Line → Type 0
IsRisingAt y x None = (c : ℤ) → x_on (Rising c) y ≢ x
IsRisingAt y x (Some (Upright c)) = ⊥
IsRisingAt y x (Some (Rising c)) = x_on (Rising c) y ≡ x
IsRisingAt y x (Some (Falling c)) = ⊥

-- the windings right of the line, which are those left of it where there is none
abbrev pub right_of : Option Line → Windings → Windings → Windings
right_of None weight left = left
right_of (Some line) weight left = added left weight

-- the line with the windings right of it, where they aren't those left of it
abbrev pub IsLineWith : Option Line → Windings → Windings → List ActiveLine → Type 0
IsLineWith line weight left [] = right_of line weight left ≡ left
IsLineWith line weight left (l ∷ []) = (line ≡ Some l.line) × (l.windings ≡ added left weight) × (l.windings ≢ left) × (l.opened ≡ None)
IsLineWith line weight left (l ∷ m ∷ lines) = ⊥

-- it is put after the others
pub record IsPut (line : Option Line) (weight left : Windings) (before after : List ActiveLine) : Type 0 where
  pub lines : List ActiveLine
  pub split : after ≡ before ++ lines
  pub is : IsLineWith line weight left lines

-- the lines of a bundle that have a weight, in the order of the row above the point, with the windings right of each
pub record AreLinesOf (y x : ℤ) (b : Bundle) (left : Windings) (lines : List ActiveLine) (right : Windings) : Type 0 where
  pub falling_line : Option Line
  pub is_falling : IsFallingAt y x falling_line
  pub rising_line : Option Line
  pub is_rising : IsRisingAt y x rising_line
  pub falling : List ActiveLine
  pub upright : List ActiveLine
  pub rising : List ActiveLine
  pub split : lines ≡ (falling ++ upright) ++ rising
  pub first : IsLineWith falling_line b.falling left falling
  pub second : IsLineWith (Some (Upright x)) b.upright (right_of falling_line b.falling left) upright
  pub third : IsLineWith rising_line b.rising (added (right_of falling_line b.falling left) b.upright) rising
  pub last : right ≡ right_of rising_line b.rising (added (right_of falling_line b.falling left) b.upright)
