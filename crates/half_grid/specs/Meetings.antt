-- Where two lines meet: at a Y where both have the same X. Two lines of different kinds meet at just one Y, which
-- is whole, and two different lines of one kind never meet.
use Rattle.std.specs.Prelude.{ℤ, ◌≡◌, ◌≤ℤ◌, ◌<ℤ◌}
use Rattle.half_grid.specs.Lines.{x_on}
use Rattle.half_grid.specs.declared.plane.Line.{Line}

abbrev pub MeetAt : Line → Line → ℤ → Type 0
MeetAt l m y = x_on l y ≡ x_on m y

-- they meet at this Y and at no other
pub record MeetOnlyAt (l m : Line) (y : ℤ) : Type 0 where
  pub here : MeetAt l m y
  pub only : (z : ℤ) → MeetAt l m z → z ≡ y

-- they meet nowhere, or are one
abbrev pub AreParallel : Line → Line → Type 0
AreParallel l m = (z : ℤ) → MeetAt l m z → l ≡ m

-- they meet above the bottom of the row j, and not above the bottom of the row k
pub record MeetBetween (l m : Line) (j k : ℤ) : Type 0 where
  pub y : ℤ
  pub above : j <ℤ y
  pub up_to : y ≤ℤ k
  pub meet : MeetAt l m y
