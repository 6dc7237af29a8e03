-- The meetings of neighbours in a list of lines from left to right, and the least of them.
use Rattle.std.specs.Prelude.{ℤ, ◌≤ℤ◌, ◌≡◌, ◌++◌, ◌⊎◌, List, [], ◌∷◌, Option, Some, None, IfSome}
use Rattle.std.specs.Int.{int_min}
use Rattle.active_lines.specs.declared.item.ActiveLine.{ActiveLine}
use Rattle.active_lines.specs.Leaning.{MeetAbove}
use Rattle.active_lines.specs.ActiveLists.{last_of}

-- a line of the list meets the next one above, at this Y
abbrev pub SomeMeeting : List ActiveLine → ℤ → Type 0
SomeMeeting [] y = ⊥
SomeMeeting (l ∷ []) y = ⊥
SomeMeeting (l ∷ m ∷ lines) y = MeetAbove l.line m.line y ⊎ SomeMeeting (m ∷ lines) y

-- the last line of one list meets the first of the next above, at this Y
abbrev pub MeetAtSeam : List ActiveLine → List ActiveLine → ℤ → Type 0
MeetAtSeam [] next y = ⊥
MeetAtSeam (l ∷ []) [] y = ⊥
MeetAtSeam (l ∷ []) (m ∷ next) y = MeetAbove l.line m.line y
MeetAtSeam (l ∷ k ∷ lines) next y = MeetAtSeam (k ∷ lines) next y

-- there is a least Y, and it is at most this one
abbrev pub IsUpTo : ℤ → Option ℤ → Type 0
IsUpTo z None = ⊥
IsUpTo z (Some y) = y ≤ℤ z

-- the lesser of two, where there are any
abbrev pub lesser_of : Option ℤ → Option ℤ → Option ℤ
lesser_of None z = z
lesser_of (Some y) None = Some y
lesser_of (Some y) (Some z) = Some (int_min y z)

-- the Y at which the last line of one list meets the first of the next, if it does
pub record IsSeam (lines next : List ActiveLine) (meeting : Option ℤ) : Type 0 where
  pub attained : IfSome meeting (MeetAtSeam lines next)
  pub only : (y : ℤ) → MeetAtSeam lines next y → meeting ≡ Some y

-- the least Y at which a line of the list meets the next one, where there is one
pub record IsLeastMeeting (lines : List ActiveLine) (least : Option ℤ) : Type 0 where
  pub attained : IfSome least (SomeMeeting lines)
  pub no_lower : (z : ℤ) → SomeMeeting lines z → IsUpTo z least

-- the leftmost line of the list that meets the next one at the Y
pub record IsFirstMeeting (lines : List ActiveLine) (y : ℤ) (l : ActiveLine) : Type 0 where
  pub left : List ActiveLine
  pub m : ActiveLine
  pub right : List ActiveLine
  pub split : lines ≡ left ++ (l ∷ m ∷ right)
  pub meets : MeetAbove l.line m.line y
  pub none_before : SomeMeeting (left ++ l ∷ []) y → ⊥

-- `l` is the last line of one list, and meets the first of the next one at the Y
pub record IsLastMeeting (lines next : List ActiveLine) (y : ℤ) (l : ActiveLine) : Type 0 where
  pub last : last_of lines ≡ Some l
  pub meets : MeetAtSeam lines next y
