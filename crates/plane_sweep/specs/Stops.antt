-- The way over a stop: what is passed of the lines and the events, and what is left.
use Rattle.std.specs.List.{Contains}
use Rattle.std.specs.Prelude.{ℤ, pos, ◌+ℤ◌, ◌-ℤ◌, ◌≤ℤ◌, ◌<ℤ◌, ◌≡◌, ◌⊎◌, int_le, if◌then◌else◌, List, [], ◌∷◌, ◌++◌, Option, Some, None, All, IsPermutation}
use Rattle.half_grid.specs.Edges.{EdgeParts, IsEdge}
use Rattle.half_grid.specs.Lines.{x_on}
use Rattle.half_grid.specs.Reach.{IsWithinReach}
use Rattle.half_grid.specs.declared.plane.Line.{Line}
use Rattle.half_grid.specs.declared.plane.Point.{Point}
use Rattle.active_lines.specs.declared.item.ActiveLine.{ActiveLine}
use Rattle.active_lines.specs.declared.item.Windings.{Windings}
use Rattle.active_lines.specs.ActiveLists.{ActiveList}
use Rattle.active_lines.specs.Leaning.{MeetAbove, IsNearLine}
use Rattle.active_lines.specs.Neighbours.{SomeMeeting, IsFirstMeeting}
use Rattle.active_lines.specs.Points.{AscendAt}
use Rattle.row_lists.specs.declared.event.Event.{Event}
use Rattle.row_lists.specs.Events.{events_of, EventsAscend}
use Rattle.row_lists.specs.RowLists.{IsRowList}
use Rattle.row_lists.specs.Halfway.{IsHalfway, PassLeft, PassAt, PassAtOrRight}
use Rattle.plane_sweep.specs.declared.point.Sides.{Sides}
use Rattle.plane_sweep.specs.Bundles.{first_event, AreEventsAt, BeginsElsewhere}

-- events are left that begin or end above the stop; those before them don't
pub record EventsLeft (edges : List EdgeParts) (y : ℤ) (left : List Event) : Type 0 where
  pub passed : List Event
  pub whole : IsPermutation (events_of edges) (passed ++ left)
  pub ascend : EventsAscend left
  pub below : All (λ e. e.y ≤ℤ y) passed
  pub above : All (λ e. y <ℤ e.y) left

-- the event is below the point's Y, or left of the point
abbrev pub IsPassed : ℤ → ℤ → Event → Type 0
IsPassed y x e = (e.y <ℤ y) ⊎ ((e.y ≡ y) × (e.x <ℤ x))

-- the event is at the point, right of it, or above its Y
abbrev pub IsLeft : ℤ → ℤ → Event → Type 0
IsLeft y x e = (y <ℤ e.y) ⊎ ((e.y ≡ y) × (x ≤ℤ e.x))

-- these events of the edges are left at the point
pub record EventsAt (edges : List EdgeParts) (y x : ℤ) (left : List Event) : Type 0 where
  pub passed : List Event
  pub whole : IsPermutation (events_of edges) (passed ++ left)
  pub ascend : EventsAscend left
  pub before : All (IsPassed y x) passed
  pub after : All (IsLeft y x) left

-- the sweep is at the point: the lines before and after the place, the windings below and above there, the events left
pub record IsAt (edges : List EdgeParts) (y x : ℤ) (below above : Windings) (before after : List ActiveLine) (left : List Event) : Type 0 where
  pub known : All IsEdge edges
  pub halfway : IsHalfway edges y x below above before after
  pub events : EventsAt edges y x left

-- each of the lines has its point at the Y within reach
abbrev pub AreWithin : ℤ → List ActiveLine → Type 0
AreWithin y lines = All (λ l. IsWithinReach (x_on l.line y)) lines

-- the first line doesn't pass through the point
abbrev pub BeginsBeside : ℤ → ℤ → List ActiveLine → Type 0
BeginsBeside y x [] = Unit {0}
BeginsBeside y x (l ∷ lines) = x_on l.line y ≡ x → ⊥

-- the lines at the start that pass through the point
pub record PassesLines (y x : ℤ) (lines old left : List ActiveLine) : Type 0 where
  pub split : lines ≡ old ++ left
  pub at : PassAt y x old
  pub beside : BeginsBeside y x left

-- neighbours that meet at the Y do so at x or right of it
abbrev pub MeetFrom : ℤ → ℤ → List ActiveLine → Type 0
MeetFrom y x [] = Unit {0}
MeetFrom y x (l ∷ []) = Unit {0}
MeetFrom y x (l ∷ m ∷ lines) = (MeetAbove l.line m.line y → x ≤ℤ x_on l.line y) × MeetFrom y x (m ∷ lines)

-- where a way over lines ends, at the latest: at this point, or nowhere
abbrev pub EventsFrom : ℤ → Option Point → List Event → Type 0
EventsFrom y None events = (x : ℤ) → All (IsLeft y x) events
EventsFrom y (Some p) events = (p.y ≡ y) × All (IsLeft y p.x) events

abbrev pub MeetingsFrom : ℤ → Option Point → List ActiveLine → Type 0
MeetingsFrom y None lines = (x : ℤ) → MeetFrom y x lines
MeetingsFrom y (Some p) lines = (p.y ≡ y) × MeetFrom y p.x lines

abbrev pub IsUpTo : Option Point → ℤ → Type 0
IsUpTo None x = Unit {0}
IsUpTo (Some p) x = x ≤ℤ p.x

abbrev pub PassFrom : ℤ → Option Point → List ActiveLine → Type 0
PassFrom y None lines = lines ≡ []
PassFrom y (Some p) lines = PassAtOrRight y p.x lines

abbrev pub PassBefore : ℤ → Option Point → List ActiveLine → Type 0
PassBefore y None lines = Unit {0}
PassBefore y (Some p) lines = PassLeft y p.x lines

-- the lines were passed on the way, which are left of where it ends
pub record IsPassedUpTo (y : ℤ) (end : Option Point) (lines left : List ActiveLine) : Type 0 where
  pub passed : List ActiveLine
  pub split : lines ≡ passed ++ left
  pub before : PassBefore y end passed

-- the sweep is at some point up to there
pub record IsWithin (edges : List EdgeParts) (y : ℤ) (end : Option Point) (below above : Windings)
    (before after : List ActiveLine) (events : List Event) : Type 0 where
  pub x : ℤ
  pub up_to : IsUpTo end x
  pub at : IsAt edges y x below above before after events

-- the line alone passes through its point, and no event is there
pub record IsAlone (y : ℤ) (line : Line) (rest : List ActiveLine) (events : List Event) : Type 0 where
  pub beside : BeginsBeside y (x_on line y) rest
  pub beyond : All (IsLeft y (x_on line y +ℤ pos 1)) events

-- the nearer of two points of the stop, where there are any
abbrev pub nearer_of : Option Point → Option Point → Option Point
nearer_of None q = q
nearer_of (Some p) None = Some p
nearer_of (Some p) (Some q) = if int_le p.x q.x then Some p else Some q

-- the point of the first event, where that is at the Y
abbrev pub IsEventPoint : ℤ → List Event → Option Point → Type 0
IsEventPoint y events None = (e : Event) → first_event events ≡ Some e → e.y ≡ y → ⊥
IsEventPoint y events (Some p) = (e : Event) × (first_event events ≡ Some e) × (e.y ≡ y) × (p.x ≡ e.x) × (p.y ≡ y)

-- the point of the leftmost line that meets the next one at the Y
abbrev pub IsMeetingPoint : ℤ → List ActiveLine → Option Point → Type 0
IsMeetingPoint y lines None = SomeMeeting lines y → ⊥
IsMeetingPoint y lines (Some p) = (l : ActiveLine) × IsFirstMeeting lines y l × (p.x ≡ x_on l.line y) × (p.y ≡ y)

-- the line passes left of where the way ends
abbrev pub IsBeforeEnd : ℤ → Option Point → ActiveLine → Type 0
IsBeforeEnd y None l = Unit {0}
IsBeforeEnd y (Some p) l = x_on l.line y <ℤ p.x

abbrev pub IsAtEnd : ℤ → Option Point → ActiveLine → Type 0
IsAtEnd y None l = ⊥
IsAtEnd y (Some p) l = p.x ≤ℤ x_on l.line y

-- up to where the way ends, or to where the windings are the same below and above
abbrev pub HasEnded : ℤ → Option Point → Sides → List ActiveLine → Type 0
HasEnded y end sides after = (sides.below ≡ sides.above) ⊎ PassFrom y end after

-- lines were passed on the way to its end, where no event is before it and no neighbours meet
pub record GoesOn (edges : List EdgeParts) (y : ℤ) (end : Option Point) (sides : Sides) (list : ActiveList) (events : List Event) : Type 0 where
  pub within : IsWithin edges y end sides.below sides.above list.before list.after events
  pub none : EventsFrom y end events
  pub apart : MeetingsFrom y end list.after

abbrev pub PassesLinesOn : ℤ → Option Point → Sides → ActiveList → ActiveList → Sides → Type 0
PassesLinesOn y end left old new right = (edges : List EdgeParts) (events : List Event)
    → GoesOn edges y end left old events → GoesOn edges y end right new events

-- some line of these passes through the point
abbrev pub HasLineAt : ℤ → ℤ → List ActiveLine → Type 0
HasLineAt y x lines = (l : ActiveLine) × Contains lines l × (x_on l.line y ≡ x)

-- what is known of meetings: the leftmost is at this point, or none is left
abbrev pub IsNextMeeting : ℤ → Option Point → List ActiveLine → Type 0
IsNextMeeting y None lines = (x : ℤ) → MeetFrom y x lines
IsNextMeeting y (Some p) lines = (p.y ≡ y) × MeetFrom y p.x lines × HasLineAt y p.x lines

-- before the stop: the list is that of the row below it, and no event below it is left
pub record IsBelowStop (edges : List EdgeParts) (y : ℤ) (lines : List ActiveLine) (left : List Event) : Type 0 where
  pub known : All IsEdge edges
  pub list : IsRowList edges (y -ℤ pos 1) lines
  pub events : EventsLeft edges (y -ℤ pos 1) left

-- after it: the list is that of the row above it, and no event up to it is left
pub record IsAboveStop (edges : List EdgeParts) (y : ℤ) (lines : List ActiveLine) (left : List Event) : Type 0 where
  pub known : All IsEdge edges
  pub list : IsRowList edges y lines
  pub events : EventsLeft edges y left

-- on the way over the stop
pub record IsOnWay (edges : List EdgeParts) (y : ℤ) (meeting : Option Point) (sides : Sides) (list : ActiveList) (events : List Event) : Type 0 where
  pub x : ℤ
  pub at : IsAt edges y x sides.below sides.above list.before list.after events
  pub next : IsNextMeeting y meeting list.after

-- each of the lines may be put: its own number is within reach
abbrev pub AreNear : List ActiveLine → Type 0
AreNear lines = All (λ l. IsNearLine l.line) lines

-- the lines through the point at the start of these are passed
pub record PassedLines (y x : ℤ) (lines left : List ActiveLine) : Type 0 where
  pub old : List ActiveLine
  pub passes : PassesLines y x lines old left

-- the events at the point at the start of these are passed
pub record PassedEvents (y x : ℤ) (events left : List Event) : Type 0 where
  pub here : List Event
  pub split : events ≡ here ++ left
  pub at : AreEventsAt y x here
  pub elsewhere : BeginsElsewhere y x left

-- the line after the place is passed, and nothing else
abbrev pub PassesAlone : ℤ → Sides → ActiveLine → ActiveList → ActiveList → Sides → Type 0
PassesAlone y left line old new right = (edges : List EdgeParts) (x : ℤ) (events : List Event)
    → IsAt edges y x left.below left.above old.before old.after events
    → IsAlone y line.line new.after events → IsAt edges y (x_on line.line y +ℤ pos 1) right.below right.above new.before new.after events

-- lines of these that pass through the point or left of it were passed
pub record IsPassedThrough (y x : ℤ) (lines left : List ActiveLine) : Type 0 where
  pub passed : List ActiveLine
  pub split : lines ≡ passed ++ left
  pub up_to : All (λ l. x_on l.line y ≤ℤ x) passed

-- the sweep comes to the point, where the way up to it has ended
abbrev pub ComesTo : Point → Sides → ActiveList → ActiveList → Sides → Type 0
ComesTo p left old new right = (edges : List EdgeParts) (events : List Event) → GoesOn edges p.y (Some p) left old events → HasEnded p.y (Some p) left old.after
    → IsAt edges p.y p.x right.below right.above new.before new.after events × IsPassedUpTo p.y (Some p) old.after new.after

-- the next meeting isn't left of the point
abbrev pub IsFrom : ℤ → Option Point → Type 0
IsFrom x None = Unit {0}
IsFrom x (Some p) = x ≤ℤ p.x

-- after the point the next meeting of the lines is this one
abbrev pub MeetsAfter : Point → Option Point → List ActiveLine → Option Point → Type 0
MeetsAfter p meeting lines next = (first : List ActiveLine) → IsNextMeeting p.y meeting first → IsFrom p.x meeting
    → IsPassedThrough p.y p.x first lines → AscendAt p.y lines
    → IsNextMeeting p.y next lines
