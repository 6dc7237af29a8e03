-- The next stop of a sweep: the least Y at which an event is or neighbours meet.
use Rattle.std.specs.Prelude.{ℤ, ◌≤ℤ◌, ◌≡◌, ◌⊎◌, false, List, Option, Some, None}
use Rattle.active_lines.specs.declared.item.ActiveLine.{ActiveLine}
use Rattle.active_lines.specs.Neighbours.{SomeMeeting}
use Rattle.row_lists.specs.declared.event.Event.{Event}
use Rattle.plane_sweep.specs.declared.next_stop.Stop.{Stop}
use Rattle.plane_sweep.specs.Bundles.{first_event}

-- no event and no meeting is below it, and one is there
pub record IsStopAt (lines : List ActiveLine) (events : List Event) (stop : Stop) : Type 0 where
  pub event : (e : Event) → first_event events ≡ Some e → stop.level.y ≤ℤ e.y
  pub meeting : (z : ℤ) → SomeMeeting lines z → stop.level.y ≤ℤ z
  pub why : ((e : Event) × (first_event events ≡ Some e) × (e.y ≡ stop.level.y)) ⊎ SomeMeeting lines stop.level.y
  pub meets : stop.meets ≡ false → SomeMeeting lines stop.level.y → ⊥

-- where there is none, no event is left and no neighbours meet
abbrev pub IsNextStop : List ActiveLine → List Event → Option Stop → Type 0
IsNextStop lines events None = (first_event events ≡ None) × ((z : ℤ) → SomeMeeting lines z → ⊥)
IsNextStop lines events (Some stop) = IsStopAt lines events stop
