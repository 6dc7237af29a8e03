-- Where an event is, in the order of a sweep.
use Rattle.row_lists.specs.declared.event.Event.{Event}
use Rattle.plane_sweep.specs.declared.packed.Spot.{Spot}

abbrev pub spot_of : Event → Spot
spot_of e = record { y = e.y; x = e.x }
