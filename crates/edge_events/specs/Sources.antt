-- The events of edges, whole and in order.
use Rattle.std.specs.Prelude.{◌≤◌, ◌^◌, List, length, All, IsPermutation}
use Rattle.half_grid.specs.Edges.{EdgeParts, IsEdge}
use Rattle.row_lists.specs.declared.event.Event.{Event}
use Rattle.row_lists.specs.Events.{events_of, EventsAscend}
use Rattle.edge_events.specs.Orders.{AscendByRank}

-- all events of edges, in the order of a sweep
pub record AreSortedEvents (edges : List EdgeParts) (events : List Event) : Type 0 where
  pub known : All IsEdge edges
  pub short : length edges ≤ 2 ^ 64
  pub whole : IsPermutation (events_of edges) events
  pub ascend : EventsAscend events
  pub by_rank : AscendByRank events
