use Rattle.layout_model.proofs.RectangleLemmas.{ring_on_grid, ring_winds_inside, ring_winds_not_outside}
use Rattle.layout_model.proofs.CornerLemmas.{segments_square}
use Rattle.layout_model.proofs.SegmentLemmas.{segments_go, segments_along}
use Rattle.layout_model.proofs.paths.path_laws.Goals as goal

pub returns-clause-grid : goal.returns-clause-grid
returns-clause-grid c = ring_on_grid

pub returns-clause-inside : goal.returns-clause-inside
returns-clause-inside c = ring_winds_inside

pub returns-clause-outside : goal.returns-clause-outside
returns-clause-outside c = ring_winds_not_outside

pub returns-clause-somewhere : goal.returns-clause-somewhere
returns-clause-somewhere c = segments_go

pub returns-clause-axes : goal.returns-clause-axes
returns-clause-axes c = segments_along

pub returns-clause-square : goal.returns-clause-square
returns-clause-square c = segments_square
