use Rattle.flat_walk.proofs.tests.a_window_cuts_an_array.Goals as goal

pub shown-quads-requires : goal.shown-quads-requires
shown-quads-requires g c = c.cut-parts.ensures (record { layer = 2; datatype = 0 })
