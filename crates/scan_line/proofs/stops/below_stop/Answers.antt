use Rattle.scan_line.proofs.Turning.{below_none, below_more, quiet_all}
use Rattle.scan_line.proofs.stops.below_stop.Goals as goal

pub loop-edge-init : goal.loop-edge-init
loop-edge-init c = below_none _ _ c.requires.rows c.requires.edges

pub loop-edge-preserved : goal.loop-edge-preserved
loop-edge-preserved c =
    let now = c.below_turn-rows.ensures in
    below_more _ _ _ _ _ _ _ c.loop-edge.invariant c.in-Some.ensures.cases.0 now.lower now.end now.apart now.top

pub returns : goal.returns
returns c = let i = c.loop-edge.invariant in record { lower = i.lower; quiet = quiet_all _ _ _ _ i c.in_default.ensures.cases; top = i.top }
