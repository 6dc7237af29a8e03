use Rattle.std.proofs.Common.{◌≤◌, ◌^◌, length, arith}
use Rattle.edge_events.proofs.EdgeParts.{parts_known, parts_short}
use Rattle.edge_events.proofs.source.know_parts.Goals as goal

pub returns-clause-known : goal.returns-clause-known
returns-clause-known c = parts_known c.args.window c.args.edges.now c.know_edges.ensures

pub returns-clause-short : goal.returns-clause-short
returns-clause-short c =
    let fewer = parts_short c.args.window c.args.edges.now in
    let few : length c.args.edges.now ≤ 2 ^ 64 = omega arith in
    omega (arith, fewer, few)
