use Rattle.std.proofs.Common.{◌≤ℤ◌, rules}
use Rattle.column_sweep.proofs.CutLemmas.{inside_stays}
use Rattle.column_sweep.proofs.cutting.overhangs.Goals as goal

pub returns : goal.returns
returns c = record {
  no = λ no.
      (let low : c.args.window.y0 ≤ℤ c.args.edge.now.y0 = search rules in
      let high : c.args.edge.now.y1 ≤ℤ c.args.window.y1 = search (rules, no) in
      inside_stays c.args.window c.args.edge.now low high);
}
