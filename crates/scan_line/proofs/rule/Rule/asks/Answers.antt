use Rattle.std.proofs.Common.{◌≡◌, rules, FitsSigned}
use Rattle.std.specs.Int.{w128}
use Rattle.std.proofs.lemmas.Int.{to_z-of_z}
use Rattle.scan_line.proofs.RuleLemmas.{answer_says}
use Rattle.scan_line.proofs.rule.Rule.asks.Goals as goal

pub call-requires : goal.call-requires
call-requires g c =
    let due = c.requires.rule.one_answer c.args.a c.args.b c.requires.first c.requires.second in
    let same : c.self.inside.asked ≡ c.args.self.now = c.self.view_is in
    let first : FitsSigned w128 c.args.a = search rules in
    let second : FitsSigned w128 c.args.b = search rules in
    rw same (simp to_z-of_z due.1.callable)

pub returns : goal.returns
returns g c =
    let due = c.requires.rule.one_answer c.args.a c.args.b c.requires.first c.requires.second in
    let same : c.self.inside.asked ≡ c.args.self.now = c.self.view_is in
    let first : FitsSigned w128 c.args.a = search rules in
    let second : FitsSigned w128 c.args.b = search rules in
    let here = rw same at c.call.ensures in
    answer_says _ _ c.args.a c.args.b c.call.result due (simp to_z-of_z at here)
