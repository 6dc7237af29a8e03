use Rattle.std.proofs.Common.{ℤ, Bool}
use Rattle.std.specs.Prelude.{IfSome, IfNone}
use Rattle.std.proofs.lemmas.Result.{IfOk-weaker}
use Rattle.plane_sweep.specs.Lowest.{IsLowest, TakesNone}
use Rattle.column_sweep.proofs.LookedColumns.{first_some, first_none}
use Rattle.column_sweep.proofs.looking.lowest.Goals as goal

pub returns-clause-found : goal.returns-clause-found
returns-clause-found g c =
    let post : g.row.F.Denot → ℤ → ℤ → Bool → Type 0 = λ rule a b r. g.F.Fn.post rule (a, (b, tt)) r in
    IfOk-weaker c.lowest_at.result _ (λ answer. IfSome answer (IsLowest (post c.args.rule) c.args.edges.items c.args.window))
    (λ answer. first_some (post c.args.rule) c.args.edges.items c.args.window answer) c.lowest_at.ensures

pub returns-clause-none : goal.returns-clause-none
returns-clause-none g c =
    let post : g.row.F.Denot → ℤ → ℤ → Bool → Type 0 = λ rule a b r. g.F.Fn.post rule (a, (b, tt)) r in
    IfOk-weaker c.lowest_at.result _ (λ answer. IfNone answer (TakesNone (post c.args.rule) c.args.edges.items c.args.window))
    (λ answer. first_none (post c.args.rule) c.args.edges.items c.args.window answer) c.lowest_at.ensures
