use Rattle.std.proofs.Common.{sym, subst}
use Rattle.oas_lex.specs.declared.fields.ShotFields.{ShotFields}
use Rattle.shot_reader.specs.Near.{AreNear}
use Rattle.shot_reader.proofs.ForCallers.{own_near}
use Rattle.shot_repeat.proofs.runs.fields_at.Goals as goal

pub returns-clause-near : goal.returns-clause-near
returns-clause-near c =
    subst (λ (f : ShotFields). AreNear f) (sym c.fields_of.ensures.value) (own_near c.args.pair.layer c.args.pair.datatype _ c.y0-bottom.ensures.shot)
