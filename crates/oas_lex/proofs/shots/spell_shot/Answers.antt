use Rattle.std.proofs.Common.{ap, sym, ◌∙◌}
use Rattle.oas_lex.specs.ShotText.{text_of}
use Rattle.oas_lex.proofs.FieldTexts.{spelling_is}
use Rattle.oas_lex.proofs.shots.spell_shot.Goals as goal

pub returns : goal.returns
returns c = c.spell_fields.ensures ∙ (ap text_of c.fields_of.ensures.value ∙ sym (spelling_is c.args.layer c.args.datatype c.args.trap.now))
