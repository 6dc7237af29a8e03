use Rattle.oas_lex.proofs.ShotTexts.{record_names, text_names}
use Rattle.oas_lex.proofs.laws.shot_laws.Goals as goal

pub returns : goal.returns
returns c = record { record_names_shot = record_names; text_names_shots = text_names }
