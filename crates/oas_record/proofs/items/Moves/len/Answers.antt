use Rattle.std.proofs.Common.{length, ap, ◌∙◌}
use Rattle.oas_record.proofs.DecodedLemmas.{deltas_count}
use Rattle.oas_record.proofs.items.Moves.len.Goals as goal

pub returns : goal.returns
returns c = deltas_count _ _ _ _ ∙ ap length c.self.view_is
