use Rattle.std.proofs.Common.{length, ap, ◌∙◌}
use Rattle.oas_record.proofs.DecodedLemmas.{numbers_count}
use Rattle.oas_record.proofs.items.Numbers.len.Goals as goal

pub returns : goal.returns
returns c = numbers_count _ _ _ ∙ ap length c.self.view_is
