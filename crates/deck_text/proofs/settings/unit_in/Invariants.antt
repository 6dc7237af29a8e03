use Rattle.std.proofs.Common.{◌≡◌, drop}
use Rattle.deck_text.specs.Decks.{setting_in, unit_of}
use Rattle.deck_text.specs.SaidViews.{said_views}
use Rattle.deck_text.proofs.settings.unit_in.Given as goal

abbrev pub invariant-loop-said : goal.invariant-loop-said
invariant-loop-said l = setting_in unit_of (said_views (drop l.said-index l.saids)) ≡ setting_in unit_of (said_views l.saids)
