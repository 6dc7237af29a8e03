use Rattle.std.proofs.Common.{◌≡◌, drop}
use Rattle.deck_text.specs.Decks.{setting_in, top_of}
use Rattle.deck_text.specs.SaidViews.{said_views}
use Rattle.deck_text.proofs.settings.top_in.Given as goal

abbrev pub invariant-loop-said : goal.invariant-loop-said
invariant-loop-said l = setting_in top_of (said_views (drop l.said-index l.saids)) ≡ setting_in top_of (said_views l.saids)
