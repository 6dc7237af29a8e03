use Rattle.std.proofs.Common.{◌≡◌, drop}
use Rattle.deck_text.specs.Rules.{any_before, is_frame}
use Rattle.deck_text.specs.SaidViews.{said_views}
use Rattle.deck_text.proofs.rules.has_frame.Given as goal

abbrev pub invariant-loop-said : goal.invariant-loop-said
invariant-loop-said l = any_before is_frame (said_views (drop l.said-index l.before)) ≡ any_before is_frame (said_views l.before)
