use Rattle.std.proofs.Common.{◌≡◌, drop}
use Rattle.std.specs.Prelude.{not}
use Rattle.deck_text.specs.Rules.{any_before, is_setting}
use Rattle.deck_text.specs.SaidViews.{said_views}
use Rattle.deck_text.proofs.rules.has_begun.Given as goal

abbrev pub invariant-loop-said : goal.invariant-loop-said
invariant-loop-said l = any_before (λ t. not (is_setting t)) (said_views (drop l.said-index l.before)) ≡ any_before
    (λ t. not (is_setting t)) (said_views l.before)
