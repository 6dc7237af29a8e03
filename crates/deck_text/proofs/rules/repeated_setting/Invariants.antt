use Rattle.std.proofs.Common.{◌≡◌, drop}
use Rattle.deck_text.specs.Rules.{repeated_line}
use Rattle.deck_text.specs.Statements.{Sets}
use Rattle.deck_text.specs.SaidViews.{said_views}
use Rattle.deck_text.specs.Views.{setting_view}
use Rattle.deck_text.proofs.rules.repeated_setting.Given as goal

abbrev pub invariant-loop-said : goal.invariant-loop-said
invariant-loop-said l =
    repeated_line (said_views (drop l.said-index l.before)) (Sets (setting_view l.setting)) ≡ repeated_line
    (said_views l.before) (Sets (setting_view l.setting))
