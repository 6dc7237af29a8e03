use Rattle.std.proofs.Common.{◌≡◌, ◌++◌, drop}
use Rattle.std.specs.List.{filter_map}
use Rattle.deck_text.specs.Decks.{step_in, steps_of, names_of}
use Rattle.deck_text.specs.SaidViews.{said_views}
use Rattle.deck_text.proofs.writing.steps_of.Given as goal

abbrev pub invariant-loop-said : goal.invariant-loop-said
invariant-loop-said l =
    l.steps ++ filter_map (λ m. step_in (names_of (said_views l.saids)) m.says) (said_views (drop l.said-index l.saids)) ≡ steps_of (said_views l.saids)
