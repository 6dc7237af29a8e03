-- Statements with a definition or an output have both `unit` and `top`.
use Rattle.std.specs.Prelude.{◌≡◌, true, not, List, IsSome}
use Rattle.deck_text.specs.Statements.{Said}
use Rattle.deck_text.specs.Rules.{any_before, is_setting}
use Rattle.deck_text.specs.Decks.{setting_in, unit_of, top_of}

abbrev pub IsBegun : List Said → Type 0
IsBegun saids = any_before (λ t. not (is_setting t)) saids ≡ true → IsSome (setting_in unit_of saids) × IsSome (setting_in top_of saids)
