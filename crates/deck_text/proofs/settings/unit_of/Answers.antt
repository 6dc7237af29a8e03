use Rattle.std.proofs.Common.{◌≡◌, Some, FitsSigned, w64, rules}
use Rattle.std.proofs.lemmas.Int.{to_z-of_z}
use Rattle.deck_text.specs.Views.{statement_view}
use Rattle.deck_text.specs.Decks.{unit_of}
use Rattle.deck_text.proofs.RangeLemmas.{unit_range, small_fits}
use Rattle.deck_text.proofs.settings.unit_of.Goals as goal

pub returns-in-Set-Unit-clause-range : goal.returns-in-Set-Unit-clause-range
returns-in-Set-Unit-clause-range c =
    let is : unit_of (statement_view c.args.said.now.says) ≡ Some c.in-Set-Unit.steps = search rules in
    let inside = unit_range (statement_view c.args.said.now.says) c.in-Set-Unit.steps c.args.said.now.in_range is in
    let fits : FitsSigned w64 c.in-Set-Unit.steps = small_fits c.in-Set-Unit.steps inside in
    simp to_z-of_z (inside.low, inside.high)
