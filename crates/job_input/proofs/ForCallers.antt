-- What crates above may cite: a content has one deck and one input at most.
use Rattle.std.proofs.Common.{◌≡◌, ap, ◌∙◌}
use Rattle.cell_tree.specs.Trees.{Rooted}
use Rattle.deck_text.specs.declared.deck.Deck.{Deck}
use Rattle.job_input.specs.declared.formats.Format.{Format}
use Rattle.job_input.specs.declared.reading.Input.{Input}
pub use Rattle.job_input.proofs.Causes.{deck_deck}

abbrev input_of : Deck → Format → Rooted → Input
input_of d f t = record { deck = d; format = f; tree = t }

same_parts : (d e : Deck) (f g : Format) (t u : Rooted) → d ≡ e → f ≡ g → t ≡ u → input_of d f t ≡ input_of e g u
same_parts d e f g t u decks formats trees = ap (λ x. input_of x f t) decks ∙ ap (λ x. input_of e x t) formats ∙ ap (input_of e g) trees
