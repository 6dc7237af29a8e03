use Rattle.std.proofs.Common.{refl, ap, inl}
use Rattle.std.specs.Prelude.{Ok}
use Rattle.std.proofs.lemmas.Result.{err_from_is_err_and}
use Rattle.deck_text.specs.Lines.{lines_of}
use Rattle.deck_text.specs.Decks.{saids_from, IsDeck}
use Rattle.deck_text.specs.declared.deck.Deck.{Deck}
use Rattle.deck_text.proofs.Steps.{outputs_begin}
use Rattle.deck_text.proofs.Unique.{one_deck, never_both, told_fault, told_deck}
use Rattle.deck_text.proofs.reading.read_deck.Goals as goal

-- ---- a refusal of the lines

pub returns-in_err-lines-clause-every_fault : goal.returns-in_err-lines-clause-every_fault
returns-in_err-lines-clause-every_fault c =
    let p = err_from_is_err_and c.from_residual.result c.from_residual.ensures.1 in
    told_fault c.args.bytes.now c.args.layout.now c.args.deck.now c.from_residual.result _ (rw (p.1, p.2) refl) c.in_err-lines.ensures.refused

pub returns-in_err-lines-clause-read : goal.returns-in_err-lines-clause-read
returns-in_err-lines-clause-read c =
    let p = err_from_is_err_and c.from_residual.result c.from_residual.ensures.1 in
    told_deck c.args.bytes.now c.args.layout.now c.args.deck.now c.from_residual.result _ (rw (p.1, p.2) refl) c.in_err-lines.ensures.refused

-- ---- the deck of the statements

pub deck_of-requires-clause-unit : goal.deck_of-requires-clause-unit
deck_of-requires-clause-unit c =
    let given = c.in_ok-lines.ensures.begun (outputs_begin (saids_from 1 (lines_of c.args.bytes.now)) c.in_ok-lines.ensures.some) in
    rw (c.as_slice.ensures.value, c.in_ok-lines.ensures.saids) given.0

pub deck_of-requires-clause-top : goal.deck_of-requires-clause-top
deck_of-requires-clause-top c =
    let given = c.in_ok-lines.ensures.begun (outputs_begin (saids_from 1 (lines_of c.args.bytes.now)) c.in_ok-lines.ensures.some) in
    rw (c.as_slice.ensures.value, c.in_ok-lines.ensures.saids) given.1

found : (c : goal.After-drop-lines-4) → IsDeck c.args.bytes.now c.args.layout.now c.args.deck.now c.in_ok-deck.deck
found c = record {
  accepted = c.in_ok-lines.ensures.accepted;
  some = c.in_ok-lines.ensures.some;
  says = rw (c.as_slice.ensures.value, c.in_ok-lines.ensures.saids) at c.in_ok-deck.ensures;
}

pub returns-clause-found : goal.returns-clause-found
returns-clause-found c = found c

pub returns-clause-read : goal.returns-clause-read
returns-clause-read c = λ d h. inl (ap (λ (e : Deck). Ok e) (one_deck c.args.bytes.now c.args.layout.now c.args.deck.now c.in_ok-deck.deck d (found c) h))

pub returns-clause-every_fault : goal.returns-clause-every_fault
returns-clause-every_fault c = λ bad f. absurd (never_both c.args.bytes.now c.args.layout.now c.args.deck.now c.in_ok-deck.deck bad (found c) f)
