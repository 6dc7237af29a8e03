-- Bytes have one deck at most, one first fault at most, and never both.
use Rattle.std.proofs.Common.{◌≡◌, ◌⊎◌, inl, inr, ℕ, ◌≤◌, List, length, Option, Some, None, refl, sym, ap, ◌∙◌, arith}
use Rattle.std.specs.Prelude.{ℤ, pos, slice_get, Result, Ok, Err}
use Rattle.std.proofs.lemmas.Bool.{cases_lt, false≢true}
use Rattle.std.proofs.lemmas.Option.{slice_get_within}
use Rattle.geo_stream.specs.Refusals.{IsForFault}
use Rattle.geo_stream.specs.declared.refusal.Refusal.{Refusal}
use Rattle.geo_stream.specs.declared.refusal.Refusal.TheVariants as refusals
use Rattle.half_grid.specs.declared.shot.Limits.{Limits}
use Rattle.half_grid.specs.declared.extent.Frame.{Frame}
use Rattle.deck_text.specs.Lines.{lines_of}
use Rattle.deck_text.specs.Statements.{Said}
use Rattle.deck_text.specs.Decks.{refusal_after, AreAccepted, IsLineRefusedAt, IsFirstDeckFault, IsDeckOf, IsDeck, saids_from, setting_in, unit_of, top_of}
use Rattle.deck_text.specs.declared.refusal.DeckBad.{DeckBad}
use Rattle.deck_text.specs.declared.deck.Deck.{Deck}
use Rattle.deck_text.specs.declared.deck.Step.{Step}
use Rattle.deck_text.specs.declared.deck.Output.{Output}

-- ---- faults

some_bad : (a b : DeckBad) → Some a ≡ Some b → a ≡ b
some_bad a b e = cc

none_bad : (o : Option DeckBad) (bad : DeckBad) → o ≡ None → o ≡ Some bad → ⊥
none_bad o bad e f = let clash : ⊥ = cc in clash

-- a line that is refused is none of the accepted ones
past_accepted : (layout deck : List ℕ) (ls : List (List ℕ)) (n k : ℕ) (bad : DeckBad) → AreAccepted layout deck ls k → IsLineRefusedAt layout deck ls n bad → k ≤ n
past_accepted layout deck ls n k bad h r = elim (cases_lt n k) [
  | inl lt ↦ absurd (none_bad (refusal_after layout deck ls n r.line) bad (h n r.line lt r.there) r.why)
  | inr le ↦ le
]

same_line : (a b : List ℕ) → Some a ≡ Some b → a ≡ b
same_line a b e = cc

at_same : (layout deck : List ℕ) (ls : List (List ℕ)) (n m : ℕ) (bad other : DeckBad) → n ≡ m
    → IsLineRefusedAt layout deck ls n bad → IsLineRefusedAt layout deck ls m other → bad ≡ other
at_same layout deck ls n m bad other e r s =
    let here : slice_get ls m ≡ Some r.line = rw (← e) r.there in
    let line : r.line ≡ s.line = same_line r.line s.line (sym here ∙ s.there) in
    let own : refusal_after layout deck ls m s.line ≡ Some bad = rw (← e, ← line) r.why in
    some_bad bad other (sym own ∙ s.why)

one_refused : (layout deck : List ℕ) (ls : List (List ℕ)) (n m : ℕ) (bad other : DeckBad)
    → IsLineRefusedAt layout deck ls n bad → IsLineRefusedAt layout deck ls m other → bad ≡ other
one_refused layout deck ls n m bad other r s =
    let first = past_accepted layout deck ls m n other r.before s in
    let second = past_accepted layout deck ls n m bad s.before r in
    let same : n ≡ m = omega (arith, first, second) in
    at_same layout deck ls n m bad other same r s

not_all : (layout deck : List ℕ) (ls : List (List ℕ)) (n : ℕ) (bad : DeckBad) → AreAccepted layout deck ls (length ls) → IsLineRefusedAt layout deck ls n bad → ⊥
not_all layout deck ls n bad h r = none_bad (refusal_after layout deck ls n r.line) bad (h n r.line (slice_get_within ls n r.line r.there) r.there) r.why

pub one_fault : (bytes layout deck : List ℕ) (bad other : DeckBad) → IsFirstDeckFault bytes layout deck bad → IsFirstDeckFault bytes layout deck other → bad ≡ other
one_fault bytes layout deck bad other (inl r) (inl s) = one_refused layout deck (lines_of bytes) r.0 s.0 bad other r.1 s.1
one_fault bytes layout deck bad other (inl r) (inr s) = absurd (not_all layout deck (lines_of bytes) r.0 bad s.accepted r.1)
one_fault bytes layout deck bad other (inr r) (inl s) = absurd (not_all layout deck (lines_of bytes) s.0 other r.accepted s.1)
one_fault bytes layout deck bad other (inr r) (inr s) = r.order ∙ sym s.order

pub never_both : (bytes layout deck : List ℕ) (d : Deck) (bad : DeckBad) → IsDeck bytes layout deck d → IsFirstDeckFault bytes layout deck bad → ⊥
never_both bytes layout deck d bad h (inl r) = not_all layout deck (lines_of bytes) r.0 bad h.accepted r.1
never_both bytes layout deck d bad h (inr r) = false≢true (sym r.none ∙ h.some)

-- ---- decks

same_unit : (m n : ℕ) (o : Option ℤ) → o ≡ Some (pos m) → o ≡ Some (pos n) → m ≡ n
same_unit m n o e f = cc

same_top : (a b : List ℕ) (o : Option (List ℕ)) → o ≡ Some a → o ≡ Some b → a ≡ b
same_top a b o e f = cc

-- a deck by its fields
deck_with : ℕ → List ℕ → ℤ → Limits → Option Frame → List Step → List Output → Deck
deck_with unit top band limits frame steps outputs =
    record { unit = unit; top = top; band = band; limits = limits; frame = frame; steps = steps; outputs = outputs }

fields_same : (u v : ℕ) (s t : List ℕ) (b c : ℤ) (l m : Limits) (f g : Option Frame) (ps qs : List Step) (xs ys : List Output)
    → u ≡ v → s ≡ t → b ≡ c → l ≡ m → f ≡ g → ps ≡ qs → xs ≡ ys → deck_with u s b l f ps xs ≡ deck_with v t c m g qs ys
fields_same u v s t b c l m f g ps qs xs ys e1 e2 e3 e4 e5 e6 e7 = rw (e1, e2, e3, e4, e5, e6, e7) refl

same_deck : (d e : Deck) → d.unit ≡ e.unit → d.top ≡ e.top → d.band ≡ e.band → d.limits ≡ e.limits → d.frame ≡ e.frame
    → d.steps ≡ e.steps → d.outputs ≡ e.outputs → d ≡ e
unfolding deck_with
same_deck d e a b c x y z w =
    fields_same d.unit e.unit d.top e.top d.band e.band d.limits e.limits d.frame e.frame d.steps e.steps d.outputs
    e.outputs a b c x y z w

deck_of_one : (saids : List Said) (d e : Deck) → IsDeckOf saids d → IsDeckOf saids e → d ≡ e
deck_of_one saids d e h g =
    same_deck d e (same_unit d.unit e.unit (setting_in unit_of saids) h.unit g.unit) (same_top d.top e.top (setting_in top_of saids) h.top g.top)
    (h.band ∙ sym g.band) (h.limits ∙ sym g.limits) (h.frame ∙ sym g.frame) (h.steps ∙ sym g.steps) (h.outputs ∙ sym g.outputs)

pub one_deck : (bytes layout deck : List ℕ) (d e : Deck) → IsDeck bytes layout deck d → IsDeck bytes layout deck e → d ≡ e
one_deck bytes layout deck d e h g = deck_of_one (saids_from 1 (lines_of bytes)) d e h.says g.says

-- ---- answers

-- the answer of a refusal to bytes that have a first fault
pub told_fault : (bytes layout deck : List ℕ) (r : Result Deck (Refusal DeckBad)) (own : Refusal DeckBad) → r ≡ Err own
    → IsForFault (IsFirstDeckFault bytes layout deck) own
    → (bad : DeckBad) → IsFirstDeckFault bytes layout deck bad → (r ≡ Err (refusals.Fault bad)) ⊎ (r ≡ Err refusals.NoMemory)
told_fault bytes layout deck r (refusals.Fault own) e h bad f =
    inl (e ∙ ap (λ (b : DeckBad). Err (refusals.Fault b)) (one_fault bytes layout deck own bad h f))
told_fault bytes layout deck r refusals.NoMemory e h bad f = inr e

-- and to bytes that are a deck
pub told_deck : (bytes layout deck : List ℕ) (r : Result Deck (Refusal DeckBad)) (own : Refusal DeckBad) → r ≡ Err own
    → IsForFault (IsFirstDeckFault bytes layout deck) own
    → (d : Deck) → IsDeck bytes layout deck d → (r ≡ Ok d) ⊎ (r ≡ Err refusals.NoMemory)
told_deck bytes layout deck r (refusals.Fault own) e h d g = absurd (never_both bytes layout deck d own g h)
told_deck bytes layout deck r refusals.NoMemory e h d g = inr e
