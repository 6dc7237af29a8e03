-- Bytes are a deck or have a first fault.
use Rattle.std.proofs.Common.{◌≡◌, ◌⊎◌, inl, inr, ℕ, ◌+◌, true, false, List, [], ◌∷◌, drop, length, Option, Some, None, refl, arith}
use Rattle.std.specs.Prelude.{ℤ, pos, negsuc, unwrap_or, IsSome}
use Rattle.std.proofs.lemmas.Bool.{false≢true}
use Rattle.std.proofs.lemmas.Int.{ints}
use Rattle.deck_text.specs.Lines.{lines_of}
use Rattle.deck_text.specs.Statements.{Passed, Refused, Says, Said}
use Rattle.deck_text.specs.Forms.{reading}
use Rattle.deck_text.specs.Rules.{bound, broken_rule}
use Rattle.deck_text.specs.Decks.{saids_from, AreAccepted, IsLineRefusedAt, HasNoOutput, has_output, setting_in, unit_of}
use Rattle.deck_text.specs.Decks.{top_of, band_of, limits_of, limits, frame_of, steps_of, outputs_of, IsDeckOf}
use Rattle.deck_text.specs.Laws.{NeverNeither}
use Rattle.deck_text.specs.declared.deck.Deck.{Deck}
use Rattle.deck_text.specs.declared.refusal.DeckBad.{DeckBad}
use Rattle.deck_text.specs.declared.refusal.DeckBad.TheVariants as faults
use Rattle.deck_text.proofs.RangeLemmas.{IsInside, unit_range}
use Rattle.deck_text.proofs.Sounds.{in_range, setting_from}
use Rattle.deck_text.proofs.Steps.{IsReadUpTo, IsReadAll, starts, refused_next, passes_next, says_next, lines_left, ends, no_output, outputs_begin}

-- ---- the deck that accepted lines say

abbrev IsUnit : ℤ → Type 0
IsUnit n = IsInside (bound n (pos 1) (pos 1000000))

-- with this unit and this top cell
deck_of : (saids : List Said) (unit : ℤ) (top : List ℕ) → IsUnit unit → setting_in unit_of saids ≡ Some unit → setting_in top_of saids ≡ Some top
    → (d : Deck) × IsDeckOf saids d
deck_of saids (pos n) top range unit_is top_is = (
  record {
    unit = n;
    top = top;
    band = unwrap_or (setting_in band_of saids) (pos 1048576);
    limits = unwrap_or (setting_in limits_of saids) (limits (pos 1048576) (pos 2097152));
    frame = setting_in frame_of saids;
    steps = steps_of saids;
    outputs = outputs_of saids;
  },
  record { unit = unit_is; top = top_is; band = refl; limits = refl; frame = refl; steps = refl; outputs = refl },
)
deck_of saids (negsuc n) top range unit_is top_is = absurd (let low = range.low in omega (arith, ints, low))

deck_from : (saids : List Said) (unit : Option ℤ) (top : Option (List ℕ)) → ((n : ℤ) → setting_in unit_of saids ≡ Some n → IsUnit n)
    → setting_in unit_of saids ≡ unit → setting_in top_of saids ≡ top → IsSome unit → IsSome top → (d : Deck) × IsDeckOf saids d
deck_from saids (Some n) (Some top) each unit_is top_is a b = deck_of saids n top (each n unit_is) unit_is top_is
deck_from saids (Some n) None each unit_is top_is a b = absurd (false≢true b)
deck_from saids None top each unit_is top_is a b = absurd (false≢true a)

-- ---- all lines

abbrev IsRead : (layout deck : List ℕ) → List (List ℕ) → Type 0
IsRead layout deck ls =
    ((d : Deck) × AreAccepted layout deck ls (length ls) × (has_output (saids_from 1 ls) ≡ true) × IsDeckOf (saids_from 1 ls) d)
    ⊎ ((bad : DeckBad) × (((n : ℕ) × IsLineRefusedAt layout deck ls n bad) ⊎ HasNoOutput layout deck ls bad))

all_read : (layout deck : List ℕ) (ls : List (List ℕ)) (n : ℕ) (saids : List Said) → IsReadAll layout deck ls n saids → IsRead layout deck ls
all_read layout deck ls n saids u =
    elim (has_output saids) as (λ v. has_output saids ≡ v → IsRead layout deck ls) [
      | false ↦ λ none. inr (faults.Order (n + 1), inr (no_output layout deck ls n saids u none))
      | true ↦ λ some.
          (let has : has_output (saids_from 1 ls) ≡ true = rw (← u.says) some in
          let given = u.begun (outputs_begin (saids_from 1 ls) has) in
          let units = setting_from unit_of IsUnit unit_range (saids_from 1 ls) (in_range layout deck ls u.accepted) in
          let made = deck_from (saids_from 1 ls) (setting_in unit_of (saids_from 1 ls)) (setting_in top_of (saids_from 1 ls)) units refl refl given.0 given.1 in
          inl (made.0, u.accepted, has, made.1))
    ] refl

-- with these lines left
read_on : (layout deck : List ℕ) (ls more : List (List ℕ)) (n : ℕ) (saids : List Said) → IsReadUpTo layout deck ls n saids → drop n ls ≡ more
    → IsRead layout deck ls
read_on layout deck ls [] n saids u e = all_read layout deck ls n saids (ends layout deck ls n saids u e)
read_on layout deck ls (line ∷ more) n saids u e =
    elim (reading line) as (λ r. reading line ≡ r → IsRead layout deck ls) [
      | Passed ↦ λ f. read_on layout deck ls more (n + 1) saids (passes_next layout deck ls n saids line more u e f) (lines_left ls n line more e)
      | Refused column ↦ λ f.
          inr (faults.Line (n + 1) column, inl (n, refused_next layout deck ls n saids line more (Refused column) (faults.Line (n + 1) column) u e f refl))
      | Says s ↦ λ f.
          elim (broken_rule layout deck saids (n + 1) s) as (λ o. broken_rule layout deck saids (n + 1) s ≡ o → IsRead layout deck ls) [
            | Some bad ↦ λ g. inr (bad, inl (n, refused_next layout deck ls n saids line more (Says s) bad u e f g))
            | None ↦ λ g. read_on layout deck ls more (n + 1) _ (says_next layout deck ls n saids line more s u e f g) (lines_left ls n line more e)
          ] refl
    ] refl

pub never_neither : NeverNeither
never_neither bytes layout deck =
    let ls = lines_of bytes in
    elim (read_on layout deck ls ls 0 [] (starts layout deck ls) refl) [
      | inl d ↦ inl (d.0, record { accepted = d.1; some = d.2; says = d.3 })
      | inr f ↦ inr (f.0, f.1)
    ]
