-- The rows of the table of answers that speak of the reading of deck and layout, and those of `fracture`, from the answer.
use Rattle.std.proofs.Common.{◌≡◌, ◌≢◌, ◌⊎◌, inl, inr, ℕ, Bool, List, [], Option, Some, Ok, Err, refl, sym, ap, subst, ◌∙◌}
use Rattle.depot.specs.Content.{Content, IsNotThere, IsLongerThan, ChangesLeftOnly, with_left}
use Rattle.geo_stream.specs.declared.refusal.Refusal.{Refusal}
use Rattle.geo_stream.specs.declared.refusal.Refusal.TheVariants.{Fault, NoMemory}
use Rattle.gds_reader.specs.declared.refusing.GdsBad.{GdsBad}
use Rattle.oas_reader.specs.declared.refusing.OasBad.{OasBad}
use Rattle.cell_tree.specs.declared.faults.TreeBad.{TreeBad}
use Rattle.deck_text.specs.declared.refusal.DeckBad.{DeckBad}
use Rattle.deck_text.specs.declared.deck.Deck.{Deck}
use Rattle.job_input.specs.Accepted.{HoldsDeck, HoldsInput}
use Rattle.job_input.specs.Refused.{HoldsDeckFault, IsLongLayout, HoldsGdsFault, HoldsOasFault, HoldsTreeFault, IsWanting}
use Rattle.job_input.specs.Clauses.{Answer, IsReadExactlyWhere as InputComes}
use Rattle.job_input.specs.declared.reading.Input.{Input}
use Rattle.job_input.specs.declared.refusing.InputBad.{InputBad}
use Rattle.job_input.specs.declared.refusing.InputBad.TheVariants as bads
use Rattle.job_input.specs.declared.refusing.DeckFault.{DeckFault}
use Rattle.job_input.specs.declared.refusing.DeckFault.TheVariants as deck_faults
use Rattle.job_input.specs.declared.refusing.LayoutFault.{LayoutFault}
use Rattle.job_input.specs.declared.refusing.LayoutFault.TheVariants as layout_faults
use Rattle.mdp_job.specs.Runs.{Run, ReadRose, WriteRose, RefusedRose, ComesExactlyWhere}
use Rattle.mdp_job.specs.Clauses.{IsOfKind, IsTreeFault}
use Rattle.job_report.specs.declared.faults.CheckFault.{CheckFault}
use Rattle.mdp_job.specs.Parts.{status_of, top_of, IsInputTold, IsMade, IsOutcomeBy, IsAnswerBy, IsFractured, IsAnswer}
use Rattle.job_report.specs.declared.status.Status.{Status}
use Rattle.job_report.specs.declared.status.Status.TheVariants as answers

-- ---- answers differ

done_refused : (bad : Refusal InputBad) → answers.Done ≡ status_of bad → ⊥
done_refused (Fault (bads.Deck fault)) e = cc
done_refused (Fault (bads.Layout fault top)) e = cc
done_refused (Fault bads.ReadFault) e = cc
done_refused NoMemory e = cc

write_refused : (bad : Refusal InputBad) → answers.WriteFault ≡ status_of bad → ⊥
write_refused (Fault (bads.Deck fault)) e = cc
write_refused (Fault (bads.Layout fault top)) e = cc
write_refused (Fault bads.ReadFault) e = cc
write_refused NoMemory e = cc

no_refused : (place : ℕ) (fault : CheckFault) (bad : Refusal InputBad) → answers.No place fault ≡ status_of bad → ⊥
no_refused place fault (Fault (bads.Deck other)) e = cc
no_refused place fault (Fault (bads.Layout other top)) e = cc
no_refused place fault (Fault bads.ReadFault) e = cc
no_refused place fault NoMemory e = cc

deck_inverse : (bad : Refusal InputBad) (fault : DeckFault) → answers.Deck fault ≡ status_of bad → bad ≡ Fault (bads.Deck fault)
deck_inverse (Fault (bads.Deck other)) fault e = let same : fault ≡ other = cc in ap (λ f. Fault (bads.Deck f)) (sym same)
deck_inverse (Fault (bads.Layout other top)) fault e = let no : ⊥ = cc in absurd no
deck_inverse (Fault bads.ReadFault) fault e = let no : ⊥ = cc in absurd no
deck_inverse NoMemory fault e = let no : ⊥ = cc in absurd no

layout_inverse : (bad : Refusal InputBad) (fault : LayoutFault) → answers.Layout fault ≡ status_of bad
    → (top : List ℕ) × (bad ≡ Fault (bads.Layout fault top))
layout_inverse (Fault (bads.Deck other)) fault e = let no : ⊥ = cc in absurd no
layout_inverse (Fault (bads.Layout other top)) fault e = let same : fault ≡ other = cc in (top, ap (λ f. Fault (bads.Layout f top)) (sym same))
layout_inverse (Fault bads.ReadFault) fault e = let no : ⊥ = cc in absurd no
layout_inverse NoMemory fault e = let no : ⊥ = cc in absurd no

read_inverse : (bad : Refusal InputBad) → answers.ReadFault ≡ status_of bad → bad ≡ Fault bads.ReadFault
read_inverse (Fault (bads.Deck other)) e = let no : ⊥ = cc in absurd no
read_inverse (Fault (bads.Layout other top)) e = let no : ⊥ = cc in absurd no
read_inverse (Fault bads.ReadFault) e = refl
read_inverse NoMemory e = let no : ⊥ = cc in absurd no

-- what is made is Done, a write fault or want of memory
made_kind : (tells : Bool) (b a : Content) (wr rr : Type 0) (input : Input) (s : Status)
    → IsMade tells b a wr rr input s → (s ≡ answers.Done) ⊎ (s ≡ answers.WriteFault) ⊎ (s ≡ answers.NoMemory)
made_kind tells b a wr rr input s (inl x) = inl x.0
made_kind tells b a wr rr input s (inr (inl x)) = inr (inl x.0)
made_kind tells b a wr rr input s (inr (inr x)) = inr (inr x.0)

pub deck_made : (fault : DeckFault) → (answers.Deck fault ≡ answers.Done) ⊎ (answers.Deck fault ≡ answers.WriteFault)
    ⊎ (answers.Deck fault ≡ answers.NoMemory) → ⊥
deck_made fault (inl e) = cc
deck_made fault (inr (inl e)) = cc
deck_made fault (inr (inr e)) = cc

pub layout_made : (fault : LayoutFault) → (answers.Layout fault ≡ answers.Done)
    ⊎ (answers.Layout fault ≡ answers.WriteFault) ⊎ (answers.Layout fault ≡ answers.NoMemory) → ⊥
layout_made fault (inl e) = cc
layout_made fault (inr (inl e)) = cc
layout_made fault (inr (inr e)) = cc

pub read_made : (answers.ReadFault ≡ answers.Done) ⊎ (answers.ReadFault ≡ answers.WriteFault) ⊎ (answers.ReadFault ≡ answers.NoMemory) → ⊥
read_made (inl e) = cc
read_made (inr (inl e)) = cc
read_made (inr (inr e)) = cc

-- ---- from an answer to the answer of the reading

-- no answer to an accepted input is a refusal of deck or layout
pub record KeepsInput (made : Input → Status → Type 0) : Type 0 where
  pub deck : (input : Input) (fault : DeckFault) → made input (answers.Deck fault) → ⊥
  pub layout : (input : Input) (fault : LayoutFault) → made input (answers.Layout fault) → ⊥

deck_back : (made : Input → Status → Type 0) (r : Run) (a : Answer) (fault : DeckFault) (top : Option (List ℕ))
    → KeepsInput made → IsOutcomeBy made r a (answers.Deck fault) top → a ≡ Err (Fault (bads.Deck fault))
deck_back made r (Ok input) fault top keeps (h, none) = absurd (keeps.deck input fault h)
deck_back made r (Err bad) fault top keeps (e, name, rest) = ap Err (deck_inverse bad fault e)

layout_back : (made : Input → Status → Type 0) (r : Run) (a : Answer) (fault : LayoutFault) (top : Option (List ℕ))
    → KeepsInput made → IsOutcomeBy made r a (answers.Layout fault) top
    → (name : List ℕ) × (a ≡ Err (Fault (bads.Layout fault name))) × (top ≡ Some name)
layout_back made r (Ok input) fault top keeps (h, none) = absurd (keeps.layout input fault h)
layout_back made r (Err bad) fault top keeps (e, name, rest) =
    let back = layout_inverse bad fault e in
    (back.0, ap Err back.1, name ∙ ap top_of back.1)

-- ---- and back

refused_on : (made : Input → Status → Type 0) (r : Run) (a : Answer) (s : Status) (top : Option (List ℕ))
    (bad : Refusal InputBad) → IsOutcomeBy made r a s top → a ≡ Err bad → s ≡ status_of bad
refused_on made r a s top bad h e = (subst (λ (x : Answer). IsOutcomeBy made r x s top) e h).0

-- what comes where a cause holds
due : (made : Input → Status → Type 0) (r : Run) (a : Answer) (s : Status) (top : Option (List ℕ)) (bad : Refusal InputBad) → IsOutcomeBy made r a s top
    → (a ≡ Err bad) ⊎ (a ≡ Err NoMemory) ⊎ ((a ≡ Err (Fault bads.ReadFault)) × ReadRose r) → (s ≡ status_of bad)
    ⊎ (s ≡ answers.NoMemory) ⊎ ((s ≡ answers.ReadFault) × ReadRose r)
due made r a s top bad h (inl e) = inl (refused_on made r a s top bad h e)
due made r a s top bad h (inr (inl e)) = inr (inl (refused_on made r a s top NoMemory h e))
due made r a s top bad h (inr (inr (e, rose))) = inr (inr (refused_on made r a s top (Fault bads.ReadFault) h e, rose))

turned : (made : Input → Status → Type 0) (r : Run) (a : Answer) (s t : Status) (top : Option (List ℕ))
    → IsOutcomeBy made r a s top → s ≡ t → IsOutcomeBy made r a t top
turned made r a s t top h e = subst (λ (x : Status). IsOutcomeBy made r a x top) e h

-- ---- the rows

deck_row : (made : Input → Status → Type 0) (r : Run) (layout deck : List ℕ) (s : Status) (top : Option (List ℕ))
    → KeepsInput made → (h : IsAnswerBy made r layout deck s top) (fault : DeckFault) (cause : Type 0)
    → InputComes (ReadRose r) h.a (Err (Fault (bads.Deck fault))) cause → ComesExactlyWhere (ReadRose r) s (answers.Deck fault) cause
deck_row made r layout deck s top keeps h fault cause row = record {
  only = λ e. row.only (deck_back made r h.a fault top keeps (turned made r h.a s (answers.Deck fault) top h.outcome e));
  whenever = λ x. due made r h.a s top (Fault (bads.Deck fault)) h.outcome (row.whenever x);
}

layout_row : (made : Input → Status → Type 0) (r : Run) (layout deck : List ℕ) (s : Status) (top : Option (List ℕ))
    → KeepsInput made → (h : IsAnswerBy made r layout deck s top) (fault : LayoutFault) (cause : List ℕ → Type 0)
    → ((name : List ℕ) → InputComes (ReadRose r) h.a (Err (Fault (bads.Layout fault name))) (cause name))
    → ComesExactlyWhere (ReadRose r) s (answers.Layout fault) ((name : List ℕ) × cause name)
layout_row made r layout deck s top keeps h fault cause row = record {
  only = λ e.
      let back = layout_back made r h.a fault top keeps (turned made r h.a s (answers.Layout fault) top h.outcome e) in
      (back.0, (row back.0).only back.1);
  whenever = λ (name, x). due made r h.a s top (Fault (bads.Layout fault name)) h.outcome ((row name).whenever x);
}

pub deck_long : (made : Input → Status → Type 0) (r : Run) (layout deck : List ℕ) (s : Status) (top : Option (List ℕ))
    → KeepsInput made → IsAnswerBy made r layout deck s top
    → ComesExactlyWhere (ReadRose r) s (answers.Deck deck_faults.Long) (IsLongerThan 65536 r.before deck)
deck_long made r layout deck s top keeps h = deck_row made r layout deck s top keeps h deck_faults.Long _ h.told.deck_long

pub deck_bad : (made : Input → Status → Type 0) (r : Run) (layout deck : List ℕ) (s : Status) (top : Option (List ℕ))
    → KeepsInput made → IsAnswerBy made r layout deck s top → (bad : DeckBad)
    → ComesExactlyWhere (ReadRose r) s (answers.Deck (deck_faults.Bad bad)) (HoldsDeckFault r.before layout deck bad)
deck_bad made r layout deck s top keeps h bad = deck_row made r layout deck s top keeps h (deck_faults.Bad bad) _ (h.told.deck_bad bad)

pub layout_long : (made : Input → Status → Type 0) (r : Run) (layout deck : List ℕ) (s : Status) (top : Option (List ℕ))
    → KeepsInput made → IsAnswerBy made r layout deck s top
    → ComesExactlyWhere (ReadRose r) s (answers.Layout layout_faults.Long) ((name : List ℕ) × IsLongLayout r.before layout deck name)
layout_long made r layout deck s top keeps h =
    layout_row made r layout deck s top keeps h layout_faults.Long (λ name. IsLongLayout r.before layout deck name) h.told.layout_long

pub layout_gds : (made : Input → Status → Type 0) (r : Run) (layout deck : List ℕ) (s : Status) (top : Option (List ℕ))
    → KeepsInput made → IsAnswerBy made r layout deck s top → (bad : GdsBad)
    → ComesExactlyWhere (ReadRose r) s (answers.Layout (layout_faults.Gds bad)) ((name : List ℕ) × HoldsGdsFault r.before layout deck bad name)
layout_gds made r layout deck s top keeps h bad =
    layout_row made r layout deck s top keeps h (layout_faults.Gds bad) (λ name. HoldsGdsFault r.before layout deck bad name) (h.told.layout_gds bad)

pub layout_oas : (made : Input → Status → Type 0) (r : Run) (layout deck : List ℕ) (s : Status) (top : Option (List ℕ))
    → KeepsInput made → IsAnswerBy made r layout deck s top → (bad : OasBad)
    → ComesExactlyWhere (ReadRose r) s (answers.Layout (layout_faults.Oas bad)) ((name : List ℕ) × HoldsOasFault r.before layout deck bad name)
layout_oas made r layout deck s top keeps h bad =
    layout_row made r layout deck s top keeps h (layout_faults.Oas bad) (λ name. HoldsOasFault r.before layout deck bad name) (h.told.layout_oas bad)

tree_due : (made : Input → Status → Type 0) (r : Run) (layout deck : List ℕ) (s : Status) (top : Option (List ℕ))
    (h : IsAnswerBy made r layout deck s top) (bad : TreeBad) (name : List ℕ) → HoldsTreeFault r.before layout deck bad name
    → IsOfKind bad s ⊎ (s ≡ answers.NoMemory) ⊎ ((s ≡ answers.ReadFault) × ReadRose r)
tree_due made r layout deck s top h bad name x =
    elim ((h.told.layout_tree bad name).whenever x) [
      | inl kind ↦ inl (record {
        other = kind.other;
        answer = refused_on made r h.a s top (Fault (bads.Layout (layout_faults.Tree kind.other) name)) h.outcome kind.answer;
        same = kind.same;
      })
      | inr (inl e) ↦ inr (inl (refused_on made r h.a s top NoMemory h.outcome e))
      | inr (inr (e, rose)) ↦ inr (inr (refused_on made r h.a s top (Fault bads.ReadFault) h.outcome e, rose))
    ]

pub layout_tree : (made : Input → Status → Type 0) (r : Run) (layout deck : List ℕ) (s : Status) (top : Option (List ℕ))
    → KeepsInput made → IsAnswerBy made r layout deck s top → (bad : TreeBad) → IsTreeFault r.before (ReadRose r) s layout deck bad
layout_tree made r layout deck s top keeps h bad = record {
  only = λ e.
      let back = layout_back made r h.a (layout_faults.Tree bad) top keeps (turned made r h.a s (answers.Layout (layout_faults.Tree bad)) top h.outcome e) in
      (back.0, (h.told.layout_tree bad back.0).only back.1);
  whenever = λ name x. tree_due made r layout deck s top h bad name x;
}

-- the name that the line of a refused layout may give
top_deck : (b : Content) (rr fr : Type 0) (layout deck : List ℕ) (a : Answer) (fault : LayoutFault) (name : List ℕ)
    → IsInputTold b rr fr layout deck a → a ≡ Err (Fault (bads.Layout fault name))
    → (d : Deck) × HoldsDeck b layout deck d × (name ≡ d.top)
top_deck b rr fr layout deck a layout_faults.Long name t e = let h = (t.layout_long name).only e in (h.deck_is, h.holds_deck, h.top_is)
top_deck b rr fr layout deck a (layout_faults.Gds bad) name t e = let h = (t.layout_gds bad name).only e in (h.deck_is, h.holds_deck, h.top_is)
top_deck b rr fr layout deck a (layout_faults.Oas bad) name t e = let h = (t.layout_oas bad name).only e in (h.deck_is, h.holds_deck, h.top_is)
top_deck b rr fr layout deck a (layout_faults.Tree bad) name t e = let h = (t.layout_tree bad name).only e in (h.deck_is, h.holds_deck, h.top_is)

pub top_named : (made : Input → Status → Type 0) (r : Run) (layout deck : List ℕ) (s : Status) (top : Option (List ℕ))
    → KeepsInput made → IsAnswerBy made r layout deck s top → (fault : LayoutFault) → s ≡ answers.Layout fault
    → (name : List ℕ) × (top ≡ Some name) × (d : Deck) × HoldsDeck r.before layout deck d × (name ≡ d.top)
top_named made r layout deck s top keeps h fault e =
    let back = layout_back made r h.a fault top keeps (turned made r h.a s (answers.Layout fault) top h.outcome e) in
    let named = top_deck r.before (ReadRose r) (RefusedRose r) layout deck h.a fault back.0 h.told back.1 in
    (back.0, back.2, named.0, named.1, named.2)

-- ---- faults of reading

read_back : (made : Input → Status → Type 0) (r : Run) (a : Answer) (top : Option (List ℕ)) → IsOutcomeBy made r a answers.ReadFault top
    → (a ≡ Err (Fault bads.ReadFault)) ⊎ ((input : Input) × (a ≡ Ok input) × made input answers.ReadFault)
read_back made r (Ok input) top (h, none) = inr (input, refl, h)
read_back made r (Err bad) top (e, name, rest) = inl (ap Err (read_inverse bad e))

pub read_cause : (made : Input → Status → Type 0) (r : Run) (layout deck : List ℕ) (s : Status) (top : Option (List ℕ))
    → IsAnswerBy made r layout deck s top → s ≡ answers.ReadFault
    → ReadRose r ⊎ IsWanting r.before layout deck ⊎ ((input : Input) × HoldsInput r.before layout deck input × made input answers.ReadFault)
read_cause made r layout deck s top h e =
    elim (read_back made r h.a top (turned made r h.a s answers.ReadFault top h.outcome e)) [
      | inl back ↦ elim (h.told.read_fault back) [ inl rose ↦ inl rose | inr want ↦ inr (inl want) ]
      | inr (input, is, x) ↦ inr (inr (input, (h.told.given input).only is, x))
    ]

pub missing_due : (made : Input → Status → Type 0) (r : Run) (layout deck : List ℕ) (s : Status) (top : Option (List ℕ))
    → IsAnswerBy made r layout deck s top → IsWanting r.before layout deck
    → (s ≡ answers.ReadFault) ⊎ (s ≡ answers.NoMemory)
missing_due made r layout deck s top h want =
    elim (h.told.missing want) [
      | inl e ↦ inl (refused_on made r h.a s top (Fault bads.ReadFault) h.outcome e)
      | inr e ↦ inr (refused_on made r h.a s top NoMemory h.outcome e)
    ]

pub first_due : (made : Input → Status → Type 0) (r : Run) (layout deck : List ℕ) (s : Status) (top : Option (List ℕ))
    → IsAnswerBy made r layout deck s top → IsNotThere r.before deck
    → (s ≡ answers.ReadFault) ⊎ ((s ≡ answers.NoMemory) × RefusedRose r)
first_due made r layout deck s top h missing =
    elim (h.told.missing_deck missing) [
      | inl e ↦ inl (refused_on made r h.a s top (Fault bads.ReadFault) h.outcome e)
      | inr (e, rose) ↦ inr (refused_on made r h.a s top NoMemory h.outcome e, rose)
    ]

-- ---- what is accepted

-- the input of an answer to an accepted input
pub record Given (made : Input → Status → Type 0) (r : Run) (layout deck : List ℕ) (s : Status) : Type 0 where
  pub input : Input
  pub holds : HoldsInput r.before layout deck input
  pub is : made input s

given_in : (made : Input → Status → Type 0) (r : Run) (layout deck : List ℕ) (a : Answer) (s : Status)
    (top : Option (List ℕ)) → IsInputTold r.before (ReadRose r) (RefusedRose r) layout deck a → IsOutcomeBy made r a s top
    → ((bad : Refusal InputBad) → s ≡ status_of bad → ⊥) → Given made r layout deck s
given_in made r layout deck (Ok input) s top told (h, none) apart = record { input = input; holds = (told.given input).only refl; is = h }
given_in made r layout deck (Err bad) s top told (e, name, rest) apart = absurd (apart bad e)

-- an answer that is none of a refused input
pub given_by : (made : Input → Status → Type 0) (r : Run) (layout deck : List ℕ) (s : Status) (top : Option (List ℕ))
    → IsAnswerBy made r layout deck s top → ((bad : Refusal InputBad) → s ≡ status_of bad → ⊥) → Given made r layout deck s
given_by made r layout deck s top h apart = given_in made r layout deck h.a s top h.told h.outcome apart

pub done_given : (made : Input → Status → Type 0) (r : Run) (layout deck : List ℕ) (s : Status) (top : Option (List ℕ))
    → IsAnswerBy made r layout deck s top → s ≡ answers.Done → Given made r layout deck s
done_given made r layout deck s top h e = given_by made r layout deck s top h (λ bad f. done_refused bad (sym e ∙ f))

pub write_given : (made : Input → Status → Type 0) (r : Run) (layout deck : List ℕ) (s : Status) (top : Option (List ℕ))
    → IsAnswerBy made r layout deck s top → s ≡ answers.WriteFault → Given made r layout deck s
write_given made r layout deck s top h e = given_by made r layout deck s top h (λ bad f. write_refused bad (sym e ∙ f))

pub no_given : (made : Input → Status → Type 0) (r : Run) (layout deck : List ℕ) (s : Status) (top : Option (List ℕ))
    (place : ℕ) (fault : CheckFault) → IsAnswerBy made r layout deck s top → s ≡ answers.No place fault → Given made r layout deck s
no_given made r layout deck s top place fault h e = given_by made r layout deck s top h (λ bad f. no_refused place fault bad (sym e ∙ f))

-- what comes where the input is accepted
given_due : (made : Input → Status → Type 0) (r : Run) (a : Answer) (s : Status) (top : Option (List ℕ)) (input : Input) → IsOutcomeBy made r a s top
    → (a ≡ Ok input) ⊎ (a ≡ Err NoMemory) ⊎ ((a ≡ Err (Fault bads.ReadFault)) × ReadRose r) → made input s
    ⊎ (s ≡ answers.NoMemory) ⊎ ((s ≡ answers.ReadFault) × ReadRose r)
given_due made r a s top input h (inl e) = inl (subst (λ (x : Answer). IsOutcomeBy made r x s top) e h).0
given_due made r a s top input h (inr (inl e)) = inr (inl (refused_on made r a s top NoMemory h e))
given_due made r a s top input h (inr (inr (e, rose))) = inr (inr (refused_on made r a s top (Fault bads.ReadFault) h e, rose))

pub input_due : (made : Input → Status → Type 0) (r : Run) (layout deck : List ℕ) (s : Status) (top : Option (List ℕ))
    → IsAnswerBy made r layout deck s top → (input : Input) → HoldsInput r.before layout deck input
    → made input s ⊎ (s ≡ answers.NoMemory) ⊎ ((s ≡ answers.ReadFault) × ReadRose r)
input_due made r layout deck s top h input holds = given_due made r h.a s top input h.outcome ((h.told.given input).whenever holds)

-- what was done with the input, or nothing but what is left to be read has changed
pub left_or_made : (made : Input → Status → Type 0) (r : Run) (layout deck : List ℕ) (s : Status)
    (top : Option (List ℕ)) → IsAnswerBy made r layout deck s top → ChangesLeftOnly r.before r.after ⊎ Given made r layout deck s
left_or_made made r layout deck s top h = left_in made r layout deck h.a s top h.told h.outcome
  where
    left_in : (made : Input → Status → Type 0) (r : Run) (layout deck : List ℕ) (a : Answer) (s : Status)
        (top : Option (List ℕ)) → IsInputTold r.before (ReadRose r) (RefusedRose r) layout deck a → IsOutcomeBy made r a s top
        → ChangesLeftOnly r.before r.after ⊎ Given made r layout deck s
    left_in made r layout deck (Ok input) s top told (h, none) = inr (record { input = input; holds = (told.given input).only refl; is = h })
    left_in made r layout deck (Err bad) s top told (e, name, rest) = inl rest

-- ---- `fracture`

made_done : (tells : Bool) (b a : Content) (wr rr : Type 0) (input : Input) (s : Status)
    → IsMade tells b a wr rr input s → (wr → ⊥) → s ≢ answers.NoMemory → s ≡ answers.Done
made_done tells b a wr rr input s (inl x) writes memory = x.0
made_done tells b a wr rr input s (inr (inl x)) writes memory = absurd (writes x.1)
made_done tells b a wr rr input s (inr (inr x)) writes memory = absurd (memory x.0)

pub done_where : (tells : Bool) (r : Run) (layout deck : List ℕ) (s : Status) (top : Option (List ℕ))
    → IsAnswer tells r layout deck s top → (ReadRose r → ⊥) → (WriteRose r → ⊥) → s ≢ answers.NoMemory
    → (input : Input) → HoldsInput r.before layout deck input → s ≡ answers.Done
done_where tells r layout deck s top h reads writes memory input holds =
    elim (input_due (IsFractured tells r) r layout deck s top h input holds) [
      | inl x ↦ made_done tells (with_left r.before []) r.after (WriteRose r) (RefusedRose r) input s x writes memory
      | inr (inl e) ↦ absurd (memory e)
      | inr (inr (e, rose)) ↦ absurd (reads rose)
    ]

pub fractured_keeps : (tells : Bool) (r : Run) → KeepsInput (IsFractured tells r)
fractured_keeps tells r = record {
  deck = λ input fault x. deck_made fault (made_kind tells (with_left r.before []) r.after (WriteRose r) (RefusedRose r) input (answers.Deck fault) x);
  layout = λ input fault x. layout_made fault (made_kind tells (with_left r.before []) r.after (WriteRose r) (RefusedRose r) input (answers.Layout fault) x);
}

pub fracture_cause : (tells : Bool) (r : Run) (layout deck : List ℕ) (s : Status) (top : Option (List ℕ))
    → IsAnswer tells r layout deck s top → s ≡ answers.ReadFault → ReadRose r ⊎ IsWanting r.before layout deck
fracture_cause tells r layout deck s top h e =
    elim (read_cause (IsFractured tells r) r layout deck s top h e) [
      | inl rose ↦ inl rose
      | inr (inl want) ↦ inr want
      | inr (inr (input, holds, x)) ↦ absurd
          (read_made (made_kind tells (with_left r.before []) r.after (WriteRose r) (RefusedRose r) input answers.ReadFault x))
    ]

-- what a refusal leaves
pub refusal_left : (tells : Bool) (r : Run) (layout deck : List ℕ) (s : Status) (top : Option (List ℕ))
    → IsAnswer tells r layout deck s top → s ≢ answers.Done → s ≢ answers.WriteFault → s ≢ answers.NoMemory
    → ChangesLeftOnly r.before r.after
refusal_left tells r layout deck s top h done write memory =
    elim (left_or_made (IsFractured tells r) r layout deck s top h) [
      | inl rest ↦ rest
      | inr given ↦ elim (made_kind tells (with_left r.before []) r.after (WriteRose r) (RefusedRose r) given.input s given.is) [
        | inl e ↦ absurd (done e)
        | inr (inl e) ↦ absurd (write e)
        | inr (inr e) ↦ absurd (memory e)
      ]
    ]
