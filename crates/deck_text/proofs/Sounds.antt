-- Every deck that is read is sound.
use Rattle.std.proofs.Common.{◌≡◌, ◌⊎◌, inl, inr, ℕ, List, [], ◌∷◌, length, Option, Some, None, refl, sym, ap, subst, ◌∙◌, arith}
use Rattle.std.specs.Prelude.{ℤ, pos, All, filter_map, slice_get, unwrap_or, IfSome}
use Rattle.std.proofs.lemmas.Int.{ints}
use Rattle.std.proofs.lemmas.List.{append-nil}
use Rattle.std.proofs.lemmas.List.Elements.{All-nil, All-push, All-head, All-tail}
use Rattle.half_grid.specs.declared.extent.Frame.{Frame}
use Rattle.deck_text.specs.Lines.{lines_of}
use Rattle.deck_text.specs.Statements.{Statement, Said}
use Rattle.deck_text.specs.Rules.{bound, out_of_range, is_output, count_before}
use Rattle.deck_text.specs.Decks.{said, saids_from, AreAccepted, first_or, setting_in, unit_of, band_of, limits_of}
use Rattle.deck_text.specs.Decks.{limits, frame_of, names_of, step_in, steps_of, output_in, outputs_of}
use Rattle.deck_text.specs.Sound.{IsSoundStep, IsFrame, AreLimits, IsSoundOutput, AreSound}
use Rattle.deck_text.specs.declared.deck.Step.{Step}
use Rattle.deck_text.proofs.RuleLemmas.{keeps_rules}
use Rattle.deck_text.proofs.RangeLemmas.{IsInside, unit_range}
use Rattle.deck_text.proofs.SoundRanges.{band_range, limits_range, frame_range}
use Rattle.deck_text.proofs.Kept.{of_all}
use Rattle.deck_text.proofs.SoundSteps.{AreSoundSteps, no_steps, steps_stay, step_count}
use Rattle.deck_text.proofs.SoundOutputs.{AreFew, none_few, few_stay, names_count, outputs_count, some_outputs}
use Rattle.deck_text.proofs.SoundOutputs.{AreSoundOutputs, no_outputs, outputs_stay, files_are, HasDistinctFiles}
use Rattle.deck_text.proofs.SoundOutputs.{files_stay}

-- ---- settings

abbrev pub IsInRange : Said → Type 0
IsInRange m = out_of_range m.says ≡ None

pub in_range : (layout deck : List ℕ) (ls : List (List ℕ)) → AreAccepted layout deck ls (length ls) → All IsInRange (saids_from 1 ls)
in_range layout deck ls h =
    of_all layout deck ls (λ saids. All IsInRange saids) (All-nil IsInRange)
    (λ before n s all kept. All-push IsInRange before (said n s) all (keeps_rules layout deck before n s kept).range) h

first_is : {A : Type 0} (o next : Option A) (x : A) → first_or o next ≡ Some x → (o ≡ Some x) ⊎ (next ≡ Some x)
first_is (Some y) next x e = inl e
first_is None next x e = inr e

pub setting_from : {A : Type 0} (h : Statement → Option A) (R : A → Type 0) → ((s : Statement) (x : A) → out_of_range s ≡ None → h s ≡ Some x → R x)
    → (saids : List Said) → All IsInRange saids → (x : A) → setting_in h saids ≡ Some x → R x
setting_from h R each [] all x e = absurd (let clash : ⊥ = cc in clash)
setting_from h R each (m ∷ saids) all x e = elim (first_is (h m.says) (setting_in h saids) x e) [
  | inl here ↦ each m.says x (All-head IsInRange m saids all) here
  | inr later ↦ setting_from h R each saids (All-tail IsInRange m saids all) x later
]

or_default : {A : Type 0} (o : Option A) (d : A) (R : A → Type 0) → ((x : A) → o ≡ Some x → R x) → R d → R (unwrap_or o d)
or_default (Some x) d R each h = each x refl
or_default None d R each h = h

if_some : (o : Option Frame) → ((f : Frame) → o ≡ Some f → IsFrame f) → IfSome o IsFrame
if_some (Some f) each = each f refl
if_some None each = tt

usual_limits : AreLimits (limits (pos 1048576) (pos 2097152))
usual_limits = record { height_low = omega (arith, ints); height_high = omega (arith, ints); width_low = omega (arith, ints); width_high = omega (arith, ints) }

abbrev IsBand : ℤ → Type 0
IsBand rows = IsInside (bound rows (pos 1024) (pos 16777216))

usual_band : IsBand (pos 1048576)
usual_band = record { low = omega (arith, ints); high = omega (arith, ints) }

-- ---- steps

plain_steps : (saids : List Said) → AreSoundSteps saids → (k : ℕ) (step : Step)
    → slice_get (steps_of saids) k ≡ Some step → IsSoundStep (setting_in frame_of saids) k step
plain_steps saids h k step e =
    h [] k step (subst (λ (names : List (List ℕ)). slice_get (filter_map (λ m. step_in names m.says) saids) k
    ≡ Some step) (sym (append-nil (names_of saids))) e)

plain_outputs : (layout deck : List ℕ) (saids : List Said) → AreSoundOutputs layout deck saids
    → All (IsSoundOutput layout deck (length (names_of saids))) (outputs_of saids)
plain_outputs layout deck saids h =
    subst (λ (names : List (List ℕ)). All (IsSoundOutput layout deck (length (names_of saids)))
    (filter_map (λ m. output_in names m.says) saids)) (append-nil (names_of saids)) (h [])

pub sound : AreSound
sound bytes layout deck d h =
    let all = in_range layout deck (lines_of bytes) h.accepted in
    let steps = of_all layout deck (lines_of bytes) AreSoundSteps no_steps (steps_stay layout deck) h.accepted in
    let unit = setting_from unit_of (λ (n : ℤ). IsInside (bound n (pos 1) (pos 1000000))) unit_range
    (saids_from 1 (lines_of bytes)) all (pos d.unit) h.says.unit in
    let band = or_default (setting_in band_of (saids_from 1 (lines_of bytes))) (pos 1048576) IsBand
    (setting_from band_of IsBand band_range (saids_from 1 (lines_of bytes)) all) usual_band in
    let own : IsBand d.band = rw h.says.band band in
    let few = of_all layout deck (lines_of bytes) AreFew none_few (few_stay layout deck) h.accepted in
    let outputs = of_all layout deck (lines_of bytes) (AreSoundOutputs layout deck) (no_outputs layout deck) (outputs_stay layout deck) h.accepted in
    let files = of_all layout deck (lines_of bytes) HasDistinctFiles tt (files_stay layout deck) h.accepted in
    let step_total : length d.steps ≡ length (names_of (saids_from 1 (lines_of bytes))) =
    ap length h.says.steps ∙ step_count (names_of (saids_from 1 (lines_of bytes)))
    (saids_from 1 (lines_of bytes)) in
    let output_total : length d.outputs ≡ count_before is_output (saids_from 1 (lines_of bytes)) =
    ap length h.says.outputs ∙ outputs_count (names_of (saids_from 1 (lines_of bytes)))
    (saids_from 1 (lines_of bytes)) in
    record {
      unit_low = omega (arith, ints, unit.low);
      unit_high = omega (arith, ints, unit.high);
      band_low = own.low;
      band_high = own.high;
      limits = rw h.says.limits
          (or_default (setting_in limits_of (saids_from 1 (lines_of bytes)))
          (limits (pos 1048576) (pos 2097152)) AreLimits
          (setting_from limits_of AreLimits limits_range (saids_from 1 (lines_of bytes)) all) usual_limits);
      frame = rw h.says.frame
          (if_some (setting_in frame_of (saids_from 1 (lines_of bytes)))
          (setting_from frame_of IsFrame frame_range (saids_from 1 (lines_of bytes)) all));
      steps = λ k step e. rw h.says.frame (plain_steps (saids_from 1 (lines_of bytes)) steps k step (rw h.says.steps at e));
      outputs = rw (h.says.outputs, step_total) (plain_outputs layout deck (saids_from 1 (lines_of bytes)) outputs);
      some_output = omega (arith, output_total, some_outputs (saids_from 1 (lines_of bytes)) h.some);
      few_steps = omega (arith, step_total, names_count (saids_from 1 (lines_of bytes)), few.definitions);
      few_outputs = omega (arith, output_total, few.outputs);
      files = rw (h.says.outputs, files_are (names_of (saids_from 1 (lines_of bytes))) (saids_from 1 (lines_of bytes))) files;
    }
