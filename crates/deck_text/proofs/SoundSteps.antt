-- Each operand is the number of an earlier definition.
use Rattle.std.proofs.Common.{◌≡◌, ◌⊎◌, inl, inr, ℕ, zero, suc, ◌+◌, ◌<◌, Bool, true, false, not, ◌||◌, cond, List, []}
use Rattle.std.proofs.Common.{◌∷◌, ◌++◌, length, Option, Some, None, refl, sym, ap, subst, ◌∙◌, arith, append_assoc}
use Rattle.std.specs.Prelude.{ℤ, filter_map, slice_get, find, IsSome}
use Rattle.std.specs.List.{cons_option}
use Rattle.std.specs.Str.{bytes_eq}
use Rattle.std.proofs.lemmas.Bool.{false≢true}
use Rattle.std.proofs.lemmas.List.Elements.{filter_map-append}
use Rattle.half_grid.specs.declared.extent.Frame.{Frame}
use Rattle.deck_text.specs.Statements.{Statement, Sets, Defines, Writes, UnitIs, TopIs, BandIs, LimitsAre, FrameIs}
use Rattle.deck_text.specs.Statements.{Operation, LayerOf, Combines, Sizes, Inverts, Mirrors, Said}
use Rattle.deck_text.specs.Rules.{any_before, defines, is_defined, is_frame, broken_rule}
use Rattle.deck_text.specs.Decks.{said, defined_name, names_of, number_of, combined, resized, step_of, step_in, setting_in, frame_of}
use Rattle.deck_text.specs.Sound.{IsSoundStep, AreSides}
use Rattle.deck_text.specs.declared.statement.Operator.{Operator}
use Rattle.deck_text.specs.declared.statement.Operator.TheVariants as operators
use Rattle.deck_text.specs.declared.statement.Sizing.{Sizing}
use Rattle.deck_text.specs.declared.statement.Sizing.TheVariants as sizings
use Rattle.deck_text.specs.declared.deck.Step.{Step}
use Rattle.deck_text.specs.declared.deck.Step.TheVariants as steps
use Rattle.deck_text.proofs.RuleLemmas.{KeepsRules, keeps_rules}
use Rattle.deck_text.proofs.SoundRanges.{range_of, narrow_pair, even_sides, near_mirror}
use Rattle.deck_text.proofs.Steps.{setting_found, setting_stays}

-- ---- numbers of definitions

-- the first of the names, or a later one
first_name : (b : Bool) (n count : ℕ) → (b ≡ false → n < count) → cond (not b) (1 + n) 0 < suc count
first_name true n count h = omega arith
first_name false n count h = let later = h refl in omega arith

defined_first : (b : Bool) (x : Bool) → (b || x) ≡ true → b ≡ false → x ≡ true
defined_first true x e f = absurd (false≢true (sym f))
defined_first false x e f = e

-- one more statement before the others
next_number : (before : List Said) (name : List ℕ) (more : List (List ℕ))
    → (is_defined before name ≡ true → number_of (names_of before ++ more) name < length (names_of before))
    → (s : Statement) → (defines name s || is_defined before name) ≡ true
    → number_of (cons_option (defined_name s) (names_of before) ++ more) name < length
    (cons_option (defined_name s) (names_of before))
next_number before name more later (Sets setting) h = later h
next_number before name more later (Defines other operation) h =
    first_name (bytes_eq other name) (number_of (names_of before ++ more) name) (length (names_of before))
    (λ f. later (defined_first (bytes_eq other name) (is_defined before name) h f))
next_number before name more later (Writes a file layer datatype) h = later h

pub number_defined : (before : List Said) (name : List ℕ) (more : List (List ℕ)) → is_defined before name ≡ true
    → number_of (names_of before ++ more) name < length (names_of before)
number_defined [] name more e = absurd (false≢true e)
number_defined (m ∷ before) name more e = next_number before name more (number_defined before name more) m.says e

-- an operand that isn't unknown
some_unknown : (a : List ℕ) → Some a ≡ None → ⊥
some_unknown a e = let clash : ⊥ = cc in clash

known_by : (before : List Said) (a : List ℕ) (rest : List (List ℕ)) (b : Bool) → is_defined before a ≡ b
    → cond (not b) (Some a) (find (λ name. not (is_defined before name)) rest) ≡ None
    → (is_defined before a ≡ true) × (find (λ name. not (is_defined before name)) rest ≡ None)
known_by before a rest true e h = (e, h)
known_by before a rest false e h = absurd (some_unknown a h)

pub known : (before : List Said) (a : List ℕ) (rest : List (List ℕ))
    → find (λ name. not (is_defined before name)) (a ∷ rest) ≡ None → (is_defined before a ≡ true)
    × (find (λ name. not (is_defined before name)) rest ≡ None)
known before a rest h = known_by before a rest (is_defined before a) refl h

-- ---- the step of a statement that breaks no rule

sound_stays : (f g : Option Frame) → (IsSome f → IsSome g) → (k : ℕ) (step : Step) → IsSoundStep f k step → IsSoundStep g k step
sound_stays f g stays k (steps.Layer p) h = h
sound_stays f g stays k (steps.Or a b) h = h
sound_stays f g stays k (steps.And a b) h = h
sound_stays f g stays k (steps.Sub a b) h = h
sound_stays f g stays k (steps.Xor a b) h = h
sound_stays f g stays k (steps.Grow a dx dy) h = h
sound_stays f g stays k (steps.Shrink a dx dy) h = h
sound_stays f g stays k (steps.Invert a) h = (h.0, stays h.1)
sound_stays f g stays k (steps.Mirror a m) h = h

combined_sound : (f : Option Frame) (k a b : ℕ) (operator : Operator) → a < k → b < k → IsSoundStep f k (combined operator a b)
combined_sound f k a b operators.Or x y = (x, y)
combined_sound f k a b operators.And x y = (x, y)
combined_sound f k a b operators.Sub x y = (x, y)
combined_sound f k a b operators.Xor x y = (x, y)

resized_sound : (f : Option Frame) (k a : ℕ) (dx dy : ℤ) (sizing : Sizing) → a < k → AreSides dx dy → IsSoundStep f k (resized sizing a dx dy)
resized_sound f k a dx dy sizings.Grow x h = (x, h)
resized_sound f k a dx dy sizings.Shrink x h = (x, h)

frame_some : (s : Statement) → is_frame s ≡ true → IsSome (frame_of s)
frame_some (Sets (UnitIs n)) e = absurd (false≢true e)
frame_some (Sets (TopIs cell)) e = absurd (false≢true e)
frame_some (Sets (BandIs rows)) e = absurd (false≢true e)
frame_some (Sets (LimitsAre height width)) e = absurd (false≢true e)
frame_some (Sets (FrameIs x0 y0 x1 y1)) e = refl
frame_some (Defines name operation) e = absurd (false≢true e)
frame_some (Writes a file layer datatype) e = absurd (false≢true e)

given : (b : Bool) → not b ≡ false → b ≡ true
given true e = refl
given false e = absurd (false≢true (sym e))

new_step : (layout deck : List ℕ) (before : List Said) (more : List (List ℕ)) (name : List ℕ) (operation : Operation)
    → KeepsRules layout deck before (Defines name operation)
    → IsSoundStep (setting_in frame_of before) (length (names_of before)) (step_of (names_of before ++ more) operation)
new_step layout deck before more name (LayerOf layer datatype) h = narrow_pair layer datatype (sym (range_of (Defines name (LayerOf layer datatype))) ∙ h.range)
new_step layout deck before more name (Combines operator a b) h =
    let first = known before a (b ∷ []) h.unknown in
    let second = known before b [] first.1 in
    combined_sound (setting_in frame_of before) (length (names_of before)) (number_of (names_of before ++ more) a)
    (number_of (names_of before ++ more) b) operator (number_defined before a more first.0)
    (number_defined before b more second.0)
new_step layout deck before more name (Sizes sizing a dx dy) h =
    resized_sound (setting_in frame_of before) (length (names_of before))
    (number_of (names_of before ++ more) a) dx dy sizing
    (number_defined before a more (known before a [] h.unknown).0)
    (even_sides dx dy (sym (range_of (Defines name (Sizes sizing a dx dy))) ∙ h.range) h.odd)
new_step layout deck before more name (Inverts a) h = (
  number_defined before a more (known before a [] h.unknown).0,
  setting_found is_frame frame_of frame_some before
      (given (any_before is_frame before) h.frame),
)
new_step layout deck before more name (Mirrors a m) h =
    (number_defined before a more (known before a [] h.unknown).0, near_mirror m (sym (range_of (Defines name (Mirrors a m))) ∙ h.range))

-- ---- all steps

pub step_count : (names : List (List ℕ)) (saids : List Said) → length (filter_map (λ m. step_in names m.says) saids) ≡ length (names_of saids)
step_count names [] = refl
step_count names (m ∷ saids) = next_count names saids (step_count names saids) m.says
  where
    next_count : (names : List (List ℕ)) (saids : List Said) → length (filter_map (λ m. step_in names m.says) saids) ≡ length (names_of saids) → (s : Statement)
        → length (cons_option (step_in names s) (filter_map (λ m. step_in names m.says) saids)) ≡ length (cons_option (defined_name s) (names_of saids))
    next_count names saids e (Sets setting) = e
    next_count names saids e (Defines name operation) = ap suc e
    next_count names saids e (Writes a file layer datatype) = e

pub in_append : {A : Type 0} (xs ys : List A) (k : ℕ) (x : A) → slice_get (xs ++ ys) k ≡ Some x
    → (slice_get xs k ≡ Some x) ⊎ ((j : ℕ) × (k ≡ length xs + j) × (slice_get ys j ≡ Some x))
in_append [] ys k x e = inr (k, omega arith, e)
in_append (y ∷ xs) ys zero x e = inl e
in_append (y ∷ xs) ys (suc k) x e = elim (in_append xs ys k x e) [
  | inl here ↦ inl here
  | inr later ↦ inr (later.0, omega (arith, later.1), later.2)
]

pub only_item : {A : Type 0} (o : Option A) (j : ℕ) (x : A) → slice_get (cons_option o []) j ≡ Some x → (j ≡ 0) × (o ≡ Some x)
only_item None j x e = absurd (let clash : ⊥ = cc in clash)
only_item (Some y) zero x e = (refl, e)
only_item (Some y) (suc j) x e = absurd (let clash : ⊥ = cc in clash)

-- the steps so far, whatever definitions follow
abbrev pub AreSoundSteps : List Said → Type 0
AreSoundSteps saids = (more : List (List ℕ)) (k : ℕ) (step : Step)
    → slice_get (filter_map (λ m. step_in (names_of saids ++ more) m.says) saids) k ≡ Some step
    → IsSoundStep (setting_in frame_of saids) k step

own_step : (layout deck : List ℕ) (before : List Said) (more : List (List ℕ)) (s : Statement) (step : Step)
    → KeepsRules layout deck before s → step_in (names_of before ++ more) s ≡ Some step
    → IsSoundStep (setting_in frame_of before) (length (names_of before)) step
own_step layout deck before more (Sets setting) step h e = absurd (let clash : ⊥ = cc in clash)
own_step layout deck before more (Defines name operation) step h e =
    let same : step_of (names_of before ++ more) operation ≡ step = cc in
    subst (λ (x : Step). IsSoundStep (setting_in frame_of before) (length (names_of before)) x) same (new_step layout deck before more name operation h)
own_step layout deck before more (Writes a file layer datatype) step h e = absurd (let clash : ⊥ = cc in clash)

pub names_push : (before : List Said) (n : ℕ) (s : Statement) (more : List (List ℕ))
    → names_of (before ++ (said n s ∷ [])) ++ more ≡ names_of before ++ (names_of (said n s ∷ []) ++ more)
names_push before n s more =
    ap (λ (names : List (List ℕ)). names ++ more) (filter_map-append (λ m. defined_name m.says) before (said n s ∷ []))
    ∙ append_assoc (names_of before) (names_of (said n s ∷ [])) more

push_step : (layout deck : List ℕ) (before : List Said) (n : ℕ) (s : Statement) (more : List (List ℕ)) (k : ℕ)
    (step : Step) → AreSoundSteps before → KeepsRules layout deck before s
    → slice_get (filter_map (λ m. step_in (names_of before ++ more) m.says) before ++ cons_option
    (step_in (names_of before ++ more) s) []) k ≡ Some step → IsSoundStep (setting_in frame_of before) k step
push_step layout deck before n s more k step h kept e = elim
    (in_append (filter_map (λ m. step_in (names_of before ++ more) m.says) before)
    (cons_option (step_in (names_of before ++ more) s) []) k step e) [
      | inl here ↦ h more k step here
      | inr own ↦
          let item = only_item (step_in (names_of before ++ more) s) own.0 step own.2 in
          let count = step_count (names_of before ++ more) before in
          let place : length (names_of before) ≡ k = omega (arith, count, item.0, own.1) in
          subst (λ (j : ℕ). IsSoundStep (setting_in frame_of before) j step) place (own_step layout deck before more s step kept item.1)
    ]

pub steps_stay : (layout deck : List ℕ) (before : List Said) (n : ℕ) (s : Statement) → AreSoundSteps before
    → broken_rule layout deck before n s ≡ None → AreSoundSteps (before ++ (said n s ∷ []))
steps_stay layout deck before n s h kept more k step e =
    let own : List (List ℕ) = names_of (said n s ∷ []) ++ more in
    let names : names_of (before ++ (said n s ∷ [])) ++ more ≡ names_of before ++ (names_of (said n s ∷ []) ++ more) = names_push before n s more in
    let moved : slice_get (filter_map (λ m. step_in (names_of before ++ (names_of (said n s ∷ []) ++ more)) m.says) (before ++ (said n s ∷ []))) k ≡ Some step =
    subst (λ (xs : List (List ℕ)). slice_get (filter_map (λ m. step_in xs m.says) (before ++ (said n s ∷ []))) k ≡ Some step) names e in
    let parts = subst (λ (xs : List Step). slice_get xs k ≡ Some step)
    (filter_map-append (λ m. step_in (names_of before ++ (names_of (said n s ∷ []) ++ more)) m.says) before
    (said n s ∷ [])) moved in
    sound_stays (setting_in frame_of before) (setting_in frame_of (before ++ (said n s ∷ []))) (setting_stays frame_of before (said n s ∷ [])) k step
    (push_step layout deck before n s (names_of (said n s ∷ []) ++ more) k step h (keeps_rules layout deck before n s kept) parts)

pub no_steps : AreSoundSteps []
no_steps more k step e = absurd (let clash : ⊥ = cc in clash)
