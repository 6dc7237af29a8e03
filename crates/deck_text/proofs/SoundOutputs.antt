-- The outputs are of definitions, and their files are free; neither they nor the definitions are too many.
use Rattle.std.proofs.Common.{◌≡◌, ◌≢◌, ◌⊎◌, inl, inr, ℕ, ◌+◌, ◌<◌, ◌≤◌, Bool, true, false, ◌||◌, cond, leb, List, []}
use Rattle.std.proofs.Common.{◌∷◌, ◌++◌, length, Option, Some, None, refl, sym, ap, subst, ◌∙◌, arith}
use Rattle.std.specs.Prelude.{ℤ, All, filter_map, map}
use Rattle.std.specs.List.{cons_option}
use Rattle.std.specs.Str.{bytes_eq}
use Rattle.std.proofs.lemmas.Bool.{false≢true}
use Rattle.std.proofs.lemmas.Bool.Decides.{nat_tests}
use Rattle.std.proofs.lemmas.List.{append-nil, length-append}
use Rattle.std.proofs.lemmas.List.Sums.{sum_by_push, sum_by-cons}
use Rattle.std.proofs.lemmas.List.Elements.{All-nil, All-cons, All-head, All-tail, All-push, All-append, All-weaker, filter_map-append}
use Rattle.std.proofs.lemmas.Slice.Eq.{bytes_eq-Decides}
use Rattle.deck_text.specs.Statements.{Statement, Sets, Defines, Writes, Said}
use Rattle.deck_text.specs.Rules.{is_definition, is_output, any_before, count_before, goes_to, broken_rule}
use Rattle.deck_text.specs.Decks.{said, defined_name, names_of, number_of, output_in, has_output, pair}
use Rattle.deck_text.specs.Sound.{IsSoundOutput, AreDistinct}
use Rattle.deck_text.specs.declared.deck.Output.{Output}
use Rattle.deck_text.proofs.RuleLemmas.{KeepsRules, keeps_rules}
use Rattle.deck_text.proofs.SoundRanges.{range_of, narrow_pair}
use Rattle.deck_text.proofs.Steps.{either}
use Rattle.deck_text.proofs.SoundSteps.{number_defined, known, names_push}

-- ---- counts

-- at most 256 definitions and 64 outputs
pub record AreFew (saids : List Said) : Type 0 where
  pub definitions : count_before is_definition saids ≤ 256
  pub outputs : count_before is_output saids ≤ 64

pub none_few : AreFew []
none_few = record { definitions = omega arith; outputs = omega arith }

count_push : (test : Statement → Bool) (before : List Said) (n : ℕ) (s : Statement)
    → count_before test (before ++ (said n s ∷ [])) ≡ count_before test before + cond (test s) 1 0
count_push test before n s = sum_by_push (λ m. cond (test m.says) 1 0) before (said n s)

not_yet : (limit count : ℕ) → leb limit count ≡ false → count < limit
not_yet limit count e = grind (arith, nat_tests)

pub few_stay : (layout deck : List ℕ) (before : List Said) (n : ℕ) (s : Statement) → AreFew before
    → broken_rule layout deck before n s ≡ None → AreFew (before ++ (said n s ∷ []))
few_stay layout deck before n (Sets setting) h kept = record {
  definitions = omega (arith, count_push is_definition before n (Sets setting), h.definitions);
  outputs = omega (arith, count_push is_output before n (Sets setting), h.outputs);
}
few_stay layout deck before n (Defines name operation) h kept =
    let below = not_yet 256 (count_before is_definition before) (keeps_rules layout deck before n (Defines name operation) kept).many in
    record {
      definitions = omega (arith, count_push is_definition before n (Defines name operation), below);
      outputs = omega (arith, count_push is_output before n (Defines name operation), h.outputs);
    }
few_stay layout deck before n (Writes a file layer datatype) h kept =
    let below = not_yet 64 (count_before is_output before) (keeps_rules layout deck before n (Writes a file layer datatype) kept).many in
    record {
      definitions = omega (arith, count_push is_definition before n (Writes a file layer datatype), h.definitions);
      outputs = omega (arith, count_push is_output before n (Writes a file layer datatype), below);
    }

next_names : (saids : List Said) (s : Statement) → length (names_of saids) ≡ count_before is_definition saids
    → length (cons_option (defined_name s) (names_of saids)) ≡ cond
    (is_definition s) 1 0 + count_before is_definition saids
next_names saids (Sets setting) e = omega (arith, e)
next_names saids (Defines name operation) e = omega (arith, e)
next_names saids (Writes a file layer datatype) e = omega (arith, e)

pub names_count : (saids : List Said) → length (names_of saids) ≡ count_before is_definition saids
names_count [] = refl
names_count (m ∷ saids) = next_names saids m.says (names_count saids) ∙ sym (sum_by-cons (λ m. cond (is_definition m.says) 1 0) m saids)

next_outputs : (names : List (List ℕ)) (saids : List Said) (s : Statement)
    → length (filter_map (λ m. output_in names m.says) saids) ≡ count_before is_output saids
    → length (cons_option (output_in names s) (filter_map (λ m. output_in names m.says) saids)) ≡ cond (is_output s) 1 0 + count_before is_output saids
next_outputs names saids (Sets setting) e = omega (arith, e)
next_outputs names saids (Defines name operation) e = omega (arith, e)
next_outputs names saids (Writes a file layer datatype) e = omega (arith, e)

pub outputs_count : (names : List (List ℕ)) (saids : List Said) → length (filter_map (λ m. output_in names m.says) saids) ≡ count_before is_output saids
outputs_count names [] = refl
outputs_count names (m ∷ saids) = next_outputs names saids m.says (outputs_count names saids) ∙ sym (sum_by-cons (λ m. cond (is_output m.says) 1 0) m saids)

some_first : (b : Bool) (n : ℕ) → (b ≡ true) ⊎ (1 ≤ n) → 1 ≤ cond b 1 0 + n
some_first true n h = omega arith
some_first false n (inl e) = absurd (false≢true e)
some_first false n (inr h) = omega arith

pub some_outputs : (saids : List Said) → has_output saids ≡ true → 1 ≤ count_before is_output saids
some_outputs [] e = absurd (false≢true e)
some_outputs (m ∷ saids) e =
    let more : 1 ≤ cond (is_output m.says) 1 0 + count_before is_output saids = elim (either (is_output m.says) (has_output saids) e) [
      | inl here ↦ some_first (is_output m.says) (count_before is_output saids) (inl here)
      | inr later ↦ some_first (is_output m.says) (count_before is_output saids) (inr (some_outputs saids later))
    ] in
    omega (arith, more, sum_by-cons (λ m. cond (is_output m.says) 1 0) m saids)

-- ---- each output

-- the outputs so far, whatever definitions follow
abbrev pub AreSoundOutputs : (layout deck : List ℕ) → List Said → Type 0
AreSoundOutputs layout deck saids = (more : List (List ℕ)) → All (IsSoundOutput layout deck (length (names_of saids)))
    (filter_map (λ m. output_in (names_of saids ++ more) m.says) saids)

pub no_outputs : (layout deck : List ℕ) → AreSoundOutputs layout deck []
no_outputs layout deck more = All-nil (IsSoundOutput layout deck 0)

-- a file that isn't taken
free_of : (a b c : Bool) → (a || (b || c)) ≡ false → (a ≡ false) × (b ≡ false) × (c ≡ false)
free_of true b c e = absurd (false≢true (sym e))
free_of false true c e = absurd (false≢true (sym e))
free_of false false c e = (refl, refl, e)

apart : (x y : List ℕ) → bytes_eq x y ≡ false → x ≢ y
apart x y e same = false≢true (sym e ∙ (bytes_eq-Decides x y).1 same)

own_output : (layout deck : List ℕ) (before : List Said) (more : List (List ℕ)) (a file : List ℕ) (layer datatype : ℤ)
    → KeepsRules layout deck before (Writes a file layer datatype)
    → IsSoundOutput layout deck (length (names_of before)) (record { name = number_of (names_of before ++ more) a; file = file; pair = pair layer datatype })
own_output layout deck before more a file layer datatype h =
    let free = free_of (bytes_eq file layout) (bytes_eq file deck) (any_before (goes_to file) before) h.names in
    record {
      defined = number_defined before a more (known before a [] h.unknown).0;
      narrow = narrow_pair layer datatype (sym (range_of (Writes a file layer datatype)) ∙ h.range);
      not_layout = apart file layout free.0;
      not_deck = apart file deck free.1;
    }

new_outputs : (layout deck : List ℕ) (before : List Said) (more : List (List ℕ)) (s : Statement) → KeepsRules layout deck before s
    → All (IsSoundOutput layout deck (length (names_of before))) (cons_option (output_in (names_of before ++ more) s) [])
new_outputs layout deck before more (Sets setting) h = All-nil (IsSoundOutput layout deck (length (names_of before)))
new_outputs layout deck before more (Defines name operation) h = All-nil (IsSoundOutput layout deck (length (names_of before)))
new_outputs layout deck before more (Writes a file layer datatype) h =
    All-cons (IsSoundOutput layout deck (length (names_of before))) _ []
    (own_output layout deck before more a file layer datatype h)
    (All-nil (IsSoundOutput layout deck (length (names_of before))))

wider : (layout deck : List ℕ) (m n : ℕ) → m ≤ n → (o : Output) → IsSoundOutput layout deck m o → IsSoundOutput layout deck n o
wider layout deck m n le o h = record { defined = omega (arith, h.defined); narrow = h.narrow; not_layout = h.not_layout; not_deck = h.not_deck }

pub outputs_stay : (layout deck : List ℕ) (before : List Said) (n : ℕ) (s : Statement)
    → AreSoundOutputs layout deck before → broken_rule layout deck before n s ≡ None
    → AreSoundOutputs layout deck (before ++ (said n s ∷ []))
outputs_stay layout deck before n s h kept more =
    let own : List (List ℕ) = names_of (said n s ∷ []) ++ more in
    let all = All-append (IsSoundOutput layout deck (length (names_of before)))
    (filter_map (λ m. output_in (names_of before ++ own) m.says) before)
    (cons_option (output_in (names_of before ++ own) s) [])
    (h own) (new_outputs layout deck before own s (keeps_rules layout deck before n s kept)) in
    let names = names_push before n s more in
    let few : length (names_of before) ≤ length (names_of (before ++ (said n s ∷ []))) =
    omega (
      arith,
      ap length (filter_map-append (λ m. defined_name m.says) before (said n s ∷ [])),
      length-append
          (names_of before) (names_of (said n s ∷ [])),
    ) in
    let parts = filter_map-append (λ m. output_in (names_of before ++ own) m.says) before (said n s ∷ []) in
    let whole = subst (λ (xs : List Output). All (IsSoundOutput layout deck (length (names_of before))) xs) (sym parts) all in
    let moved = subst (λ (xs : List (List ℕ)). All (IsSoundOutput layout deck (length (names_of before)))
    (filter_map (λ m. output_in xs m.says) (before ++ (said n s ∷ [])))) (sym names) whole in
    All-weaker (IsSoundOutput layout deck (length (names_of before)))
    (IsSoundOutput layout deck (length (names_of (before ++ (said n s ∷ [])))))
    (wider layout deck (length (names_of before)) (length (names_of (before ++ (said n s ∷ [])))) few) _ moved

-- ---- files

abbrev pub file_in : Statement → Option (List ℕ)
file_in (Sets setting) = None
file_in (Defines name operation) = None
file_in (Writes a file layer datatype) = Some file

abbrev pub files_of : List Said → List (List ℕ)
files_of saids = filter_map (λ m. file_in m.says) saids

next_file : (names : List (List ℕ)) (saids : List Said) (s : Statement) → map (λ o. o.file) (filter_map (λ m. output_in names m.says) saids) ≡ files_of saids
    → map (λ o. o.file) (cons_option (output_in names s) (filter_map (λ m. output_in names m.says) saids)) ≡ cons_option (file_in s) (files_of saids)
next_file names saids (Sets setting) e = e
next_file names saids (Defines name operation) e = e
next_file names saids (Writes a file layer datatype) e = ap (λ (xs : List (List ℕ)). file ∷ xs) e

pub files_are : (names : List (List ℕ)) (saids : List Said) → map (λ o. o.file) (filter_map (λ m. output_in names m.says) saids) ≡ files_of saids
files_are names [] = refl
files_are names (m ∷ saids) = next_file names saids m.says (files_are names saids)

neither : (a b : Bool) → (a || b) ≡ false → (a ≡ false) × (b ≡ false)
neither true b e = absurd (false≢true (sym e))
neither false b e = (refl, e)

next_free : (file : List ℕ) (saids : List Said) (s : Statement) → goes_to file s ≡ false
    → All (λ other. other ≢ file) (files_of saids)
    → All (λ other. other ≢ file) (cons_option (file_in s) (files_of saids))
next_free file saids (Sets setting) e all = all
next_free file saids (Defines name operation) e all = all
next_free file saids (Writes a other layer datatype) e all = All-cons (λ other. other ≢ file) other (files_of saids) (apart other file e) all

free_files : (file : List ℕ) (saids : List Said) → any_before (goes_to file) saids ≡ false → All (λ other. other ≢ file) (files_of saids)
free_files file [] e = All-nil (λ other. other ≢ file)
free_files file (m ∷ saids) e =
    let h = neither (goes_to file m.says) (any_before (goes_to file) saids) e in
    next_free file saids m.says h.0 (free_files file saids h.1)

distinct_push : (xs : List (List ℕ)) (y : List ℕ) → AreDistinct xs → All (λ x. x ≢ y) xs → AreDistinct (xs ++ (y ∷ []))
distinct_push [] y h all = (All-nil (λ other. y ≢ other), tt)
distinct_push (x ∷ xs) y h all =
    (All-push (λ other. x ≢ other) xs y h.0 (All-head (λ z. z ≢ y) x xs all), distinct_push xs y h.1 (All-tail (λ z. z ≢ y) x xs all))

new_file : (layout deck : List ℕ) (before : List Said) (s : Statement) → KeepsRules layout deck before s
    → AreDistinct (files_of before) → AreDistinct (files_of before ++ cons_option (file_in s) [])
new_file layout deck before (Sets setting) h d = subst AreDistinct (sym (append-nil (files_of before))) d
new_file layout deck before (Defines name operation) h d = subst AreDistinct (sym (append-nil (files_of before))) d
new_file layout deck before (Writes a file layer datatype) h d =
    distinct_push (files_of before) file d
    (free_files file before
    (free_of (bytes_eq file layout) (bytes_eq file deck) (any_before (goes_to file) before) h.names).2)

abbrev pub HasDistinctFiles : List Said → Type 0
HasDistinctFiles saids = AreDistinct (files_of saids)

pub files_stay : (layout deck : List ℕ) (before : List Said) (n : ℕ) (s : Statement) → HasDistinctFiles before
    → broken_rule layout deck before n s ≡ None → HasDistinctFiles (before ++ (said n s ∷ []))
files_stay layout deck before n s h kept =
    subst AreDistinct (sym (filter_map-append (λ m. file_in m.says) before (said n s ∷ [])))
    (new_file layout deck before s (keeps_rules layout deck before n s kept) h)
