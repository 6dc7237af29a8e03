-- Lines read one after another.
use Rattle.std.proofs.Common.{◌≡◌, ◌⊎◌, inl, inr, ℕ, zero, suc, ◌+◌, ◌<◌, ◌≤◌, Bool, true, false, not, ◌&&◌, ◌||◌, List}
use Rattle.std.proofs.Common.{[], ◌∷◌, ◌++◌, length, take, drop, Option, Some, None, refl, sym, ap, subst, ◌∙◌, arith}
use Rattle.std.proofs.Common.{add-one, add-zero}
use Rattle.std.specs.Prelude.{slice_get, IsSome}
use Rattle.std.proofs.lemmas.Bool.{cases_lt, false≢true}
use Rattle.std.proofs.lemmas.List.{length-take, take_all, append-nil}
use Rattle.std.proofs.lemmas.List.Folds.{list_any-append}
use Rattle.deck_text.specs.Statements.{Statement, Sets, Defines, Writes, UnitIs, TopIs, BandIs, LimitsAre, FrameIs, Reading, Passed, Refused, Says, Said}
use Rattle.deck_text.specs.Forms.{reading}
use Rattle.deck_text.specs.Rules.{is_setting, is_output, is_unit, is_top, any_before, is_misplaced, broken_rule}
use Rattle.deck_text.specs.Decks.{said, said_first, saids_from, refusal, refusal_after, AreAccepted, IsLineRefusedAt}
use Rattle.deck_text.specs.Decks.{HasNoOutput, has_output, first_or, setting_in, unit_of, top_of}
use Rattle.deck_text.specs.Begun.{IsBegun}
use Rattle.deck_text.proofs.RuleLemmas.{by_order}
use Rattle.deck_text.specs.declared.refusal.DeckBad.{DeckBad}
use Rattle.deck_text.specs.declared.refusal.DeckBad.TheVariants as faults

-- ---- the line after the first n

pub line_there : (ls : List (List ℕ)) (n : ℕ) (line : List ℕ) (more : List (List ℕ)) → drop n ls ≡ line ∷ more → slice_get ls n ≡ Some line
line_there [] zero line more e = absurd cc
line_there [] (suc n) line more e = absurd cc
line_there (x ∷ ls) zero line more e = let same : x ≡ line = cc in ap (λ (y : List ℕ). Some y) same
line_there (x ∷ ls) (suc n) line more e = line_there ls n line more e

line_within : (ls : List (List ℕ)) (n : ℕ) (line : List ℕ) (more : List (List ℕ)) → drop n ls ≡ line ∷ more → n < length ls
line_within [] zero line more e = absurd cc
line_within [] (suc n) line more e = absurd cc
line_within (x ∷ ls) zero line more e = omega arith
line_within (x ∷ ls) (suc n) line more e = let later = line_within ls n line more e in omega arith

next_take : (ls : List (List ℕ)) (n : ℕ) (line : List ℕ) (more : List (List ℕ)) → drop n ls ≡ line ∷ more → take (suc n) ls ≡ take n ls ++ (line ∷ [])
next_take [] zero line more e = absurd cc
next_take [] (suc n) line more e = absurd cc
next_take (x ∷ ls) zero line more e = let same : x ≡ line = cc in ap (λ (y : List ℕ). y ∷ []) same
next_take (x ∷ ls) (suc n) line more e = ap (λ (ys : List (List ℕ)). x ∷ ys) (next_take ls n line more e)

next_drop : (ls : List (List ℕ)) (n : ℕ) (line : List ℕ) (more : List (List ℕ)) → drop n ls ≡ line ∷ more → drop (suc n) ls ≡ more
next_drop [] zero line more e = absurd cc
next_drop [] (suc n) line more e = absurd cc
next_drop (x ∷ ls) zero line more e = let same : ls ≡ more = cc in same
next_drop (x ∷ ls) (suc n) line more e = next_drop ls n line more e

pub lines_left : (ls : List (List ℕ)) (n : ℕ) (line : List ℕ) (more : List (List ℕ)) → drop n ls ≡ line ∷ more → drop (n + 1) ls ≡ more
lines_left ls n line more e = rw add-one (next_drop ls n line more e)

no_line : (ls : List (List ℕ)) (n : ℕ) → drop n ls ≡ [] → length ls ≤ n
no_line [] n e = omega arith
no_line (x ∷ ls) zero e = absurd cc
no_line (x ∷ ls) (suc n) e = let later = no_line ls n e in omega arith

-- ---- statements

first_append : (k : ℕ) (r : Reading) (a b : List Said) → said_first k r (a ++ b) ≡ said_first k r a ++ b
first_append k Passed a b = refl
first_append k (Refused column) a b = refl
first_append k (Says s) a b = refl

saids_push : (k : ℕ) (xs : List (List ℕ)) (line : List ℕ) → saids_from k (xs ++ (line ∷ [])) ≡ saids_from k xs ++ said_first (k + length xs) (reading line) []
unfolding saids_from
saids_push k [] line = ap (λ (n : ℕ). said_first n (reading line) []) (sym (add-zero k))
saids_push k (x ∷ xs) line =
    let count : k + 1 + length xs ≡ k + suc (length xs) = omega arith in
    ap (λ (rest : List Said). said_first k (reading x) rest)
    (saids_push (k + 1) xs line ∙ ap (λ (n : ℕ). saids_from (k + 1) xs ++ said_first n (reading line) []) count)
    ∙ first_append k (reading x) (saids_from (k + 1) xs) (said_first (k + suc (length xs)) (reading line) [])

pub next_saids : (ls : List (List ℕ)) (n : ℕ) (line : List ℕ) (more : List (List ℕ)) → drop n ls ≡ line ∷ more
    → saids_from 1 (take (n + 1) ls) ≡ saids_from 1 (take n ls) ++ said_first (n + 1) (reading line) []
next_saids ls n line more e =
    let within = line_within ls n line more e in
    let count : 1 + length (take n ls) ≡ n + 1 = omega (arith, length-take n ls) in
    rw add-one (ap (λ (xs : List (List ℕ)). saids_from 1 xs) (next_take ls n line more e) ∙ saids_push 1 (take n ls) line)
    ∙ ap (λ (k : ℕ). saids_from 1 (take n ls) ++ said_first k (reading line) []) count

-- ---- accepted lines

some_line : (a b : List ℕ) → Some a ≡ Some b → a ≡ b
some_line a b e = cc

refusal_same : (layout deck : List ℕ) (ls : List (List ℕ)) (i n : ℕ) (other line : List ℕ) → i ≡ n → other ≡ line
    → refusal_after layout deck ls n line ≡ None → refusal_after layout deck ls i other ≡ None
refusal_same layout deck ls i n other line e f h = rw (e, f) h

accepted_more : (layout deck : List ℕ) (ls : List (List ℕ)) (n : ℕ) (line : List ℕ) (more : List (List ℕ)) → drop n ls ≡ line ∷ more
    → AreAccepted layout deck ls n → refusal_after layout deck ls n line ≡ None → AreAccepted layout deck ls (n + 1)
accepted_more layout deck ls n line more e h kept i other lt there = elim (cases_lt i n) [
  | inl below ↦ h i other below there
  | inr le ↦
      let same : i ≡ n = omega arith in
      let here : slice_get ls n ≡ Some other = rw (← same) there in
      refusal_same layout deck ls i n other line same (some_line other line (sym here ∙ line_there ls n line more e)) kept
]

-- ---- `unit` and `top`

unit_some : (s : Statement) → is_unit s ≡ true → IsSome (unit_of s)
unit_some (Sets (UnitIs n)) e = refl
unit_some (Sets (TopIs cell)) e = absurd (false≢true e)
unit_some (Sets (BandIs rows)) e = absurd (false≢true e)
unit_some (Sets (LimitsAre height width)) e = absurd (false≢true e)
unit_some (Sets (FrameIs x0 y0 x1 y1)) e = absurd (false≢true e)
unit_some (Defines name operation) e = absurd (false≢true e)
unit_some (Writes a file layer datatype) e = absurd (false≢true e)

top_some : (s : Statement) → is_top s ≡ true → IsSome (top_of s)
top_some (Sets (UnitIs n)) e = absurd (false≢true e)
top_some (Sets (TopIs cell)) e = refl
top_some (Sets (BandIs rows)) e = absurd (false≢true e)
top_some (Sets (LimitsAre height width)) e = absurd (false≢true e)
top_some (Sets (FrameIs x0 y0 x1 y1)) e = absurd (false≢true e)
top_some (Defines name operation) e = absurd (false≢true e)
top_some (Writes a file layer datatype) e = absurd (false≢true e)

first_some : {A : Type 0} (a b : Option A) → IsSome a ⊎ IsSome b → IsSome (first_or a b)
first_some (Some x) b h = refl
first_some None b (inl h) = absurd (false≢true h)
first_some None b (inr h) = h

pub either : (a b : Bool) → (a || b) ≡ true → (a ≡ true) ⊎ (b ≡ true)
either true b e = inl refl
either false b e = inr e

pub setting_found : {A : Type 0} (test : Statement → Bool) (h : Statement → Option A) → ((s : Statement) → test s ≡ true → IsSome (h s))
    → (saids : List Said) → any_before test saids ≡ true → IsSome (setting_in h saids)
setting_found test h each [] e = absurd (false≢true e)
setting_found test h each (m ∷ saids) e = elim (either (test m.says) (any_before test saids) e) [
  | inl here ↦ first_some (h m.says) (setting_in h saids) (inl (each m.says here))
  | inr later ↦ first_some (h m.says) (setting_in h saids) (inr (setting_found test h each saids later))
]

first_cases : {A : Type 0} (o next : Option A) → IsSome (first_or o next) → IsSome o ⊎ IsSome next
first_cases (Some x) next e = inl refl
first_cases None next e = inr e

pub setting_stays : {A : Type 0} (h : Statement → Option A) (saids more : List Said) → IsSome (setting_in h saids) → IsSome (setting_in h (saids ++ more))
setting_stays h [] more e = absurd (false≢true e)
setting_stays h (m ∷ saids) more e = elim (first_cases (h m.says) (setting_in h saids) e) [
  | inl here ↦ first_some (h m.says) (setting_in h (saids ++ more)) (inl here)
  | inr later ↦ first_some (h m.says) (setting_in h (saids ++ more)) (inr (setting_stays h saids more later))
]

-- a statement in its place, where `unit` and `top` are needed
both_given : (u t : Bool) → not (u && t) ≡ false → (u ≡ true) × (t ≡ true)
both_given true true e = (refl, refl)
both_given true false e = absurd (false≢true (sym e))
both_given false t e = absurd (false≢true (sym e))

placed : (before : List Said) (s : Statement) → not (is_setting s) ≡ true → is_misplaced before s ≡ false
    → (any_before is_unit before ≡ true) × (any_before is_top before ≡ true)
placed before (Sets setting) other e = absurd (false≢true other)
placed before (Defines name operation) other e = both_given (any_before is_unit before) (any_before is_top before) e
placed before (Writes a file layer datatype) other e = both_given (any_before is_unit before) (any_before is_top before) e

in_place : (layout deck : List ℕ) (before : List Said) (n : ℕ) (s : Statement) (misplaced : Bool)
    → is_misplaced before s ≡ misplaced → broken_rule layout deck before n s ≡ None → is_misplaced before s ≡ false
in_place layout deck before n s true e h =
    let broken = by_order layout deck before n s e in
    absurd (let clash : ⊥ = cc in clash)
in_place layout deck before n s false e h = e

abbrev is_other : Statement → Bool
is_other s = not (is_setting s)

only_one : (s : Statement) (n : ℕ) → any_before is_other (said n s ∷ []) ≡ true → is_other s ≡ true
only_one s n e = elim (either (is_other s) false e) [
  | inl here ↦ here
  | inr none ↦ absurd (false≢true none)
]

begun_more : (layout deck : List ℕ) (before : List Said) (n : ℕ) (s : Statement) → IsBegun before
    → broken_rule layout deck before n s ≡ None → IsBegun (before ++ (said n s ∷ []))
begun_more layout deck before n s h kept e =
    let parts : (any_before is_other before || any_before is_other (said n s ∷ [])) ≡ true = sym
    (list_any-append (λ m. is_other m.says) before (said n s ∷ [])) ∙ e in
    let given : IsSome (setting_in unit_of before)
    × IsSome (setting_in top_of before) = elim
    (either (any_before is_other before) (any_before is_other (said n s ∷ [])) parts) [
      | inl earlier ↦ h earlier
      | inr own ↦
          let both = placed before s (only_one s n own) (in_place layout deck before n s (is_misplaced before s) refl kept) in
          (setting_found is_unit unit_of unit_some before both.0, setting_found is_top top_of top_some before both.1)
    ] in
    (setting_stays unit_of before (said n s ∷ []) given.0, setting_stays top_of before (said n s ∷ []) given.1)

output_other : (s : Statement) → is_output s ≡ true → is_other s ≡ true
output_other (Sets setting) e = absurd (false≢true e)
output_other (Defines name operation) e = refl
output_other (Writes a file layer datatype) e = refl

or_true : (a b : Bool) → b ≡ true → (a || b) ≡ true
or_true true b e = refl
or_true false b e = e

or_first : (a b : Bool) → a ≡ true → (a || b) ≡ true
or_first a b e = rw e refl

pub outputs_begin : (saids : List Said) → has_output saids ≡ true → any_before (λ t. not (is_setting t)) saids ≡ true
outputs_begin [] e = absurd (false≢true e)
outputs_begin (m ∷ saids) e = elim (either (is_output m.says) (has_output saids) e) [
  | inl here ↦ or_first (is_other m.says) (any_before is_other saids) (output_other m.says here)
  | inr later ↦ or_true (is_other m.says) (any_before is_other saids) (outputs_begin saids later)
]

-- ---- the lines that were read

-- the first n lines are accepted and say these
pub record IsReadUpTo (layout deck : List ℕ) (ls : List (List ℕ)) (n : ℕ) (saids : List Said) : Type 0 where
  pub within : n ≤ length ls
  pub says : saids ≡ saids_from 1 (take n ls)
  pub accepted : AreAccepted layout deck ls n
  pub begun : IsBegun saids

pub starts : (layout deck : List ℕ) (ls : List (List ℕ)) → IsReadUpTo layout deck ls 0 []
unfolding saids_from
starts layout deck ls = record {
  within = omega arith;
  says = refl;
  accepted = λ i line lt there. absurd (omega arith);
  begun = λ e. absurd (false≢true e);
}

-- why the next line is refused
why : (layout deck : List ℕ) (ls : List (List ℕ)) (n : ℕ) (saids : List Said) (line : List ℕ) (r : Reading)
    (o : Option DeckBad) → saids ≡ saids_from 1 (take n ls) → reading line ≡ r
    → refusal layout deck saids (n + 1) r ≡ o → refusal_after layout deck ls n line ≡ o
why layout deck ls n saids line r o e f h = rw (← e, f) h

pub refused_next : (layout deck : List ℕ) (ls : List (List ℕ)) (n : ℕ) (saids : List Said) (line : List ℕ)
    (more : List (List ℕ)) (r : Reading) (bad : DeckBad) → IsReadUpTo layout deck ls n saids
    → drop n ls ≡ line ∷ more → reading line ≡ r → refusal layout deck saids (n + 1) r ≡ Some bad → IsLineRefusedAt layout deck ls n bad
refused_next layout deck ls n saids line more r bad u e f h = record {
  line = line;
  there = line_there ls n line more e;
  why = why layout deck ls n saids line r (Some bad) u.says f h;
  before = u.accepted;
}

pub passes_next : (layout deck : List ℕ) (ls : List (List ℕ)) (n : ℕ) (saids : List Said) (line : List ℕ)
    (more : List (List ℕ)) → IsReadUpTo layout deck ls n saids
    → drop n ls ≡ line ∷ more → reading line ≡ Passed → IsReadUpTo layout deck ls (n + 1) saids
passes_next layout deck ls n saids line more u e f = record {
  within = let lt = line_within ls n line more e in omega arith;
  says = u.says ∙ (sym (append-nil (saids_from 1 (take n ls)))
      ∙ (ap (λ (r : Reading). saids_from 1 (take n ls) ++ said_first (n + 1) r []) (sym f) ∙ sym
      (next_saids ls n line more e)));
  accepted = accepted_more layout deck ls n line more e u.accepted (why layout deck ls n saids line Passed None u.says f refl);
  begun = u.begun;
}

pub says_next : (layout deck : List ℕ) (ls : List (List ℕ)) (n : ℕ) (saids : List Said) (line : List ℕ)
    (more : List (List ℕ)) (s : Statement) → IsReadUpTo layout deck ls n saids
    → drop n ls ≡ line ∷ more → reading line ≡ Says s → broken_rule layout deck saids (n + 1) s ≡ None
    → IsReadUpTo layout deck ls (n + 1) (saids ++ (said (n + 1) s ∷ []))
says_next layout deck ls n saids line more s u e f h = record {
  within = let lt = line_within ls n line more e in omega arith;
  says = ap (λ (xs : List Said). xs ++ (said (n + 1) s ∷ [])) u.says
      ∙ (ap (λ (r : Reading). saids_from 1 (take n ls) ++ said_first (n + 1) r []) (sym f) ∙ sym
      (next_saids ls n line more e));
  accepted = accepted_more layout deck ls n line more e u.accepted (why layout deck ls n saids line (Says s) None u.says f h);
  begun = begun_more layout deck saids (n + 1) s u.begun h;
}

-- all lines were read
pub record IsReadAll (layout deck : List ℕ) (ls : List (List ℕ)) (n : ℕ) (saids : List Said) : Type 0 where
  pub count : n ≡ length ls
  pub says : saids ≡ saids_from 1 ls
  pub accepted : AreAccepted layout deck ls (length ls)
  pub begun : IsBegun (saids_from 1 ls)

pub ends : (layout deck : List ℕ) (ls : List (List ℕ)) (n : ℕ) (saids : List Said) → IsReadUpTo layout deck ls n saids
    → drop n ls ≡ [] → IsReadAll layout deck ls n saids
ends layout deck ls n saids u e =
    let past = no_line ls n e in
    let count : n ≡ length ls = omega (arith, u.within) in
    let whole : saids ≡ saids_from 1 ls = u.says ∙ ap (λ (xs : List (List ℕ)). saids_from 1 xs) (take_all n ls past) in
    record {
      count = count;
      says = whole;
      accepted = subst (λ (k : ℕ). AreAccepted layout deck ls k) count u.accepted;
      begun = subst (λ (xs : List Said). IsBegun xs) whole u.begun;
    }

pub no_output : (layout deck : List ℕ) (ls : List (List ℕ)) (n : ℕ) (saids : List Said)
    → IsReadAll layout deck ls n saids → has_output saids ≡ false → HasNoOutput layout deck ls (faults.Order (n + 1))
no_output layout deck ls n saids u e = record {
  accepted = u.accepted;
  none = rw (← u.says) e;
  order = ap (λ (k : ℕ). faults.Order (k + 1)) u.count;
}
