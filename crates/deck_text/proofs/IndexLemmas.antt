-- The index of statements, and one more statement after them.
use Rattle.std.proofs.Common.{◌≡◌, ℕ, ◌+◌, Bool, true, false, not, cond, ◌||◌, if◌then◌else◌, List, [], ◌∷◌, ◌++◌}
use Rattle.std.proofs.Common.{Option, None, Some, refl, sym, ap, ◌∙◌, arith}
use Rattle.std.specs.Prelude.{ℤ, find, is_some, option_map, Result, Ok, Err, OnOk}
use Rattle.std.specs.Option.{option_map_or}
use Rattle.std.specs.Str.{bytes_eq}
use Rattle.std.proofs.lemmas.List.Folds.{list_any-append}
use Rattle.std.proofs.lemmas.List.Sums.{sum_by-cons, sum_by-append}
use Rattle.std.specs.BTreeMap as tree
use Rattle.std.specs.BTreeMap.{BTreeMap}
use Rattle.std.specs.Borrow.{Bor}
use Rattle.std.specs.Map.{update}
use Rattle.std.specs.Ordering.{nat_cmp}
use Rattle.std.specs.Cmp.Lexicographic.{slice_cmp}
use Rattle.std.proofs.lemmas.Slice.Eq.{bytes_eq-Decides}
use Rattle.deck_text.specs.Statements.{Setting, Operation, Statement, Sets, Defines, Writes, Said}
use Rattle.deck_text.specs.Rules.{is_definition, is_output, defines, goes_to, any_before, count_before, is_defined, repeated_line}
use Rattle.deck_text.specs.Decks.{names_of, number_of}
use Rattle.deck_text.specs.Indexes.{defined, defined_from, defined_in, file_in, IsIndexOf, HasNewName}
use Rattle.deck_text.specs.declared.index.Defined.{Defined}
use Rattle.deck_text.specs.declared.index.Index.{Index}

-- ---- counts

abbrev one : Bool → ℕ
one b = if b then 1 else 0

count_cons : (t : Statement → Bool) (x : Said) (saids : List Said) → count_before t (x ∷ saids) ≡ one (t x.says) + count_before t saids
count_cons t x saids = sum_by-cons (λ m. one (t m.says)) x saids

-- one statement further
pub counted : (t : Statement → Bool) (saids : List Said) (m : Said) → count_before t (saids ++ m ∷ []) ≡ count_before t saids + one (t m.says)
counted t saids m =
    let both = sum_by-append (λ (x : Said). one (t x.says)) saids (m ∷ []) in
    both ∙ ap (λ k. count_before t saids + k) (let e : 0 + one (t m.says) ≡ one (t m.says) = omega arith in e)

none_more : (rest total : ℕ) → total ≡ 0 + rest → total ≡ rest
none_more rest total e = omega arith

one_more : (rest total n : ℕ) → total ≡ 1 + rest → n + total ≡ (n + 1) + rest
one_more rest total n e = omega arith

-- ---- what is found

pub line_is : (n : ℕ) (saids : List Said) (name : List ℕ)
    → option_map (λ d. d.line) (defined_from n saids name) ≡ option_map (λ m. m.line)
    (find (λ m. defines name m.says) saids)
line_is n [] name = refl
line_is n (m ∷ saids) name = by (line_is (if is_definition m.says then n + 1 else n) saids name) (defines name m.says)
  where
    by : option_map (λ (d : Defined). d.line) (defined_from (if is_definition m.says then n + 1 else n) saids name)
        ≡ option_map (λ (m : Said). m.line) (find (λ m. defines name m.says) saids)
        → (b : Bool) → option_map (λ (d : Defined). d.line)
        (cond b (Some (defined m.line n)) (defined_from (if is_definition m.says then n + 1 else n) saids name))
        ≡ option_map (λ (m : Said). m.line) (cond b (Some m) (find (λ m. defines name m.says) saids))
    by rest true = refl
    by rest false = rest

pub has_is : (n : ℕ) (saids : List Said) (name : List ℕ) → is_some (defined_from n saids name) ≡ is_defined saids name
has_is n [] name = refl
has_is n (m ∷ saids) name = by (has_is (if is_definition m.says then n + 1 else n) saids name) (defines name m.says)
  where
    by : is_some (defined_from (if is_definition m.says then n + 1 else n) saids name) ≡ is_defined saids name
        → (b : Bool) → is_some
        (cond b (Some (defined m.line n)) (defined_from (if is_definition m.says then n + 1 else n) saids name))
        ≡ (b || is_defined saids name)
    by rest true = refl
    by rest false = rest

pub number_is : (n : ℕ) (saids : List Said) (name : List ℕ) → option_map_or (λ d. d.number) (defined_from n saids name)
    (n + count_before is_definition saids) ≡ n + number_of (names_of saids) name
number_is n [] name = refl
number_is n (m ∷ saids) name = of (λ k. number_is k saids name) m.says refl (count_before is_definition (m ∷ saids)) (count_cons is_definition m saids)
  where
    named : ((k : ℕ) → option_map_or (λ (d : Defined). d.number) (defined_from k saids name)
        (k + count_before is_definition saids) ≡ k + number_of (names_of saids) name)
        → (total : ℕ) → n + total ≡ (n + 1) + count_before is_definition saids → (b : Bool)
        → option_map_or (λ (d : Defined). d.number)
        (cond b (Some (defined m.line n)) (defined_from (n + 1) saids name)) (n + total) ≡ n + cond (not b)
        (1 + number_of (names_of saids) name) 0
    named rest total is true = omega arith
    named rest total is false =
        ap (λ k. option_map_or (λ (d : Defined). d.number) (defined_from (n + 1) saids name) k) is
        ∙ rest (n + 1) ∙ (let e : (n + 1) + number_of (names_of saids) name ≡ n + (1 + number_of (names_of saids) name) = omega arith in e)

    of : ((k : ℕ) → option_map_or (λ (d : Defined). d.number) (defined_from k saids name)
        (k + count_before is_definition saids) ≡ k + number_of (names_of saids) name) → (s : Statement) → m.says ≡ s
        → (total : ℕ) → total ≡ one (is_definition m.says) + count_before is_definition saids
        → option_map_or (λ (d : Defined). d.number) (defined_from n (m ∷ saids) name) (n + total) ≡ n + number_of (names_of (m ∷ saids)) name
    of rest (Sets setting) e total is = let same = none_more (count_before is_definition saids) total (rw e at is) in rw (e, same) (rest n)
    of rest (Defines other operation) e total is = let more = one_more (count_before is_definition saids) total n
        (rw e at is) in rw e (named rest total more (bytes_eq other name))
    of rest (Writes a file layer datatype) e total is = let same = none_more (count_before is_definition saids) total (rw e at is) in rw (e, same) (rest n)

pub number_at : (saids : List Said) (name : List ℕ) → option_map_or (λ d. d.number) (defined_from 0 saids name)
    (count_before is_definition saids) ≡ number_of (names_of saids) name
number_at saids name =
    let none : 0 + count_before is_definition saids ≡ count_before is_definition saids = omega arith in
    let number : 0 + number_of (names_of saids) name ≡ number_of (names_of saids) name = omega arith in
    ap (λ k. option_map_or (λ (d : Defined). d.number) (defined_from 0 saids name) k) (sym none) ∙ number_is 0 saids name ∙ number

-- an output repeats nothing
pub repeats_none : (saids : List Said) (a file : List ℕ) (layer datatype : ℤ) → repeated_line saids (Writes a file layer datatype) ≡ None
repeats_none [] a file layer datatype = refl
repeats_none (m ∷ saids) a file layer datatype = repeats_none saids a file layer datatype

-- a definition that repeats none has a new name
pub new_name : (saids : List Said) (index : Index) (s : Statement) → IsIndexOf saids index → repeated_line saids s ≡ None → HasNewName index s
new_name saids index (Sets setting) is none = tt
new_name saids index (Defines name operation) is none = is.names name ∙ unmapped (defined_from 0 saids name) (line_is 0 saids name ∙ none)
  where
    unmapped : (o : Option Defined) → option_map (λ d. d.line) o ≡ None → o ≡ None
    unmapped None e = refl
    unmapped (Some d) e = cc
new_name saids index (Writes a file layer datatype) is none = tt

-- ---- one more statement

-- the first where there is one
abbrev pub or_else : Option Defined → Option Defined → Option Defined
or_else None next = next
or_else (Some d) next = Some d

-- what one statement defines
abbrev pub own : ℕ → Said → List ℕ → Option Defined
own n m name = cond (defines name m.says) (Some (defined m.line n)) None

pub defined_more : (n : ℕ) (saids : List Said) (m : Said) (name : List ℕ)
    → defined_from n (saids ++ m ∷ []) name ≡ or_else (defined_from n saids name) (own (n + count_before is_definition saids) m name)
defined_more n [] m name = let e : n + 0 ≡ n = omega arith in ap (λ k. own k m name) (sym e)
defined_more n (x ∷ saids) m name = of (λ k. defined_more k saids m name) x.says refl
    (count_before is_definition (x ∷ saids)) (count_cons is_definition x saids)
  where
    named : ((k : ℕ) → defined_from k (saids ++ m ∷ []) name ≡ or_else (defined_from k saids name) (own (k + count_before is_definition saids) m name))
        → (total : ℕ) → n + total ≡ (n + 1) + count_before is_definition saids → (b : Bool)
        → cond b (Some (defined x.line n)) (defined_from (n + 1) (saids ++ m ∷ []) name) ≡ or_else
        (cond b (Some (defined x.line n)) (defined_from (n + 1) saids name)) (own (n + total) m name)
    named rest total is true = refl
    named rest total is false = rest (n + 1) ∙ ap (λ k. or_else (defined_from (n + 1) saids name) (own k m name)) (sym is)

    of : ((k : ℕ) → defined_from k (saids ++ m ∷ []) name ≡ or_else (defined_from k saids name)
        (own (k + count_before is_definition saids) m name)) → (s : Statement) → x.says ≡ s
        → (total : ℕ) → total ≡ one (is_definition x.says) + count_before is_definition saids
        → defined_from n (x ∷ (saids ++ m ∷ [])) name ≡ or_else (defined_from n (x ∷ saids) name) (own (n + total) m name)
    of rest (Sets setting) e total is = let same = none_more (count_before is_definition saids) total (rw e at is) in rw (e, same) (rest n)
    of rest (Defines other operation) e total is = let more = one_more (count_before is_definition saids) total n
        (rw e at is) in rw e (named rest total more (bytes_eq other name))
    of rest (Writes a file layer datatype) e total is = let same = none_more (count_before is_definition saids) total (rw e at is) in rw (e, same) (rest n)

-- ---- the index with one more statement

or_none : (o : Option Defined) → or_else o None ≡ o
or_none None = refl
or_none (Some d) = refl

or_false : (b : Bool) → (b || false) ≡ b
or_false true = refl
or_false false = refl

same_count : (a b k : ℕ) → a ≡ b → k ≡ b + 0 → a ≡ k
same_count a b k e f = omega arith

next_count : (old new b k : ℕ) → old ≡ b → new ≡ old + 1 → k ≡ b + 1 → new ≡ k
next_count old new b k e f g = omega arith

-- a statement that defines nothing leaves what is found
not_defined : (saids : List Said) (m : Said) (name : List ℕ) → defines name m.says ≡ false → defined_from 0 saids name ≡ defined_from 0 (saids ++ m ∷ []) name
not_defined saids m name e = sym (defined_more 0 saids m name ∙ rw e (or_none (defined_from 0 saids name)))

-- a statement that is no output of the file leaves whether there is one
not_taken : (saids : List Said) (m : Said) (file : List ℕ) → goes_to file m.says ≡ false
    → any_before (goes_to file) saids ≡ any_before (goes_to file) (saids ++ m ∷ [])
not_taken saids m file e =
    sym (list_any-append (λ (x : Said). goes_to file x.says) saids (m ∷ []) ∙ rw e (or_false (any_before (goes_to file) saids)))

uncounted : (t : Statement → Bool) (saids : List Said) (m : Said) → t m.says ≡ false → count_before t (saids ++ m ∷ []) ≡ count_before t saids + 0
uncounted t saids m e = counted t saids m ∙ ap (λ (b : Bool). count_before t saids + one b) e

is_counted : (t : Statement → Bool) (saids : List Said) (m : Said) → t m.says ≡ true → count_before t (saids ++ m ∷ []) ≡ count_before t saids + 1
is_counted t saids m e = counted t saids m ∙ ap (λ (b : Bool). count_before t saids + one b) e

pub put_setting : (saids : List Said) (m : Said) (index : Index) (setting : Setting) → m.says ≡ Sets setting
    → IsIndexOf saids index → IsIndexOf (saids ++ m ∷ []) index
put_setting saids m index setting e is = record {
  names = λ name. is.names name ∙ not_defined saids m name (rw e refl);
  files = λ file. is.files file ∙ not_taken saids m file (rw e refl);
  definitions = same_count index.definitions (count_before is_definition saids)
      (count_before is_definition (saids ++ m ∷ [])) is.definitions (uncounted is_definition saids m (rw e refl));
  outputs = same_count index.outputs (count_before is_output saids)
      (count_before is_output (saids ++ m ∷ [])) is.outputs (uncounted is_output saids m (rw e refl));
}

-- what is found after a definition of a name that wasn't there
found_with : (saids : List Said) (m : Said) (name other : List ℕ) (operation : Operation) (k : ℕ)
    → m.says ≡ Defines name operation → k ≡ count_before is_definition saids
    → defined_from 0 saids name ≡ None → defined_from 0 (saids ++ m ∷ []) other ≡ cond (bytes_eq name other)
    (Some (defined m.line k)) (defined_from 0 saids other)
found_with saids m name other operation k e count none =
    defined_more 0 saids m other ∙ rw e (by (bytes_eq name other) refl)
  where
    zero_count : 0 + count_before is_definition saids ≡ k
    zero_count = omega arith

    by : (b : Bool) → bytes_eq name other ≡ b
        → or_else (defined_from 0 saids other)
        (cond b (Some (defined m.line (0 + count_before is_definition saids))) None) ≡ cond b (Some (defined m.line k))
        (defined_from 0 saids other)
    by true same =
        let e : name ≡ other = (bytes_eq-Decides name other).0 same in
        ap (λ n. or_else (defined_from 0 saids n) (Some (defined m.line (0 + count_before is_definition saids)))) (sym e)
        ∙ ap (λ o. or_else o (Some (defined m.line (0 + count_before is_definition saids)))) none
        ∙ ap (λ n. Some (defined m.line n)) zero_count
    by false same = or_none (defined_from 0 saids other)

pub put_definition : (saids : List Said) (m : Said) (old new : Index) (name : List ℕ) (operation : Operation)
    → m.says ≡ Defines name operation → defined_in old name ≡ None
    → ((other : List ℕ) → defined_in new other ≡ update bytes_eq (defined_in old) name
    (Some (defined m.line old.definitions)) other) → new.files ≡ old.files → new.definitions ≡ old.definitions + 1
    → new.outputs ≡ old.outputs
    → IsIndexOf saids old → IsIndexOf (saids ++ m ∷ []) new
put_definition saids m old new name operation e none names files definitions outputs is = record {
  names = λ other.
      names other ∙ ap (λ o. cond (bytes_eq name other) (Some (defined m.line old.definitions)) o) (is.names other)
      ∙ sym (found_with saids m name other operation old.definitions e is.definitions (sym (is.names name) ∙ none));
  files = λ file. ap (λ (fs : BTreeMap (Bor (List ℕ)) ℕ). is_some
      (tree.get_by (λ key. slice_cmp nat_cmp file key.now) fs)) files ∙ is.files file ∙ not_taken saids m file
      (rw e refl);
  definitions = next_count old.definitions new.definitions (count_before is_definition saids)
      (count_before is_definition (saids ++ m ∷ [])) is.definitions definitions
      (is_counted is_definition saids m (rw e refl));
  outputs = outputs ∙ same_count old.outputs (count_before is_output saids)
      (count_before is_output (saids ++ m ∷ [])) is.outputs (uncounted is_output saids m (rw e refl));
}

taken_with : (b : Bool) (k : ℕ) (o : Option ℕ) (taken : Bool) → is_some o ≡ taken → is_some (cond b (Some k) o) ≡ (taken || b)
taken_with true k o true e = refl
taken_with true k o false e = refl
taken_with false k o taken e = e ∙ sym (or_false taken)

pub put_output : (saids : List Said) (m : Said) (old new : Index) (a file : List ℕ) (layer datatype : ℤ) → m.says ≡ Writes a file layer datatype
    → ((other : List ℕ) → file_in new other ≡ update bytes_eq (file_in old) file (Some old.outputs) other)
    → new.names ≡ old.names → new.definitions ≡ old.definitions → new.outputs ≡ old.outputs + 1
    → IsIndexOf saids old → IsIndexOf (saids ++ m ∷ []) new
put_output saids m old new a file layer datatype e files names definitions outputs is = record {
  names = λ name. ap (λ (ns : BTreeMap (Bor (List ℕ)) Defined). tree.get_by (λ key. slice_cmp nat_cmp name key.now) ns)
      names ∙ is.names name ∙ not_defined saids m name (rw e refl);
  files = λ other.
      ap is_some (files other) ∙ taken_with (bytes_eq file other) old.outputs (file_in old other) (any_before (goes_to other) saids) (is.files other)
      ∙ sym (list_any-append (λ (x : Said). goes_to other x.says) saids (m ∷ []) ∙ rw e
      (ap (λ (b : Bool). any_before (goes_to other) saids || b) (or_false (bytes_eq file other))));
  definitions = definitions ∙ same_count old.definitions (count_before is_definition saids)
      (count_before is_definition (saids ++ m ∷ [])) is.definitions (uncounted is_definition saids m (rw e refl));
  outputs = next_count old.outputs new.outputs (count_before is_output saids)
      (count_before is_output (saids ++ m ∷ [])) is.outputs outputs (is_counted is_output saids m (rw e refl));
}

-- four facts after success give one more
pub on_ok : {T F A B C D G : Type 0} (r : Result T F) → (A → B → C → D → G) → OnOk r A → OnOk r B → OnOk r C → OnOk r D → OnOk r G
on_ok (Ok given) f a b c d = f a b c d
on_ok (Err bad) f a b c d = tt
