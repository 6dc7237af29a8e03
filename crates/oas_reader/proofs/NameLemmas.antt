-- The tables of names after one more record, and the numbers that no record gives.
use Rattle.std.proofs.Common.{◌≡◌, ℕ, ◌+◌, Bool, true, false, cond, ◌&&◌, nat_eq, Option, Some, None}
use Rattle.std.proofs.Common.{List, [], ◌∷◌, ◌++◌, refl, sym, ap, subst, ◌∙◌, arith}
use Rattle.std.specs.Prelude.{is_some}
use Rattle.std.specs.Cmp.Lexicographic.{same_text}
use Rattle.std.specs.Map.{lookup}
use Rattle.std.proofs.lemmas.Bool.{eqb-true}
use Rattle.indexmap.specs.IndexMap.{get, get_by}
use Rattle.oas_record.specs.declared.fields.Called.{Called}
use Rattle.oas_record.specs.declared.fields.Called.TheVariants.{Number, Text}
use Rattle.oas_record.specs.declared.records.OasRecord.{OasRecord}
use Rattle.oas_record.specs.declared.records.OasRecord.TheVariants as records
use Rattle.oas_fields.specs.Values.{or_else}
use Rattle.oas_reader.specs.declared.naming.Given.{Given}
use Rattle.oas_reader.specs.declared.naming.Names.{Names}
use Rattle.oas_reader.specs.declared.naming.Cells.{Cells}
use Rattle.oas_reader.specs.Items.{Item, records_in, count_in, text_in}
use Rattle.oas_reader.specs.Names.{Claim, NoClaim, OfNumber, OfName, same_name, do_conflict, some_if, claim_of}
use Rattle.oas_reader.specs.Names.{number_given, has_number, is_unnumbered, cell_called, target_called, cell_name}
use Rattle.oas_reader.specs.Names.{first_conflict, name_given, name_of_number, is_none, is_unknown, first_unknown}
use Rattle.oas_reader.specs.Names.{have_one_name, first_named}
use Rattle.oas_reader.specs.Naming.{text_by, given_in, place_by, conflict_with, cell_in, first_marked, passes}
use Rattle.oas_reader.specs.Naming.{first_mention, Mentions, AreNamesOf, place_in, AreCellsOf}
use Rattle.oas_reader.specs.Reading.{item}

-- ---- numbers that no record gives

unknown_called : (bytes : List ℕ) (all : List OasRecord) (called : Option Called)
    → is_unknown bytes all called ≡ passes (λ n. is_none (name_of_number bytes all n)) called
unknown_called bytes all None = refl
unknown_called bytes all (Some (Number number)) = refl
unknown_called bytes all (Some (Text first next)) = refl

unknown_mention : (bytes : List ℕ) (all : List OasRecord) (items : List Item)
    → first_unknown bytes all items ≡ first_mention (λ n. is_none (name_of_number bytes all n)) items
unknown_mention bytes all [] = refl
unknown_mention bytes all (x ∷ past) =
    let called = or_else (cell_called x.r) (target_called x.r) in
    ap (λ o. or_else o (some_if (is_unknown bytes all called) x.at)) (unknown_mention bytes all past)
    ∙ ap (λ b. or_else (first_mention (λ n. is_none (name_of_number bytes all n)) past) (some_if b x.at)) (unknown_called bytes all called)

none_by : (bytes : List ℕ) (o : Option Given) → is_none o ≡ is_none (text_by bytes o)
none_by bytes None = refl
none_by bytes (Some given) = refl

marked_same : (f g : ℕ → Bool) (entries : List (ℕ × ℕ)) → ((n : ℕ) → f n ≡ g n) → first_marked f entries ≡ first_marked g entries
marked_same f g [] same = refl
marked_same f g (e ∷ entries) same =
    ap (λ b. cond b (Some e.1) (first_marked f entries)) (same e.0) ∙ ap (λ o. cond (g e.0) (Some e.1) o) (marked_same f g entries same)

-- the first number in the table that it doesn't give is the first one that no record gives
pub unknown_in : (bytes : List ℕ) (past : List Item) (names : Names) → AreNamesOf bytes past names
    → first_marked (λ n. is_none (given_in names n)) names.used.entries ≡ first_unknown bytes (records_in past) past
unknown_in bytes past names are =
    marked_same (λ n. is_none (given_in names n)) (λ n. is_none (name_of_number bytes (records_in past) n)) names.used.entries
    (λ n. none_by bytes (given_in names n) ∙ ap is_none (are.texts n))
    ∙ are.used (λ n. is_none (name_of_number bytes (records_in past) n))
    ∙ sym (unknown_mention bytes (records_in past) past)

-- ---- a record that gives no name

-- the record gives no name and writes no number
pub record NamesNothing (bytes : List ℕ) (past : List OasRecord) (r : OasRecord) : Type 0 where
  pub claims : claim_of bytes past r ≡ NoClaim
  pub gives : number_given past r ≡ None
  pub counts : is_unnumbered r ≡ false
  pub writes : (test : ℕ → Bool) → passes test (or_else (cell_called r) (target_called r)) ≡ false

or_none : {A : Type 0} → (o : Option A) → or_else o None ≡ o
or_none None = refl
or_none (Some a) = refl

conflict_kept : (bytes : List ℕ) (past : List Item) (at : ℕ) (r : OasRecord) (claim : Claim) → claim_of bytes (records_in past) r ≡ NoClaim
    → first_conflict bytes claim past ≡ first_conflict bytes claim (item at r ∷ past)
conflict_kept bytes past at r claim none =
    sym (ap (λ c. or_else (first_conflict bytes claim past) (some_if (do_conflict c claim) at)) none ∙ or_none (first_conflict bytes claim past))

name_kept : (bytes : List ℕ) (past : List OasRecord) (r : OasRecord) (number : ℕ) → number_given past r ≡ None
    → name_of_number bytes past number ≡ name_of_number bytes (r ∷ past) number
name_kept bytes past r number none =
    sym (ap (λ o. cond (has_number number o) (Some (name_given bytes r)) (name_of_number bytes past number)) none)

count_kept : (past : List OasRecord) (r : OasRecord) → is_unnumbered r ≡ false
    → count_in (λ _ s. is_unnumbered s) past ≡ count_in (λ _ s. is_unnumbered s) (r ∷ past)
count_kept past r none = rw none (omega arith)

pub names_kept : (bytes : List ℕ) (past : List Item) (names : Names) (at : ℕ) (r : OasRecord) → NamesNothing bytes (records_in past) r
    → AreNamesOf bytes past names → AreNamesOf bytes (item at r ∷ past) names
names_kept bytes past names at r nothing are = record {
  numbers = λ is_written number. are.numbers is_written number ∙ conflict_kept bytes past at r (OfNumber is_written number) nothing.claims;
  none_given = are.none_given;
  counted = are.counted ∙ count_kept (records_in past) r nothing.counts;
  texts = λ number. are.texts number ∙ name_kept bytes (records_in past) r number nothing.gives;
  cells = λ name. are.cells name ∙ conflict_kept bytes past at r (OfName name) nothing.claims;
  used = λ test. are.used test ∙ sym (ap (λ b. or_else (first_mention test past) (some_if b at)) (nothing.writes test) ∙ or_none (first_mention test past));
}

-- ---- a name that is put into a table

nat_eq_sym : (x y : ℕ) → nat_eq x y ≡ nat_eq y x
nat_eq_sym x y = grind arith

same_sym : (a b : List ℕ) → same_name a b ≡ same_name b a
same_sym [] [] = refl
same_sym [] (y ∷ ys) = refl
same_sym (x ∷ xs) [] = refl
same_sym (x ∷ xs) (y ∷ ys) = ap (λ b. b && same_name xs ys) (nat_eq_sym x y) ∙ ap (λ b. nat_eq y x && b) (same_sym xs ys)

put_by : (at : ℕ) (o : Option ℕ) (b : Bool) → (b ≡ true → o ≡ None) → cond b (Some at) o ≡ or_else o (some_if b at)
put_by at o true none = sym (ap (λ x. or_else x (Some at)) (none refl))
put_by at o false none = sym (or_none o)

-- where a table has nothing for a name, it has nothing for the same one
pub none_for : (f : List ℕ → Option ℕ) (name other : List ℕ) → f name ≡ None → same_name name other ≡ true → f other ≡ None
none_for f name other none same = subst (λ x. f x ≡ None) (same_text name other (sym same)) none

pub entered : (bytes : List ℕ) (all : List OasRecord) (past : List Item) (at : ℕ) (r : OasRecord) (name : List ℕ) (old new : Cells)
    → ((other : List ℕ) → place_in new other ≡ cond (same_name name other) (Some at) (place_in old other)) → place_in old name ≡ None
    → AreCellsOf bytes all past old → cell_name bytes all (cell_called r) ≡ Some name → AreCellsOf bytes all (item at r ∷ past) new
entered bytes all past at r name old new puts none are called other =
    puts other
    ∙ put_by at (place_in old other) (same_name name other) (none_for (place_in old) name other none)
    ∙ ap (λ o. or_else o (some_if (same_name name other) at)) (are other)
    ∙ ap (λ b. or_else (first_named bytes all (Some other) past) (some_if b at)) (same_sym name other)
    ∙ sym (ap (λ o. or_else (first_named bytes all (Some other) past) (some_if (have_one_name (Some other) o) at)) called)

-- ---- CELL records

plus_none : (n : ℕ) → n ≡ n + 0
plus_none n = omega arith

pub begun_text : (bytes : List ℕ) (past : List Item) (at first next : ℕ) (old new : Names)
    → ((other : List ℕ) → cell_in new other ≡ cond (same_name (text_in bytes (first, next)) other) (Some at) (cell_in old other))
    → cell_in old (text_in bytes (first, next)) ≡ None
    → new.given ≡ old.given → new.numbering ≡ old.numbering → new.counted ≡ old.counted → new.used ≡ old.used
    → AreNamesOf bytes past old → AreNamesOf bytes (item at (records.Cell (Text first next)) ∷ past) new
begun_text bytes past at first next old new puts none given numbering counted used are = record {
  numbers = λ is_written number.
      ap (λ o. conflict_with o is_written (place_by (given_in new number))) numbering
      ∙ ap (λ t. conflict_with old.numbering is_written (place_by (get nat_eq t number))) given
      ∙ are.numbers is_written number ∙ sym (or_none (first_conflict bytes (OfNumber is_written number) past));
  none_given = λ e number. ap (λ t. get nat_eq t number) given ∙ are.none_given (sym numbering ∙ e) number;
  counted = counted ∙ are.counted ∙ plus_none (count_in (λ _ s. is_unnumbered s) (records_in past));
  texts = λ number. ap (λ t. text_by bytes (get nat_eq t number)) given ∙ are.texts number;
  cells = λ other.
      puts other
      ∙ put_by at (cell_in old other) (same_name (text_in bytes (first, next)) other) (none_for (cell_in old) (text_in bytes (first, next)) other none)
      ∙ ap (λ o. or_else o (some_if (same_name (text_in bytes (first, next)) other) at)) (are.cells other);
  used = λ test. ap (λ t. first_marked test t.entries) used ∙ are.used test ∙ sym (or_none (first_mention test past));
}

no_claim : (claim : Claim) → do_conflict claim NoClaim ≡ false
no_claim NoClaim = refl
no_claim (OfNumber is_written number) = refl
no_claim (OfName name) = refl

-- what claims nothing conflicts with nothing
pub none_conflicts : (bytes : List ℕ) (past : List Item) → first_conflict bytes NoClaim past ≡ None
none_conflicts bytes [] = refl
none_conflicts bytes (x ∷ past) =
    ap (λ o. or_else o (some_if (do_conflict (claim_of bytes (records_in past) x.r) NoClaim) x.at)) (none_conflicts bytes past)
    ∙ ap (λ b. some_if b x.at) (no_claim (claim_of bytes (records_in past) x.r))

-- ---- numbers that are written

marked_more : (test : ℕ → Bool) (entries : List (ℕ × ℕ)) (number at : ℕ)
    → first_marked test (entries ++ (number, at) ∷ []) ≡ or_else (first_marked test entries) (some_if (test number) at)
marked_more test [] number at = elim (test number) as (λ b. cond b (Some at) None ≡ some_if b at) [ true ↦ refl | false ↦ refl ]
marked_more test (e ∷ entries) number at =
    elim (test e.0) as (λ b. cond b (Some e.1) (first_marked test (entries ++ (number, at) ∷ [])) ≡ or_else
    (cond b (Some e.1) (first_marked test entries)) (some_if (test number) at)) [
      | true ↦ refl
      | false ↦ marked_more test entries number at
    ]

marked_there : (test : ℕ → Bool) (entries : List (ℕ × ℕ)) (number : ℕ) → is_some (lookup (nat_eq number) entries) ≡ true → test number ≡ true
    → (o : Option ℕ) → or_else (first_marked test entries) o ≡ first_marked test entries
marked_there test [] number there passes o = absurd (cc)
marked_there test (e ∷ entries) number there passes o =
    elim (test e.0) as (λ b. test e.0 ≡ b → or_else (cond b (Some e.1) (first_marked test entries)) o ≡ cond b (Some e.1) (first_marked test entries)) [
      | true ↦ λ h. refl
      | false ↦ λ h. elim (nat_eq number e.0) as (λ b. nat_eq number e.0 ≡ b → or_else (first_marked test entries) o ≡ first_marked test entries) [
        | true ↦ λ same. absurd (let k : test e.0 ≡ true = subst (λ n. test n ≡ true) (eqb-true number e.0 same) passes in let z = sym k ∙ h in cc)
        | false ↦ λ other.
            marked_there test entries number
            (sym (ap (λ b. is_some (cond b (Some e.1) (lookup (nat_eq number) entries))) other) ∙ there) passes o
      ] refl
    ] refl

pub mentioned_again : (bytes : List ℕ) (past : List Item) (names : Names) (at : ℕ) (r : OasRecord) (number : ℕ)
    → AreNamesOf bytes past names → Mentions bytes (records_in past) r number → is_some (get nat_eq names.used number) ≡ true
    → AreNamesOf bytes (item at r ∷ past) names
mentioned_again bytes past names at r number are mentions there = record {
  numbers = λ is_written number. are.numbers is_written number ∙ conflict_kept bytes past at r (OfNumber is_written number) mentions.claims;
  none_given = are.none_given;
  counted = are.counted ∙ count_kept (records_in past) r mentions.counts;
  texts = λ number. are.texts number ∙ name_kept bytes (records_in past) r number mentions.gives;
  cells = λ name. are.cells name ∙ conflict_kept bytes past at r (OfName name) mentions.claims;
  used = λ test.
      mention_kept test past (first_marked test names.used.entries) at (or_else (cell_called r) (target_called r)) number mentions.written
      (are.used test) (marked_there test names.used.entries number there);
}
  where
    mention_kept : (test : ℕ → Bool) (past : List Item) (marked : Option ℕ) (at : ℕ) (called : Option Called) (number : ℕ)
        → called ≡ Some (Number number) → marked ≡ first_mention test past
        → (test number ≡ true → (o : Option ℕ) → or_else marked o ≡ marked)
        → marked ≡ or_else (first_mention test past) (some_if (passes test called) at)
    mention_kept test past marked at called number written same kept =
        elim (test number) as (λ b. test number ≡ b → marked ≡ or_else marked (some_if b at)) [
          | true ↦ λ h. sym (kept h (Some at))
          | false ↦ λ h. sym (or_none marked)
        ] refl
        ∙ ap (λ o. or_else o (some_if (test number) at)) same
        ∙ sym (ap (λ c. or_else (first_mention test past) (some_if (passes test c) at)) written)

pub mentioned_first : (bytes : List ℕ) (past : List Item) (old new : Names) (at : ℕ) (r : OasRecord) (number : ℕ)
    → AreNamesOf bytes past old → Mentions bytes (records_in past) r number
    → new.given ≡ old.given → new.numbering ≡ old.numbering → new.counted ≡ old.counted → new.cells ≡ old.cells
    → new.used.entries ≡ old.used.entries ++ (number, at) ∷ []
    → AreNamesOf bytes (item at r ∷ past) new
mentioned_first bytes past old new at r number are mentions given numbering counted cells used = record {
  numbers = λ is_written number.
      ap (λ o. conflict_with o is_written (place_by (given_in new number))) numbering
      ∙ ap (λ t. conflict_with old.numbering is_written (place_by (get nat_eq t number))) given
      ∙ are.numbers is_written number ∙ conflict_kept bytes past at r (OfNumber is_written number) mentions.claims;
  none_given = λ e number. ap (λ t. get nat_eq t number) given ∙ are.none_given (sym numbering ∙ e) number;
  counted = counted ∙ are.counted ∙ count_kept (records_in past) r mentions.counts;
  texts = λ number. ap (λ t. text_by bytes (get nat_eq t number)) given ∙ are.texts number ∙ name_kept bytes (records_in past) r number mentions.gives;
  cells = λ name.
      ap (λ t. get_by (λ key. same_name name key.now) t) cells ∙ are.cells name ∙ conflict_kept bytes past at r (OfName name) mentions.claims;
  used = λ test.
      ap (first_marked test) used ∙ marked_more test old.used.entries number at
      ∙ ap (λ o. or_else o (some_if (test number) at)) (are.used test)
      ∙ sym (ap (λ c. or_else (first_mention test past) (some_if (passes test c) at)) mentions.written);
}
