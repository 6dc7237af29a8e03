-- One output after another is written.
use Rattle.std.proofs.Common.{ℕ, zero, suc, ◌≤◌, ◌<◌, ◌≡◌, ◌≢◌, ◌⊎◌, Bool, true, false, IsTrue, List, [], ◌∷◌, ◌++◌}
use Rattle.std.proofs.Common.{length, take, map, nat_lt, slice_get, Some, arith, refl, sym, ap, subst, ◌∙◌, inl, inr}
use Rattle.std.proofs.lemmas.List.{length-append, take_all}
use Rattle.std.proofs.lemmas.List.Elements.{All-head, All-tail}
use Rattle.std.proofs.lemmas.Bool.Decides.{nat_tests}
use Rattle.std.specs.List.{All}
use Rattle.std.specs.FinMap.{get}
use Rattle.depot.specs.Content.{Content, with_file, with_current, IsPartMade}
use Rattle.depot.proofs.ForCallers.{get-insert_same, get-insert_other}
use Rattle.deck_text.specs.Sound.{AreDistinct}
use Rattle.deck_text.specs.declared.deck.Output.{Output}
use Rattle.deck_plan.specs.Plans.{Planned}
use Rattle.shot_writer.specs.declared.parts.Sums.{Sums}
use Rattle.shot_output.specs.Files.{text_of, IsWritten, IsTextOf, IsOutputCutShort, IsWholeOutput, IsNoFileOf, AreWritten, IsPartOf, AreCutShort}

-- ---- places in lists

pub get_push : {X : Type 0} (xs : List X) (y x : X) (i : ℕ) → slice_get xs i ≡ Some x → slice_get (xs ++ y ∷ []) i ≡ Some x
get_push [] y x i e = absurd cc
get_push (z ∷ xs) y x zero e = e
get_push (z ∷ xs) y x (suc i) e = get_push xs y x i e

get_last : {X : Type 0} (xs : List X) (y : X) (n : ℕ) → length xs ≡ n → slice_get (xs ++ y ∷ []) n ≡ Some y
get_last [] y zero e = refl
get_last [] y (suc n) e = absurd (omega (arith, e))
get_last (z ∷ xs) y zero e = absurd (omega (arith, e))
get_last (z ∷ xs) y (suc n) e = get_last xs y n (omega (arith, e))

there_is : {X : Type 0} (xs : List X) (i : ℕ) → i < length xs → (x : X) × (slice_get xs i ≡ Some x)
there_is [] i less = absurd (omega (arith, less))
there_is (x ∷ xs) zero less = (x, refl)
there_is (x ∷ xs) (suc i) less = there_is xs i (omega (arith, less))

-- ---- files differ

abbrev file_of : Output → List ℕ
file_of output = output.file

differs_from : (file : List ℕ) (outputs : List Output) (j : ℕ) (b : Output)
    → All (λ other. file ≢ other) (map file_of outputs) → slice_get outputs j ≡ Some b → file ≢ b.file
differs_from file [] j b all e = absurd cc
differs_from file (o ∷ outputs) zero b all e =
    let first = All-head (λ other. file ≢ other) o.file (map file_of outputs) all in
    let same : o ≡ b = cc in
    subst (λ (x : Output). file ≢ x.file) same first
differs_from file (o ∷ outputs) (suc j) b all e = differs_from file outputs j b (All-tail (λ other. file ≢ other) o.file (map file_of outputs) all) e

pub files_differ : (outputs : List Output) → AreDistinct (map file_of outputs) → (i j : ℕ) (a b : Output) → i < j
    → slice_get outputs i ≡ Some a → slice_get outputs j ≡ Some b → a.file ≢ b.file
files_differ [] d i j a b less e f = absurd cc
files_differ (o ∷ outputs) d i zero a b less e f = absurd (omega (arith, less))
files_differ (o ∷ outputs) d zero (suc j) a b less e f =
    let same : o ≡ a = cc in
    subst (λ (x : Output). x.file ≢ b.file) same (differs_from o.file outputs j b d.0 f)
files_differ (o ∷ outputs) d (suc i) (suc j) a b less e f = files_differ outputs d.1 i j a b (omega (arith, less)) e f

-- ---- contents

-- a file that is made, in part or whole, touches no other
other_kept : (c now : Content) (file bytes name : List ℕ) → IsPartMade c file bytes now → file ≢ name → get now.made name ≡ get c.made name
other_kept c now file bytes name (inl same) apart = ap (λ (x : Content). get x.made name) same
other_kept c now file bytes name (inr part) apart = ap (λ (x : Content). get x.made name) part.2 ∙ get-insert_other c.made file name (take part.0 bytes) apart

-- but for what was made and the name that writes go to nothing has changed
abbrev IsRest : Content → Content → Type 0
IsRest before now = now ≡ record before { made = now.made; current = now.current }

rest_file : (c₀ c now : Content) (file bytes : List ℕ) → IsRest c₀ c → now ≡ with_file c file bytes → IsRest c₀ now
rest_file c₀ c now file bytes rest e = subst (IsRest c₀) (sym e) (ap (λ (x : Content). with_file x file bytes) rest)

rest_part : (c₀ c now : Content) (file bytes : List ℕ) → IsRest c₀ c → IsPartMade c file bytes now → IsRest c₀ now
rest_part c₀ c now file bytes rest (inl same) = same ∙ ap (λ (x : Content). with_current x now.current) rest ∙ ap
    (λ (x : Content). record c₀ { made = x.made; current = now.current }) (sym same)
rest_part c₀ c now file bytes rest (inr part) =
    part.2 ∙ ap (λ (x : Content). with_current (with_file x file (take part.0 bytes)) now.current) rest ∙ ap
    (λ (x : Content). record c₀ { made = x.made; current = now.current }) (sym part.2)

-- a file that is made whole is made in part
as_part : (c now : Content) (file bytes : List ℕ) → now ≡ with_file c file bytes → IsPartMade c file bytes now
as_part c now file bytes e =
    let whole : now ≡ with_file c file (take (length bytes) bytes) = e ∙ ap (with_file c file) (sym (take_all (length bytes) bytes (omega arith))) in
    inr (length bytes, omega arith, subst (λ (x : Content). x ≡ with_current (with_file c file (take (length bytes) bytes)) x.current) (sym whole) refl)

-- ---- outputs

module _ (p : Planned) (distinct : AreDistinct (map file_of p.deck.outputs)) (tells : Bool) (c₀ : Content) where
  no_file : (n : ℕ) (output : Output) → slice_get p.deck.outputs n ≡ Some output → IsNoFileOf p n output.file
  no_file n output there i other less e = files_differ p.deck.outputs distinct i n other output less e there

  fewer_files : (n m : ℕ) (name : List ℕ) → n ≤ m → IsNoFileOf p m name → IsNoFileOf p n name
  fewer_files n m name le none i other less e = none i other (omega (arith, less, le)) e

  -- what is whole stays so while a later output is written
  still_whole : (i n : ℕ) (output : Output) (c now : Content) (sums : Sums) (bytes : List ℕ) → i < n
      → slice_get p.deck.outputs n ≡ Some output → (IsTrue tells → IsPartMade c output.file bytes now)
      → IsWholeOutput p i tells c sums → IsWholeOutput p i tells now sums
  still_whole i n output c now sums bytes less there part w = record {
    shots = w.shots;
    list = w.list;
    holds = λ other e told. other_kept c now output.file bytes other.file (part told)
        (λ same. files_differ p.deck.outputs distinct i n other output less e there (sym same)) ∙ w.holds other e told;
    summed = w.summed;
  }

  pub none_written : AreWritten p 0 tells c₀ c₀ []
  none_written = record {
    each = λ k less. absurd (omega (arith, less));
    count = refl;
    rest = λ told. record { others = λ name none. refl; rest = refl };
  }

  module _ (n : ℕ) (c : Content) (sums : List Sums) (written : AreWritten p n tells c₀ c sums) where
    pub written_next : (now : Content) (of : Sums) → n < length p.deck.outputs → IsWritten p n tells c now of
        → AreWritten p (suc n) tells c₀ now (sums ++ of ∷ [])
    written_next now of less w =
        let at = there_is p.deck.outputs n less in
        let text = text_of p.deck at.0 w.shots in
        let made = λ (told : IsTrue tells). w.content at.0 at.1 told in
        record {
          each = λ k below. one_of k below (nat_lt k n) refl;
          count = (let many = length-append sums (of ∷ []) in let had = written.count in omega (arith, many, had));
          rest = λ told. record {
            others = λ name none.
                ap (λ (x : Content). get x.made name) (made told)
                ∙ get-insert_other c.made at.0.file name text (none n at.0 (omega arith) at.1)
                ∙ (written.rest told).others name (fewer_files n (suc n) name (omega arith) none);
            rest = rest_file c₀ c now at.0.file text (written.rest told).rest (made told);
          };
        }
      where
        one_of : (k : ℕ) → k < suc n → (b : Bool) → nat_lt k n ≡ b → (s : Sums) × (slice_get (sums ++ of ∷ []) k ≡ Some s) × IsWholeOutput p k tells now s
        one_of k below true e =
            let at = there_is p.deck.outputs n less in
            let text = text_of p.deck at.0 w.shots in
            let before : k < n = grind (arith, nat_tests, e) in
            let had = written.each k before in (
              had.0,
              get_push sums of had.0 k had.1,
              still_whole k n at.0 c now had.0 text before at.1 (λ told. as_part c now at.0.file text (w.content at.0 at.1 told)) had.2,
            )
        one_of k below false e =
            let last : k ≡ n = grind (arith, nat_tests, e, below) in (
              of,
              subst (λ (m : ℕ). slice_get (sums ++ of ∷ []) m ≡ Some of) (sym last) (get_last sums of n written.count),
              subst (λ (m : ℕ). IsWholeOutput p m tells now of) (sym last) (record {
                shots = w.shots;
                list = w.list;
                holds = λ output there told. ap (λ (x : Content). get x.made output.file) (w.content output there told)
                    ∙ get-insert_same c.made output.file (text_of p.deck output w.shots);
                summed = w.summed;
              }),
            )

    -- the writing of the next output was cut short
    pub written_cut : (now : Content) → n < length p.deck.outputs → (IsTrue tells → IsOutputCutShort p n c now) → AreCutShort p tells c₀ now
    written_cut now less cut =
        let at = there_is p.deck.outputs n less in
        record {
          k = n;
          inside = omega (arith, less);
          whole = λ i before. (let had = written.each i before in (had.0, whole_still i before had.0 had.2));
          part = λ told inside output there. part_of told output there;
          rest = λ told. record {
            others = λ name none. (let part = (cut told at.0 at.1) in
                other_kept c now at.0.file part.0 name part.2 (none n at.0 (omega arith) at.1)
                ∙ (written.rest told).others name (fewer_files n (suc n) name (omega arith) none));
            rest = (let part = (cut told at.0 at.1) in rest_part c₀ c now at.0.file part.0 (written.rest told).rest part.2);
          };
        }
      where
        whole_still : (i : ℕ) → i < n → (s : Sums) → IsWholeOutput p i tells c s → IsWholeOutput p i tells now s
        whole_still i before s w = record {
          shots = w.shots;
          list = w.list;
          holds = λ other e told.
              let at = there_is p.deck.outputs n less in
              let part = cut told at.0 at.1 in
              other_kept c now at.0.file part.0 other.file part.2
              (λ same. files_differ p.deck.outputs distinct i n other at.0 before e at.1 (sym same))
              ∙ w.holds other e told;
          summed = w.summed;
        }

        same_file : IsTrue tells → (output : Output) → slice_get p.deck.outputs n ≡ Some output → get c.made output.file ≡ get c₀.made output.file
        same_file told output there = (written.rest told).others output.file (no_file n output there)

        holds_part : (told : IsTrue tells) (output : Output) → slice_get p.deck.outputs n ≡ Some output
            → (text : List ℕ) → IsTextOf p n output text → IsPartMade c output.file text now
            → (get now.made output.file ≡ get c₀.made output.file)
            ⊎ ((b : List ℕ) × (m : ℕ) × IsTextOf p n output b × (m ≤ length b)
            × (get now.made output.file ≡ Some (take m b)))
        holds_part told output there text of (inl same) = inl (ap (λ (x : Content). get x.made output.file) same ∙ same_file told output there)
        holds_part told output there text of (inr (m, few, e)) =
            inr (text, m, of, few, ap (λ (x : Content). get x.made output.file) e ∙ get-insert_same c.made output.file (take m text))

        part_of : IsTrue tells → IsPartOf p n c₀ now
        part_of told output there = let part = cut told output there in holds_part told output there part.0 part.1 part.2

    -- nothing of the next output was written
    pub written_stop : n ≤ length p.deck.outputs → AreCutShort p tells c₀ c
    written_stop inside = record {
      k = n;
      inside = inside;
      whole = λ i before. (let had = written.each i before in (had.0, had.2));
      part = λ told more output there. inl ((written.rest told).others output.file (no_file n output there));
      rest = λ told. record {
        others = λ name none. (written.rest told).others name
            (fewer_files n (suc n) name (omega arith) none);
        rest = (written.rest told).rest;
      };
    }
