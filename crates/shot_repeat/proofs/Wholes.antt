-- The text of a record is a whole one, and a whole one doesn't begin as END does.
use Rattle.std.proofs.Common.{◌≡◌, ℕ, ℤ, pos, negsuc, ◌+◌, ◌<◌, ◌≤◌, ◌^◌, ◌%◌, Bool, true, false, cond, unsigned_abs}
use Rattle.std.proofs.Common.{is_some, List, [], ◌∷◌, ◌++◌, length, Option, Some, None, All, refl, arith, ap, sym, ◌∙◌}
use Rattle.std.proofs.Common.{inl, inr, append_assoc, length-append}
use Rattle.std.specs.List.{concat}
use Rattle.std.specs.Ordering.{int_eq}
use Rattle.std.proofs.lemmas.List.{append-nil}
use Rattle.std.proofs.lemmas.List.Elements.{All-append, All-cons}
use Rattle.oas_lex.specs.Numbers.{IsWholeNumber as IsSpelling, IsUnsigned}
use Rattle.oas_lex.specs.Spelling.{unsigned_text, signed_text}
use Rattle.oas_lex.specs.ShotText.{id_for, delta_text}
use Rattle.oas_lex.proofs.ForCallers.{unsigned_spells, signed_spells}
use Rattle.shot_reader.specs.Refusals.{IsNumber, BeginsEnd}
use Rattle.shot_repeat.specs.Records.{IsNarrowNumber, IsNarrowPlace, IsNarrowRepetition, IsNarrow, info_of, number_text}
use Rattle.shot_repeat.specs.Records.{place_text, step_code, steps_text, repetition_text, record_text}
use Rattle.shot_repeat.specs.Refusals.{has, one_or_none, written_of, HasWrittenCount, IsRepetition, IsRepetitionIf, IsWholePackRecord}
use Rattle.shot_repeat.specs.declared.record.PackRecord.{PackRecord}
use Rattle.shot_repeat.specs.declared.record.Repetition.{Repetition}
use Rattle.shot_repeat.proofs.Texts.{opened, record_opens, info_says}
use Rattle.shot_repeat.proofs.Unique.{code_narrow}

-- ---- one number

none_on : All (λ b. 128 ≤ b) []
none_on k d h = absurd (omega arith)

pub number_is : (xs : List ℕ) → IsSpelling xs → IsNumber xs
number_is [] h = absurd h
number_is (b ∷ xs) h =
    elim h [
      | inl last ↦ ([], b, ap (λ (t : List ℕ). b ∷ t) last.1, none_on, last.0)
      | inr next ↦ let n = number_is xs next.1 in (b ∷ n.0, n.1, ap (λ (t : List ℕ). b ∷ t) n.2, All-cons (λ (k : ℕ). 128 ≤ k) b n.0 next.0 n.3, n.4)
    ]

unsigned_number : (n : ℕ) → n < 2 ^ 63 → IsNumber (unsigned_text n)
unsigned_number n h = number_is (unsigned_text n) (unsigned_spells n h).whole

signed_number : (z : ℤ) → unsigned_abs z < 2 ^ 62 → IsNumber (signed_text z)
signed_number z h = number_is (signed_text z) (signed_spells z h).whole

-- ---- the numbers of a record

none_there : All IsNumber []
none_there k d h = absurd (omega arith)

one_there : (xs : List ℕ) → IsNumber xs → All IsNumber (xs ∷ [])
one_there xs h = All-cons IsNumber xs [] h none_there

abbrev number_list : Option ℕ → List (List ℕ)
number_list None = []
number_list (Some n) = unsigned_text n ∷ []

abbrev place_list : Option ℤ → List (List ℕ)
place_list None = []
place_list (Some z) = signed_text z ∷ []

abbrev delta_list : Bool → ℤ → List (List ℕ)
delta_list zero z = cond zero [] (signed_text z ∷ [])

-- a part of the numbers: the bytes that they are, how many they are
record Part (text : List ℕ) (numbers : List (List ℕ)) (count : ℕ) : Type 0 where
  joined : (after : List ℕ) (rest : List (List ℕ)) → concat (numbers ++ rest) ++ after ≡ text ++ (concat rest ++ after)
  many : length numbers ≡ count
  ends : All IsNumber numbers

number_part : (o : Option ℕ) → IsNarrowNumber o → Part (number_text o) (number_list o) (one_or_none (is_some o))
number_part None h = record { joined = λ after rest. refl; many = refl; ends = none_there }
number_part (Some n) h =
    record {
      joined = λ after rest. append_assoc (unsigned_text n) (concat rest) after;
      many = refl;
      ends = one_there
          (unsigned_text n) (unsigned_number n h);
    }

place_part : (o : Option ℤ) → IsNarrowPlace o → Part (place_text o) (place_list o) (one_or_none (is_some o))
place_part None h = record { joined = λ after rest. refl; many = refl; ends = none_there }
place_part (Some n) h =
    record {
      joined = λ after rest. append_assoc (signed_text n) (concat rest) after;
      many = refl;
      ends = one_there
          (signed_text n) (signed_number n h);
    }

delta_part : (p : Bool) (z : ℤ) → unsigned_abs z < 2 ^ 62 → Part (cond p [] (signed_text z)) (delta_list p z) (cond p 0 1)
delta_part true z h = record { joined = λ after rest. refl; many = refl; ends = none_there }
delta_part false z h =
    record {
      joined = λ after rest. append_assoc (signed_text z) (concat rest) after;
      many = refl;
      ends = one_there
          (signed_text z) (signed_number z h);
    }

join : {text other : List ℕ} {numbers rest : List (List ℕ)} {n m : ℕ} → Part text numbers n → Part other rest m → Part (text ++ other) (numbers ++ rest) (n + m)
join {text} {other} {numbers} {rest} {n} {m} a b = record {
  joined = λ after more.
      ap (λ (t : List (List ℕ)). concat t ++ after) (append_assoc numbers rest more)
      ∙ (a.joined after (rest ++ more) ∙ (ap (λ (t : List ℕ). text ++ t) (b.joined after more) ∙ sym (append_assoc text other (concat more ++ after))));
  many = length-append numbers rest ∙ omega (arith, a.many, b.many);
  ends = All-append IsNumber numbers rest a.ends b.ends;
}

-- how many numbers a record has, those of the repetition aside
abbrev count_by : Bool → Bool → ℕ → ℕ
count_by p q written = written + cond p 0 1 + cond q 0 1

numbers_by : (p q : Bool) (info : ℕ) → HasWrittenCount (cond p (cond q 20 25) (cond q 24 23)) info (count_by p q (written_of info))
numbers_by true true info = inl (refl, omega arith)
numbers_by true false info = inr (inr (inr (refl, omega arith)))
numbers_by false true info = inr (inr (inl (refl, omega arith)))
numbers_by false false info = inr (inl (refl, omega arith))

-- ---- the repetition

-- a number whose code is odd begins with an odd byte
pub record Odd (xs : List ℕ) : Type 0 where
  pub first : ℕ
  pub rest : List ℕ
  pub is : xs ≡ first ∷ rest
  pub odd : first % 2 ≡ 1

odd_code : (z : ℤ) → step_code z % 2 ≡ 1
odd_code (pos n) = omega arith
odd_code (negsuc n) = omega arith

odd_first : (xs : List ℕ) (n : ℕ) → IsUnsigned xs n → n % 2 ≡ 1 → Odd xs
odd_first [] n u h = absurd u.whole
odd_first (b ∷ xs) n u h = record { first = b; rest = xs; is = refl; odd = omega (arith, u.value, h) }

repeats_by : (p : Repetition) (o : Odd (unsigned_text (step_code p.x))) → IsNarrowRepetition (Some p) → IsRepetition (9 ∷ steps_text p)
repeats_by p o h = record {
  dimension = unsigned_text p.more;
  dimension_ends = unsigned_number p.more h.0;
  first = o.first;
  odd = o.odd;
  x = o.rest;
  x_ends = rw (← o.is) (unsigned_number (step_code p.x) (code_narrow p.x h.1));
  y = signed_text p.y;
  y_ends = signed_number p.y h.2;
  text = ap (λ (t : List ℕ). 9 ∷ unsigned_text p.more ++ t ++ signed_text p.y) o.is;
}

repeats_if : (o : Option Repetition) → IsNarrowRepetition o → IsRepetitionIf (is_some o) (repetition_text o)
repeats_if None h = refl
repeats_if (Some p) h = repeats_by p
    (odd_first (unsigned_text (step_code p.x)) (step_code p.x) (unsigned_spells (step_code p.x) (code_narrow p.x h.1))
    (odd_code p.x)) h

-- ---- the record

-- the fields of a record, up to its repetition
abbrev fields_text : PackRecord → List ℕ
fields_text r =
    number_text r.layer ++ (number_text r.datatype
    ++ (number_text r.width
    ++ (number_text r.height
    ++ (delta_text r.left_delta ++ (delta_text r.right_delta ++ (place_text r.x ++ place_text r.y))))))

fields_open : (r : PackRecord) (after : List ℕ) → fields_text r ++ (repetition_text r.repetition ++ after) ≡ opened r after
fields_open r after = simp append_assoc

sum_by_parts : (a b c d e f g h i j k l m n : ℕ) → i ≡ a → j ≡ b → k ≡ c → l ≡ d → m ≡ g → n ≡ h
    → a + (b + (c + (d + (e + (f + (g + h)))))) ≡ i + j + k + l + m + n + e + f
sum_by_parts a b c d e f g h i j k l m n p q r s t u = omega arith

pub text_whole : (r : PackRecord) (rest after : List ℕ) → IsNarrow r → rest ≡ record_text r ++ after → IsWholePackRecord rest
text_whole r rest after h e =
    let p = int_eq r.left_delta (pos 0) in
    let q = int_eq r.right_delta (pos 0) in
    let says = info_says r in
    let part =
    join (number_part r.layer h.layer) (join (number_part r.datatype h.datatype) (join (number_part r.width h.width) (join (number_part r.height h.height)
    (join (delta_part p r.left_delta h.left) (join (delta_part q r.right_delta h.right) (join (place_part r.x h.x) (place_part r.y h.y))))))) in
    let numbers = number_list r.layer
    ++ (number_list r.datatype
    ++ (number_list r.width
    ++ (number_list r.height
    ++ (delta_list p r.left_delta ++ (delta_list q r.right_delta ++ (place_list r.x ++ place_list r.y)))))) in
    let count : length numbers ≡ count_by p q (written_of (info_of r)) =
    part.many
    ∙ sum_by_parts (one_or_none (is_some r.layer)) (one_or_none (is_some r.datatype)) (one_or_none (is_some r.width))
    (one_or_none (is_some r.height)) (cond p 0 1) (cond q 0 1) (one_or_none (is_some r.x))
    (one_or_none (is_some r.y))
    (one_or_none (has (info_of r) 1)) (one_or_none (has (info_of r) 2)) (one_or_none (has (info_of r) 64))
    (one_or_none (has (info_of r) 32)) (one_or_none (has (info_of r) 16)) (one_or_none (has (info_of r) 8))
    (ap one_or_none says.layer) (ap one_or_none says.datatype) (ap one_or_none says.width) (ap one_or_none says.height)
    (ap one_or_none says.x) (ap one_or_none says.y) in
    let text : concat numbers ++ (repetition_text r.repetition ++ after) ≡ opened r after =
    ap (λ (t : List (List ℕ)). concat t ++ (repetition_text r.repetition ++ after)) (sym (append-nil numbers))
    ∙ (part.joined (repetition_text r.repetition ++ after) [] ∙ fields_open r after) in
    record {
      id = id_for r.left_delta r.right_delta;
      info = info_of r;
      low = says.low;
      numbers = numbers;
      count = rw count (numbers_by p q (info_of r));
      ends = part.ends;
      repetition = repetition_text r.repetition;
      repeats = rw says.repetition (repeats_if r.repetition h.repetition);
      after = after;
      text = e ∙ (record_opens r after ∙ ap (λ (t : List ℕ). id_for r.left_delta r.right_delta ∷ info_of r ∷ t) (sym text));
    }

id_not_two : (id info count : ℕ) → HasWrittenCount id info count → id ≡ 2 → ⊥
id_not_two id info count (inl h) e = omega (arith, h.0, e)
id_not_two id info count (inr (inl h)) e = omega (arith, h.0, e)
id_not_two id info count (inr (inr (inl h))) e = omega (arith, h.0, e)
id_not_two id info count (inr (inr (inr h))) e = omega (arith, h.0, e)

pub whole_not_end : (rest : List ℕ) → IsWholePackRecord rest → BeginsEnd rest → ⊥
whole_not_end rest w b =
    let both : w.id ∷ w.info ∷ concat w.numbers ++ (w.repetition ++ w.after) ≡ 2 ∷ b.0 = sym w.text ∙ b.1 in
    let id : w.id ≡ 2 = cc in
    id_not_two w.id w.info (length w.numbers) w.count id
