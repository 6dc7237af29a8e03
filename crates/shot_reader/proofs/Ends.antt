-- A record is whole exactly where enough numbers end after its id and its info byte.
use Rattle.std.proofs.Common.{◌≡◌, ℕ, zero, suc, ◌+◌, ◌-◌, ◌<◌, ◌≤◌, cond, nat_lt, nat_le, List, [], ◌∷◌, ◌++◌, length}
use Rattle.std.proofs.Common.{get_or, take, drop, refl, arith, ap, sym, subst, ◌∙◌, inl, inr, append_assoc}
use Rattle.std.specs.Prelude.{All, IsTrue, Some as Just}
use Rattle.oas_lex.proofs.ForCallers.{rest_is}
use Rattle.std.specs.List.{concat, count_by}
use Rattle.std.proofs.lemmas.Bool.{cases_lt}
use Rattle.std.proofs.lemmas.Bool.Decides.{nat_tests}
use Rattle.std.proofs.lemmas.List.Elements.{All-cons}
use Rattle.std.proofs.lemmas.List.Recursion.{is_count_by}
use Rattle.oas_lex.specs.Numbers.{IsWholeNumber as IsSpelling}
use Rattle.shot_reader.specs.Refusals.{IsNumber, HasNumberCount, IsWholeShotRecord}

-- how many numbers end among the bytes
abbrev pub ends : List ℕ → ℕ
ends [] = 0
ends (b ∷ bs) = cond (nat_lt b 128) (1 + ends bs) (ends bs)

pub ends_count : (xs : List ℕ) → ends xs ≡ count_by (λ b. nat_lt b 128) xs
ends_count xs = is_count_by ends (λ b. nat_lt b 128) refl (λ x ys. refl) xs

ends_last : (b : ℕ) (xs : List ℕ) → b < 128 → ends (b ∷ xs) ≡ 1 + ends xs
ends_last b xs h = grind (arith, nat_tests)

ends_on : (b : ℕ) (xs : List ℕ) → 128 ≤ b → ends (b ∷ xs) ≡ ends xs
ends_on b xs h = grind (arith, nat_tests)

pub ends_append : (xs ys : List ℕ) → ends (xs ++ ys) ≡ ends xs + ends ys
ends_append [] ys = omega arith
ends_append (b ∷ xs) ys =
    elim (cases_lt b 128) [
      | inl last ↦ omega (arith, ends_last b xs last, ends_last b (xs ++ ys) last, ends_append xs ys)
      | inr on ↦ omega (arith, ends_on b xs on, ends_on b (xs ++ ys) on, ends_append xs ys)
    ]

-- one number ends in the spelling of one
pub ends_one : (xs : List ℕ) → IsSpelling xs → ends xs ≡ 1
ends_one [] h = absurd h
ends_one (b ∷ xs) h =
    elim h [
      | inl last ↦ ends_last b xs last.0 ∙ ap (λ (t : List ℕ). 1 + ends t) last.1
      | inr next ↦ ends_on b xs next.0 ∙ ends_one xs next.1
    ]

-- the first number among bytes in which some number ends
record First (xs : List ℕ) : Type 0 where
  number : List ℕ
  rest : List ℕ
  is : IsNumber number
  text : xs ≡ number ++ rest
  count : ends xs ≡ 1 + ends rest

none_on : All (λ b. 128 ≤ b) []
none_on k d h = absurd (omega arith)

first_last : (b : ℕ) (xs : List ℕ) → b < 128 → First (b ∷ xs)
first_last b xs h = record { number = b ∷ []; rest = xs; is = ([], b, refl, none_on, h); text = refl; count = ends_last b xs h }

first_on : (b : ℕ) (xs : List ℕ) → 128 ≤ b → First xs → First (b ∷ xs)
first_on b xs h f = record {
  number = b ∷ f.number;
  rest = f.rest;
  is = (b ∷ f.is.0, f.is.1, ap (λ (t : List ℕ). b ∷ t) f.is.2, All-cons (λ x. 128 ≤ x) b f.is.0 h f.is.3, f.is.4);
  text = ap (λ (t : List ℕ). b ∷ t) f.text;
  count = ends_on b xs h ∙ f.count;
}

first : (xs : List ℕ) → 0 < ends xs → First xs
first [] h = absurd (omega arith)
first (b ∷ xs) h =
    elim (cases_lt b 128) [
      | inl last ↦ first_last b xs last
      | inr on ↦ first_on b xs on (first xs (omega (arith, ends_on b xs on)))
    ]

-- so many numbers, and what follows them
record Some (k : ℕ) (xs : List ℕ) : Type 0 where
  numbers : List (List ℕ)
  rest : List ℕ
  count : length numbers ≡ k
  are : All IsNumber numbers
  text : xs ≡ concat numbers ++ rest

some : (k : ℕ) (xs : List ℕ) → k ≤ ends xs → Some k xs
some zero xs h = record { numbers = []; rest = xs; count = refl; are = λ k d h. absurd (omega arith); text = refl }
some (suc k) xs h =
    let f : First xs = first xs (omega arith) in
    let s : Some k f.rest = some k f.rest (omega (arith, f.count)) in
    record {
      numbers = f.number ∷ s.numbers;
      rest = s.rest;
      count = ap suc s.count;
      are = All-cons IsNumber f.number s.numbers f.is s.are;
      text = f.text ∙ (ap (λ (t : List ℕ). f.number ++ t) s.text ∙ sym (append_assoc f.number (concat s.numbers) s.rest));
    }

number_ends : (xs : List ℕ) → IsNumber xs → 1 ≤ ends xs
number_ends xs n = omega (arith, ap ends n.2, ends_append n.0 (n.1 ∷ []), ends_last n.1 [] n.4)

numbers_end : (numbers : List (List ℕ)) (rest : List ℕ) → All IsNumber numbers → length numbers ≤ ends (concat numbers ++ rest)
numbers_end [] rest h = omega arith
numbers_end (n ∷ numbers) rest h =
    omega (
      arith,
      number_ends n (h 0 n (omega arith)),
      ends_append n (concat numbers ++ rest),
      ap ends
          (append_assoc n (concat numbers) rest),
      numbers_end numbers rest (λ k d below. h (suc k) d (omega arith)),
    )

pub whole_by : (id count : ℕ) (xs : List ℕ) → HasNumberCount id count → count ≤ ends xs → IsWholeShotRecord (id ∷ 123 ∷ xs)
whole_by id count xs has h =
    let s : Some count xs = some count xs h in
    record {
      id = id;
      numbers = s.numbers;
      count = rw s.count has;
      ends = s.are;
      after = s.rest;
      text = ap (λ (t : List ℕ). id ∷ 123 ∷ t) s.text;
    }

-- what a whole record begins with
pub record Begun (rest : List ℕ) : Type 0 where
  pub id : ℕ
  pub body : List ℕ
  pub text : rest ≡ id ∷ 123 ∷ body
  pub count : ℕ
  pub has : HasNumberCount id count
  pub enough : count ≤ ends body

pub whole_begun : (rest : List ℕ) → IsWholeShotRecord rest → Begun rest
whole_begun rest w = record {
  id = w.id;
  body = concat w.numbers ++ w.after;
  text = w.text;
  count = length w.numbers;
  has = w.count;
  enough = numbers_end w.numbers w.after w.ends;
}

id_not_end : (id count : ℕ) → HasNumberCount id count → id ≡ 2 → ⊥
id_not_end id count h e = elim h [ inl a ↦ omega arith | inr b ↦ elim b [ inl a ↦ omega arith | inr d ↦ elim d [ inl a ↦ omega arith | inr a ↦ omega arith ] ] ]

-- no whole record is END
pub whole_not_end : (rest after : List ℕ) → IsWholeShotRecord rest → rest ≡ 2 ∷ after → ⊥
whole_not_end rest after w e =
    let same : w.id ∷ 123 ∷ concat w.numbers ++ w.after ≡ 2 ∷ after = sym w.text ∙ e in
    id_not_end w.id (length w.numbers) w.count (cc)

-- ---- the same, by what a function reads

pub record Shown (rest : List ℕ) : Type 0 where
  pub size : 2 ≤ length rest
  pub info : get_or rest 1 0 ≡ 123
  pub count : ℕ
  pub has : HasNumberCount (get_or rest 0 0) count
  pub enough : count ≤ ends (drop 2 rest)

shown_by : (id count : ℕ) (body : List ℕ) → HasNumberCount id count → count ≤ ends body → Shown (id ∷ 123 ∷ body)
shown_by id count body h g = record { size = omega arith; info = refl; count = count; has = h; enough = g }

pub whole_shown : (rest : List ℕ) → IsWholeShotRecord rest → Shown rest
whole_shown rest w = let b : Begun rest = whole_begun rest w in subst (λ (t : List ℕ). Shown t) (sym b.text) (shown_by b.id b.count b.body b.has b.enough)

pub whole_if : (rest : List ℕ) (count : ℕ) → 2 ≤ length rest → get_or rest 1 0 ≡ 123
    → HasNumberCount (get_or rest 0 0) count → count ≤ ends (drop 2 rest) → IsWholeShotRecord rest
whole_if [] count h info has enough = absurd (omega arith)
whole_if (a ∷ []) count h info has enough = absurd (omega arith)
whole_if (a ∷ b ∷ xs) count h info has enough = subst (λ (n : ℕ). IsWholeShotRecord (a ∷ n ∷ xs)) (sym info) (whole_by a count xs has enough)

pub ends_is : (rest : List ℕ) (n : ℕ) → n ≡ count_by (λ b. nat_lt b 128) (take (length rest - 2) (drop 2 rest)) → n ≡ ends (drop 2 rest)
ends_is rest n e = e ∙ (ap (λ (t : List ℕ). count_by (λ b. nat_lt b 128) t) (rest_is rest 2) ∙ sym (ends_count (drop 2 rest)))

pub le_by : (count n m : ℕ) → n ≡ m → IsTrue (nat_le count n) → count ≤ m
le_by count n m e h = grind (arith, nat_tests)

pub le_true : (count own n m : ℕ) → count ≡ own → n ≡ m → own ≤ m → IsTrue (nat_le count n)
le_true count own n m e f h = grind (arith, nat_tests)

pub some_one : (a b : ℕ) → Just a ≡ Just b → a ≡ b
some_one a b e = cc
