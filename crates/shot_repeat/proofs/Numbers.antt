-- Where numbers end, however they are spelled.
use Rattle.std.proofs.Common.{◌≡◌, ℕ, suc, ◌+◌, ◌-◌, ◌<◌, ◌≤◌, List, [], ◌∷◌, ◌++◌, length, drop, get_or, All, refl}
use Rattle.std.proofs.Common.{arith, ap, sym, subst, ◌∙◌, inl, inr, append_assoc}
use Rattle.std.specs.List.{concat}
use Rattle.std.proofs.lemmas.List.{drop_more, length-drop}
use Rattle.std.proofs.lemmas.List.Elements.{All-append, All-cons}
use Rattle.oas_lex.specs.Numbers.{IsWholeNumber as IsSpelling}
use Rattle.oas_lex.proofs.ForCallers.{none_begins}
use Rattle.shot_reader.specs.Refusals.{IsNumber}
use Rattle.shot_repeat.specs.Numbers.{NumberAt, NumbersAt, Left}
use Rattle.shot_repeat.proofs.Gifts.{all_rest}

spells_by : (front : List ℕ) (last : ℕ) → All (λ b. 128 ≤ b) front → last < 128 → IsSpelling (front ++ last ∷ [])
spells_by [] last h g = inl (g, refl)
spells_by (b ∷ front) last h g = inr (h 0 b (omega arith), spells_by front last (λ k d below. h (suc k) d (omega arith)) g)

number_spells : (xs : List ℕ) → IsNumber xs → IsSpelling xs
number_spells xs n = subst (λ (t : List ℕ). IsSpelling t) (sym n.2) (spells_by n.0 n.1 n.3 n.4)

-- no number begins another
pub one_number : (a b x y : List ℕ) → IsNumber a → IsNumber b → a ++ x ≡ b ++ y → (a ≡ b) × (x ≡ y)
one_number a b x y h g e = none_begins a b x y (number_spells a h) (number_spells b g) e

-- the bytes so far go on
pub record GoneOn (bytes : List ℕ) (at next : ℕ) : Type 0 where
  pub within : next ≤ length bytes
  pub front : List ℕ
  pub on : All (λ b. 128 ≤ b) front
  pub text : drop at bytes ≡ front ++ drop next bytes

pub gone_more : (bytes : List ℕ) (at next byte : ℕ) → GoneOn bytes at next → next < length bytes
    → byte ≡ get_or bytes next 0 → 128 ≤ byte → GoneOn bytes at (next + 1)
gone_more bytes at next byte g h e on = record {
  within = omega (arith, h);
  front = g.front ++ byte ∷ [];
  on = All-append (λ (b : ℕ). 128 ≤ b) g.front (byte ∷ []) g.on (All-cons (λ (b : ℕ). 128 ≤ b) byte [] on (λ k d below. absurd (omega arith)));
  text = g.text ∙ (ap (λ (t : List ℕ). g.front ++ t)
      (drop_more bytes next 0 h ∙ ap (λ (b : ℕ). b ∷ drop (next + 1) bytes) (sym e)) ∙ sym
      (append_assoc g.front (byte ∷ []) (drop (next + 1) bytes)));
}

pub gone_last : (bytes : List ℕ) (at next byte : ℕ) → GoneOn bytes at next → next < length bytes
    → byte ≡ get_or bytes next 0 → byte < 128 → NumberAt bytes at (next + 1)
gone_last bytes at next byte g h e last = record {
  within = omega (arith, h);
  number = g.front ++ byte ∷ [];
  is = (g.front, byte, refl, g.on, last);
  text = g.text ∙ (ap (λ (t : List ℕ). g.front ++ t)
      (drop_more bytes next 0 h ∙ ap (λ (b : ℕ). b ∷ drop (next + 1) bytes) (sym e)) ∙ sym
      (append_assoc g.front (byte ∷ []) (drop (next + 1) bytes)));
}

-- another number that stands there has the same end
pub same_end : (bytes : List ℕ) (at next : ℕ) (number after : List ℕ) → NumberAt bytes at next → IsNumber number
    → drop at bytes ≡ number ++ after → drop next bytes ≡ after
same_end bytes at next number after n h e = (one_number n.number number (drop next bytes) after n.is h (sym n.text ∙ e)).1

not_on : (xs front after : List ℕ) (last : ℕ) → All (λ b. 128 ≤ b) xs → last < 128 → xs ≡ front ++ (last ∷ after) → ⊥
not_on xs front after last h g e =
    let rest = all_rest (λ (b : ℕ). 128 ≤ b) front (last ∷ after) (subst (λ (t : List ℕ). All (λ (b : ℕ). 128 ≤ b) t) e h) in
    omega (arith, rest 0 last (omega arith), g)

nothing_left : (bytes : List ℕ) (next : ℕ) → length bytes ≤ next → drop next bytes ≡ []
nothing_left bytes next h = none (drop next bytes) (omega (arith, length-drop next bytes))
  where
    none : (xs : List ℕ) → length xs ≡ 0 → xs ≡ []
    none [] e = refl
    none (x ∷ xs) e = absurd (omega arith)

-- where all bytes go on, no number stands
pub no_number : (bytes : List ℕ) (at next : ℕ) (number after : List ℕ) → GoneOn bytes at next → length bytes ≤ next
    → IsNumber number → drop at bytes ≡ number ++ after → ⊥
no_number bytes at next number after g h n e =
    let rest : drop next bytes ≡ [] = nothing_left bytes next h in
    let whole : g.front ++ [] ≡ n.0 ++ (n.1 ∷ after) =
    ap (λ (t : List ℕ). g.front ++ t) (sym rest) ∙ (sym g.text ∙ (e ∙ (ap (λ (t : List ℕ). t ++ after) n.2 ∙ append_assoc n.0 (n.1 ∷ []) after))) in
    not_on (g.front ++ []) n.0 after n.1 (All-append (λ (b : ℕ). 128 ≤ b) g.front [] g.on (λ k d below. absurd (omega arith))) n.4 whole

-- ---- several

concat_more : (ns : List (List ℕ)) (n x : List ℕ) → concat (ns ++ n ∷ []) ++ x ≡ concat ns ++ (n ++ x)
concat_more [] n x = append_assoc n [] x
concat_more (m ∷ ns) n x =
    append_assoc m (concat (ns ++ n ∷ [])) x ∙ (ap (λ (t : List ℕ). m ++ t) (concat_more ns n x) ∙ sym (append_assoc m (concat ns) (n ++ x)))

length_more : (ns : List (List ℕ)) (n : List ℕ) → length (ns ++ n ∷ []) ≡ length ns + 1
length_more [] n = refl
length_more (m ∷ ns) n = omega (arith, length_more ns n)

pub no_numbers : (bytes : List ℕ) (at : ℕ) → at ≤ length bytes → NumbersAt bytes at 0 at
no_numbers bytes at h = record { within = h; numbers = []; many = refl; are = λ k d below. absurd (omega arith); text = refl }

pub numbers_more : (bytes : List ℕ) (at done next end : ℕ) → NumbersAt bytes at done next → NumberAt bytes next end → NumbersAt bytes at (done + 1) end
numbers_more bytes at done next end s n = record {
  within = n.within;
  numbers = s.numbers ++ n.number ∷ [];
  many = omega (arith, length_more s.numbers n.number, s.many);
  are = All-append IsNumber s.numbers (n.number ∷ []) s.are (All-cons IsNumber n.number [] n.is (λ k d below. absurd (omega arith)));
  text = s.text ∙ (ap (λ (t : List ℕ). concat s.numbers ++ t) n.text ∙ sym (concat_more s.numbers n.number (drop end bytes)));
}

-- one of those that are left
pub record FirstLeft (rest : List ℕ) (count : ℕ) (after : List ℕ) : Type 0 where
  pub number : List ℕ
  pub others : List ℕ
  pub is : IsNumber number
  pub text : rest ≡ number ++ others
  pub left : Left others count after

left_by : (rest : List ℕ) (count : ℕ) (after : List ℕ) (ns : List (List ℕ)) → length ns ≡ suc count → All IsNumber ns
    → rest ≡ concat ns ++ after → FirstLeft rest count after
left_by rest count after [] m h e = absurd (omega arith)
left_by rest count after (n ∷ ns) m h e = record {
  number = n;
  others = concat ns ++ after;
  is = h 0 n (omega arith);
  text = e ∙ append_assoc n (concat ns) after;
  left = record { numbers = ns; many = omega arith; are = λ k d below. h (suc k) d (omega arith); text = refl };
}

pub first_left : (rest : List ℕ) (count : ℕ) (after : List ℕ) → Left rest (suc count) after → FirstLeft rest count after
first_left rest count after l = left_by rest count after l.numbers l.many l.are l.text

-- after one more number there is one less
pub left_less : (bytes : List ℕ) (next end count done : ℕ) (after : List ℕ) → done < count → NumberAt bytes next end
    → Left (drop next bytes) (count - done) after → Left (drop end bytes) (count - (done + 1)) after
left_less bytes next end count done after h n l =
    let m : count - done ≡ suc (count - (done + 1)) = omega (arith, h) in
    let f = first_left (drop next bytes) (count - (done + 1)) after (rw m at l) in
    let same = same_end bytes next end f.number f.others n f.is f.text in
    subst (λ (t : List ℕ). Left t (count - (done + 1)) after) (sym same) f.left

-- none is left
none_by : (rest : List ℕ) (after : List ℕ) (ns : List (List ℕ)) → length ns ≡ 0 → rest ≡ concat ns ++ after → rest ≡ after
none_by rest after [] m e = e
none_by rest after (n ∷ ns) m e = absurd (omega arith)

pub none_left : (rest : List ℕ) (count : ℕ) (after : List ℕ) → count ≡ 0 → Left rest count after → rest ≡ after
none_left rest count after z l = none_by rest after l.numbers (omega (arith, l.many, z)) l.text

-- where some are left, one is
pub some_left : (rest : List ℕ) (count done : ℕ) (after : List ℕ) → done < count → Left rest (count - done) after → FirstLeft rest (count - (done + 1)) after
some_left rest count done after h l =
    let m : count - done ≡ suc (count - (done + 1)) = omega (arith, h) in first_left rest (count - (done + 1)) after (rw m at l)
