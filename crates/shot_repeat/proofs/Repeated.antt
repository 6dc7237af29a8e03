-- A repetition, and a whole record, by the numbers that stand there.
use Rattle.std.proofs.Common.{◌≡◌, ℕ, ◌+◌, ◌%◌, ◌<◌, ◌≤◌, Bool, true, false, is_some, List, [], ◌∷◌, ◌++◌, length, drop}
use Rattle.std.proofs.Common.{get_or, Option, Some, None, IfSome, All, refl, arith, ap, sym, subst, ◌∙◌, append_assoc}
use Rattle.std.specs.List.{concat}
use Rattle.std.proofs.lemmas.List.{append-nil, drop-drop, drop_more, length-drop}
use Rattle.std.proofs.lemmas.List.Elements.{All-cons}
use Rattle.shot_reader.specs.Refusals.{IsNumber}
use Rattle.shot_reader.proofs.ForCallers.{byte_is}
use Rattle.shot_repeat.specs.Numbers.{NumbersAt, Left}
use Rattle.shot_repeat.specs.Refusals.{has, HasWrittenCount, IsRepetition, IsRepetitionIf, IsWholePackRecord}
use Rattle.shot_repeat.proofs.Texts.{second_is, after_two, two_there}

none_there : All IsNumber []
none_there k d h = absurd (omega arith)

-- ---- a repetition among bytes

-- what follows the dimension of a repetition
abbrev pub delta_of : {rep : List ℕ} → IsRepetition rep → List ℕ → List ℕ
delta_of i after = i.first ∷ (i.x ++ (i.y ++ after))

rest_of : (bytes : List ℕ) (at : ℕ) (rep after : List ℕ) (i : IsRepetition rep) → drop at bytes ≡ rep ++ after
    → drop at bytes ≡ 9 ∷ (i.dimension ++ delta_of i after)
rest_of bytes at rep after i e = e ∙ (ap (λ (t : List ℕ). t ++ after) i.text ∙ simp append_assoc)

pub dimension_left : (bytes : List ℕ) (at : ℕ) (rep after : List ℕ) (i : IsRepetition rep)
    → drop at bytes ≡ rep ++ after → Left (drop (at + 1) bytes) 1 (delta_of i after)
dimension_left bytes at rep after i e = record {
  numbers = i.dimension ∷ [];
  many = refl;
  are = All-cons IsNumber i.dimension [] i.dimension_ends none_there;
  text = sym (drop-drop 1 at bytes)
      ∙ (ap (drop 1) (rest_of bytes at rep after i e) ∙ ap (λ (t : List ℕ). t ++ delta_of i after)
      (sym (append-nil i.dimension)));
}

pub delta_left : (bytes : List ℕ) (delta : ℕ) (rep after : List ℕ) (i : IsRepetition rep)
    → drop delta bytes ≡ delta_of i after → Left (drop delta bytes) 2 after
delta_left bytes delta rep after i e = record {
  numbers = (i.first ∷ i.x) ∷ i.y ∷ [];
  many = refl;
  are = All-cons IsNumber (i.first ∷ i.x) (i.y ∷ []) i.x_ends (All-cons IsNumber i.y [] i.y_ends none_there);
  text = e ∙ simp append_assoc;
}

-- the byte where the delta begins is odd
pub delta_odd : (bytes : List ℕ) (delta : ℕ) (rep after : List ℕ) (i : IsRepetition rep) → drop delta bytes ≡ delta_of i after → get_or bytes delta 0 % 2 ≡ 1
delta_odd bytes delta rep after i e = ap (λ (n : ℕ). n % 2) (byte_is bytes (i.x ++ (i.y ++ after)) delta i.first e) ∙ i.odd

pub delta_some : (bytes : List ℕ) (delta : ℕ) (rep after : List ℕ) (i : IsRepetition rep) → drop delta bytes ≡ delta_of i after → length bytes ≤ delta → ⊥
delta_some bytes delta rep after i e h = omega (arith, ap length e, length-drop delta bytes, h)

-- ---- back

pub record Found (P : ℕ → Type 0) : Type 0 where
  pub value : ℕ
  pub has : P value

pub found : (P : ℕ → Type 0) (o : Option ℕ) → is_some o ≡ true → IfSome o P → Found P
found P None h p = absurd (cc)
found P (Some n) h p = record { value = n; has = p }

record One (ns : List (List ℕ)) : Type 0 where
  number : List ℕ
  is : IsNumber number
  text : (x : List ℕ) → concat ns ++ x ≡ number ++ x

one_of : (ns : List (List ℕ)) → length ns ≡ 1 → All IsNumber ns → One ns
one_of [] m h = absurd (omega arith)
one_of (n ∷ []) m h = record { number = n; is = h 0 n (omega arith); text = λ x. append_assoc n [] x }
one_of (n ∷ p ∷ ns) m h = absurd (omega arith)

record Two (ns : List (List ℕ)) : Type 0 where
  number : List ℕ
  other : List ℕ
  is : IsNumber number
  other_is : IsNumber other
  text : (x : List ℕ) → concat ns ++ x ≡ number ++ (other ++ x)

two_of : (ns : List (List ℕ)) → length ns ≡ 2 → All IsNumber ns → Two ns
two_of [] m h = absurd (omega arith)
two_of (n ∷ []) m h = absurd (omega arith)
two_of (n ∷ p ∷ []) m h = record { number = n; other = p; is = h 0 n (omega arith); other_is = h 1 n (omega arith); text = λ x. simp append_assoc }
two_of (n ∷ p ∷ q ∷ ns) m h = absurd (omega arith)

no_number : IsNumber [] → ⊥
no_number n = none n.0 n.1 n.2
  where
    none : (front : List ℕ) (last : ℕ) → [] ≡ front ++ last ∷ [] → ⊥
    none [] last e = absurd (cc)
    none (b ∷ front) last e = absurd (cc)

-- a repetition that is shown by its numbers
pub record Repeated (bytes : List ℕ) (at : ℕ) : Type 0 where
  pub repetition : List ℕ
  pub after : List ℕ
  pub is : IsRepetition repetition
  pub text : drop at bytes ≡ repetition ++ after

repeated_by : (bytes : List ℕ) (at delta next : ℕ) (dimension x y : List ℕ) → at < length bytes → get_or bytes at 0 ≡ 9
    → IsNumber dimension → IsNumber x → IsNumber y
    → drop (at + 1) bytes ≡ dimension ++ drop delta bytes → drop delta bytes ≡ x ++ (y ++ drop next bytes) → get_or bytes delta 0 % 2 ≡ 1 → Repeated bytes at
repeated_by bytes at delta next dimension [] y h nine d s t e f odd = absurd (no_number s)
repeated_by bytes at delta next dimension (b ∷ x) y h nine d s t e f odd = record {
  repetition = 9 ∷ dimension ++ (b ∷ x) ++ y;
  after = drop next bytes;
  is = record {
    dimension = dimension;
    dimension_ends = d;
    first = b;
    odd = ap (λ (n : ℕ). n % 2) (sym (byte_is bytes (x ++ (y ++ drop next bytes)) delta b f)) ∙ odd;
    x = x;
    x_ends = s;
    y = y;
    y_ends = t;
    text = refl;
  };
  text = drop_more bytes at 0 h
      ∙ (ap (λ (n : ℕ). n ∷ drop (at + 1) bytes) nine
      ∙ (ap (λ (l : List ℕ). 9 ∷ l) (e ∙ ap (λ (l : List ℕ). dimension ++ l) f) ∙ simp append_assoc));
}

pub repeated : (bytes : List ℕ) (at delta next : ℕ) → at < length bytes → get_or bytes at 0 ≡ 9
    → NumbersAt bytes (at + 1) 1 delta → NumbersAt bytes delta 2 next → get_or bytes delta 0 % 2 ≡ 1 → Repeated bytes at
repeated bytes at delta next h nine d s odd =
    let one = one_of d.numbers d.many d.are in
    let two = two_of s.numbers s.many s.are in
    repeated_by bytes at delta next one.number two.number two.other h nine one.is two.is two.other_is
    (d.text ∙ one.text (drop delta bytes)) (s.text ∙ two.text (drop next bytes)) odd

-- ---- a whole record

pub whole_id : (bytes : List ℕ) (at : ℕ) (w : IsWholePackRecord (drop at bytes)) → get_or bytes at 0 ≡ w.id
whole_id bytes at w = byte_is bytes (w.info ∷ concat w.numbers ++ (w.repetition ++ w.after)) at w.id w.text

pub whole_info : (bytes : List ℕ) (at : ℕ) (w : IsWholePackRecord (drop at bytes)) → get_or bytes (at + 1) 0 ≡ w.info
whole_info bytes at w = second_is bytes (concat w.numbers ++ (w.repetition ++ w.after)) at w.id w.info w.text

pub whole_room : (bytes : List ℕ) (at : ℕ) → IsWholePackRecord (drop at bytes) → at + 2 ≤ length bytes
whole_room bytes at w = two_there bytes (concat w.numbers ++ (w.repetition ++ w.after)) at w.id w.info w.text

numbers_are : (bytes : List ℕ) (at : ℕ) (w : IsWholePackRecord (drop at bytes)) → HasWrittenCount (get_or bytes at 0) (get_or bytes (at + 1) 0) (length w.numbers)
numbers_are bytes at w =
    subst (λ (n : ℕ). HasWrittenCount n (get_or bytes (at + 1) 0) (length w.numbers)) (sym (whole_id bytes at w))
    (subst (λ (n : ℕ). HasWrittenCount w.id n (length w.numbers)) (sym (whole_info bytes at w)) w.count)

pub whole_has : (bytes : List ℕ) (at id info : ℕ) (w : IsWholePackRecord (drop at bytes)) → id ≡ get_or bytes at 0
    → info ≡ get_or bytes (at + 1) 0 → HasWrittenCount id info (length w.numbers)
whole_has bytes at id info w e f = rw (e, f) (numbers_are bytes at w)

pub whole_left : (bytes : List ℕ) (at count : ℕ) (w : IsWholePackRecord (drop at bytes)) → length w.numbers ≡ count
    → Left (drop (at + 2) bytes) count (w.repetition ++ w.after)
whole_left bytes at count w m = record {
  numbers = w.numbers;
  many = m;
  are = w.ends;
  text = after_two bytes (concat w.numbers ++ (w.repetition ++ w.after)) at (at + 2) w.id w.info w.text refl;
}

repeats_by : (b : Bool) (rep : List ℕ) → b ≡ true → IsRepetitionIf b rep → IsRepetition rep
repeats_by true rep e h = h
repeats_by false rep e h = absurd (cc)

pub whole_repeats : (bytes : List ℕ) (at info : ℕ) (w : IsWholePackRecord (drop at bytes)) → info ≡ get_or bytes (at + 1) 0
    → has info 4 ≡ true → IsRepetition w.repetition
whole_repeats bytes at info w e h = repeats_by (has w.info 4) w.repetition (ap (λ (n : ℕ). has n 4) (sym (e ∙ whole_info bytes at w)) ∙ h) w.repeats

two_more : (bytes : List ℕ) (at : ℕ) → at + 2 ≤ length bytes → drop at bytes ≡ get_or bytes at 0 ∷ get_or bytes (at + 1) 0 ∷ drop (at + 2) bytes
two_more bytes at h =
    drop_more bytes at 0 (omega (arith, h))
    ∙ ap (λ (t : List ℕ). get_or bytes at 0 ∷ t)
    (drop_more bytes (at + 1) 0 (omega (arith, h)) ∙ ap (λ (n : ℕ). get_or bytes (at + 1) 0 ∷ drop n bytes)
    (omega arith))

-- a record that is shown by its bytes
pub whole_by : (bytes : List ℕ) (at id info count next : ℕ) (rep after : List ℕ) → at + 2 ≤ length bytes
    → id ≡ get_or bytes at 0 → info ≡ get_or bytes (at + 1) 0 → info < 128 → HasWrittenCount id info count
    → NumbersAt bytes (at + 2) count next → IsRepetitionIf (has info 4) rep → drop next bytes ≡ rep ++ after → IsWholePackRecord (drop at bytes)
whole_by bytes at id info count next rep after room e f low h n r text = record {
  id = id;
  info = info;
  low = low;
  numbers = n.numbers;
  count = rw n.many h;
  ends = n.are;
  repetition = rep;
  repeats = r;
  after = after;
  text = two_more bytes at room
      ∙ (ap (λ (k : ℕ). k ∷ get_or bytes (at + 1) 0 ∷ drop (at + 2) bytes) (sym e)
      ∙ (ap (λ (k : ℕ). id ∷ k ∷ drop (at + 2) bytes) (sym f)
      ∙ ap (λ (t : List ℕ). id ∷ info ∷ t) (n.text ∙ ap (λ (t : List ℕ). concat n.numbers ++ t) text)));
}

pub none_repeats : (b : Bool) → b ≡ false → IsRepetitionIf b []
none_repeats true e = absurd (cc)
none_repeats false e = refl

pub same_count : (a b : ℕ) → Some a ≡ Some b → b ≡ a
same_count a b e = cc
