-- A number that ends with no group of zeros is in its one shortest spelling.
use Rattle.std.proofs.Common.{◌≡◌, ◌≢◌, ◌⊎◌, ℕ, zero, suc, ◌+◌, ◌-◌, ◌*◌, ◌/◌, ◌%◌, ◌^◌, ◌<◌, ◌≤◌, List, [], ◌∷◌, ◌++◌}
use Rattle.std.proofs.Common.{length, take, drop, get_or, arith, inl, inr, ap, sym, subst, ◌∙◌}
use Rattle.std.proofs.lemmas.Bool.{cases_lt, cases_eq}
use Rattle.std.proofs.lemmas.List.{drop-drop, length-drop, length-append, take-append-drop, get_or-drop, get_or-take, get_or_append_left, drop_more}
use Rattle.oas_lex.specs.Spelling.{groups, unsigned_text, signed_text}
use Rattle.oas_lex.specs.Numbers.{IsWholeNumber, HasUnsigned, value_of}
use Rattle.oas_lex.specs.ShotText.{id_for, delta_text, text_of}
use Rattle.oas_lex.specs.declared.fields.ShotFields.{ShotFields}
use Rattle.oas_lex.proofs.ForCallers.{groups_last, groups_next, whole_some, text_opens}
use Rattle.shot_reader.specs.Spelled.{IsShort}

-- ---- groups

-- each is a byte
abbrev pub AreBytes : List ℕ → Type 0
AreBytes xs = (i : ℕ) → get_or xs i 0 < 256

-- the last isn't 0
abbrev pub EndsSome : List ℕ → Type 0
EndsSome xs = (k : ℕ) → suc k ≡ length xs → get_or xs k 0 ≢ 0

-- what a number of so many groups more than one is below
abbrev pub below : ℕ → ℕ
below zero = 128
below (suc more) = 128 * below more

ends_rest : (x : ℕ) (rest : List ℕ) → EndsSome (x ∷ rest) → EndsSome rest
ends_rest x rest e = λ k h. e (suc k) (ap suc h)

some_value : (xs : List ℕ) → IsWholeNumber xs → EndsSome xs → 1 ≤ value_of xs
some_value [] w e = absurd w
some_value (x ∷ rest) (inl a) e =
    elim (cases_eq x 0) [
      | inl none ↦ absurd (e 0 (omega (arith, ap length a.1)) none)
      | inr some ↦ elim (cases_lt 0 x) [
        | inl more ↦ omega (arith, more, a.0)
        | inr less ↦ absurd (some (omega (arith, less)))
      ]
    ]
some_value (x ∷ rest) (inr a) e = omega (arith, some_value rest a.1 (ends_rest x rest e))

none_whole : (ys : List ℕ) → IsWholeNumber ys → length ys ≡ 0 → ⊥
none_whole [] w h = w
none_whole (y ∷ ys) w h = absurd (omega (arith, h))

pub spelled_groups : (more : ℕ) (xs : List ℕ) (n : ℕ) → AreBytes xs → IsWholeNumber xs → value_of xs ≡ n → n < below more
    → EndsSome xs ⊎ (length xs ≡ 1) → xs ≡ groups more n
spelled_groups more [] n b w v l e = absurd w
spelled_groups more (x ∷ rest) n b (inl a) v l e =
    let none : value_of rest ≡ 0 = ap value_of a.1 in
    let whole : x % 128 + 128 * value_of rest ≡ n = v in
    let same : x ≡ n = omega (arith, none, whole, a.0) in
    ap (λ (t : List ℕ). x ∷ t) a.1 ∙ (sym (groups_last more x a.0) ∙ ap (groups more) same)
spelled_groups more (x ∷ rest) n b (inr a) v l (inr one) = absurd (none_whole rest a.1 (omega (arith, one)))
spelled_groups zero (x ∷ rest) n b (inr a) v l (inl e) =
    let whole : x % 128 + 128 * value_of rest ≡ n = v in
    absurd (omega (arith, whole, l, some_value rest a.1 (ends_rest x rest e)))
spelled_groups (suc more) (x ∷ rest) n b (inr a) v l (inl e) =
    let whole : x % 128 + 128 * value_of rest ≡ n = v in
    let some = some_value rest a.1 (ends_rest x rest e) in
    let small : x < 256 = b 0 in
    let first : x ≡ n % 128 + 128 = omega (arith, whole, a.0, small) in
    let others : rest ≡ groups more (n / 128) = spelled_groups more rest (n / 128) (λ i. b (suc i)) a.1
    (omega (arith, whole)) (omega (arith, l)) (inl (ends_rest x rest e)) in
    ap (λ (y : ℕ). y ∷ rest) first ∙ (ap (λ (t : List ℕ). (n % 128 + 128) ∷ t) others ∙ sym (groups_next more n (omega (arith, whole, some))))

some_groups : (more n : ℕ) → 1 ≤ length (groups more n)
some_groups zero n = omega arith
some_groups (suc more) n =
    elim (cases_lt n 128) [
      | inl small ↦ omega (arith, ap length (groups_last (suc more) n small))
      | inr large ↦ omega (arith, ap length (groups_next more n large))
    ]

end_by : (xs ys : List ℕ) → xs ≡ ys → EndsSome ys → EndsSome xs
end_by xs ys e h = λ k g w. h k (g ∙ ap length e) (ap (λ (t : List ℕ). get_or t k 0) (sym e) ∙ w)

one_end : (n : ℕ) → 1 ≤ n → EndsSome (n ∷ [])
one_end n h zero g w = omega (arith, h, w)
one_end n h (suc k) g w = absurd (omega (arith, g))

more_end : (x : ℕ) (xs : List ℕ) → 1 ≤ length xs → EndsSome xs → EndsSome (x ∷ xs)
more_end x xs h e zero g w = absurd (omega (arith, h, g))
more_end x xs h e (suc k) g w = e k (omega (arith, g)) w

-- the last group of a number is some
pub groups_end : (more n : ℕ) → 1 ≤ n → n < below more → EndsSome (groups more n)
groups_end zero n h l = one_end n h
groups_end (suc more) n h l =
    elim (cases_lt n 128) [
      | inl small ↦ end_by (groups (suc more) n) (n ∷ []) (groups_last (suc more) n small) (one_end n h)
      | inr large ↦ end_by (groups (suc more) n) ((n % 128 + 128) ∷ groups more (n / 128)) (groups_next more n large)
          (more_end (n % 128 + 128) (groups more (n / 128)) (some_groups more (n / 128)) (groups_end more (n / 128) (omega (arith, large)) (omega (arith, l))))
    ]

-- ---- among bytes

bytes_take : (n : ℕ) (xs : List ℕ) → AreBytes xs → AreBytes (take n xs)
bytes_take zero xs b i = omega arith
bytes_take (suc n) [] b i = omega arith
bytes_take (suc n) (x ∷ xs) b zero = b 0
bytes_take (suc n) (x ∷ xs) b (suc i) = bytes_take n xs (λ j. b (suc j)) i

bytes_drop : (n : ℕ) (xs : List ℕ) → AreBytes xs → AreBytes (drop n xs)
bytes_drop n xs b i = omega (arith, get_or-drop n xs i 0, b (n + i))

pub has_after : (bytes : List ℕ) (at n next : ℕ) → HasUnsigned bytes at n next → at < next
has_after bytes at n next h = omega (arith, whole_some (drop at bytes) (next - at) h.spells.whole)

size_is : (bytes : List ℕ) (at n next : ℕ) → HasUnsigned bytes at n next → length (take (next - at) (drop at bytes)) ≡ next - at
size_is bytes at n next h =
    omega (
      arith,
      has_after bytes at n next h,
      h.within,
      length-drop at bytes,
      ap length
          (take-append-drop (next - at) (drop at bytes)),
      length-append (take (next - at) (drop at bytes))
          (drop (next - at) (drop at bytes)),
      length-drop (next - at) (drop at bytes),
    )

ends_by : (bytes : List ℕ) (at n next : ℕ) → HasUnsigned bytes at n next → IsShort bytes at next
    → EndsSome (take (next - at) (drop at bytes)) ⊎ (length (take (next - at) (drop at bytes)) ≡ 1)
ends_by bytes at n next h (inl one) = inr (omega (arith, size_is bytes at n next h, one))
ends_by bytes at n next h (inr some) =
    let size = size_is bytes at n next h in
    let after = has_after bytes at n next h in
    inl (λ k g w.
    let place : at + k ≡ next - 1 = omega (arith, size, after, g) in
    some (ap (λ (i : ℕ). get_or bytes i 0)
    (sym place) ∙ (sym (get_or-drop at bytes k 0)
    ∙ (sym (get_or-take (next - at) (drop at bytes) k 0 (omega (arith, size, g))) ∙ w))))

-- the number is spelled there
pub short_spelled : (bytes : List ℕ) (at n next : ℕ) → AreBytes bytes → HasUnsigned bytes at n next
    → IsShort bytes at next → drop at bytes ≡ unsigned_text n ++ drop next bytes
unfolding unsigned_text
short_spelled bytes at n next b h s =
    let after = has_after bytes at n next h in
    let text : take (next - at) (drop at bytes) ≡ groups 9 n =
    spelled_groups 9 (take (next - at) (drop at bytes)) n
    (bytes_take (next - at) (drop at bytes) (bytes_drop at bytes b)) h.spells.whole h.spells.value
    (omega (arith, h.narrow)) (ends_by bytes at n next h s) in
    let place : at + (next - at) ≡ next = omega (arith, after) in
    sym (take-append-drop (next - at) (drop at bytes))
    ∙ (ap (λ (t : List ℕ). t ++ drop (next - at) (drop at bytes)) text
    ∙ ap (λ (t : List ℕ). groups 9 n ++ t) (drop-drop (next - at) at bytes ∙ ap (λ (i : ℕ). drop i bytes) place))

-- a number that is spelled is short
pub spelled_short : (bytes after : List ℕ) (at n : ℕ) → n < 2 ^ 63 → drop at bytes ≡ unsigned_text n ++ after → IsShort bytes at (at + length (unsigned_text n))
unfolding unsigned_text
spelled_short bytes after at n h e =
    elim (cases_lt n 128) [
      | inl small ↦ inl (omega (arith, ap length (groups_last 9 n small)))
      | inr large ↦
          let some = some_groups 9 n in
          let k : ℕ = length (groups 9 n) - 1 in
          let place : at + length (groups 9 n) - 1 ≡ at + (length (groups 9 n) - 1) = omega (arith, some) in
          inr (λ w. groups_end 9 n (omega (arith, large)) (omega (arith, h)) (length (groups 9 n) - 1) (omega (arith, some))
          (sym (get_or_append_left (groups 9 n) after 0 (length (groups 9 n) - 1) (omega (arith, some)))
          ∙ (ap (λ (t : List ℕ). get_or t (length (groups 9 n) - 1) 0)
          (sym e) ∙ (get_or-drop at bytes (length (groups 9 n) - 1) 0
          ∙ (ap (λ (i : ℕ). get_or bytes i 0) (sym place) ∙ w)))))
    ]

pub short_by : (bytes : List ℕ) (at m next : ℕ) → m ≡ next → IsShort bytes at m → IsShort bytes at next
short_by bytes at m next e s = subst (λ (i : ℕ). IsShort bytes at i) e s

-- ---- signed numbers

-- ---- a record

plus_two : (at : ℕ) → at + 1 + 1 ≡ at + 2
plus_two at = omega arith

-- the id and the info byte, and what follows them
pub opens_by : (bytes : List ℕ) (at start id info : ℕ) → get_or bytes at 0 ≡ id → start ≡ at + 2
    → get_or bytes (at + 1) 0 ≡ info → start ≤ length bytes → drop at bytes ≡ id ∷ info ∷ drop start bytes
opens_by bytes at start id info e s i h =
    drop_more bytes at 0 (omega (arith, s, h))
    ∙ (ap (λ (x : ℕ). x ∷ drop (at + 1) bytes) e
    ∙ ap (λ (t : List ℕ). id ∷ t) (drop_more bytes (at + 1) 0 (omega (arith, s, h))
    ∙ (ap (λ (x : ℕ). x ∷ drop (at + 1 + 1) bytes) i ∙ ap (λ (n : ℕ). info ∷ drop n bytes) (plus_two at ∙ sym s))))

pub spelled_record : (f : ShotFields) (bytes : List ℕ) (at start a b w h l r x y : ℕ)
    → get_or bytes at 0 ≡ id_for f.left_delta f.right_delta → start ≡ at + 2 → get_or bytes (at + 1) 0 ≡ 123
    → start ≤ length bytes
    → drop start bytes ≡ unsigned_text f.layer ++ drop a bytes → drop a bytes ≡ unsigned_text f.datatype ++ drop b bytes
    → drop b bytes ≡ unsigned_text f.width ++ drop w bytes → drop w bytes ≡ unsigned_text f.height ++ drop h bytes
    → drop h bytes ≡ delta_text f.left_delta ++ drop l bytes → drop l bytes ≡ delta_text f.right_delta ++ drop r bytes
    → drop r bytes ≡ signed_text f.x ++ drop x bytes → drop x bytes ≡ signed_text f.y ++ drop y bytes
    → drop at bytes ≡ text_of f ++ drop y bytes
spelled_record f bytes at start a b w h l r x y id s i within ea eb ew eh el er ex ey =
    opens_by bytes at start (id_for f.left_delta f.right_delta) 123 id s i within
    ∙ (ap (λ (t : List ℕ). id_for f.left_delta f.right_delta ∷ 123 ∷ t)
    (ea ∙ ap (λ (t : List ℕ). unsigned_text f.layer ++ t)
    (eb ∙ ap (λ (t : List ℕ). unsigned_text f.datatype ++ t)
    (ew ∙ ap (λ (t : List ℕ). unsigned_text f.width ++ t)
    (eh ∙ ap (λ (t : List ℕ). unsigned_text f.height ++ t)
    (el ∙ ap (λ (t : List ℕ). delta_text f.left_delta ++ t)
    (er ∙ ap (λ (t : List ℕ). delta_text f.right_delta ++ t)
    (ex ∙ ap (λ (t : List ℕ). signed_text f.x ++ t) ey)))))))
    ∙ sym (text_opens f (drop y bytes)))
