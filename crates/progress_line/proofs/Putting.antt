-- Texts that are put at the end of a line, one after another.
use Rattle.std.proofs.Common.{◌≡◌, ℕ, zero, suc, ◌+◌, ◌-◌, ◌<◌, ◌≤◌, List, [], ◌∷◌, ◌++◌, length, take, map, drop}
use Rattle.std.proofs.Common.{codes, decimal, Bool, true, false, IsTrue, nat_le, nat_lt, if◌then◌else◌, slice_set, get_or, refl, sym, ap}
use Rattle.std.proofs.Common.{◌∙◌, append_assoc, arith}
use Rattle.std.proofs.lemmas.Bool.Decides.{nat_tests}
use Rattle.std.proofs.lemmas.List.{map-append, take_all, take-append-le, take_more, take_more_set, length-append, length-drop, length-take-le, append-nil}
use Rattle.progress_line.specs.Text.{shown, put, short_name, some_shots}

-- what is cut off can't be seen of what is put after it
take_again : (n : ℕ) (a b : List ℕ) → take n (take n a ++ b) ≡ take n (a ++ b)
take_again zero a b = refl
take_again (suc n) [] b = refl
take_again (suc n) (x ∷ a) b = ap (λ l. x ∷ l) (take_again n a b)

-- two texts that are put one after another are put as one
pub put_twice : (line a b : List ℕ) → put (put line a) b ≡ put line (a ++ b)
unfolding put
put_twice line a b =
    take_again 120 (line ++ map shown a) (map shown b)
    ∙ ap (take 120) (append_assoc line (map shown a) (map shown b) ∙ ap (λ l. line ++ l) (sym (map-append shown a b)))

-- to put nothing changes nothing
pub put_nothing : (line : List ℕ) → length line ≤ 120 → line ≡ put line []
unfolding put
put_nothing line short = sym (ap (take 120) (append-nil line) ∙ take_all 120 line short)

-- a character that is stored at the end of a line is put
pub put_more : (bytes : List ℕ) (used b stored : ℕ) → stored ≡ shown b → length bytes ≡ 120 → used < 120
    → take (used + 1) (slice_set bytes used stored) ≡ put (take used bytes) (b ∷ [])
unfolding put
put_more bytes used b stored is size room =
    take_more_set bytes used stored (omega arith)
    ∙ ap (λ s. take used bytes ++ s ∷ []) is
    ∙ sym (take_all 120 (take used bytes ++ shown b ∷ []) (short (length-append (take used bytes) (shown b ∷ [])) (length-take-le used bytes (omega arith))))
  where
    short : {n m : ℕ} → n ≡ m + 1 → m ≡ used → n ≤ 120
    short e f = omega arith

-- a full line takes nothing more
pub put_full : (line : List ℕ) (b : ℕ) → length line ≡ 120 → line ≡ put line (b ∷ [])
unfolding put
put_full line b full = sym (take-append-le 120 line (shown b ∷ []) (omega arith) ∙ take_all 120 line (omega arith))

-- how long a line is of which so many characters are used
pub used_length : (bytes line : List ℕ) (used : ℕ) → take used bytes ≡ line → length bytes ≡ 120 → used ≤ 120 → length line ≡ used
used_length bytes line used is size within = ap length (sym is) ∙ length-take-le used bytes (omega arith)

-- one more character of a text is put
pub put_next : (line now later text : List ℕ) (i : ℕ) → now ≡ put line (take i text) → i < length text
    → later ≡ put now (get_or text i 0 ∷ []) → later ≡ put line (take (i + 1) text)
put_next line now later text i e within f =
    f ∙ ap (λ l. put l (get_or text i 0 ∷ [])) e ∙ put_twice line (take i text) (get_or text i 0 ∷ []) ∙ ap (put line) (sym (take_more text i 0 within))

-- what was put, by another name of the text
pub put_as : (line later text meant : List ℕ) → later ≡ put line text → text ≡ meant → later ≡ put line meant
put_as line later text meant e is = e ∙ ap (put line) is

-- two texts, one after another
pub put_two : (l₀ l₁ l₂ a b : List ℕ) → l₁ ≡ put l₀ a → l₂ ≡ put l₁ b → l₂ ≡ put l₀ (a ++ b)
put_two l₀ l₁ l₂ a b e f = f ∙ ap (λ l. put l b) e ∙ put_twice l₀ a b

-- three texts
pub put_three : (l₀ l₁ l₂ l₃ a b c : List ℕ) → l₁ ≡ put l₀ a → l₂ ≡ put l₁ b → l₃ ≡ put l₂ c → l₃ ≡ put l₀ (a ++ b ++ c)
put_three l₀ l₁ l₂ l₃ a b c e f g = put_two l₀ l₂ l₃ (a ++ b) c (put_two l₀ l₁ l₂ a b e f) g

-- the first text of a line
pub put_first : (line later text meant : List ℕ) → line ≡ [] → later ≡ put line text → text ≡ meant → later ≡ put [] meant
put_first line later text meant none e is = e ∙ ap (λ l. put l text) none ∙ ap (put []) is

-- some shots are told
pub some_shots_is : (n : ℕ) → (n ≡ 0 → ⊥) → decimal n ++ codes " shots, " ≡ some_shots n
some_shots_is n some = picked (nat_lt 0 n) (not_none n some) _
  where
    not_none : (n : ℕ) → (n ≡ 0 → ⊥) → nat_lt 0 n ≡ false → ⊥
    not_none zero some none = some refl
    not_none (suc n) some none = grind (arith, nat_tests)

    picked : (b : Bool) → (b ≡ false → ⊥) → (x : List ℕ) → x ≡ (if b then x else [])
    picked true never x = refl
    picked false never x = absurd (never refl)

-- the last bytes of a long name
pub long_name : (name : List ℕ) → 24 < length name → codes ".." ++ take (length name - (length name - 22)) (drop (length name - 22) name) ≡ short_name name
long_name name long =
    chosen (nat_le (length name) 24) (λ t. not_within (length name) t long) name _ _
    (ap (λ l. codes ".." ++ l) (take_all (length name - (length name - 22)) (drop (length name - 22) name) (rest (length-drop (length name - 22) name))))
  where
    rest : {n : ℕ} → n ≡ length name - (length name - 22) → n ≤ length name - (length name - 22)
    rest e = omega arith

    not_within : (n : ℕ) → IsTrue (nat_le n 24) → 24 < n → ⊥
    not_within n t lt = grind (arith, nat_tests)

    chosen : (b : Bool) → (IsTrue b → ⊥) → (x y z : List ℕ) → y ≡ z → y ≡ (if b then x else z)
    chosen true never x y z e = absurd (never refl)
    chosen false never x y z e = e
