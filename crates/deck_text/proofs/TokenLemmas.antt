-- Tokens are text, and cells are names.
use Rattle.std.proofs.Common.{◌≡◌, ℕ, zero, suc, inl, inr, ◌<◌, ◌≤◌, true, ◌&&◌, leb, List, [], ◌∷◌, length, get_or, arith}
use Rattle.std.specs.List.{list_all}
use Rattle.std.specs.Str.{IsAscii, IsUtf8}
use Rattle.std.specs.Char.{is_ascii_graphic}
use Rattle.std.proofs.lemmas.Str.{IsUtf8-from_ascii}
use Rattle.std.proofs.lemmas.Bool.{cases_lt, false≢true}
use Rattle.std.proofs.lemmas.Bool.Decides.{nat_tests}
use Rattle.std.proofs.lemmas.List.{get_or_past}
use Rattle.std.proofs.lemmas.List.Sums.{AllPass-from_list_all}
use Rattle.layout_model.specs.Names.{IsName as IsCellName}
use Rattle.deck_text.specs.Kinds.{is_letter, is_word, is_name, is_token}
use Rattle.deck_text.proofs.Digits.{both}

pub graphic_is : (b : ℕ) → is_ascii_graphic b ≡ true → (33 ≤ b) × (b ≤ 126)
graphic_is b h = (grind (arith, nat_tests), grind (arith, nat_tests))

word_small : (b : ℕ) → is_word b ≡ true → b < 128
word_small b h = grind (arith, nat_tests)

letter_small : (b : ℕ) → is_letter b ≡ true → b < 128
letter_small b h = grind (arith, nat_tests)

-- bytes below 128, one by one
is_ascii : (t : List ℕ) → ((i : ℕ) → i < length t → get_or t i 0 < 128) → IsAscii t
is_ascii t h i = elim (cases_lt i (length t)) [
  | inl lt ↦ h i lt
  | inr le ↦ rw (get_or_past t i 0 le) (omega arith)
]

-- what is_token tells
pub record HasToken (most : ℕ) (t : List ℕ) : Type 0 where
  pub some : 1 ≤ length t
  pub short : length t ≤ most
  pub visible : list_all is_ascii_graphic t ≡ true

pub token_tells : (most : ℕ) (t : List ℕ) → is_token most t ≡ true → HasToken most t
unfolding is_token
token_tells most t e =
    let a = both (leb 1 (length t)) (leb (length t) most && list_all is_ascii_graphic t) e in
    let b = both (leb (length t) most) (list_all is_ascii_graphic t) a.1 in
    record { some = grind (arith, nat_tests, a.0); short = grind (arith, nat_tests, b.0); visible = b.1 }

visible_at : (t : List ℕ) → list_all is_ascii_graphic t ≡ true → (i : ℕ) → i < length t → (33 ≤ get_or t i 0) × (get_or t i 0 ≤ 126)
visible_at t e i lt = graphic_is (get_or t i 0) (AllPass-from_list_all is_ascii_graphic t e i 0 lt)

pub token_text : (most : ℕ) (t : List ℕ) → is_token most t ≡ true → IsUtf8 t
token_text most t e =
    let h = token_tells most t e in
    IsUtf8-from_ascii t (is_ascii t (λ i lt. omega (arith, (visible_at t h.visible i lt).1)))

pub token_cell : (t : List ℕ) → is_token 1024 t ≡ true → IsCellName t
token_cell t e =
    let h = token_tells 1024 t e in
    record {
      nonempty = h.some;
      short = h.short;
      printable = λ i lt. (omega (arith, (visible_at t h.visible i lt).0), (visible_at t h.visible i lt).1);
    }

name_at : (b : ℕ) (bytes : List ℕ) → is_letter b ≡ true → list_all is_word bytes ≡ true → (i : ℕ) → i < length (b ∷ bytes) → get_or (b ∷ bytes) i 0 < 128
name_at b bytes first all zero lt = letter_small b first
name_at b bytes first all (suc i) lt = word_small (get_or bytes i 0) (AllPass-from_list_all is_word bytes all i 0 (omega arith))

pub name_text : (t : List ℕ) → is_name t ≡ true → IsUtf8 t
unfolding is_name
name_text [] e = absurd (false≢true e)
name_text (b ∷ bytes) e =
    let a = both (is_letter b) (leb (length bytes) 31 && list_all is_word bytes) e in
    let c = both (leb (length bytes) 31) (list_all is_word bytes) a.1 in
    IsUtf8-from_ascii (b ∷ bytes) (is_ascii (b ∷ bytes) (name_at b bytes a.0 c.1))
