-- What the spellings of integers keep: they are shortest, none begins another, and each is read back with its end.
use Rattle.std.specs.Prelude.{ℕ, ◌+◌, ◌^◌, ◌<◌, ◌≤◌, ◌≡◌, ℤ, List, ◌++◌, length, unsigned_abs}
use Rattle.oas_lex.specs.Spelling.{unsigned_text, signed_text}
use Rattle.oas_lex.specs.Numbers.{IsWholeNumber, IsShortest, IsSigned, HasUnsigned, HasSigned}

-- The text of an unsigned number spells it, and no spelling is shorter.
abbrev pub UnsignedIsShortest : Type 0
UnsignedIsShortest = (n : ℕ) → n < 2 ^ 63 → IsShortest (unsigned_text n) n

-- The text of a signed number spells it,
abbrev pub SignedSpells : Type 0
SignedSpells = (z : ℤ) → unsigned_abs z < 2 ^ 62 → IsSigned (signed_text z) z

-- and no spelling is shorter.
abbrev pub SignedIsShortest : Type 0
SignedIsShortest = (z : ℤ) (other : List ℕ) → unsigned_abs z < 2 ^ 62 → IsSigned other z → length (signed_text z) ≤ length other

-- No spelling of a number begins another, whatever follows the two.
abbrev pub NoneBegins : Type 0
NoneBegins = (a b x y : List ℕ) → IsWholeNumber a → IsWholeNumber b → a ++ x ≡ b ++ y → (a ≡ b) × (x ≡ y)

-- What stands before and after the text of a number doesn't change that it stands there, and where it ends;
abbrev pub UnsignedReadsBack : Type 0
UnsignedReadsBack = (n : ℕ) (before after : List ℕ) → n < 2 ^ 63 →
    HasUnsigned (before ++ (unsigned_text n ++ after)) (length before) n (length before + length (unsigned_text n))

abbrev pub SignedReadsBack : Type 0
SignedReadsBack = (z : ℤ) (before after : List ℕ) → unsigned_abs z < 2 ^ 62 →
    HasSigned (before ++ (signed_text z ++ after)) (length before) z (length before + length (signed_text z))

-- and one number at most stands at a place.
abbrev pub OneUnsigned : Type 0
OneUnsigned = (bytes : List ℕ) (at n next m last : ℕ) → HasUnsigned bytes at n next → HasUnsigned bytes at m last → (n ≡ m) × (next ≡ last)

abbrev pub OneSigned : Type 0
OneSigned = (bytes : List ℕ) (at : ℕ) (y : ℤ) (next : ℕ) (z : ℤ) (last : ℕ) → HasSigned bytes at y next → HasSigned bytes at z last → (y ≡ z) × (next ≡ last)
