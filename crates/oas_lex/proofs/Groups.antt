-- The groups of a number: what they spell, and how many there are.
use Rattle.std.proofs.Common.{◌≡◌, ℕ, zero, suc, ◌+◌, ◌*◌, ◌/◌, ◌%◌, ◌^◌, ◌<◌, ◌≤◌, List, [], ◌∷◌, length, refl, arith, inl, inr, ap}
use Rattle.std.proofs.lemmas.Bool.{cases_lt}
use Rattle.std.proofs.lemmas.Bool.Decides.{nat_tests}
use Rattle.oas_lex.specs.Spelling.{groups, unsigned_text}
use Rattle.oas_lex.specs.Numbers.{IsUnsigned, IsShortest, value_of}

-- what a number of so many groups more than one is below
abbrev pub limit : ℕ → ℕ
limit zero = 128
limit (suc more) = 128 * limit more

-- a number below 128 is its one group
pub groups_last : (more n : ℕ) → n < 128 → groups more n ≡ n ∷ []
groups_last zero n h = refl
groups_last (suc more) n h = grind (arith, nat_tests)

-- any other has a group before the groups of the rest
pub groups_next : (more n : ℕ) → 128 ≤ n → groups (suc more) n ≡ (n % 128 + 128) ∷ groups more (n / 128)
groups_next more n h = grind (arith, nat_tests)

-- the groups of a number are enough
pub unsigned_groups : (more n : ℕ) → n < limit more → IsUnsigned (groups more n) n
unsigned_groups zero n h = record { whole = inl (h, refl); value = omega arith }
unsigned_groups (suc more) n h =
    elim (cases_lt n 128) [
      | inl small ↦ rw groups_last (record { whole = inl (small, refl); value = omega arith })
      | inr large ↦
          let lower : n / 128 < limit more = omega arith in
          let rest : IsUnsigned (groups more (n / 128)) (n / 128) = unsigned_groups more (n / 128) lower in
          rw groups_next (record { whole = inr (omega arith, rest.whole); value = omega (arith, rest.value) })
    ]

-- and no spelling of it is shorter
pub least_groups : (more n : ℕ) (other : List ℕ) → IsUnsigned other n → length (groups more n) ≤ length other
least_groups more n [] h = absurd h.whole
least_groups zero n (b ∷ other) h = omega arith
least_groups (suc more) n (b ∷ other) h =
    elim (cases_lt n 128) [
      | inl small ↦ rw groups_last (omega arith)
      | inr large ↦ elim h.whole [
        | inl last ↦ let value : value_of (b ∷ other) ≡ n = h.value in
            let nothing : value_of other ≡ 0 = ap value_of last.1 in
            absurd (omega arith)
        | inr next ↦
            let value : b % 128 + 128 * value_of other ≡ n = h.value in
            let rest : IsUnsigned other (n / 128) = record { whole = next.1; value = omega arith } in
            rw groups_next (omega (arith, least_groups more (n / 128) other rest))
      ]
    ]

-- a number below the limit has at most so many groups more than one
pub few_groups : (more n : ℕ) → n < limit more → length (groups (suc more) n) ≤ suc more
few_groups zero n h = rw groups_last (omega arith)
few_groups (suc more) n h =
    elim (cases_lt n 128) [
      | inl small ↦ rw groups_last (omega arith)
      | inr large ↦
          let lower : n / 128 < limit more = omega arith in
          rw groups_next (omega (arith, few_groups more (n / 128) lower))
    ]

-- a number of at most 63 bits has at most nine groups
pub length_unsigned : (n : ℕ) → n < 2 ^ 63 → length (unsigned_text n) ≤ 9
unfolding unsigned_text
length_unsigned n h = few_groups 8 n h

pub unsigned_spells : (n : ℕ) → n < 2 ^ 63 → IsUnsigned (unsigned_text n) n
unfolding unsigned_text
unsigned_spells n h = unsigned_groups 9 n (omega arith)

pub unsigned_least : (n : ℕ) → n < 2 ^ 63 → IsShortest (unsigned_text n) n
unfolding unsigned_text
unsigned_least n h = record { spells = unsigned_groups 9 n (omega arith); least = least_groups 9 n }
