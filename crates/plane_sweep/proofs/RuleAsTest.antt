-- Each rule is a test of windings.
use Rattle.std.proofs.Common.{ℤ, pos, neg_ℤ, ◌^◌, ◌≤◌, ◌≡◌, ◌⊎◌, inl, inr, Bool, true, false, List, length, arith, refl, sym, subst}
use Rattle.std.specs.Prelude.{◌↔◌}
use Rattle.std.proofs.lemmas.Int.{ints, by_lt_z}
use Rattle.half_grid.specs.Edges.{EdgeParts, edges_winding}
use Rattle.half_grid.specs.declared.border.Operand.{Operand}
use Rattle.half_grid.specs.declared.border.Operand.TheVariants.{A, B}
use Rattle.scan_line.specs.Rules.{IsRule, IsWinding, Takes}
use Rattle.active_lines.specs.declared.item.Windings.{Windings}
use Rattle.row_lists.specs.RowLists.{no_windings}
use Rattle.row_lists.specs.RowRuns.{windings_of, IsTestIn}
use Rattle.plane_sweep.specs.RuleTests.{IsTest}
use Rattle.plane_sweep.proofs.Small.{winding_small}

-- a number is a winding or isn't
is_winding : (w : ℤ) → IsWinding w ⊎ (IsWinding w → ⊥)
is_winding w =
    by_lt_z (pos (2 ^ 64)) w (λ lt. inr (λ h. (let high = h.high in absurd (omega (arith, ints, lt, high)))))
    (λ le. by_lt_z w (neg_ℤ (pos (2 ^ 64))) (λ lt. inr (λ h. (let low = h.low in absurd (omega (arith, ints, lt, low)))))
    (λ ge. inl (record { low = ge; high = le })))

module _ (pre : ℤ → ℤ → Type 0) (post : ℤ → ℤ → Bool → Type 0) (rule : IsRule pre post) where
  answer : (w : Windings) → IsWinding w.a ⊎ (IsWinding w.a → ⊥) → IsWinding w.b ⊎ (IsWinding w.b → ⊥) → Bool
  answer w (inl a) (inl b) = (rule.one_answer w.a w.b a b).0
  answer w (inl a) (inr b) = false
  answer w (inr a) b = false

  answer_is : (w : Windings) (a : IsWinding w.a ⊎ (IsWinding w.a → ⊥)) (b : IsWinding w.b ⊎ (IsWinding w.b → ⊥)) → IsWinding w.a → IsWinding w.b
      → Takes post w.a w.b ↔ (answer w a b ≡ true)
  unfolding answer
  answer_is w (inl a) (inl b) h k =
      let due = rule.one_answer w.a w.b a b in
      (λ t. sym (due.1.only true t), λ e. subst (post w.a w.b) e due.1.allowed)
  answer_is w (inl a) (inr b) h k = absurd (b k)
  answer_is w (inr a) b h k = absurd (a h)

  pub rule_test : (takes : Windings → Bool) × IsTest post takes
  rule_test = (λ w. answer w (is_winding w.a) (is_winding w.b), λ w a b. answer_is w (is_winding w.a) (is_winding w.b) a b)

  -- it takes no tile that no edge winds round
  pub test_nothing : (takes : Windings → Bool) → IsTest post takes → takes no_windings ≡ false
  test_nothing takes is = by (takes no_windings) refl
    where
      zero : IsWinding (pos 0)
      zero = record { low = omega (arith, ints); high = omega (arith, ints) }

      by : (b : Bool) → takes no_windings ≡ b → takes no_windings ≡ false
      by true e = absurd (let same = rule.leaves_nothing.only true ((is no_windings zero zero).1 e) in let clash : ⊥ = cc in clash)
      by false e = e

pub test_in : (post : ℤ → ℤ → Bool → Type 0) (takes : Windings → Bool) (edges : List EdgeParts) (j : ℤ) → IsTest post takes → length edges ≤ 2 ^ 64
    → IsTestIn post edges j takes
test_in post takes edges j is short t e = is (windings_of edges t) (within A) (within B)
  where
    within : (o : Operand) → IsWinding (edges_winding o edges t)
    within o =
        let small = winding_small o edges t in
        let low = small.0 in
        let high = small.1 in
        record { low = omega (arith, ints, low, short); high = omega (arith, ints, high, short) }
