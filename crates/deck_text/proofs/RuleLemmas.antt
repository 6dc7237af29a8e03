-- The first rule that a statement breaks.
use Rattle.std.proofs.Common.{◌≡◌, ℕ, Bool, true, false, List, Option, Some, None, refl, sym, ap, ◌∙◌}
use Rattle.std.specs.Prelude.{ℤ, option_map}
use Rattle.geo_stream.specs.Refusals.{IsForFault}
use Rattle.geo_stream.specs.declared.refusal.Refusal.{Refusal}
use Rattle.geo_stream.specs.declared.refusal.Refusal.TheVariants as refusals
use Rattle.deck_text.specs.Statements.{Statement, Said}
use Rattle.deck_text.specs.Rules.{is_misplaced, repeated_line, unknown_operand, lacks_frame, out_of_range, has_odd_sum}
use Rattle.deck_text.specs.Rules.{takes_name, is_too_many, when, or_else, broken_rule}
use Rattle.deck_text.specs.declared.refusal.DeckBad.{DeckBad}
use Rattle.deck_text.specs.declared.refusal.DeckBad.TheVariants as faults

-- the rules in their order, by what each says
unfoldable pub rules_of : ℕ → Bool → Option ℕ → Option (List ℕ) → Bool → Option ℤ → Bool → Bool → Bool → Option DeckBad
rules_of n order twice unknown no_frame range odd names many =
    or_else (when order (faults.Order n))
    (or_else (option_map (λ m. faults.Twice n m) twice)
    (or_else (option_map (λ name. faults.Unknown n name) unknown)
    (or_else (when no_frame (faults.NoFrame n))
    (or_else (option_map (λ value. faults.Range n value) range)
    (or_else (when odd (faults.Odd n))
    (or_else (when names (faults.Names n))
    (when many (faults.Many n))))))))

pub by_rules : (layout deck : List ℕ) (before : List Said) (n : ℕ) (s : Statement)
    → broken_rule layout deck before n s ≡ rules_of n (is_misplaced before s) (repeated_line before s)
    (unknown_operand before s) (lacks_frame before s) (out_of_range s) (has_odd_sum s)
    (takes_name layout deck before s) (is_too_many before s)
unfolding broken_rule rules_of
by_rules layout deck before n s = refl

-- ---- each rule, where those before it are kept

pub breaks_order : (n : ℕ) (t : Option ℕ) (u : Option (List ℕ)) (f : Bool) (r : Option ℤ) (o m k : Bool) → rules_of n true t u f r o m k ≡ Some (faults.Order n)
unfolding rules_of
breaks_order n t u f r o m k = refl

pub breaks_twice : (n e : ℕ) (u : Option (List ℕ)) (f : Bool) (r : Option ℤ) (o m k : Bool) → rules_of n false (Some e) u f r o m k ≡ Some (faults.Twice n e)
unfolding rules_of
breaks_twice n e u f r o m k = refl

pub breaks_unknown : (n : ℕ) (name : List ℕ) (f : Bool) (r : Option ℤ) (o m k : Bool)
    → rules_of n false None (Some name) f r o m k ≡ Some (faults.Unknown n name)
unfolding rules_of
breaks_unknown n name f r o m k = refl

pub breaks_frame : (n : ℕ) (r : Option ℤ) (o m k : Bool) → rules_of n false None None true r o m k ≡ Some (faults.NoFrame n)
unfolding rules_of
breaks_frame n r o m k = refl

pub breaks_range : (n : ℕ) (value : ℤ) (o m k : Bool) → rules_of n false None None false (Some value) o m k ≡ Some (faults.Range n value)
unfolding rules_of
breaks_range n value o m k = refl

pub breaks_odd : (n : ℕ) (m k : Bool) → rules_of n false None None false None true m k ≡ Some (faults.Odd n)
unfolding rules_of
breaks_odd n m k = refl

pub breaks_names : (n : ℕ) (k : Bool) → rules_of n false None None false None false true k ≡ Some (faults.Names n)
unfolding rules_of
breaks_names n k = refl

pub breaks_many : (n : ℕ) → rules_of n false None None false None false false true ≡ Some (faults.Many n)
unfolding rules_of
breaks_many n = refl

pub breaks_none : (n : ℕ) → rules_of n false None None false None false false false ≡ None
unfolding rules_of
breaks_none n = refl

rules_same : (n : ℕ) (o p : Bool) (t v : Option ℕ) (u w : Option (List ℕ)) (f g : Bool) (r q : Option ℤ) (d e m i k j : Bool)
    → o ≡ p → t ≡ v → u ≡ w → f ≡ g → r ≡ q → d ≡ e → m ≡ i → k ≡ j → rules_of n o t u f r d m k ≡ rules_of n p v w g q e i j
rules_same n o p t v u w f g r q d e m i k j a b c x y z h l = rw (a, b, c, x, y, z, h, l) refl

-- ---- of a statement

pub by_order : (layout deck : List ℕ) (before : List Said) (n : ℕ) (s : Statement) → is_misplaced before s ≡ true
    → broken_rule layout deck before n s ≡ Some (faults.Order n)
by_order layout deck before n s a =
    by_rules layout deck before n s
    ∙ (rules_same n (is_misplaced before s) true (repeated_line before s) (repeated_line before s)
    (unknown_operand before s) (unknown_operand before s) (lacks_frame before s) (lacks_frame before s)
    (out_of_range s) (out_of_range s) (has_odd_sum s) (has_odd_sum s) (takes_name layout deck before s)
    (takes_name layout deck before s) (is_too_many before s)
    (is_too_many before s) a refl refl refl refl refl refl refl
    ∙ breaks_order n (repeated_line before s) (unknown_operand before s) (lacks_frame before s) (out_of_range s)
    (has_odd_sum s) (takes_name layout deck before s) (is_too_many before s))

pub by_twice : (layout deck : List ℕ) (before : List Said) (n : ℕ) (s : Statement) (e : ℕ)
    → is_misplaced before s ≡ false → repeated_line before s ≡ Some e
    → broken_rule layout deck before n s ≡ Some (faults.Twice n e)
by_twice layout deck before n s e a b =
    by_rules layout deck before n s ∙ (rules_same n (is_misplaced before s) false (repeated_line before s) (Some e)
    (unknown_operand before s) (unknown_operand before s) (lacks_frame before s) (lacks_frame before s)
    (out_of_range s) (out_of_range s) (has_odd_sum s) (has_odd_sum s) (takes_name layout deck before s)
    (takes_name layout deck before s) (is_too_many before s)
    (is_too_many before s) a b refl refl refl refl refl refl
    ∙ breaks_twice n e (unknown_operand before s) (lacks_frame before s) (out_of_range s) (has_odd_sum s)
    (takes_name layout deck before s) (is_too_many before s))

pub by_unknown : (layout deck : List ℕ) (before : List Said) (n : ℕ) (s : Statement) (name : List ℕ)
    → is_misplaced before s ≡ false → repeated_line before s ≡ None → unknown_operand before s ≡ Some name
    → broken_rule layout deck before n s ≡ Some (faults.Unknown n name)
by_unknown layout deck before n s name a b c =
    by_rules layout deck before n s ∙ (rules_same n (is_misplaced before s) false (repeated_line before s) None
    (unknown_operand before s) (Some name) (lacks_frame before s) (lacks_frame before s) (out_of_range s)
    (out_of_range s) (has_odd_sum s) (has_odd_sum s) (takes_name layout deck before s)
    (takes_name layout deck before s) (is_too_many before s) (is_too_many before s) a b c refl refl refl refl refl
    ∙ breaks_unknown n name (lacks_frame before s) (out_of_range s) (has_odd_sum s) (takes_name layout deck before s) (is_too_many before s))

pub by_frame : (layout deck : List ℕ) (before : List Said) (n : ℕ) (s : Statement) → is_misplaced before s ≡ false
    → repeated_line before s ≡ None → unknown_operand before s ≡ None → lacks_frame before s ≡ true
    → broken_rule layout deck before n s ≡ Some (faults.NoFrame n)
by_frame layout deck before n s a b c d =
    by_rules layout deck before n s ∙ (rules_same n (is_misplaced before s) false (repeated_line before s) None
    (unknown_operand before s) None (lacks_frame before s) true (out_of_range s) (out_of_range s) (has_odd_sum s)
    (has_odd_sum s) (takes_name layout deck before s) (takes_name layout deck before s) (is_too_many before s)
    (is_too_many before s) a b c d refl refl refl refl
    ∙ breaks_frame n (out_of_range s) (has_odd_sum s) (takes_name layout deck before s) (is_too_many before s))

pub by_range : (layout deck : List ℕ) (before : List Said) (n : ℕ) (s : Statement) (value : ℤ)
    → is_misplaced before s ≡ false → repeated_line before s ≡ None → unknown_operand before s ≡ None
    → lacks_frame before s ≡ false → out_of_range s ≡ Some value
    → broken_rule layout deck before n s ≡ Some (faults.Range n value)
by_range layout deck before n s value a b c d x =
    by_rules layout deck before n s ∙ (rules_same n (is_misplaced before s) false (repeated_line before s) None
    (unknown_operand before s) None (lacks_frame before s) false (out_of_range s) (Some value) (has_odd_sum s)
    (has_odd_sum s) (takes_name layout deck before s) (takes_name layout deck before s) (is_too_many before s)
    (is_too_many before s) a b c d x refl refl refl
    ∙ breaks_range n value (has_odd_sum s) (takes_name layout deck before s) (is_too_many before s))

pub by_odd : (layout deck : List ℕ) (before : List Said) (n : ℕ) (s : Statement) → is_misplaced before s ≡ false
    → repeated_line before s ≡ None → unknown_operand before s ≡ None → lacks_frame before s ≡ false
    → out_of_range s ≡ None → has_odd_sum s ≡ true → broken_rule layout deck before n s ≡ Some (faults.Odd n)
by_odd layout deck before n s a b c d x y =
    by_rules layout deck before n s ∙ (rules_same n (is_misplaced before s) false (repeated_line before s) None
    (unknown_operand before s) None (lacks_frame before s) false (out_of_range s) None (has_odd_sum s) true
    (takes_name layout deck before s) (takes_name layout deck before s) (is_too_many before s)
    (is_too_many before s) a b c d x y refl refl
    ∙ breaks_odd n (takes_name layout deck before s) (is_too_many before s))

pub by_names : (layout deck : List ℕ) (before : List Said) (n : ℕ) (s : Statement) → is_misplaced before s ≡ false
    → repeated_line before s ≡ None → unknown_operand before s ≡ None → lacks_frame before s ≡ false
    → out_of_range s ≡ None → has_odd_sum s ≡ false → takes_name layout deck before s ≡ true
    → broken_rule layout deck before n s ≡ Some (faults.Names n)
by_names layout deck before n s a b c d x y z =
    by_rules layout deck before n s ∙ (rules_same n (is_misplaced before s) false (repeated_line before s) None
    (unknown_operand before s) None (lacks_frame before s) false (out_of_range s) None (has_odd_sum s) false
    (takes_name layout deck before s) true (is_too_many before s) (is_too_many before s) a b c d x y z refl
    ∙ breaks_names n (is_too_many before s))

pub by_many : (layout deck : List ℕ) (before : List Said) (n : ℕ) (s : Statement) → is_misplaced before s ≡ false
    → repeated_line before s ≡ None → unknown_operand before s ≡ None → lacks_frame before s ≡ false
    → out_of_range s ≡ None → has_odd_sum s ≡ false → takes_name layout deck before s ≡ false
    → is_too_many before s ≡ true → broken_rule layout deck before n s ≡ Some (faults.Many n)
by_many layout deck before n s a b c d x y z h =
    by_rules layout deck before n s ∙ (rules_same n (is_misplaced before s) false (repeated_line before s) None
    (unknown_operand before s) None (lacks_frame before s) false (out_of_range s) None (has_odd_sum s) false
    (takes_name layout deck before s) false (is_too_many before s) true a b c d x y z h
    ∙ breaks_many n)

pub by_none : (layout deck : List ℕ) (before : List Said) (n : ℕ) (s : Statement) → is_misplaced before s ≡ false
    → repeated_line before s ≡ None → unknown_operand before s ≡ None → lacks_frame before s ≡ false
    → out_of_range s ≡ None → has_odd_sum s ≡ false → takes_name layout deck before s ≡ false
    → is_too_many before s ≡ false → broken_rule layout deck before n s ≡ None
by_none layout deck before n s a b c d x y z h = by_rules layout deck before n s
    ∙ (rules_same n (is_misplaced before s) false (repeated_line before s) None (unknown_operand before s) None
    (lacks_frame before s) false (out_of_range s) None (has_odd_sum s) false (takes_name layout deck before s) false
    (is_too_many before s) false a b c d x y z h ∙ breaks_none n)

-- a rule whose fault takes memory
pub by_refusal : (r : Option DeckBad) (bad : DeckBad) (own : Refusal DeckBad) → r ≡ Some bad → IsForFault (λ fault. fault ≡ bad) own
    → IsForFault (λ fault. r ≡ Some fault) own
by_refusal r bad (refusals.Fault own) e same = e ∙ ap (λ (b : DeckBad). Some b) (sym same)
by_refusal r bad refusals.NoMemory e same = tt

-- ---- a statement that breaks no rule

pub record KeepsRules (layout deck : List ℕ) (before : List Said) (s : Statement) : Type 0 where
  pub order : is_misplaced before s ≡ false
  pub twice : repeated_line before s ≡ None
  pub unknown : unknown_operand before s ≡ None
  pub frame : lacks_frame before s ≡ false
  pub range : out_of_range s ≡ None
  pub odd : has_odd_sum s ≡ false
  pub names : takes_name layout deck before s ≡ false
  pub many : is_too_many before s ≡ false

record AllKept (o : Bool) (t : Option ℕ) (u : Option (List ℕ)) (f : Bool) (r : Option ℤ) (d m k : Bool) : Type 0 where
  order : o ≡ false
  twice : t ≡ None
  unknown : u ≡ None
  frame : f ≡ false
  range : r ≡ None
  odd : d ≡ false
  names : m ≡ false
  many : k ≡ false

broken : (bad : DeckBad) → Some bad ≡ None → ⊥
broken bad e = let clash : ⊥ = cc in clash

all_kept : (n : ℕ) (o : Bool) (t : Option ℕ) (u : Option (List ℕ)) (f : Bool) (r : Option ℤ) (d m k : Bool)
    → rules_of n o t u f r d m k ≡ None → AllKept o t u f r d m k
unfolding rules_of
all_kept n true t u f r d m k e = absurd (broken _ e)
all_kept n false (Some x) u f r d m k e = absurd (broken _ e)
all_kept n false None (Some x) f r d m k e = absurd (broken _ e)
all_kept n false None None true r d m k e = absurd (broken _ e)
all_kept n false None None false (Some x) d m k e = absurd (broken _ e)
all_kept n false None None false None true m k e = absurd (broken _ e)
all_kept n false None None false None false true k e = absurd (broken _ e)
all_kept n false None None false None false false true e = absurd (broken _ e)
all_kept n false None None false None false false false e =
    record {
      order = refl;
      twice = refl;
      unknown = refl;
      frame = refl;
      range = refl;
      odd = refl;
      names = refl;
      many =
          refl;
    }

pub keeps_rules : (layout deck : List ℕ) (before : List Said) (n : ℕ) (s : Statement)
    → broken_rule layout deck before n s ≡ None → KeepsRules layout deck before s
keeps_rules layout deck before n s e =
    let h = all_kept n (is_misplaced before s) (repeated_line before s) (unknown_operand before s)
    (lacks_frame before s) (out_of_range s) (has_odd_sum s) (takes_name layout deck before s)
    (is_too_many before s) (sym (by_rules layout deck before n s) ∙ e) in
    record { order = h.order; twice = h.twice; unknown = h.unknown; frame = h.frame; range = h.range; odd = h.odd; names = h.names; many = h.many }
