-- The halos of an output, definition by definition from the last one down.
use Rattle.std.proofs.Common.{◌≡◌, ◌⊎◌, inl, inr, ℕ, zero, suc, ◌+◌, ◌*◌, ◌<◌, ◌≤◌, ℤ, pos, ◌+ℤ◌, ◌≤ℤ◌, List, [], ◌∷◌}
use Rattle.std.proofs.Common.{false, ◌++◌, Option, Some, None, length, set, get_or, slice_get, replicate, Contains, IfSome}
use Rattle.std.proofs.Common.{refl, sym, ap, subst, ◌∙◌, arith}
use Rattle.std.proofs.lemmas.Int.{ints, by_lt_z, clamps}
use Rattle.std.proofs.lemmas.Bool.{false≢true}
use Rattle.std.proofs.lemmas.Option.{none-some, same_Some, slice_get-get_or, get_or_from_slice_get}
use Rattle.std.specs.Int.{int_max}
use Rattle.std.specs.Option.{option_to_list}
use Rattle.deck_text.specs.declared.deck.Deck.{Deck}
use Rattle.deck_text.specs.declared.deck.Step.{Step}
use Rattle.deck_text.specs.Sound.{IsSoundStep}
use Rattle.deck_plan.specs.declared.needs.Taken.{Taken}
use Rattle.deck_plan.specs.declared.needs.Need.{Need}
use Rattle.deck_plan.specs.Needs.{IsChain, chain_end, Takes, operands_of}
use Rattle.deck_plan.specs.Halos.{halo_sum, HasChain, IsLone, NeedIs, AreHalos, IsSoundOperand, raised, raised_all, passed, passed_by}
use Rattle.deck_plan.proofs.Slots.{set_cases, set_here, set_length, all_alike, alike_length, one_slot}
use Rattle.deck_plan.proofs.StepLemmas.{sound_operand}

-- ---- chains

pub chain_put : (deck : Deck) (n : ℕ) (chain : List Taken) (operand : Taken) → IsChain deck n chain
    → Takes deck (chain_end n chain) operand → IsChain deck n (chain ++ operand ∷ [])
chain_put deck n [] operand chained takes = (takes, tt)
chain_put deck n (first ∷ chain) operand chained takes = (chained.0, chain_put deck first.name chain operand chained.1 takes)

pub end_put : (n : ℕ) (chain : List Taken) (operand : Taken) → chain_end n (chain ++ operand ∷ []) ≡ operand.name
end_put n [] operand = refl
end_put n (first ∷ chain) operand = end_put first.name chain operand

sum_put : (chain : List Taken) (operand : Taken) → halo_sum (chain ++ operand ∷ []) ≡ halo_sum chain +ℤ operand.halo
sum_put [] operand = omega (arith, ints)
sum_put (first ∷ chain) operand = let later = sum_put chain operand in omega (arith, ints, later)

longer : (deck : Deck) (name n : ℕ) (halo : ℤ) (operand : Taken) → HasChain deck name n halo → Takes deck n operand
    → HasChain deck name operand.name (halo +ℤ operand.halo)
longer deck name n halo operand h takes = record {
  chain = h.chain ++ operand ∷ [];
  chained = chain_put deck name h.chain operand h.chained (subst (λ m. Takes deck m operand) (sym h.end) takes);
  end = end_put name h.chain operand;
  sum = sum_put h.chain operand ∙ ap (λ x. x +ℤ operand.halo) h.sum;
}

-- ---- one step

-- what was one operand alone has the same taker
abbrev IsLoneAs : Need → Need → Type 0
IsLoneAs need other = other.shared ≡ false → (need.shared ≡ false) × (other.last ≡ need.last)

lone_along : (need mid other : Need) → IsLoneAs need mid → IsLoneAs mid other → IsLoneAs need other
lone_along need mid other h k e = let l = k e in let m = h l.0 in (m.0, l.1 ∙ m.1)

lone_still : (need other : Need) (n : ℕ) → IsLone need n → IsLoneAs need other → IsLone other n
lone_still need other n h k e = let l = k e in l.1 ∙ h l.0

module _ (deck : Deck) (name user : ℕ) (asked : Need) (before : List (Option Need)) where
  -- while the operands of the definition `user` are taken
  record Raising (needs : List (Option Need)) : Type 0 where
    long : length needs ≡ 256
    kept : (n : ℕ) → user ≤ n → slice_get needs n ≡ slice_get before n
    grown : (n : ℕ) (need : Need) → NeedIs before n need
        → (other : Need) × NeedIs needs n other × (need.halo ≤ℤ other.halo) × (need.last ≤ other.last) × IsLoneAs need other
    none : (n : ℕ) (need : Need) → NeedIs needs n need → n ≤ name
    reached : (n : ℕ) (need : Need) → NeedIs needs n need → HasChain deck name n need.halo
    low : (n : ℕ) (need : Need) → NeedIs needs n need → pos 0 ≤ℤ need.halo
    high : (n : ℕ) (need : Need) → NeedIs needs n need → (need.halo +ℤ pos (65536 * n)) ≤ℤ pos (65536 * name)
    later : (n : ℕ) (need : Need) → NeedIs needs n need → user ≤ need.last
    latest : (n : ℕ) (need : Need) → NeedIs needs n need → need.last ≤ name

  -- the operand has what it needs
  abbrev IsGiven : List (Option Need) → Taken → Type 0
  IsGiven needs operand = (other : Need) × NeedIs needs operand.name other × ((asked.halo +ℤ operand.halo) ≤ℤ other.halo)
      × (user ≤ other.last) × IsLone other user

  abbrev AreGiven : List (Option Need) → List Taken → Type 0
  AreGiven needs [] = Unit {0}
  AreGiven needs (operand ∷ operands) = IsGiven needs operand × AreGiven needs operands

  given_one : (needs : List (Option Need)) (operands : List Taken) (operand : Taken) → AreGiven needs operands
      → Contains operands operand → IsGiven needs operand
  given_one needs [] operand given (k, inside, is) = absurd (omega (arith, inside))
  given_one needs (first ∷ operands) operand given (zero, inside, is) = subst (IsGiven needs) is given.0
  given_one needs (first ∷ operands) operand given (suc k, inside, is) = given_one needs operands operand given.1 (k, omega (arith, inside), is)

  record Raised (needs after : List (Option Need)) (operands : List Taken) : Type 0 where
    raising : Raising after
    given : AreGiven after operands
    still : (other : Taken) → IsGiven needs other → IsGiven after other

  module _ (inside : user < 256) (used : HasChain deck name user asked.halo) (asked_low : pos 0 ≤ℤ asked.halo)
      (asked_high : (asked.halo +ℤ pos (65536 * user)) ≤ℤ pos (65536 * name)) (own : user ≤ name) where
    module _ (needs : List (Option Need)) (r : Raising needs) (operand : Taken) (takes : Takes deck user operand) (s : IsSoundOperand user operand) where
      abbrev Put : Need → List (Option Need)
      Put need = set needs operand.name (Some need)

      within : operand.name < length needs
      within = omega (arith, r.long, s.earlier, inside)

      -- what is put for the operand, by what was there
      record IsPut (need : Need) : Type 0 where
        halo : (asked.halo +ℤ operand.halo) ≤ℤ need.halo
        last : user ≤ need.last
        chain : HasChain deck name operand.name need.halo
        limit : (need.halo +ℤ pos (65536 * operand.name)) ≤ℤ pos (65536 * name)
        lone : IsLone need user
        latest : need.last ≤ name
        old : (other : Need) → NeedIs needs operand.name other → (other.halo ≤ℤ need.halo) × (other.last ≤ need.last) × IsLoneAs other need

      limit_new : ((asked.halo +ℤ operand.halo) +ℤ pos (65536 * operand.name)) ≤ℤ pos (65536 * name)
      limit_new = omega (arith, ints, asked_high, s.high, s.earlier)

      put_new : (found : Option Need) → get_or needs operand.name None ≡ found → IsPut (raised found (asked.halo +ℤ operand.halo) user)
      put_new None e = record {
        halo = omega (arith, ints);
        last = omega arith;
        chain = longer deck name user asked.halo operand used takes;
        limit = limit_new;
        lone = λ e. refl;
        latest = own;
        old = λ other here. absurd (none-some other (sym e ∙ get_or_from_slice_get needs operand.name (Some other) None here));
      }
      put_new (Some need) e =
          let here : NeedIs needs operand.name need = slice_get-get_or needs operand.name None within ∙ ap Some e in
          record {
            halo = omega (arith, ints, clamps);
            last = r.later operand.name need here;
            chain = by_lt_z need.halo (asked.halo +ℤ operand.halo)
                (λ lt. (let e : asked.halo +ℤ operand.halo ≡ int_max need.halo (asked.halo +ℤ operand.halo) = omega
                (arith, ints, clamps, lt) in subst (HasChain deck name operand.name) e
                (longer deck name user asked.halo operand used takes)))
                (λ ge. (let e : need.halo ≡ int_max need.halo (asked.halo +ℤ operand.halo) = omega
                (arith, ints, clamps, ge) in subst (HasChain deck name operand.name) e
                (r.reached operand.name need here)));
            limit = (let old = r.high operand.name need here in let new = limit_new in omega (arith, ints, clamps, old, new));
            lone = λ e. absurd (false≢true (sym e));
            latest = r.latest operand.name need here;
            old = λ other there.
                (let same = same_Some need other (one_slot needs operand.name (Some need) (Some other) here there) in (
                  omega (arith, ints, clamps, ap (λ (x : Need). x.halo) same),
                  omega
                      (arith, ap (λ (x : Need). x.last) same),
                  λ e. absurd (false≢true (sym e)),
                ));
          }

      module _ (need : Need) (p : IsPut need) where
        at : (n : ℕ) → ((n ≡ operand.name) × (slice_get (Put need) n ≡ Some (Some need)))
            ⊎ ((n ≡ operand.name → ⊥) × (slice_get (Put need) n ≡ slice_get needs n))
        at n = set_cases needs operand.name (Some need) n within

        -- what holds of the new need and of the others holds of all
        each : (P : ℕ → Need → Type 0) → P operand.name need
            → ((n : ℕ) (other : Need) → NeedIs needs n other → P n other) → (n : ℕ) (other : Need)
            → NeedIs (Put need) n other → P n other
        each P here others n other is = elim (at n) [
          | inl h ↦ subst (λ m. P m other) (sym h.0)
              (subst (P operand.name)
              (same_Some need other (one_slot (Put need) n (Some need) (Some other) h.1 is)) here)
          | inr h ↦ others n other (sym h.1 ∙ is)
        ]

        put_grown : (n : ℕ) (old : Need) → NeedIs before n old
            → (other : Need) × NeedIs (Put need) n other × (old.halo ≤ℤ other.halo) × (old.last ≤ other.last) × IsLoneAs old other
        put_grown n old there =
            let g = r.grown n old there in
            elim (at n) [
              | inl h ↦ (let o = p.old g.0 (subst (λ m. NeedIs needs m g.0) h.0 g.1) in
                  (need, h.1, omega (arith, ints, g.2, o.0), omega (arith, g.3, o.1), lone_along old g.0 need g.4 o.2))
              | inr h ↦ (g.0, h.1 ∙ g.1, g.2, g.3, g.4)
            ]

        put_raising : Raising (Put need)
        put_raising = record {
          long = set_length needs operand.name (Some need) ∙ r.long;
          kept = λ n from. elim (at n) [ inl h ↦ absurd (omega (arith, h.0, s.earlier, from)) | inr h ↦ h.1 ∙ r.kept n from ];
          grown = put_grown;
          none = each (λ n other. n ≤ name) (omega (arith, s.earlier, own)) r.none;
          reached = each (λ n other. HasChain deck name n other.halo) p.chain r.reached;
          low = each (λ n other. pos 0 ≤ℤ other.halo) (omega (arith, ints, p.halo, asked_low, s.low)) r.low;
          high = each (λ n other. (other.halo +ℤ pos (65536 * n)) ≤ℤ pos (65536 * name)) p.limit r.high;
          later = each (λ n other. user ≤ other.last) p.last r.later;
          latest = each (λ n other. other.last ≤ name) p.latest r.latest;
        }

        put_given : IsGiven (Put need) operand
        put_given = (need, set_here needs operand.name (Some need) within, p.halo, p.last, p.lone)

        -- what was given stays given
        still_given : (other : Taken) → IsGiven needs other → IsGiven (Put need) other
        still_given other g = elim (at other.name) [
          | inl h ↦ (let o = p.old g.0 (subst (λ m. NeedIs needs m g.0) h.0 g.1) in
              (need, h.1, omega (arith, ints, g.2, o.0), omega (arith, g.3, o.1), lone_still g.0 need user g.4 o.2))
          | inr h ↦ (g.0, h.1 ∙ g.1, g.2, g.3, g.4)
        ]

    AllSound : List Taken → Type 0
    AllSound operands = (operand : Taken) → Contains operands operand → Takes deck user operand × IsSoundOperand user operand

    all_raised : (operands : List Taken) (needs : List (Option Need)) → Raising needs → AllSound operands
        → Raised needs (raised_all needs asked.halo user operands) operands
    unfolding AllSound
    all_raised [] needs r sound = record { raising = r; given = tt; still = λ other g. g }
    all_raised (operand ∷ operands) needs r sound =
        let s = sound operand (0, omega arith, refl) in
        let need = raised (get_or needs operand.name None) (asked.halo +ℤ operand.halo) user in
        let p = put_new needs r operand s.0 s.1 (get_or needs operand.name None) refl in
        let rest = all_raised operands (set needs operand.name (Some need))
        (put_raising needs r operand s.0 s.1 need p)
        (λ other c. sound other (suc c.0, omega (arith, c.1), c.2)) in
        record {
          raising = rest.raising;
          given = (rest.still operand (put_given needs r operand s.0 s.1 need p), rest.given);
          still = λ other g. rest.still other (still_given needs r operand s.0 s.1 need p other g);
        }

-- ---- all steps

at_or_above : (k n : ℕ) → k ≤ n → (n ≡ k) ⊎ (suc k ≤ n)
at_or_above zero zero h = inl refl
at_or_above zero (suc n) h = inr (omega arith)
at_or_above (suc k) zero h = absurd (omega (arith, h))
at_or_above (suc k) (suc n) h = elim (at_or_above k n (omega (arith, h))) [ inl e ↦ inl (ap suc e) | inr l ↦ inr (omega (arith, l)) ]

module _ (deck : Deck) (name k : ℕ) (needs : List (Option Need)) (h : AreHalos deck name (suc k) needs)
    (few : name < 256) (step : Step) (here : slice_get deck.steps k ≡ Some step)
    (sound : IsSoundStep deck.frame k step) where
  takes_of : (operand : Taken) → Contains (operands_of step) operand → Takes deck k operand
  takes_of operand among = record { step = step; here = here; among = among }

  taken_of : (operand : Taken) → Takes deck k operand → Contains (operands_of step) operand
  taken_of operand takes = subst (λ s. Contains (operands_of s) operand) (one_slot deck.steps k takes.step step takes.here here) takes.among

  not_needed : get_or needs k None ≡ None → AreHalos deck name k needs
  not_needed e = record {
    long = h.long;
    own = h.own;
    none = h.none;
    operands = λ n need operand from there takes. elim (at_or_above k n from) [
      | inl same ↦ absurd (none-some need (sym e ∙ get_or_from_slice_get needs k (Some need) None (subst (λ m. NeedIs needs m need) same there)))
      | inr above ↦ h.operands n need operand above there takes
    ];
    reached = h.reached;
    low = h.low;
    high = h.high;
    later = λ n need there. (let l = h.later n need there in omega (arith, l));
    latest = h.latest;
  }

  module _ (asked : Need) (there : NeedIs needs k asked) where
    own_low : k ≤ name
    own_low = h.none k asked there

    begun : Raising deck name k asked needs needs
    begun = record {
      long = h.long;
      kept = λ n from. refl;
      grown = λ n need is. (need, is, omega (arith, ints), omega arith, λ e. (e, refl));
      none = h.none;
      reached = h.reached;
      low = h.low;
      high = h.high;
      later = λ n need is. (let l = h.later n need is in omega (arith, l));
      latest = h.latest;
    }

    below : k < 256
    below = omega (arith, own_low, few)

    after : Raised deck name k asked needs needs (raised_all needs asked.halo k (operands_of step)) (operands_of step)
    unfolding AllSound
    after =
        all_raised deck name k asked needs below (h.reached k asked there) (h.low k asked there) (h.high k asked there) own_low (operands_of step) needs begun
        (λ operand among. (takes_of operand among, sound_operand deck.frame k step operand sound among))

    before_is : (n : ℕ) (need : Need) → k ≤ n → NeedIs (raised_all needs asked.halo k (operands_of step)) n need → NeedIs needs n need
    before_is n need from is = sym (after.raising.kept n from) ∙ is

    of_step : (need : Need) (operand : Taken) → NeedIs needs k need → Takes deck k operand
        → (other : Need) × NeedIs (raised_all needs asked.halo k (operands_of step)) operand.name other
        × ((need.halo +ℤ operand.halo) ≤ℤ other.halo) × (k ≤ other.last) × IsLone other k
    of_step need operand is takes =
        let g = given_one deck name k asked needs (raised_all needs asked.halo k (operands_of step))
        (operands_of step) operand after.given (taken_of operand takes) in
        let same = ap (λ (x : Need). x.halo) (one_slot_need need is) in
        (g.0, g.1, omega (arith, ints, g.2, same), g.3, g.4)
      where
        one_slot_need : (need : Need) → NeedIs needs k need → need ≡ asked
        one_slot_need need is = same_Some need asked (one_slot needs k (Some need) (Some asked) is there)

    of_later : (n : ℕ) (need : Need) (operand : Taken) → suc k ≤ n → NeedIs needs n need → Takes deck n operand
        → (other : Need) × NeedIs (raised_all needs asked.halo k (operands_of step)) operand.name other
        × ((need.halo +ℤ operand.halo) ≤ℤ other.halo) × (n ≤ other.last) × IsLone other n
    of_later n need operand above is takes =
        let o = h.operands n need operand above is takes in
        let g = after.raising.grown operand.name o.0 o.1 in
        (g.0, g.1, omega (arith, ints, o.2, g.2), omega (arith, o.3, g.3), lone_still o.0 g.0 n o.4 g.4)

    needed : AreHalos deck name k (raised_all needs asked.halo k (operands_of step))
    needed = record {
      long = after.raising.long;
      own = (h.own.0, after.raising.kept name own_low ∙ h.own.1, h.own.2);
      none = after.raising.none;
      operands = λ n need operand from is takes. elim (at_or_above k n from) [
        | inl same ↦ (let g = of_step need operand (subst (λ m. NeedIs needs m need) same (before_is n need from is))
            (subst (λ m. Takes deck m operand) same takes) in (g.0, g.1, g.2, omega (arith, g.3, same), λ e. g.4 e ∙ sym same))
        | inr above ↦ of_later n need operand above (before_is n need from is) takes
      ];
      reached = after.raising.reached;
      low = after.raising.low;
      high = after.raising.high;
      later = λ n need is. (let l = after.raising.later n need is in omega (arith, l));
      latest = after.raising.latest;
    }

  by_need : (found : Option Need) → get_or needs k None ≡ found → k < 256 → AreHalos deck name k (passed_by found needs k (operands_of step))
  by_need None e inside = not_needed e
  by_need (Some asked) e inside = needed asked (slice_get-get_or needs k None (omega (arith, inside, h.long)) ∙ ap Some e)

  pub halos_pass : k < 256 → AreHalos deck name k (passed needs k (operands_of step))
  halos_pass inside = by_need (get_or needs k None) refl inside

-- ---- the first need

module _ (deck : Deck) (name : ℕ) (few : name < 256) where
  abbrev Own : Need
  Own = record { halo = pos 0; last = name; shared = false }

  abbrev Alone : List (Option Need)
  Alone = set (replicate 256 None) name (Some Own)

  alone_within : name < length {A = Option Need} (replicate 256 None)
  alone_within = omega (arith, few, alike_length {A = Option Need} 256 None)

  only_own : (n : ℕ) (need : Need) → NeedIs Alone n need → (n ≡ name) × (need ≡ Own)
  only_own n need is = elim (set_cases (replicate 256 None) name (Some Own) n alone_within) [
    | inl h ↦ (h.0, sym (same_Some Own need (one_slot Alone n (Some Own) (Some need) h.1 is)))
    | inr h ↦ absurd (none-some need (sym (all_alike 256 None n (Some need) (sym h.1 ∙ is))))
  ]

  alone : (P : ℕ → Need → Type 0) → P name Own → (n : ℕ) (need : Need) → NeedIs Alone n need → P n need
  alone P own n need is = let o = only_own n need is in subst (λ m. P m need) (sym o.0) (subst (P name) (sym o.1) own)

  pub halos_begin : AreHalos deck name (name + 1) Alone
  halos_begin = record {
    long = set_length (replicate 256 None) name (Some Own) ∙ alike_length {A = Option Need} 256 None;
    own = (Own, set_here (replicate 256 None) name (Some Own) alone_within, refl);
    none = alone (λ n need. n ≤ name) (omega arith);
    operands = λ n need operand from is takes. (let o = only_own n need is in absurd (omega (arith, o.0, from)));
    reached = alone (λ n need. HasChain deck name n need.halo) (record { chain = []; chained = tt; end = refl; sum = refl });
    low = alone (λ n need. pos 0 ≤ℤ need.halo) (omega (arith, ints));
    high = alone (λ n need. (need.halo +ℤ pos (65536 * n)) ≤ℤ pos (65536 * name)) (omega (arith, ints));
    later = alone (λ n need. name + 1 ≤ need.last + 1) (omega arith);
    latest = alone (λ n need. need.last ≤ name) (omega arith);
  }

-- ---- the operands as the code has them

pub sound_first : (P : Taken → Type 0) (first second : Option Taken) (operands : List Taken)
    → option_to_list first ++ option_to_list second ≡ operands
    → ((operand : Taken) → Contains operands operand → P operand) → IfSome first P
sound_first P None second operands is all = tt
sound_first P (Some x) second operands is all = all x (subst (λ os. Contains os x) is (0, omega arith, refl))

pub sound_second : (P : Taken → Type 0) (first second : Option Taken) (operands : List Taken)
    → option_to_list first ++ option_to_list second ≡ operands
    → ((operand : Taken) → Contains operands operand → P operand) → IfSome second P
sound_second P first None operands is all = tt
sound_second P None (Some y) operands is all = all y (subst (λ os. Contains os y) is (0, omega arith, refl))
sound_second P (Some x) (Some y) operands is all = all y (subst (λ os. Contains os y) is (1, omega arith, refl))
