-- The needed windows are the band widened by the halos: they are enough, and the least that are.
use Rattle.std.proofs.Common.{◌≡◌, ℕ, ℤ, pos, ◌+ℤ◌, ◌-ℤ◌, ◌≤ℤ◌, ◌<ℤ◌}
use Rattle.std.proofs.Common.{List, [], ◌∷◌, ◌++◌, Option, Some, None, get_or, slice_get, refl, sym}
use Rattle.std.proofs.Common.{ap, subst, arith}
use Rattle.std.proofs.lemmas.Int.{ints}
use Rattle.std.proofs.lemmas.Option.{get_or_from_slice_get}
use Rattle.half_grid.specs.Windows.{RowRange}
use Rattle.deck_text.specs.declared.deck.Deck.{Deck}
use Rattle.deck_text.specs.declared.deck.Step.{Step}
use Rattle.deck_text.specs.Sound.{IsSoundStep}
use Rattle.deck_plan.specs.declared.needs.Taken.{Taken}
use Rattle.deck_plan.specs.declared.needs.Need.{Need}
use Rattle.deck_plan.specs.Needs.{IsChain, chain_end, Takes, IsUsed, IsInside, widened, AreEnough, AreNeeded}
use Rattle.deck_plan.specs.Halos.{halo_sum, HasChain, NeedIs, AreHalos, window_for}
use Rattle.deck_plan.proofs.Slots.{filled}
use Rattle.deck_plan.proofs.HaloLemmas.{chain_put, end_put}
use Rattle.deck_plan.proofs.StepLemmas.{sound_operand}

module _ (deck : Deck) (sound : (k : ℕ) (step : Step) → slice_get deck.steps k ≡ Some step
    → IsSoundStep deck.frame k step) (name : ℕ) (band : RowRange) (rows : band.y0 <ℤ band.y1) where
  halo_low : (n : ℕ) (operand : Taken) → Takes deck n operand → pos 0 ≤ℤ operand.halo
  halo_low n operand takes = (sound_operand deck.frame n takes.step operand (sound n takes.step takes.here) takes.among).low

  -- ---- the least

  module _ (others : ℕ → RowRange) (enough : AreEnough deck name band others) where
    wider_inside : (h halo : ℤ) (v w : RowRange) → pos 0 ≤ℤ h → IsInside (widened h band) v
        → IsInside (widened halo v) w → IsInside (widened (h +ℤ halo) band) w
    wider_inside h halo v w some first second = λ j low high.
        let from = first (band.y0 -ℤ h) (omega (arith, ints)) (omega (arith, ints, some, rows)) in
        let to = first ((band.y1 +ℤ h) -ℤ pos 1) (omega (arith, ints, some, rows)) (omega (arith, ints)) in
        second j (omega (arith, ints, low, from.0)) (omega (arith, ints, high, to.1))

    used_put : (m : ℕ) (operand : Taken) → IsUsed deck name m → Takes deck m operand → IsUsed deck name operand.name
    used_put m operand used takes = record {
      chain = used.chain ++ operand ∷ [];
      chained = chain_put deck name used.chain operand used.chained (subst (λ k. Takes deck k operand) (sym used.end) takes);
      end = end_put name used.chain operand;
    }

    along : (chain : List Taken) (m : ℕ) (h : ℤ) → IsUsed deck name m → IsChain deck m chain → pos 0 ≤ℤ h
        → IsInside (widened h band) (others m)
        → IsInside (widened (h +ℤ halo_sum chain) band) (others (chain_end m chain))
    along [] m h used chained low inside = λ j from to. inside j (omega (arith, ints, from)) (omega (arith, ints, to))
    along (operand ∷ chain) m h used chained low inside =
        let halo = halo_low m operand chained.0 in
        let next = wider_inside h operand.halo (others m) (others operand.name) low inside (enough.operands m operand used chained.0) in
        let end = along chain operand.name (h +ℤ operand.halo) (used_put m operand used chained.0) chained.1 (omega (arith, ints, low, halo)) next in
        λ j from to. end j (omega (arith, ints, from)) (omega (arith, ints, to))

    by_chain : (n : ℕ) (halo : ℤ) → HasChain deck name n halo → IsInside (widened halo band) (others n)
    by_chain n halo h =
        let used : IsUsed deck name name = record { chain = []; chained = tt; end = refl } in
        let end = along h.chain name (pos 0) used h.chained (omega (arith, ints))
        (λ j from to. enough.own j (omega (arith, ints, from)) (omega (arith, ints, to))) in
        let there = subst (λ m. IsInside (widened (pos 0 +ℤ halo_sum h.chain) band) (others m)) h.end end in
        λ j from to. there j (omega (arith, ints, from, h.sum)) (omega (arith, ints, to, h.sum))

    least_by : (n : ℕ) (found : Option Need) → ((need : Need) → found ≡ Some need → HasChain deck name n need.halo)
        → IsInside (window_for band found) (others n)
    least_by n None chain = λ j from to. absurd (omega (arith, ints, from, to))
    least_by n (Some need) chain = by_chain n need.halo (chain need refl)

  -- ---- enough

  module _ (needs : List (Option Need)) (h : AreHalos deck name 0 needs) where
    abbrev Window_of : ℕ → RowRange
    Window_of n = window_for band (get_or needs n None)

    window_is : (n : ℕ) (need : Need) → NeedIs needs n need → window_for band (get_or needs n None) ≡ widened need.halo band
    window_is n need is = ap (window_for band) (get_or_from_slice_get needs n (Some need) None is)

    used_from : (chain : List Taken) (m : ℕ) (need : Need) → NeedIs needs m need → IsChain deck m chain
        → (other : Need) × NeedIs needs (chain_end m chain) other
    used_from [] m need is chained = (need, is)
    used_from (operand ∷ chain) m need is chained = let o = h.operands m need operand (omega arith) is chained.0 in
        used_from chain operand.name o.0 o.1 chained.1

    -- what is used is needed
    pub used_need : (n : ℕ) → IsUsed deck name n → (need : Need) × NeedIs needs n need
    used_need n used =
        let end = used_from used.chain name h.own.0 h.own.1 used.chained in
        (end.0, subst (λ m. NeedIs needs m end.0) used.end end.1)

    own_inside : IsInside band (window_for band (get_or needs name None))
    own_inside =
        let zero_halo = h.own.2 in
        subst (λ w. IsInside band w) (sym (window_is name h.own.0 h.own.1))
        (λ j from to. (omega (arith, ints, from, zero_halo), omega (arith, ints, to, zero_halo)))

    operand_inside : (n : ℕ) (operand : Taken) → IsUsed deck name n → Takes deck n operand
        → IsInside (widened operand.halo (window_for band (get_or needs n None)))
        (window_for band (get_or needs operand.name None))
    operand_inside n operand used takes =
        let own = used_need n used in
        let o = h.operands n own.0 operand (omega arith) own.1 takes in
        let more = o.2 in
        rw (window_is n own.0 own.1, window_is operand.name o.0 o.1) (λ j from to. (omega (arith, ints, from, more), omega (arith, ints, to, more)))

    pub windows_needed : AreNeeded deck name band (λ n. window_for band (get_or needs n None))
    windows_needed = record {
      enough = record { own = own_inside; operands = operand_inside };
      least = λ others enough n. least_by others enough n (get_or needs n None) (λ need e. h.reached n need (filled needs n need e));
    }
