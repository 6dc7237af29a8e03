use Rattle.std.proofs.Common.{◌≡◌, ◌<◌, ℕ, nat_lt, Bool, true, false, cond, List, [], ◌∷◌, ◌++◌, length, take}
use Rattle.std.proofs.Common.{slice_get, slice_index_or, Some, refl, sym, ap, subst, ◌∙◌, arith, rules, vec_len, vec_capacity, All, ◌+◌}
use Rattle.std.proofs.lemmas.Bool.{lt-ltb, le-ltb}
use Rattle.std.proofs.lemmas.List.{append-nil, length-take-le, take_all}
use Rattle.std.proofs.lemmas.Option.{slice_get_read, slice_get-get_or}
use Rattle.std.specs.List.{filter}
use Rattle.half_grid.specs.Trapezoids.{Trapezoid}
use Rattle.field_output.specs.Meeting.{numbers, meets, goes_on, comes_in, end_at, begin_at, IsPlaced}
use Rattle.field_output.proofs.NumberLemmas.{passes, passes_some, numbers_below, numbers_few, filter_few, filter_more, filtered, next_ones}
use Rattle.field_output.proofs.filling.keep_carried.Goals as goal
use Rattle.field_output.proofs.filling.keep_carried.Goals.{then-stripe-end, else-stripe-end}

below : (shots : List Trapezoid) (test : Trapezoid → Bool) (chosen : List ℕ) (k : ℕ) → chosen ≡ numbers test 0 shots → k < length chosen
    → slice_index_or chosen k 0 < length shots
below shots test chosen k is lt = subst (λ (l : List ℕ). All (λ (m : ℕ). m < length shots) l) (sym is) (numbers_below shots test 0 shots refl) k 0 lt

-- the number at this place
number_at : (chosen : List ℕ) (k : ℕ) → k < length chosen → slice_get chosen k ≡ Some (slice_index_or chosen k 0)
number_at chosen k lt = slice_get-get_or chosen k 0 lt

-- one number more passes or doesn't
more : (shots : List Trapezoid) (test : Trapezoid → Bool) (chosen kept now : List ℕ) (k : ℕ) (z : Trapezoid) (b : Bool) → k < length chosen
    → slice_get shots (slice_index_or chosen k 0) ≡ Some z → test z ≡ b
    → kept ≡ filter (passes shots test) (take k chosen) → now ≡ kept ++ cond b (slice_index_or chosen k 0 ∷ []) [] → now ≡ filter
    (passes shots test) (take (k + 1) chosen)
more shots test chosen kept now k z b lt at is was e =
    let n = slice_index_or chosen k 0 in
    let passed : passes shots test n ≡ b = ap (passes_some shots test) at ∙ is in
    e ∙ ap (λ (l : List ℕ). l ++ cond b (n ∷ []) []) was ∙ ap (λ (t : Bool). filter (passes shots test) (take k chosen) ++ cond t (n ∷ []) []) (sym passed)
    ∙ sym (filter_more (passes shots test) chosen k n (number_at chosen k lt))

pub bounds-shots-number : goal.bounds-shots-number
bounds-shots-number c = below c.args.shots.now (meets c.args.span.size c.args.span.first c.args.stripe) c.args.chosen.now c.loop-number.number-index
    c.requires.chosen c.loop-number-test.true

pub end-requires : goal.end-requires
end-requires c =
    let lt = below c.args.shots.now (meets c.args.span.size c.args.span.first c.args.stripe) c.args.chosen.now c.loop-number.number-index
    c.requires.chosen c.loop-number-test.true in
    subst (IsPlaced c.args.span.size c.args.span.first c.args.span.count) (sym c.index-shots-number.is) (c.requires.placed
    (slice_index_or c.args.chosen.now c.loop-number.number-index 0) c.index-shots-number.result lt)

pub push_reserved-requires : goal.push_reserved-requires
push_reserved-requires c =
    let chosen = c.args.chosen.now in
    let shots = c.args.shots.now in
    let k = c.loop-number.number-index in
    let test = goes_on c.args.span.size c.args.span.first c.args.stripe in
    let len : vec_len c.loop-number.carried ≡ length c.loop-number.carried.items = search rules in
    omega (
      arith,
      len,
      ap length c.loop-number.invariant.items,
      filter_few (passes shots test) (take k chosen),
      length-take-le k chosen (omega (arith, c.loop-number-test.true)),
      c.loop-number-test.true,
      ap length c.requires.chosen,
      numbers_few (meets c.args.span.size c.args.span.first c.args.stripe) 0 shots,
      c.requires.room,
      c.loop-number.invariant.capacity,
    )

pub loop-number-preserved : goal.loop-number-preserved
loop-number-preserved c =
    let chosen = c.args.chosen.now in
    let shots = c.args.shots.now in
    let k = c.loop-number.number-index in
    let z = c.index-shots-number.result in
    let test = goes_on c.args.span.size c.args.span.first c.args.stripe in
    let lt = below shots (meets c.args.span.size c.args.span.first c.args.stripe) chosen k c.requires.chosen c.loop-number-test.true in
    let at = slice_get_read shots _ (slice_index_or chosen k 0) z refl lt c.index-shots-number.is in
    elim c.if-stripe-end.branch [
      | then-stripe-end w ↦ record {
        items = more shots test chosen c.loop-number.carried.items c.if-stripe-end.carried.items k z true c.loop-number-test.true at
            (ap (nat_lt c.args.stripe) (sym c.end.ensures.value) ∙ lt-ltb c.args.stripe c.end.result w.if-stripe-end.true)
            c.loop-number.invariant.items (ap (λ v. v.items) w.carried-is ∙ w.push_reserved.ensures.items);
        capacity = ap vec_capacity w.carried-is ∙ w.push_reserved.ensures.capacity ∙ c.loop-number.invariant.capacity;
      }
      | else-stripe-end w ↦ record {
        items = more shots test chosen c.loop-number.carried.items c.if-stripe-end.carried.items k z false c.loop-number-test.true at
            (ap (nat_lt c.args.stripe) (sym c.end.ensures.value) ∙ le-ltb c.args.stripe c.end.result w.if-stripe-end.false)
            c.loop-number.invariant.items (ap (λ v. v.items) w.carried-is ∙ sym (append-nil _));
        capacity = ap vec_capacity w.carried-is ∙ c.loop-number.invariant.capacity;
      }
    ]

pub returns-clause-numbers : goal.returns-clause-numbers
returns-clause-numbers c =
    let shots = c.args.shots.now in
    let size = c.args.span.size in
    let first = c.args.span.first in
    let test = goes_on size first c.args.stripe in
    c.loop-number.invariant.items
    ∙ ap (filter (passes shots test)) (take_all c.loop-number.number-index c.args.chosen.now (omega (arith, c.loop-number-test.false)) ∙ c.requires.chosen)
    ∙ filtered shots (meets size first c.args.stripe) test (comes_in size first (c.args.stripe + 1)) (λ z. next_ones (begin_at size first z)
    (end_at size first z) c.args.stripe) 0 shots refl
