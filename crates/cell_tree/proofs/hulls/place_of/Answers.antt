use Rattle.std.proofs.Common.{◌≡◌, ◌<◌, pos, true, false, length, get_or, sym, ap, ◌∙◌, arith}
use Rattle.std.proofs.lemmas.List.{get_or_default}
use Rattle.std.proofs.lemmas.Option.{slice_get_within, get_or_from_slice_get}
use Rattle.layout_model.specs.Pairs.{same_pair}
use Rattle.cell_tree.specs.declared.hulls.PairHull.{PairHull}
use Rattle.cell_tree.proofs.HullLemmas.{IsPlace, IsMissing, widened_at, hull_at, widened_between, no_hull}
use Rattle.cell_tree.proofs.hulls.place_of.Goals as goal

zero : PairHull
zero = record { pair = record { layer = 0; datatype = 0 }; hull = record { x0 = pos 0; y0 = pos 0; x1 = pos 0; y1 = pos 0 } }

pub returns-then-eq-clause-ok : goal.returns-then-eq-clause-ok
unfolding zero
returns-then-eq-clause-ok c =
    let hulls = c.args.hulls.now in let k = c.rank-place.result in let pair = c.args.pair in
    let inside : k < length hulls = omega (arith, c.rank-place.ensures.within, c.if-place-hulls.false) in
    let is : same_pair (get_or hulls k zero).pair pair ≡ true = sym c.eq.ensures ∙ c.if-eq.true in
    let at : (d : PairHull) → same_pair (get_or hulls k d).pair pair ≡ true = λ d. ap (λ h. same_pair h.pair pair)
    (get_or_default hulls k d zero inside) ∙ is in
    let stands : IsPlace hulls pair k =
    record {
      within = c.rank-place.ensures.within;
      below = c.rank-place.ensures.below;
      above =
          c.rank-place.ensures.above;
    } in (
      inside,
      λ by. widened_at hulls pair by k (record { pair = pair; hull = by }) inside stands (at (record { pair = pair; hull = by })),
      λ here. hull_at hulls pair k here inside stands (at here),
    )

pub returns-then-place-hulls-clause-err : goal.returns-then-place-hulls-clause-err
returns-then-place-hulls-clause-err c =
    let hulls = c.args.hulls.now in let k = c.rank-place.result in let pair = c.args.pair in
    let stands : IsPlace hulls pair k =
    record {
      within = c.rank-place.ensures.within;
      below = c.rank-place.ensures.below;
      above =
          c.rank-place.ensures.above;
    } in
    let missing : IsMissing hulls pair k = λ here at. absurd (let less = slice_get_within hulls k here at in omega (arith, less, c.if-place-hulls.true)) in
    (c.rank-place.ensures.within, no_hull hulls pair k c.requires stands missing, λ by. widened_between hulls pair by k stands missing)

pub returns-clause-err : goal.returns-clause-err
unfolding zero
returns-clause-err c =
    let hulls = c.args.hulls.now in let k = c.rank-place.result in let pair = c.args.pair in
    let stands : IsPlace hulls pair k =
    record {
      within = c.rank-place.ensures.within;
      below = c.rank-place.ensures.below;
      above =
          c.rank-place.ensures.above;
    } in
    let other : same_pair (get_or hulls k zero).pair pair ≡ false = sym c.eq.ensures ∙ c.if-eq.false in
    let missing : IsMissing hulls pair k = λ here at. ap (λ h. same_pair h.pair pair) (sym (get_or_from_slice_get hulls k here zero at)) ∙ other in
    (c.rank-place.ensures.within, no_hull hulls pair k c.requires stands missing, λ by. widened_between hulls pair by k stands missing)
