use Rattle.std.proofs.Common.{◌≤◌, ℤ, pos, ◌+ℤ◌, ◌-ℤ◌, subst, sym, ap, ◌∙◌}
use Rattle.std.specs.Int.{int_div_euclid}
use Rattle.layout_model.specs.Intervals.{along}
use Rattle.flat_walk.specs.Rises.{signed, IsAmid}
use Rattle.flat_walk.proofs.RiseLemmas.{places_off}
use Rattle.flat_walk.proofs.rises.places_in.Goals as goal

pub divided-requires-clause-mag : goal.divided-requires-clause-mag
divided-requires-clause-mag c = subst (λ r. 1 ≤ r.mag) (sym c.rise_in-rise.ensures) c.requires.outer.enlarges

pub returns : goal.returns
returns c = λ p near out.
    let rise = c.rise_in-rise.ensures in
    let range = c.lowered-range in
    let whole = c.closed-range in
    let by = c.args.by in
    places_off c.args.outer c.args.at by p c.args.window c.args.rows c.within_reach.result c.apart.result range.result
    c.directed.result whole.result c.divided.result c.moved_back.result
    c.within_reach.ensures.low c.within_reach.ensures.high c.apart.ensures.low c.apart.ensures.high range.ensures.low range.ensures.high
    (subst (λ r. (z : ℤ) → IsAmid range.result (signed r.forward z) → IsAmid c.directed.result z) rise c.directed.ensures.amid)
    whole.ensures.low whole.ensures.high
    (c.divided.ensures.low ∙ ap (λ r. int_div_euclid whole.result.low (pos r.mag)) rise)
    (c.divided.ensures.high ∙ ap (λ r. int_div_euclid whole.result.high (pos r.mag)) rise)
    (c.moved_back.ensures.axis ∙ ap (λ r. r.axis) rise)
    (c.moved_back.ensures.low ∙ (ap (λ z. z -ℤ along c.rise_in-rise.result.axis by) c.from_next.ensures.low ∙ ap
    (λ r. (c.divided.result.low +ℤ pos 1) -ℤ along r.axis by) rise))
    (c.moved_back.ensures.high ∙ (ap (λ z. z -ℤ along c.rise_in-rise.result.axis by) c.from_next.ensures.high ∙ ap
    (λ r. c.divided.result.high -ℤ along r.axis by) rise))
    c.requires.outer c.requires.at c.requires.by c.requires.rows near out
