use Rattle.std.proofs.Common.{◌≡◌, ◌∙◌, sym, subst, true, false, not, ◌&&◌, nat_eq, Bool, refl, arith}
use Rattle.layout_model.specs.declared.pair.Pair.{Pair}
use Rattle.layout_model.specs.ShapeLists.{shape_in}
use Rattle.flat_walk.specs.Walks.{is_on}
use Rattle.flat_walk.proofs.BoxLemmas.{places_past}
use Rattle.flat_walk.proofs.RestLemmas.{places_off, not_false}
use Rattle.flat_walk.proofs.owned.Cursor.has_more.Goals as goal

not_true : (b : Bool) → not b ≡ true → b ≡ false
not_true true h = sym h
not_true false h = refl

pub returns-then-ne-clause-less : goal.returns-then-ne-clause-less
returns-then-ne-clause-less c = λ no pieces.
    let off : is_on c.args.pair (shape_in c.args.shape) ≡ false =
    subst (λ (p : Pair). (nat_eq p.layer c.args.pair.layer && nat_eq p.datatype c.args.pair.datatype) ≡ false) c.pair.ensures
    (not_true _ (sym c.ne.ensures ∙ c.if-ne.true)) in
    places_off c.args.pair (shape_in c.args.shape) pieces c.args.self.now.place off

pub returns-then-count-self-clause-less : goal.returns-then-count-self-clause-less
returns-then-count-self-clause-less c = λ no pieces.
    places_past c.args.pair (shape_in c.args.shape) pieces c.args.self.now.place (omega (arith, c.if-count-self.true, c.count.ensures))

pub returns-clause-on : goal.returns-clause-on
returns-clause-on c = λ yes.
    subst (λ (p : Pair). (nat_eq p.layer c.args.pair.layer && nat_eq p.datatype c.args.pair.datatype) ≡ true) c.pair.ensures
    (not_false _ (sym c.ne.ensures ∙ c.if-ne.false))
