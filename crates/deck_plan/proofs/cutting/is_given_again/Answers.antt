use Rattle.std.proofs.Common.{◌-◌, ◌∙◌, ap, sym, arith, Some}
use Rattle.std.proofs.lemmas.Option.{same_Some}
use Rattle.layout_model.specs.ShapeLists.{shape_in}
use Rattle.deck_plan.proofs.cutting.is_given_again.Goals as goal

pub returns : goal.returns
returns c = λ again shape here. record {
  earlier = c.args.number - 1;
  before = omega (arith, c.if-number-eq0.false);
  same = c.get.ensures ∙ ap Some (c.is_again.ensures again ∙ same_Some (shape_in c.get-2.result) shape (sym c.get-2.ensures ∙ here));
}
