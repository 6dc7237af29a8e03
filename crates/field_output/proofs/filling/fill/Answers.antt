use Rattle.std.proofs.Common.{◌++◌, ◌∷◌, [], ℕ, List, ap, sym, ◌∙◌, append_assoc}
use Rattle.field_output.proofs.filling.fill.Goals as goal

pub loop-number-preserved : goal.loop-number-preserved
loop-number-preserved g c = record {
  items = λ items before.
      let p = c.loop-number.invariant.items items before in
      let first = c.in-Some.ensures.first p.0 p.2 in (
        first.0,
        p.1 ∙ ap (λ (rest : List ℕ). c.loop-number.numbers.items ++ rest) first.1 ∙ sym (append_assoc c.loop-number.numbers.items
            (c.in-Some.number ∷ []) first.0) ∙ ap (λ (front : List ℕ). front ++ first.0) (sym c.push_reserved.ensures.items),
        first.2,
      );
  capacity = c.push_reserved.ensures.capacity ∙ c.loop-number.invariant.capacity;
}
