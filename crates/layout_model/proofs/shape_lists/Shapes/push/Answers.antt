use Rattle.std.proofs.Common.{◌≡◌, ◌++◌, ◌∷◌, [], length, ap, ◌∙◌, length-append, arith}
use Rattle.layout_model.specs.ShapeLists.{shapes_of}
use Rattle.layout_model.proofs.ShapeListLemmas.{own_pushed, runs_among_more}
use Rattle.layout_model.proofs.shape_lists.Shapes.push.Goals as goal

pub invariant_of-self-2 : goal.invariant_of-self-2
invariant_of-self-2 c =
    let own = c.self.inside.own in let runs = c.self.inside.runs in let shape = c.args.shape in
    let new : c.push.new.self ≡ own ++ shape ∷ [] = c.in_ok-push.ensures.ok in
    let longer = length-append own (shape ∷ []) in
    let all = ap length (own_pushed own shape 0 0 runs c.self.invariant.order) in
    let sum = length-append (shapes_of own runs) (shape ∷ []) in
    rw new record {
      order = runs_among_more (length own) (length (own ++ shape ∷ [])) 0 0 runs (omega (arith, longer)) c.self.invariant.order;
      times = c.self.invariant.times;
      total = omega (arith, all, sum, c.self.invariant.total, c.in-Some.ensures);
    }

pub returns : goal.returns
returns c =
    let own = c.self.inside.own in let runs = c.self.inside.runs in let shape = c.args.shape in
    let new : c.push.new.self ≡ own ++ shape ∷ [] = c.in_ok-push.ensures.ok in
    rw new (own_pushed own shape 0 0 runs c.self.invariant.order ∙ ap (λ l. l ++ shape ∷ []) c.self.view_is)
