use Rattle.std.proofs.Common.{◌∙◌, sym}
use Rattle.oas_shapes.proofs.VertexLemmas.{some_points}
use Rattle.oas_shapes.proofs.path_lists.made_path.Goals as goal

pub box_of-hull-requires : goal.box_of-hull-requires
box_of-hull-requires c = λ none.
    some_points c.args.at c.args.written.now (sym (c.as_slice.ensures ∙ c.in-Ok.ensures.places) ∙ none)
