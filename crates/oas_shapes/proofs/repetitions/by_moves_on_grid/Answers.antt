use Rattle.std.proofs.Common.{◌∙◌, map, sym, subst}
use Rattle.layout_model.specs.Images.{enlarged}
use Rattle.layout_model.specs.Layouts.{AreOffsets}
use Rattle.oas_shapes.specs.Plane.{origin, places_along}
use Rattle.oas_shapes.specs.Rules.{AreNear}
use Rattle.oas_shapes.proofs.NearLemmas.{are_offsets}
use Rattle.oas_shapes.proofs.TrailLemmas.{some_places}
use Rattle.oas_shapes.proofs.repetitions.by_moves_on_grid.Goals as goal

pub listed-requires : goal.listed-requires
listed-requires c =
    subst AreOffsets (sym (c.as_slice.ensures ∙ c.in-Ok.ensures.places))
    (are_offsets (places_along origin (map (enlarged c.args.grid) c.args.moves.now))
    (some_places origin (map (enlarged c.args.grid) c.args.moves.now))
    (subst AreNear c.in-Ok.ensures.places c.in-Ok.ensures.near))
