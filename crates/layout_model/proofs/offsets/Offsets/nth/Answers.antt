use Rattle.std.proofs.Common.{sym, ap, ◌≡◌, ◌<◌, ◌*◌, ◌∙◌, Some, length, slice_get, arith}
use Rattle.layout_model.specs.Offsets.{list_of}
use Rattle.layout_model.specs.Grids.{nth_place}
use Rattle.layout_model.specs.declared.offsets.Places.TheVariants.{Regular}
use Rattle.layout_model.proofs.GridLemmas.{grid_count, grid_nth}
use Rattle.layout_model.proofs.offsets.Offsets.nth.Goals as goal

pub place-requires-clause-inside : goal.place-requires-clause-inside
place-requires-clause-inside c =
    let grid = c.in-Regular.grid.value in
    let list : list_of (Regular c.in-Regular.grid) ≡ c.args.self.now = ap list_of (sym c.in-Regular.is) ∙ c.self.view_is in
    let count = sym (ap length list) ∙ grid_count grid.nu grid.nv grid.u grid.v in
    let inside : c.args.k < grid.nu * grid.nv = omega (arith, count, c.requires) in
    rw c.deref-in-Regular.ensures inside

pub returns-in-Regular : goal.returns-in-Regular
returns-in-Regular c =
    let grid = c.in-Regular.grid.value in
    let list : list_of (Regular c.in-Regular.grid) ≡ c.args.self.now = ap list_of (sym c.in-Regular.is) ∙ c.self.view_is in
    let count = sym (ap length list) ∙ grid_count grid.nu grid.nv grid.u grid.v in
    let inside : c.args.k < grid.nu * grid.nv = omega (arith, count, c.requires) in
    sym (ap (λ xs. slice_get xs c.args.k) list) ∙ grid_nth grid.nu grid.nv grid.u grid.v c.args.k inside
    ∙ ap Some (sym (c.place.ensures ∙ ap (λ g. nth_place g.nu g.u g.v c.args.k) c.deref-in-Regular.ensures))
