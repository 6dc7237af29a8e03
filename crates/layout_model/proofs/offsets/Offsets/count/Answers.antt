use Rattle.std.proofs.Common.{sym, ap, ◌≡◌, ◌*◌, ◌∙◌, length, refl}
use Rattle.layout_model.specs.Offsets.{list_of}
use Rattle.layout_model.specs.declared.offsets.Places.TheVariants.{Regular}
use Rattle.layout_model.proofs.GridLemmas.{grid_count}
use Rattle.layout_model.proofs.offsets.Offsets.count.Goals as goal

pub returns-in-Regular : goal.returns-in-Regular
returns-in-Regular c =
    let grid = c.in-Regular.grid.value in
    let list : list_of (Regular c.in-Regular.grid) ≡ c.args.self.now = ap list_of (sym c.in-Regular.is) ∙ c.self.view_is in
    let count : length c.args.self.now ≡ grid.nu * grid.nv = sym (ap length list) ∙ grid_count grid.nu grid.nv grid.u grid.v in
    rw (c.from.ensures, c.from-in-Regular.ensures, c.deref-in-Regular.ensures, c.deref-in-Regular-2.ensures, count) refl
