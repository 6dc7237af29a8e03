use Rattle.std.proofs.Common.{sym, ap, subst, ◌≡◌, ◌*◌, ◌∙◌, length}
use Rattle.layout_model.specs.Offsets.{list_of, IsSound}
use Rattle.layout_model.specs.declared.offsets.Places.TheVariants.{Regular}
use Rattle.layout_model.proofs.GridLemmas.{grid_count}
use Rattle.layout_model.proofs.offsets.Offsets.copy.Goals as goal

pub returns-in_err-new-in-Regular-clause-one : goal.returns-in_err-new-in-Regular-clause-one
returns-in_err-new-in-Regular-clause-one c = λ one.
    let grid = c.in-Regular.grid.value in
    let list : list_of (Regular c.in-Regular.grid) ≡ c.args.self.now = ap list_of (sym c.in-Regular.is) ∙ c.self.view_is in
    let count : length c.args.self.now ≡ grid.nu * grid.nv = sym (ap length list) ∙ grid_count grid.nu grid.nv grid.u grid.v in
    let sound : IsSound (Regular c.in-Regular.grid) = subst IsSound c.in-Regular.is c.self.invariant in
    absurd (sound.1 (sym count ∙ one))
