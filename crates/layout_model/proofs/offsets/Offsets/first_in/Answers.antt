use Rattle.std.proofs.Common.{sym, ap, subst, ◌≡◌, ◌<◌, ◌*◌, ◌∙◌, MatchOption, length, arith}
use Rattle.layout_model.specs.Grids.{grid_places}
use Rattle.layout_model.specs.Intervals.{HasNoneIn, IsFirstIn}
use Rattle.layout_model.specs.Offsets.{list_of}
use Rattle.layout_model.specs.declared.offsets.Places.TheVariants.{Regular}
use Rattle.layout_model.proofs.GridLemmas.{grid_count}
use Rattle.layout_model.proofs.offsets.Offsets.first_in.Goals as goal

pub first_in-requires-clause-inside : goal.first_in-requires-clause-inside
first_in-requires-clause-inside c =
    let grid = c.in-Regular.grid.value in
    let list : list_of (Regular c.in-Regular.grid) ≡ c.args.self.now = ap list_of (sym c.in-Regular.is) ∙ c.self.view_is in
    let count = sym (ap length list) ∙ grid_count grid.nu grid.nv grid.u grid.v in
    let here = c.count.ensures in
    let early = c.if-from-count.false in
    let inside : c.args.from < grid.nu * grid.nv = omega (arith, count, here, early) in
    rw c.deref-in-Regular.ensures inside

pub returns-in-Regular : goal.returns-in-Regular
returns-in-Regular c =
    let grid = c.in-Regular.grid.value in
    let list : list_of (Regular c.in-Regular.grid) ≡ c.args.self.now = ap list_of (sym c.in-Regular.is) ∙ c.self.view_is in
    let places = grid_places grid.nu grid.nv grid.u grid.v in
    let here : MatchOption c.first_in.result (HasNoneIn c.args.interval places c.args.from (grid.nu * grid.nv))
    (IsFirstIn c.args.interval places c.args.from) = subst
    (λ g. MatchOption c.first_in.result
    (HasNoneIn c.args.interval (grid_places g.nu g.nv g.u g.v) c.args.from (g.nu * g.nv))
    (IsFirstIn c.args.interval (grid_places g.nu g.nv g.u g.v) c.args.from))
    c.deref-in-Regular.ensures c.first_in.ensures in
    let counted : MatchOption c.first_in.result (HasNoneIn c.args.interval places c.args.from (length places))
    (IsFirstIn c.args.interval places c.args.from) = subst
    (λ n. MatchOption c.first_in.result (HasNoneIn c.args.interval places c.args.from n)
    (IsFirstIn c.args.interval places c.args.from)) (sym (grid_count grid.nu grid.nv grid.u grid.v)) here in
    subst (λ xs. MatchOption c.first_in.result (HasNoneIn c.args.interval xs c.args.from (length xs)) (IsFirstIn c.args.interval xs c.args.from)) list counted
