use Rattle.std.proofs.Common.{FitsSigned, w64, subst, sym, rules}
use Rattle.std.proofs.lemmas.Int.{to_z-of_z}
use Rattle.density_map.specs.Rows.{RowMap, row_map, IsApartFrom}
use Rattle.density_map.proofs.SumLemmas.{room}
use Rattle.density_map.proofs.rows.MapRow.add.Goals as goal

pub add_windows-requires-clause-room : goal.add_windows-requires-clause-room
add_windows-requires-clause-room c =
    let fs : FitsSigned w64 c.self.inside.size = search rules in
    let fr : FitsSigned w64 c.self.inside.row = search rules in
    let apart : IsApartFrom (row_map c.self.inside.size c.self.inside.row c.self.inside.counts.items) c.args.trap.now =
    subst (λ (n : RowMap). IsApartFrom n c.args.trap.now) (sym c.self.view_is) c.requires.apart in
    simp to_z-of_z (room (row_map c.self.inside.size c.self.inside.row c.self.inside.counts.items) c.args.trap.now c.self.invariant.size apart)
