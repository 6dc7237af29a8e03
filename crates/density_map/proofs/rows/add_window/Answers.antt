use Rattle.std.proofs.Common.{ℕ, ◌+◌, ◌^◌, ◌<◌, FitsSigned, w64, ap, subst, sym, ◌∙◌, rules}
use Rattle.std.proofs.lemmas.Int.{to_z-of_z}
use Rattle.half_grid.specs.declared.extent.Frame.{Frame}
use Rattle.density_map.specs.Frames.{count_in_frame}
use Rattle.density_map.specs.Counts.{count_at}
use Rattle.density_map.proofs.rows.add_window.Goals as goal

pub add_at-requires-clause-small : goal.add_at-requires-clause-small
add_at-requires-clause-small c =
    let fc : FitsSigned w64 c.args.columns.now.first = search rules in
    let e = c.tiles_in.ensures.value ∙ ap (λ (f : Frame). count_in_frame f c.args.trap.now) c.window-frame.ensures.value in
    simp to_z-of_z (subst (λ (n : ℕ). count_at c.args.columns.now.first c.args.counts.now.items + n < 2 ^ 128) (sym e) c.requires.room)
