use Rattle.std.proofs.Common.{ℕ, ◌+◌, ◌*◌, FitsSigned, w64, rules, ap, ◌∙◌}
use Rattle.std.proofs.lemmas.Int.{to_z-of_z}
use Rattle.plane_sweep.specs.PackedEvents.{unpacked}
use Rattle.plane_sweep.proofs.PackedLemmas.{unpacked_same}
use Rattle.plane_sweep.proofs.packed.pack.Goals as goal

pub returns : goal.returns
returns c =
    let fits : FitsSigned w64 c.args.event.now.y = search rules in
    let e = c.args.event.now in
    let m = c.moved_up.result in
    simp to_z-of_z
    (ap (λ (k : ℕ). unpacked e.y (m * 16 + k)) c.kind_of.ensures.value ∙ unpacked_same e m c.requires.on_line c.moved_up.ensures.value)
