use Rattle.std.proofs.Common.{◌≡◌, ◌*◌, refl, subst}
use Rattle.layout_model.specs.Strides.{mark, Finds}
use Rattle.layout_model.proofs.RulerLemmas.{listed}
use Rattle.layout_model.proofs.offsets.Grid.first_in.Goals as goal

pub returns : goal.returns
returns c =
    let s = c.args.self in
    let r = c.ruler.result in
    let count : r.nu * r.nv ≡ s.nu * s.nv = rw (c.ruler.ensures.nu, c.ruler.ensures.nv) refl in
    listed c.args.interval s.nu s.nv s.u s.v (mark r) c.args.from c.first_in.result c.ruler.ensures.same
    (subst (λ n. Finds c.args.interval (mark r) c.args.from n c.first_in.result) count c.first_in.ensures)
