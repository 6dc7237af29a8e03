use Rattle.std.proofs.Common.{sym}
use Rattle.layout_model.proofs.GridLemmas.{one_place}
use Rattle.layout_model.proofs.offsets.Offsets.grid.Goals as goal

pub returns-then-nu-nv-eq1-clause-ok : goal.returns-then-nu-nv-eq1-clause-ok
returns-then-nu-nv-eq1-clause-ok c = sym (one_place c.args.nu c.args.nv c.args.u c.args.v c.if-nu-nv-eq1.true)
