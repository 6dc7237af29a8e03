use Rattle.std.proofs.Common.{sym, subst}
use Rattle.layout_model.specs.Pairs.{AreSorted, AreSamePairs}
use Rattle.oas_reader.proofs.ReadLemmas.{every_layout, every_first_fault}
use Rattle.oas_reader.proofs.reading.read_oas.Goals as goal

pub read_records-requires-clause-sorted : goal.read_records-requires-clause-sorted
read_records-requires-clause-sorted c = subst AreSorted (sym c.as_slice.ensures.value) c.in-Ok.ensures.order

pub returns-in-Ok-clause-read : goal.returns-in-Ok-clause-read
returns-in-Ok-clause-read c =
    let same = subst (AreSamePairs c.args.wanted.now) (sym c.as_slice.ensures.value) c.in-Ok.ensures.same in
    every_layout c.args.bytes.now c.args.unit c.args.wanted.now c.read_records.result (c.read_records.ensures.found c.args.wanted.now same)
    (c.read_records.ensures.first_fault c.args.wanted.now same)

pub returns-in-Ok-clause-every_fault : goal.returns-in-Ok-clause-every_fault
returns-in-Ok-clause-every_fault c =
    let same = subst (AreSamePairs c.args.wanted.now) (sym c.as_slice.ensures.value) c.in-Ok.ensures.same in
    every_first_fault c.args.bytes.now c.args.unit c.args.wanted.now c.read_records.result (c.read_records.ensures.found c.args.wanted.now same)
    (c.read_records.ensures.first_fault c.args.wanted.now same)
