use Rattle.std.proofs.Common.{sym, subst}
use Rattle.layout_model.specs.Pairs.{AreSamePairs, AreSorted}
use Rattle.gds_reader.proofs.reading.read_gds.Goals as goal
use Rattle.gds_reader.proofs.ReadLemmas.{every_layout, every_first_fault}

pub read_records-requires : goal.read_records-requires
read_records-requires c = subst AreSorted (sym c.as_slice.ensures.value) c.in_ok-sorted.ensures.order

pub returns-clause-read : goal.returns-clause-read
returns-clause-read c =
    let same = subst (AreSamePairs c.args.wanted.now) (sym c.as_slice.ensures.value) c.in_ok-sorted.ensures.same in
    every_layout c.args.bytes.now c.args.unit c.args.wanted.now c.read_records.result (c.read_records.ensures.found c.args.wanted.now same)
    (c.read_records.ensures.first_fault c.args.wanted.now same)

pub returns-clause-every_fault : goal.returns-clause-every_fault
returns-clause-every_fault c =
    let same = subst (AreSamePairs c.args.wanted.now) (sym c.as_slice.ensures.value) c.in_ok-sorted.ensures.same in
    every_first_fault c.args.bytes.now c.args.unit c.args.wanted.now c.read_records.result (c.read_records.ensures.found c.args.wanted.now same)
    (c.read_records.ensures.first_fault c.args.wanted.now same)
