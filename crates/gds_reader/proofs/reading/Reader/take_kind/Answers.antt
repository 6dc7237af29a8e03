use Rattle.std.proofs.Common.{rules, arith, Fits, w64, ◌<◌, ◌^◌, refl, sym, subst}
use Rattle.std.specs.Prelude.{◌≢◌}
use Rattle.layout_model.specs.Counting.{AreAtMost}
use Rattle.gds_record.specs.Framing.{IsRecordAt}
use Rattle.gds_record.specs.declared.kinds.Kind.TheVariants.{EndLib}
use Rattle.gds_record.proofs.ForCallers.{record_onward}
use Rattle.gds_reader.specs.Readers.{IsReaderOf}
use Rattle.gds_reader.proofs.reading.Reader.take_kind.Goals as goal
use Rattle.gds_reader.proofs.ReadLemmas.{refused_first, held, stands_on, few_counts}

-- the record that was found
found : (c : goal.After-take-arg-1) → IsRecordAt c.args.bytes.now c.args.at c.in-Some.current
found c = ((c.record_of_kind.ensures c.in-Some.current).0 c.in-Some.is).0

-- what is kept so far
kept : (c : goal.After-take-arg-1) → IsReaderOf c.args.bytes.now c.args.sorted.now c.requires.standing.past c.args.self.now
kept c = c.requires.standing.reader_is c.args.sorted.now (λ pair. refl)

pub take-requires-clause-held : goal.take-requires-clause-held
take-requires-clause-held c = held c.args.bytes.now c.args.at c.in-Some.current (λ i. omega (arith, c.type_inv.bytes i)) (found c)

pub take-requires-clause-at : goal.take-requires-clause-at
take-requires-clause-at c = (found c).first

pub take-requires-clause-few : goal.take-requires-clause-few
take-requires-clause-few c =
    let fits : Fits w64 c.args.at = search rules in
    let below : c.args.at < 2 ^ 64 = omega (arith, fits) in
    subst (AreAtMost (2 ^ 63)) (sym (kept c).counts)
    (few_counts c.args.bytes.now c.args.sorted.now c.requires.standing.past c.args.at c.requires.standing.few below)

pub take-requires-clause-named_held : goal.take-requires-clause-named_held
take-requires-clause-named_held c = (kept c).structure.held

pub take-requires-clause-named_valid : goal.take-requires-clause-named_valid
take-requires-clause-named_valid c = (kept c).structure.valid

pub take-requires-clause-target_held : goal.take-requires-clause-target_held
take-requires-clause-target_held c = (kept c).element.target_held

pub take-requires-clause-target_named : goal.take-requires-clause-target_named
take-requires-clause-target_named c = (kept c).element.target_named

pub take-requires-clause-orient : goal.take-requires-clause-orient
take-requires-clause-orient c = (kept c).orient

pub returns-in-Ok-clause-standing : goal.returns-in-Ok-clause-standing
returns-in-Ok-clause-standing c =
    let at = ((c.record_of_kind.ensures c.in-Some.current).0 c.in-Some.is) in
    let more : c.in-Some.current.kind ≢ EndLib = subst (λ k. k ≢ EndLib) (sym at.1) c.requires.goes_on in
    stands_on c.args.bytes.now c.args.unit c.args.sorted.now c.args.at c.args.self.now c.take.new.self c.in-Some.current c.requires.standing at.0 more
    (λ wanted same. c.in-Ok.ensures.reader c.requires.standing.past wanted same (c.requires.standing.reader_is wanted same))
    (λ wanted same. c.in-Ok.ensures.taken c.requires.standing.past wanted same (c.requires.standing.reader_is wanted same))

pub returns-in-Ok-clause-onward : goal.returns-in-Ok-clause-onward
returns-in-Ok-clause-onward c =
    let at = ((c.record_of_kind.ensures c.in-Some.current).0 c.in-Some.is).0 in
    omega (arith, record_onward c.args.bytes.now c.args.at c.in-Some.current at)

pub returns-in-Err-clause-first_fault : goal.returns-in-Err-clause-first_fault
returns-in-Err-clause-first_fault c = λ wanted same.
    refused_first c.args.bytes.now c.args.unit wanted c.args.sorted.now c.args.at c.args.self.now c.in-Some.current c.in-Err.refusal
    c.requires.standing same ((c.record_of_kind.ensures c.in-Some.current).0 c.in-Some.is).0
    (c.in-Err.ensures.refused c.requires.standing.past wanted same (c.requires.standing.reader_is wanted same))
