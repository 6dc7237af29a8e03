use Rattle.std.proofs.Common.{rules, arith, Fits, w64, ◌≡◌, ◌<◌, ◌^◌, [], refl, sym, subst}
use Rattle.std.specs.Prelude.{◌≢◌}
use Rattle.std.proofs.lemmas.Grind.{common_steps}
use Rattle.gds_record.specs.declared.kinds.Kind.TheVariants.{EndLib}
use Rattle.layout_model.specs.Pairs.{AreSamePairs}
use Rattle.layout_model.specs.Counting.{AreAtMost}
use Rattle.gds_reader.proofs.reading.read_records.Goals as goal
use Rattle.gds_reader.proofs.ReadLemmas.{IsEnded, framing_first, refused_first, held, stands_on, few_counts, taken_allowed, ended_ok, ended_grid, ended_bad}

pub records-init : goal.records-init
records-init c = record {
  past = [];
  run = refl;
  goes_on = tt;
  few = omega arith;
  within = omega arith;
  allowed = λ wanted same. tt;
  reader_is = λ wanted same. c.new-reader.ensures c.args.bytes.now wanted;
}

pub returns-in-Err-record_at-clause-first_fault : goal.returns-in-Err-record_at-clause-first_fault
returns-in-Err-record_at-clause-first_fault c = λ wanted same.
    framing_first c.args.bytes.now c.args.unit wanted c.args.sorted.now c.in-Ok.from c.take_boundaries.new.self c.in-Err-record_at.fault c.framing_bad.result
    c.in-Ok.ensures.standing same ((c.record_at.ensures.fault c.in-Err-record_at.fault).0 c.in-Err-record_at.is) c.framing_bad.ensures

pub take-requires-clause-held : goal.take-requires-clause-held
take-requires-clause-held c =
    held c.args.bytes.now c.in-Ok.from c.in-Ok-record_at.current (λ i. omega (arith, c.type_inv.bytes i))
    ((c.record_at.ensures.found c.in-Ok-record_at.current).0 c.in-Ok-record_at.is)

pub take-requires-clause-few : goal.take-requires-clause-few
take-requires-clause-few c =
    let same : AreSamePairs c.args.sorted.now c.args.sorted.now = λ pair. refl in
    let fits : Fits w64 c.in-Ok.from = search rules in
    let below : c.in-Ok.from < 2 ^ 64 = omega (arith, fits) in
    subst (AreAtMost (2 ^ 63)) (sym (c.in-Ok.ensures.standing.reader_is c.args.sorted.now same).counts)
    (few_counts c.args.bytes.now c.args.sorted.now c.in-Ok.ensures.standing.past c.in-Ok.from c.in-Ok.ensures.standing.few below)

pub take-requires-clause-named_held : goal.take-requires-clause-named_held
take-requires-clause-named_held c = (c.in-Ok.ensures.standing.reader_is c.args.sorted.now (λ pair. refl)).structure.held

pub take-requires-clause-named_valid : goal.take-requires-clause-named_valid
take-requires-clause-named_valid c = (c.in-Ok.ensures.standing.reader_is c.args.sorted.now (λ pair. refl)).structure.valid

pub take-requires-clause-target_held : goal.take-requires-clause-target_held
take-requires-clause-target_held c = (c.in-Ok.ensures.standing.reader_is c.args.sorted.now (λ pair. refl)).element.target_held

pub take-requires-clause-target_named : goal.take-requires-clause-target_named
take-requires-clause-target_named c = (c.in-Ok.ensures.standing.reader_is c.args.sorted.now (λ pair. refl)).element.target_named

pub take-requires-clause-orient : goal.take-requires-clause-orient
take-requires-clause-orient c = (c.in-Ok.ensures.standing.reader_is c.args.sorted.now (λ pair. refl)).orient

pub returns-in-Err-take-clause-first_fault : goal.returns-in-Err-take-clause-first_fault
returns-in-Err-take-clause-first_fault c = λ wanted same.
    refused_first c.args.bytes.now c.args.unit wanted c.args.sorted.now c.in-Ok.from c.take_boundaries.new.self c.in-Ok-record_at.current c.in-Err-take.refusal
    c.in-Ok.ensures.standing same ((c.record_at.ensures.found c.in-Ok-record_at.current).0 c.in-Ok-record_at.is)
    (c.in-Err-take.ensures.refused c.in-Ok.ensures.standing.past wanted same (c.in-Ok.ensures.standing.reader_is wanted same))

-- the library has ended
ended : (c : goal.After-finish) → IsEnded c.args.bytes.now c.args.unit c.args.sorted.now c.in-Ok-record_at.current.next c.take.new.self
ended c =
    let end : c.in-Ok-record_at.current.kind ≡ EndLib = first_of (search rules, grind (arith, common_steps)) in
    record {
      past = c.in-Ok.ensures.standing.past;
      from = c.in-Ok.from;
      r = c.in-Ok-record_at.current;
      stands = (c.record_at.ensures.found c.in-Ok-record_at.current).0 c.in-Ok-record_at.is;
      run = c.in-Ok.ensures.standing.run;
      goes_on = c.in-Ok.ensures.standing.goes_on;
      next_is = refl;
      end = end;
      allowed = λ wanted same. (
        taken_allowed c.args.bytes.now c.args.unit wanted c.in-Ok.ensures.standing.past c.in-Ok-record_at.current
            (c.in-Ok-take.ensures.taken c.in-Ok.ensures.standing.past wanted same (c.in-Ok.ensures.standing.reader_is wanted same)),
        c.in-Ok.ensures.standing.allowed wanted same,
      );
      reader_is = λ wanted same.
          c.in-Ok-take.ensures.reader c.in-Ok.ensures.standing.past wanted same (c.in-Ok.ensures.standing.reader_is wanted same);
    }

pub records-preserved : goal.records-preserved
records-preserved c =
    let more : c.in-Ok-record_at.current.kind ≢ EndLib = first_of (search rules, grind (arith, common_steps)) in
    stands_on c.args.bytes.now c.args.unit c.args.sorted.now c.in-Ok.from c.take_boundaries.new.self c.take.new.self c.in-Ok-record_at.current
    c.in-Ok.ensures.standing
    ((c.record_at.ensures.found c.in-Ok-record_at.current).0 c.in-Ok-record_at.is) more
    (λ wanted same. c.in-Ok-take.ensures.reader c.in-Ok.ensures.standing.past wanted same (c.in-Ok.ensures.standing.reader_is wanted same))
    (λ wanted same. c.in-Ok-take.ensures.taken c.in-Ok.ensures.standing.past wanted same (c.in-Ok.ensures.standing.reader_is wanted same))

pub returns-then-eq-clause-found : goal.returns-then-eq-clause-found
returns-then-eq-clause-found c = λ wanted same.
    ended_ok c.args.bytes.now c.args.unit wanted c.args.sorted.now c.in-Ok-record_at.current.next c.take.new.self c.finish.result (ended c) same
    c.finish.ensures.cells c.finish.ensures.counts c.finish.ensures.blank

pub returns-then-eq-clause-grid : goal.returns-then-eq-clause-grid
returns-then-eq-clause-grid c =
    ended_grid c.args.bytes.now c.args.unit c.args.sorted.now c.in-Ok-record_at.current.next c.take.new.self c.finish.result (ended c) c.finish.ensures.cells

pub returns-then-eq-clause-first_fault : goal.returns-then-eq-clause-first_fault
returns-then-eq-clause-first_fault c = λ wanted same.
    ended_bad c.args.bytes.now c.args.unit wanted c.args.sorted.now c.in-Ok-record_at.current.next c.take.new.self c.finish.result (ended c) same
    c.finish.ensures.tail
