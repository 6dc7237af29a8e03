use Rattle.std.proofs.Common.{rules, ◌<◌, ◌^◌, ◌∙◌, length, refl, sym}
use Rattle.oas_record.specs.Plain.{rectangle_of}
use Rattle.layout_model.specs.Pairs.{AreSamePairs}
use Rattle.oas_reader.proofs.BodyLemmas.{body_within}
use Rattle.oas_reader.proofs.RecordRules.{dimensions_behind}
use Rattle.oas_reader.proofs.ReadLemmas.{stands_first, have_records, counted_few, counts_small, lexical_first}
use Rattle.oas_reader.proofs.ReadLemmas.{refused_first, stands_on, ended_ok, ended_bad}
use Rattle.oas_reader.proofs.reading.read_records.Goals as goal

pub records-init : goal.records-init
records-init c =
    stands_first c.args.bytes.now c.args.unit c.args.sorted.now c.new-reader.result c.requires.begins (c.new-reader.ensures.within c.args.bytes.now)
    (λ wanted. c.new-reader.ensures.reader c.args.bytes.now wanted)

pub take_rectangle-requires-clause-some : goal.take_rectangle-requires-clause-some
take_rectangle-requires-clause-some c = have_records c.args.bytes.now c.args.unit c.args.sorted.now c.records.at c.records.reader c.records.invariant

pub take_rectangle-requires-clause-counted : goal.take_rectangle-requires-clause-counted
take_rectangle-requires-clause-counted c =
    let small : length c.args.bytes.now < 2 ^ 63 = search rules in
    counted_few c.args.bytes.now c.args.unit c.args.sorted.now c.records.at c.records.reader c.records.invariant small

pub take_rectangle-requires-clause-few : goal.take_rectangle-requires-clause-few
take_rectangle-requires-clause-few c =
    let small : length c.args.bytes.now < 2 ^ 63 = search rules in
    counts_small c.args.bytes.now c.args.unit c.args.sorted.now c.records.at c.records.reader c.records.invariant small

pub returns-in-Err-clause-first_fault : goal.returns-in-Err-clause-first_fault
returns-in-Err-clause-first_fault c = λ wanted same.
    refused_first c.args.bytes.now c.args.unit wanted c.args.sorted.now c.records.at c.records.reader (rectangle_of c.in-Some.rectangle) c.in-Some.next
    c.in-Err.bad c.records.invariant same (c.in-Some.ensures.some c.records.reader.tables)
    (c.in-Err.ensures.refused c.args.unit c.in-Some.next wanted c.records.invariant.past same (c.records.invariant.reader_is wanted same)
    (dimensions_behind c.args.bytes.now c.args.unit wanted c.records.invariant.past c.records.at (c.records.invariant.allowed wanted same)))

pub records-preserved-in-Some : goal.records-preserved-in-Some
records-preserved-in-Some c =
    stands_on c.args.bytes.now c.args.unit c.args.sorted.now c.records.at c.records.reader c.take_rectangle.new.self (rectangle_of c.in-Some.rectangle)
    c.in-Some.next c.records.invariant (c.in-Some.ensures.some c.records.reader.tables) c.in-Some.ensures.onward c.in-Some.ensures.within refl
    c.in-Ok.ensures.within
    (λ wanted same.
    let reader = c.records.invariant.reader_is wanted same in
    let last = dimensions_behind c.args.bytes.now c.args.unit wanted c.records.invariant.past c.records.at (c.records.invariant.allowed wanted same) in
    record {
      order = c.in-Ok.ensures.order wanted c.records.invariant.past same reader;
      allowed = c.in-Ok.ensures.allowed c.args.unit c.in-Some.next wanted c.records.invariant.past same reader last;
      reader_is = c.in-Ok.ensures.reader wanted c.records.invariant.past same reader last;
    })

pub returns-in-Err-record_at-clause-first_fault : goal.returns-in-Err-record_at-clause-first_fault
returns-in-Err-record_at-clause-first_fault c = λ wanted same.
    lexical_first c.args.bytes.now c.args.unit wanted c.args.sorted.now c.records.at c.records.reader c.in-Err-record_at.bad c.lexical_bad.result
    c.records.invariant same c.in-Err-record_at.ensures.bad c.lexical_bad.ensures

pub take-requires-clause-body : goal.take-requires-clause-body
take-requires-clause-body c =
    body_within c.args.bytes.now c.records.at c.records.reader.tables c.in-Ok-record_at.found.0 c.in-Ok-record_at.found.1 c.in-Ok-record_at.ensures.ok

pub take-requires-clause-some : goal.take-requires-clause-some
take-requires-clause-some c = have_records c.args.bytes.now c.args.unit c.args.sorted.now c.records.at c.records.reader c.records.invariant

pub take-requires-clause-counted : goal.take-requires-clause-counted
take-requires-clause-counted c =
    let small : length c.args.bytes.now < 2 ^ 63 = search rules in
    counted_few c.args.bytes.now c.args.unit c.args.sorted.now c.records.at c.records.reader c.records.invariant small

pub take-requires-clause-few : goal.take-requires-clause-few
take-requires-clause-few c =
    let small : length c.args.bytes.now < 2 ^ 63 = search rules in
    counts_small c.args.bytes.now c.args.unit c.args.sorted.now c.records.at c.records.reader c.records.invariant small

pub returns-in-Err-take-clause-first_fault : goal.returns-in-Err-take-clause-first_fault
returns-in-Err-take-clause-first_fault c = λ wanted same.
    refused_first c.args.bytes.now c.args.unit wanted c.args.sorted.now c.records.at c.records.reader
    c.in-Ok-record_at.found.0 c.in-Ok-record_at.found.1 c.in-Err-take.bad
    c.records.invariant same c.in-Ok-record_at.ensures.ok
    (c.in-Err-take.ensures.refused wanted c.records.invariant.past same (c.records.invariant.reader_is wanted same)
    (dimensions_behind c.args.bytes.now c.args.unit wanted c.records.invariant.past c.records.at (c.records.invariant.allowed wanted same)))

pub records-preserved : goal.records-preserved
records-preserved c =
    stands_on c.args.bytes.now c.args.unit c.args.sorted.now c.records.at c.records.reader c.take.new.self c.in-Ok-record_at.found.0 c.in-Ok-record_at.found.1
    c.records.invariant c.in-Ok-record_at.ensures.ok c.in-Ok-record_at.ensures.onward c.in-Ok-record_at.ensures.within
    (sym c.is_end-is_last.ensures ∙ c.if-is_last.false)
    c.in-Ok-take.ensures.within
    (λ wanted same.
    let reader = c.records.invariant.reader_is wanted same in
    let last = dimensions_behind c.args.bytes.now c.args.unit wanted c.records.invariant.past c.records.at (c.records.invariant.allowed wanted same) in
    record {
      order = c.in-Ok-take.ensures.order wanted c.records.invariant.past same reader;
      allowed = c.in-Ok-take.ensures.allowed wanted c.records.invariant.past same reader last;
      reader_is = c.in-Ok-take.ensures.reader wanted c.records.invariant.past same reader last;
    })

pub returns-then-is_last-clause-found : goal.returns-then-is_last-clause-found
returns-then-is_last-clause-found c = λ wanted same.
    let reader = c.records.invariant.reader_is wanted same in
    let last = dimensions_behind c.args.bytes.now c.args.unit wanted c.records.invariant.past c.records.at (c.records.invariant.allowed wanted same) in
    let end = sym c.is_end-is_last.ensures ∙ c.if-is_last.true in
    let now = c.in-Ok-take.ensures.reader wanted c.records.invariant.past same reader last in
    ended_ok c.args.bytes.now c.args.unit wanted c.args.sorted.now c.records.at c.records.reader c.take.new.self
    c.in-Ok-record_at.found.0 c.in-Ok-record_at.found.1
    c.finish.result c.records.invariant same c.in-Ok-record_at.ensures.ok end
    (record {
      order = c.in-Ok-take.ensures.order wanted c.records.invariant.past same reader;
      allowed = c.in-Ok-take.ensures.allowed wanted c.records.invariant.past same reader last;
      reader_is = now;
    })
    (c.finish.ensures.ok wanted c.records.invariant.past _ now end c.records.invariant.goes_on)

pub returns-then-is_last-clause-grid : goal.returns-then-is_last-clause-grid
returns-then-is_last-clause-grid c =
    let same : AreSamePairs c.args.sorted.now c.args.sorted.now = λ pair. refl in
    let reader = c.records.invariant.reader_is c.args.sorted.now same in
    let last = dimensions_behind c.args.bytes.now c.args.unit c.args.sorted.now c.records.invariant.past c.records.at
    (c.records.invariant.allowed c.args.sorted.now same) in
    let end = sym c.is_end-is_last.ensures ∙ c.if-is_last.true in
    let now = c.in-Ok-take.ensures.reader c.args.sorted.now c.records.invariant.past same reader last in
    c.finish.ensures.grid c.args.sorted.now c.records.invariant.past _ now end c.records.invariant.goes_on

pub returns-then-is_last-clause-first_fault : goal.returns-then-is_last-clause-first_fault
returns-then-is_last-clause-first_fault c = λ wanted same.
    let reader = c.records.invariant.reader_is wanted same in
    let last = dimensions_behind c.args.bytes.now c.args.unit wanted c.records.invariant.past c.records.at (c.records.invariant.allowed wanted same) in
    let end = sym c.is_end-is_last.ensures ∙ c.if-is_last.true in
    let now = c.in-Ok-take.ensures.reader wanted c.records.invariant.past same reader last in
    ended_bad c.args.bytes.now c.args.unit wanted c.args.sorted.now c.records.at c.records.reader c.take.new.self
    c.in-Ok-record_at.found.0 c.in-Ok-record_at.found.1
    c.finish.result c.records.invariant same c.in-Ok-record_at.ensures.ok end
    (record {
      order = c.in-Ok-take.ensures.order wanted c.records.invariant.past same reader;
      allowed = c.in-Ok-take.ensures.allowed wanted c.records.invariant.past same reader last;
      reader_is = now;
    })
    (c.finish.ensures.bad wanted c.records.invariant.past _ now end c.records.invariant.goes_on)
