use Rattle.std.proofs.Common.{◌∷◌, sym, subst}
use Rattle.oas_fields.specs.Values.{AreFields}
use Rattle.oas_reader.specs.Items.{records_in}
use Rattle.oas_reader.specs.Order.{ids_of}
use Rattle.oas_reader.proofs.TakenLemmas.{order_on, place_on, taken_on, body_refused, file_refused, body_allowed, tables_on}
use Rattle.oas_reader.proofs.reading.Reader.take.Goals as goal

pub returns-in-Err-clause-refused : goal.returns-in-Err-clause-refused
returns-in-Err-clause-refused c = λ wanted past same reader last.
    let outline = c.outline_of-outline.ensures in
    let taken = taken_on wanted c.args.sorted.now (records_in past) c.args.current c.outline_of-outline.result c.take_fields.new.fields same outline.body
    outline.repeats outline.dimensions (c.take_fields.ensures.fields (records_in past) reader.fields) last in
    body_refused c.args.bytes.now c.args.unit wanted past c.args.at c.args.current c.args.next c.in-Err.bad
    (order_on (records_in past) c.args.current c.id_of.result c.id_of.ensures (c.in-Some.ensures.some (ids_of (records_in past)) reader.place).0)
    (c.in-Err.ensures.bad wanted past c.args.current taken reader.names)

pub returns-in-Err-look_at_file-clause-refused : goal.returns-in-Err-look_at_file-clause-refused
returns-in-Err-look_at_file-clause-refused c = λ wanted past same reader last.
    let outline = c.outline_of-outline.ensures in
    let taken = taken_on wanted c.args.sorted.now (records_in past) c.args.current c.outline_of-outline.result c.take_fields.new.fields same outline.body
    outline.repeats outline.dimensions (c.take_fields.ensures.fields (records_in past) reader.fields) last in
    file_refused c.args.bytes.now c.args.unit wanted past c.args.at c.args.current c.args.next c.outline_of-outline.result.body c.in-Err-look_at_file.bad
    outline.body
    (order_on (records_in past) c.args.current c.id_of.result c.id_of.ensures (c.in-Some.ensures.some (ids_of (records_in past)) reader.place).0)
    (c.in-Ok.ensures.kept wanted past c.args.current taken reader.names) c.in-Err-look_at_file.ensures.broken

pub returns-clause-reader : goal.returns-clause-reader
returns-clause-reader c = λ wanted past same reader last.
    let outline = c.outline_of-outline.ensures in
    let values = c.take_fields.ensures.fields (records_in past) reader.fields in
    let taken = taken_on wanted c.args.sorted.now (records_in past) c.args.current c.outline_of-outline.result c.take_fields.new.fields same outline.body
    outline.repeats outline.dimensions values last in
    record {
      place = place_on (records_in past) c.args.current c.id_of.result c.in-Some.place c.id_of.ensures
          (c.in-Some.ensures.some (ids_of (records_in past)) reader.place).1;
      tables =
          tables_on (records_in past) c.args.current c.outline_of-outline.result.body c.args.self.now.tables c.take_body.new.self.tables
          c.tables_after-self.result c.tables_after-self.ensures c.in-Ok.ensures.tables reader.tables outline.body;
      fields = subst (AreFields (c.args.current ∷ records_in past)) (sym c.in-Ok.ensures.fields) values;
      names = c.in-Ok.ensures.names past c.args.current outline.body reader.names;
      drafts = c.in-Ok.ensures.drafts wanted past c.args.current taken reader.drafts;
      counts = c.in-Ok.ensures.counts wanted (records_in past) c.args.current taken reader.counts;
    }

pub returns-clause-allowed : goal.returns-clause-allowed
returns-clause-allowed c = λ wanted past same reader last.
    let outline = c.outline_of-outline.ensures in
    let taken = taken_on wanted c.args.sorted.now (records_in past) c.args.current c.outline_of-outline.result c.take_fields.new.fields same outline.body
    outline.repeats outline.dimensions (c.take_fields.ensures.fields (records_in past) reader.fields) last in
    body_allowed c.args.bytes.now c.args.unit wanted past c.args.at c.args.current c.args.next c.outline_of-outline.result.body outline.body
    (c.in-Ok.ensures.kept wanted past c.args.current taken reader.names) c.in-Ok-look_at_file.ensures.kept
