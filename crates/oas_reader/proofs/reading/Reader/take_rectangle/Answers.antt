use Rattle.std.proofs.Common.{◌∷◌, ◌^◌, refl, sym, subst}
use Rattle.oas_fields.specs.Values.{AreFields, IsPlaceWithin}
use Rattle.oas_record.specs.Plain.{rectangle_of}
use Rattle.oas_reader.specs.Items.{records_in}
use Rattle.oas_reader.specs.Order.{ids_of}
use Rattle.oas_reader.specs.declared.bodies.Body.TheVariants as bodies
use Rattle.oas_reader.proofs.TakenLemmas.{order_on, place_on, plain_taken, plain_allowed, body_refused, tables_on}
use Rattle.oas_reader.proofs.reading.Reader.take_rectangle.Goals as goal

pub returns-in-Err-clause-refused : goal.returns-in-Err-clause-refused
returns-in-Err-clause-refused c = λ unit next wanted past same reader last.
    let r = rectangle_of c.args.current.now in
    let taken = plain_taken wanted c.args.sorted.now (records_in past) c.args.current.now c.take_rectangle_fields.new.fields same
    (c.take_rectangle_fields.ensures.fields (records_in past) reader.fields) last in
    body_refused c.args.bytes.now unit wanted past c.args.at r next c.in-Err.bad
    (order_on (records_in past) r 20 refl (c.in-Some.ensures.some (ids_of (records_in past)) reader.place).0)
    (c.in-Err.ensures.bad wanted past r taken reader.names)

pub returns-clause-reader : goal.returns-clause-reader
returns-clause-reader c = λ wanted past same reader last.
    let r = rectangle_of c.args.current.now in
    let values = c.take_rectangle_fields.ensures.fields (records_in past) reader.fields in
    let taken = plain_taken wanted c.args.sorted.now (records_in past) c.args.current.now c.take_rectangle_fields.new.fields same values last in
    record {
      place = place_on (records_in past) r 20 c.in-Some.place refl (c.in-Some.ensures.some (ids_of (records_in past)) reader.place).1;
      tables =
          tables_on (records_in past) r bodies.Rectangle c.args.self.now.tables c.take_box.new.self.tables c.take_box.new.self.tables
          refl c.in-Ok.ensures.tables reader.tables refl;
      fields = subst (AreFields (r ∷ records_in past)) (sym c.in-Ok.ensures.fields) values;
      names = c.in-Ok.ensures.names past r refl reader.names;
      drafts = c.in-Ok.ensures.drafts wanted past r taken reader.drafts;
      counts = c.in-Ok.ensures.counts wanted (records_in past) r taken reader.counts;
    }

pub returns-clause-allowed : goal.returns-clause-allowed
returns-clause-allowed c = λ unit next wanted past same reader last.
    let r = rectangle_of c.args.current.now in
    let taken = plain_taken wanted c.args.sorted.now (records_in past) c.args.current.now c.take_rectangle_fields.new.fields same
    (c.take_rectangle_fields.ensures.fields (records_in past) reader.fields) last in
    plain_allowed c.args.bytes.now unit wanted past c.args.at c.args.current.now next (c.in-Ok.ensures.kept wanted past r taken reader.names)

pub take_box-requires-clause-placement : goal.take_box-requires-clause-placement
take_box-requires-clause-placement c =
    subst (IsPlaceWithin (2 ^ 40)) (sym c.take_rectangle_fields.ensures.placement) c.requires.within.near.placement

pub take_box-requires-clause-text : goal.take_box-requires-clause-text
take_box-requires-clause-text c = subst (IsPlaceWithin (2 ^ 40)) (sym c.take_rectangle_fields.ensures.text) c.requires.within.near.text
