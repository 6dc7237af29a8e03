use Rattle.std.proofs.Common.{◌≡◌, true, false, sym, ap, ◌∙◌}
use Rattle.oas_fields.specs.Steps.{AreWritten}
use Rattle.oas_fields.specs.Values.{begins_cell}
use Rattle.oas_fields.specs.Writes.{writes_of}
use Rattle.oas_fields.proofs.TakeLemmas.{AreListsOf, taken_on, taken_anew}
use Rattle.oas_fields.proofs.fields.Fields.take.Goals as goal

pub returns-then-written : goal.returns-then-written
returns-then-written c =
    let begins : begins_cell c.args.current ≡ true = ap (λ w. w.begins_cell) (sym c.of-written.ensures) ∙ c.if-written.true in
    record { fields = λ past before. taken_anew c.args.current past c.new.result begins c.new.ensures }

pub returns : goal.returns
returns c =
    let begins : begins_cell c.args.current ≡ false = ap (λ w. w.begins_cell) (sym c.of-written.ensures) ∙ c.if-written.false in
    let written : AreWritten (writes_of c.args.current) c.args.self.now c.put.new.self = rw (sym c.of-written.ensures) c.put.ensures in
    let lists : AreListsOf c.args.current c.into_lists-lists.result = record {
      polygon_points = c.into_lists-lists.ensures.polygon_points;
      path_points = c.into_lists-lists.ensures.path_points;
      repetition = c.into_lists-lists.ensures.repetition;
    } in
    record {
      fields = λ past before.
          taken_on c.args.current past c.into_lists-lists.result c.args.self.now c.put.new.self c.keep.new.self begins before written lists c.keep.ensures;
    }
