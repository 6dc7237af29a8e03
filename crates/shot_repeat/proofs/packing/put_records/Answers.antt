use Rattle.std.proofs.Common.{ℕ, ◌+◌, IsTrue, Some, sym, subst, ◌∙◌, arith, rules}
use Rattle.depot.proofs.ForCallers.{NeverFall-trans, refused}
use Rattle.shot_repeat.proofs.Gifts.{some_given}
use Rattle.shot_repeat.proofs.Written.{WrittenSoFar, one_written, next_within, refused_record, refused_last, all_written}
use Rattle.shot_repeat.proofs.packing.put_records.Goals as goal

pub returns-in_err-put_record-clause-content : goal.returns-in_err-put_record-clause-content
returns-in_err-put_record-clause-content g c = record {
  ok = search rules;
  refused = refused c.from_residual.result _ (λ told.
      refused_record (IsTrue g.D.Depot.tells) (g.D.Depot.content c.args.depot.now) (g.D.Depot.content c.loop-at.depot)
      (g.D.Depot.content c.put_record.new.depot) c.args.pair.layer c.args.pair.datatype c.args.shots.now c.loop-at.at
      c.loop-at.last c.loop-at.records c.loop-at.buffer
      c.fields_at-fields.result c.repetition_from-repetition.result c.packed_record-record.result
      c.loop-at.invariant.written c.loop-at-test.true c.fields_at-fields.ensures.value
      c.repetition_from-repetition.ensures.value c.packed_record-record.ensures.value told
      (c.in_err-put_record.ensures.content.refused told));
}

pub loop-at-preserved : goal.loop-at-preserved
loop-at-preserved g c =
    let l = c.args.pair.layer in
    let d = c.args.pair.datatype in
    let f = c.fields_at-fields.result in
    let o = c.repetition_from-repetition.result in
    let within = next_within l d c.args.shots.now c.loop-at.at f o c.loop-at-test.true c.fields_at-fields.ensures.value
    c.repetition_from-repetition.ensures.value in
    record {
      within = omega (arith, within, c.count_of.ensures);
      few = omega (arith, c.loop-at.invariant.few, c.count_of.ensures, some_given o);
      written = subst (λ (n : ℕ). WrittenSoFar (IsTrue g.D.Depot.tells)
          (g.D.Depot.content c.args.depot.now) l d c.args.shots.now (c.loop-at.at + n) (Some f)
          (c.loop-at.records + 1) c.put_record.new.buffer (g.D.Depot.content c.put_record.new.depot))
          (sym c.count_of.ensures)
          (one_written (IsTrue g.D.Depot.tells) (g.D.Depot.content c.args.depot.now)
          (g.D.Depot.content c.loop-at.depot)
          (g.D.Depot.content c.put_record.new.depot) l d c.args.shots.now c.loop-at.at c.loop-at.last
          c.loop-at.records c.loop-at.buffer c.put_record.new.buffer f o c.packed_record-record.result
          c.loop-at.invariant.written c.loop-at-test.true c.fields_at-fields.ensures.value
          c.repetition_from-repetition.ensures.value c.packed_record-record.ensures.value
          (λ told. c.in_ok-put_record.ensures.content.ok told));
      uncounted = c.in_ok-put_record.ensures.counts.uncounted ∙ c.loop-at.invariant.uncounted;
      counted = NeverFall-trans _ _ _ c.loop-at.invariant.counted c.put_record.ensures.counts.counted;
    }

pub returns-in_err-flush-clause-content : goal.returns-in_err-flush-clause-content
returns-in_err-flush-clause-content g c = record {
  ok = search rules;
  refused = refused c.from_residual-in_err-flush.result _ (λ told.
      refused_last (IsTrue g.D.Depot.tells) (g.D.Depot.content c.args.depot.now) (g.D.Depot.content c.loop-at.depot)
      (g.D.Depot.content c.flush.new.depot) c.args.pair.layer c.args.pair.datatype c.args.shots.now c.loop-at.at
      c.loop-at.last c.loop-at.records c.loop-at.buffer c.loop-at.invariant.written told
      (c.in_err-flush.ensures.content.refused told));
}

pub returns-clause-content : goal.returns-clause-content
returns-clause-content g c = record {
  ok = λ told.
      all_written (IsTrue g.D.Depot.tells) (g.D.Depot.content c.args.depot.now) (g.D.Depot.content c.loop-at.depot)
      (g.D.Depot.content c.flush.new.depot) c.args.pair.layer c.args.pair.datatype c.args.shots.now c.loop-at.at
      c.loop-at.last c.loop-at.records c.loop-at.buffer c.loop-at.invariant.written
      (omega (arith, c.loop-at-test.false)) told (c.in_ok-flush.ensures.content.ok told);
  refused = search rules;
}
