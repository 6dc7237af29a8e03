use Rattle.std.proofs.Common.{◌≡◌, ℕ, List, ap, subst, ◌∙◌, rules}
use Rattle.depot.specs.Content.{with_file, with_written, IsPartMade, IsPartWritten}
use Rattle.depot.proofs.ForCallers.{refused}
use Rattle.oas_lex.specs.ShotText.{head}
use Rattle.shot_repeat.proofs.Packers.{text_is_packed}
use Rattle.shot_repeat.proofs.Written.{file_written, records_made, made_head, made_records, made_end}
use Rattle.shot_repeat.proofs.packing.pack_shots.Goals as goal

pub returns-in_err-make_file-clause-content : goal.returns-in_err-make_file-clause-content
returns-in_err-make_file-clause-content g c =
    let text : c.bytes.result.now ≡ head c.args.head.unit = let a = c.bytes.ensures.value in let b = c.head_text.ensures in let f = c.from.ensures in cc in
    record {
      ok = search rules;
      refused = refused c.from_residual.result _ (λ told.
          made_head (g.D.Depot.content c.args.depot.now)
          (g.D.Depot.content c.make_file.new.depot) c.args.name.now c.args.head.unit c.args.head.pair.layer
          c.args.head.pair.datatype c.args.shots.now
          (subst (λ (t : List ℕ). IsPartMade (g.D.Depot.content c.args.depot.now) c.args.name.now t
          (g.D.Depot.content c.make_file.new.depot)) text (c.in_err-make_file.ensures.content.refused told)));
    }

pub returns-in_err-records-clause-content : goal.returns-in_err-records-clause-content
returns-in_err-records-clause-content g c =
    let text : c.bytes.result.now ≡ head c.args.head.unit = let a = c.bytes.ensures.value in let b = c.head_text.ensures in let f = c.from.ensures in cc in
    record {
      ok = search rules;
      refused = refused c.from_residual-in_err-records.result _ (λ told.
          made_records (g.D.Depot.content c.args.depot.now) (g.D.Depot.content c.make_file.new.depot)
          (g.D.Depot.content c.put_records.new.depot) c.args.name.now c.args.head.unit c.args.head.pair.layer
          c.args.head.pair.datatype c.args.shots.now
          (c.in_ok-make_file.ensures.content.ok told ∙ ap (with_file (g.D.Depot.content c.args.depot.now) c.args.name.now) text)
          (c.in_err-records.ensures.content.refused told));
    }

pub returns-in_err-write_whole-clause-content : goal.returns-in_err-write_whole-clause-content
returns-in_err-write_whole-clause-content g c =
    let text : c.bytes.result.now ≡ head c.args.head.unit = let a = c.bytes.ensures.value in let b = c.head_text.ensures in let f = c.from.ensures in cc in
    record {
      ok = search rules;
      refused = refused c.from_residual-in_err-write_whole.result _ (λ told.
          let made = c.in_ok-make_file.ensures.content.ok told ∙ ap (with_file (g.D.Depot.content c.args.depot.now) c.args.name.now) text in
          made_end (g.D.Depot.content c.args.depot.now) (g.D.Depot.content c.put_records.new.depot)
          (g.D.Depot.content c.write_whole.new.depot) c.args.name.now c.args.head.unit c.args.head.pair.layer
          c.args.head.pair.datatype c.args.shots.now
          (records_made (g.D.Depot.content c.args.depot.now) (g.D.Depot.content c.make_file.new.depot)
          (g.D.Depot.content c.put_records.new.depot) c.args.name.now c.args.head.unit c.args.head.pair.layer
          c.args.head.pair.datatype c.args.shots.now made (c.in_ok-records.ensures.content.ok told))
          (subst (λ (t : List ℕ). IsPartWritten (g.D.Depot.content c.put_records.new.depot) t
          (g.D.Depot.content c.write_whole.new.depot)) c.end_text.ensures (c.in_err-write_whole.ensures.content.refused told)));
    }

pub returns-clause-content : goal.returns-clause-content
returns-clause-content g c = record {
  ok = λ told.
      let text : c.bytes.result.now ≡ head c.args.head.unit = let a = c.bytes.ensures.value in let b = c.head_text.ensures in let f = c.from.ensures in cc in
      file_written (g.D.Depot.content c.args.depot.now) (g.D.Depot.content c.make_file.new.depot)
      (g.D.Depot.content c.put_records.new.depot)
      (g.D.Depot.content c.write_whole.new.depot) c.args.name.now c.args.head.unit c.args.head.pair.layer
      c.args.head.pair.datatype c.args.shots.now
      (c.in_ok-make_file.ensures.content.ok told ∙ ap (with_file (g.D.Depot.content c.args.depot.now) c.args.name.now) text)
      (c.in_ok-records.ensures.content.ok told)
      (c.in_ok-write_whole.ensures.content.ok told ∙ ap (with_written (g.D.Depot.content c.put_records.new.depot)) c.end_text.ensures);
  refused = search rules;
}

pub returns-in_err-make_file-clause-packed : goal.returns-in_err-make_file-clause-packed
returns-in_err-make_file-clause-packed g c = text_is_packed c.args.head.unit c.args.head.pair.layer c.args.head.pair.datatype c.args.shots.now

pub returns-in_err-records-clause-packed : goal.returns-in_err-records-clause-packed
returns-in_err-records-clause-packed g c = text_is_packed c.args.head.unit c.args.head.pair.layer c.args.head.pair.datatype c.args.shots.now

pub returns-in_err-write_whole-clause-packed : goal.returns-in_err-write_whole-clause-packed
returns-in_err-write_whole-clause-packed g c = text_is_packed c.args.head.unit c.args.head.pair.layer c.args.head.pair.datatype c.args.shots.now

pub returns-clause-packed : goal.returns-clause-packed
returns-clause-packed g c = text_is_packed c.args.head.unit c.args.head.pair.layer c.args.head.pair.datatype c.args.shots.now
