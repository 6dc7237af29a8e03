use Rattle.std.proofs.Common.{◌++◌, ◌∙◌}
use Rattle.std.proofs.lemmas.Result.{on_ok_weaker, on_err_weaker}
use Rattle.shot_repeat.specs.Records.{record_text}
use Rattle.shot_repeat.proofs.Written.{both_written, part_after, parts_are, whole_parts}
use Rattle.shot_repeat.proofs.packing.put_record.Goals as goal

pub returns-clause-content : goal.returns-clause-content
returns-clause-content g c =
    let r = c.args.written.now in
    let parts = parts_are r c.bytes.result.now c.bytes-2.result.now (c.bytes.ensures.value ∙ c.spell_body.ensures)
    (c.bytes-2.ensures.value ∙ c.spell_repetition.ensures) in
    record {
      ok = on_ok_weaker c.put_bytes-2.result
          (λ ok told. both_written (g.D.Depot.content c.args.depot.now) (g.D.Depot.content c.put_bytes.new.depot)
          (g.D.Depot.content c.put_bytes-2.new.depot) c.args.buffer.now c.bytes.result.now c.put_bytes.new.buffer
          c.bytes-2.result.now c.put_bytes-2.new.buffer (record_text r)
          (c.in_ok-put_bytes.ensures.content.ok told) (ok told) parts)
          c.put_bytes-2.ensures.content.ok;
      refused = let parts = whole_parts r c.args.buffer.now c.bytes.result.now c.bytes-2.result.now
          (c.bytes.ensures.value ∙ c.spell_body.ensures) (c.bytes-2.ensures.value ∙ c.spell_repetition.ensures) in
          on_err_weaker c.put_bytes-2.result
          (λ part told. part_after (g.D.Depot.content c.args.depot.now) (g.D.Depot.content c.put_bytes.new.depot)
          (g.D.Depot.content c.put_bytes-2.new.depot)
          (c.args.buffer.now ++ c.bytes.result.now) c.put_bytes.new.buffer c.bytes-2.result.now
          (c.args.buffer.now ++ record_text r)
          (c.in_ok-put_bytes.ensures.content.ok told) (part told) parts)
          c.put_bytes-2.ensures.content.refused;
    }
