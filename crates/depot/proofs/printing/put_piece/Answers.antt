use Rattle.std.proofs.lemmas.Result.{on_ok_weaker, on_err_weaker}
use Rattle.depot.proofs.SaidSoFar.{flushed_part, flushed_whole}
use Rattle.depot.proofs.printing.put_piece.Goals as goal

pub returns-clause-content : goal.returns-clause-content
returns-clause-content g c = let at = g.D.Depot.content in record {
  ok = on_ok_weaker c.say_whole.result
      (λ whole told. flushed_whole (at c.args.depot.now) (at c.flush.new.depot) (at c.say_whole.new.depot) c.args.buffer.now
      c.args.bytes.now c.flush.new.buffer c.in_ok-flush.ensures.empty (c.in_ok-flush.ensures.content.ok told) (whole told))
      c.say_whole.ensures.content.ok;
  refused = on_err_weaker c.say_whole.result
      (λ part told. flushed_part (at c.args.depot.now) (at c.flush.new.depot)
      (at c.say_whole.new.depot) c.args.buffer.now c.args.bytes.now (c.in_ok-flush.ensures.content.ok told) (part told))
      c.say_whole.ensures.content.refused;
}
