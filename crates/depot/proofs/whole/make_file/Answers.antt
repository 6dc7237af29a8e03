use Rattle.std.proofs.lemmas.Result.{on_ok_weaker, on_err_weaker}
use Rattle.depot.proofs.ForCallers.{with_file-whole, IsPartMade-part}
use Rattle.depot.proofs.whole.make_file.Goals as goal

pub returns-clause-content : goal.returns-clause-content
returns-clause-content g c = let at = g.D.Depot.content in record {
  ok = on_ok_weaker c.write_whole.result
      (λ written told. with_file-whole (at c.args.depot.now) (at c.start_write.new.self)
      (at c.write_whole.new.depot) c.args.name.now c.args.bytes.now (c.in_ok-start_write.ensures.ok told)
      (written told))
      c.write_whole.ensures.content.ok;
  refused = on_err_weaker c.write_whole.result
      (λ written told. IsPartMade-part (at c.args.depot.now) (at c.start_write.new.self)
      (at c.write_whole.new.depot) c.args.name.now c.args.bytes.now (c.in_ok-start_write.ensures.ok told)
      (written told))
      c.write_whole.ensures.content.refused;
}
