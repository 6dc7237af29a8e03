use Rattle.std.proofs.Common.{◌≤◌, subst, sym}
use Rattle.progress_line.proofs.Putting.{put_nothing, used_length, put_next}
use Rattle.progress_line.proofs.line.Line.put.Goals as goal

pub loop-byte-init : goal.loop-byte-init
loop-byte-init c = record {
  value = put_nothing _
      (subst (λ n. n ≤ 120)
      (sym (used_length c.self.inside.bytes _ c.self.inside.used c.self.view_is c.self.told c.self.invariant))
      c.self.invariant);
}

pub loop-byte-preserved : goal.loop-byte-preserved
loop-byte-preserved c = record {
  value = put_next _ _ _ _ c.loop-byte.byte-index c.loop-byte.invariant.value c.loop-byte-test.true c.push.ensures;
}
