use Rattle.std.proofs.Common.{append_assoc}
use Rattle.layout_gen.specs.Streams.{record_bytes, wide_bytes}
use Rattle.layout_gen.proofs.records.put_two_wide.Goals as goal

pub returns-clause-value : goal.returns-clause-value
unfolding record_bytes wide_bytes
returns-clause-value c = rw (c.put-2.ensures.value, c.put.ensures.value, c.put_head.ensures.value, c.wide.ensures, c.wide-2.ensures) (simp append_assoc)
