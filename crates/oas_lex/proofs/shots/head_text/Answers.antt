use Rattle.std.proofs.Common.{append_assoc}
use Rattle.oas_lex.specs.ShotText.{head}
use Rattle.oas_lex.proofs.shots.head_text.Goals as goal

pub returns : goal.returns
unfolding head
returns c =
    rw (
      c.put_bytes-4.ensures.value,
      c.put_bytes-3.ensures.value,
      c.put_unsigned.ensures.value,
      c.put_bytes-2.ensures.value,
      c.put_bytes.ensures.value,
      c.new-spell.ensures,
    ) (simp append_assoc)
