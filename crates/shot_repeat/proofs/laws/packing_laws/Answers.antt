use Rattle.shot_repeat.proofs.Packings.{text_stands, text_is_file}
use Rattle.shot_repeat.proofs.Shorter.{text_is_short}
use Rattle.shot_repeat.proofs.Packers.{text_is_packed, one_packed_text, run_is_longest}
use Rattle.shot_repeat.proofs.laws.packing_laws.Goals as goal

pub returns : goal.returns
returns c = record {
  text_stands = text_stands;
  text_is_file = text_is_file;
  text_is_short = text_is_short;
  text_is_packed = text_is_packed;
  one_packed_text = one_packed_text;
  run_is_longest = run_is_longest;
}
