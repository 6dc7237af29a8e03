use Rattle.progress_line.proofs.Putting.{put_as, put_two, long_name}
use Rattle.progress_line.proofs.texts.put_name.Goals as goal

pub returns : goal.returns
returns c = put_as _ _ _ _ (put_two _ _ _ _ _ c.put-2.ensures c.put-3.ensures) (long_name c.args.name.now c.if-name-le-LONGEST_NAME.false)
