use Rattle.std.proofs.Common.{refl}
use Rattle.std.proofs.lemmas.Option.{slice_get_read}
use Rattle.field_split.specs.Looks.{IsFieldShot}
use Rattle.field_split.proofs.LookLemmas.{one_more, of_all, no_and_yes}
use Rattle.field_split.proofs.looks.too_wide.Goals as goal

pub loop-k-preserved : goal.loop-k-preserved
loop-k-preserved c =
    let at = slice_get_read c.args.shots.now _ c.loop-k.k c.index-shots-k.result refl c.loop-k-test.true c.index-shots-k.is in
    one_more IsFieldShot c.args.shots.now c.loop-k.k c.index-shots-k.result at
    (record {
      shot = c.can_be_split.ensures.shot;
      reach =
          c.can_be_split.ensures.reach.0 c.if-not-can_be_split.false;
    }) c.loop-k.invariant

pub returns-clause-none : goal.returns-clause-none
returns-clause-none c = of_all IsFieldShot c.args.shots.now c.loop-k.k c.loop-k-test.false c.loop-k.invariant

pub returns-then-not-can_be_split-clause-some : goal.returns-then-not-can_be_split-clause-some
returns-then-not-can_be_split-clause-some c =
    let at = slice_get_read c.args.shots.now _ c.loop-k.k c.index-shots-k.result refl c.loop-k-test.true c.index-shots-k.is in
    record {
      shot = c.index-shots-k.result;
      at = at;
      too_wide = λ h. (let yes = c.can_be_split.ensures.reach.1 h in let no = c.if-not-can_be_split.true in no_and_yes _ no yes);
      earlier = λ j z lt is. (c.loop-k.invariant j z lt is).reach;
    }
