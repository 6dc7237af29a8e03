use Rattle.std.proofs.Common.{◌+◌, take, sym, ap, ◌∙◌, rules}
use Rattle.std.proofs.lemmas.List.Sums.{sum_by_more}
use Rattle.shot_writer.specs.Writing.{triangles_in, triangles_of}
use Rattle.file_check.proofs.judging.sums_of.Goals as goal

pub loop-shot-preserved : goal.loop-shot-preserved
loop-shot-preserved c =
    let l = c.loop-shot in
    let xs = c.args.shots.now in
    record {
      triangles = ap (λ n. n + c.triangles_in-triangles.result) l.invariant.triangles
          ∙ ap (λ n. triangles_of (take l.shot-index xs) + n) (c.triangles_in-triangles.ensures.value ∙ ap triangles_in c.shot-item.is)
          ∙ sym (sum_by_more triangles_in xs l.shot-index c.shot-item.result c.loop-shot-test.true);
      few = search rules;
    }
