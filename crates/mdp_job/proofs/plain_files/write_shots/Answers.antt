use Rattle.std.proofs.Common.{◌≡◌, ◌<◌, ◌^◌, List, ap, subst, sym, ◌∙◌, arith, rules}
use Rattle.half_grid.specs.Trapezoids.{Trapezoid}
use Rattle.depot.proofs.ForCallers.{refused}
use Rattle.depot.specs.Content.{with_written, IsPartWritten}
use Rattle.layout_model.specs.declared.pair.Pair.{Pair}
use Rattle.shot_writer.specs.Writing.{records_of, triangles_of}
use Rattle.shot_writer.specs.declared.parts.Sums.{Sums}
use Rattle.mdp_job.proofs.PlainFiles.{has_room, started_part, put_cut, finished, finish_cut}
use Rattle.mdp_job.proofs.plain_files.write_shots.Goals as goal

pub returns-in_err-writer-clause-content : goal.returns-in_err-writer-clause-content
returns-in_err-writer-clause-content g c = record {
  ok = search rules;
  refused = refused c.from_residual.result _ (λ told.
      started_part (g.D.Depot.content c.args.depot.now) c.args.name.now c.args.head.unit c.args.head.pair c.args.shots.now
      (g.D.Depot.content c.start.new.depot) (c.in_err-writer.ensures.content.refused told));
}

pub put-requires-clause-room : goal.put-requires-clause-room
put-requires-clause-room g c = λ items e.
    let same : items ≡ c.args.shots.now = e ∙ ap (λ b. b.now) c.new-stream.ensures.items in
    let none = ap (λ (s : Sums). s.triangles) c.in_ok-writer.ensures.sums in
    let room = subst (λ (l : List Trapezoid). triangles_of l < 2 ^ 127) (sym same) (has_room c.args.shots.now c.requires.legal c.requires.few) in
    omega (arith, none, room)

pub returns-in_err-put-clause-content : goal.returns-in_err-put-clause-content
returns-in_err-put-clause-content g c = record {
  ok = search rules;
  refused = refused c.from_residual-in_err-put.result _ (λ told.
      let at = g.D.Depot.content in
      put_cut (at c.args.depot.now) c.args.name.now c.args.head.unit c.args.head.pair c.args.shots.now
      (at c.start.new.depot) (c.in_ok-writer.ensures.content.ok told) (at c.put.new.depot)
      (subst (λ (q : Pair). IsPartWritten (at c.start.new.depot) (records_of q c.args.shots.now) (at c.put.new.depot))
      c.in_ok-writer.ensures.pair ((c.in_err-put.ensures.content c.args.shots.now c.new-stream.ensures.list).refused told)));
}

pub returns-in_err-finish-clause-content : goal.returns-in_err-finish-clause-content
returns-in_err-finish-clause-content g c = record {
  ok = search rules;
  refused = refused c.from_residual-in_err-finish.result _ (λ told.
      let at = g.D.Depot.content in
      let put = subst (λ (q : Pair). at c.put.new.depot
      ≡ with_written (at c.start.new.depot) (records_of q c.args.shots.now)) c.in_ok-writer.ensures.pair
      ((c.in_ok-put.ensures.content c.args.shots.now c.new-stream.ensures.list).ok told) in
      finish_cut (at c.args.depot.now) c.args.name.now c.args.head.unit c.args.head.pair c.args.shots.now
      (at c.start.new.depot) (c.in_ok-writer.ensures.content.ok told) (at c.put.new.depot) put (at c.finish.new.depot)
      (c.in_err-finish.ensures.content.refused told));
}

pub returns-clause-content : goal.returns-clause-content
returns-clause-content g c = record {
  ok = λ told.
      let at = g.D.Depot.content in
      let put = subst (λ (q : Pair). at c.put.new.depot
      ≡ with_written (at c.start.new.depot) (records_of q c.args.shots.now)) c.in_ok-writer.ensures.pair
      ((c.in_ok-put.ensures.content c.args.shots.now c.new-stream.ensures.list).ok told) in
      finished (at c.args.depot.now) c.args.name.now c.args.head.unit c.args.head.pair c.args.shots.now
      (at c.start.new.depot) (c.in_ok-writer.ensures.content.ok told) (at c.put.new.depot) put (at c.finish.new.depot)
      (c.in_ok-finish.ensures.content.ok told);
  refused = search rules;
}
