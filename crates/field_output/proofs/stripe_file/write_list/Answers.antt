use Rattle.std.proofs.Common.{◌≡◌, ◌<◌, ◌^◌, List, ap, subst, ◌∙◌, arith, rules}
use Rattle.half_grid.specs.Trapezoids.{Trapezoid}
use Rattle.depot.proofs.ForCallers.{refused}
use Rattle.depot.specs.Content.{with_written, IsPartWritten}
use Rattle.layout_model.specs.declared.pair.Pair.{Pair}
use Rattle.shot_writer.specs.Writing.{records_of, triangles_of}
use Rattle.shot_writer.specs.declared.parts.Sums.{Sums}
use Rattle.field_output.proofs.FileLemmas.{started_part, put_cut, finished, finish_cut, sums_are}
use Rattle.field_output.proofs.stripe_file.write_list.Goals as goal

pub returns-in_err-writer-clause-content : goal.returns-in_err-writer-clause-content
returns-in_err-writer-clause-content g c = λ items stands. record {
  ok = search rules;
  refused = refused c.from_residual.result _ (λ told.
      started_part (g.D.Depot.content c.args.depot.now) c.args.name.now c.args.head items (g.D.Depot.content c.start.new.depot)
      (c.in_err-writer.ensures.content.refused told));
}

pub put-requires-clause-room : goal.put-requires-clause-room
put-requires-clause-room g c = λ items stands.
    let same = g.met.S.Stream.one_list c.args.shots.now c.requires.list.0 items c.requires.list.1 stands in
    let none = ap (λ (s : Sums). s.triangles) c.in_ok-writer.ensures.sums in
    let room = subst (λ (l : List Trapezoid). triangles_of l < 2 ^ 127) same c.requires.list.2 in
    omega (arith, none, room)

pub returns-in_err-put-clause-content : goal.returns-in_err-put-clause-content
returns-in_err-put-clause-content g c = λ items stands. record {
  ok = search rules;
  refused = refused c.from_residual-in_err-put.result _ (λ told.
      let at = g.D.Depot.content in
      put_cut (at c.args.depot.now) c.args.name.now c.args.head items (at c.start.new.depot) (c.in_ok-writer.ensures.content.ok told) (at c.put.new.depot)
      (subst (λ (q : Pair). IsPartWritten (at c.start.new.depot) (records_of q items) (at c.put.new.depot)) c.in_ok-writer.ensures.pair
      ((c.in_err-put.ensures.content items stands).refused told)));
}

pub returns-in_err-sums-clause-content : goal.returns-in_err-sums-clause-content
returns-in_err-sums-clause-content g c = λ items stands. record {
  ok = search rules;
  refused = refused c.from_residual-in_err-sums.result _ (λ told.
      let at = g.D.Depot.content in
      let put = subst (λ (q : Pair). at c.put.new.depot ≡ with_written (at c.start.new.depot) (records_of q items)) c.in_ok-writer.ensures.pair
      ((c.in_ok-put.ensures.content items stands).ok told) in
      finish_cut (at c.args.depot.now) c.args.name.now c.args.head items (at c.start.new.depot) (c.in_ok-writer.ensures.content.ok told)
      (at c.put.new.depot) put (at c.finish.new.depot)
      (c.in_err-sums.ensures.content.refused told));
}

pub returns-clause-content : goal.returns-clause-content
returns-clause-content g c = λ items stands. record {
  ok = λ told. let at = g.D.Depot.content in
      let put = subst (λ (q : Pair). at c.put.new.depot ≡ with_written (at c.start.new.depot) (records_of q items)) c.in_ok-writer.ensures.pair
      ((c.in_ok-put.ensures.content items stands).ok told) in
      finished (at c.args.depot.now) c.args.name.now c.args.head items (at c.start.new.depot) (c.in_ok-writer.ensures.content.ok told)
      (at c.put.new.depot) put (at c.finish.new.depot)
      (c.in_ok-sums.ensures.content.ok told);
  refused = search rules;
}

pub returns-clause-sums : goal.returns-clause-sums
returns-clause-sums g c = λ items stands. c.in_ok-sums.ensures.sums ∙ sums_are _ items _ c.in_ok-writer.ensures.sums (c.in_ok-put.ensures.sums items stands)
