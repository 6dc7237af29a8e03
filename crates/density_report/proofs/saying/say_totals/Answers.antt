use Rattle.std.proofs.Common.{ℕ, List, subst, rules}
use Rattle.depot.specs.Content.{IsPartSaid}
use Rattle.depot.proofs.ForCallers.{refused}
use Rattle.depot.proofs.ForCallers.{hold_more, part_held}
use Rattle.density_report.specs.Texts.{most_line, triangles_line}
use Rattle.density_report.proofs.TextLemmas.{part_of_two}
use Rattle.density_report.proofs.saying.say_totals.Goals as goal

pub returns-in_err-make_room-2-clause-content : goal.returns-in_err-make_room-2-clause-content
returns-in_err-make_room-2-clause-content g c =
    let at = g.D.Depot.content in
    let totals = c.args.totals.now in
    record {
      ok = search rules;
      refused = refused c.from_residual-in_err-make_room-2.result _
          (λ told. part_of_two (at c.args.depot.now) (at c.make_room-2.new.depot) c.args.buffer.now
          (most_line totals.most) (triangles_line totals.triangles)
          (part_held (at c.make_room-2.new.depot) (hold_more (most_line totals.most) (c.in_ok-make_room.ensures.content.ok told))
          (subst (λ (l : List ℕ). IsPartSaid (at c.make_room.new.depot) l (at c.make_room-2.new.depot)) c.put_most.ensures
          (c.in_err-make_room-2.ensures.content.refused told))));
    }
