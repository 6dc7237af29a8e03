use Rattle.std.proofs.Common.{List, ℕ, ap, subst, ◌∙◌}
use Rattle.std.proofs.lemmas.Result.{on_ok_weaker, on_err_weaker}
use Rattle.depot.specs.Content.{IsPartSaid, with_said}
use Rattle.shot_listing.specs.Listing.{sums_line}
use Rattle.depot.proofs.ForCallers.{part_held, say_held, hold_more}
use Rattle.shot_listing.proofs.saying.say_last.Goals as goal

pub returns-clause-content : goal.returns-clause-content
returns-clause-content g c =
    let at = g.D.Depot.content in
    record {
      ok = on_ok_weaker c.flush.result
          (λ all told. say_held (at c.flush.new.depot)
          (hold_more (sums_line c.args.shots c.args.triangles) (c.in_ok-make_room.ensures.content.ok told))
          (all told ∙ ap (with_said (at c.make_room.new.depot)) c.put_sums.ensures)) c.flush.ensures.content.ok;
      refused = on_err_weaker c.flush.result
          (λ part told. part_held (at c.flush.new.depot)
          (hold_more (sums_line c.args.shots c.args.triangles) (c.in_ok-make_room.ensures.content.ok told))
          (subst (λ (l : List ℕ). IsPartSaid (at c.make_room.new.depot) l (at c.flush.new.depot)) c.put_sums.ensures
          (part told))) c.flush.ensures.content.refused;
    }
