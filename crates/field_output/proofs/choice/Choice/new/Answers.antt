use Rattle.std.proofs.Common.{length, drop, sym, ap, ◌∙◌, arith}
use Rattle.field_output.specs.Meeting.{begin_at, end_at}
use Rattle.field_output.proofs.ChoiceLemmas.{written_over, chains_as}
use Rattle.field_output.proofs.NumberLemmas.{none_come_in}
use Rattle.field_output.proofs.choice.Choice.new.Goals as goal

pub returns : goal.returns
returns c =
    let size = c.args.span.size in
    let first = c.args.span.first in
    let heads = c.link.new.heads in
    let next = c.link.new.next in
    let old_heads = c.in_ok-heads.heads in
    let old_next = c.in_ok-next.next in
    let heads_are = written_over old_heads.len heads (drop (length heads) old_heads.items) (omega (arith, c.link.ensures.heads, c.in_ok-heads.ensures.len)) in
    let next_are = written_over old_next.len next (drop (length next) old_next.items) (omega (arith, c.link.ensures.next, c.in_ok-next.ensures.len)) in
    record {
      chains = chains_as size first c.args.shots.now heads _ next _ heads_are next_are c.link.ensures.chains;
      heads = ap length heads_are ∙ c.link.ensures.heads;
      carried = c.in_ok-with_capacity.ensures.items ∙ sym (none_come_in (begin_at size first) (end_at size first) 0 c.args.shots.now);
      carried_room = c.in_ok-with_capacity.ensures.capacity;
      chosen_room = c.in_ok-with_capacity-2.ensures.capacity;
    }
