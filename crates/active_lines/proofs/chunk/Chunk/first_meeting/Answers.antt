use Rattle.std.proofs.Common.{List, subst}
use Rattle.active_lines.specs.declared.item.ActiveLine.{ActiveLine}
use Rattle.active_lines.specs.Neighbours.{SomeMeeting}
use Rattle.active_lines.proofs.Chunks.{meeting_drop}
use Rattle.active_lines.proofs.chunk.Chunk.first_meeting.Goals as goal

pub returns-then-is_quiet_at-clause-none : goal.returns-then-is_quiet_at-clause-none
returns-then-is_quiet_at-clause-none c =
    let quiet = subst (λ (lines : List ActiveLine). SomeMeeting lines c.args.level.y → ⊥) c.self.view_is
    (c.is_quiet_at.ensures c.if-is_quiet_at.true c.self.inside.lines.items c.self.invariant.kept) in
    λ h. quiet (meeting_drop c.args.k c.args.self.now c.args.level.y h)
