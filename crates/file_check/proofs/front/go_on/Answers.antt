use Rattle.std.proofs.Common.{ap, refl, ◌∙◌}
use Rattle.file_check.proofs.Passing.{gone_on, met_counts}
use Rattle.file_check.proofs.front.go_on.Goals as goal

pub returns-clause-front : goal.returns-clause-front
returns-clause-front c = λ shots at.
    let kept = ap (λ v. v.items) c.swap.ensures.x_after ∙ c.in_ok-put_open.ensures ∙ (rw (c.clear.ensures.items, c.as_slice.ensures.value) refl) in
    gone_on shots c.args.front.now.meeting.items _ c.args.front.now.later.now _ _ c.args.window at kept c.in_ok-front.ensures c.y0-rows.ensures.window

pub returns-clause-counts : goal.returns-clause-counts
returns-clause-counts c = λ shots at.
    let kept = ap (λ v. v.items) c.swap.ensures.x_after ∙ c.in_ok-put_open.ensures ∙ (rw (c.clear.ensures.items, c.as_slice.ensures.value) refl) in
    met_counts shots c.args.front.now.meeting.items _ c.args.front.now.later.now _ _ c.args.window at kept c.in_ok-front.ensures
