use Rattle.std.proofs.Common.{FitsSigned, w64, rules, sym, ◌∙◌}
use Rattle.std.proofs.lemmas.Int.{to_z-of_z}
use Rattle.deck_text.specs.SaidViews.{said_views}
use Rattle.deck_text.specs.Views.{statement_view}
use Rattle.deck_text.proofs.IndexLemmas.{new_name}
use Rattle.deck_text.proofs.RuleLemmas.{by_order, by_twice, by_unknown, by_frame, by_range, by_odd, by_names, by_many, by_none, by_refusal}
use Rattle.deck_text.proofs.reading.accepted.Goals as goal

pub returns-then-is_misplaced-clause-refused : goal.returns-then-is_misplaced-clause-refused
returns-then-is_misplaced-clause-refused c = by_order c.args.names.layout.now c.args.names.deck.now
    (said_views c.args.before.now) c.args.line (statement_view c.args.says)
    (sym c.is_misplaced.ensures ∙ c.if-is_misplaced.true)

pub returns-in-Some-clause-refused : goal.returns-in-Some-clause-refused
returns-in-Some-clause-refused c = by_twice c.args.names.layout.now c.args.names.deck.now
    (said_views c.args.before.now) c.args.line (statement_view c.args.says) c.in-Some.earlier
    (sym c.is_misplaced.ensures ∙ c.if-is_misplaced.false) (sym c.repeated_line.ensures ∙ c.in-Some.is)

pub returns-in-Some-unknown_operand-clause-refused : goal.returns-in-Some-unknown_operand-clause-refused
returns-in-Some-unknown_operand-clause-refused c =
    by_refusal _ _ c.unknown.result
    (by_unknown c.args.names.layout.now c.args.names.deck.now (said_views c.args.before.now) c.args.line
    (statement_view c.args.says) c.in-Some-unknown_operand.name.now
    (sym c.is_misplaced.ensures ∙ c.if-is_misplaced.false) (sym c.repeated_line.ensures ∙ c.in-None.is)
    (c.in-Some-unknown_operand.ensures (said_views c.args.before.now) c.requires)) c.unknown.ensures

pub returns-then-lacks_frame-clause-refused : goal.returns-then-lacks_frame-clause-refused
returns-then-lacks_frame-clause-refused c = by_frame c.args.names.layout.now c.args.names.deck.now
    (said_views c.args.before.now) c.args.line (statement_view c.args.says)
    (sym c.is_misplaced.ensures ∙ c.if-is_misplaced.false) (sym c.repeated_line.ensures ∙ c.in-None.is)
    (c.in-None-unknown_operand.ensures (said_views c.args.before.now) c.requires)
    (sym c.lacks_frame.ensures ∙ c.if-lacks_frame.true)

pub returns-in-Some-out_of_range-clause-refused : goal.returns-in-Some-out_of_range-clause-refused
returns-in-Some-out_of_range-clause-refused c =
    let fits : FitsSigned w64 c.in-Some-out_of_range.value = search rules in
    simp to_z-of_z (by_range c.args.names.layout.now c.args.names.deck.now (said_views c.args.before.now) c.args.line
    (statement_view c.args.says) c.in-Some-out_of_range.value
    (sym c.is_misplaced.ensures ∙ c.if-is_misplaced.false) (sym c.repeated_line.ensures ∙ c.in-None.is)
    (c.in-None-unknown_operand.ensures (said_views c.args.before.now) c.requires)
    (sym c.lacks_frame.ensures ∙ c.if-lacks_frame.false) (sym c.out_of_range.ensures ∙ c.in-Some-out_of_range.is))

pub returns-then-has_odd_sum-clause-refused : goal.returns-then-has_odd_sum-clause-refused
returns-then-has_odd_sum-clause-refused c = by_odd c.args.names.layout.now c.args.names.deck.now
    (said_views c.args.before.now) c.args.line (statement_view c.args.says)
    (sym c.is_misplaced.ensures ∙ c.if-is_misplaced.false) (sym c.repeated_line.ensures ∙ c.in-None.is)
    (c.in-None-unknown_operand.ensures (said_views c.args.before.now) c.requires)
    (sym c.lacks_frame.ensures ∙ c.if-lacks_frame.false) (sym c.out_of_range.ensures ∙ c.in-None-out_of_range.is)
    (sym c.has_odd_sum.ensures ∙ c.if-has_odd_sum.true)

pub returns-then-takes_name-clause-refused : goal.returns-then-takes_name-clause-refused
returns-then-takes_name-clause-refused c = by_names c.args.names.layout.now c.args.names.deck.now
    (said_views c.args.before.now) c.args.line (statement_view c.args.says)
    (sym c.is_misplaced.ensures ∙ c.if-is_misplaced.false) (sym c.repeated_line.ensures ∙ c.in-None.is)
    (c.in-None-unknown_operand.ensures (said_views c.args.before.now) c.requires)
    (sym c.lacks_frame.ensures ∙ c.if-lacks_frame.false) (sym c.out_of_range.ensures ∙ c.in-None-out_of_range.is)
    (sym c.has_odd_sum.ensures ∙ c.if-has_odd_sum.false)
    (sym (c.takes_name.ensures (said_views c.args.before.now) c.requires) ∙ c.if-takes_name.true)

pub returns-then-is_too_many-clause-refused : goal.returns-then-is_too_many-clause-refused
returns-then-is_too_many-clause-refused c = by_many c.args.names.layout.now c.args.names.deck.now
    (said_views c.args.before.now) c.args.line (statement_view c.args.says)
    (sym c.is_misplaced.ensures ∙ c.if-is_misplaced.false) (sym c.repeated_line.ensures ∙ c.in-None.is)
    (c.in-None-unknown_operand.ensures (said_views c.args.before.now) c.requires)
    (sym c.lacks_frame.ensures ∙ c.if-lacks_frame.false) (sym c.out_of_range.ensures ∙ c.in-None-out_of_range.is)
    (sym c.has_odd_sum.ensures ∙ c.if-has_odd_sum.false)
    (sym (c.takes_name.ensures (said_views c.args.before.now) c.requires) ∙ c.if-takes_name.false)
    (sym (c.is_too_many.ensures.broken (said_views c.args.before.now) c.requires) ∙ c.if-is_too_many.true)

pub returns-clause-ok : goal.returns-clause-ok
returns-clause-ok c = by_none c.args.names.layout.now c.args.names.deck.now (said_views c.args.before.now) c.args.line
    (statement_view c.args.says) (sym c.is_misplaced.ensures ∙ c.if-is_misplaced.false)
    (sym c.repeated_line.ensures ∙ c.in-None.is)
    (c.in-None-unknown_operand.ensures (said_views c.args.before.now) c.requires)
    (sym c.lacks_frame.ensures ∙ c.if-lacks_frame.false) (sym c.out_of_range.ensures ∙ c.in-None-out_of_range.is)
    (sym c.has_odd_sum.ensures ∙ c.if-has_odd_sum.false)
    (sym (c.takes_name.ensures (said_views c.args.before.now) c.requires) ∙ c.if-takes_name.false)
    (sym (c.is_too_many.ensures.broken (said_views c.args.before.now) c.requires) ∙ c.if-is_too_many.false)

pub returns-clause-new : goal.returns-clause-new
returns-clause-new c = new_name (said_views c.args.before.now) c.args.index.now (statement_view c.args.says) c.requires
    (sym c.repeated_line.ensures ∙ c.in-None.is)
