use Rattle.std.proofs.Common.{◌≡◌, ◌+◌, true, drop, Some, inl, inr, sym, refl, ◌∙◌, arith}
use Rattle.std.proofs.lemmas.Result.{err_from_is_err_and}
use Rattle.geo_stream.proofs.ForCallers.{for_fault_weaker}
use Rattle.deck_text.specs.Lines.{lines_of}
use Rattle.deck_text.specs.Statements.{Refused, Says}
use Rattle.deck_text.specs.Forms.{reading}
use Rattle.deck_text.specs.Views.{statement_view}
use Rattle.deck_text.specs.SaidViews.{said_view, said_views}
use Rattle.deck_text.specs.Rules.{broken_rule}
use Rattle.deck_text.specs.Decks.{said, has_output, IsFirstDeckFault}
use Rattle.deck_text.proofs.Steps.{IsReadAll, starts, lines_left, refused_next, passes_next, says_next, ends, no_output}
use Rattle.deck_text.proofs.Ends.{none_left, pushed}
use Rattle.deck_text.proofs.reading.statements.Goals as goal

pub loop-at-init : goal.loop-at-init
loop-at-init c = record {
  within = omega arith;
  counted = omega arith;
  rest = refl;
  read = rw c.new-saids.ensures.items (starts c.args.names.layout.now c.args.names.deck.now (lines_of c.args.bytes.now));
  index = rw c.new-saids.ensures.items c.new-index.ensures;
}

pub accepted-requires : goal.accepted-requires
accepted-requires c = rw c.as_slice.ensures.value c.loop-at.invariant.index

-- ---- a line

pub returns-in-Err-clause-refused : goal.returns-in-Err-clause-refused
returns-in-Err-clause-refused c =
    inl (
      c.loop-at.lines,
      refused_next c.args.names.layout.now c.args.names.deck.now (lines_of c.args.bytes.now) c.loop-at.lines
          (said_views c.loop-at.saids.items) c.line_at-next.result.0.now
          (lines_of (drop c.line_at-next.result.1 c.args.bytes.now))
          (Refused c.in-Err.column) _ c.loop-at.invariant.read
          (c.loop-at.invariant.rest ∙ c.line_at-next.ensures.line) c.in-Err.ensures refl,
    )

pub loop-at-preserved-in-Ok-None : goal.loop-at-preserved-in-Ok-None
loop-at-preserved-in-Ok-None c =
    let next = c.loop-at.invariant.rest ∙ c.line_at-next.ensures.line in
    record {
      within = c.line_at-next.ensures.within;
      counted = omega (arith, c.line_at-next.ensures.forward);
      rest = lines_left (lines_of c.args.bytes.now) c.loop-at.lines c.line_at-next.result.0.now (lines_of (drop c.line_at-next.result.1 c.args.bytes.now)) next;
      read = passes_next c.args.names.layout.now c.args.names.deck.now (lines_of c.args.bytes.now) c.loop-at.lines
          (said_views c.loop-at.saids.items) c.line_at-next.result.0.now
          (lines_of (drop c.line_at-next.result.1 c.args.bytes.now)) c.loop-at.invariant.read next
          (rw c.in-Ok-None.field-0-is at c.in-Ok-None.ensures);
      index = c.loop-at.invariant.index;
    }

pub returns-in_err-said-in-Ok-Some-clause-refused : goal.returns-in_err-said-in-Ok-Some-clause-refused
returns-in_err-said-in-Ok-Some-clause-refused c =
    let p = err_from_is_err_and c.from_residual.result c.from_residual.ensures.1 in
    let says : reading c.line_at-next.result.0.now ≡ Says (statement_view c.in-Ok-Some.says) = rw c.in-Ok-Some.field-0-is at c.in-Ok-Some.ensures in
    rw (p.1, p.2)
    (for_fault_weaker
    (λ bad. broken_rule c.args.names.layout.now c.args.names.deck.now (said_views c.loop-at.saids.items) (c.loop-at.lines + 1)
    (statement_view c.in-Ok-Some.says) ≡ Some bad)
    (IsFirstDeckFault c.args.bytes.now c.args.names.layout.now c.args.names.deck.now) _
    (λ bad broken. inl (
      c.loop-at.lines,
      refused_next c.args.names.layout.now c.args.names.deck.now (lines_of c.args.bytes.now) c.loop-at.lines
          (said_views c.loop-at.saids.items) c.line_at-next.result.0.now
          (lines_of (drop c.line_at-next.result.1 c.args.bytes.now))
          (Says (statement_view c.in-Ok-Some.says)) bad c.loop-at.invariant.read
          (c.loop-at.invariant.rest ∙ c.line_at-next.ensures.line) says broken,
    ))
    (rw c.as_slice.ensures.value at c.in_err-said-in-Ok-Some.ensures.refused))

pub loop-at-preserved : goal.loop-at-preserved
loop-at-preserved c =
    let next = c.loop-at.invariant.rest ∙ c.line_at-next.ensures.line in
    let says : reading c.line_at-next.result.0.now ≡ Says (statement_view c.in-Ok-Some.says) = rw c.in-Ok-Some.field-0-is at c.in-Ok-Some.ensures in
    record {
      within = c.line_at-next.ensures.within;
      counted = omega (arith, c.line_at-next.ensures.forward);
      rest = lines_left (lines_of c.args.bytes.now) c.loop-at.lines c.line_at-next.result.0.now (lines_of (drop c.line_at-next.result.1 c.args.bytes.now)) next;
      read = rw (pushed c.loop-at.saids.items c.push.new.self.items c.in_ok-said-in-Ok-Some.said
          (said (c.loop-at.lines + 1) (statement_view c.in-Ok-Some.says)) c.in-Ok.ensures.items
          c.in_ok-said-in-Ok-Some.ensures.said)
          (says_next c.args.names.layout.now c.args.names.deck.now (lines_of c.args.bytes.now) c.loop-at.lines
          (said_views c.loop-at.saids.items) c.line_at-next.result.0.now
          (lines_of (drop c.line_at-next.result.1 c.args.bytes.now))
          (statement_view c.in-Ok-Some.says) c.loop-at.invariant.read next says
          (rw c.as_slice.ensures.value at c.in_ok-said-in-Ok-Some.ensures.ok));
      index = rw (pushed c.loop-at.saids.items c.push.new.self.items c.in_ok-said-in-Ok-Some.said
          (said_view c.in_ok-said-in-Ok-Some.said) c.in-Ok.ensures.items refl)
          (c.in_ok-put-in-Ok-Some.ensures (said_views c.loop-at.saids.items) c.loop-at.invariant.index);
    }

-- ---- after the last line

pub returns-then-not-has_output-clause-refused : goal.returns-then-not-has_output-clause-refused
returns-then-not-has_output-clause-refused c =
    let all = ends c.args.names.layout.now c.args.names.deck.now (lines_of c.args.bytes.now) c.loop-at.lines
    (said_views c.loop-at.saids.items) c.loop-at.invariant.read
    (c.loop-at.invariant.rest ∙ none_left c.args.bytes.now c.loop-at.at c.loop-at-test.false) in
    inr (no_output c.args.names.layout.now c.args.names.deck.now (lines_of c.args.bytes.now) c.loop-at.lines (said_views c.loop-at.saids.items) all
    (rw c.as_slice-2.ensures.value at (sym c.has_output.ensures ∙ c.if-not-has_output.true)))

all : (c : goal.Else-not-has_output) → IsReadAll c.args.names.layout.now c.args.names.deck.now
    (lines_of c.args.bytes.now) c.loop-at.lines (said_views c.loop-at.saids.items)
all c =
    ends c.args.names.layout.now c.args.names.deck.now (lines_of c.args.bytes.now) c.loop-at.lines (said_views c.loop-at.saids.items) c.loop-at.invariant.read
    (c.loop-at.invariant.rest ∙ none_left c.args.bytes.now c.loop-at.at c.loop-at-test.false)

pub returns-clause-saids : goal.returns-clause-saids
returns-clause-saids c = (all c).says

pub returns-clause-accepted : goal.returns-clause-accepted
returns-clause-accepted c = (all c).accepted

pub returns-clause-some : goal.returns-clause-some
returns-clause-some c =
    let some : has_output (said_views c.loop-at.saids.items) ≡ true = rw c.as_slice-2.ensures.value at (sym c.has_output.ensures ∙ c.if-not-has_output.false) in
    rw (← (all c).says) some

pub returns-clause-begun : goal.returns-clause-begun
returns-clause-begun c = (all c).begun

pub returns-clause-index : goal.returns-clause-index
returns-clause-index c = c.loop-at.invariant.index
