use Rattle.std.proofs.Common.{◌≡◌, ℕ, true, get_or, sym, ◌∙◌, arith}
use Rattle.std.specs.Char.{is_ascii_graphic}
use Rattle.deck_text.proofs.PieceLemmas.{none_left, run_at, stray_at, from_first}
use Rattle.deck_text.proofs.tokens.next_piece.Goals as goal

pub returns-then-start-line-clause-none : goal.returns-then-start-line-clause-none
returns-then-start-line-clause-none c = sym c.after_blanks-start.ensures.same ∙ none_left c.args.line.now c.after_blanks-start.result (omega arith)

pub returns-then-is_ascii_graphic-clause-some : goal.returns-then-is_ascii_graphic-clause-some
returns-then-is_ascii_graphic-clause-some c =
    let line = c.args.line.now in
    let start = c.after_blanks-start.result in
    sym c.after_blanks-start.ensures.same
    ∙ run_at line start c.run_end-end.result c.run_end-end.ensures.forward c.run_end-end.ensures.within
    (from_first (λ (k : ℕ). is_ascii_graphic (get_or line k 0) ≡ true) start c.run_end-end.result
    (sym c.is_ascii_graphic.ensures.value ∙ c.if-is_ascii_graphic.true) c.run_end-end.ensures.run)
    c.run_end-end.ensures.stops

pub returns-clause-some : goal.returns-clause-some
returns-clause-some c =
    let line = c.args.line.now in
    let start = c.after_blanks-start.result in
    sym c.after_blanks-start.ensures.same
    ∙ stray_at line start (omega arith) (c.after_blanks-start.ensures.stops (omega arith)) (sym c.is_ascii_graphic.ensures.value ∙ c.if-is_ascii_graphic.false)
