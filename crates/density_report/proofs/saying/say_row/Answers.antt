use Rattle.std.proofs.Common.{ℕ, pos, List, ◌++◌, get_or, ap, subst, ◌∙◌, rules}
use Rattle.std.proofs.lemmas.List.{take_more}
use Rattle.depot.specs.Printing.{IsSaidButFor}
use Rattle.depot.proofs.ForCallers.{refused}
use Rattle.depot.proofs.ForCallers.{part_of_longer, part_of_more_texts, said_then, texts_more}
use Rattle.density_map.specs.declared.counts.Counted.{Counted}
use Rattle.density_report.specs.Texts.{entry_line}
use Rattle.density_report.specs.Rows.{counted_line}
use Rattle.density_report.proofs.saying.say_row.Goals as goal

pub returns-in_err-say_entry-clause-content : goal.returns-in_err-say_entry-clause-content
returns-in_err-say_entry-clause-content g c =
    let at = g.D.Depot.content in
    let l = c.loop-counted in
    let xs = c.args.counts.now in
    let none : Counted = record { column = pos 0; tiles = 0 } in
    let x = get_or xs l.counted-index none in
    let line = counted_line c.args.strip.now.row in
    let more = take_more xs l.counted-index none c.loop-counted-test.true in
    record {
      ok = search rules;
      refused = refused c.from_residual.result _
          (λ told. part_of_more_texts (at c.say_entry.new.depot) line c.args.buffer.now xs l.counted-index x more
          (l.invariant.said told)
          (part_of_longer (at l.depot) (at c.say_entry.new.depot) l.buffer (line x) (c.in_err-say_entry.ensures.content.refused told)));
    }

pub loop-counted-preserved : goal.loop-counted-preserved
loop-counted-preserved g c =
    let at = g.D.Depot.content in
    let l = c.loop-counted in
    let xs = c.args.counts.now in
    let none : Counted = record { column = pos 0; tiles = 0 } in
    let x = get_or xs l.counted-index none in
    let row = c.args.strip.now.row in
    let more = take_more xs l.counted-index none c.loop-counted-test.true in
    let line = ap entry_line c.entry_of.ensures in
    record {
      said = λ told. subst
          (λ (t : List ℕ). IsSaidButFor (at c.args.depot.now) t c.say_entry.new.buffer (at c.say_entry.new.depot))
          (texts_more (counted_line row) c.args.buffer.now xs l.counted-index x more)
          (said_then (counted_line row x) (l.invariant.said told)
          (subst (λ (t : List ℕ). IsSaidButFor (at l.depot) (l.buffer ++ t) c.say_entry.new.buffer
          (at c.say_entry.new.depot)) line (c.in_ok-say_entry.ensures.content.ok told)));
      uncounted = c.in_ok-say_entry.ensures.counts.uncounted ∙ l.invariant.uncounted;
      counted = search rules;
    }
