use Rattle.std.proofs.Common.{ℕ, List, ◌++◌, ap, subst, ◌∙◌}
use Rattle.std.proofs.lemmas.Result.{on_ok_weaker, on_err_weaker}
use Rattle.depot.specs.Content.{IsPartSaid}
use Rattle.depot.proofs.ForCallers.{refused}
use Rattle.depot.specs.Printing.{IsSaidButFor}
use Rattle.deck_text.specs.declared.deck.Deck.{Deck}
use Rattle.density_map.proofs.ForCallers.{floor_of}
use Rattle.density_report.specs.Texts.{size_line}
use Rattle.density_report.proofs.TableLemmas.{some_size}
use Rattle.density_report.proofs.TableSteps.{place, line_cut, rows_cut, totals_cut, table_put}
use Rattle.density_report.proofs.tables.say_table.Goals as goal

pub returns-in_err-say_size-clause-refused : goal.returns-in_err-say_size-clause-refused
returns-in_err-say_size-clause-refused g c =
    let at = g.D.Depot.content in
    let size = c.args.mesh.now.size in
    let x = c.index-as_slice-output.result in
    let here = place c.args.plan.now.deck.outputs c.as_slice.result.now c.args.output x c.index-as_slice-output.is
    (c.as_slice.ensures ∙ ap (λ (d : Deck). d.outputs) c.deck-deck.ensures.value) c.requires.output in
    let row = floor_of size c.rows-rows.result.y0 (some_size size c.requires.size) in
    refused c.from_residual.result _
    (λ told. line_cut c.args.plan.now c.args.output size row.0 (at c.args.depot.now)
    (at c.say_size.new.depot) c.args.buffer.now x c.rows-rows.result here c.rows-rows.ensures.outside row.1
    (subst (λ (f : List ℕ). IsPartSaid (at c.args.depot.now) (c.args.buffer.now ++ size_line f size)
    (at c.say_size.new.depot)) c.as_str.ensures (c.in_err-say_size.ensures.content.refused told)))

pub returns-in_err-totals-clause-refused : goal.returns-in_err-totals-clause-refused
returns-in_err-totals-clause-refused g c =
    let at = g.D.Depot.content in
    let size = c.args.mesh.now.size in
    let x = c.index-as_slice-output.result in
    let here = place c.args.plan.now.deck.outputs c.as_slice.result.now c.args.output x c.index-as_slice-output.is
    (c.as_slice.ensures ∙ ap (λ (d : Deck). d.outputs) c.deck-deck.ensures.value) c.requires.output in
    refused c.from_residual-in_err-totals.result _
    (λ told. rows_cut c.args.plan.now c.args.output size (at c.args.depot.now) (at c.say_size.new.depot)
    (at c.say_rows.new.depot) c.args.buffer.now c.say_size.new.buffer x here
    (subst (λ (f : List ℕ). IsSaidButFor (at c.args.depot.now)
    (c.args.buffer.now ++ size_line f size) c.say_size.new.buffer (at c.say_size.new.depot)) c.as_str.ensures
    (c.in_ok-say_size.ensures.content.ok told))
    (c.in_err-totals.ensures.refused told))

pub returns-clause-ok : goal.returns-clause-ok
returns-clause-ok g c =
    let at = g.D.Depot.content in
    let size = c.args.mesh.now.size in
    let x = c.index-as_slice-output.result in
    let here = place c.args.plan.now.deck.outputs c.as_slice.result.now c.args.output x c.index-as_slice-output.is
    (c.as_slice.ensures ∙ ap (λ (d : Deck). d.outputs) c.deck-deck.ensures.value) c.requires.output in
    on_ok_weaker c.say_totals.result
    (λ last. table_put c.args.plan.now c.args.output size g.D.Depot.tells (at c.args.depot.now)
    (at c.say_size.new.depot)
    (at c.say_rows.new.depot) c.args.buffer.now c.say_size.new.buffer c.say_rows.new.buffer x c.in_ok-totals.totals
    here c.requires.size
    (λ told. subst (λ (f : List ℕ). IsSaidButFor (at c.args.depot.now)
    (c.args.buffer.now ++ size_line f size) c.say_size.new.buffer (at c.say_size.new.depot)) c.as_str.ensures
    (c.in_ok-say_size.ensures.content.ok told))
    c.in_ok-totals.ensures.ok c.say_totals.new.buffer (at c.say_totals.new.depot) last) c.say_totals.ensures.content.ok

pub returns-clause-refused : goal.returns-clause-refused
returns-clause-refused g c =
    let at = g.D.Depot.content in
    let size = c.args.mesh.now.size in
    let x = c.index-as_slice-output.result in
    let here = place c.args.plan.now.deck.outputs c.as_slice.result.now c.args.output x c.index-as_slice-output.is
    (c.as_slice.ensures ∙ ap (λ (d : Deck). d.outputs) c.deck-deck.ensures.value) c.requires.output in
    on_err_weaker c.say_totals.result
    (λ part told. totals_cut c.args.plan.now c.args.output size g.D.Depot.tells (at c.args.depot.now)
    (at c.say_size.new.depot)
    (at c.say_rows.new.depot) c.args.buffer.now c.say_size.new.buffer c.say_rows.new.buffer x c.in_ok-totals.totals
    here c.requires.size
    (λ told. subst (λ (f : List ℕ). IsSaidButFor (at c.args.depot.now)
    (c.args.buffer.now ++ size_line f size) c.say_size.new.buffer (at c.say_size.new.depot)) c.as_str.ensures
    (c.in_ok-say_size.ensures.content.ok told))
    c.in_ok-totals.ensures.ok (at c.say_totals.new.depot) told (part told)) c.say_totals.ensures.content.refused
