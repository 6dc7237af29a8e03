use Rattle.std.proofs.Common.{rules, refl, ◌≡◌, ◌*◌, ◌≤ℤ◌, ℕ, List, ap, subst, sym, ◌∙◌}
use Rattle.deck_text.specs.declared.deck.Output.{Output}
use Rattle.deck_text.specs.declared.deck.Deck.{Deck}
use Rattle.depot.proofs.ForCallers.{refused}
use Rattle.depot.specs.Content.{with_file, IsPartMade}
use Rattle.oas_lex.specs.ShotText.{head}
use Rattle.shot_writer.specs.WriterView.{pair_of, sums_of}
use Rattle.shot_writer.specs.declared.parts.Sums.{Sums}
use Rattle.shot_writer.specs.Writing.{AreSumsAfter, no_sums}
use Rattle.deck_plan.specs.Bands.{AreRowsNear}
use Rattle.shot_output.proofs.LawLemmas.{has_rules}
use Rattle.shot_output.proofs.PutLemmas.{list_exists}
use Rattle.shot_output.proofs.FileLemmas.{is_output, start_cut, put_cut, finish_cut, finished, ok_both, err_then}
use Rattle.shot_output.proofs.outputs.write_output.Goals as goal

pub returns-in_err-writer-clause-refused : goal.returns-in_err-writer-clause-refused
returns-in_err-writer-clause-refused g c = refused c.from_residual.result _ (λ told output there.
    let read : c.index-as_slice-output.result ≡ output =
    is_output c.args.plan.now.deck.outputs c.as_slice.result.now c.args.output output
    c.index-as_slice-output.result c.index-as_slice-output.is
    (c.as_slice.ensures ∙ ap (λ (d : Deck). d.outputs) c.deck-deck.ensures.value) there in
    let unit : 2 * c.deck-deck.result.now.unit ≡ 2 * c.args.plan.now.deck.unit = ap (λ (d : Deck). 2 * d.unit) c.deck-deck.ensures.value in
    let name : c.as_str.result.now ≡ output.file = c.as_str.ensures ∙ ap (λ (o : Output). o.file) read in
    let sound = c.deck-deck.ensures.sound in
    let window : c.rows-rows.result.y0 ≤ℤ c.rows-rows.result.y1 = search rules in
    let near : AreRowsNear c.rows-rows.result =
    record { low = c.rows-rows.ensures.low; high = c.rows-rows.ensures.high; window = window } in
    start_cut c.args.plan.now c.args.output (g.D.Depot.content c.args.depot.now) output
    (2 * c.deck-deck.result.now.unit) output.pair unit refl (g.D.Depot.content c.start.new.depot)
    (list_exists c.args.plan.now c.args.output (has_rules sound.0 sound.1 c.args.plan.now.deck sound.2) sound.2.band_high
    c.rows-rows.result near c.rows-rows.ensures.outside c.has_lists.ensures)
    (subst (λ (n : List ℕ). IsPartMade (g.D.Depot.content c.args.depot.now) n (head (2 * c.deck-deck.result.now.unit))
    (g.D.Depot.content c.start.new.depot)) name (c.in_err-writer.ensures.content.refused told)))

pub returns-in_err-put_bands-clause-refused : goal.returns-in_err-put_bands-clause-refused
returns-in_err-put_bands-clause-refused g c = refused c.from_residual-in_err-put_bands.result _ (λ told output there.
    let read : c.index-as_slice-output.result ≡ output =
    is_output c.args.plan.now.deck.outputs c.as_slice.result.now c.args.output output
    c.index-as_slice-output.result c.index-as_slice-output.is
    (c.as_slice.ensures ∙ ap (λ (d : Deck). d.outputs) c.deck-deck.ensures.value) there in
    let unit : 2 * c.deck-deck.result.now.unit ≡ 2 * c.args.plan.now.deck.unit = ap (λ (d : Deck). 2 * d.unit) c.deck-deck.ensures.value in
    let name : c.as_str.result.now ≡ output.file = c.as_str.ensures ∙ ap (λ (o : Output). o.file) read in
    let pair : pair_of c.in_ok-writer.writer ≡ output.pair = c.in_ok-writer.ensures.pair ∙ ap (λ (o : Output). o.pair) read in
    let started = c.in_ok-writer.ensures.content.ok told ∙ ap
    (λ (n : List ℕ). with_file (g.D.Depot.content c.args.depot.now) n (head (2 * c.deck-deck.result.now.unit)))
    name in
    put_cut c.args.plan.now c.args.output (g.D.Depot.content c.args.depot.now) output (2 * c.deck-deck.result.now.unit)
    (pair_of c.in_ok-writer.writer) unit pair (g.D.Depot.content c.start.new.depot)
    (g.D.Depot.content c.put_bands.new.depot) g.D.Depot.tells told started c.in_err-put_bands.ensures.refused)

pub returns-clause-ok : goal.returns-clause-ok
returns-clause-ok g c =
    let put = c.in_ok-put_bands.ensures.ok in
    ok_both c.finish.result c.finish.ensures.content.ok c.finish.ensures.sums (λ sums ended same. record {
      shots = put.shots;
      list = put.list;
      content = λ output there told.
          let read : c.index-as_slice-output.result ≡ output =
          is_output c.args.plan.now.deck.outputs c.as_slice.result.now c.args.output output
          c.index-as_slice-output.result c.index-as_slice-output.is
          (c.as_slice.ensures ∙ ap (λ (d : Deck). d.outputs) c.deck-deck.ensures.value) there in
          let unit : 2 * c.deck-deck.result.now.unit ≡ 2 * c.args.plan.now.deck.unit = ap (λ (d : Deck). 2 * d.unit) c.deck-deck.ensures.value in
          let name : c.as_str.result.now ≡ output.file = c.as_str.ensures ∙ ap (λ (o : Output). o.file) read in
          let pair : pair_of c.in_ok-writer.writer ≡ output.pair = c.in_ok-writer.ensures.pair ∙ ap (λ (o : Output). o.pair) read in
          let started = c.in_ok-writer.ensures.content.ok told ∙ ap
          (λ (n : List ℕ). with_file (g.D.Depot.content c.args.depot.now) n
          (head (2 * c.deck-deck.result.now.unit))) name in
          finished c.args.plan.now c.args.output (g.D.Depot.content c.args.depot.now) output
          (2 * c.deck-deck.result.now.unit) (pair_of c.in_ok-writer.writer) unit pair
          (g.D.Depot.content c.start.new.depot) (g.D.Depot.content c.put_bands.new.depot)
          (g.D.Depot.content c.finish.new.depot) g.D.Depot.tells (sums_of c.put_bands.new.writer) told started put
          (ended told);
      summed = subst (λ (s : Sums). AreSumsAfter no_sums put.shots s) (sym same) put.summed;
    })

pub returns-clause-refused : goal.returns-clause-refused
returns-clause-refused g c = err_then c.finish.result c.finish.ensures.content.refused (λ part told output there.
    let read : c.index-as_slice-output.result ≡ output =
    is_output c.args.plan.now.deck.outputs c.as_slice.result.now c.args.output output
    c.index-as_slice-output.result c.index-as_slice-output.is
    (c.as_slice.ensures ∙ ap (λ (d : Deck). d.outputs) c.deck-deck.ensures.value) there in
    let unit : 2 * c.deck-deck.result.now.unit ≡ 2 * c.args.plan.now.deck.unit = ap (λ (d : Deck). 2 * d.unit) c.deck-deck.ensures.value in
    let name : c.as_str.result.now ≡ output.file = c.as_str.ensures ∙ ap (λ (o : Output). o.file) read in
    let pair : pair_of c.in_ok-writer.writer ≡ output.pair = c.in_ok-writer.ensures.pair ∙ ap (λ (o : Output). o.pair) read in
    let started = c.in_ok-writer.ensures.content.ok told ∙ ap
    (λ (n : List ℕ). with_file (g.D.Depot.content c.args.depot.now) n (head (2 * c.deck-deck.result.now.unit)))
    name in
    finish_cut c.args.plan.now c.args.output (g.D.Depot.content c.args.depot.now) output
    (2 * c.deck-deck.result.now.unit) (pair_of c.in_ok-writer.writer) unit pair
    (g.D.Depot.content c.start.new.depot) (g.D.Depot.content c.put_bands.new.depot)
    (g.D.Depot.content c.finish.new.depot) g.D.Depot.tells
    (sums_of c.put_bands.new.writer) told started c.in_ok-put_bands.ensures.ok (part told))
