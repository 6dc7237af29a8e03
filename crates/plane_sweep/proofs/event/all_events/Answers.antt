use Rattle.std.proofs.Common.{rules, ◌≡◌, ◌+◌, take, ◌++◌, ◌∷◌, [], List, sym, ap, ◌∙◌}
use Rattle.std.proofs.lemmas.List.{take_more, take_all}
use Rattle.row_lists.specs.declared.event.Event.{Event}
use Rattle.row_lists.specs.Events.{begin_of, end_of, events_of}
use Rattle.plane_sweep.proofs.EdgePart.{events_more}
use Rattle.plane_sweep.proofs.event.all_events.Goals as goal

pub loop-edge-preserved : goal.loop-edge-preserved
loop-edge-preserved c =
    let taken : take (c.loop-edge.edge-index + 1) c.args.edges.now
    ≡ take c.loop-edge.edge-index c.args.edges.now ++ c.edge-item.result ∷ [] = search (rules, take_more) in
    c.in_ok-push_events.ensures
    ∙ (ap (λ (events : List Event). (events ++ begin_of c.edge-item.result ∷ []) ++ end_of c.edge-item.result ∷ []) c.loop-edge.invariant
    ∙ (sym (events_more (take c.loop-edge.edge-index c.args.edges.now) c.edge-item.result) ∙ ap events_of (sym taken)))

pub returns : goal.returns
returns c = c.loop-edge.invariant ∙ ap events_of (take_all _ _ c.loop-edge-test.false)
