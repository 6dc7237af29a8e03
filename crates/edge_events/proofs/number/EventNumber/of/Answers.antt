use Rattle.std.proofs.Common.{ℕ, ◌+◌, ◌*◌, ◌%◌, FitsSigned, w64, rules, ap, ◌∙◌}
use Rattle.std.proofs.lemmas.Int.{to_z-of_z}
use Rattle.edge_events.specs.EventNumbers.{event_at, x_of}
use Rattle.edge_events.proofs.EventLemmas.{event_same, kind_same}
use Rattle.edge_events.proofs.number.EventNumber.of.Goals as goal

pub returns-clause-event : goal.returns-clause-event
returns-clause-event c =
    let fits : FitsSigned w64 c.args.event.now.y = search rules in
    let e = c.args.event.now in
    let m = c.moved_up.result in
    simp to_z-of_z
    (ap (λ (k : ℕ). event_at ((m * 16 + k) % 16) (x_of (m * 16 + k)) e.y) c.kind_of.ensures.value ∙ event_same e m c.requires.on_line c.moved_up.ensures.value)

pub returns-clause-kind : goal.returns-clause-kind
returns-clause-kind c =
    let e = c.args.event.now in
    let m = c.moved_up.result in
    ap (λ (k : ℕ). (m * 16 + k) % 16) c.kind_of.ensures.value ∙ kind_same e m
