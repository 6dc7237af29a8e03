use Rattle.std.proofs.Common.{◌≡◌, ◌∷◌, ◌+◌, ◌∙◌, drop, sym, ap, drop_of_length-le, ◌++◌}
use Rattle.std.proofs.lemmas.List.{drop_more}
use Rattle.half_grid.specs.Trapezoids.{Trapezoid}
use Rattle.column_sweep.specs.Operands.{edges_meeting}
use Rattle.column_sweep.proofs.OperandEdges.{put_more, put_skipped, put_all}
use Rattle.column_sweep.proofs.operands.put_edges.Goals as goal

pub loop-trap-preserved : goal.loop-trap-preserved
loop-trap-preserved c =
    let z = c.trap-item.result in
    let first : drop c.loop-trap.trap-index c.args.traps.now ≡ c.trap-item.result ∷ drop (c.loop-trap.trap-index + 1) c.args.traps.now =
    drop_more c.args.traps.now c.loop-trap.trap-index c.trap-item.result c.loop-trap-test.true ∙ ap
    (λ (w : Trapezoid). w ∷ drop (c.loop-trap.trap-index + 1) c.args.traps.now) (sym c.trap-item.is) in
    let put = rw c.left_of.ensures at c.in_ok-put_edge.ensures in
    let pushed = rw c.right_of.ensures at c.in_ok-push.ensures.items in
    put_more c.args.operand c.args.window (drop c.loop-trap.trap-index c.args.traps.now)
    (drop (c.loop-trap.trap-index + 1) c.args.traps.now) c.trap-item.result first c.loop-trap.edges.items
    (c.args.edges.now.items ++ edges_meeting c.args.operand c.args.window c.args.traps.now) c.loop-trap.invariant
    c.put_edge.new.edges.items c.push.new.self.items
    (sym c.meets.ensures ∙ c.if-not-meets.false) put pushed

pub loop-trap-preserved-then-not-meets : goal.loop-trap-preserved-then-not-meets
loop-trap-preserved-then-not-meets c =
    let first : drop c.loop-trap.trap-index c.args.traps.now ≡ c.trap-item.result ∷ drop (c.loop-trap.trap-index + 1) c.args.traps.now =
    drop_more c.args.traps.now c.loop-trap.trap-index c.trap-item.result c.loop-trap-test.true ∙ ap
    (λ (w : Trapezoid). w ∷ drop (c.loop-trap.trap-index + 1) c.args.traps.now) (sym c.trap-item.is) in
    put_skipped c.args.operand c.args.window (drop c.loop-trap.trap-index c.args.traps.now)
    (drop (c.loop-trap.trap-index + 1) c.args.traps.now) c.trap-item.result first c.loop-trap.edges.items
    (c.args.edges.now.items ++ edges_meeting c.args.operand c.args.window c.args.traps.now) c.loop-trap.invariant (sym c.meets.ensures ∙ c.if-not-meets.true)

pub returns : goal.returns
returns c =
    put_all c.args.operand c.args.window (drop c.loop-trap.trap-index c.args.traps.now) c.loop-trap.edges.items
    (c.args.edges.now.items ++ edges_meeting c.args.operand c.args.window c.args.traps.now)
    (drop_of_length-le c.args.traps.now c.loop-trap-test.false) c.loop-trap.invariant
