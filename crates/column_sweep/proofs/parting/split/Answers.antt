use Rattle.std.proofs.Common.{rules, ◌≡◌, ◌+◌, take, ◌++◌, ◌∷◌, [], List, sym, subst, append_assoc, append-nil, ap, ◌∙◌}
use Rattle.std.specs.Option.{option_to_list}
use Rattle.std.proofs.lemmas.List.{take_more, take_all}
use Rattle.half_grid.specs.Edges.{EdgeParts}
use Rattle.column_sweep.specs.Parts.{AreSplit}
use Rattle.column_sweep.proofs.Closing.{split_more}
use Rattle.column_sweep.proofs.parting.split.Goals as goal

pub loop-edge-init : goal.loop-edge-init
loop-edge-init c = λ before h. subst
    (λ (edges : List EdgeParts). AreSplit c.args.cut.x edges c.args.parts.now.own.items c.args.parts.now.beyond.items)
    (sym (append-nil before)) h

pub loop-edge-preserved : goal.loop-edge-preserved
loop-edge-preserved c = λ before old.
    let h = c.halves_of-halves.ensures in
    let more = split_more c.args.cut.x
    (before ++ take c.loop-edge.edge-index c.args.edges.now) c.loop-edge.parts.own.items
    c.loop-edge.parts.beyond.items c.edge-item.result
    (option_to_list c.halves_of-halves.result.left) (option_to_list c.halves_of-halves.result.right) (c.loop-edge.invariant before old) h.add h.left h.right in
    let taken : take (c.loop-edge.edge-index + 1) c.args.edges.now ≡ take c.loop-edge.edge-index c.args.edges.now
    ++ c.edge-item.result ∷ [] = search (rules, take_more) in
    rw (c.in_ok-put.ensures, c.in_ok-put-2.ensures)
    (subst (λ (edges : List EdgeParts). AreSplit c.args.cut.x edges
    (c.loop-edge.parts.own.items ++ option_to_list c.halves_of-halves.result.left)
    (c.loop-edge.parts.beyond.items ++ option_to_list c.halves_of-halves.result.right))
    (append_assoc before (take c.loop-edge.edge-index c.args.edges.now) (c.edge-item.result ∷ []) ∙ ap
    (λ (edges : List EdgeParts). before ++ edges) (sym taken)) more)

pub returns : goal.returns
returns c = λ before old.
    let whole : take c.loop-edge.edge-index c.args.edges.now ≡ c.args.edges.now = take_all _ _ c.loop-edge-test.false in
    subst (λ (edges : List EdgeParts). AreSplit c.args.cut.x
    (before ++ edges) c.loop-edge.parts.own.items c.loop-edge.parts.beyond.items) whole
    (c.loop-edge.invariant before old)
