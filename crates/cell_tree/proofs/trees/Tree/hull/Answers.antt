use Rattle.std.proofs.Common.{◌<◌, length, map, ap, sym, subst, ◌∙◌, arith}
use Rattle.cell_tree.specs.Boxes.{IsHull}
use Rattle.cell_tree.specs.Flattening.{IsVertex}
use Rattle.cell_tree.specs.HullTables.{hull_in, AreInOrder, AreHullsBelow}
use Rattle.cell_tree.proofs.ChainLemmas.{reachable_within}
use Rattle.cell_tree.proofs.TreeLemmas.{hulls_read}
use Rattle.cell_tree.proofs.trees.Tree.hull.Goals as goal

pub index-requires : goal.index-requires
index-requires c =
    let now = c.args.self.now in
    let top : now.top < length now.layout.cells = subst (λ r. r.top < length r.layout.cells) c.self.view_is c.self.invariant.1 in
    let inside = reachable_within now.layout.cells now.top c.args.cell top c.requires in
    let same = ap (λ r. length r.layout.cells) c.self.view_is in
    let long = c.self.invariant.3 in omega arith

pub returns : goal.returns
returns c =
    let now = c.args.self.now in
    let top : now.top < length now.layout.cells = subst (λ r. r.top < length r.layout.cells) c.self.view_is c.self.invariant.1 in
    let inside = reachable_within now.layout.cells now.top c.args.cell top c.requires in
    let same = ap (λ r. length r.layout.cells) c.self.view_is in
    let long = c.self.invariant.3 in
    let within : c.args.cell < length c.self.inside.hulls.items = omega arith in
    let are = hulls_read (λ list. list.items) now.layout.cells now.top c.args.cell c.self.inside.hulls.items c.index.result.now within c.index.ensures
    (subst (λ r. AreHullsBelow r.layout.cells r.top (map (λ list. list.items) c.self.inside.hulls.items)) c.self.view_is c.self.invariant.4) c.requires in
    subst (IsHull (IsVertex now.layout.cells c.args.cell c.args.pair))
    (sym (c.hull_on.ensures ∙ ap (λ l. hull_in l c.args.pair) c.as_slice.ensures.value)) (are.1 c.args.pair)

pub hull_on-requires : goal.hull_on-requires
hull_on-requires c =
    let now = c.args.self.now in
    let top : now.top < length now.layout.cells = subst (λ r. r.top < length r.layout.cells) c.self.view_is c.self.invariant.1 in
    let inside = reachable_within now.layout.cells now.top c.args.cell top c.requires in
    let same = ap (λ r. length r.layout.cells) c.self.view_is in
    let long = c.self.invariant.3 in
    let within : c.args.cell < length c.self.inside.hulls.items = omega arith in
    let are = hulls_read (λ list. list.items) now.layout.cells now.top c.args.cell c.self.inside.hulls.items c.index.result.now within c.index.ensures
    (subst (λ r. AreHullsBelow r.layout.cells r.top (map (λ list. list.items) c.self.inside.hulls.items)) c.self.view_is c.self.invariant.4) c.requires in
    subst AreInOrder (sym c.as_slice.ensures.value) are.0
