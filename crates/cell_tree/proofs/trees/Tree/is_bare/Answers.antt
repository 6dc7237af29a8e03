use Rattle.std.proofs.Common.{◌≡◌, ◌<◌, length, map, ap, subst, arith}
use Rattle.std.proofs.lemmas.Bool.Decides.{nat_tests}
use Rattle.std.proofs.lemmas.List.{nil_from_length}
use Rattle.layout_model.specs.Layouts.{IsLayoutOnGrid}
use Rattle.cell_tree.specs.Trees.{IsTree}
use Rattle.cell_tree.specs.HullTables.{AreHullsBelow, AreOnlyBelow}
use Rattle.cell_tree.proofs.TreeLemmas.{hulls_read, only_read, bare}
use Rattle.cell_tree.proofs.trees.Tree.is_bare.Goals as goal

pub index-requires : goal.index-requires
index-requires c =
    let same = ap (λ r. length r.layout.cells) c.self.view_is in
    let inside = c.requires in
    let long = c.self.invariant.3 in omega arith

pub returns-clause-reached : goal.returns-clause-reached
returns-clause-reached c = λ some.
    let now = c.args.self.now in
    let same = ap (λ r. length r.layout.cells) c.self.view_is in
    let inside = c.requires in
    let long = c.self.invariant.3 in
    let within : c.args.cell < length c.self.inside.hulls.items = omega arith in
    let many : 0 < length c.index.result.now.items = grind (arith, nat_tests) in
    only_read (λ list. list.items) now.layout.cells now.top c.args.cell c.self.inside.hulls.items c.index.result.now within c.index.ensures
    (subst (λ r. AreOnlyBelow r.layout.cells r.top (map (λ list. list.items) c.self.inside.hulls.items)) c.self.view_is c.self.invariant.5)
    many

pub returns-clause-bare : goal.returns-clause-bare
returns-clause-bare c = λ none reach.
    let now = c.args.self.now in
    let same = ap (λ r. length r.layout.cells) c.self.view_is in
    let inside = c.requires in
    let long = c.self.invariant.3 in
    let within : c.args.cell < length c.self.inside.hulls.items = omega arith in
    let are = hulls_read (λ list. list.items) now.layout.cells now.top c.args.cell c.self.inside.hulls.items c.index.result.now within c.index.ensures
    (subst (λ r. AreHullsBelow r.layout.cells r.top (map (λ list. list.items) c.self.inside.hulls.items)) c.self.view_is c.self.invariant.4) reach in
    let grid = subst (λ r. IsLayoutOnGrid r.layout) c.self.view_is c.self.invariant.0 in
    let tree = subst (λ r. IsTree r.layout.cells r.top) c.self.view_is c.self.invariant.2 in
    let count : length c.index.result.now.items ≡ 0 = grind (arith, nat_tests) in
    bare now.layout.cells now.top c.args.cell c.index.result.now.items grid.cells tree.shallow reach are
    (nil_from_length c.index.result.now.items count)
