use Rattle.std.proofs.Common.{◌≡◌, get_or, subst, ◌∙◌, ap, sym, arith, length, List}
use Rattle.half_grid.specs.Trapezoids.{Trapezoid}
use Rattle.flat_walk.specs.Kept.{Entry, alone}
use Rattle.flat_walk.specs.Stores.{entry_of, number_from}
use Rattle.flat_walk.specs.declared.stores.Place.TheVariants.{Short, Seldom}
use Rattle.flat_walk.proofs.StoreLemmas.{place_there, entry_there, seldom_read, part_is}
use Rattle.flat_walk.proofs.stores.PieceStore.get.Goals as goal

pub slice_bounds-pieces-end : goal.slice_bounds-pieces-end
slice_bounds-pieces-end c =
    let s = c.self.inside in
    let h = place_there s.pieces.items s.seldom.items s.places.items c.args.self.now c.args.number c.index.result.now (Short c.in-Short.first c.in-Short.count)
    c.self.view_is c.requires c.index.ensures c.in-Short.is c.self.invariant in
    let e = c.deref.ensures.value in
    let f = ap length e in
    omega (arith, h, f)

pub index-requires-in-Seldom : goal.index-requires-in-Seldom
index-requires-in-Seldom c =
    let s = c.self.inside in
    let h = place_there s.pieces.items s.seldom.items s.places.items c.args.self.now c.args.number c.index.result.now (Seldom c.in-Seldom.low c.in-Seldom.high)
    c.self.view_is c.requires c.index.ensures c.in-Seldom.is c.self.invariant in
    omega (arith, h, s.seldom.ok)

pub returns-in-Short-clause-there : goal.returns-in-Short-clause-there
returns-in-Short-clause-there c =
    let s = c.self.inside in
    entry_there s.pieces.items s.seldom.items s.places.items c.args.self.now c.args.number c.index.result.now (Short c.in-Short.first c.in-Short.count)
    c.self.view_is c.requires c.index.ensures c.in-Short.is _
    (ap alone (part_is s.pieces.items c.deref.result.now c.in-Short.first c.in-Short.count c.deref.ensures.value))

pub returns-in-Wide-clause-there : goal.returns-in-Wide-clause-there
returns-in-Wide-clause-there c =
    let s = c.self.inside in
    let h = place_there s.pieces.items s.seldom.items s.places.items c.args.self.now c.args.number c.index.result.now (Seldom c.in-Seldom.low c.in-Seldom.high)
    c.self.view_is c.requires c.index.ensures c.in-Seldom.is c.self.invariant in
    entry_there s.pieces.items s.seldom.items s.places.items c.args.self.now c.args.number c.index.result.now (Seldom c.in-Seldom.low c.in-Seldom.high)
    c.self.view_is c.requires c.index.ensures c.in-Seldom.is (alone c.as_slice.result.now)
    (seldom_read s.seldom.items (number_from c.in-Seldom.low c.in-Seldom.high) c.index-in-Seldom.result.now (alone c.as_slice.result.now) h
    (subst (λ n. c.index-in-Seldom.result.now ≡ get_or s.seldom.items n c.index-in-Seldom.result.now) c.number_from.ensures c.index-in-Seldom.ensures)
    (sym c.behind-self.view_is ∙ (ap entry_of c.in-Wide.is ∙ ap alone (sym c.as_slice.ensures.value))))

pub returns-in-Without-clause-there : goal.returns-in-Without-clause-there
returns-in-Without-clause-there c =
    let s = c.self.inside in
    let is : List Trapezoid → Entry = λ l. record { pieces = l; more = c.in-Without.more } in
    let h = place_there s.pieces.items s.seldom.items s.places.items c.args.self.now c.args.number c.index.result.now (Seldom c.in-Seldom.low c.in-Seldom.high)
    c.self.view_is c.requires c.index.ensures c.in-Seldom.is c.self.invariant in
    entry_there s.pieces.items s.seldom.items s.places.items c.args.self.now c.args.number c.index.result.now (Seldom c.in-Seldom.low c.in-Seldom.high)
    c.self.view_is c.requires c.index.ensures c.in-Seldom.is _
    (seldom_read s.seldom.items (number_from c.in-Seldom.low c.in-Seldom.high) c.index-in-Seldom.result.now _ h
    (subst (λ n. c.index-in-Seldom.result.now ≡ get_or s.seldom.items n c.index-in-Seldom.result.now) c.number_from.ensures c.index-in-Seldom.ensures)
    (sym c.behind-self.view_is ∙ (ap entry_of c.in-Without.is ∙ ap is (sym c.none.ensures.list))))
