use Rattle.std.proofs.Common.{◌∙◌, sym, ap}
use Rattle.layout_model.specs.Images.{image_of, moved}
use Rattle.flat_walk.proofs.WayLemmas.{level_near, inner_is}
use Rattle.flat_walk.proofs.levels.Level.next_spot.Goals as goal

pub next-requires-clause-at : goal.next-requires-clause-at
next-requires-clause-at c = level_near c.args.scene.now c.args.self.now c.requires.scene c.requires.level

pub returns-in-Some-next-clause-inner : goal.returns-in-Some-next-clause-inner
returns-in-Some-next-clause-inner c =
    let o = c.of.ensures in
    let n = c.in-Some-next.ensures in
    inner_is c.args.scene.now c.args.self.now c.of.result c.next.new.self c.in-Some-next.spot c.requires.level n.run
    (record {
      by = n.spot.by;
      near = n.spot.near;
      is = n.spot.is ∙ ap
          (λ p. image_of c.args.self.now.orient c.args.self.now.at (moved n.spot.by p.at)) (sym n.placement);
    }) o.cell
    o.orient o.at o.depth o.run o.next
