use Rattle.std.proofs.Common.{◌<◌, true, false, length, arith}
use Rattle.std.proofs.lemmas.List.{get_or-set_same}
use Rattle.square_size.specs.Levels.{top_level}
use Rattle.square_size.proofs.MarkLemmas.{set_keeps, top_at, marked_next}
use Rattle.square_size.proofs.levels.mark_under.Goals as goal

pub returns-then-mark_met-clause-more : goal.returns-then-mark_met-clause-more
returns-then-mark_met-clause-more c =
    let traps = c.args.traps.now in
    let k = c.args.k in
    let marks = c.mark_met.new.marks in
    let many = c.mark_met.ensures.many in
    let before = c.requires.marks in
    let within = c.requires.inside in
    let inside : k < length marks = omega (arith, many, before, within) in
    let met = rw (c.requires.tops, c.bottom_level.ensures) at c.mark_met.ensures.met (rw c.requires.tops at c.requires.order) in
    marked_next traps c.args.marks.now _ k c.index-traps-k.result c.index-traps-k.is
    (λ j h. set_keeps marks k j inside (c.mark_met.ensures.kept j h))
    (λ j y at lap. (set_keeps marks k j inside (met j (top_level y) (top_at traps j y at) lap).0, get_or-set_same marks k true false inside))

pub returns-else-mark_met-clause-more : goal.returns-else-mark_met-clause-more
returns-else-mark_met-clause-more c =
    let traps = c.args.traps.now in
    let met = rw (c.requires.tops, c.bottom_level.ensures) at c.mark_met.ensures.met (rw c.requires.tops at c.requires.order) in
    marked_next traps c.args.marks.now _ c.args.k c.index-traps-k.result c.index-traps-k.is c.mark_met.ensures.kept
    (λ j y at lap. (let yes = (met j (top_level y) (top_at traps j y at) lap).1 in let no = c.if-mark_met.false in absurd (cc (yes, no))))
