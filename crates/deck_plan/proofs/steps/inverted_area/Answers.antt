use Rattle.std.proofs.lemmas.Result.{IfOk-weaker}
use Rattle.tone_mirror.specs.Frames.{IsInFrame}
use Rattle.square_size.specs.EdgeLaws.{IsInSome}
use Rattle.deck_plan.specs.Lists.{HasArea}
use Rattle.deck_plan.proofs.Singles.{inverted_has}
use Rattle.deck_plan.proofs.steps.inverted_area.Goals as goal

pub returns : goal.returns
returns c =
    IfOk-weaker c.combine.result _ (λ traps. HasArea c.args.window (λ t. IsInFrame c.args.frame.now t × (IsInSome c.args.traps.now t → ⊥)) traps.items)
    (λ traps joined. inverted_has c.args.frame.now c.frame_trap.result c.frame_trap.ensures.tiles c.args.traps.now c.args.window traps.items joined)
    c.combine.ensures
