use Rattle.std.proofs.Common.{◌∙◌, ◌^◌, map, sym, subst, ap, All, w64, FitsSigned, rules}
use Rattle.std.proofs.lemmas.Int.{to_z-of_z}
use Rattle.std.proofs.lemmas.Result.{IfOk-weaker}
use Rattle.half_grid.specs.Nearness.{IsGrown, IsShrunk}
use Rattle.square_size.specs.EdgeLaws.{IsInSome}
use Rattle.tone_mirror.specs.Frames.{IsInFrame}
use Rattle.tone_mirror.specs.Mirrors.{mirrored_tile}
use Rattle.cell_tree.specs.Flattening.{IsInLayer}
use Rattle.bool_ops.specs.declared.operations.Op.TheVariants as ops
use Rattle.deck_text.specs.Sound.{IsSoundStep}
use Rattle.deck_text.specs.declared.deck.Deck.{Deck}
use Rattle.deck_text.specs.declared.deck.Step.TheVariants.{Layer, Or, And, Sub, Xor, Grow, Shrink, Invert, Mirror}
use Rattle.deck_plan.specs.Areas.{IsInStep}
use Rattle.deck_plan.specs.Plans.{Planned}
use Rattle.deck_plan.specs.Lists.{HasArea, IsJoinedSomewhere, IsListed}
use Rattle.deck_plan.specs.Bounds.{HasCornersUpTo}
use Rattle.deck_plan.proofs.Arms.{of_two, of_one, of_step, of_frame, some_frame, corners_wider}
use Rattle.deck_plan.proofs.plans.Plan.step_area.Goals as goal

pub grown_area-requires-clause-near : goal.grown_area-requires-clause-near
grown_area-requires-clause-near c =
    corners_wider c.list-in-Grow.result.now (subst (All (HasCornersUpTo (2 ^ 42))) (sym c.list-in-Grow.ensures) (c.requires.near c.in-Grow.a))

pub combined_area-requires-clause-first : goal.combined_area-requires-clause-first
combined_area-requires-clause-first c = subst IsJoinedSomewhere (sym c.list.ensures) (c.requires.joined c.in-Or.a)

pub combined_area-requires-clause-second : goal.combined_area-requires-clause-second
combined_area-requires-clause-second c = subst IsJoinedSomewhere (sym c.list-in-Or.ensures) (c.requires.joined c.in-Or.b)

pub combined_area-requires-in-And-clause-first : goal.combined_area-requires-in-And-clause-first
combined_area-requires-in-And-clause-first c = subst IsJoinedSomewhere (sym c.list-in-And.ensures) (c.requires.joined c.in-And.a)

pub combined_area-requires-in-And-clause-second : goal.combined_area-requires-in-And-clause-second
combined_area-requires-in-And-clause-second c = subst IsJoinedSomewhere (sym c.list-in-And-2.ensures) (c.requires.joined c.in-And.b)

pub combined_area-requires-in-Sub-clause-first : goal.combined_area-requires-in-Sub-clause-first
combined_area-requires-in-Sub-clause-first c = subst IsJoinedSomewhere (sym c.list-in-Sub.ensures) (c.requires.joined c.in-Sub.a)

pub combined_area-requires-in-Sub-clause-second : goal.combined_area-requires-in-Sub-clause-second
combined_area-requires-in-Sub-clause-second c = subst IsJoinedSomewhere (sym c.list-in-Sub-2.ensures) (c.requires.joined c.in-Sub.b)

pub combined_area-requires-in-Xor-clause-first : goal.combined_area-requires-in-Xor-clause-first
combined_area-requires-in-Xor-clause-first c = subst IsJoinedSomewhere (sym c.list-in-Xor.ensures) (c.requires.joined c.in-Xor.a)

pub combined_area-requires-in-Xor-clause-second : goal.combined_area-requires-in-Xor-clause-second
combined_area-requires-in-Xor-clause-second c = subst IsJoinedSomewhere (sym c.list-in-Xor-2.ensures) (c.requires.joined c.in-Xor.b)

pub mirrored_area-requires-clause-joined : goal.mirrored_area-requires-clause-joined
mirrored_area-requires-clause-joined c = subst IsJoinedSomewhere (sym c.list-in-Mirror.ensures) (c.requires.joined c.in-Mirror.a)

pub inverted_area-requires : goal.inverted_area-requires
inverted_area-requires c =
    let frame = ap (λ (d : Deck). d.frame) c.deck.ensures.value in
    some_frame c.args.self.now.deck.frame c.in-Some.frame (sym frame ∙ c.in-Some.is) c.deck.ensures.sound.2.frame

pub returns-in-Layer : goal.returns-in-Layer
returns-in-Layer c =
    let plan = c.args.self.now in
    let lists = map (λ list. list.items) c.args.areas.now in
    IfOk-weaker c.layer_area.result _
    (λ traps. HasArea c.args.window
    (λ t. IsInStep plan.cells plan.top plan.deck.frame (IsListed lists) c.args.step.now t) traps.items)
    (λ traps h. of_step c.args.window lists plan.cells plan.top plan.deck.frame c.args.step.now (Layer c.in-Layer.pair) traps.items c.in-Layer.is
    (subst (λ (p : Planned). HasArea c.args.window (λ t. IsInLayer p.cells p.top c.in-Layer.pair t) traps.items) c.self.view_is h))
    c.layer_area.ensures

pub returns-in-Or : goal.returns-in-Or
returns-in-Or c =
    let plan = c.args.self.now in
    let lists = map (λ list. list.items) c.args.areas.now in
    IfOk-weaker c.combined_area.result _
    (λ traps. HasArea c.args.window
    (λ t. IsInStep plan.cells plan.top plan.deck.frame (IsListed lists) c.args.step.now t) traps.items)
    (λ traps h. of_step c.args.window lists plan.cells plan.top plan.deck.frame c.args.step.now (Or c.in-Or.a c.in-Or.b) traps.items c.in-Or.is
    (of_two c.args.window lists ops.Or c.in-Or.a c.in-Or.b c.list.result.now c.list-in-Or.result.now traps.items c.list.ensures c.list-in-Or.ensures h))
    c.combined_area.ensures

pub returns-in-And : goal.returns-in-And
returns-in-And c =
    let plan = c.args.self.now in
    let lists = map (λ list. list.items) c.args.areas.now in
    IfOk-weaker c.combined_area-in-And.result _
    (λ traps. HasArea c.args.window
    (λ t. IsInStep plan.cells plan.top plan.deck.frame (IsListed lists) c.args.step.now t) traps.items)
    (λ traps h. of_step c.args.window lists plan.cells plan.top plan.deck.frame c.args.step.now (And c.in-And.a c.in-And.b) traps.items c.in-And.is
    (of_two c.args.window lists ops.And c.in-And.a c.in-And.b c.list-in-And.result.now c.list-in-And-2.result.now
    traps.items c.list-in-And.ensures c.list-in-And-2.ensures h))
    c.combined_area-in-And.ensures

pub returns-in-Sub : goal.returns-in-Sub
returns-in-Sub c =
    let plan = c.args.self.now in
    let lists = map (λ list. list.items) c.args.areas.now in
    IfOk-weaker c.combined_area-in-Sub.result _
    (λ traps. HasArea c.args.window
    (λ t. IsInStep plan.cells plan.top plan.deck.frame (IsListed lists) c.args.step.now t) traps.items)
    (λ traps h. of_step c.args.window lists plan.cells plan.top plan.deck.frame c.args.step.now (Sub c.in-Sub.a c.in-Sub.b) traps.items c.in-Sub.is
    (of_two c.args.window lists ops.Sub c.in-Sub.a c.in-Sub.b c.list-in-Sub.result.now c.list-in-Sub-2.result.now
    traps.items c.list-in-Sub.ensures c.list-in-Sub-2.ensures h))
    c.combined_area-in-Sub.ensures

pub returns-in-Xor : goal.returns-in-Xor
returns-in-Xor c =
    let plan = c.args.self.now in
    let lists = map (λ list. list.items) c.args.areas.now in
    IfOk-weaker c.combined_area-in-Xor.result _
    (λ traps. HasArea c.args.window
    (λ t. IsInStep plan.cells plan.top plan.deck.frame (IsListed lists) c.args.step.now t) traps.items)
    (λ traps h. of_step c.args.window lists plan.cells plan.top plan.deck.frame c.args.step.now (Xor c.in-Xor.a c.in-Xor.b) traps.items c.in-Xor.is
    (of_two c.args.window lists ops.Xor c.in-Xor.a c.in-Xor.b c.list-in-Xor.result.now c.list-in-Xor-2.result.now
    traps.items c.list-in-Xor.ensures c.list-in-Xor-2.ensures h))
    c.combined_area-in-Xor.ensures

pub returns-in-Grow : goal.returns-in-Grow
returns-in-Grow c =
    let plan = c.args.self.now in
    let lists = map (λ list. list.items) c.args.areas.now in
    let sides = (subst (IsSoundStep plan.deck.frame _) c.in-Grow.is c.requires.sound).1 in
    let dx_low = sides.dx_low in
    let dx_high = sides.dx_high in
    let dy_low = sides.dy_low in
    let dy_high = sides.dy_high in
    let dx : FitsSigned w64 c.in-Grow.dx = search rules in
    let dy : FitsSigned w64 c.in-Grow.dy = search rules in
    let made = simp to_z-of_z at c.grown_area.ensures in
    IfOk-weaker c.grown_area.result _
    (λ traps. HasArea c.args.window
    (λ t. IsInStep plan.cells plan.top plan.deck.frame (IsListed lists) c.args.step.now t) traps.items)
    (λ traps h. of_step c.args.window lists plan.cells plan.top plan.deck.frame c.args.step.now
    (Grow c.in-Grow.a c.in-Grow.dx c.in-Grow.dy) traps.items c.in-Grow.is
    (of_one c.args.window lists
    (λ list. IsGrown c.in-Grow.dx c.in-Grow.dy (IsInSome list)) c.in-Grow.a c.list-in-Grow.result.now traps.items
    c.list-in-Grow.ensures h))
    made

pub returns-in-Shrink : goal.returns-in-Shrink
returns-in-Shrink c =
    let plan = c.args.self.now in
    let lists = map (λ list. list.items) c.args.areas.now in
    let sides = (subst (IsSoundStep plan.deck.frame _) c.in-Shrink.is c.requires.sound).1 in
    let dx_low = sides.dx_low in
    let dx_high = sides.dx_high in
    let dy_low = sides.dy_low in
    let dy_high = sides.dy_high in
    let dx : FitsSigned w64 c.in-Shrink.dx = search rules in
    let dy : FitsSigned w64 c.in-Shrink.dy = search rules in
    let made = simp to_z-of_z at c.shrunk_area.ensures in
    IfOk-weaker c.shrunk_area.result _
    (λ traps. HasArea c.args.window
    (λ t. IsInStep plan.cells plan.top plan.deck.frame (IsListed lists) c.args.step.now t) traps.items)
    (λ traps h. of_step c.args.window lists plan.cells plan.top plan.deck.frame c.args.step.now
    (Shrink c.in-Shrink.a c.in-Shrink.dx c.in-Shrink.dy) traps.items c.in-Shrink.is
    (of_one c.args.window lists
    (λ list. IsShrunk c.in-Shrink.dx c.in-Shrink.dy (IsInSome list)) c.in-Shrink.a c.list-in-Shrink.result.now
    traps.items c.list-in-Shrink.ensures h))
    made

pub returns-in-Some : goal.returns-in-Some
returns-in-Some c =
    let plan = c.args.self.now in
    let lists = map (λ list. list.items) c.args.areas.now in
    let frame = ap (λ (d : Deck). d.frame) c.deck.ensures.value in
    IfOk-weaker c.inverted_area.result _
    (λ traps. HasArea c.args.window
    (λ t. IsInStep plan.cells plan.top plan.deck.frame (IsListed lists) c.args.step.now t) traps.items)
    (λ traps h. of_step c.args.window lists plan.cells plan.top plan.deck.frame c.args.step.now (Invert c.in-Invert.a) traps.items c.in-Invert.is
    (of_frame c.args.window lists plan.cells plan.top plan.deck.frame c.in-Some.frame c.in-Invert.a traps.items
    (sym frame ∙ c.in-Some.is)
    (of_one c.args.window lists
    (λ list t. IsInFrame c.in-Some.frame t × (IsInSome list t → ⊥)) c.in-Invert.a c.list-in-Some.result.now
    traps.items c.list-in-Some.ensures h)))
    c.inverted_area.ensures

pub returns-in-Mirror : goal.returns-in-Mirror
returns-in-Mirror c =
    let plan = c.args.self.now in
    let lists = map (λ list. list.items) c.args.areas.now in
    let at = (subst (IsSoundStep plan.deck.frame _) c.in-Mirror.is c.requires.sound).1 in
    let low = at.low in
    let high = at.high in
    let m : FitsSigned w64 c.in-Mirror.m = search rules in
    let made = simp to_z-of_z at c.mirrored_area.ensures in
    IfOk-weaker c.mirrored_area.result _
    (λ traps. HasArea c.args.window
    (λ t. IsInStep plan.cells plan.top plan.deck.frame (IsListed lists) c.args.step.now t) traps.items)
    (λ traps h. of_step c.args.window lists plan.cells plan.top plan.deck.frame c.args.step.now (Mirror c.in-Mirror.a c.in-Mirror.m) traps.items c.in-Mirror.is
    (of_one c.args.window lists
    (λ list t. IsInSome list (mirrored_tile c.in-Mirror.m t)) c.in-Mirror.a c.list-in-Mirror.result.now traps.items
    c.list-in-Mirror.ensures h))
    made

pub shrunk_area-requires-clause-joined : goal.shrunk_area-requires-clause-joined
shrunk_area-requires-clause-joined c = subst IsJoinedSomewhere (sym c.list-in-Shrink.ensures) (c.requires.joined c.in-Shrink.a)
