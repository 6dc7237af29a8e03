use Rattle.std.proofs.Common.{◌≡◌, ◌++◌, ◌∙◌, ℕ, pos, refl, ap, sym, subst}
use Rattle.std.specs.Prelude.{All, OnOk, option_copied}
use Rattle.std.proofs.lemmas.Bool.{false≢true}
use Rattle.std.proofs.lemmas.Result.{on_ok_weaker}
use Rattle.layout_model.specs.Layouts.{IsShapeOnGrid}
use Rattle.oas_shapes.specs.Brushes.{halves_of, AreHalves}
use Rattle.oas_shapes.specs.Outlines.{path_points}
use Rattle.oas_shapes.specs.Repetitions.{offsets_in}
use Rattle.oas_shapes.specs.Rules.{KeepsOasisPath, IsLowest}
use Rattle.oas_shapes.proofs.PathListLemmas.{added, its_path, reach_by, near_by, drawn_by_brush, drawn_without_width, on_ok_two, all_on_grid}
use Rattle.oas_shapes.proofs.PathListLemmas.{course_keeps, course_lowest}
use Rattle.oas_shapes.proofs.RuleLemmas.{path_keeps, path_lowest}
use Rattle.oas_shapes.proofs.drawing.draw_path.Goals as goal

pub returns-in_default-clause-broken : goal.returns-in_default-clause-broken
returns-in_default-clause-broken c = λ rule e.
    subst (λ d. IsLowest (KeepsOasisPath c.args.at c.args.brush d (option_copied c.args.repetition)) rule) c.written.ensures (c.draw_course.ensures.broken rule e)

pub returns-in_default-way_to-clause-kept : goal.returns-in_default-way_to-clause-kept
returns-in_default-way_to-clause-kept c =
    subst
    (λ d. OnOk c.draw_course-in_default-way_to.result ((rule : ℕ) → KeepsOasisPath c.args.at c.args.brush d (option_copied c.args.repetition) rule))
    c.written-in_default-way_to.ensures c.draw_course-in_default-way_to.ensures.kept

pub returns-in_default-way_to-clause-broken : goal.returns-in_default-way_to-clause-broken
returns-in_default-way_to-clause-broken c = λ rule e.
    subst (λ d. IsLowest (KeepsOasisPath c.args.at c.args.brush d (option_copied c.args.repetition)) rule) c.written-in_default-way_to.ensures
    (c.draw_course-in_default-way_to.ensures.broken rule e)

pub returns-in_default-drawn_by-clause-kept : goal.returns-in_default-drawn_by-clause-kept
returns-in_default-drawn_by-clause-kept c =
    subst
    (λ d. OnOk c.draw_course-in_default-drawn_by.result ((rule : ℕ) → KeepsOasisPath c.args.at c.args.brush d (option_copied c.args.repetition) rule))
    c.written-in_default-drawn_by.ensures c.draw_course-in_default-drawn_by.ensures.kept

pub returns-in_default-drawn_by-clause-broken : goal.returns-in_default-drawn_by-clause-broken
returns-in_default-drawn_by-clause-broken c = λ rule e.
    subst (λ d. IsLowest (KeepsOasisPath c.args.at c.args.brush d (option_copied c.args.repetition)) rule) c.written-in_default-drawn_by.ensures
    (c.draw_course-in_default-drawn_by.ensures.broken rule e)

pub returns-then-has_no_width-clause-kept : goal.returns-then-has_no_width-clause-kept
returns-then-has_no_width-clause-kept c =
    let d = c.args.points.now in
    let rep = option_copied c.args.repetition in
    let near = near_by d c.in-Some.made.now c.args.at _ c.in-Some.ensures c.in-Some-way_to.ensures.way c.in-Some-way_to.ensures.low
    c.in-Some-way_to.ensures.high in
    let drawn = drawn_without_width c.args.brush c.halves-halves.result (path_points c.args.at d) c.halves-halves.ensures.value
    (c.if-has_no_width.ensures.0 refl) in
    on_ok_weaker c.add_none.result
    (λ kept rule. path_keeps c.args.at c.args.brush d rep (c.if-not-is_near.ensures.0 refl) near rule
    (course_keeps (halves_of c.args.brush) (path_points c.args.at d) rep drawn rule (kept rule)))
    c.add_none.ensures.kept

pub returns-then-has_no_width-clause-broken : goal.returns-then-has_no_width-clause-broken
returns-then-has_no_width-clause-broken c = λ rule e.
    let d = c.args.points.now in
    let rep = option_copied c.args.repetition in
    let near = near_by d c.in-Some.made.now c.args.at _ c.in-Some.ensures c.in-Some-way_to.ensures.way c.in-Some-way_to.ensures.low
    c.in-Some-way_to.ensures.high in
    let drawn = drawn_without_width c.args.brush c.halves-halves.result (path_points c.args.at d) c.halves-halves.ensures.value
    (c.if-has_no_width.ensures.0 refl) in
    path_lowest c.args.at c.args.brush d rep (c.if-not-is_near.ensures.0 refl) near rule
    (course_lowest (halves_of c.args.brush) (path_points c.args.at d) rep drawn rule (c.add_none.ensures.broken rule e))

pub returns-then-has_no_width-clause-memory : goal.returns-then-has_no_width-clause-memory
returns-then-has_no_width-clause-memory c = λ few short e rule.
    let d = c.args.points.now in
    let rep = option_copied c.args.repetition in
    let near = near_by d c.in-Some.made.now c.args.at _ c.in-Some.ensures c.in-Some-way_to.ensures.way c.in-Some-way_to.ensures.low
    c.in-Some-way_to.ensures.high in
    let drawn = drawn_without_width c.args.brush c.halves-halves.result (path_points c.args.at d) c.halves-halves.ensures.value
    (c.if-has_no_width.ensures.0 refl) in
    path_keeps c.args.at c.args.brush d rep (c.if-not-is_near.ensures.0 refl) near rule
    (course_keeps (halves_of c.args.brush) (path_points c.args.at d) rep drawn rule (c.add_none.ensures.memory short e rule))

pub add_along-requires-clause-near : goal.add_along-requires-clause-near
add_along-requires-clause-near c =
    let made = c.in-Some.made.now in
    let way = c.in-Some-way_to.ensures.way in
    let near = near_by c.args.points.now made c.args.at _ c.in-Some.ensures way c.in-Some-way_to.ensures.low c.in-Some-way_to.ensures.high in
    reach_by c.args.points.now made c.args.at _ _ (its_path c.args.points.now made _ c.in-Some.ensures c.in-Some-drawn_by.ensures.path) way near

pub returns-clause-shapes : goal.returns-clause-shapes
returns-clause-shapes c =
    let offsets = offsets_in (option_copied c.args.repetition) in
    let made = c.in-Some.made.now in
    let wide : c.halves-halves.result.half ≡ pos 0 → ⊥ = λ none. false≢true (c.if-has_no_width.ensures.1 none) in
    let more = added c.args.pair c.args.points.now made c.args.at c.args.brush c.halves-halves.result offsets _ _
    (its_path c.args.points.now made _ c.in-Some.ensures c.in-Some-drawn_by.ensures.path) c.halves-halves.ensures.value wide c.in-Some-way_to.ensures.way in
    on_ok_weaker c.add_along.result (λ e. e ∙ ap (λ shapes. c.args.shapes.now ++ shapes) more) c.add_along.ensures.shapes

pub returns-clause-grid : goal.returns-clause-grid
returns-clause-grid c = λ before.
    let made = c.in-Some.made.now in
    let d = c.args.points.now in
    let way = c.in-Some-way_to.ensures.way in
    let offsets = offsets_in (option_copied c.args.repetition) in
    let wide : c.halves-halves.result.half ≡ pos 0 → ⊥ = λ none. false≢true (c.if-has_no_width.ensures.1 none) in
    let more = added c.args.pair d made c.args.at c.args.brush c.halves-halves.result offsets _ _
    (its_path d made _ c.in-Some.ensures c.in-Some-drawn_by.ensures.path) c.halves-halves.ensures.value wide way in
    let near = near_by d made c.args.at _ c.in-Some.ensures way c.in-Some-way_to.ensures.low c.in-Some-way_to.ensures.high in
    let halves = subst AreHalves c.halves-halves.ensures.value c.halves-halves.ensures.near in
    on_ok_two _ _ _ c.add_along.result
    (λ e placed. subst (All IsShapeOnGrid) (sym (e ∙ ap (λ shapes. c.args.shapes.now ++ shapes) more))
    (all_on_grid c.args.pair (halves_of c.args.brush) (path_points c.args.at d) offsets c.args.shapes.now halves near placed before))
    c.add_along.ensures.shapes c.add_along.ensures.offsets

pub returns-clause-kept : goal.returns-clause-kept
returns-clause-kept c =
    let made = c.in-Some.made.now in
    let d = c.args.points.now in
    let rep = option_copied c.args.repetition in
    let near = near_by d made c.args.at _ c.in-Some.ensures c.in-Some-way_to.ensures.way c.in-Some-way_to.ensures.low c.in-Some-way_to.ensures.high in
    let drawn = drawn_by_brush d made c.args.at c.args.brush c.halves-halves.result _
    (its_path d made _ c.in-Some.ensures c.in-Some-drawn_by.ensures.path) c.halves-halves.ensures.value c.in-Some-drawn_by.ensures.ends in
    on_ok_weaker c.add_along.result
    (λ kept rule. path_keeps c.args.at c.args.brush d rep (c.if-not-is_near.ensures.0 refl) near rule
    (course_keeps (halves_of c.args.brush) (path_points c.args.at d) rep drawn rule (kept rule)))
    c.add_along.ensures.kept

pub returns-clause-broken : goal.returns-clause-broken
returns-clause-broken c = λ rule e.
    let made = c.in-Some.made.now in
    let d = c.args.points.now in
    let rep = option_copied c.args.repetition in
    let near = near_by d made c.args.at _ c.in-Some.ensures c.in-Some-way_to.ensures.way c.in-Some-way_to.ensures.low c.in-Some-way_to.ensures.high in
    let drawn = drawn_by_brush d made c.args.at c.args.brush c.halves-halves.result _
    (its_path d made _ c.in-Some.ensures c.in-Some-drawn_by.ensures.path) c.halves-halves.ensures.value c.in-Some-drawn_by.ensures.ends in
    path_lowest c.args.at c.args.brush d rep (c.if-not-is_near.ensures.0 refl) near rule
    (course_lowest (halves_of c.args.brush) (path_points c.args.at d) rep drawn rule (c.add_along.ensures.broken rule e))

pub returns-clause-memory : goal.returns-clause-memory
returns-clause-memory c = λ few short e rule.
    let made = c.in-Some.made.now in
    let d = c.args.points.now in
    let rep = option_copied c.args.repetition in
    let near = near_by d made c.args.at _ c.in-Some.ensures c.in-Some-way_to.ensures.way c.in-Some-way_to.ensures.low c.in-Some-way_to.ensures.high in
    let drawn = drawn_by_brush d made c.args.at c.args.brush c.halves-halves.result _
    (its_path d made _ c.in-Some.ensures c.in-Some-drawn_by.ensures.path) c.halves-halves.ensures.value c.in-Some-drawn_by.ensures.ends in
    path_keeps c.args.at c.args.brush d rep (c.if-not-is_near.ensures.0 refl) near rule
    (course_keeps (halves_of c.args.brush) (path_points c.args.at d) rep drawn rule (c.add_along.ensures.memory short e rule))
