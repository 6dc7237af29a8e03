use Rattle.std.proofs.Common.{Option, refl, ◌≡◌, ◌++◌, List, [], ℕ, subst, flat_map, length, ap, ◌∙◌, rules}
use Rattle.std.proofs.lemmas.Result.{on_ok_weaker, on_err_weaker}
use Rattle.half_grid.specs.Trapezoids.{Trapezoid}
use Rattle.layout_model.specs.declared.pair.Pair.{Pair}
use Rattle.depot.specs.Content.{IsPartSaid, with_said}
use Rattle.shot_writer.specs.Writing.{triangles_of}
use Rattle.shot_listing.specs.Listing.{listing, unit_line, layer_line, shot_line, sums_line}
use Rattle.depot.proofs.ForCallers.{refused, part_of_longer, part_held, say_held, hold_more}
use Rattle.shot_listing.proofs.saying.say_listing.Goals as goal

-- what is in the buffer before the shots
head_is : (b₀ b₁ b₂ unit layer : List ℕ) → b₀ ≡ [] → b₁ ≡ b₀ ++ unit → b₂ ≡ b₁ ++ layer → b₂ ≡ unit ++ layer
head_is b₀ b₁ b₂ unit layer e₀ e₁ e₂ = e₂ ∙ ap (λ b. b ++ layer) (e₁ ∙ ap (λ b. b ++ unit) e₀)

-- the whole, with the number of triangles that was summed
whole_is : (unit : ℕ) (pair : Option Pair) (shots : List Trapezoid) (head : List ℕ) (triangles : ℕ)
    → head ≡ unit_line unit ++ layer_line pair → triangles ≡ triangles_of shots
    → (head ++ flat_map shot_line shots) ++ sums_line (length shots) triangles ≡ listing unit pair shots
unfolding listing
whole_is unit pair shots head triangles e f =
    ap (λ b. (b ++ flat_map shot_line shots) ++ sums_line (length shots) triangles) e
    ∙ ap (λ n. ((unit_line unit ++ layer_line pair) ++ flat_map shot_line shots) ++ sums_line (length shots) n) f

pub returns-in_err-triangles-clause-content : goal.returns-in_err-triangles-clause-content
returns-in_err-triangles-clause-content g c =
    let at = g.D.Depot.content in
    let xs = c.args.shots.now in
    let n = triangles_of xs in
    let head = head_is c.new-buffer.result c.put_unit.new.buffer c.put_layer.new.buffer (unit_line c.args.unit)
    (layer_line c.args.pair) c.new-buffer.ensures c.put_unit.ensures.value c.put_layer.ensures in
    let whole = whole_is c.args.unit c.args.pair xs c.put_layer.new.buffer n head refl in
    record {
      ok = search rules;
      refused = refused c.from_residual.result _
          (λ told. subst (λ (l : List ℕ). IsPartSaid (at c.args.depot.now) l (at c.put_shots.new.depot)) whole
          (part_of_longer (at c.args.depot.now) (at c.put_shots.new.depot)
          (c.put_layer.new.buffer ++ flat_map shot_line xs) (sums_line (length xs) n)
          (c.in_err-triangles.ensures.content.refused told)));
    }

pub returns-clause-content : goal.returns-clause-content
returns-clause-content g c =
    let at = g.D.Depot.content in
    let xs = c.args.shots.now in
    let n = c.in_ok-triangles.triangles in
    let head = head_is c.new-buffer.result c.put_unit.new.buffer c.put_layer.new.buffer (unit_line c.args.unit)
    (layer_line c.args.pair) c.new-buffer.ensures c.put_unit.ensures.value c.put_layer.ensures in
    let whole = whole_is c.args.unit c.args.pair xs c.put_layer.new.buffer n head c.in_ok-triangles.ensures.triangles in
    record {
      ok = on_ok_weaker c.say_last.result
          (λ all told. say_held (at c.say_last.new.depot)
          (hold_more (sums_line (length xs) n) (c.in_ok-triangles.ensures.content.ok told)) (all told) ∙ ap
          (with_said (at c.args.depot.now)) whole) c.say_last.ensures.content.ok;
      refused = on_err_weaker c.say_last.result
          (λ part told. subst (λ (l : List ℕ). IsPartSaid (at c.args.depot.now) l (at c.say_last.new.depot)) whole
          (part_held (at c.say_last.new.depot) (hold_more (sums_line (length xs) n) (c.in_ok-triangles.ensures.content.ok told))
          (part told))) c.say_last.ensures.content.refused;
    }
