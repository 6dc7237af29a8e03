use Rattle.std.proofs.Common.{◌≡◌, ℕ, ◌+◌, Bool, true, false, cond, ◌&&◌, not, List, [], ◌∷◌, ◌++◌, arith, refl, ap, ◌∙◌, count_by}
use Rattle.std.proofs.lemmas.List.Sums.{sum_by-append}
use Rattle.half_grid.specs.Edges.{EdgeParts, left_edge, right_edge, spans, is_of}
use Rattle.half_grid.specs.Trapezoids.{Trapezoid}
use Rattle.half_grid.specs.Windows.{RowRange}
use Rattle.half_grid.specs.declared.border.Operand.{Operand}
use Rattle.scan_line.specs.Runs.{IsBalanced}
use Rattle.trap_join.proofs.tests.add_edges.Goals as goal

one_more : (p : EdgeParts → Bool) (edges : List EdgeParts) (e : EdgeParts) → count_by p (edges ++ e ∷ []) ≡ count_by p edges + cond (p e) 1 0
one_more p edges e = let all = sum_by-append (λ (x : EdgeParts). cond (p x) 1 0) edges (e ∷ []) in omega (arith, all)

and_not : (b : Bool) → b && false ≡ false
and_not true = refl
and_not false = refl

count_none : (p : EdgeParts → Bool) (e : EdgeParts) → p e ≡ false → cond {A = ℕ} (p e) 1 0 ≡ 0
count_none p e h = rw h refl

-- an edge up and an edge down over the same rows
both : (edges one two : List EdgeParts) (z : Trapezoid) (o : Operand) → one ≡ edges ++ left_edge z o ∷ []
    → two ≡ one ++ right_edge z o ∷ [] → ((window : RowRange) → IsBalanced edges window) → (window : RowRange)
    → IsBalanced two window
both edges one two z operand e1 e2 h window o j a b =
    let before = h window o j a b in
    let ups : EdgeParts → Bool = λ (e : EdgeParts). is_of o e.operand && (e.up && spans e j) in
    let downs : EdgeParts → Bool = λ (e : EdgeParts). is_of o e.operand && (not e.up && spans e j) in
    let u1 = ap (count_by ups) e1 ∙ one_more ups edges (left_edge z operand) in
    let u2 = ap (count_by ups) e2 ∙ one_more ups one (right_edge z operand) in
    let d1 = ap (count_by downs) e1 ∙ one_more downs edges (left_edge z operand) in
    let d2 = ap (count_by downs) e2 ∙ one_more downs one (right_edge z operand) in
    let nothing : ups (right_edge z operand) ≡ false = and_not (is_of o operand) in
    let nought : downs (left_edge z operand) ≡ false = and_not (is_of o operand) in
    let u = count_none ups (right_edge z operand) nothing in
    let d = count_none downs (left_edge z operand) nought in
    omega (arith, before, u1, u2, d1, d2, u, d)

pub returns : goal.returns
returns c = both c.args.edges.now.items c.push.new.self.items c.push-2.new.self.items c.args.trap.now c.args.operand
    (c.in_ok-push.ensures.items ∙ ap (λ e. c.args.edges.now.items ++ e ∷ []) c.left_of.ensures)
    (c.in_ok-push-2.ensures.items ∙ ap (λ e. c.push.new.self.items ++ e ∷ []) c.right_of.ensures) c.requires
