use Rattle.std.proofs.Common.{◌≡◌, ℕ, ◌+◌, Bool, true, false, cond, ◌&&◌, not, List, [], ◌∷◌, ◌++◌, arith, refl, ap, ◌∙◌, count_by}
use Rattle.std.specs.Prelude.{int_le, int_lt}
use Rattle.std.proofs.lemmas.List.Sums.{sum_by-append}
use Rattle.half_grid.specs.Edges.{EdgeParts, spans, is_of}
use Rattle.half_grid.specs.Windows.{RowRange}
use Rattle.scan_line.specs.Runs.{IsBalanced}
use Rattle.sweep_tests.proofs.scans.add_pair.Goals as goal

one_more : (p : EdgeParts → Bool) (edges : List EdgeParts) (e : EdgeParts) → count_by p (edges ++ e ∷ []) ≡ count_by p edges + cond (p e) 1 0
one_more p edges e = let all = sum_by-append (λ (x : EdgeParts). cond (p x) 1 0) edges (e ∷ []) in omega (arith, all)

pair : (own up row : Bool) → cond {A = ℕ} (own && (up && row)) 1 0 + cond (own && (not up && row)) 1 0 ≡ cond
    (own && (not up && row)) 1 0 + cond (own && (not (not up) && row)) 1 0
pair true true true = refl
pair true true false = refl
pair true false true = refl
pair true false false = refl
pair false up row = refl

-- an edge up and an edge down over the same rows
both : (edges one two : List EdgeParts) (e f : EdgeParts) → one ≡ edges ++ e ∷ [] → two ≡ one ++ f ∷ [] → e.y0 ≡ f.y0
    → e.y1 ≡ f.y1 → e.operand ≡ f.operand → f.up ≡ not e.up
    → ((window : RowRange) → IsBalanced edges window) → (window : RowRange) → IsBalanced two window
both edges one two e f e1 e2 y0 y1 own turned h window o j a b =
    let before = h window o j a b in
    let ups : EdgeParts → Bool = λ (x : EdgeParts). is_of o x.operand && (x.up && spans x j) in
    let downs : EdgeParts → Bool = λ (x : EdgeParts). is_of o x.operand && (not x.up && spans x j) in
    let u1 = ap (count_by ups) e1 ∙ one_more ups edges e in
    let u2 = ap (count_by ups) e2 ∙ one_more ups one f in
    let d1 = ap (count_by downs) e1 ∙ one_more downs edges e in
    let d2 = ap (count_by downs) e2 ∙ one_more downs one f in
    let same : cond {A = ℕ} (ups e) 1 0 + cond (ups f) 1 0 ≡ cond (downs e) 1 0 + cond (downs f) 1 0 = rw
    (y0, y1, own, turned) (pair (is_of o f.operand) e.up (int_le f.y0 j && int_lt j f.y1)) in
    omega (arith, before, u1, u2, d1, d2, same)

pub returns : goal.returns
returns c = both c.args.edges.now.items c.push.new.self.items c.push-2.new.self.items c.args.first c.args.second
    c.in_ok-push.ensures.items c.in_ok-push-2.ensures.items c.requires.bottom c.requires.top c.requires.operand c.requires.turned c.requires.balanced
