use Rattle.std.proofs.Common.{rules, arith, ◌≡◌, ◌++◌, ◌∷◌, [], ◌+◌, ◌-◌, ◌∙◌, length, slice_get, get_or, Some, List, ap, subst, sym, refl}
use Rattle.std.proofs.lemmas.List.{length-append}
use Rattle.std.proofs.lemmas.Option.{slice_get_read}
use Rattle.std.proofs.lemmas.Result.{on_ok_weaker}
use Rattle.std.proofs.Math.Seq.{get_or-append_seam}
use Rattle.half_grid.specs.Edges.{EdgeParts}
use Rattle.column_sweep.specs.Parts.{rests}
use Rattle.column_sweep.specs.RowSums.{AddUpAlike}
use Rattle.column_sweep.proofs.Adding.{alike_behind}
use Rattle.column_sweep.proofs.meeting.put_edge.Goals as goal

-- the last of a list
last_is : (edges before : List EdgeParts) (last : EdgeParts) → edges ≡ before ++ last ∷ [] → slice_get edges (length edges - 1) ≡ Some last
last_is edges before last whole =
    let long : length edges ≡ length before + 1 = ap length whole ∙ length-append before (last ∷ []) in
    let place : length edges - 1 ≡ length before = omega (arith, long) in
    slice_get_read edges (length edges) (length edges - 1) last refl (omega (arith, long))
    (sym (ap (λ k. get_or edges k last) place ∙ ap (λ some. get_or some (length before) last) whole ∙ get_or-append_seam before last [] last))

pub returns-in-Some : goal.returns-in-Some
returns-in-Some c =
    let edges = c.args.edges.now.items in
    let last = c.in-Some.last in
    let whole : edges ≡ c.pop.new.self.items ++ last ∷ [] = search rules in
    let meets = c.meets_last.ensures last (last_is _ c.pop.new.self.items last (c.as_slice.ensures.value ∙ whole)) c.if-meets_last.true in
    on_ok_weaker c.put_rests.result
    (λ put. subst (λ (items : List EdgeParts). AddUpAlike items (edges ++ c.args.edge ∷ [])) (sym put)
    (alike_behind edges c.pop.new.self.items (rests last c.args.edge) last c.args.edge whole meets))
    c.put_rests.ensures
