use Rattle.std.proofs.Common.{◌≡◌, ◌==◌, Bool, true, false, not, refl, sym, ap, ◌∙◌}
use Rattle.std.specs.Prelude.{◌&&◌}
use Rattle.std.specs.Bool.{Decides}
use Rattle.std.specs.Cmp.{booleans_Decides}
use Rattle.std.specs.Ordering.{int_eq}
use Rattle.std.proofs.lemmas.Bool.Decides.{Decides-int_eq, Decides-eqb, Decides-and}
use Rattle.layout_model.specs.ShapeLists.{shapes_of_run}
use Rattle.layout_model.specs.declared.pair.Pair.{Pair}
use Rattle.layout_model.specs.declared.stretches.Brush.{Brush}
use Rattle.layout_model.specs.declared.shape_lists.Run.{Run}
use Rattle.layout_model.proofs.PointLemmas.{points_decide}
use Rattle.layout_model.proofs.shape_lists.Run.is_again.Goals as goal

pairs_decide : (p q : Pair) → Decides (p.layer == q.layer && p.datatype == q.datatype) (p ≡ q)
pairs_decide p q =
    let both = Decides-and (p.layer == q.layer) (p.datatype == q.datatype) (Decides-eqb p.layer q.layer) (Decides-eqb p.datatype q.datatype) in
    (λ e. (let h = both.0 e in λ i. record { layer = h.0 i; datatype = h.1 i }), λ e. both.1 (ap (λ r. r.layer) e, ap (λ r. r.datatype) e))

brushes_decide : (a b : Brush) → Decides (int_eq a.half b.half && (int_eq a.begin b.begin && int_eq a.end b.end)) (a ≡ b)
brushes_decide a b =
    let ends = Decides-and (int_eq a.begin b.begin) (int_eq a.end b.end) (Decides-int_eq a.begin b.begin) (Decides-int_eq a.end b.end) in
    let all = Decides-and (int_eq a.half b.half) (int_eq a.begin b.begin && int_eq a.end b.end) (Decides-int_eq a.half b.half) ends in (
      λ e. (let h = all.0 e in λ i. record { half = h.0 i; begin = h.1.0 i; end = h.1.1 i }),
      λ e. all.1 (ap (λ r. r.half) e, (ap (λ r. r.begin) e, ap (λ r. r.end) e)),
    )

-- what isn't found to differ is the same
same : {P : Type 0} (r : Bool) → Decides r P → false ≡ not r → P
same true d e = d.0 refl
same false d e = absurd (cc)

same_shapes : (a b : Run) → a.by ≡ b.by → a.pair ≡ b.pair → a.brush ≡ b.brush → a.is_fixed ≡ b.is_fixed → a.offsets ≡ b.offsets
    → a.path.value.items ≡ b.path.value.items → shapes_of_run a ≡ shapes_of_run b
same_shapes a b by pair brush fixed offsets items = rw (by, pair, brush, fixed, offsets, items) refl

pub returns : goal.returns
returns c is =
    let a = c.args.self.now in let b = c.args.other.now in
    let items = sym (c.as_slice.ensures.value ∙ ap (λ v. v.items) c.deref.ensures)
    ∙ c.are_same.ensures is ∙ c.as_slice-2.ensures.value ∙ ap (λ v. v.items) c.deref-2.ensures in
    record {
      after = sym c.if-self-other.false;
      shapes = sym
          (same_shapes a b (same _ (points_decide a.by b.by) c.if-ne.ensures) (same _ (pairs_decide a.pair b.pair) c.if-ne-2.ensures)
          (same _ (brushes_decide a.brush b.brush) c.if-ne-3.ensures) (same _ (booleans_Decides a.is_fixed b.is_fixed) (sym c.if-self-other-2.false))
          (c.if-not-is_again.ensures refl) items);
    }
