use Rattle.std.proofs.Common.{◌≡◌, ◌+◌, ◌<◌, ℕ, List, Some, length, slice_get, slice_set, get_or, refl, sym, subst, ◌∙◌, arith}
use Rattle.std.proofs.lemmas.Option.{slice_get_read, same_Some}
use Rattle.layout_model.specs.ShapeLists.{IsAgain, AreKept}
use Rattle.layout_model.specs.declared.shape_lists.Run.{Run}
use Rattle.layout_model.proofs.ShapeListLemmas.{noted_kept}
use Rattle.layout_model.proofs.shape_lists.note.Goals as goal

-- two runs that were read
noted : (runs read again : List Run) (k n : ℕ) (run next here : Run) → read ≡ runs → again ≡ runs → k + 1 < length runs
    → run ≡ get_or read k run → next ≡ get_or again (k + 1) next → IsAgain run next → n ≡ next.times + 1 → slice_get runs k ≡ Some here
    → AreKept runs (slice_set runs k (record here { times = n }))
noted runs read again k n run next here alike same inside at there is more placed =
    let first : slice_get runs k ≡ Some run =
    slice_get_read runs (length runs) k run refl (omega arith) (subst (λ l. run ≡ get_or l k run) alike at) in
    let second : slice_get runs (k + 1) ≡ Some next =
    slice_get_read runs (length runs) (k + 1) next refl inside (subst (λ l. next ≡ get_or l (k + 1) next) same there) in
    let one : here ≡ run = same_Some here run (sym placed ∙ first) in
    subst (λ (r : Run). AreKept runs (slice_set runs k (record r { times = n }))) (sym one)
    (subst (λ m. AreKept runs (slice_set runs k (record run { times = m }))) (sym more) (noted_kept runs k run next first second is))

pub returns : goal.returns
returns c =
    noted c.args.runs.now c.as_slice.result.now c.as_slice-2.result.now c.args.k c.in-Some.times c.index-as_slice-k.result c.index-as_slice-k-2.result
    c.item_mut.result.now c.as_slice.ensures c.as_slice-2.ensures c.requires c.index-as_slice-k.is c.index-as_slice-k-2.is
    (c.if-not-is_again.ensures refl) c.in-Some.ensures.1 c.item_mut.ensures.value
