use Rattle.std.proofs.Common.{◌≡◌, ◌<◌, ◌+◌, ◌++◌, ◌∷◌, [], ℕ, suc, List, Contains, length, take, get_or}
use Rattle.std.proofs.Common.{w64, FitsSigned, false, refl, sym, subst, ap, ◌∙◌, arith}
use Rattle.std.proofs.lemmas.Int.{to_z-of_z}
use Rattle.std.proofs.lemmas.Option.{slice_get_read}
use Rattle.std.proofs.Math.Seq.{take-suc}
use Rattle.std.proofs.lemmas.List.{take_all}
use Rattle.half_grid.specs.Trapezoids.{Trapezoid}
use Rattle.square_size.specs.Lone.{IsLone}
use Rattle.square_size.specs.Parting.{IsParted}
use Rattle.square_size.specs.Levels.{AreMarksOf}
use Rattle.square_size.proofs.MarkLemmas.{unmarked_at}
use Rattle.square_size.proofs.TouchLemmas.{lone_by_marks}
use Rattle.square_size.proofs.PartLemmas.{all_parted}
use Rattle.square_size.proofs.parting.shrink_lone.Goals as goal

-- one more of them
next_one : (traps : List Trapezoid) (k : ℕ) (z : Trapezoid) → k < length traps → z ≡ get_or traps k z → take k traps ++ z ∷ [] ≡ take (k + 1) traps
next_one traps k z inside at =
    let next : suc k ≡ k + 1 = omega arith in
    ap (λ x. take k traps ++ x ∷ []) at ∙ sym (take-suc traps k z inside) ∙ ap (λ n. take n traps) next

pub loop-k-preserved : goal.loop-k-preserved
loop-k-preserved c =
    let d : FitsSigned w64 c.args.d = c.ranges.d in
    let traps = c.args.traps.now in
    let marks = c.in-Some.marks.items in
    let k = c.loop-k.k in
    let z = c.index-traps-k.result in
    let put = simp to_z-of_z at c.in_ok-put.ensures in
    let inside : k < length traps = c.loop-k-test.true in
    let before = simp to_z-of_z at c.loop-k.invariant in
    let are : AreMarksOf traps marks = rw c.in-Some.is at c.in_ok-marks.ensures in
    let many = are.many in
    let member : Contains traps z = (k, inside, sym c.index-traps-k.is) in
    let at = slice_get_read traps (length traps) k z refl inside c.index-traps-k.is in
    let alone : c.index.result.now ≡ false → IsLone traps z = λ not. lone_by_marks c.requires.joined.0 traps marks z k are c.requires.joined.1 at
    (unmarked_at marks k c.index.result.now (omega (arith, many, inside)) c.index.ensures not) member in
    simp to_z-of_z
    (subst (λ done. IsParted c.args.d traps done c.put.new.parted.shrunk.items c.put.new.parted.rest.items)
    (next_one traps k z inside c.index-traps-k.is)
    (put traps (take k traps) alone member before))

pub returns-clause-left : goal.returns-clause-left
returns-clause-left c =
    let d : FitsSigned w64 c.args.d = c.ranges.d in
    let traps = c.args.traps.now in
    all_parted c.args.d traps c.loop-k.parted.shrunk.items c.loop-k.parted.rest.items c.requires.joined.0 c.requires.low c.requires.joined.1
    (subst (λ done. IsParted c.args.d traps done c.loop-k.parted.shrunk.items c.loop-k.parted.rest.items)
    (take_all c.loop-k.k traps (omega (arith, c.loop-k-test.false)))
    (simp to_z-of_z at c.loop-k.invariant))

pub returns-clause-few : goal.returns-clause-few
returns-clause-few c =
    let d : FitsSigned w64 c.args.d = c.ranges.d in
    let traps = c.args.traps.now in
    let all : IsParted c.args.d traps traps c.loop-k.parted.shrunk.items c.loop-k.parted.rest.items =
    subst (λ done. IsParted c.args.d traps done c.loop-k.parted.shrunk.items c.loop-k.parted.rest.items)
    (take_all c.loop-k.k traps (omega (arith, c.loop-k-test.false)))
    (simp to_z-of_z at c.loop-k.invariant) in
    all.1.few
