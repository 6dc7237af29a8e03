use Rattle.std.proofs.Common.{rules, List, All, ◌++◌, sym, ap, subst, w64, FitsSigned}
use Rattle.std.proofs.lemmas.Int.{to_z-of_z}
use Rattle.half_grid.specs.Trapezoids.{Trapezoid, IsShot}
use Rattle.field_split.specs.Cutting.{pieces_of}
use Rattle.field_split.specs.Fields.{IsFieldSize}
use Rattle.field_split.specs.Looks.{IsFieldShot}
use Rattle.field_split.proofs.FewLemmas.{all_few, near_low, near_high}
use Rattle.field_split.proofs.StripeLemmas.{stripe_list_is}
use Rattle.field_split.proofs.pieces.Pieces.new.Goals as goal

pub invariant_of-result : goal.invariant_of-result
invariant_of-result g c =
    let size : FitsSigned w64 c.size.result = search rules in
    let number : FitsSigned w64 c.args.stripe = c.ranges.stripe in
    let row = c.requires.stripe in
    let sized : IsFieldSize c.args.fields = rw c.size.ensures.value at c.size.ensures.range in
    record {
      sized = simp to_z-of_z c.size.ensures.range;
      low = simp to_z-of_z (rw c.size.ensures.value (near_low c.args.fields c.args.stripe row.0 sized row.1 row.2));
      high = simp to_z-of_z (rw c.size.ensures.value (near_high c.args.fields c.args.stripe row.0 sized row.1 row.2));
    }

pub returns-clause-list : goal.returns-clause-list
returns-clause-list g c = λ shots stands.
    let size : FitsSigned w64 c.size.result = search rules in
    let number : FitsSigned w64 c.args.stripe = c.ranges.stripe in
    let sized : IsFieldSize c.args.fields = rw c.size.ensures.value at c.size.ensures.range in
    let within = subst (All IsFieldShot) (g.met.S.Stream.one_list c.args.source c.requires.shots.0 shots c.requires.shots.1 stands) c.requires.shots.2 in
    let all : All IsShot shots = λ i d lt. (within i d lt).shot in
    simp to_z-of_z (rw c.size.ensures.value (
      pieces_of c.args.fields c.args.stripe shots,
      stripe_list_is c.args.fields c.args.stripe sized shots all,
      record {
        shots = shots;
        given = stands;
        within = within;
        few = all_few c.args.fields c.args.stripe shots sized within;
        is = sym (ap (λ (xs : List Trapezoid). xs ++ pieces_of c.args.fields c.args.stripe shots) (c.none.ensures c.args.fields));
      },
    ))

pub returns-clause-some_list : goal.returns-clause-some_list
returns-clause-some_list g c = let some = returns-clause-list g c c.requires.shots.0 c.requires.shots.1 in (some.0, some.2)
