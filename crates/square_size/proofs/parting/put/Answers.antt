use Rattle.std.proofs.Common.{◌↔◌, ◌++◌, ◌∷◌, [], Option, w64, FitsSigned, subst, arith}
use Rattle.std.proofs.lemmas.Int.{to_z-of_z}
use Rattle.std.proofs.lemmas.List.{append-nil}
use Rattle.std.specs.Option.{option_to_list}
use Rattle.half_grid.specs.Nearness.{IsShrunk}
use Rattle.half_grid.specs.Trapezoids.{Trapezoid, IsInTrapezoid}
use Rattle.half_grid.specs.declared.plane.Tile.{Tile}
use Rattle.square_size.specs.Lone.{IsInOne}
use Rattle.square_size.specs.Parting.{IsParted}
use Rattle.square_size.proofs.PartLemmas.{parted_lone, parted_rest}
use Rattle.square_size.proofs.parting.put.Goals as goal

pub returns-then-touches : goal.returns-then-touches
returns-then-touches c = λ traps done alone among parted.
    rw c.in_ok-push.ensures.items
    (parted_rest c.args.d traps done c.args.parted.now.shrunk.items c.args.parted.now.rest.items c.args.trap.now parted among)

pub returns-in_ok-push-2 : goal.returns-in_ok-push-2
returns-in_ok-push-2 c = λ traps done alone among parted.
    (let d : FitsSigned w64 c.args.d = c.ranges.d in
    let left = simp to_z-of_z at c.shrunk.ensures in
    rw c.in_ok-push-2.ensures.items
    (parted_lone c.args.d traps done c.args.parted.now.shrunk.items c.args.parted.now.rest.items (c.in-Some.small ∷ []) c.args.trap.now parted among
    (alone c.if-touches.false)
    (subst (λ (o : Option Trapezoid). (t : Tile) → IsShrunk c.args.d c.args.d (IsInTrapezoid c.args.trap.now) t ↔ IsInOne (option_to_list o) t)
    c.in-Some.is left)
    (omega arith)))

pub returns-in_default : goal.returns-in_default
returns-in_default c = λ traps done alone among parted.
    (let d : FitsSigned w64 c.args.d = c.ranges.d in
    let left = simp to_z-of_z at c.shrunk.ensures in
    subst (λ l. IsParted c.args.d traps (done ++ c.args.trap.now ∷ []) l c.args.parted.now.rest.items) (append-nil c.args.parted.now.shrunk.items)
    (parted_lone c.args.d traps done c.args.parted.now.shrunk.items c.args.parted.now.rest.items [] c.args.trap.now parted among
    (alone c.if-touches.false)
    (subst (λ (o : Option Trapezoid). (t : Tile) → IsShrunk c.args.d c.args.d (IsInTrapezoid c.args.trap.now) t ↔ IsInOne (option_to_list o) t)
    c.in_default.is left)
    (omega arith)))
