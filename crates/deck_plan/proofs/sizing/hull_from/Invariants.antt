use Rattle.std.proofs.Common.{◌^◌, ◌∷◌, All, take}
use Rattle.deck_plan.specs.Bounds.{IsAround, IsFullBox}
use Rattle.deck_plan.proofs.sizing.hull_from.Given as goal

-- a box of all so far
abbrev pub invariant-loop-trap : goal.invariant-loop-trap
invariant-loop-trap l = record {
  around : All (IsAround l.hull) (l.fn.first ∷ take l.trap-index l.rest);
  full : IsFullBox (2 ^ 42) l.hull;
}
