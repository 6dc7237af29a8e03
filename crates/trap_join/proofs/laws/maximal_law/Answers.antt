use Rattle.std.proofs.Common.{IsTrue, Bool, true, false, rules}
use mathlib.Core.Logic.{◌⊎◌, inl, inr}
use Rattle.half_grid.specs.declared.plane.Tile.{Tile}
use Rattle.trap_join.proofs.MaximalLemmas.{maximal_joined, joined_maximal, covered}
use Rattle.trap_join.proofs.laws.maximal_law.Goals as goal

decided : (b : Bool) → IsTrue b ⊎ (IsTrue b → ⊥)
decided true = inl (search rules)
decided false = inr (λ h. (let clash : ⊥ = cc in clash))

pub returns : goal.returns
returns c = λ has window traps order covers. (
  λ joined. joined_maximal (λ (t : Tile). IsTrue (has t)) window traps (λ t. decided (has t)) covers joined,
  λ maximal. maximal_joined (λ (t : Tile). IsTrue (has t)) window traps order maximal.each (λ t h. covered (λ (u : Tile). IsTrue (has u)) traps covers t h),
)
