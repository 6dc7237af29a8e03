-- Set operations whose list is that of an operand.
use Rattle.std.specs.Prelude.{ℕ, List}
use Rattle.half_grid.specs.Trapezoids.{Trapezoid}
use Rattle.half_grid.specs.declared.border.Operand.{Operand}
use Rattle.half_grid.specs.declared.border.Operand.TheVariants.{A, B}
use Rattle.bool_ops.specs.declared.operations.Op.{Op}
use Rattle.bool_ops.specs.declared.operations.Op.TheVariants as ops
use Rattle.deck_text.specs.declared.deck.Step.{Step}
use Rattle.deck_text.specs.declared.deck.Step.TheVariants.{Or, And, Sub, Xor}
use Rattle.deck_plan.specs.declared.moving.Pair.{Pair}

-- the list of an operand
abbrev pub list_of : Operand → List Trapezoid → List Trapezoid → List Trapezoid
list_of A a b = a
list_of B a b = b

abbrev pub step_by : Op → ℕ → ℕ → Step
step_by ops.Or a b = Or a b
step_by ops.And a b = And a b
step_by ops.Sub a b = Sub a b
step_by ops.Xor a b = Xor a b

-- the step that the set operation is
abbrev pub step_of : Pair → Step
step_of pair = step_by pair.op pair.a pair.b

-- the definition that the operand is
abbrev pub name_of : Pair → Operand → ℕ
name_of pair A = pair.a
name_of pair B = pair.b
