-- Set operations on two layers that nothing else takes.
use Rattle.std.specs.Prelude.{◌≡◌, ◌≢◌, ◌==◌, ◌&&◌, not, ℕ, Bool, false, List, Option, Some, None, get_or, slice_get, if◌then◌else◌}
use Rattle.layout_model.specs.declared.pair.Pair.{Pair}
use Rattle.bool_ops.specs.declared.operations.Op.{Op}
use Rattle.bool_ops.specs.declared.operations.Op.TheVariants as ops
use Rattle.deck_text.specs.declared.deck.Step.{Step}
use Rattle.deck_text.specs.declared.deck.Step.TheVariants.{Layer, Or, And, Sub, Xor, Grow, Shrink, Invert, Mirror}
use Rattle.deck_text.specs.declared.deck.Deck.{Deck}
use Rattle.deck_plan.specs.declared.moving.Pair.{Pair as Operands}
use Rattle.deck_plan.specs.declared.needs.Need.{Need}
use Rattle.deck_plan.specs.declared.needs.Taken.{Taken}
use Rattle.deck_plan.specs.declared.own_layers.Layers.{Layers}
use Rattle.deck_plan.specs.Halos.{NeedIs}
use Rattle.deck_plan.specs.Needs.{Takes}

-- whether the definition `user` alone takes the one of which this is needed, and once
abbrev pub is_only : Option Need → ℕ → Bool
is_only None user = false
is_only (Some need) user = (need.last == user) && not need.shared

abbrev pub operands : Op → ℕ → ℕ → Operands
operands op a b = record { op = op; a = a; b = b }

-- the set operation that a step is
abbrev pub pair_of : Option Step → Option Operands
pair_of None = None
pair_of (Some (Layer pair)) = None
pair_of (Some (Or a b)) = Some (operands ops.Or a b)
pair_of (Some (And a b)) = Some (operands ops.And a b)
pair_of (Some (Sub a b)) = Some (operands ops.Sub a b)
pair_of (Some (Xor a b)) = Some (operands ops.Xor a b)
pair_of (Some (Grow a dx dy)) = None
pair_of (Some (Shrink a dx dy)) = None
pair_of (Some (Invert a)) = None
pair_of (Some (Mirror a m)) = None

-- the layer that a step is
abbrev pub layer_of : Option Step → Option Pair
layer_of None = None
layer_of (Some (Layer pair)) = Some pair
layer_of (Some (Or a b)) = None
layer_of (Some (And a b)) = None
layer_of (Some (Sub a b)) = None
layer_of (Some (Xor a b)) = None
layer_of (Some (Grow a dx dy)) = None
layer_of (Some (Shrink a dx dy)) = None
layer_of (Some (Invert a)) = None
layer_of (Some (Mirror a m)) = None

-- the layer that a definition is, where the definition `user` alone takes it
abbrev pub own_layer : List Step → List (Option Need) → ℕ → ℕ → Option Pair
own_layer steps needs user name = if is_only (get_or needs name None) user then layer_of (slice_get steps name) else None

abbrev pub both_layers : Op → Option Pair → Option Pair → Option Layers
both_layers op None b = None
both_layers op (Some a) None = None
both_layers op (Some a) (Some b) = Some (record { op = op; a = a; b = b })

abbrev pub layers_by : List Step → List (Option Need) → ℕ → Option Operands → Option Layers
layers_by steps needs user None = None
layers_by steps needs user (Some pair) = both_layers pair.op (own_layer steps needs user pair.a) (own_layer steps needs user pair.b)

-- the layers of a set operation, where both of its operands are layers that it alone takes
abbrev pub own_layers : List Step → List (Option Need) → ℕ → Option Layers
own_layers steps needs user = layers_by steps needs user (pair_of (slice_get steps user))

-- each definition that takes this one sweeps over its layers themselves
abbrev pub IsLeftOut : Deck → List (Option Need) → ℕ → Type 0
IsLeftOut deck needs n = (user : ℕ) (need : Need) (operand : Taken) → NeedIs needs user need → Takes deck user operand → operand.name ≡ n
    → own_layers deck.steps needs user ≢ None
