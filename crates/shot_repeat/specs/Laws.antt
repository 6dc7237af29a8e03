-- The reading of packed shot files is one: bytes say at most one thing, have at most one first fault, never both, and
-- never neither.
use Rattle.std.specs.Prelude.{ℕ, ◌≡◌, List, Option}
use Rattle.half_grid.specs.Trapezoids.{Trapezoid}
use Rattle.layout_model.specs.declared.pair.Pair.{Pair}
use Rattle.shot_repeat.specs.Packed.{IsPackedText, IsPackedFile}
use Rattle.shot_repeat.specs.Refusals.{IsFirstPackFault}
use Rattle.shot_repeat.specs.declared.refusing.PackBad.{PackBad}

-- Bytes stand for one unit, one pair and one list of shots at most.
abbrev pub OneReading : Type 0
OneReading =
    (bytes : List ℕ) (unit other_unit : ℕ) (pair other_pair : Option Pair) (shots other_shots : List Trapezoid)
    → IsPackedText bytes unit pair shots → IsPackedText bytes other_unit other_pair other_shots
    → (unit ≡ other_unit) × (pair ≡ other_pair) × (shots ≡ other_shots)

-- They have one first fault at most.
abbrev pub OneFault : Type 0
OneFault = (bytes : List ℕ) (bad other : PackBad) → IsFirstPackFault bytes bad → IsFirstPackFault bytes other → bad ≡ other

-- bytes in which no first fault is
abbrev pub HasNoFault : List ℕ → Type 0
HasNoFault bytes = (bad : PackBad) → IsFirstPackFault bytes bad → ⊥

-- bytes that are no packed shot file of few enough shots
abbrev pub IsNoFile : List ℕ → Type 0
IsNoFile bytes = (unit : ℕ) (pair : Option Pair) (shots : List Trapezoid) → IsPackedFile bytes unit pair shots → ⊥

-- A packed shot file of few enough shots has no first fault.
abbrev pub FileHasNoFault : Type 0
FileHasNoFault = (bytes : List ℕ) (unit : ℕ) (pair : Option Pair) (shots : List Trapezoid) → IsPackedFile bytes unit pair shots → HasNoFault bytes

-- Bytes that are no such file have one: there are none that are no such file and have no first fault.
abbrev pub OthersHaveFault : Type 0
OthersHaveFault = (bytes : List ℕ) → IsNoFile bytes → HasNoFault bytes → ⊥
