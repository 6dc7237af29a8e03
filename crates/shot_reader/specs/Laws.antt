-- The reading of shot files is one: bytes say at most one thing, have at most one first fault, never both, and never
-- neither.
use Rattle.std.specs.Prelude.{ℕ, ◌≡◌, List, Option}
use Rattle.half_grid.specs.Trapezoids.{Trapezoid}
use Rattle.layout_model.specs.declared.pair.Pair.{Pair}
use Rattle.shot_reader.specs.Reading.{IsFileOf}
use Rattle.shot_reader.specs.Refusals.{IsFirstShotFault}
use Rattle.shot_reader.specs.declared.refusing.ShotBad.{ShotBad}

-- Bytes are the shot file of one unit, one pair and one list of shots at most.
abbrev pub OneReading : Type 0
OneReading =
    (bytes : List ℕ) (unit other_unit : ℕ) (pair other_pair : Option Pair) (shots other_shots : List Trapezoid)
    → IsFileOf bytes unit pair shots → IsFileOf bytes other_unit other_pair other_shots
    → (unit ≡ other_unit) × (pair ≡ other_pair) × (shots ≡ other_shots)

-- They have one first fault at most.
abbrev pub OneFault : Type 0
OneFault = (bytes : List ℕ) (bad other : ShotBad) → IsFirstShotFault bytes bad → IsFirstShotFault bytes other → bad ≡ other

-- bytes in which no first fault is
abbrev pub HasNoFault : List ℕ → Type 0
HasNoFault bytes = (bad : ShotBad) → IsFirstShotFault bytes bad → ⊥

-- bytes that are no shot file
abbrev pub IsNoFile : List ℕ → Type 0
IsNoFile bytes = (unit : ℕ) (pair : Option Pair) (shots : List Trapezoid) → IsFileOf bytes unit pair shots → ⊥

-- A shot file has no first fault.
abbrev pub FileHasNoFault : Type 0
FileHasNoFault = (bytes : List ℕ) (unit : ℕ) (pair : Option Pair) (shots : List Trapezoid) → IsFileOf bytes unit pair shots → HasNoFault bytes

-- Bytes that are no shot file have one: there are none that are no shot file and have no first fault.
abbrev pub OthersHaveFault : Type 0
OthersHaveFault = (bytes : List ℕ) → IsNoFile bytes → HasNoFault bytes → ⊥
