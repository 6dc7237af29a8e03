-- What a shot file says: how many half units a micron has, the layer and the datatype of its records, and the shots. It
-- says a pair exactly where it has shots.
use Rattle.std.specs.Prelude.{ℕ, ◌≡◌, ◌≢◌, List, [], Option, Some, None, flat_map, All}
use Rattle.half_grid.specs.Trapezoids.{Trapezoid, IsShot}
use Rattle.layout_model.specs.declared.pair.Pair.{Pair}
use Rattle.oas_lex.specs.ShotLaws.{IsNarrowPair}
use Rattle.oas_lex.specs.ShotText.{IsUnit, spelling_of, shot_text}

-- the pair of the records of these shots: none where there are no shots
abbrev pub IsPairOf : Option Pair → List Trapezoid → Type 0
IsPairOf None shots = shots ≡ []
IsPairOf (Some pair) shots = (shots ≢ []) × IsNarrowPair pair.layer pair.datatype

-- the records of the shots, one after another
abbrev pub records_with : Option Pair → List Trapezoid → List ℕ
records_with None shots = []
records_with (Some pair) shots = flat_map (spelling_of pair.layer pair.datatype) shots

-- a record with this pair may stand next
abbrev pub AgreesWithPair : Option Pair → ℕ → ℕ → Type 0
AgreesWithPair None layer datatype = Unit {0}
AgreesWithPair (Some pair) layer datatype = (pair.layer ≡ layer) × (pair.datatype ≡ datatype)

-- the bytes are the text of this unit, this pair and these shots, each of which is legal and within reach
pub record IsFileOf (bytes : List ℕ) (unit : ℕ) (pair : Option Pair) (shots : List Trapezoid) : Type 0 where
  pub unit_fits : IsUnit unit
  pub legal : All IsShot shots
  pub pair_fits : IsPairOf pair shots
  pub layer : ℕ
  pub datatype : ℕ
  pub agrees : AgreesWithPair pair layer datatype
  pub text : bytes ≡ shot_text unit layer datatype shots
