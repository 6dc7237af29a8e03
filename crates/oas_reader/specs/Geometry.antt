-- What a record adds to the open cell, by what the program keeps of it.
use Rattle.std.specs.Prelude.{◌≡◌, ◌⊎◌, ◌^◌, ℕ, IsTrue, Bool, true, false, if◌then◌else◌, List, [], ◌∷◌, Option, Some, None}
use Rattle.std.specs.List.{list_any}
use Rattle.layout_model.specs.declared.pair.Pair.{Pair}
use Rattle.layout_model.specs.declared.shapes.Shape.{Shape}
use Rattle.oas_record.specs.declared.repetition.Rep.{Rep}
use Rattle.oas_fields.specs.Values.{ArePlacesWithin}
use Rattle.oas_fields.specs.declared.fields.Fields.{Fields}
use Rattle.oas_fields.specs.declared.variables.Variable.{Variable}
use Rattle.oas_reader.specs.Drawn.{pair_in, repetition_kept, KeepsWantedIn}
use Rattle.oas_reader.specs.Kept.{has_a_pair, undefined_in, KeepsVersionBy, KeepsSchemeBy}
use Rattle.layout_model.specs.Pairs.{same_pair}
use Rattle.oas_reader.specs.Meaning.{Placing}
use Rattle.oas_reader.specs.Placed.{KeepsPlaced, placed_by}
use Rattle.oas_reader.specs.declared.bodies.Body.{Body}
use Rattle.oas_reader.specs.declared.bodies.Body.TheVariants as bodies
use Rattle.oas_reader.specs.declared.bodies.Outline.{Outline}
use Rattle.oas_reader.specs.declared.refusing.OasBad.{OasBad}
use Rattle.oas_reader.specs.declared.refusing.OasBad.TheVariants as faults

-- whether the pair of a body is among these, where it has one
abbrev pub wanting_in : List Pair → Body → Fields → Option Bool
wanting_in wanted body fields = if has_a_pair body then Some (list_any (same_pair (pair_in fields)) wanted) else None

-- the repetition in force of a record
abbrev pub rep_in : Outline → Fields → Option Rep
rep_in outline fields = repetition_kept outline.repeats fields.repetition

-- these shapes, where the pair is wanted
abbrev pub shapes_if : Option Bool → List Shape → List Shape
shapes_if (Some true) shapes = shapes
shapes_if (Some false) shapes = []
shapes_if None shapes = []

-- the placement of a body
abbrev pub placings_in : Body → Fields → Option Rep → List Placing
placings_in (bodies.Placement called flips turning) fields rep = placed_by fields flips turning rep ∷ []
placings_in _ fields rep = []

-- the rules of shapes where the pair is wanted, else that of dimensions
pub record KeepsShapes (body : Body) (dims : Bool) (wanting : Option Bool) (fields : Fields) (rep : Option Rep) (rule : ℕ) : Type 0 where
  pub drawn : wanting ≡ Some true → KeepsWantedIn body fields rep rule
  pub dimension : (wanting ≡ Some true → ⊥) → rule ≡ 11 → IsTrue dims

-- the rules of what a body places or draws
abbrev pub KeepsGeometry : List ℕ → Body → Bool → Option Bool → Fields → Option Rep → ℕ → Type 0
KeepsGeometry bytes (bodies.Placement called flips turning) dims wanting fields rep rule = KeepsPlaced bytes called turning rep rule
KeepsGeometry bytes body dims wanting fields rep rule = KeepsShapes body dims wanting fields rep rule

-- a value that it needs isn't there, a position is far from 0, or START or END breaks its rule
abbrev pub IsBadLook : List ℕ → Outline → Fields → ℕ → OasBad → Type 0
IsBadLook bytes outline fields at bad =
    ((variable : Variable) × (undefined_in outline.body outline.repeats fields ≡ Some variable) × (bad ≡ faults.Undefined at variable))
    ⊎ ((undefined_in outline.body outline.repeats fields ≡ None) × (ArePlacesWithin (2 ^ 40) fields → ⊥) × (bad ≡ faults.Value at 1))
    ⊎ ((undefined_in outline.body outline.repeats fields ≡ None) × ArePlacesWithin (2 ^ 40) fields
    × (KeepsVersionBy bytes outline.body → ⊥) × (bad ≡ faults.Value at 9))
    ⊎ ((undefined_in outline.body outline.repeats fields ≡ None) × ArePlacesWithin (2 ^ 40) fields
    × (KeepsSchemeBy outline.body → ⊥) × (bad ≡ faults.Value at 10))
