-- The cells that the program keeps.
use Rattle.std.specs.Prelude.{ℕ, List, [], ◌∷◌, Option, Some, None}
use Rattle.std.specs.declared.vec.Vec.{Vec}
use Rattle.std.specs.declared.alloc.Global.{Global}
use Rattle.layout_model.specs.declared.shapes.Shape.{Shape}
use Rattle.oas_record.specs.declared.fields.Called.{Called}
use Rattle.oas_reader.specs.declared.cells.Begun.{Begun}
use Rattle.oas_reader.specs.declared.cells.Draft.{Draft}
use Rattle.oas_reader.specs.declared.placing.Placing.{Placing}

abbrev pub begun_at : ℕ → Called → Option Begun
begun_at at called = Some (record { at = at; called = called })

-- the cell that was begun, whole
abbrev pub draft_of : Begun → List Shape → Vec Placing Global → Draft
draft_of begun shapes placings = record { at = begun.at; called = begun.called; shapes = shapes; placings = placings }

-- the open cell, where there is one
abbrev pub closed : Option Begun → List Shape → Vec Placing Global → List Draft
closed None shapes placings = []
closed (Some begun) shapes placings = draft_of begun shapes placings ∷ []
