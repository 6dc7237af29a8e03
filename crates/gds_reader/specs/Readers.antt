-- What the reader keeps of the records so far.
use Rattle.std.specs.Prelude.{◌≡◌, ◌≢◌, ◌⊎◌, ◌<◌, ◌≤◌, ℕ, List, [], ◌∷◌, Option, Some, None, IfSome, IsSome, All, length, reverse, slice_index, ◌*◌}
use Rattle.layout_model.specs.Names.{IsName}
use Rattle.layout_model.specs.Pairs.{AreSamePairs}
use Rattle.layout_model.specs.Layouts.{IsShapeOnGrid, IsPlacementOnGrid, IsCellOnGrid}
use Rattle.layout_model.specs.Images.{IsOrient}
use Rattle.layout_model.specs.declared.pair.Pair.{Pair}
use Rattle.gds_record.specs.Reals.{AgreesWithUnit}
use Rattle.gds_record.specs.Runs.{AreRecordsEndToEnd, NoRecordEnds}
use Rattle.gds_record.specs.declared.kinds.Kind.TheVariants.{StrName, Units, Xy}
use Rattle.gds_record.specs.declared.records.Record.{Record}
use Rattle.gds_reader.specs.declared.order.Place.{Place}
use Rattle.gds_reader.specs.declared.order.Place.TheVariants.{Header}
use Rattle.gds_reader.specs.declared.reading.Reader.{Reader}
use Rattle.gds_reader.specs.declared.reading.Structure.{Structure}
use Rattle.layout_model.specs.declared.shapes.Shape.{Shape}
use Rattle.layout_model.specs.declared.cells.Placement.{Placement}
use Rattle.layout_model.specs.declared.cells.Cell.{Cell}
use Rattle.gds_reader.specs.declared.refusing.GdsBad.{GdsBad}
use Rattle.gds_reader.specs.declared.refusing.GdsBad.TheVariants as faults
use Rattle.gds_reader.specs.Past.{structure_record, given_in_structure}
use Rattle.gds_reader.specs.Values.{name_in, KeepsGdsiiRules, IsLowestBrokenByRecord}
use Rattle.gds_reader.specs.Meaning.{shapes_at, placements_at, cells_of, counts_of}
use Rattle.gds_reader.specs.Elements.{IsHeld, IsElementOf}
use Rattle.gds_reader.specs.Names.{AreNamesOf, place_of as place_of_name}
use Rattle.gds_reader.specs.Reading.{AreRecordsAllowed, unit_in}
use Rattle.gds_reader.specs.Steps.{next_place}

abbrev pub next_after : Option Place → Record → Option Place
next_after None r = None
next_after (Some place) r = next_place place r.kind

-- the place after these records
abbrev pub place_behind : List Record → Option Place
place_behind [] = Some Header
place_behind (r ∷ past) = next_after (place_behind past) r

-- the cell of a structure with this STRNAME
abbrev pub cells_kept : List ℕ → Option Record → List Shape → List Placement → List Cell
cells_kept bytes None shapes placements = []
cells_kept bytes (Some r) shapes placements = record { name = name_in bytes r; shapes = shapes; placements = placements } ∷ []

-- what is kept of the open structure
pub record IsStructureOf (bytes : List ℕ) (wanted : List Pair) (past : List Record) (structure : Structure) : Type 0 where
  pub named : structure.named ≡ structure_record StrName past
  pub held : IfSome structure.named (IsHeld bytes)
  pub valid : IfSome structure.named (λ r. IsName (name_in bytes r))
  pub shapes : structure.shapes ≡ given_in_structure (shapes_at bytes wanted) past
  pub placements : structure.placements ≡ given_in_structure (placements_at bytes) past
  pub shapes_grid : All IsShapeOnGrid structure.shapes
  pub placements_grid : All IsPlacementOnGrid structure.placements

pub record IsReaderOf (bytes : List ℕ) (wanted : List Pair) (past : List Record) (reader : Reader) : Type 0 where
  pub place : place_behind past ≡ Some reader.place
  pub element : IsElementOf bytes past reader.element
  pub orient : IsOrient reader.element.orient
  pub names : AreNamesOf bytes past reader.names
  pub structure : IsStructureOf bytes wanted past reader.structure
  pub cells : reader.cells ≡ cells_of bytes wanted past
  pub cells_grid : All IsCellOnGrid reader.cells
  pub counts : reader.counts ≡ counts_of bytes wanted past

-- ---- what a record is refused for

pub record BreaksOrder (past : List Record) (r : Record) (at : ℕ) (bad : GdsBad) : Type 0 where
  pub none : next_after (place_behind past) r ≡ None
  pub bad_is : bad ≡ faults.Order at

pub record BreaksRule (bytes : List ℕ) (wanted : List Pair) (past : List Record) (r : Record) (at : ℕ) (bad : GdsBad) : Type 0 where
  pub some : IsSome (next_after (place_behind past) r)
  pub rule : ℕ
  pub broken : IsLowestBrokenByRecord bytes wanted past r rule
  pub bad_is : bad ≡ faults.Value at rule

pub record BreaksUnit (bytes : List ℕ) (unit : ℕ) (wanted : List Pair) (past : List Record) (r : Record) (bad : GdsBad) : Type 0 where
  pub some : IsSome (next_after (place_behind past) r)
  pub rules : KeepsGdsiiRules bytes wanted past r
  pub kind : r.kind ≡ Units
  pub disagrees : ¬ AgreesWithUnit (unit_in bytes r) unit
  pub bad_is : bad ≡ faults.Unit (unit_in bytes r)

pub record BreaksName (bytes : List ℕ) (wanted : List Pair) (past : List Record) (r : Record) (at : ℕ) (bad : GdsBad) : Type 0 where
  pub some : IsSome (next_after (place_behind past) r)
  pub rules : KeepsGdsiiRules bytes wanted past r
  pub kind : r.kind ≡ StrName
  pub first : ℕ
  pub found : place_of_name bytes (name_in bytes r) past ≡ Some first
  pub bad_is : bad ≡ faults.Twice first at

abbrev pub IsRefused : List ℕ → ℕ → List Pair → List Record → Record → ℕ → GdsBad → Type 0
IsRefused bytes unit wanted past r at bad =
    BreaksOrder past r at bad ⊎ BreaksRule bytes wanted past r at bad ⊎ BreaksUnit bytes unit wanted past r bad
    ⊎ BreaksName bytes wanted past r at bad

-- the record is an XY in its order: its points are read into memory before their rules are looked at
abbrev pub IsBadXy : List Record → Record → Type 0
IsBadXy past r = (r.kind ≡ Xy) × IsSome (next_after (place_behind past) r)

-- nothing is wrong with the record
pub record IsTaken (bytes : List ℕ) (unit : ℕ) (wanted : List Pair) (past : List Record) (r : Record) : Type 0 where
  pub rules : KeepsGdsiiRules bytes wanted past r
  pub unit_agrees : r.kind ≡ Units → AgreesWithUnit (unit_in bytes r) unit
  pub new_name : r.kind ≡ StrName → place_of_name bytes (name_in bytes r) past ≡ None

-- ---- where the reader stands

-- the records up to this offset have been taken
pub record IsStanding (bytes : List ℕ) (unit : ℕ) (sorted : List Pair) (at : ℕ) (reader : Reader) : Type 0 where
  pub past : List Record
  pub run : AreRecordsEndToEnd bytes 0 (reverse past) at
  pub goes_on : NoRecordEnds (reverse past)
  pub few : 4 * length past ≤ at
  pub within : at ≤ length bytes
  pub allowed : (wanted : List Pair) → AreSamePairs wanted sorted → AreRecordsAllowed bytes unit wanted past
  pub reader_is : (wanted : List Pair) → AreSamePairs wanted sorted → IsReaderOf bytes wanted past reader

-- the first byte from an offset on that isn't 0
abbrev pub IsTail : List ℕ → ℕ → GdsBad → Type 0
IsTail bytes at bad =
    (tail : ℕ) × (bad ≡ faults.Tail tail) × (at ≤ tail) × (tail < length bytes) × (slice_index bytes tail ≢ 0)
    × ((k : ℕ) → at ≤ k → k < tail → slice_index bytes k ≡ 0)
