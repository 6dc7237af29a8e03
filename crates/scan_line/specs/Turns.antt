-- Where the order of edges may change: at the end of one, or where two of different lines meet.
--
-- Of edges in the order of a row two that meet above it, with no meeting of others between, are neighbours.
use Rattle.std.specs.Prelude.{ℕ, ℤ, ◌≤ℤ◌, ◌<ℤ◌, ◌≡◌, ◌≢◌, ◌⊎◌, List, [], ◌∷◌}
use Rattle.std.specs.List.{Contains}
use Rattle.half_grid.specs.Edges.{EdgeParts}
use Rattle.half_grid.specs.Meetings.{MeetAt}
use Rattle.half_grid.specs.declared.plane.Line.{Line}
use Rattle.half_grid.specs.declared.plane.Line.TheVariants.{Upright, Rising, Falling}
use Rattle.scan_line.specs.declared.runs.Slab.{Slab}

-- strictly between the two Y the edges meet nowhere, unless they lie on one line
abbrev pub DoNotMeet : ℤ → ℤ → EdgeParts → EdgeParts → Type 0
DoNotMeet low high e f = (y : ℤ) → low <ℤ y → y <ℤ high → MeetAt e.line f.line y → e.line ≡ f.line

-- the edge doesn't meet the next one there
abbrev pub PassesNext : ℤ → ℤ → EdgeParts → List EdgeParts → Type 0
PassesNext low high e [] = Unit {0}
PassesNext low high e (f ∷ edges) = DoNotMeet low high e f

-- no edge ends below `high`, and no two neighbours meet between the two Y
abbrev pub AreQuiet : ℤ → ℤ → List EdgeParts → Type 0
AreQuiet low high [] = Unit {0}
AreQuiet low high (e ∷ edges) = (high ≤ℤ e.y1) × PassesNext low high e edges × AreQuiet low high edges

-- one of the edges ends at the Y
pub record SomeEndsAt (edges : List EdgeParts) (y : ℤ) : Type 0 where
  pub e : EdgeParts
  pub has : Contains edges e
  pub end : e.y1 ≡ y

-- two of them on different lines meet at the Y
pub record SomeMeetAt (edges : List EdgeParts) (y : ℤ) : Type 0 where
  pub e : EdgeParts
  pub f : EdgeParts
  pub has_e : Contains edges e
  pub has_f : Contains edges f
  pub differ : e.line ≢ f.line
  pub meet : MeetAt e.line f.line y

-- the Y is `limit`, or the order of the edges may change at it
abbrev pub IsTurn : List EdgeParts → ℤ → ℤ → Type 0
IsTurn edges limit y = (y ≡ limit) ⊎ SomeEndsAt edges y ⊎ SomeMeetAt edges y

-- rows from the same bottom, none of them above the slab's top
pub record IsLower (slab rows : Slab) : Type 0 where
  pub bottom : rows.y0 ≡ slab.y0
  pub has_rows : rows.y0 <ℤ rows.y1
  pub top : rows.y1 ≤ℤ slab.y1

-- the way that a line goes, as a number: two lines of one way meet nowhere, or are one
abbrev pub way_of : Line → ℕ
way_of (Upright c) = 0
way_of (Rising c) = 1
way_of (Falling c) = 2
