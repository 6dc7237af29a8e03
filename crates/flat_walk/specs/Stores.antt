-- Entries whose pieces stand one after another in one list, but for what is seldom. This is for the contracts of the store's
-- own functions.
use Rattle.std.specs.Prelude.{ℕ, ◌+◌, ◌*◌, ◌/◌, ◌%◌, ◌^◌, ◌≤◌, ◌<◌, List, [], ◌∷◌, take, drop, length, get_or}
use Rattle.half_grid.specs.Trapezoids.{Trapezoid}
use Rattle.flat_walk.specs.Kept.{Entry, alone, bare_ones, bare}
use Rattle.flat_walk.specs.PieceLists.{listed}
use Rattle.flat_walk.specs.declared.stores.Form.{Form}
use Rattle.flat_walk.specs.declared.stores.Form.TheVariants.{Wide, Without}
use Rattle.flat_walk.specs.declared.stores.Place.{Place}
use Rattle.flat_walk.specs.declared.stores.Place.TheVariants.{Short, Seldom}
use Rattle.flat_walk.specs.declared.stores.EntryRef.{EntryRef}

-- what is seldom
abbrev pub entry_of : Form → Entry
entry_of (Wide traps) = alone traps.items
entry_of (Without more) = bare_ones more

-- a number by its 32 lower bits and those above them
abbrev pub number_from : ℕ → ℕ → ℕ
number_from low high = high * 2 ^ 32 + low

-- the place of this number among what is seldom
abbrev pub seldom_place : ℕ → Place
seldom_place number = Seldom (number % 2 ^ 32) (number / 2 ^ 32)

-- so many of the pieces from one on, or one of those that are seldom
abbrev pub place_entry : List Trapezoid → List Entry → Place → Entry
place_entry pieces seldom (Short first count) = alone (take count (drop first pieces))
place_entry pieces seldom (Seldom low high) = get_or seldom (number_from low high) bare

-- they are there
abbrev pub IsPlace : List Trapezoid → List Entry → Place → Type 0
IsPlace pieces seldom (Short first count) = first + count ≤ length pieces
IsPlace pieces seldom (Seldom low high) = number_from low high < length seldom

abbrev pub ArePlaces : List Trapezoid → List Entry → List Place → Type 0
ArePlaces pieces seldom [] = Unit {0}
ArePlaces pieces seldom (place ∷ places) = IsPlace pieces seldom place × ArePlaces pieces seldom places

abbrev pub entry_in : EntryRef → Entry
entry_in entry = record { pieces = listed entry.pieces; more = entry.more }
