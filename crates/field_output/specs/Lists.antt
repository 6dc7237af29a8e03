-- The stripe lists of stripes that lie one above another, and what is ready before the file of one is written.
use Rattle.std.specs.Prelude.{ℕ, zero, suc, ℤ, pos, ◌+ℤ◌, ◌+◌, ◌<◌, ◌≤◌, ◌≡◌, List, [], ◌∷◌, length, string_capacity, vec_capacity}
use Rattle.depot.specs.Content.{Content, IsPartMade}
use Rattle.field_output.specs.Chains.{IsReady}
use Rattle.field_output.specs.Stripes.{stripe_name, stripe_text, sums_from, with_stripe_files}
use Rattle.field_output.specs.declared.stripe_files.Room.{Room}
use Rattle.field_split.specs.Cutting.{pieces_of}
use Rattle.half_grid.specs.Trapezoids.{Trapezoid}
use Rattle.shot_writer.specs.declared.parts.Head.{Head}

-- the stripe lists of so many stripes from k on
abbrev pub lists_from : ℤ → List Trapezoid → ℤ → ℕ → List (List Trapezoid)
lists_from size shots k zero = []
lists_from size shots k (suc n) = pieces_of size k shots ∷ lists_from size shots (k +ℤ pos 1) n

-- the stripe list of the stripe that is so many above the first
abbrev pub list_at : ℤ → List Trapezoid → ℤ → ℕ → List Trapezoid
list_at size shots first place = pieces_of size (first +ℤ pos place) shots

-- the file of this stripe is as before or holds a prefix of its text, after those of all stripes below it
abbrev pub IsBegun : Content → List ℕ → Head → List Trapezoid → ℤ → ℤ → ℕ → Content → Type 0
IsBegun before base head shots size first place now =
    IsPartMade (with_stripe_files before base head first (lists_from size shots first place)) (stripe_name base (first +ℤ pos place))
    (stripe_text head (list_at size shots first place)) now

-- this is so of some stripe
pub record AreBegun (before : Content) (base : List ℕ) (head : Head) (shots : List Trapezoid) (size first : ℤ) (count : ℕ) (now : Content) : Type 0 where
  pub place : ℕ
  pub within : place < count
  pub files : IsBegun before base head shots size first place now

-- memory is there for all stripes from this one on, and the sums of those below it are kept
pub record IsRoom (base : List ℕ) (size first : ℤ) (count : ℕ) (shots : List Trapezoid) (place : ℕ) (room : Room) : Type 0 where
  pub name : length base + 21 ≤ string_capacity room.name
  pub each : room.each.items ≡ sums_from first (lists_from size shots first place)
  pub each_room : count ≤ vec_capacity room.each
  pub choice : IsReady size first count shots place room.choice
