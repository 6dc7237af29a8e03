-- The areas of a deck are decided.
use Rattle.std.specs.Prelude.{◌≡◌, ◌⊎◌, ◌↔◌, ℕ, List}
use Rattle.half_grid.specs.Trapezoids.{Trapezoid, CoversExactly, count_in}
use Rattle.half_grid.specs.declared.plane.Tile.{Tile}
use Rattle.layout_model.specs.declared.cells.Cell.{Cell}
use Rattle.deck_plan.specs.Areas.{IsInArea}
use Rattle.deck_text.specs.declared.deck.Deck.{Deck}

abbrev pub IsDecided : Type 0 → Type 0
IsDecided P = P ⊎ (P → ⊥)

-- each tile is in the area of a definition, or it isn't
abbrev pub AreasDecided : Type 0
AreasDecided = (cells : List Cell) (top : ℕ) (deck : Deck) (name : ℕ) (t : Tile) → IsDecided (IsInArea cells top deck name t)

-- where a list covers the area exactly, a tile is in one of its trapezoids exactly where it is in the area
abbrev pub CountsTell : Type 0
CountsTell =
    (cells : List Cell) (top : ℕ) (deck : Deck) (name : ℕ) (traps : List Trapezoid) (t : Tile)
    → CoversExactly traps (IsInArea cells top deck name) → (count_in traps t ≡ 1) ↔ IsInArea cells top deck name t
