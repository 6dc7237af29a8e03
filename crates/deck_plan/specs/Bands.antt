-- The bands of a deck: band k has the rows from k times the band height up to below k + 1 times the band height, for any
-- whole k.
use Rattle.std.specs.Prelude.{ℤ, pos, neg_ℤ, ◌≡◌, ◌+ℤ◌, ◌*ℤ◌, ◌≤ℤ◌}
use Rattle.half_grid.specs.Windows.{RowRange, row_range}
use Rattle.deck_text.specs.declared.deck.Deck.{Deck}

-- band k, of so many rows
abbrev pub band : ℤ → ℤ → RowRange
band rows k = row_range (k *ℤ rows) ((k +ℤ pos 1) *ℤ rows)

-- some band of the deck
abbrev pub IsBandOfDeck : Deck → RowRange → Type 0
IsBandOfDeck deck window = (k : ℤ) × (window ≡ band deck.band k)

-- rows within 2^31 of 0
pub record AreRowsNear (rows : RowRange) : Type 0 where
  pub low : neg_ℤ (pos 2147483648) ≤ℤ rows.y0
  pub high : rows.y1 ≤ℤ pos 2147483648
  pub window : rows.y0 ≤ℤ rows.y1
