-- Windows in windows, and the rows of a group of bands.
use Rattle.std.proofs.Common.{◌≡◌, ◌<◌, ◌⊎◌, inl, inr, ℤ, pos, negsuc, ◌+ℤ◌, ◌-ℤ◌, ◌≤ℤ◌, ◌<ℤ◌, arith, ap, subst, sym, ◌∙◌, List, [], ◌∷◌, ◌++◌, All}
use Rattle.std.proofs.lemmas.Int.{ints}
use Rattle.std.proofs.lemmas.List.Elements.{All-contains, Contains-append_left, Contains-append_right}
use Rattle.std.specs.Int.{int_gap}
use Rattle.half_grid.specs.Windows.{RowRange, row_range}
use Rattle.trap_join.proofs.ForCallers.{is_first, all_members}
use Rattle.deck_plan.specs.Bands.{AreRowsNear}
use Rattle.deck_plan.specs.Needs.{IsBand, IsAskedBand}
use Rattle.band_areas.specs.Parts.{IsWithin}

-- ---- parts of a window

pub upper_band : (w r : RowRange) (y : ℤ) → r ≡ row_range y w.y1 → IsBand w → w.y0 ≤ℤ y → y <ℤ w.y1 → IsBand r
upper_band w r y is b low high =
    let from = b.low in
    let to = b.high in
    subst IsBand (sym is)
    (record {
      low = record { low = omega (arith, ints, from.low, low); high = omega (arith, ints, to.high, high) };
      high = to;
      has_rows = high;
    })

pub lower_band : (w r : RowRange) (y : ℤ) → r ≡ row_range w.y0 y → IsBand w → w.y0 <ℤ y → y ≤ℤ w.y1 → IsBand r
lower_band w r y is b low high =
    let from = b.low in
    let to = b.high in
    subst IsBand (sym is)
    (record {
      low = from;
      high =
          record { low = omega (arith, ints, from.low, low); high = omega (arith, ints, to.high, high) };
      has_rows =
          low;
    })

pub upper_within : (w r : RowRange) (y : ℤ) → r ≡ row_range y w.y1 → w.y0 ≤ℤ y → IsWithin r w
upper_within w r y is low = subst (λ (x : RowRange). IsWithin x w) (sym is) (record { from = low; to = omega (arith, ints) })

pub lower_within : (w r : RowRange) (y : ℤ) → r ≡ row_range w.y0 y → y ≤ℤ w.y1 → IsWithin r w
lower_within w r y is high = subst (λ (x : RowRange). IsWithin x w) (sym is) (record { from = omega (arith, ints); to = high })

pub still_within : (w r band : RowRange) (y : ℤ) → r ≡ row_range w.y0 y → IsWithin band w → band.y1 ≤ℤ y → IsWithin band r
still_within w r band y is inside high = subst (IsWithin band) (sym is) (record { from = inside.from; to = high })

pub same_rows : (w band : RowRange) → IsWithin band w → w.y1 ≤ℤ band.y1 → band.y0 ≤ℤ w.y0 → w ≡ band
same_rows w band inside high low =
    let bottom : w.y0 ≡ band.y0 = omega (arith, ints, inside.from, low) in
    let top : w.y1 ≡ band.y1 = omega (arith, ints, inside.to, high) in
    ap (λ (y : ℤ). row_range y w.y1) bottom ∙ ap (row_range band.y0) top

-- the gap falls with its upper end
pub gap_falls : (a b c : ℤ) → a ≤ℤ b → b <ℤ c → int_gap a b < int_gap a c
gap_falls (pos m) (pos n) (pos k) h l = omega (arith, ints, h, l)
gap_falls (pos m) (pos n) (negsuc k) h l = absurd (omega (arith, ints, l))
gap_falls (pos m) (negsuc n) c h l = absurd (omega (arith, ints, h))
gap_falls (negsuc m) (pos n) (pos k) h l = omega (arith, ints, h, l)
gap_falls (negsuc m) (pos n) (negsuc k) h l = absurd (omega (arith, ints, l))
gap_falls (negsuc m) (negsuc n) (pos k) h l = omega (arith, ints, h, l)
gap_falls (negsuc m) (negsuc n) (negsuc k) h l = omega (arith, ints, h, l)

-- ---- the last of a list

module _ {X : Type 0} (P : X → Type 0) (xs : List X) (x : X) (all : All P (xs ++ x ∷ [])) where
  pub all_first : All P xs
  all_first = all_members P xs (λ y h. All-contains P (xs ++ x ∷ []) y all (Contains-append_left xs (x ∷ []) y h))

  pub the_last : P x
  the_last = All-contains P (xs ++ x ∷ []) x all (Contains-append_right xs (x ∷ []) x (is_first x []))

-- ---- a group

-- the rows of a band and of w rows above it
module _ (band output : RowRange) (height most wanted less w : ℤ) (asked : IsAskedBand band) (near : AreRowsNear output)
    (height_is : height ≡ band.y1 -ℤ band.y0) (up_to : most ≤ℤ (output.y1 -ℤ band.y0)) (few : most ≤ℤ (pos 16777217 -ℤ height))
    (wanted_is : wanted ≤ℤ most) (one_less : (less ≡ pos 0) ⊎ (less +ℤ pos 1 ≡ wanted)) (low : pos 0 ≤ℤ w) (high : w ≤ℤ less) where
  not_more : (band.y1 +ℤ w) ≤ℤ (band.y0 +ℤ pos 16777216)
  not_more =
      let most_rows = asked.few in
      elim one_less [
        | inl none ↦ omega (arith, ints, none, low, high, most_rows)
        | inr one ↦ omega (arith, ints, one, high, wanted_is, few, height_is)
      ]

  in_reach : (band.y1 +ℤ w) ≤ℤ pos 17592186044416
  in_reach =
      let top = asked.is_band.high.high in
      let rows = asked.few in
      let end_of = near.high in
      elim one_less [
        | inl none ↦ omega (arith, ints, none, low, high, top)
        | inr one ↦ omega (arith, ints, one, high, wanted_is, up_to, end_of, rows)
      ]

  pub group_band : IsAskedBand (row_range band.y0 (band.y1 +ℤ w))
  group_band =
      let bottom = asked.is_band.low in
      let top = asked.is_band.high.low in
      let some = asked.is_band.has_rows in
      record {
        is_band = record {
          low = bottom;
          high = record { low = omega (arith, ints, top, low); high = omega (arith, ints, in_reach) };
          has_rows = omega (arith, ints, some, low);
        };
        few = not_more;
      }
