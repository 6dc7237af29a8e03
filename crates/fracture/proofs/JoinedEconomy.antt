-- No cut between two shots of the trapezoids of a joined list is needless.
use Rattle.std.proofs.Common.{◌≡◌, ◌≤◌, Bool, true, false, ℤ, pos, ◌+ℤ◌, ◌-ℤ◌, ◌≤ℤ◌, ◌<ℤ◌, List, All, arith, refl, sym, ap, subst, ◌∙◌}
use Rattle.std.proofs.lemmas.Int.{ints, by_lt_z}
use Rattle.std.proofs.lemmas.List.Elements.{All-contains, All-contains_itself, All-weaker}
use Rattle.std.specs.List.{Contains}
use mathlib.Core.Logic.{◌⊎◌, inl, inr}
use Rattle.half_grid.specs.Lines.{IsRightOf, IsLeftOf}
use Rattle.half_grid.specs.Rows.{place, number_in_row}
use Rattle.half_grid.specs.Windows.{RowRange}
use Rattle.half_grid.specs.JoinedLists.{IsJoined, IsBeside, IsInWindow}
use Rattle.half_grid.specs.Winding.{count_one}
use Rattle.half_grid.specs.Trapezoids.{Trapezoid, IsInTrapezoid, IsShot, box_width, count_in, trapezoid_has}
use Rattle.half_grid.specs.declared.plane.Tile.{Tile}
use Rattle.half_grid.specs.declared.plane.Line.{Line}
use Rattle.half_grid.proofs.ForCallers.{legal_places, in_by_number, tile_with, tile_with_number, has_in}
use Rattle.fracture.specs.Limits.{AreLimits}
use Rattle.fracture.specs.Cutting.{height_of, cut_list, shots_of}
use Rattle.fracture.specs.Economy.{side_by_side, stacked, StandsAlone, HasNoNeedlessCut}
use Rattle.fracture.proofs.EconomyLemmas.{IsShotOf, shot_of, side_by_side_wide, stacked_tall}
use Rattle.fracture.proofs.CutLemmas.{same_tiles}
use Rattle.fracture.proofs.TileLemmas.{one_counted}
use Rattle.fracture.proofs.Members.{of_some}
use Rattle.fracture.proofs.Counts.{counted, one_only}
use Rattle.fracture.proofs.SideLemmas.{sides_of}

-- the tile at the left line of a trapezoid in a row
abbrev first_tile : Line → ℤ → Tile
first_tile l j = tile_with (place l j) j

first_in : (z : Trapezoid) (l : Line) (j : ℤ) → IsShot z → l ≡ z.left → z.y0 ≤ℤ j → j <ℤ z.y1 → IsInTrapezoid z (first_tile l j)
first_in z l j s e a b =
    let number = tile_with_number (place l j) j in
    let same : place l j ≡ place z.left j = ap (λ m. place m j) e in
    let legal = legal_places z j s.legal a b in
    in_by_number z (first_tile l j)
    (record {
      above_bottom = a;
      below_top = b;
      from_left = omega (arith, ints, number, same);
      below_right = omega
          (arith, ints, number, same, legal);
    })

module _ (height width : ℤ) (limits : AreLimits height width) where
  -- a shot of a trapezoid, with its rows and sides in it
  record IsShotIn (z y : Trapezoid) : Type 0 where
    of : IsShotOf height width limits z y
    inner : (t : Tile) → IsInTrapezoid y t → IsInTrapezoid z t
    above : z.y0 ≤ℤ y.y0
    below : y.y1 ≤ℤ z.y1
    rows : y.y0 <ℤ y.y1
    left : (y.left ≡ z.left) ⊎ ((t : Tile) → y.y0 ≤ℤ t.j → t.j <ℤ y.y1 → (number_in_row t +ℤ pos 1) ≡ place y.left t.j → IsInTrapezoid z t)
    right : (y.right ≡ z.right) ⊎ ((t : Tile) → y.y0 ≤ℤ t.j → t.j <ℤ y.y1 → number_in_row t ≡ place y.right t.j → IsInTrapezoid z t)

  -- a tile of a piece is one of the trapezoid
  of_piece : (z p : Trapezoid) → z.y0 ≤ℤ p.y0 → p.y1 ≤ℤ z.y1 → p.left ≡ z.left → p.right ≡ z.right → (t : Tile) → IsInTrapezoid p t → IsInTrapezoid z t
  of_piece z p a b l r t h =
      let bottom = h.above_bottom in
      let top = h.below_top in
      record {
        above_bottom = omega (arith, ints, a, bottom);
        below_top = omega (arith, ints, b, top);
        right_of_left = subst (IsRightOf t) l h.right_of_left;
        left_of_right = subst (IsLeftOf t) r h.left_of_right;
      }

  in_trap_by : (z : Trapezoid) (t : Tile) (b : Bool) → trapezoid_has t z ≡ b → 1 ≤ count_one b → IsInTrapezoid z t
  in_trap_by z t true e h = has_in t z e
  in_trap_by z t false e h = absurd (omega (arith, h))

  -- a tile of a shot is one of the trapezoid
  in_trap : (z y : Trapezoid) → IsShot z → Contains (cut_list height width z) y → (t : Tile) → IsInTrapezoid y t → IsInTrapezoid z t
  in_trap z y s at t h =
      let some = counted t y (cut_list height width z) at h in
      in_trap_by z t _ refl (omega (arith, some, same_tiles height width limits t z s, one_counted z t))

  shot_in : (z y : Trapezoid) → IsShot z → Contains (cut_list height width z) y → IsShotIn z y
  shot_in z y s at =
      let of = shot_of height width limits z y s at in
      let p = of.piece in
      let piece = of.of in
      let part = of.part in
      let side = sides_of height width limits p y piece.low of.at in
      let bottom = part.bottom in
      let top = part.top in
      let low = piece.above in
      let high = piece.below in
      let inner : (t : Tile) → IsInTrapezoid p t → IsInTrapezoid z t = of_piece z p low high piece.left piece.right in
      record {
        of = of;
        inner = in_trap z y s at;
        above = omega (arith, ints, bottom, low);
        below = omega (arith, ints, top, high);
        rows = part.shot.legal.has_rows;
        left = elim side.left [
          | inl e ↦ inl (e ∙ piece.left)
          | inr on ↦ inr
              (λ t a b n. inner t (on t (omega (arith, ints, a, bottom)) (omega (arith, ints, b, top)) n))
        ];
        right = elim side.right [
          | inl e ↦ inl (e ∙ piece.right)
          | inr on ↦ inr
              (λ t a b n. inner t (on t (omega (arith, ints, a, bottom)) (omega (arith, ints, b, top)) n))
        ];
      }

  module _ (window : RowRange) (traps : List Trapezoid) (joined : IsJoined window traps) (shots : All IsShot traps) where
    shot : (z : Trapezoid) → Contains traps z → IsShot z
    shot z at = All-contains IsShot traps z shots at

    -- two trapezoids that share a tile are one
    one : (x z : Trapezoid) (t : Tile) → Contains traps x → Contains traps z → IsInTrapezoid x t → IsInTrapezoid z t → x ≡ z
    one x z t ax az ix iz = one_only t traps x z (joined.apart t) ax az ix iz

    -- a tile beside a trapezoid is in none
    beside_none : (x z : Trapezoid) (t : Tile) → Contains traps x → Contains traps z → IsBeside x t → IsInTrapezoid z t → ⊥
    beside_none x z t ax az b i = omega (arith, joined.ends_free x t ax b, counted t z traps az i)

    -- ---- side by side

    -- shots side by side are of one trapezoid
    same_beside : (x z y w : Trapezoid) → Contains traps x → Contains traps z → IsShotIn x y → IsShotIn z w → y.y0 ≡ w.y0 → y.right ≡ w.left → x ≡ z
    same_beside x z y w ax az p q bottoms e =
        let j = w.y0 in
        let t = first_tile w.left j in
        let number = tile_with_number (place w.left j) j in
        let iw = first_in w w.left j q.of.part.shot refl (omega (arith, ints)) q.rows in
        let iz = q.inner t iw in
        let at : place y.right j ≡ place w.left j = ap (λ l. place l j) e in
        let low : y.y0 ≤ℤ j = omega (arith, ints, bottoms) in
        let high : j <ℤ y.y1 = omega (arith, ints, bottoms, p.rows) in
        elim p.right [
          | inl side ↦ absurd (beside_none x z t ax az (record {
            above_bottom = omega (arith, ints, low, p.above);
            below_top = omega (arith, ints, high, p.below);
            beside = inr (number ∙ sym at ∙ ap (λ l. place l j) side);
          }) iz)
          | inr on ↦ one x z t ax az (on t low high (number ∙ sym at)) iz
        ]

    upright : (y w : Trapezoid) → Contains (shots_of height width traps) y → Contains (shots_of height width traps) w
        → y.y0 ≡ w.y0 → y.right ≡ w.left → width <ℤ box_width (side_by_side y w)
    upright y w at by bottoms e =
        let a = of_some (cut_list height width) traps y at in
        let b = of_some (cut_list height width) traps w by in
        let p = shot_in a.0 y (shot a.0 a.1) a.2 in
        let q = shot_in b.0 w (shot b.0 b.1) b.2 in
        let same = same_beside a.0 b.0 y w a.1 b.1 p q bottoms e in
        let here : IsShotOf height width limits a.0 w = shot_of height width limits a.0 w (shot a.0 a.1)
        (subst (λ v. Contains (cut_list height width v) w) (sym same) b.2) in
        side_by_side_wide height width limits a.0 y w (shot a.0 a.1) p.of here bottoms e

    -- ---- one above the other

    module _ (area : Tile → Type 0) (covered : (t : Tile) → 1 ≤ count_in traps t → area t) where
      -- where two stacked shots stand alone, a side that one of them has is its trapezoid's side
      side_left : (x y s : Trapezoid) → Contains traps x → IsShotIn x y → StandsAlone area s → y.left ≡ s.left → s.y0 ≤ℤ y.y0 → y.y1 ≤ℤ s.y1 → y.left ≡ x.left
      side_left x y s ax p alone e low high =
          let j = y.y0 in
          let t = tile_with (place y.left j -ℤ pos 1) j in
          let number = tile_with_number (place y.left j -ℤ pos 1) j in
          let next : (number_in_row t +ℤ pos 1) ≡ place y.left j = omega (arith, ints, number) in
          let rows = p.rows in
          elim p.left [
            | inl side ↦ side
            | inr on ↦ absurd (alone t (record { above_bottom = low; below_top = omega (arith, ints, high, rows); beside = inl (next ∙ ap (λ l. place l j) e) })
                (covered t (counted t x traps ax (on t (omega (arith, ints)) rows next))))
          ]

      side_right : (x y s : Trapezoid) → Contains traps x → IsShotIn x y → StandsAlone area s → y.right ≡ s.right
          → s.y0 ≤ℤ y.y0 → y.y1 ≤ℤ s.y1 → y.right ≡ x.right
      side_right x y s ax p alone e low high =
          let j = y.y0 in
          let t = tile_with (place y.right j) j in
          let number = tile_with_number (place y.right j) j in
          let rows = p.rows in
          elim p.right [
            | inl side ↦ side
            | inr on ↦ absurd (alone t
                (record {
                  above_bottom = low;
                  below_top = omega (arith, ints, high, rows);
                  beside = inr
                      (number ∙ ap (λ l. place l j) e);
                })
                (covered t (counted t x traps ax (on t (omega (arith, ints)) rows number))))
          ]

      -- two trapezoids with the same sides that share a row are one
      share_row : (x z : Trapezoid) (j : ℤ) → Contains traps x → Contains traps z → x.left ≡ z.left → x.y0 ≤ℤ j → j <ℤ x.y1 → z.y0 ≤ℤ j → j <ℤ z.y1 → x ≡ z
      share_row x z j ax az e a b c d = one x z (first_tile x.left j) ax az (first_in x x.left j (shot x ax) refl a b) (first_in z x.left j (shot z az) e c d)

      -- stacked shots that stand alone are of one trapezoid
      same_stacked : (x z y w : Trapezoid) → Contains traps x → Contains traps z → IsShotIn x y → IsShotIn z w
          → x.left ≡ z.left → x.right ≡ z.right → y.y1 ≡ w.y0 → x ≡ z
      same_stacked x z y w ax az p q left right e =
          let pr = p.rows in
          let qr = q.rows in
          let pa = p.above in
          let pb = p.below in
          let qa = q.above in
          let qb = q.below in
          by_lt_z y.y1 x.y1
          (λ more. share_row x z y.y1 ax az left (omega (arith, ints)) more (omega (arith, ints)) (omega (arith, ints)))
          (λ top. by_lt_z z.y0 w.y0
          (λ more. share_row x z (y.y1 -ℤ pos 1) ax az left (omega (arith, ints)) (omega (arith, ints)) (omega (arith, ints)) (omega (arith, ints)))
          (λ bottom. (let meet : x.y1 ≡ z.y0 = omega (arith, ints) in absurd (joined.not_stacked x z ax az left right meet))))

      level : (y w : Trapezoid) → Contains (shots_of height width traps) y → Contains (shots_of height width traps) w
          → y.left ≡ w.left → y.right ≡ w.right → y.y1 ≡ w.y0
          → StandsAlone area (stacked y w) → height <ℤ height_of (stacked y w)
      level y w at by left right e alone =
          let a = of_some (cut_list height width) traps y at in
          let b = of_some (cut_list height width) traps w by in
          let p = shot_in a.0 y (shot a.0 a.1) a.2 in
          let q = shot_in b.0 w (shot b.0 b.1) b.2 in
          let pr = p.rows in
          let qr = q.rows in
          let xl = side_left a.0 y (stacked y w) a.1 p alone refl (omega (arith, ints)) (omega (arith, ints)) in
          let xr = side_right a.0 y (stacked y w) a.1 p alone refl (omega (arith, ints)) (omega (arith, ints)) in
          let zl = side_left b.0 w (stacked y w) b.1 q alone (sym left) (omega (arith, ints)) (omega (arith, ints)) in
          let zr = side_right b.0 w (stacked y w) b.1 q alone (sym right) (omega (arith, ints)) (omega (arith, ints)) in
          let same = same_stacked a.0 b.0 y w a.1 b.1 p q (sym xl ∙ left ∙ zl) (sym xr ∙ right ∙ zr) e in
          let here : IsShotOf height width limits a.0 w = shot_of height width limits a.0 w (shot a.0 a.1)
          (subst (λ v. Contains (cut_list height width v) w) (sym same) b.2) in
          stacked_tall height width limits a.0 y w (shot a.0 a.1) p.of here e

      -- whatever the bands are
      pub joined_needless : (rows : ℤ) → HasNoNeedlessCut rows height width area (shots_of height width traps)
      joined_needless rows = record {
        upright = λ y w at by bottoms tops e. upright y w at by bottoms e;
        level = λ y w at by left right e band alone. level y w at by left right e alone;
      }

    -- the shots of a joined list stand in its window
    pub shots_in_window : All (λ y. (window.y0 ≤ℤ y.y0) × (y.y0 <ℤ y.y1) × (y.y1 ≤ℤ window.y1)) (shots_of height width traps)
    shots_in_window =
        All-weaker (Contains (shots_of height width traps)) (λ y. (window.y0 ≤ℤ y.y0) × (y.y0 <ℤ y.y1) × (y.y1 ≤ℤ window.y1))
        (λ y at. (let a = of_some (cut_list height width) traps y at in
        let p = shot_in a.0 y (shot a.0 a.1) a.2 in
        let w = All-contains (IsInWindow window) traps a.0 joined.in_window a.1 in
        let above = p.above in
        let below = p.below in
        (omega (arith, ints, w.low, above), p.rows, omega (arith, ints, w.high, below))))
        (shots_of height width traps) (All-contains_itself (shots_of height width traps))
