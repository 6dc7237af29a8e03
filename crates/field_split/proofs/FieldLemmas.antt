-- The pieces of a shot in the fields of a stripe: a list for each field, and one list in all.
use Rattle.std.proofs.Common.{◌≡◌, ℕ, zero, suc, ◌+◌, Bool, true, false, cond, ℤ, pos, ◌+ℤ◌, ◌-ℤ◌, ◌*ℤ◌, ◌≤ℤ◌, ◌<ℤ◌}
use Rattle.std.proofs.Common.{List, [], ◌∷◌, ◌++◌, length, arith, refl, sym, ap, ◌∙◌, int_lt}
use Rattle.std.proofs.lemmas.Int.{ints, clamps}
use Rattle.std.proofs.lemmas.List.Elements.{All-nil, All-append}
use Rattle.std.specs.Int.{int_min, int_max}
use Rattle.std.specs.List.{All}
use Rattle.half_grid.specs.Trapezoids.{Trapezoid, IsInTrapezoid, IsLegal, IsShot, FitsLimits}
use Rattle.half_grid.specs.declared.plane.Tile.{Tile}
use Rattle.half_grid.proofs.ForCallers.{number_between, legal_places, one_joined_list, same_tiles, i_low, i_high}
use Rattle.geo_stream.specs.Flattened.{end_to_end}
use Rattle.field_split.specs.declared.parts.Columns.{Columns}
use Rattle.field_split.specs.Fields.{IsFieldSize, IsInStretch, IsInField, stripe_rows, IsInFieldPart, IsPartList, ArePartLists, AreShotPieces}
use Rattle.field_split.specs.Cutting.{natural_of, columns, pieces_in, pieces_across, in_stripe, least_x, greatest_x}
use Rattle.field_split.specs.Cutting.{first_field, last_field, number_of_fields, pieces_of_part, pieces_of_shot}
use Rattle.field_split.specs.Cutting.{piece_shape, rows}
use Rattle.field_split.proofs.Turns.{lt_yes, lt_true, lt_false}
use Rattle.field_split.proofs.Stacks.{joined_none}
use Rattle.field_split.proofs.PieceLemmas.{IsInColumns, IsSteady, legal_between, x_low, x_high, boxed_by_reach}
use Rattle.field_split.proofs.PieceLemmas.{boxed_by_itself, shot_of_box, IsBoxed, width_in_box, piece_in}
use Rattle.field_split.proofs.ColumnLemmas.{pieces_joined, pieces_once, pieces_never, all_pieces, piece_shot, piece_fits}
use Rattle.field_split.proofs.Numbers.{multiples, fewer, next_start, stretch_of, count_is}

-- ---- lists by number

-- the lists with the numbers from m on, so many of them, one after another
abbrev pub listed_from : (ℤ → List Trapezoid) → ℕ → ℤ → List Trapezoid
listed_from f zero m = []
listed_from f (suc n) m = f m ++ listed_from f n (m +ℤ pos 1)

module _ (f : ℤ → List Trapezoid) where
  all_empty : (n : ℕ) (m : ℤ) → ((i : ℤ) → m ≤ℤ i → f i ≡ []) → listed_from f n m ≡ []
  all_empty zero m h = refl
  all_empty (suc n) m h = rw (h m (omega (arith, ints))) (all_empty n (m +ℤ pos 1) (λ i a. h i (omega (arith, ints, a))))

  -- empty lists at the left ..
  more_left : (d n : ℕ) (m k : ℤ) → m +ℤ pos d ≡ k → ((i : ℤ) → i <ℤ k → f i ≡ []) → listed_from f (d + n) m ≡ listed_from f n k
  more_left zero n m k e h =
      let count : 0 + n ≡ n = omega arith in
      let start : m ≡ k = omega (arith, ints, e) in
      ap (λ (x : ℕ). listed_from f x m) count ∙ ap (λ (x : ℤ). listed_from f n x) start
  more_left (suc d) n m k e h =
      let count : suc d + n ≡ suc (d + n) = omega arith in
      ap (λ (x : ℕ). listed_from f x m) count ∙ ap (λ (xs : List Trapezoid). xs ++ listed_from f (d + n) (m +ℤ pos 1))
      (h m (omega (arith, ints, e))) ∙ more_left d n (m +ℤ pos 1) k (omega (arith, ints, e)) h

  -- .. and at the right
  more_right : (n d : ℕ) (m : ℤ) → ((i : ℤ) → (m +ℤ pos n) ≤ℤ i → f i ≡ []) → listed_from f (n + d) m ≡ listed_from f n m
  more_right zero d m h =
      let count : 0 + d ≡ d = omega arith in
      ap (λ (x : ℕ). listed_from f x m) count ∙ all_empty d m (λ i a. h i (omega (arith, ints, a)))
  more_right (suc n) d m h =
      let count : suc n + d ≡ suc (n + d) = omega arith in
      ap (λ (x : ℕ). listed_from f x m) count ∙ ap (λ (xs : List Trapezoid). f m ++ xs) (more_right n d (m +ℤ pos 1) (λ i a. h i (omega (arith, ints, a))))

  wider : (n : ℕ) (m low : ℤ) (all : ℕ) → low ≤ℤ m → (m +ℤ pos n) ≤ℤ (low +ℤ pos all) → ((i : ℤ) → i <ℤ m → f i ≡ []) → ((i : ℤ) → (m +ℤ pos n) ≤ℤ i → f i ≡ [])
      → listed_from f all low ≡ listed_from f n m
  wider n m low all a b left right =
      let before = count_is (m -ℤ low) (omega (arith, ints, a)) in
      let after = count_is ((low +ℤ pos all) -ℤ (m +ℤ pos n)) (omega (arith, ints, b)) in
      let d = natural_of (m -ℤ low) in
      let e = natural_of ((low +ℤ pos all) -ℤ (m +ℤ pos n)) in
      let sum : all ≡ d + (n + e) = omega (arith, ints, before, after) in
      ap (λ (x : ℕ). listed_from f x low) sum ∙ more_left d (n + e) low m (omega (arith, ints, before)) left ∙ more_right n e m right

  -- two ranges outside of which the lists are empty
  pub same_listed : (n m : ℕ) (j k : ℤ) → ((i : ℤ) → i <ℤ j → f i ≡ []) → ((i : ℤ) → (j +ℤ pos n) ≤ℤ i → f i ≡ [])
      → ((i : ℤ) → i <ℤ k → f i ≡ []) → ((i : ℤ) → (k +ℤ pos m) ≤ℤ i → f i ≡ [])
      → listed_from f n j ≡ listed_from f m k
  same_listed n m j k a b c d =
      let low = int_min j k in
      let high = int_max (j +ℤ pos n) (k +ℤ pos m) in
      let all = count_is (high -ℤ low) (omega (arith, ints, clamps)) in
      let number = natural_of (high -ℤ low) in
      sym (wider n j low number (omega (arith, ints, clamps)) (omega (arith, ints, clamps, all)) a b)
      ∙ wider m k low number (omega (arith, ints, clamps)) (omega (arith, ints, clamps, all)) c d

-- ---- the rows of a shot in a stripe

pub part_legal : (size k : ℤ) (z : Trapezoid) → IsLegal z → (in_stripe size k z).y0 <ℤ (in_stripe size k z).y1 → IsLegal (in_stripe size k z)
part_legal size k z legal h =
    let p = (in_stripe size k z).y0 in
    let q = (in_stripe size k z).y1 in
    let low : z.y0 ≤ℤ p = omega (arith, ints, clamps) in
    let high : q ≤ℤ z.y1 = omega (arith, ints, clamps) in
    legal_between z.left z.right p q h (legal_places z p legal low (omega (arith, ints, h, high)))
    (legal_places z (q -ℤ pos 1) legal (omega (arith, ints, h, low)) (omega (arith, ints, high)))

pub part_boxed : (size k : ℤ) (z : Trapezoid) (low high : ℤ) → IsBoxed z low high
    → (in_stripe size k z).y0 <ℤ (in_stripe size k z).y1 → IsBoxed (in_stripe size k z) low high
part_boxed size k z low high b h =
    let p = (in_stripe size k z).y0 in
    let q = (in_stripe size k z).y1 in
    let from : z.y0 ≤ℤ p = omega (arith, ints, clamps) in
    let to : q ≤ℤ z.y1 = omega (arith, ints, clamps) in
    let p_high : p ≤ℤ z.y1 = omega (arith, ints, h, to) in
    let q_low : z.y0 ≤ℤ q = omega (arith, ints, h, from) in
    record {
      bottom_left = x_low z.left z.y0 p z.y1 low from p_high b.bottom_left b.top_left;
      top_left = x_low z.left z.y0 q z.y1 low q_low to b.bottom_left b.top_left;
      left_bottom = x_high z.left z.y0 p z.y1 high from p_high b.left_bottom b.left_top;
      left_top = x_high z.left z.y0 q z.y1 high q_low to b.left_bottom b.left_top;
      right_bottom = x_low z.right z.y0 p z.y1 low from p_high b.right_bottom b.right_top;
      right_top = x_low z.right z.y0 q z.y1 low q_low to b.right_bottom b.right_top;
      bottom_right = x_high z.right z.y0 p z.y1 high from p_high b.bottom_right b.top_right;
      top_right = x_high z.right z.y0 q z.y1 high q_low to b.bottom_right b.top_right;
    }

pub part_shot : (size k : ℤ) (z : Trapezoid) → IsShot z → (in_stripe size k z).y0 <ℤ (in_stripe size k z).y1 → IsShot (in_stripe size k z)
part_shot size k z s h =
    let r = s.reach in
    shot_of_box (in_stripe size k z) (part_legal size k z s.legal h)
    (record { low = omega (arith, ints, clamps, r.y0.low); high = omega (arith, ints, clamps, h, r.y1.high) })
    (record { low = omega (arith, ints, clamps, h, r.y0.low); high = omega (arith, ints, clamps, r.y1.high) })
    (part_boxed size k z _ _ (boxed_by_reach z s) h)

pub part_fits : (size k : ℤ) (z : Trapezoid) (height width : ℤ) → IsLegal z → FitsLimits height width z
    → (in_stripe size k z).y0 <ℤ (in_stripe size k z).y1 → FitsLimits height width (in_stripe size k z)
part_fits size k z height width legal f h =
    let wide = width_in_box (in_stripe size k z) _ _ (part_boxed size k z _ _ (boxed_by_itself z legal) h) in
    let most = f.not_too_wide in
    let high = f.not_too_high in
    record { not_too_high = omega (arith, ints, clamps, high); not_too_wide = omega (arith, ints, wide, most) }

pub part_in : (size k : ℤ) (z : Trapezoid) (t : Tile) → IsInTrapezoid (in_stripe size k z) t → IsInTrapezoid z t
part_in size k z t h =
    let a = h.above_bottom in
    let b = h.below_top in
    record {
      above_bottom = omega (arith, ints, clamps, a);
      below_top = omega (arith, ints, clamps, b);
      right_of_left =
          h.right_of_left;
      left_of_right = h.left_of_right;
    }

pub part_row : (size k : ℤ) (z : Trapezoid) (t : Tile) → IsInTrapezoid (in_stripe size k z) t → IsInStretch size k t.j
part_row size k z t h =
    let a = h.above_bottom in
    let b = h.below_top in
    record { from = omega (arith, ints, clamps, a); below = omega (arith, ints, clamps, b) }

pub in_part : (size k : ℤ) (z : Trapezoid) (t : Tile) → IsInTrapezoid z t → IsInStretch size k t.j → IsInTrapezoid (in_stripe size k z) t
in_part size k z t h r =
    let a = h.above_bottom in
    let b = h.below_top in
    let c = r.from in
    let d = r.below in
    record {
      above_bottom = omega (arith, ints, clamps, a, c);
      below_top = omega
          (arith, ints, clamps, b, d);
      right_of_left = h.right_of_left;
      left_of_right = h.left_of_right;
    }

-- ---- the list of a field

module _ (size k : ℤ) (sized : IsFieldSize size) (z : Trapezoid) (legal : IsLegal z) where
  some_size : pos 0 <ℤ size
  some_size = omega (arith, ints, sized.least)

  abbrev part : Trapezoid
  part = in_stripe size k z

  abbrev has_rows : Bool
  has_rows = int_lt part.y0 part.y1

  abbrev field_columns : ℤ → Columns
  field_columns m = columns (m *ℤ size) ((m +ℤ pos 1) *ℤ size)

  -- the pieces in field m, if the shot has rows in the stripe
  abbrev pub field_list : ℤ → List Trapezoid
  field_list m = cond has_rows (pieces_in part (field_columns m)) []

  field_wide : (m : ℤ) → (m *ℤ size) <ℤ ((m +ℤ pos 1) *ℤ size)
  field_wide m = rw (next_start m size) (omega (arith, ints, some_size))

  in_columns : (m : ℤ) (t : Tile) → IsInFieldPart size m k z t → IsInColumns part (field_columns m) t
  in_columns m t h = record { inside = in_part size k z t h.inside h.field.row; from = h.field.column.from; below = h.field.column.below }

  pub columns_in : (m : ℤ) (t : Tile) → IsInColumns part (field_columns m) t → IsInFieldPart size m k z t
  columns_in m t h = record {
    inside = part_in size k z t h.inside;
    field =
        record { column = record { from = h.from; below = h.below }; row = part_row size k z t h.inside };
  }

  no_rows : part.y1 ≤ℤ part.y0 → (t : Tile) → IsInTrapezoid z t → IsInStretch size k t.j → ⊥
  no_rows h t i r = let p = in_part size k z t i r in let a = p.above_bottom in let b = p.below_top in omega (arith, ints, a, b, h)

  list_of : (b : Bool) → has_rows ≡ b → (m : ℤ) → IsPartList size m k z (cond b (pieces_in part (field_columns m)) [])
  list_of true e m =
      let rows_some = lt_true part.y0 part.y1 e in
      let one = part_legal size k z legal rows_some in
      record {
        joined = pieces_joined part (field_columns m) one (field_wide m) (stripe_rows size k) (omega (arith, ints, clamps)) (omega (arith, ints, clamps));
        covers = record {
          once = λ t h. pieces_once part (field_columns m) one (field_wide m) t (in_columns m t h);
          never = λ t h. pieces_never part (field_columns m) one (field_wide m) t (λ i. h (columns_in m t i));
        };
      }
  list_of false e m =
      let none = no_rows (lt_false part.y0 part.y1 e) in
      record {
        joined = joined_none (stripe_rows size k);
        covers = record { once = λ t h. absurd (none t h.inside h.field.row); never = λ t h. refl };
      }

  pub field_list_is : (m : ℤ) → IsPartList size m k z (field_list m)
  field_list_is m = list_of has_rows refl m

  one_part_list : (m : ℤ) (xs ys : List Trapezoid) → IsPartList size m k z xs → IsPartList size m k z ys → xs ≡ ys
  one_part_list m xs ys p q = one_joined_list (stripe_rows size k) xs ys p.joined q.joined (same_tiles (IsInFieldPart size m k z) xs ys p.covers q.covers)

  empty_field : (m : ℤ) → ((t : Tile) → IsInFieldPart size m k z t → ⊥) → field_list m ≡ []
  empty_field m none =
      one_part_list m (field_list m) [] (field_list_is m)
      (record {
        joined = joined_none (stripe_rows size k);
        covers =
            record { once = λ t h. absurd (none t h); never = λ t h. refl };
      })

  lists_are : (m : ℤ) (lists : List (List Trapezoid)) → ArePartLists size m k z lists → end_to_end lists ≡ listed_from field_list (length lists) m
  lists_are m [] p = refl
  lists_are m (x ∷ lists) p = rw (one_part_list m x (field_list m) p.0 (field_list_is m), lists_are (m +ℤ pos 1) lists p.1) refl

  module _ {pieces : List Trapezoid} (p : AreShotPieces size k z pieces) where
    none_before : (i : ℤ) → i <ℤ p.first → field_list i ≡ []
    none_before i h =
        empty_field i (λ t inside.
        (let low = p.none_left t inside.inside inside.field.row in
        let up = multiples (i +ℤ pos 1) p.first size some_size (omega (arith, ints, h)) in
        let below = inside.field.column.below in
        omega (arith, ints, low, up, below)))

    none_after : (i : ℤ) → (p.first +ℤ pos (length p.lists)) ≤ℤ i → field_list i ≡ []
    none_after i h =
        empty_field i (λ t inside.
        (let high = p.none_right t inside.inside inside.field.row in
        let up = multiples (p.first +ℤ pos (length p.lists)) i size some_size h in
        let from = inside.field.column.from in
        omega (arith, ints, high, up, from)))

  -- a shot has one list of pieces in a stripe
  pub one_split : (xs ys : List Trapezoid) → AreShotPieces size k z xs → AreShotPieces size k z ys → xs ≡ ys
  one_split xs ys p q =
      p.is ∙ lists_are p.first p.lists p.parts
      ∙ same_listed field_list (length p.lists) (length q.lists) p.first q.first (none_before p) (none_after p) (none_before q) (none_after q)
      ∙ sym (q.is ∙ lists_are q.first q.lists q.parts)

  -- ---- the list that is computed

  abbrev lists_from : ℕ → ℤ → List (List Trapezoid)
  lists_from zero m = []
  lists_from (suc n) m = pieces_in part (field_columns m) ∷ lists_from n (m +ℤ pos 1)

  across_is : (n : ℕ) (m : ℤ) → pieces_across size part n (m *ℤ size) ≡ end_to_end (lists_from n m)
  across_is zero m = refl
  across_is (suc n) m = rw (← next_start m size, across_is n (m +ℤ pos 1)) refl

  from_length : (n : ℕ) (m : ℤ) → length (lists_from n m) ≡ n
  from_length zero m = refl
  from_length (suc n) m = ap suc (from_length n (m +ℤ pos 1))

  module _ (some : part.y0 <ℤ part.y1) where
    are_lists : (n : ℕ) (m : ℤ) → ArePartLists size m k z (lists_from n m)
    are_lists zero m = tt
    are_lists (suc n) m = (list_of true (lt_yes part.y0 part.y1 some) m, are_lists n (m +ℤ pos 1))

    legal_part : IsLegal part
    legal_part = part_legal size k z legal some

    boxed : IsBoxed part (least_x part) (greatest_x part)
    boxed = boxed_by_itself part legal_part

    not_narrow : least_x part <ℤ greatest_x part
    not_narrow = let flat = legal_part.not_flat in omega (arith, ints, clamps, flat)

    column_from : (t : Tile) → IsInTrapezoid part t → least_x part ≤ℤ t.i
    column_from t h =
        let n = number_between part t h in
        let here = x_low part.left part.y0 t.j part.y1 (least_x part) n.above_bottom (omega (arith, ints, n.below_top)) boxed.bottom_left boxed.top_left in
        let next = x_low part.left part.y0 (t.j +ℤ pos 1) part.y1 (least_x part) (omega (arith, ints, n.above_bottom))
        (omega (arith, ints, n.below_top)) boxed.bottom_left boxed.top_left in
        omega (arith, ints, here, next, n.from_left, i_low t, i_high t)

    column_below : (t : Tile) → IsInTrapezoid part t → t.i <ℤ greatest_x part
    column_below t h =
        let n = number_between part t h in
        let here = x_high part.right part.y0 t.j part.y1 (greatest_x part) n.above_bottom
        (omega (arith, ints, n.below_top)) boxed.bottom_right boxed.top_right in
        let next = x_high part.right part.y0 (t.j +ℤ pos 1) part.y1 (greatest_x part)
        (omega (arith, ints, n.above_bottom))
        (omega (arith, ints, n.below_top)) boxed.bottom_right boxed.top_right in
        omega (arith, ints, here, next, n.below_right, i_low t, i_high t)

    pub fields_order : first_field size part ≤ℤ last_field size part
    fields_order =
        let low = stretch_of size (least_x part) some_size in
        let high = stretch_of size (greatest_x part -ℤ pos 1) some_size in
        let less = fewer (first_field size part) (last_field size part +ℤ pos 1) size some_size (omega (arith, ints, low.from, high.below, not_narrow)) in
        omega (arith, ints, less)

    pub fields_number : first_field size part +ℤ pos (number_of_fields size part) ≡ last_field size part +ℤ pos 1
    unfolding number_of_fields
    fields_number = let is = count_is ((last_field size part -ℤ first_field size part) +ℤ pos 1) (omega (arith, ints, fields_order)) in omega (arith, ints, is)

    split_some : AreShotPieces size k z (pieces_of_part size part)
    unfolding pieces_of_part
    split_some =
        let number = number_of_fields size part in
        let start = first_field size part in
        let lists = lists_from number start in
        let count : start +ℤ pos (length lists) ≡ last_field size part +ℤ pos 1 = ap (λ (n : ℕ). start +ℤ pos n) (from_length number start) ∙ fields_number in
        record {
          first = start;
          lists = lists;
          parts = are_lists number start;
          none_left = λ t i r.
              (let column = column_from t (in_part size k z t i r) in let low =
              (stretch_of size (least_x part) some_size).from in omega (arith, ints, column, low));
          none_right = λ t i r. rw count
              (let column = column_below t (in_part size k z t i r) in let high =
              (stretch_of size (greatest_x part -ℤ pos 1) some_size).below in omega (arith, ints, column, high));
          is = across_is number start;
        }

  split_of : (b : Bool) → has_rows ≡ b → AreShotPieces size k z (cond b (pieces_of_part size part) [])
  split_of true e = split_some (lt_true part.y0 part.y1 e)
  split_of false e =
      let none = no_rows (lt_false part.y0 part.y1 e) in
      record {
        first = pos 0;
        lists = [];
        parts = tt;
        none_left = λ t i r. absurd (none t i r);
        none_right = λ t i r. absurd (none t i r);
        is = refl;
      }

  -- the computed list is that of the shot
  pub split_is : AreShotPieces size k z (pieces_of_shot size k z)
  unfolding pieces_of_shot
  split_is = split_of has_rows refl

  -- ---- what holds of each piece

  module _ (P : Trapezoid → Type 0)
      (each : (m : ℤ) (p q : ℤ) → part.y0 <ℤ part.y1 → IsSteady part (field_columns m) p q → p <ℤ q
      → P (piece_shape part (field_columns m) (rows p q))) where
    all_lists : part.y0 <ℤ part.y1 → (n : ℕ) (m : ℤ) → All P (end_to_end (lists_from n m))
    all_lists some zero m = All-nil P
    all_lists some (suc n) m =
        All-append P (pieces_in part (field_columns m)) (end_to_end (lists_from n (m +ℤ pos 1)))
        (all_pieces part (field_columns m) (part_legal size k z legal some) (field_wide m) P
        (λ p q s lt. each m p q some s lt)) (all_lists some n (m +ℤ pos 1))

    all_of : (b : Bool) → has_rows ≡ b → All P (cond b (pieces_of_part size part) [])
    unfolding pieces_of_part
    all_of true e = rw (across_is (number_of_fields size part) (first_field size part))
        (all_lists (lt_true part.y0 part.y1 e) (number_of_fields size part) (first_field size part))
    all_of false e = All-nil P

    pub all_of_shot : All P (pieces_of_shot size k z)
    unfolding pieces_of_shot
    all_of_shot = all_of has_rows refl

  pub shot_pieces_shots : IsShot z → All IsShot (pieces_of_shot size k z)
  shot_pieces_shots s = all_of_shot IsShot
      (λ m p q some steady lt. piece_shot part (field_columns m) (part_legal size k z legal some) (field_wide m)
      (part_shot size k z s some) p q steady lt)

  pub shot_pieces_fit : (height width : ℤ) → FitsLimits height width z → All (FitsLimits height width) (pieces_of_shot size k z)
  shot_pieces_fit height width f =
      all_of_shot (FitsLimits height width)
      (λ m p q some steady lt. piece_fits part (field_columns m) (part_legal size k z legal some)
      (field_wide m) height width (part_fits size k z height width legal f some) p q steady lt)

  pub shot_pieces_in_fields : All (λ (y : Trapezoid). (m : ℤ) × ((t : Tile) → IsInTrapezoid y t → IsInField size m k t)) (pieces_of_shot size k z)
  shot_pieces_in_fields =
      all_of_shot (λ (y : Trapezoid). (m : ℤ) × ((t : Tile) → IsInTrapezoid y t → IsInField size m k t))
      (λ m p q some steady lt. (
        m,
        λ t i. (columns_in m t
            (piece_in part (field_columns m) (part_legal size k z legal some) (field_wide m) p q steady lt t i)).field,
      ))
