-- The mirror images of a joined list: groups of one top one after another, each the other way round.
use Rattle.std.proofs.Common.{◌≡◌, ◌≢◌, ◌∙◌, ◌⊎◌, inl, inr, ℕ, ◌+◌, ◌<◌, ◌≤◌, ℤ, pos, ◌-ℤ◌, ◌≤ℤ◌, ◌<ℤ◌, List, [], ◌∷◌}
use Rattle.std.proofs.Common.{◌++◌, All, Contains, length, map, reverse, drop, append_assoc, ap, sym, subst, refl}
use Rattle.std.proofs.Common.{arith}
use Rattle.std.proofs.lemmas.Int.{ints, by_lt_z}
use Rattle.std.proofs.lemmas.List.{reverse-append, append-nil, drop_all}
use Rattle.std.proofs.lemmas.List.Sums.{sum_by-append}
use Rattle.std.proofs.lemmas.List.Elements.{All-contains, Contains-push_cases, Contains-append_cases, Contains-append_left, Contains-append_right}
use Rattle.half_grid.specs.JoinedLists.{IsJoined, IsInWindow, IsBeside, StandsBefore, StandInOrder}
use Rattle.half_grid.specs.Rows.{place}
use Rattle.half_grid.specs.Trapezoids.{Trapezoid, IsLegal, count_in}
use Rattle.half_grid.specs.Windows.{RowRange}
use Rattle.half_grid.specs.declared.plane.Tile.{Tile}
use Rattle.half_grid.specs.declared.plane.Line.{Line}
use Rattle.half_grid.proofs.ForCallers.{in_has, in_by_number, legal_places, one_line, tile_with, tile_with_number}
use Rattle.trap_join.proofs.ForCallers.{all_members, among_rest, is_first, one_only, order_append, order_first, order_second, order_between}
use Rattle.square_size.specs.EdgeLaws.{IsInSome}
use Rattle.tone_mirror.specs.Mirrors.{mirrored_line, mirrored_tile, mirrored_trapezoid}
use Rattle.tone_mirror.proofs.ForCallers.{image_number, image_place, images_have_count, image_is_legal}
use Rattle.deck_plan.specs.Images.{AreImages, HasTop, Turned}
use Rattle.deck_plan.specs.Lists.{HasArea, IsJoinedSomewhere}
use Rattle.deck_plan.proofs.KeptLemmas.{rows_of_some}

-- ---- members of lists

none_among : {X P : Type 0} (x : X) → Contains [] x → P
none_among x h = absurd (omega (arith, h.1))

only_one : {X : Type 0} (x y : X) → Contains (x ∷ []) y → x ≡ y
only_one x y h = elim (Contains-push_cases [] x y h) [ inl e ↦ none_among y e | inr e ↦ e ]

first_or_later : {X : Type 0} (x y : X) (xs : List X) → Contains (x ∷ xs) y → (x ≡ y) ⊎ Contains xs y
first_or_later x y xs h = elim (Contains-append_cases (x ∷ []) xs y h) [ inl e ↦ inl (only_one x y e) | inr e ↦ inr e ]

same_head : {X : Type 0} (x y : X) (xs ys : List X) → x ∷ xs ≡ y ∷ ys → x ≡ y
same_head x y xs ys e = cc

count_more : (xs ys : List Trapezoid) (t : Tile) → count_in (xs ++ ys) t ≡ count_in xs t + count_in ys t
count_more xs ys t = sum_by-append _ xs ys

-- what is left of a list begins with the item at this place
pub drop_first : {X : Type 0} (xs : List X) (i : ℕ) (x z : X) (zs : List X) → i < length xs → drop i xs ≡ x ∷ drop (i + 1) xs → drop i xs ≡ z ∷ zs → x ≡ z
drop_first xs i x z zs inside here e = same_head x z (drop (i + 1) xs) zs (sym here ∙ e)

pub none_left : {X : Type 0} (xs : List X) (i : ℕ) (z : X) (zs : List X) → length xs ≤ i → drop i xs ≡ z ∷ zs → ⊥
none_left xs i z zs past e = (let none : z ∷ zs ≡ [] = sym e ∙ drop_all i xs past in omega (arith, ap length none))

pub tops_of : (first : Trapezoid) (rest : List Trapezoid) → All (HasTop first.y1) rest → All (HasTop first.y1) (first ∷ rest)
tops_of first rest all = all_members (HasTop first.y1) (first ∷ rest) (λ z h. elim (first_or_later first z rest h) [
  | inl e ↦ ap (λ (u : Trapezoid). u.y1) (sym e)
  | inr later ↦ All-contains (HasTop first.y1) rest z all later
])

-- ---- images the other way round

pub back_more : {X Y : Type 0} (f : X → Y) (x : X) (xs : List X) → reverse (map f (x ∷ xs)) ≡ reverse (map f xs) ++ f x ∷ []
back_more f x xs = reverse-append (f x ∷ []) (map f xs)

module _ (m : ℤ) where
  abbrev Image : Trapezoid → Trapezoid
  Image z = mirrored_trapezoid m z

  abbrev Back : List Trapezoid → List Trapezoid
  Back traps = reverse (map (mirrored_trapezoid m) traps)

  -- a member that the trapezoid is the image of
  abbrev Origin : List Trapezoid → Trapezoid → Type 0
  Origin traps y = (z : Trapezoid) × Contains traps z × (mirrored_trapezoid m z ≡ y)

  back_count : (group : List Trapezoid) (t : Tile) → count_in (Back group) t ≡ count_in group (mirrored_tile m t)
  back_count [] t = refl
  back_count (z ∷ group) t =
      let whole : count_in (Back (z ∷ group)) t ≡ count_in (Back group ++ Image z ∷ []) t = ap
      (λ (list : List Trapezoid). count_in list t) (back_more (mirrored_trapezoid m) z group) in
      let parts = count_more (Back group) (Image z ∷ []) t in
      let one : count_in (Image z ∷ []) t ≡ count_in (z ∷ []) (mirrored_tile m t) = images_have_count m (z ∷ []) t in
      let later = back_count group t in
      let all = count_more (z ∷ []) group (mirrored_tile m t) in
      omega (arith, whole, parts, one, later, all)

  back_origin : (group : List Trapezoid) (y : Trapezoid) → Contains (Back group) y → Origin group y
  back_origin [] y h = none_among y h
  back_origin (z ∷ group) y h =
      elim (Contains-append_cases (Back group) (Image z ∷ []) y
      (subst (λ (list : List Trapezoid). Contains list y) (back_more (mirrored_trapezoid m) z group) h)) [
        | inl later ↦ (let o = back_origin group y later in (o.0, among_rest z o.0 group o.1, o.2))
        | inr here ↦ (z, is_first z group, only_one (Image z) y here)
      ]

  -- with the image of the trapezoid before
  pub put_more : (traps : List Trapezoid) (n : ℕ) (trap image : Trapezoid) (old images more : List Trapezoid) → drop n traps ≡ trap ∷ drop (n + 1) traps
      → images ≡ old ++ Back (drop (n + 1) traps) → more ≡ images ++ image ∷ [] → image ≡ mirrored_trapezoid m trap → more ≡ old ++ Back (drop n traps)
  put_more traps n trap image old images more here before is own =
      let rest = drop (n + 1) traps in
      let back : Back (drop n traps) ≡ Back rest ++ Image trap ∷ [] = ap
      (λ (list : List Trapezoid). reverse (map (mirrored_trapezoid m) list)) here ∙ back_more
      (mirrored_trapezoid m) trap rest in
      is ∙ (ap (λ (z : Trapezoid). images ++ z ∷ []) own ∙ (ap (λ (list : List Trapezoid). list ++ Image trap ∷ []) before
      ∙ (append_assoc old (Back rest) (Image trap ∷ []) ∙ ap (λ (list : List Trapezoid). old ++ list) (sym back))))

  -- ---- the order of a group

  module _ (traps : List Trapezoid) (legal : All IsLegal traps) (once : (t : Tile) → count_in traps t ≤ 1) where
    is_legal : (z : Trapezoid) → Contains traps z → IsLegal z
    is_legal z h = All-contains IsLegal traps z legal h

    -- of two that share a row the one further left ends further left
    ends_before : (y z : Trapezoid) (j : ℤ) → Contains traps y → Contains traps z → y.y0 ≤ℤ j → j <ℤ y.y1 → z.y0 ≤ℤ j → j <ℤ z.y1
        → place y.left j <ℤ place z.left j → place y.right j <ℤ place z.right j
    ends_before y z j hy hz a b c d lt =
        by_lt_z (place y.right j) (place z.right j) (λ h. h)
        (λ ge. absurd (
        let own = legal_places z j (is_legal z hz) c d in
        let number = tile_with_number (place z.left j) j in
        let t = tile_with (place z.left j) j in
        let in_y = in_by_number y t
        (record {
          above_bottom = a;
          below_top = b;
          from_left = omega (arith, ints, number, lt);
          below_right =
              omega (arith, ints, number, own, ge);
        }) in
        let in_z = in_by_number z t
        (record {
          above_bottom = c;
          below_top = d;
          from_left = omega (arith, ints, number);
          below_right = omega
              (arith, ints, number, own);
        }) in
        let same = one_only t traps y z (once t) hy hz (in_has t y in_y) (in_has t z in_z) in
        let left : place y.left j ≡ place z.left j = ap (λ (u : Trapezoid). place u.left j) same in
        omega (arith, ints, lt, left)))

    -- of two with one top the image of the one further left stands after that of the other
    image_after : (y z : Trapezoid) → Contains traps y → Contains traps z → y.y1 ≡ z.y1
        → place y.left (y.y1 -ℤ pos 1) <ℤ place z.left (z.y1 -ℤ pos 1) → StandsBefore (Image z) (Image y)
    image_after y z hy hz e lt =
        let j = y.y1 -ℤ pos 1 in
        let rows_y = (is_legal y hy).has_rows in
        let rows_z = (is_legal z hz).has_rows in
        let level : place y.left (y.y1 -ℤ pos 1) <ℤ place z.left (y.y1 -ℤ pos 1) = subst
        (λ (k : ℤ). place y.left (y.y1 -ℤ pos 1) <ℤ place z.left (k -ℤ pos 1)) (sym e) lt in
        let right = ends_before y z (y.y1 -ℤ pos 1) hy hz (omega (arith, ints, rows_y)) (omega (arith, ints))
        (omega (arith, ints, rows_z, e)) (omega (arith, ints, e)) level in
        let of_y = image_place m y.right (y.y1 -ℤ pos 1) in
        let of_z = image_place m z.right (y.y1 -ℤ pos 1) in
        let images : place (mirrored_line m z.right) (y.y1 -ℤ pos 1) <ℤ place (mirrored_line m y.right)
        (y.y1 -ℤ pos 1) = omega (arith, ints, right, of_y, of_z) in
        inr (sym e, subst (λ (k : ℤ). place (mirrored_line m z.right) (k -ℤ pos 1) <ℤ place (mirrored_line m y.right) (y.y1 -ℤ pos 1)) e images)

    by_order : (y z : Trapezoid) (top : ℤ) → Contains traps y → Contains traps z → y.y1 ≡ top → z.y1 ≡ top → StandsBefore y z → StandsBefore (Image z) (Image y)
    by_order y z top hy hz ty tz before = elim before [ inl lt ↦ absurd (omega (arith, ints, lt, ty, tz)) | inr same ↦ image_after y z hy hz same.0 same.1 ]

    back_order : (top : ℤ) (group : List Trapezoid) → ((z : Trapezoid) → Contains group z → Contains traps z)
        → ((z : Trapezoid) → Contains group z → z.y1 ≡ top) → StandInOrder group → StandInOrder (Back group)
    back_order top [] among tops order = tt
    back_order top (z ∷ group) among tops order =
        let later = back_order top group (λ y h. among y (among_rest z y group h)) (λ y h. tops y (among_rest z y group h)) order.1 in
        let last : StandInOrder (Image z ∷ []) = (λ k d inside. absurd (omega (arith, inside)), tt) in
        subst StandInOrder (sym (back_more (mirrored_trapezoid m) z group)) (order_append (Back group) (Image z ∷ []) later last (λ x y hx hy.
        let o = back_origin group x hx in
        let before = All-contains (StandsBefore z) group o.0 order.0 o.1 in
        let own = by_order z o.0 top (among z (is_first z group)) (among o.0 (among_rest z o.0 group o.1))
        (tops z (is_first z group)) (tops o.0 (among_rest z o.0 group o.1)) before in
        subst (λ (u : Trapezoid). StandsBefore u y) o.2 (subst (λ (u : Trapezoid). StandsBefore (Image o.0) u) (only_one (Image z) y hy) own)))

  -- ---- group by group

  -- what stands after a group of one top, the first of which has another, has higher tops
  higher : (first : Trapezoid) (above : List Trapezoid) → ((z : Trapezoid) → Contains above z → StandsBefore first z) → StandInOrder above
      → ((z : Trapezoid) (zs : List Trapezoid) → above ≡ z ∷ zs → HasTop first.y1 z → ⊥) → (z : Trapezoid) → Contains above z → first.y1 <ℤ z.y1
  higher first [] before order next z h = none_among z h
  higher first (r ∷ above) before order next z h =
      let lowest : first.y1 <ℤ r.y1 = elim (before r (is_first r above)) [ inl lt ↦ lt | inr same ↦ absurd (next r above refl (sym same.0)) ] in
      elim (first_or_later r z above h) [
        | inl e ↦ subst (λ (u : Trapezoid). first.y1 <ℤ u.y1) e lowest
        | inr later ↦ elim (All-contains (StandsBefore r) above z order.0 later) [
          | inl lt ↦ omega
              (arith, ints, lowest, lt)
          | inr same ↦ omega (arith, ints, lowest, same.0)
        ]
      ]

  pub turned_all : (traps left images : List Trapezoid) → Turned m traps left images → length left ≡ 0 → AreImages m traps images
  turned_all traps [] images h e = subst (λ (list : List Trapezoid). AreImages m list images) (sym (h.parts ∙ append-nil h.done)) h.are
  turned_all traps (z ∷ left) images h e = absurd (omega (arith, e))

  pub turned_within : (P : Trapezoid → Type 0) (traps left images : List Trapezoid) → Turned m traps left images → All P traps → All P left
  turned_within P traps left images h all =
      all_members P left (λ z c. All-contains P traps z all
      (subst (λ (list : List Trapezoid). Contains list z) (sym h.parts) (Contains-append_right h.done left z c)))

  module _ (traps left images group above : List Trapezoid) (first : Trapezoid) (joined : IsJoinedSomewhere traps) (before : Turned m traps left images)
      (parts : left ≡ group ++ above) (member : Contains group first) (same : All (HasTop first.y1) group)
      (next : (z : Trapezoid) (zs : List Trapezoid) → above ≡ z ∷ zs → HasTop first.y1 z → ⊥) where
    ordered : StandInOrder (before.done ++ (group ++ above))
    ordered = subst StandInOrder (before.parts ∙ ap (λ (list : List Trapezoid). before.done ++ list) parts) joined.1.in_order

    after : StandInOrder (group ++ above)
    after = order_second before.done (group ++ above) ordered

    in_left : (z : Trapezoid) → Contains (group ++ above) z → Contains left z
    in_left z h = subst (λ (list : List Trapezoid). Contains list z) (sym parts) h

    in_traps : (z : Trapezoid) → Contains group z → Contains traps z
    in_traps z h = subst (λ (list : List Trapezoid). Contains list z) (sym before.parts)
        (Contains-append_right before.done left z (in_left z (Contains-append_left group above z h)))

    above_group : (z : Trapezoid) → Contains above z → first.y1 <ℤ z.y1
    above_group z h = higher first above (λ z h. order_between group above after first z member h) (order_second group above after) next z h

    tops : (z : Trapezoid) → Contains group z → z.y1 ≡ first.y1
    tops z h = All-contains (HasTop first.y1) group z same h

    under_group : (x y : Trapezoid) → Contains images x → Contains (Back group) y → StandsBefore x y
    under_group x y hx hy =
        let o = before.are.origin x hx in
        let p = back_origin group y hy in
        let lower = before.under o.0 p.0 o.1 (in_left p.0 (Contains-append_left group above p.0 p.1)) in
        let of_x : o.0.y1 ≡ x.y1 = ap (λ (u : Trapezoid). u.y1) o.2 in
        let of_y : p.0.y1 ≡ y.y1 = ap (λ (u : Trapezoid). u.y1) p.2 in
        inl (omega (arith, ints, lower, of_x, of_y))

    more_count : (t : Tile) → count_in (images ++ Back group) t ≡ count_in (before.done ++ group) (mirrored_tile m t)
    more_count t = omega (arith, count_more images (Back group) t, before.are.count t, back_count group t, count_more before.done group (mirrored_tile m t))

    more_origin : (y : Trapezoid) → Contains (images ++ Back group) y → Origin (before.done ++ group) y
    more_origin y h = elim (Contains-append_cases images (Back group) y h) [
      | inl early ↦ (let o = before.are.origin y early in (o.0, Contains-append_left before.done group o.0 o.1, o.2))
      | inr late ↦ (let o = back_origin group y late in (o.0, Contains-append_right before.done group o.0 o.1, o.2))
    ]

    more_under : (y z : Trapezoid) → Contains (before.done ++ group) y → Contains above z → y.y1 <ℤ z.y1
    more_under y z hy hz = elim (Contains-append_cases before.done group y hy) [
      | inl early ↦ before.under y z early (in_left z (Contains-append_right group above z hz))
      | inr late ↦ omega (arith, ints, tops y late, above_group z hz)
    ]

    -- one group further
    pub turned_more : Turned m traps above (images ++ Back group)
    turned_more = record {
      done = before.done ++ group;
      parts = before.parts ∙ (ap (λ (list : List Trapezoid). before.done ++ list) parts ∙ sym (append_assoc before.done group above));
      are = record {
        order = order_append images (Back group) before.are.order
            (back_order traps joined.1.legal joined.1.apart first.y1 group in_traps tops
            (order_first group above after)) under_group;
        count = more_count;
        origin = more_origin;
      };
      under = more_under;
    }

  -- ---- they are a joined list

  beside_image : (z : Trapezoid) (t : Tile) → IsBeside (Image z) t → IsBeside z (mirrored_tile m t)
  beside_image z t h =
      let n = image_number m t in
      let l = image_place m z.left t.j in
      let r = image_place m z.right t.j in
      record {
        above_bottom = h.above_bottom;
        below_top = h.below_top;
        beside = elim h.beside [ inl e ↦ inr (omega (arith, ints, n, r, e)) | inr e ↦ inl (omega (arith, ints, n, l, e)) ];
      }

  line_back : (k l : Line) → mirrored_line m k ≡ mirrored_line m l → k ≡ l
  line_back k l e =
      let of_k = image_place m k (pos 0) in
      let of_l = image_place m l (pos 0) in
      let images : place (mirrored_line m k) (pos 0) ≡ place (mirrored_line m l) (pos 0) = ap (λ (line : Line). place line (pos 0)) e in
      one_line k l (pos 0) (omega (arith, ints, of_k, of_l, images))

  module _ (own window : RowRange) (traps images : List Trapezoid) (joined : IsJoined own traps)
      (inside : All (IsInWindow window) traps) (are : AreImages m traps images) where
    image_inside : (y : Trapezoid) → Contains images y → IsInWindow window y
    image_inside y h =
        let o = are.origin y h in
        let w = All-contains (IsInWindow window) traps o.0 inside o.1 in
        subst (IsInWindow window) o.2 (record { low = w.low; high = w.high })

    image_free : (y : Trapezoid) (t : Tile) → Contains images y → IsBeside y t → count_in images t ≡ 0
    image_free y t h beside =
        let o = are.origin y h in
        are.count t ∙ joined.ends_free o.0 (mirrored_tile m t) o.1 (beside_image o.0 t (subst (λ (u : Trapezoid). IsBeside u t) (sym o.2) beside))

    image_not_stacked : (y z : Trapezoid) → Contains images y → Contains images z → y.left ≡ z.left → y.right ≡ z.right → y.y1 ≢ z.y0
    image_not_stacked y z hy hz left right e =
        let o = are.origin y hy in
        let p = are.origin z hz in
        let lefts = ap (λ (u : Trapezoid). u.left) o.2 ∙ (left ∙ sym (ap (λ (u : Trapezoid). u.left) p.2)) in
        let rights = ap (λ (u : Trapezoid). u.right) o.2 ∙ (right ∙ sym (ap (λ (u : Trapezoid). u.right) p.2)) in
        let level = ap (λ (u : Trapezoid). u.y1) o.2 ∙ (e ∙ sym (ap (λ (u : Trapezoid). u.y0) p.2)) in
        joined.not_stacked o.0 p.0 o.1 p.1 (line_back o.0.left p.0.left rights) (line_back o.0.right p.0.right lefts) level

    images_joined : IsJoined window images
    images_joined = record {
      legal = all_members IsLegal images
          (λ y h. (let o = are.origin y h in subst IsLegal o.2
          (image_is_legal m o.0 (All-contains IsLegal traps o.0 joined.legal o.1))));
      in_window = all_members (IsInWindow window) images image_inside;
      apart = λ t. omega (arith, are.count t, joined.apart (mirrored_tile m t));
      ends_free = image_free;
      not_stacked = image_not_stacked;
      in_order = are.order;
    }

    pub images_have : HasArea window (λ t. IsInSome traps (mirrored_tile m t)) images
    images_have = record {
      joined = images_joined;
      inside = λ t some. (rows_of_some window images t images_joined.in_window some, omega (arith, some, are.count t));
      all = λ t rows some. omega (arith, some, are.count t);
    }
