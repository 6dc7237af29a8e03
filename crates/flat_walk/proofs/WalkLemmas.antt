-- The cells on the way as a list, and the cell that is entered.
use Rattle.std.proofs.Common.{◌≡◌, ℕ, ℤ, pos, ◌+ℤ◌, int_lt, suc, ◌+◌, ◌<◌, ◌≤◌, Bool, true, false, List, [], ◌∷◌, ◌++◌}
use Rattle.std.proofs.Common.{Option, Some, None, All, map, length, refl, sym, ap, subst, ◌∙◌, arith, append_assoc}
use Rattle.std.proofs.Common.{append-nil, length-append}
use Rattle.std.proofs.lemmas.Int.{ints}
use Rattle.std.specs.Int.{int_min, int_max}
use Rattle.layout_model.specs.Images.{IsOrient}
use Rattle.std.specs.List.{filter}
use Rattle.std.proofs.lemmas.List.{map-append}
use Rattle.half_grid.specs.Quads.{Corners}
use Rattle.half_grid.specs.declared.plane.Point.{Point}
use Rattle.half_grid.specs.declared.extent.Frame.{Frame}
use Rattle.layout_model.specs.Hulls.{IsInBox}
use Rattle.layout_model.specs.declared.orient.Orient.{Orient}
use Rattle.cell_tree.specs.Cells.{shapes_at}
use Rattle.cell_tree.specs.Boxes.{IsLeastBox}
use Rattle.cell_tree.specs.Chains.{IsReachable}
use Rattle.cell_tree.specs.Flattening.{IsVertex}
use Rattle.cell_tree.proofs.ForCallers.{short_below, things_are, below, top_reachable}
use Rattle.std.proofs.lemmas.List.Elements.{All-tail}
use Rattle.std.proofs.lemmas.Option.{same_Some}
use Rattle.flat_walk.specs.Quads.{quad_image, has_row_in}
use Rattle.flat_walk.specs.Hands.{own_rest, IsOwn}
use Rattle.flat_walk.specs.Streams.{rest_of, StandsForWalk, walk_size}
use Rattle.flat_walk.specs.declared.owned.Own.{Own}
use Rattle.flat_walk.specs.Tables.{lists_at}
use Rattle.flat_walk.specs.Walks.{own_pieces, pieces_in}
use Rattle.flat_walk.specs.Rests.{Skips, IsMarkedQuad, shows_in, marked_image, marked_own, marked, placed_rest}
use Rattle.flat_walk.specs.Ways.{IsScene, cells_of, marked_of, placements_rest, level_rest, levels_rest, IsLevel, AreLevels, IsInner, IsBetweenRows}
use Rattle.flat_walk.specs.declared.scenes.Scene.{Scene}
use Rattle.flat_walk.specs.declared.levels.Level.{Level}
use Rattle.flat_walk.proofs.RestLemmas.{skip_on, skip_one, skip_left, skip_over, skip_shows, skip_quads, shapes_from_first}
use Rattle.flat_walk.proofs.WayLemmas.{level_reached, hull_rows, no_hull}
use Rattle.flat_walk.proofs.ShowLemmas.{hidden_at, meet_off, marks_hidden}
use Rattle.flat_walk.proofs.ListLemmas.{still, zero_point, still_list, top_shows, top_quads, list_few}

-- ---- the innermost cell comes first

pub rest_pushed : (scene : Scene) (levels : List Level) (level : Level)
    → levels_rest scene (levels ++ level ∷ []) ≡ level_rest scene level ++ levels_rest scene levels
rest_pushed scene [] level = sym (append-nil (level_rest scene level))
rest_pushed scene (outer ∷ levels) level = ap (λ l. l ++ level_rest scene outer) (rest_pushed scene levels level)
    ∙ append_assoc (level_rest scene level) (levels_rest scene levels) (level_rest scene outer)

pub levels_pushed : (scene : Scene) (depth : ℕ) (levels : List Level) (level : Level) → AreLevels scene depth levels
    → level.depth ≡ depth + length levels → IsLevel scene level → AreLevels scene depth (levels ++ level ∷ [])
levels_pushed scene depth [] level are deep is = (deep ∙ omega arith, is, tt)
levels_pushed scene depth (outer ∷ levels) level are deep is = (are.0, are.1, levels_pushed scene (suc depth) levels level are.2 (deep ∙ omega arith) is)

pub levels_front : (scene : Scene) (depth : ℕ) (levels : List Level) (level : Level)
    → AreLevels scene depth (levels ++ level ∷ []) → AreLevels scene depth levels
levels_front scene depth [] level are = tt
levels_front scene depth (outer ∷ levels) level are = (are.0, are.1, levels_front scene (suc depth) levels level are.2)

pub levels_last : (scene : Scene) (depth : ℕ) (levels : List Level) (level : Level)
    → AreLevels scene depth (levels ++ level ∷ []) → (level.depth ≡ depth + length levels) × IsLevel scene level
levels_last scene depth [] level are = (are.0 ∙ omega arith, are.1)
levels_last scene depth (outer ∷ levels) level are = let last = levels_last scene (suc depth) levels level are.2 in (last.0 ∙ omega arith, last.1)

-- ---- the cell that is entered

marks_of : (orient : Orient) (at : Point) (quads : List Corners) → map (marked_image orient at) (map Some quads) ≡ map Some (map (quad_image orient at) quads)
marks_of orient at [] = refl
marks_of orient at (q ∷ quads) = ap (λ l. Some (quad_image orient at q) ∷ l) (marks_of orient at quads)

marked_is : (scene : Scene) (n : ℕ) → IsScene scene → IsReachable (cells_of scene) scene.tree.now.top n
    → marked_of scene n ≡ marked_own (cells_of scene) scene.parts.now scene.pair n ++ below
    (marked_own (cells_of scene) scene.parts.now scene.pair) marked_image (cells_of scene) (marked_of scene) n
unfolding marked
marked_is scene n sc reach = things_are (marked_own (cells_of scene) scene.parts.now scene.pair) marked_image
    (cells_of scene) 63 n (short_below (cells_of scene) scene.tree.now.top n sc.tree.shallow reach)

-- what a cell shows that is placed so: a mark, its own pieces, and what it places
pub entered : (scene : Scene) (level : Level) → IsScene scene → IsLevel scene level → level.run ≡ None → level.next ≡ 0
    → map (marked_image level.orient level.at) (marked_of scene level.cell)
    ≡ None ∷ (map Some (placed_rest level.orient level.at scene.pair (shapes_at (cells_of scene) level.cell)
    (lists_at scene.parts.now level.cell) 0) ++ level_rest scene level)
entered scene level sc is none first =
    ap (map (marked_image level.orient level.at)) (marked_is scene level.cell sc (level_reached scene level is))
    ∙ (map-append (marked_image level.orient level.at)
    (marked_own (cells_of scene) scene.parts.now scene.pair level.cell)
    (below (marked_own (cells_of scene) scene.parts.now scene.pair) marked_image (cells_of scene)
    (marked_of scene) level.cell)
    ∙ ap (λ l. None ∷ (l ++ placements_rest scene level.orient level.at level.cell 0))
    (marks_of level.orient level.at (own_pieces (cells_of scene) scene.parts.now scene.pair level.cell)
    ∙ ap (λ l. map Some (map (quad_image level.orient level.at) l))
    (sym (shapes_from_first scene.pair (shapes_at (cells_of scene) level.cell)
    (lists_at scene.parts.now level.cell))))
    ∙ sym (rw (none, first) refl))

-- ---- steps of the code

-- the innermost level has a cell to enter
pub enters : (scene : Scene) (before : List (Option Corners)) (levels : List Level) (old new inner : Level) (own : List (Option Corners)) → IsScene scene
    → Skips scene.window before (levels_rest scene (levels ++ old ∷ []))
    → Skips scene.window (level_rest scene old)
    (map (marked_image inner.orient inner.at) (marked_of scene inner.cell) ++ level_rest scene new)
    → IsInner scene old inner
    → own ≡ map Some (placed_rest inner.orient inner.at scene.pair (shapes_at (cells_of scene) inner.cell) (lists_at scene.parts.now inner.cell) 0)
    → Skips scene.window before (None ∷ (own ++ levels_rest scene ((levels ++ new ∷ []) ++ inner ∷ [])))
enters scene before levels old new inner own sc s g is own_is =
    let shown = map (marked_image inner.orient inner.at) (marked_of scene inner.cell) in
    let outer = levels_rest scene levels in
    let e : shown ≡ None ∷ (own ++ level_rest scene inner) = entered scene inner sc is.level is.run is.next ∙ ap
    (λ l. None ∷ (l ++ level_rest scene inner)) (sym own_is) in
    let rests : levels_rest scene ((levels ++ new ∷ []) ++ inner ∷ []) ≡ level_rest scene inner
    ++ (level_rest scene new ++ outer) = rest_pushed scene (levels ++ new ∷ []) inner ∙ ap
    (λ l. level_rest scene inner ++ l) (rest_pushed scene levels new) in
    let whole : (shown ++ level_rest scene new) ++ outer ≡ None ∷ (own ++ levels_rest scene ((levels ++ new ∷ []) ++ inner ∷ [])) =
    append_assoc shown (level_rest scene new) outer ∙ (ap (λ l. l ++ (level_rest scene new ++ outer)) e
    ∙ (ap (λ l. None ∷ l) (append_assoc own (level_rest scene inner) (level_rest scene new ++ outer)) ∙ ap (λ l. None ∷ (own ++ l)) (sym rests))) in
    skip_on scene.window before (levels_rest scene (levels ++ old ∷ [])) _ s
    (subst (λ l. Skips scene.window l (None ∷ (own ++ levels_rest scene ((levels ++ new ∷ []) ++ inner ∷ [])))) (sym (rest_pushed scene levels old))
    (subst (Skips scene.window (level_rest scene old ++ outer)) whole (skip_left scene.window (level_rest scene old) (shown ++ level_rest scene new) outer g)))

-- it has none
pub leaves : (scene : Scene) (before : List (Option Corners)) (levels : List Level) (old : Level)
    → Skips scene.window before (levels_rest scene (levels ++ old ∷ [])) → Skips scene.window (level_rest scene old) []
    → Skips scene.window before (levels_rest scene levels)
leaves scene before levels old s g =
    skip_on scene.window before (levels_rest scene (levels ++ old ∷ [])) (levels_rest scene levels) s
    (subst (λ l. Skips scene.window l (levels_rest scene levels)) (sym (rest_pushed scene levels old))
    (skip_over scene.window (level_rest scene old) (levels_rest scene levels) g))

-- ---- the walk

module _ (scene : Scene) (own own' : Own) (levels levels' : List Level) where
  shown_cons : (q : Corners) → Skips scene.window (rest_of scene own levels) (Some q ∷ rest_of scene own' levels') → has_row_in scene.window q ≡ true
      → filter (shows_in scene.window) (rest_of scene own levels) ≡ Some q ∷ filter (shows_in scene.window) (rest_of scene own' levels')
  shown_cons q s has = skip_shows scene.window (rest_of scene own levels) (Some q ∷ rest_of scene own' levels') s ∙ rw has refl

  pub walk_gives : (room room' : ℕ) (q : Corners) (items : List Corners)
      → Skips scene.window (rest_of scene own levels) (Some q ∷ rest_of scene own' levels')
      → has_row_in scene.window q ≡ true
      → IsOwn own' → AreLevels scene 0 levels' → room' ≡ room → StandsForWalk scene own levels room items
      → (others : List Corners) × (items ≡ q ∷ others) × StandsForWalk scene own' levels' room' others
  walk_gives room room' q [] s has o l r st = absurd (let e = sym st.shows ∙ shown_cons q s has in let clash : ⊥ = cc in clash)
  walk_gives room room' q (x ∷ others) s has o l r st =
      let e : Some x ∷ map Some others ≡ Some q ∷ filter (shows_in scene.window) (rest_of scene own' levels') = sym st.shows ∙ shown_cons q s has in
      let h = first_of x q (map Some others) (filter (shows_in scene.window) (rest_of scene own' levels')) e in (
        others,
        ap (λ y. y ∷ others) h.0,
        record {
          is_scene = st.is_scene;
          is_own = o;
          are_levels = l;
          has_room = (let e = r in let h = st.has_room in omega arith);
          are_quads = All-tail IsMarkedQuad (Some q) (rest_of scene own' levels')
              (skip_quads IsMarkedQuad scene.window (rest_of scene own levels)
              (Some q ∷ rest_of scene own' levels') s st.are_quads);
          few = (let f = st.few in omega (arith, f));
          shows = sym h.1;
        },
      )
    where
      first_of : (x q : Corners) (us vs : List (Option Corners)) → Some x ∷ us ≡ Some q ∷ vs → (x ≡ q) × (us ≡ vs)
      first_of x q us vs e = (same_Some x q (let h : Some x ≡ Some q = cc in h), cc)

  pub walk_ends : (room room' : ℕ) (items : List Corners) → Skips scene.window (rest_of scene own levels) [] → rest_of scene own' levels' ≡ []
      → IsOwn own' → AreLevels scene 0 levels' → room' ≡ room → StandsForWalk scene own levels room items
      → (items ≡ []) × StandsForWalk scene own' levels' room' []
  walk_ends room room' [] s none o l r st = (
    refl,
    record {
      is_scene = st.is_scene;
      is_own = o;
      are_levels = l;
      has_room = (let e = r in let h = st.has_room in omega arith);
      are_quads = rw none (λ k d inside. absurd (omega arith));
      few = omega arith;
      shows = rw none refl;
    },
  )
  walk_ends room room' (x ∷ items) s none o l r st = absurd
      (let e = sym st.shows ∙ skip_shows scene.window (rest_of scene own levels) [] s in let clash : ⊥ = cc in clash)

  pub size_falls : (q : Corners) → Skips scene.window (rest_of scene own levels) (Some q ∷ rest_of scene own' levels')
      → has_row_in scene.window q ≡ true → walk_size scene own' levels' + 1 ≤ walk_size scene own levels
  size_falls q s has = let e = ap length (shown_cons q s has) in omega (arith, e)

-- the own pieces show nothing more, and a cell is entered
pub walk_enters : (scene : Scene) (before : List (Option Corners)) (own own' : Own) (levels levels' : List Level)
    → Skips scene.window before (rest_of scene own levels) → Skips scene.window (own_rest scene.pair own) []
    → Skips scene.window (levels_rest scene levels) (None ∷ rest_of scene own' levels') → Skips scene.window before (rest_of scene own' levels')
walk_enters scene before own own' levels levels' s over g =
    skip_on scene.window before (rest_of scene own levels) (rest_of scene own' levels') s
    (skip_on scene.window (rest_of scene own levels) (levels_rest scene levels) (rest_of scene own' levels')
    (skip_over scene.window (own_rest scene.pair own) (levels_rest scene levels) over)
    (skip_on scene.window (levels_rest scene levels) (None ∷ rest_of scene own' levels') (rest_of scene own' levels') g
    (skip_one scene.window None (rest_of scene own' levels') refl)))

pub walk_shorter : (scene : Scene) (own own' : Own) (levels levels' : List Level)
    → Skips scene.window (levels_rest scene levels) (None ∷ rest_of scene own' levels')
    → length (rest_of scene own' levels') < length (rest_of scene own levels)
walk_shorter scene own own' levels levels' g =
    let e = ap length g.is in
    omega (arith, e, length-append g.front (None ∷ rest_of scene own' levels'), length-append (own_rest scene.pair own) (levels_rest scene levels))

-- ---- the beginning

pub top_level : (scene : Scene) (level : Level) → level.cell ≡ scene.tree.now.top → level.orient ≡ still
    → level.at ≡ zero_point → level.depth ≡ 0 → level.run ≡ None → IsLevel scene level
top_level scene level cell orient at depth none = record {
  links = [];
  chain = tt;
  end = sym cell;
  depth = sym depth;
  factor = sym (ap (λ o. o.mag) orient);
  orient = subst IsOrient (sym orient) (record { turns = omega arith; enlarges = omega arith; factor = omega arith });
  near = rw (at, depth) (record { x_low = omega (arith, ints); x_high = omega (arith, ints); y_low = omega (arith, ints); y_high = omega (arith, ints) });
  run = rw none tt;
}

-- the marked list of the top cell is a mark, and what a walk begins with
pub top_rest : (scene : Scene) (level : Level) (own : Own) → IsScene scene → level.cell ≡ scene.tree.now.top
    → level.orient ≡ still → level.at ≡ zero_point → level.depth ≡ 0 → level.run ≡ None → level.next ≡ 0
    → own_rest scene.pair own ≡ map Some
    (placed_rest level.orient level.at scene.pair (shapes_at (cells_of scene) level.cell)
    (lists_at scene.parts.now level.cell) 0)
    → marked_of scene scene.tree.now.top ≡ None ∷ rest_of scene own (level ∷ [])
top_rest scene level own sc cell orient at depth none first own_is =
    sym (still_list (marked_of scene scene.tree.now.top))
    ∙ (sym (ap (λ o. map (marked_image o zero_point) (marked_of scene scene.tree.now.top)) orient)
    ∙ (sym (ap (λ p. map (marked_image level.orient p) (marked_of scene scene.tree.now.top)) at)
    ∙ (sym (ap (λ n. map (marked_image level.orient level.at) (marked_of scene n)) cell)
    ∙ (entered scene level sc (top_level scene level cell orient at depth none) none first
    ∙ ap (λ l. None ∷ (l ++ level_rest scene level)) (sym own_is)))))

pub walk_begins : (scene : Scene) (level : Level) (own : Own) (room : ℕ) → IsScene scene → IsOwn own
    → level.cell ≡ scene.tree.now.top → level.orient ≡ still → level.at ≡ zero_point → level.depth ≡ 0
    → level.run ≡ None → level.next ≡ 0
    → own_rest scene.pair own ≡ map Some
    (placed_rest level.orient level.at scene.pair (shapes_at (cells_of scene) level.cell)
    (lists_at scene.parts.now level.cell) 0) → 64 ≤ room
    → StandsForWalk scene own (level ∷ []) room (pieces_in (cells_of scene) scene.tree.now.top scene.parts.now scene.pair scene.window)
walk_begins scene level own room sc o cell orient at depth none first own_is most =
    let whole = top_rest scene level own sc cell orient at depth none first own_is in
    record {
      is_scene = sc;
      is_own = o;
      are_levels = (depth, top_level scene level cell orient at depth none, tt);
      has_room = most;
      are_quads = All-tail IsMarkedQuad None (rest_of scene own (level ∷ [])) (subst (All IsMarkedQuad) whole (top_quads scene sc));
      few = list_few scene sc;
      shows = sym (ap (filter (shows_in scene.window)) whole) ∙ top_shows (cells_of scene) scene.tree.now.top scene.parts.now scene.pair scene.window;
    }

-- the hull of the top cell has no rows in the window
pub top_hidden : (scene : Scene) (box : Frame) (low high ly hy : ℤ) (met : Bool) → IsScene scene
    → IsLeastBox (IsVertex (cells_of scene) scene.tree.now.top scene.pair) box
    → ((p : Point) → IsInBox box p → IsBetweenRows still low high p) → ly ≡ low +ℤ pos 0 → hy ≡ high +ℤ pos 0
    → met ≡ int_lt (int_max scene.window.y0 ly) (int_min scene.window.y1 hy) → met ≡ false
    → filter (shows_in scene.window) (marked_of scene scene.tree.now.top) ≡ []
top_hidden scene box low high ly hy met sc least each el eh is off =
    ap (filter (shows_in scene.window)) (sym (still_list (marked_of scene scene.tree.now.top)))
    ∙ hidden_at scene.window still zero_point low high (marked_of scene scene.tree.now.top)
    (hull_rows scene scene.tree.now.top box still low high sc (top_reachable (cells_of scene) scene.tree.now.top) least each)
    (meet_off scene.window low high ly hy (pos 0) met el eh is off)

-- the top cell has nothing on the pair
pub top_bare : (scene : Scene) → IsScene scene
    → ((p : Point) → IsVertex (cells_of scene) scene.tree.now.top scene.pair p → ⊥)
    → filter (shows_in scene.window) (marked_of scene scene.tree.now.top) ≡ []
top_bare scene sc none = marks_hidden scene.window (marked_of scene scene.tree.now.top)
    (no_hull scene scene.tree.now.top sc (top_reachable (cells_of scene) scene.tree.now.top) none)

-- a walk over nothing
pub walk_none : (scene : Scene) (own : Own) (levels : List Level) (room : ℕ) → IsScene scene → IsOwn own
    → own_rest scene.pair own ≡ [] → levels ≡ [] → 64 ≤ room
    → filter (shows_in scene.window) (marked_of scene scene.tree.now.top) ≡ []
    → StandsForWalk scene own levels room
    (pieces_in (cells_of scene) scene.tree.now.top scene.parts.now scene.pair scene.window)
walk_none scene own levels room sc o none empty most hidden = record {
  is_scene = sc;
  is_own = o;
  are_levels = rw empty tt;
  has_room = most;
  are_quads = rw (none, empty) (λ k d inside. absurd (omega arith));
  few = list_few scene sc;
  shows = rw (none, empty) (sym hidden ∙ top_shows (cells_of scene) scene.tree.now.top scene.parts.now scene.pair scene.window);
}
