-- The cells on the way, and what they still place.
use Rattle.std.proofs.Common.{◌≡◌, ℕ, ℤ, pos, neg_ℤ, ◌+◌, ◌*◌, ◌^◌, ◌<◌, ◌≤◌, ◌≤ℤ◌, true, false, List, [], ◌∷◌, ◌++◌}
use Rattle.std.proofs.Common.{Option, Some, None, IfSome, MatchOption, is_some, ltb, map, drop, length, get_or}
use Rattle.std.proofs.Common.{slice_get, refl, sym, ap, subst, ◌∙◌, arith, append_assoc, length-append}
use Rattle.std.specs.List.{flat_map, AllByRecursion}
use Rattle.std.proofs.lemmas.Int.{ints}
use Rattle.std.proofs.lemmas.List.{map-append, length-map}
use Rattle.std.proofs.lemmas.List.Elements.{recursion_from_All, All-from_recursion}
use Rattle.std.proofs.lemmas.Bool.Decides.{nat_tests}
use Rattle.std.proofs.lemmas.Option.{slice_get-get_or}
use Rattle.half_grid.specs.Quads.{Corners}
use Rattle.half_grid.specs.declared.plane.Point.{Point}
use Rattle.half_grid.specs.declared.extent.Frame.{Frame}
use Rattle.layout_model.specs.Hulls.{IsInBox}
use Rattle.layout_model.specs.Images.{IsOrient, moved}
use Rattle.layout_model.specs.Layouts.{IsWithin, IsMove}
use Rattle.layout_model.specs.declared.orient.Orient.{Orient}
use Rattle.layout_model.specs.declared.cells.Placement.{Placement}
use Rattle.layout_model.specs.declared.cells.Cell.{Cell}
use Rattle.cell_tree.specs.Boxes.{IsLeastBox}
use Rattle.cell_tree.specs.Cells.{placements_at, cell_number}
use Rattle.cell_tree.specs.Chains.{Link, IsChain, IsReachable, chain_end, chain_factor}
use Rattle.cell_tree.specs.Flattening.{IsVertex, placed_things}
use Rattle.cell_tree.proofs.ForCallers.{chain_joined, end_joined, factor_joined, reachable_within, near_below}
use Rattle.flat_walk.specs.Rests.{Skips, marked_image}
use Rattle.flat_walk.specs.Ways.{low_corner, high_corner, IsScene, cells_of, marked_of, run_rest, things_at}
use Rattle.flat_walk.specs.Ways.{placements_rest, level_rest, IsBetweenRows, HasRowsBetween, AreRowsBetween, IsRun}
use Rattle.flat_walk.specs.Ways.{IsLevel, IsSpot, IsSamePlace, IsInner}
use Rattle.flat_walk.specs.declared.scenes.Scene.{Scene}
use Rattle.flat_walk.specs.declared.levels.Run.{Run}
use Rattle.flat_walk.specs.declared.levels.Level.{Level}
use Rattle.flat_walk.proofs.PointLemmas.{image_within, moved_within, within_more}
use Rattle.flat_walk.proofs.RestLemmas.{skip_on, skip_same, skip_left, skip_over, drop_here, drop_past}
use Rattle.flat_walk.proofs.ShowLemmas.{AreMarks}
use Rattle.flat_walk.proofs.Amid.{IsAmid, IsSpanned}
use Rattle.flat_walk.proofs.SpanLemmas.{marked_spanned}

pub level_reached : (scene : Scene) (level : Level) → IsLevel scene level → IsReachable (cells_of scene) scene.tree.now.top level.cell
level_reached scene level is = record { links = is.links; chain = is.chain; end = is.end }

pub level_shallow : (scene : Scene) (level : Level) → IsScene scene → IsLevel scene level → level.depth ≤ 63
level_shallow scene level sc is = let h = sc.tree.shallow is.links is.chain in let d = is.depth in omega (arith, h, d, length-map is.links (λ link. link.cell))

pub level_near : (scene : Scene) (level : Level) → IsScene scene → IsLevel scene level → IsWithin (2 ^ 54) level.at
level_near scene level sc is = let d = level_shallow scene level sc is in within_more (level.depth * 2 ^ 47) (2 ^ 54) level.at (omega (arith, d)) is.near

-- ---- a placed cell

placed_chain : (cells : List Cell) (top n m number : ℕ) (links : List Link) (placement : Placement) → IsChain cells top links → chain_end top links ≡ n
    → slice_get (placements_at cells n) number ≡ Some placement → cell_number cells placement.target ≡ Some m
    → IsChain cells top (links ++ record { placement = placement; cell = m } ∷ [])
placed_chain cells top n m number links placement chain end placed target =
    chain_joined cells top links (record { placement = placement; cell = m } ∷ []) chain
    (subst (λ k. IsChain cells k (record { placement = placement; cell = m } ∷ [])) (sym end)
    (record { number = number; placed = placed; target = target }, tt))

pub placed_mild : (scene : Scene) (level : Level) (m number : ℕ) (placement : Placement) → IsScene scene
    → IsLevel scene level → slice_get (placements_at (cells_of scene) level.cell) number ≡ Some placement
    → cell_number (cells_of scene) placement.target ≡ Some m → level.orient.mag * placement.orient.mag ≤ 16
placed_mild scene level m number placement sc is placed target =
    let h = sc.tree.mild (is.links ++ record { placement = placement; cell = m } ∷ [])
    (placed_chain (cells_of scene) scene.tree.now.top level.cell m number is.links placement is.chain is.end
    placed target) in
    let e = factor_joined is.links (record { placement = placement; cell = m } ∷ []) in
    let f = is.factor in
    let one : placement.orient.mag * 1 ≡ placement.orient.mag = omega arith in
    let g : chain_factor is.links * (placement.orient.mag * 1) ≡ level.orient.mag * placement.orient.mag = rw (f, one) refl in
    omega (arith, h, e, g)

pub placed_reached : (scene : Scene) (level : Level) (m number : ℕ) (placement : Placement) → IsLevel scene level
    → slice_get (placements_at (cells_of scene) level.cell) number ≡ Some placement
    → cell_number (cells_of scene) placement.target ≡ Some m → IsReachable (cells_of scene) scene.tree.now.top m
placed_reached scene level m number placement is placed target = record {
  links = is.links ++ record { placement = placement; cell = m } ∷ [];
  chain = placed_chain (cells_of scene) scene.tree.now.top level.cell m number is.links placement is.chain is.end placed target;
  end = end_joined scene.tree.now.top is.links (record { placement = placement; cell = m } ∷ []);
}

spot_within : (level : Level) (placement : Placement) (spot : Point) → IsOrient level.orient
    → IsWithin (level.depth * 2 ^ 47) level.at → IsMove placement.at → IsSpot level.orient level.at placement spot
    → IsWithin ((level.depth + 1) * 2 ^ 47) spot
spot_within level placement spot orient near move is =
    let inner = moved_within (2 ^ 41) (2 ^ 41) is.by placement.at is.near move.near in
    let h = image_within level.orient (level.depth * 2 ^ 47) (2 ^ 41 + 2 ^ 41) level.at (moved is.by placement.at) orient.factor near inner in
    subst (IsWithin ((level.depth + 1) * 2 ^ 47)) (sym is.is)
    (within_more (level.depth * 2 ^ 47 + 16 * (2 ^ 41 + 2 ^ 41)) ((level.depth + 1) * 2 ^ 47) _ (omega arith) h)

-- the cell of a run, at one of its places, is a cell on the way
pub inner_is : (scene : Scene) (level inner : Level) (run : Run) (spot : Point) → IsLevel scene level
    → IsRun scene level.cell level.orient run → IsSpot level.orient level.at run.placement.now spot
    → inner.cell ≡ run.target → inner.orient ≡ run.orient → inner.at ≡ spot → inner.depth ≡ level.depth + 1
    → inner.run ≡ None → inner.next ≡ 0 → IsInner scene level inner
inner_is scene level inner run spot is r s cell orient at depth none next = record {
  level = record {
    links = is.links ++ record { placement = run.placement.now; cell = run.target } ∷ [];
    chain = placed_chain (cells_of scene) scene.tree.now.top level.cell run.target r.number is.links run.placement.now is.chain is.end r.placed r.target;
    end = end_joined scene.tree.now.top is.links (record { placement = run.placement.now; cell = run.target } ∷ []) ∙ sym cell;
    depth = length-append is.links (record { placement = run.placement.now; cell = run.target } ∷ []) ∙ (ap (λ n. n + 1) is.depth ∙ sym depth);
    factor = factor_joined is.links (record { placement = run.placement.now; cell = run.target } ∷ [])
        ∙ ((let one : run.placement.now.orient.mag * 1 ≡ run.placement.now.orient.mag = omega arith in rw (is.factor, one) refl)
        ∙ (sym (ap (λ o. o.mag) r.orient) ∙ sym (ap (λ o. o.mag) orient)));
    orient = subst IsOrient (sym orient) r.is_orient;
    near = rw (depth, at) (spot_within level run.placement.now spot is.orient is.near r.grid.at s);
    run = rw none tt;
  };
  depth = depth;
  run = none;
  next = next;
}

-- ---- the hull of a placed cell

amid_box : (P : Point → Type 0) (box : Frame) (p : Point) → IsLeastBox P box → IsAmid P p → IsInBox box p
amid_box P box p least amid =
    let l = (least.around amid.left.0 amid.left.1).left in let lx = amid.left.2 in
    let r = (least.around amid.right.0 amid.right.1).right in let rx = amid.right.2 in
    let b = (least.around amid.bottom.0 amid.bottom.1).bottom in let by = amid.bottom.2 in
    let t = (least.around amid.top.0 amid.top.1).top in let ty = amid.top.2 in
    record { left = omega (arith, ints); bottom = omega (arith, ints); right = omega (arith, ints); top = omega (arith, ints) }

rows_by : (P : Point → Type 0) (box : Frame) (orient : Orient) (low high : ℤ) (items : List (Option Corners))
    → IsLeastBox P box → ((p : Point) → IsInBox box p → IsBetweenRows orient low high p)
    → AllByRecursion (λ item. IfSome item (IsSpanned P)) items → AllByRecursion (λ item. IfSome item (HasRowsBetween orient low high)) items
rows_by P box orient low high [] least each all = tt
rows_by P box orient low high (None ∷ items) least each all = (tt, rows_by P box orient low high items least each all.1)
rows_by P box orient low high (Some q ∷ items) least each all =
    let s = all.0 in (
      record {
        a = each q.a (amid_box P box q.a least s.a);
        b = each q.b (amid_box P box q.b least s.b);
        c = each q.c
            (amid_box P box q.c least s.c);
        d = each q.d (amid_box P box q.d least s.d);
      },
      rows_by P box orient low high items least each all.1,
    )

-- the rows of the hull have those of all that the cell shows
pub hull_rows : (scene : Scene) (m : ℕ) (box : Frame) (orient : Orient) (low high : ℤ) → IsScene scene → IsReachable (cells_of scene) scene.tree.now.top m
    → IsLeastBox (IsVertex (cells_of scene) m scene.pair) box
    → ((p : Point) → IsInBox box p → IsBetweenRows orient low high p)
    → AreRowsBetween orient low high (marked_of scene m)
hull_rows scene m box orient low high sc reach least each =
    All-from_recursion _ _ (rows_by (IsVertex (cells_of scene) m scene.pair) box orient low high (marked_of scene m) least each
    (recursion_from_All (λ item. IfSome item (IsSpanned (IsVertex (cells_of scene) m scene.pair))) (marked_of scene m) (marked_spanned scene m sc reach)))

-- the hull is not too far away
pub box_within : (scene : Scene) (m : ℕ) (box : Frame) → IsScene scene
    → IsReachable (cells_of scene) scene.tree.now.top m → IsLeastBox (IsVertex (cells_of scene) m scene.pair) box
    → IsWithin (2 ^ 53) (low_corner box) × IsWithin (2 ^ 53) (high_corner box)
box_within scene m box sc reach least =
    let near = near_below (cells_of scene) sc.grid.cells scene.tree.now.top m sc.tree.shallow sc.tree.mild reach scene.pair in
    let l = near least.left.0 least.left.1 in let le = least.left.2 in
    let r = near least.right.0 least.right.1 in let re = least.right.2 in
    let b = near least.bottom.0 least.bottom.1 in let be = least.bottom.2 in
    let t = near least.top.0 least.top.1 in let te = least.top.2 in (
      record {
        x_low = subst (λ z. neg_ℤ (pos (2 ^ 53)) ≤ℤ z) le l.x_low;
        x_high = subst
            (λ z. z ≤ℤ pos (2 ^ 53)) le l.x_high;
        y_low = subst (λ z. neg_ℤ (pos (2 ^ 53)) ≤ℤ z) be b.y_low;
        y_high =
            subst (λ z. z ≤ℤ pos (2 ^ 53)) be b.y_high;
      },
      record {
        x_low = subst (λ z. neg_ℤ (pos (2 ^ 53)) ≤ℤ z) re r.x_low;
        x_high = subst
            (λ z. z ≤ℤ pos (2 ^ 53)) re r.x_high;
        y_low = subst (λ z. neg_ℤ (pos (2 ^ 53)) ≤ℤ z) te t.y_low;
        y_high =
            subst (λ z. z ≤ℤ pos (2 ^ 53)) te t.y_high;
      },
    )

marks_by : (P : Point → Type 0) (items : List (Option Corners)) → ((p : Point) → P p → ⊥)
    → AllByRecursion (λ item. IfSome item (IsSpanned P)) items → AreMarks items
marks_by P [] none all = tt
marks_by P (None ∷ items) none all = (refl, marks_by P items none all.1)
marks_by P (Some q ∷ items) none all = absurd (none all.0.a.left.0 all.0.a.left.1)

-- a cell without vertices on the pair shows nothing on it
pub no_hull : (scene : Scene) (m : ℕ) → IsScene scene → IsReachable (cells_of scene) scene.tree.now.top m
    → ((p : Point) → IsVertex (cells_of scene) m scene.pair p → ⊥) → AreMarks (marked_of scene m)
no_hull scene m sc reach none =
    marks_by (IsVertex (cells_of scene) m scene.pair) (marked_of scene m) none
    (recursion_from_All (λ item. IfSome item (IsSpanned (IsVertex (cells_of scene) m scene.pair))) (marked_of scene m) (marked_spanned scene m sc reach))

-- ---- rests

pub things_are_placed : (scene : Scene) (placement : Placement) (m : ℕ)
    → cell_number (cells_of scene) placement.target ≡ Some m
    → things_at scene placement ≡ placed_things marked_image placement (marked_of scene m)
things_are_placed scene placement m target = rw target refl

pub placements_step : (scene : Scene) (orient : Orient) (at : Point) (cell next : ℕ) (placement : Placement)
    → slice_get (placements_at (cells_of scene) cell) next ≡ Some placement
    → placements_rest scene orient at cell next ≡ map (marked_image orient at) (things_at scene placement) ++ placements_rest scene orient at cell (next + 1)
placements_step scene orient at cell next placement here =
    ap (λ l. map (marked_image orient at) (flat_map (things_at scene) l)) (drop_here (placements_at (cells_of scene) cell) next placement here)
    ∙ map-append (marked_image orient at) (things_at scene placement) (flat_map (things_at scene) (drop (next + 1) (placements_at (cells_of scene) cell)))

pub ltb_no : (n m : ℕ) → false ≡ ltb n m → m ≤ n
ltb_no n m h = grind (arith, nat_tests)

pub placements_end : (scene : Scene) (orient : Orient) (at : Point) (cell next : ℕ)
    → length (placements_at (cells_of scene) cell) ≤ next → placements_rest scene orient at cell next ≡ []
placements_end scene orient at cell next past = ap (λ l. map (marked_image orient at) (flat_map (things_at scene) l))
    (drop_past (placements_at (cells_of scene) cell) next past)

same_rest : (scene : Scene) (a b : Level) → IsSamePlace a b → a.next ≡ b.next
    → placements_rest scene a.orient a.at a.cell a.next ≡ placements_rest scene b.orient b.at b.cell b.next
same_rest scene a b same next = rw (same.orient, same.at, same.cell, next) refl

level_is : (scene : Scene) (a b : Level) → IsSamePlace a b → b.next ≡ a.next
    → level_rest scene b ≡ run_rest scene a.orient a.at b.run ++ placements_rest scene a.orient a.at a.cell a.next
level_is scene a b same next = rw (same.orient, same.at, same.cell, next) refl

-- a level found a cell at a place
pub level_found : (scene : Scene) (before : List (Option Corners)) (a b : Level) (found : Option Level)
    → Skips scene.window before (level_rest scene a) → IsSamePlace a b → b.next ≡ a.next
    → MatchOption found (Skips scene.window (run_rest scene a.orient a.at a.run) [])
    (λ inner. Skips scene.window (run_rest scene a.orient a.at a.run)
    (map (marked_image inner.orient inner.at) (marked_of scene inner.cell) ++ run_rest scene a.orient a.at b.run))
    → is_some found ≡ true → MatchOption found (Skips scene.window before [])
    (λ inner. Skips scene.window before
    (map (marked_image inner.orient inner.at) (marked_of scene inner.cell) ++ level_rest scene b))
level_found scene before a b None s same next g some = absurd (let clash : ⊥ = cc in clash)
level_found scene before a b (Some inner) s same next g some =
    let shown = map (marked_image inner.orient inner.at) (marked_of scene inner.cell) in
    let later = placements_rest scene a.orient a.at a.cell a.next in
    skip_on scene.window before (level_rest scene a) (shown ++ level_rest scene b) s
    (subst (λ l. Skips scene.window (level_rest scene a) l)
    (append_assoc shown (run_rest scene a.orient a.at b.run) later ∙ ap (λ l. shown ++ l)
    (sym (level_is scene a b same next)))
    (skip_left scene.window (run_rest scene a.orient a.at a.run) (shown ++ run_rest scene a.orient a.at b.run) later g))

-- it found none
pub level_none : (scene : Scene) (before : List (Option Corners)) (a b : Level) (found : Option Level)
    → Skips scene.window before (level_rest scene a) → IsSamePlace a b → b.next ≡ a.next
    → MatchOption found (Skips scene.window (run_rest scene a.orient a.at a.run) [])
    (λ inner. Skips scene.window (run_rest scene a.orient a.at a.run)
    (map (marked_image inner.orient inner.at) (marked_of scene inner.cell) ++ run_rest scene a.orient a.at b.run))
    → is_some found ≡ false → Skips scene.window before (placements_rest scene b.orient b.at b.cell b.next)
level_none scene before a b None s same next g some =
    subst (Skips scene.window before) (sym (rw (same.orient, same.at, same.cell, next) refl))
    (skip_on scene.window before (level_rest scene a) (placements_rest scene a.orient a.at a.cell a.next) s
    (skip_over scene.window (run_rest scene a.orient a.at a.run)
    (placements_rest scene a.orient a.at a.cell a.next) g))
level_none scene before a b (Some inner) s same next g some = absurd (let clash : ⊥ = cc in clash)

-- the next placement
pub level_onward : (scene : Scene) (before : List (Option Corners)) (orient : Orient) (at : Point) (cell next : ℕ)
    (placement : Placement) (run : Option Run) → Skips scene.window before (placements_rest scene orient at cell next)
    → slice_get (placements_at (cells_of scene) cell) next ≡ Some placement
    → Skips scene.window (map (marked_image orient at) (things_at scene placement)) (run_rest scene orient at run)
    → Skips scene.window before (run_rest scene orient at run ++ placements_rest scene orient at cell (next + 1))
level_onward scene before orient at cell next placement run s here g =
    skip_on scene.window before (placements_rest scene orient at cell next) (run_rest scene orient at run ++ placements_rest scene orient at cell (next + 1)) s
    (skip_on scene.window (placements_rest scene orient at cell next)
    (map (marked_image orient at) (things_at scene placement) ++ placements_rest scene orient at cell (next + 1))
    (run_rest scene orient at run ++ placements_rest scene orient at cell (next + 1))
    (skip_same scene.window (placements_rest scene orient at cell next)
    (map (marked_image orient at) (things_at scene placement) ++ placements_rest scene orient at cell (next + 1))
    (placements_step scene orient at cell next placement here))
    (skip_left scene.window (map (marked_image orient at) (things_at scene placement)) (run_rest scene orient at run)
    (placements_rest scene orient at cell (next + 1)) g))

pub level_ends : (scene : Scene) (before : List (Option Corners)) (orient : Orient) (at : Point) (cell next : ℕ)
    → Skips scene.window before (placements_rest scene orient at cell next)
    → length (placements_at (cells_of scene) cell) ≤ next → Skips scene.window before []
level_ends scene before orient at cell next s none = subst (Skips scene.window before) (placements_end scene orient at cell next none) s

pub same_place_on : (a b c : Level) → IsSamePlace a b → IsSamePlace b c → IsSamePlace a c
same_place_on a b c p q = record { cell = q.cell ∙ p.cell; orient = q.orient ∙ p.orient; at = q.at ∙ p.at; depth = q.depth ∙ p.depth }

pub level_within : (scene : Scene) (level : Level) → IsScene scene → IsLevel scene level → level.cell < length (cells_of scene)
level_within scene level sc is = reachable_within (cells_of scene) scene.tree.now.top level.cell sc.top (level_reached scene level is)

-- the level with another run
pub level_with : (scene : Scene) (a b : Level) → IsLevel scene a → IsSamePlace a b → IfSome b.run (IsRun scene a.cell a.orient) → IsLevel scene b
level_with scene a b is same run = record {
  links = is.links;
  chain = is.chain;
  end = is.end ∙ sym same.cell;
  depth = is.depth ∙ sym same.depth;
  factor = is.factor ∙ sym (ap (λ o. o.mag) same.orient);
  orient = subst IsOrient (sym same.orient) is.orient;
  near = rw (same.depth, same.at) is.near;
  run = rw (same.cell, same.orient) run;
}

pub looked_up : {X : Type 0} (xs ys : List X) (k : ℕ) (x : X) → xs ≡ ys → k < length xs → x ≡ get_or xs k x → slice_get ys k ≡ Some x
looked_up xs ys k x same inside at = subst (λ l. slice_get l k ≡ Some x) same (slice_get-get_or xs k x inside ∙ ap Some (sym at))
