-- A walk stands for the quadrilaterals still to come that have a row in its window, and the laws of this.
use Rattle.std.proofs.Common.{◌≡◌, ℕ, ◌≤◌, ◌^◌, List, [], ◌∷◌, ◌++◌, Option, Some, All, map, length, refl, ap, sym, ◌∙◌, arith}
use Rattle.std.specs.List.{filter}
use Rattle.std.proofs.lemmas.List.{length-map}
use Rattle.half_grid.specs.Quads.{Corners}
use Rattle.flat_walk.specs.Rests.{IsMarkedQuad, shows_in}
use Rattle.flat_walk.specs.Hands.{own_rest, IsOwn}
use Rattle.flat_walk.specs.Ways.{IsScene, levels_rest, AreLevels}
use Rattle.flat_walk.specs.declared.scenes.Scene.{Scene}
use Rattle.flat_walk.specs.declared.owned.Own.{Own}
use Rattle.flat_walk.specs.declared.levels.Level.{Level}

-- what is still to come
abbrev pub rest_of : Scene → Own → List Level → List (Option Corners)
rest_of scene own levels = own_rest scene.pair own ++ levels_rest scene levels

pub record StandsForWalk (scene : Scene) (own : Own) (levels : List Level) (room : ℕ) (quads : List Corners) : Type 0 where
  pub is_scene : IsScene scene
  pub is_own : IsOwn own
  pub are_levels : AreLevels scene 0 levels
  pub has_room : 64 ≤ room
  pub are_quads : All IsMarkedQuad (rest_of scene own levels)
  pub few : length quads ≤ 2 ^ 105
  pub shows : filter (shows_in scene.window) (rest_of scene own levels) ≡ map Some quads

abbrev pub walk_size : Scene → Own → List Level → ℕ
walk_size scene own levels = length (filter (shows_in scene.window) (rest_of scene own levels))

some_is : {X : Type 0} (xs ys : List X) → map Some xs ≡ map Some ys → xs ≡ ys
some_is [] [] e = refl
some_is [] (y ∷ ys) e = absurd (let clash : ⊥ = cc in clash)
some_is (x ∷ xs) [] e = absurd (let clash : ⊥ = cc in clash)
some_is (x ∷ xs) (y ∷ ys) e = ap (λ z. z ∷ xs) (head_is (Some x) (Some y) (map Some xs) (map Some ys) x y refl refl e)
    ∙ ap (λ l. y ∷ l) (some_is xs ys (tail_is (Some x) (Some y) (map Some xs) (map Some ys) e))
  where
    head_is : {X : Type 0} (a b : Option X) (us bs : List (Option X)) (x y : X) → a ≡ Some x → b ≡ Some y → a ∷ us ≡ b ∷ bs → x ≡ y
    head_is a b us bs x y p q e = cc

    tail_is : {X : Type 0} (a b : Option X) (us bs : List (Option X)) → a ∷ us ≡ b ∷ bs → us ≡ bs
    tail_is a b us bs e = cc

pub Walk-one_list : (scene : Scene) (own : Own) (levels : List Level) (room : ℕ) (xs ys : List Corners)
    → StandsForWalk scene own levels room xs → StandsForWalk scene own levels room ys → xs ≡ ys
Walk-one_list scene own levels room xs ys p q = some_is xs ys (sym p.shows ∙ q.shows)

walk_long : (scene : Scene) (own : Own) (levels : List Level) (room : ℕ) (xs : List Corners)
    → StandsForWalk scene own levels room xs → length xs ≡ walk_size scene own levels
walk_long scene own levels room xs p = sym (ap length p.shows ∙ length-map xs Some)

pub Walk-no_longer : (scene : Scene) (own : Own) (levels : List Level) (room : ℕ) (xs : List Corners)
    → StandsForWalk scene own levels room xs → length xs ≤ walk_size scene own levels
Walk-no_longer scene own levels room xs p = let e = walk_long scene own levels room xs p in omega (arith, e)

pub Walk-bounded : (scene : Scene) (own : Own) (levels : List Level) (room : ℕ) (xs : List Corners)
    → StandsForWalk scene own levels room xs → walk_size scene own levels ≤ 2 ^ 105
Walk-bounded scene own levels room xs p = let e = walk_long scene own levels room xs p in let f = p.few in omega (arith, e, f)
