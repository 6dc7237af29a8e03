-- The first and the last segment, as a walk finds them.
use Rattle.std.proofs.Common.{◌≡◌, ◌-◌, true, false, List, [], ◌∷◌, ◌++◌, length, Option, Some, unwrap_or, slice_get}
use Rattle.std.proofs.Common.{refl, ap, ◌∙◌, sym, arith, append_assoc, length-append}
use Rattle.half_grid.specs.declared.plane.Point.{Point}
use Rattle.layout_model.specs.declared.stretches.Stretch.{Stretch}
use Rattle.layout_model.specs.declared.stretches.Brush.{Brush}
use Rattle.layout_model.specs.declared.stretches.Walk.{Walk}
use Rattle.layout_model.specs.Walks.{turns_at, walk_on, walk_round, stretch_of}
use Rattle.layout_model.proofs.WalkLemmas.{walk_list, walk_straight, walk_turn}

-- what the walk has passed, with what is left, is the whole, and this is the first that it passed
pub record Ended (brush : Brush) (whole : List Stretch) (walk : Walk) (first : Option Stretch) (rest : List Point) : Type 0 where
  pub done : List Stretch
  pub split : done ++ walk_list brush walk rest ≡ whole
  pub start : slice_get done 0 ≡ first

first_of_more : (done : List Stretch) (first : Option Stretch) (s : Stretch) (more : List Stretch)
    → slice_get done 0 ≡ first → slice_get (done ++ s ∷ more) 0 ≡ Some (unwrap_or first s)
first_of_more [] first s more e = rw (← e) refl
first_of_more (d ∷ done) first s more e = rw (← e) refl

pub ended_turn : (b : Brush) (whole : List Stretch) (w : Walk) (first : Option Stretch) (p : Point) (rest : List Point)
    → Ended b whole w first (p ∷ rest) → turns_at w p ≡ true
    → Ended b whole (walk_round b w p) (Some (unwrap_or first (stretch_of b b.half w))) rest
ended_turn b whole w first p rest e t = record {
  done = e.done ++ stretch_of b b.half w ∷ [];
  split =
      append_assoc e.done (stretch_of b b.half w ∷ []) (walk_list b (walk_round b w p) rest)
      ∙ ap (λ (xs : List Stretch). e.done ++ xs) (sym (walk_turn b w p rest t)) ∙ e.split;
  start = first_of_more e.done first (stretch_of b b.half w) [] e.start;
}

pub ended_on : (b : Brush) (whole : List Stretch) (w : Walk) (first : Option Stretch) (p : Point) (rest : List Point)
    → Ended b whole w first (p ∷ rest) → turns_at w p ≡ false
    → Ended b whole (walk_on w p) first rest
ended_on b whole w first p rest e t = record {
  done = e.done;
  split = ap (λ (xs : List Stretch). e.done ++ xs) (sym (walk_straight b w p rest t)) ∙ e.split;
  start = e.start;
}

pub ended_first : (b : Brush) (whole : List Stretch) (w : Walk) (first : Option Stretch) → Ended b whole w first []
    → slice_get whole 0 ≡ Some (unwrap_or first (stretch_of b b.end w))
ended_first b whole w first e = rw (← e.split) (first_of_more e.done first (stretch_of b b.end w) [] e.start)

last_of_more : (done : List Stretch) (s : Stretch) → slice_get (done ++ s ∷ []) (length done) ≡ Some s
last_of_more [] s = refl
last_of_more (d ∷ done) s = last_of_more done s

last_number : (done : List Stretch) (s : Stretch) → length (done ++ s ∷ []) - 1 ≡ length done
last_number done s = omega (arith, length-append done (s ∷ []))

pub ended_last : (b : Brush) (whole : List Stretch) (w : Walk) (first : Option Stretch) → Ended b whole w first []
    → slice_get whole (length whole - 1) ≡ Some (stretch_of b b.end w)
ended_last b whole w first e = rw (← e.split, last_number e.done (stretch_of b b.end w)) (last_of_more e.done (stretch_of b b.end w))

pub ended_as : (b : Brush) (whole : List Stretch) (w v : Walk) (f g : Option Stretch) (rest : List Point) → v ≡ w
    → g ≡ f → Ended b whole w f rest → Ended b whole v g rest
ended_as b whole w v f g rest e h d = rw (e, h) d
