-- A list halfway over a stop, whatever is open at its lines.
use Rattle.std.proofs.Common.{ℤ, ◌≡◌, ◌-ℤ◌, ◌<ℤ◌, if◌then◌else◌, List, [], ◌∷◌, ◌++◌, Option, None, All, refl, ap, sym, subst, ◌∙◌}
use Rattle.std.specs.Ordering.{int_eq}
use Rattle.std.proofs.lemmas.List.Elements.{All-nil, All-cons, All-head, All-tail}
use Rattle.half_grid.specs.Edges.{EdgeParts}
use Rattle.half_grid.specs.Lines.{x_on}
use Rattle.half_grid.specs.Rows.{place}
use Rattle.half_grid.specs.declared.border.Operand.{Operand}
use Rattle.half_grid.specs.declared.plane.Line.{Line}
use Rattle.half_grid.specs.declared.plane.Point.{Point}
use Rattle.active_lines.specs.ActiveLists.{ActiveList}
use Rattle.active_lines.specs.Leaning.{IsNearLine}
use Rattle.active_lines.specs.Points.{AscendAt}
use Rattle.active_lines.specs.declared.item.ActiveLine.{ActiveLine}
use Rattle.active_lines.specs.declared.item.Windings.{Windings}
use Rattle.row_lists.specs.RowLists.{AscendIn, ChangeAtEach, AreAlike, no_windings, winding_of, change_at}
use Rattle.row_lists.specs.Halfway.{IsHalfway}
use Rattle.row_lists.specs.declared.event.Event.{Event}
use Rattle.plane_sweep.specs.declared.point.Sides.{Sides}
use Rattle.plane_sweep.specs.Stops.{IsAt, AreNear, MeetingsFrom, GoesOn, PassesLinesOn, IsPassedUpTo, HasEnded}
use Rattle.plane_sweep.proofs.AlikeRuns.{alike_last, alike_append, alike_trans}

-- what holds of all lines of one list holds of all of the other
pub alike_all : (P : Line → Type 0) (ls ms : List ActiveLine) → AreAlike ls ms → All (λ l. P l.line) ls → All (λ l. P l.line) ms
alike_all P [] [] h all = All-nil (λ l. P l.line)
alike_all P [] (m ∷ ms) h all = absurd h
alike_all P (l ∷ ls) [] h all = absurd h
alike_all P (l ∷ ls) (m ∷ ms) h all =
    All-cons (λ k. P k.line) m ms (subst P h.0 (All-head (λ k. P k.line) l ls all)) (alike_all P ls ms h.2 (All-tail (λ k. P k.line) l ls all))

alike_ascend : (j : ℤ) (ls ms : List ActiveLine) → AreAlike ls ms → AscendIn j ls → AscendIn j ms
alike_ascend j [] [] h a = tt
alike_ascend j [] (m ∷ ms) h a = absurd h
alike_ascend j (l ∷ ls) [] h a = absurd h
alike_ascend j (l ∷ ls) (m ∷ ms) h a = (
  subst (λ (k : Line). All (λ n. place k j <ℤ place n.line j) ms) h.0 (alike_all (λ k. place l.line j <ℤ place k j) ls ms h.2 a.0),
  alike_ascend j ls ms h.2 a.1,
)

alike_change : (w v : Windings) (ls ms : List ActiveLine) → w ≡ v → AreAlike ls ms → ChangeAtEach w ls → ChangeAtEach v ms
alike_change w v [] [] e h c = tt
alike_change w v [] (m ∷ ms) e h c = absurd h
alike_change w v (l ∷ ls) [] e h c = absurd h
alike_change w v (l ∷ ls) (m ∷ ms) e h c = ((λ same. c.0 (h.1 ∙ (same ∙ sym e))), alike_change l.windings m.windings ls ms h.1 h.2 c.1)

same_at : (o : Operand) (j n : ℤ) (w v : Windings) (ls ms : List ActiveLine) → w ≡ v → AreAlike ls ms → change_at o j n w ls ≡ change_at o j n v ms
same_at o j n w v [] [] e h = refl
same_at o j n w v [] (m ∷ ms) e h = absurd h
same_at o j n w v (l ∷ ls) [] e h = absurd h
same_at o j n w v (l ∷ ls) (m ∷ ms) e h =
    ap (λ (k : Line). if int_eq (place k j) n then winding_of o l.windings -ℤ winding_of o w else change_at o j n l.windings ls) h.0
    ∙ (ap (λ (x : Windings). if int_eq (place m.line j) n then winding_of o x -ℤ winding_of o w else change_at o j n l.windings ls) h.1
    ∙ (ap (λ (x : Windings). if int_eq (place m.line j) n then winding_of o m.windings -ℤ winding_of o x else change_at o j n l.windings ls) e
    ∙ ap (λ (c : ℤ). if int_eq (place m.line j) n then winding_of o m.windings -ℤ winding_of o v else c) (same_at o j n l.windings m.windings ls ms h.1 h.2)))

pub alike_halfway : (edges : List EdgeParts) (y x : ℤ) (below above : Windings) (before before1 after : List ActiveLine) → AreAlike before before1
    → IsHalfway edges y x below above before after → IsHalfway edges y x below above before1 after
alike_halfway edges y x below above before before1 after alike h = record {
  ascend_before = alike_ascend y before before1 alike h.ascend_before;
  ascend_after = h.ascend_after;
  change_before = alike_change no_windings no_windings before before1 refl alike h.change_before;
  change_after = h.change_after;
  left = alike_all (λ k. x_on k y <ℤ x) before before1 alike h.left;
  right = h.right;
  last = sym (alike_last no_windings before before1 alike) ∙ h.last;
  weights_before = λ o line lt. sym (same_at o y (place line y) no_windings no_windings before before1 refl alike) ∙ h.weights_before o line lt;
  weights_after = h.weights_after;
}

-- ---- one line

pub only_one : (l : ActiveLine) (ms : List ActiveLine) → AreAlike (l ∷ []) ms → (m : ActiveLine) × (ms ≡ m ∷ []) × (l.line ≡ m.line)
only_one l [] h = absurd h
only_one l (m ∷ []) h = (m, refl, h.0)
only_one l (m ∷ n ∷ ms) h = absurd h.2

-- the line that was noted, with what is open there
pub alike_noted : (l : ActiveLine) (w : Windings) (before before1 opened : List ActiveLine) → AreAlike before before1
    → AreAlike ((record { line = l.line; windings = w; opened = None }) ∷ []) opened
    → AreAlike (before ++ (record { line = l.line; windings = w; opened = l.opened }) ∷ []) (before1 ++ opened)
alike_noted l w before before1 opened h k =
    let m : ActiveLine = record { line = l.line; windings = w; opened = None } in
    let n : ActiveLine = record { line = l.line; windings = w; opened = l.opened } in
    let one : AreAlike (n ∷ []) (m ∷ []) = (refl, refl, tt) in
    alike_append before (n ∷ []) before1 opened h (alike_trans (n ∷ []) (m ∷ []) opened one k)

-- ---- on the way

pub alike_near : (ls ms : List ActiveLine) → AreAlike ls ms → AreNear ls → AreNear ms
alike_near ls ms alike near = alike_all IsNearLine ls ms alike near

-- the sweep is at the same point with another list of the same lines
pub alike_at : (edges : List EdgeParts) (y x : ℤ) (below above : Windings) (before before1 after : List ActiveLine) (events : List Event)
    → AreAlike before before1 → IsAt edges y x below above before after events → IsAt edges y x below above before1 after events
alike_at edges y x below above before before1 after events alike at = record {
  known = at.known;
  halfway = alike_halfway edges y x below above before before1 after alike at.halfway;
  events = at.events;
}

-- what was passed on the way, with another list of the same lines before the place
pub alike_passes : (y : ℤ) (end : Option Point) (left right right1 : Sides) (old new new1 : ActiveList) → PassesLinesOn y end left old new right
    → AreAlike new.before new1.before → new1.after ≡ new.after → right1 ≡ right → PassesLinesOn y end left old new1 right1
alike_passes y end left right right1 old new new1 passes alike after same edges events goes =
    let h = passes edges events goes in
    subst (λ (s : Sides). GoesOn edges y end s new1 events) (sym same)
    (record {
      within = record {
        x = h.within.x;
        up_to = h.within.up_to;
        at = subst (λ (ls : List ActiveLine). IsAt edges y h.within.x right.below right.above new1.before ls events) (sym after)
            (alike_at edges y h.within.x right.below right.above new.before new1.before new.after events alike h.within.at);
      };
      none = h.none;
      apart = subst (MeetingsFrom y end) (sym after) h.apart;
    })

pub alike_moved : (y : ℤ) (left right : Sides) (old new : ActiveList) → AreAlike old.before new.before → new.after ≡ old.after → right ≡ left
    → (edges : List EdgeParts) (x : ℤ) (events : List Event) → IsAt edges y x left.below left.above old.before old.after events
    → IsAt edges y x right.below right.above new.before new.after events
alike_moved y left right old new alike after same edges x events at =
    subst (λ (s : Sides). IsAt edges y x s.below s.above new.before new.after events) (sym same)
    (subst (λ (ls : List ActiveLine). IsAt edges y x left.below left.above new.before ls events) (sym after)
    (alike_at edges y x left.below left.above old.before new.before old.after events alike at))

pub passed_same : (y : ℤ) (end : Option Point) (lines left left1 : List ActiveLine) → left1 ≡ left → IsPassedUpTo y end lines left
    → IsPassedUpTo y end lines left1
passed_same y end lines left left1 same h = subst (IsPassedUpTo y end lines) (sym same) h

pub ended_same : (y : ℤ) (end : Option Point) (lines : List ActiveLine) (right right1 : Sides) (left left1 : List ActiveLine) → right1 ≡ right → left1 ≡ left
    → (AscendAt y lines → HasEnded y end right left) → AscendAt y lines → HasEnded y end right1 left1
ended_same y end lines right right1 left left1 sides same h ascend =
    subst (λ (s : Sides). HasEnded y end s left1) (sym sides) (subst (HasEnded y end right) (sym same) (h ascend))
