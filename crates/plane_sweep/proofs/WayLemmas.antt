-- On the way over a stop: lines that are passed one by one, and points that are come to.
use Rattle.std.proofs.Common.{ℤ, pos, ◌≡◌, ◌+ℤ◌, ◌-ℤ◌, ◌≤ℤ◌, ◌<ℤ◌, inl, inr, List, [], ◌∷◌, ◌++◌, Option, Some}
use Rattle.std.proofs.Common.{None, drop, All, append_assoc, arith, refl, ap, sym, subst, ◌∙◌}
use Rattle.std.proofs.lemmas.Int.{ints}
use Rattle.std.proofs.lemmas.List.Elements.{All-nil, All-cons, All-head, All-append, All-weaker}
use Rattle.half_grid.specs.Lines.{x_on}
use Rattle.half_grid.specs.Reach.{IsWithinReach}
use Rattle.half_grid.specs.Rows.{place}
use Rattle.half_grid.specs.declared.plane.Point.{Point}
use Rattle.active_lines.specs.declared.item.ActiveLine.{ActiveLine}
use Rattle.active_lines.specs.declared.item.Windings.{Windings}
use Rattle.active_lines.specs.ActiveLists.{ActiveList, first_of, last_of}
use Rattle.active_lines.specs.Neighbours.{IsFirstMeeting}
use Rattle.active_lines.specs.Points.{AscendAt}
use Rattle.active_lines.proofs.ForCallers.{leans_where_it_meets}
use Rattle.row_lists.specs.declared.event.Event.{Event}
use Rattle.row_lists.specs.RowLists.{AscendIn}
use Rattle.row_lists.specs.RowRuns.{last_windings}
use Rattle.plane_sweep.specs.declared.point.Sides.{Sides}
use Rattle.plane_sweep.specs.Stops.{IsLeft, AreWithin, BeginsBeside, MeetFrom, EventsFrom, MeetingsFrom}
use Rattle.plane_sweep.specs.Stops.{IsUpTo, PassFrom, PassBefore, IsPassedUpTo, IsBeforeEnd, IsAtEnd}
use Rattle.plane_sweep.specs.Stops.{PassesLinesOn, PassesAlone}
use Rattle.plane_sweep.proofs.BundleLemmas.{rest_all}
use Rattle.plane_sweep.proofs.StopLemmas.{meet_rest, first_rest}

-- ---- lines that were passed

pub passed_none : (y : ℤ) (end : Option Point) (lines : List ActiveLine) → IsPassedUpTo y end lines lines
passed_none y None lines = record { passed = []; split = refl; before = tt }
passed_none y (Some p) lines = record { passed = []; split = refl; before = All-nil (λ l. x_on l.line y <ℤ p.x) }

one_before : (y : ℤ) (end : Option Point) (passed : List ActiveLine) (l : ActiveLine) → PassBefore y end passed
    → IsBeforeEnd y end l → PassBefore y end (passed ++ l ∷ [])
one_before y None passed l h k = tt
one_before y (Some p) passed l h k =
    All-append (λ m. x_on m.line y <ℤ p.x) passed (l ∷ []) h (All-cons (λ m. x_on m.line y <ℤ p.x) l [] k (All-nil (λ m. x_on m.line y <ℤ p.x)))

pub passed_more : (y : ℤ) (end : Option Point) (lines left later : List ActiveLine) (l : ActiveLine)
    → IsPassedUpTo y end lines left → left ≡ l ∷ later → IsBeforeEnd y end l
    → IsPassedUpTo y end lines later
passed_more y end lines left later l h e before = record {
  passed = h.passed ++ l ∷ [];
  split = h.split ∙ (ap (λ (ls : List ActiveLine). h.passed ++ ls) e ∙ sym (append_assoc h.passed (l ∷ []) later));
  before = one_before y end h.passed l h.before before;
}

pub passed_within : (y : ℤ) (end : Option Point) (lines left : List ActiveLine) (l : ActiveLine)
    → IsPassedUpTo y end lines left → AreWithin y lines → first_of left ≡ Some l
    → AreWithin y (l ∷ drop 1 left)
passed_within y end lines left l h within first =
    subst (AreWithin y) (first_rest left l first)
    (rest_all (λ l. IsWithinReach (x_on l.line y)) h.passed left (subst (AreWithin y) h.split within))

ascend_rest : (y : ℤ) (xs ys : List ActiveLine) → AscendAt y (xs ++ ys) → AscendAt y ys
ascend_rest y [] ys h = h
ascend_rest y (x ∷ xs) ys h = ascend_rest y xs ys h.1

-- ---- where the way ends

pub ends_none : (y : ℤ) (end : Option Point) (lines : List ActiveLine) → first_of lines ≡ None → PassFrom y end lines
ends_none y None [] h = refl
ends_none y (Some p) [] h = All-nil (λ l. p.x ≤ℤ x_on l.line y)
ends_none y end (l ∷ lines) h = absurd (let clash : ⊥ = cc in clash)

ends_from : (y : ℤ) (end : Option Point) (l : ActiveLine) (lines : List ActiveLine) → AscendAt y (l ∷ lines) → IsAtEnd y end l → PassFrom y end (l ∷ lines)
ends_from y None l lines h at = absurd at
ends_from y (Some p) l lines h at =
    All-cons (λ m. p.x ≤ℤ x_on m.line y) l lines at
    (All-weaker (λ m. x_on l.line y ≤ℤ x_on m.line y) (λ m. p.x ≤ℤ x_on m.line y) (λ m le. omega (arith, ints, at, le)) lines h.0)

pub ends_at : (y : ℤ) (end : Option Point) (lines left : List ActiveLine) (l : ActiveLine)
    → IsPassedUpTo y end lines left → AscendAt y lines → first_of left ≡ Some l → IsAtEnd y end l
    → PassFrom y end left
ends_at y end lines left l h ascend first at =
    let rest = first_rest left l first in
    subst (PassFrom y end) (sym rest)
    (ends_from y end l (drop 1 left) (subst (AscendAt y) rest (ascend_rest y h.passed left (subst (AscendAt y) h.split ascend))) at)

-- ---- a line that is passed alone

pub beyond_by : (y : ℤ) (end : Option Point) (l : ActiveLine) (events : List Event) → IsBeforeEnd y end l
    → EventsFrom y end events → All (IsLeft y (x_on l.line y +ℤ pos 1)) events
beyond_by y None l events before h = h (x_on l.line y +ℤ pos 1)
beyond_by y (Some p) l events before h = All-weaker (IsLeft y p.x) (IsLeft y (x_on l.line y +ℤ pos 1)) (λ e k. nearer e k) events h.1
  where
    nearer : (e : Event) → IsLeft y p.x e → IsLeft y (x_on l.line y +ℤ pos 1) e
    nearer e (inl lt) = inl lt
    nearer e (inr k) = let le = k.1 in inr (k.0, omega (arith, ints, le, before))

no_meeting : (y x : ℤ) (l m : ActiveLine) (rest : List ActiveLine) → AscendIn (y -ℤ pos 1) (l ∷ m ∷ rest)
    → MeetFrom y x (l ∷ m ∷ rest) → x_on l.line y <ℤ x → x_on m.line y ≡ x_on l.line y → ⊥
no_meeting y x l m rest ascend h before same =
    let lt = All-head (λ k. place l.line (y -ℤ pos 1) <ℤ place k.line (y -ℤ pos 1)) m rest ascend.0 in
    let leans = leans_where_it_meets l.line m.line (y -ℤ pos 1) y lt (sym same) (omega (arith, ints)) in
    let from = h.0 (record { closing = leans; here = sym same }) in
    absurd (omega (arith, ints, from, before))

pub beside_by : (y : ℤ) (end : Option Point) (l : ActiveLine) (rest : List ActiveLine) → AscendIn (y -ℤ pos 1) (l ∷ rest)
    → IsBeforeEnd y end l → MeetingsFrom y end (l ∷ rest) → BeginsBeside y (x_on l.line y) rest
beside_by y end l [] ascend before h = tt
beside_by y None l (m ∷ rest) ascend before h = λ same. no_meeting y (x_on l.line y +ℤ pos 1) l m rest ascend
    (h (x_on l.line y +ℤ pos 1)) (omega (arith, ints)) same
beside_by y (Some p) l (m ∷ rest) ascend before h = λ same. no_meeting y p.x l m rest ascend h.1 before same

pub up_to : (y : ℤ) (end : Option Point) (l : ActiveLine) → IsBeforeEnd y end l → IsUpTo end (x_on l.line y +ℤ pos 1)
up_to y None l h = tt
up_to y (Some p) l h = omega (arith, ints, h)

pub meetings_rest : (y : ℤ) (end : Option Point) (xs ys : List ActiveLine) → MeetingsFrom y end (xs ++ ys) → MeetingsFrom y end ys
meetings_rest y None xs ys h = λ x. meet_rest y x xs ys (h x)
meetings_rest y (Some p) xs ys h = (h.0, meet_rest y p.x xs ys h.1)

pub line_passed : (y : ℤ) (end : Option Point) (left right : Sides) (first old new : ActiveList) (begin : Sides)
    (l : ActiveLine) → old.after ≡ l ∷ new.after → IsBeforeEnd y end l
    → PassesAlone y left l old new right → PassesLinesOn y end begin first old left → PassesLinesOn y end begin first new right
line_passed y end left right first old new begin l split before passes on edges events goes =
    let now = on edges events goes in
    let at = now.within.at in
    let ascend = subst (AscendIn (y -ℤ pos 1)) split at.halfway.ascend_after in
    let apart = subst (MeetingsFrom y end) split now.apart in
    record {
      within = record {
        x = x_on l.line y +ℤ pos 1;
        up_to = up_to y end l before;
        at = passes edges now.within.x events at
            (record {
              beside = beside_by y end l new.after ascend before apart;
              beyond =
                  beyond_by y end l events before goes.none;
            });
      };
      none = goes.none;
      apart = meetings_rest y end (l ∷ []) new.after apart;
    }

pub nothing_passed : (y : ℤ) (end : Option Point) (begin : Sides) (first : ActiveList) → PassesLinesOn y end begin first first begin
nothing_passed y end begin first edges events h = h

-- ---- what the functions meet

pub first_passed_within : (y : ℤ) (end : Option Point) (lines left : List ActiveLine) (l : ActiveLine)
    → IsPassedUpTo y end lines left → AreWithin y lines → first_of left ≡ Some l
    → IsWithinReach (x_on l.line y)
first_passed_within y end lines left l h within first =
    All-head (λ m. IsWithinReach (x_on m.line y)) l (drop 1 left) (passed_within y end lines left l h within first)

pub meeting_within : (y z : ℤ) (lines : List ActiveLine) (l : ActiveLine) → AreWithin y lines → IsFirstMeeting lines z l → IsWithinReach (x_on l.line y)
meeting_within y z lines l h k =
    All-head (λ m. IsWithinReach (x_on m.line y)) l (k.m ∷ k.right)
    (rest_all (λ m. IsWithinReach (x_on m.line y)) k.left (l ∷ k.m ∷ k.right) (subst (AreWithin y) k.split h))

pub last_right : (w : Windings) (lines : List ActiveLine) (l : ActiveLine) → last_of lines ≡ Some l → l.windings ≡ last_windings w lines
last_right w [] l h = absurd (let clash : ⊥ = cc in clash)
last_right w (m ∷ []) l h = (let same : m ≡ l = cc in ap (λ (k : ActiveLine). k.windings) (sym same))
last_right w (m ∷ n ∷ lines) l h = last_right m.windings (n ∷ lines) l h

pub none_right : (w : Windings) (lines : List ActiveLine) → last_of lines ≡ None → w ≡ last_windings w lines
none_right w [] h = refl
none_right w (m ∷ []) h = absurd (let clash : ⊥ = cc in clash)
none_right w (m ∷ n ∷ lines) h = absurd (some_last m n lines h)
  where
    some_last : (a b : ActiveLine) (ls : List ActiveLine) → last_of (a ∷ b ∷ ls) ≡ None → ⊥
    some_last a b [] k = let clash : ⊥ = cc in clash
    some_last a b (c ∷ ls) k = some_last b c ls k
