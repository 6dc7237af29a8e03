-- The runs of lines that follow one another: those that have ended, and the one that is open between them.
use Rattle.std.proofs.Common.{◌≡◌, Bool, true, false, List, [], ◌∷◌, ◌++◌, Option, Some, None, refl, ap, sym, subst, ◌∙◌, ◌⊎◌, inl, inr}
use Rattle.std.specs.Prelude.{if◌then◌else◌, All, is_some}
use Rattle.std.specs.List.{Contains}
use Rattle.std.proofs.lemmas.List.Elements.{All-nil, All-cons, Contains-append_left, Contains-append_right, Contains-push}
use Rattle.half_grid.specs.declared.plane.Line.{Line}
use Rattle.scan_line.specs.declared.runs.Run.{Run}
use Rattle.active_lines.specs.declared.item.ActiveLine.{ActiveLine}
use Rattle.active_lines.specs.declared.item.Windings.{Windings}
use Rattle.row_lists.specs.RowRuns.{end_of, run_from, runs_of, last_windings}
use Rattle.plane_sweep.specs.StopRuns.{ended_runs, open_after, runs_from}

-- ---- whether the windings are taken right of all lines

abbrev pub inside_after : (Windings → Bool) → Bool → List ActiveLine → Bool
inside_after takes inside [] = inside
inside_after takes inside (l ∷ lines) = inside_after takes (takes l.windings) lines

pub inside_by_windings : (takes : Windings → Bool) (w : Windings) (lines : List ActiveLine) → takes (last_windings w lines) ≡ inside_after takes (takes w) lines
inside_by_windings takes w [] = refl
inside_by_windings takes w (l ∷ lines) = inside_by_windings takes l.windings lines

pub inside_append : (takes : Windings → Bool) (inside : Bool) (xs ys : List ActiveLine)
    → inside_after takes inside (xs ++ ys) ≡ inside_after takes (inside_after takes inside xs) ys
inside_append takes inside [] ys = refl
inside_append takes inside (l ∷ xs) ys = inside_append takes (takes l.windings) xs ys

some_by : (b : Bool) (l : ActiveLine) → is_some (if b then Some l else None) ≡ b
some_by true l = refl
some_by false l = refl

-- a run is open after lines exactly where the windings right of them are taken
pub open_inside : (takes : Windings → Bool) (opening : Option ActiveLine) (xs : List ActiveLine)
    → is_some (open_after takes opening xs) ≡ inside_after takes (is_some opening) xs
open_inside takes opening [] = refl
open_inside takes None (l ∷ xs) =
    open_inside takes (if takes l.windings then Some l else None) xs ∙ ap (λ (b : Bool). inside_after takes b xs) (some_by (takes l.windings) l)
open_inside takes (Some o) (l ∷ xs) =
    open_inside takes (if takes l.windings then Some o else None) xs ∙ ap (λ (b : Bool). inside_after takes b xs) (some_by (takes l.windings) o)

-- ---- runs along the lines

-- the run that begins at a line, with its right line
abbrev pub run_up_to : ActiveLine → Line → Run
run_up_to o right = record { left = o.line; right = right; a = o.windings.a; b = o.windings.b }

-- where a run ends at one of the lines, no other line decides where
pub end_same : (takes : Windings → Bool) (k l : Line) (lines : List ActiveLine) → inside_after takes true lines ≡ false
    → end_of takes k lines ≡ end_of takes l lines
end_same takes k l [] h = absurd (let clash : ⊥ = cc in clash)
end_same takes k l (m ∷ lines) h = refl

begins_at : (b : Bool) (takes : Windings → Bool) (l : ActiveLine) (lines : List ActiveLine)
    → (if b then run_from takes l lines ∷ runs_of takes true lines else runs_of takes false lines) ≡ runs_from takes (if b then Some l else None) lines
begins_at true takes l lines = refl
begins_at false takes l lines = refl

module _ (takes : Windings → Bool) (o l : ActiveLine) (xs ys : List ActiveLine) where
  goes_along : (b : Bool) → inside_after takes b (xs ++ ys) ≡ false
      → (inside_after takes true (xs ++ ys) ≡ false
      → run_from takes o (xs ++ ys) ∷ runs_of takes true (xs ++ ys) ≡ ended_runs takes (Some o) xs ++ runs_from takes (open_after takes (Some o) xs) ys)
      → (inside_after takes false (xs ++ ys) ≡ false
      → runs_of takes false (xs ++ ys) ≡ ended_runs takes None xs ++ runs_from takes (open_after takes None xs) ys)
      → run_up_to o (if b then end_of takes l.line (xs ++ ys) else l.line) ∷ runs_of takes b (xs ++ ys)
      ≡ (if b then ended_runs takes (Some o) xs else run_up_to o l.line ∷ ended_runs takes None xs)
      ++ runs_from takes (open_after takes (if b then Some o else None) xs) ys
  goes_along true h on out =
      ap (λ (line : Line). run_up_to o line ∷ runs_of takes true (xs ++ ys)) (end_same takes l.line o.line (xs ++ ys) h) ∙ on h
  goes_along false h on out = ap (λ (rs : List Run). run_up_to o l.line ∷ rs) (out h)

pub runs_along : (takes : Windings → Bool) (opening : Option ActiveLine) (xs ys : List ActiveLine) → inside_after takes (is_some opening) (xs ++ ys) ≡ false
    → runs_from takes opening (xs ++ ys) ≡ ended_runs takes opening xs ++ runs_from takes (open_after takes opening xs) ys
runs_along takes opening [] ys h = refl
runs_along takes None (l ∷ xs) ys h =
    begins_at (takes l.windings) takes l (xs ++ ys)
    ∙ runs_along takes (if takes l.windings then Some l else None) xs ys
    (ap (λ (b : Bool). inside_after takes b (xs ++ ys)) (some_by (takes l.windings) l) ∙ h)
runs_along takes (Some o) (l ∷ xs) ys h =
    goes_along takes o l xs ys (takes l.windings) h (λ e. runs_along takes (Some o) xs ys e) (λ e. runs_along takes None xs ys e)

-- all runs of lines right of which nothing is taken have ended
pub all_ended : (takes : Windings → Bool) (lines : List ActiveLine) → inside_after takes false lines ≡ false
    → runs_of takes false lines ≡ ended_runs takes None lines
all_ended takes lines h =
    let along = runs_along takes None lines [] (ap (λ (xs : List ActiveLine). inside_after takes false xs) (whole lines) ∙ h) in
    sym (ap (λ (xs : List ActiveLine). runs_of takes false xs) (whole lines))
    ∙ (along ∙ (ap (λ (rs : List Run). ended_runs takes None lines ++ rs) (none_open (open_after takes None lines) (open_inside takes None lines ∙ h))
    ∙ all_of (ended_runs takes None lines)))
  where
    whole : (xs : List ActiveLine) → xs ++ [] ≡ xs
    whole [] = refl
    whole (l ∷ xs) = ap (λ (ys : List ActiveLine). l ∷ ys) (whole xs)

    all_of : (rs : List Run) → rs ++ [] ≡ rs
    all_of [] = refl
    all_of (r ∷ rs) = ap (λ (ss : List Run). r ∷ ss) (all_of rs)

    none_open : (opening : Option ActiveLine) → is_some opening ≡ false → runs_from takes opening [] ≡ []
    none_open None e = refl
    none_open (Some o) e = absurd (let clash : ⊥ = cc in clash)

ended_by : (b : Bool) (takes : Windings → Bool) (o l : ActiveLine) (xs ys : List ActiveLine)
    → ended_runs takes (Some o) (xs ++ ys) ≡ ended_runs takes (Some o) xs ++ ended_runs takes (open_after takes (Some o) xs) ys
    → ended_runs takes None (xs ++ ys) ≡ ended_runs takes None xs ++ ended_runs takes (open_after takes None xs) ys
    → (if b then ended_runs takes (Some o) (xs ++ ys) else run_up_to o l.line ∷ ended_runs takes None (xs ++ ys))
    ≡ (if b then ended_runs takes (Some o) xs else run_up_to o l.line ∷ ended_runs takes None xs)
    ++ ended_runs takes (open_after takes (if b then Some o else None) xs) ys
ended_by true takes o l xs ys on out = on
ended_by false takes o l xs ys on out = ap (λ (rs : List Run). run_up_to o l.line ∷ rs) out

pub ended_append : (takes : Windings → Bool) (opening : Option ActiveLine) (xs ys : List ActiveLine)
    → ended_runs takes opening (xs ++ ys) ≡ ended_runs takes opening xs ++ ended_runs takes (open_after takes opening xs) ys
ended_append takes opening [] ys = refl
ended_append takes None (l ∷ xs) ys = ended_append takes (if takes l.windings then Some l else None) xs ys
ended_append takes (Some o) (l ∷ xs) ys =
    ended_by (takes l.windings) takes o l xs ys (ended_append takes (Some o) xs ys) (ended_append takes None xs ys)

pub open_append : (takes : Windings → Bool) (opening : Option ActiveLine) (xs ys : List ActiveLine)
    → open_after takes opening (xs ++ ys) ≡ open_after takes (open_after takes opening xs) ys
open_append takes opening [] ys = refl
open_append takes None (l ∷ xs) ys = open_append takes (if takes l.windings then Some l else None) xs ys
open_append takes (Some o) (l ∷ xs) ys = open_append takes (if takes l.windings then Some o else None) xs ys

-- ---- the line at which the open run began

abbrev pub IsTakenAt : (Windings → Bool) → ActiveLine → Type 0
IsTakenAt takes l = takes l.windings ≡ true

-- the line is one of these, and from it on the windings are taken
pub record IsOpenAmong (takes : Windings → Bool) (xs : List ActiveLine) (o : ActiveLine) : Type 0 where
  pub left : List ActiveLine
  pub right : List ActiveLine
  pub split : xs ≡ left ++ (o ∷ right)
  pub taken : All (IsTakenAt takes) (o ∷ right)

one_more : (takes : Windings → Bool) (l : ActiveLine) (xs : List ActiveLine) (o : ActiveLine) → IsOpenAmong takes xs o → IsOpenAmong takes (l ∷ xs) o
one_more takes l xs o h = record { left = l ∷ h.left; right = h.right; split = ap (λ (ys : List ActiveLine). l ∷ ys) h.split; taken = h.taken }

-- the run that was open before the lines is the one after them, or that one began at one of them
abbrev pub IsOpenFrom : (Windings → Bool) → Option ActiveLine → List ActiveLine → ActiveLine → Type 0
IsOpenFrom takes None xs o = IsOpenAmong takes xs o
IsOpenFrom takes (Some p) xs o = ((p ≡ o) × All (IsTakenAt takes) xs) ⊎ IsOpenAmong takes xs o

begun : (b : Bool) (takes : Windings → Bool) (l : ActiveLine) (xs : List ActiveLine) (o : ActiveLine) → takes l.windings ≡ b
    → IsOpenFrom takes (if b then Some l else None) xs o → IsOpenAmong takes (l ∷ xs) o
begun true takes l xs o e (inl h) = record {
  left = [];
  right = xs;
  split = ap (λ (k : ActiveLine). k ∷ xs) h.0;
  taken = All-cons (IsTakenAt takes) o xs (subst (IsTakenAt takes) h.0 e) h.1;
}
begun true takes l xs o e (inr h) = one_more takes l xs o h
begun false takes l xs o e h = one_more takes l xs o h

kept_on : (b : Bool) (takes : Windings → Bool) (p l : ActiveLine) (xs : List ActiveLine) (o : ActiveLine) → takes l.windings ≡ b
    → IsOpenFrom takes (if b then Some p else None) xs o → IsOpenFrom takes (Some p) (l ∷ xs) o
kept_on true takes p l xs o e (inl h) = inl (h.0, All-cons (IsTakenAt takes) l xs e h.1)
kept_on true takes p l xs o e (inr h) = inr (one_more takes l xs o h)
kept_on false takes p l xs o e h = inr (one_more takes l xs o h)

pub open_from : (takes : Windings → Bool) (opening : Option ActiveLine) (xs : List ActiveLine) (o : ActiveLine) → open_after takes opening xs ≡ Some o
    → IsOpenFrom takes opening xs o
open_from takes None [] o h = absurd (let clash : ⊥ = cc in clash)
open_from takes (Some p) [] o h = let same : p ≡ o = cc in inl (same, All-nil (IsTakenAt takes))
open_from takes None (l ∷ xs) o h =
    begun (takes l.windings) takes l xs o refl (open_from takes (if takes l.windings then Some l else None) xs o h)
open_from takes (Some p) (l ∷ xs) o h =
    kept_on (takes l.windings) takes p l xs o refl (open_from takes (if takes l.windings then Some p else None) xs o h)

pub open_among : (takes : Windings → Bool) (xs : List ActiveLine) (o : ActiveLine) → open_after takes None xs ≡ Some o → IsOpenAmong takes xs o
open_among takes xs o h = open_from takes None xs o h

pub open_member : (takes : Windings → Bool) (xs : List ActiveLine) (o : ActiveLine) → IsOpenAmong takes xs o → Contains xs o
open_member takes xs o h =
    subst (λ (ys : List ActiveLine). Contains ys o) (sym h.split)
    (Contains-append_right h.left (o ∷ h.right) o (Contains-append_left (o ∷ []) h.right o (Contains-push [] o)))
