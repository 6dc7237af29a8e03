-- Lists with the same lines and windings have the same runs, whatever is open at the lines; and a list with one line reopened.
use Rattle.std.proofs.Common.{if◌then◌else◌, ◌≡◌, Bool, true, false, List, [], ◌∷◌, ◌++◌, Option, Some, None, All, refl, ap, sym, subst, ◌∙◌}
use Rattle.std.proofs.lemmas.List.Elements.{All-head, All-tail}
use Rattle.half_grid.specs.declared.plane.Line.{Line}
use Rattle.scan_line.specs.declared.runs.Run.{Run}
use Rattle.trap_join.specs.declared.front.Growing.{Growing}
use Rattle.active_lines.specs.ActiveLists.{IsShut, IsReopened, reopened}
use Rattle.active_lines.specs.declared.item.ActiveLine.{ActiveLine}
use Rattle.active_lines.specs.declared.item.Opened.{Opened}
use Rattle.active_lines.specs.declared.item.Windings.{Windings}
use Rattle.row_lists.specs.RowLists.{AreAlike}
use Rattle.row_lists.specs.RowRuns.{last_windings}
use Rattle.plane_sweep.specs.StopRuns.{growing_of, growing_by, ended_runs, open_after}
use Rattle.plane_sweep.specs.States.{IsOpenAt}
use Rattle.plane_sweep.proofs.Openings.{growing_append}
use Rattle.plane_sweep.proofs.RunsAlong.{run_up_to}

-- ---- alike lists

-- the same line with the same windings, or none
abbrev pub SameOpen : Option ActiveLine → Option ActiveLine → Type 0
SameOpen None None = Unit {0}
SameOpen None (Some m) = ⊥
SameOpen (Some l) None = ⊥
SameOpen (Some l) (Some m) = (l.line ≡ m.line) × (l.windings ≡ m.windings)

pub alike_self : (lines : List ActiveLine) → AreAlike lines lines
alike_self [] = tt
alike_self (l ∷ lines) = (refl, refl, alike_self lines)

pub alike_append : (ks ls ms ns : List ActiveLine) → AreAlike ks ms → AreAlike ls ns → AreAlike (ks ++ ls) (ms ++ ns)
alike_append [] ls [] ns h k = k
alike_append [] ls (m ∷ ms) ns h k = absurd h
alike_append (l ∷ ks) ls [] ns h k = absurd h
alike_append (l ∷ ks) ls (m ∷ ms) ns h k = (h.0, h.1, alike_append ks ls ms ns h.2 k)

pub alike_trans : (ks ls ms : List ActiveLine) → AreAlike ks ls → AreAlike ls ms → AreAlike ks ms
alike_trans [] [] [] h k = tt
alike_trans [] [] (m ∷ ms) h k = absurd k
alike_trans [] (l ∷ ls) ms h k = absurd h
alike_trans (x ∷ ks) [] ms h k = absurd h
alike_trans (x ∷ ks) (l ∷ ls) [] h k = absurd k
alike_trans (x ∷ ks) (l ∷ ls) (m ∷ ms) h k = (h.0 ∙ k.0, h.1 ∙ k.1, alike_trans ks ls ms h.2 k.2)

pub alike_back : (ks ls : List ActiveLine) → AreAlike ks ls → AreAlike ls ks
alike_back [] [] h = tt
alike_back [] (l ∷ ls) h = absurd h
alike_back (x ∷ ks) [] h = absurd h
alike_back (x ∷ ks) (l ∷ ls) h = (sym h.0, sym h.1, alike_back ks ls h.2)

pub alike_last : (w : Windings) (ls ms : List ActiveLine) → AreAlike ls ms → last_windings w ls ≡ last_windings w ms
alike_last w [] [] h = refl
alike_last w [] (m ∷ ms) h = absurd h
alike_last w (l ∷ ls) [] h = absurd h
alike_last w (l ∷ ls) (m ∷ ms) h = ap (λ (v : Windings). last_windings v ls) h.1 ∙ alike_last m.windings ls ms h.2

same_run : (a b l m : ActiveLine) → a.line ≡ b.line → a.windings ≡ b.windings → l.line ≡ m.line → run_up_to a l.line ≡ run_up_to b m.line
same_run a b l m e f h =
    ap (λ (line : Line). let r : Run = record { left = line; right = l.line; a = a.windings.a; b = a.windings.b } in r) e
    ∙ (ap (λ (w : Windings). let r : Run = record { left = b.line; right = l.line; a = w.a; b = w.b } in r) f
    ∙ ap (λ (line : Line). run_up_to b line) h)

module _ (takes : Windings → Bool) where
  choose : (b : Bool) (l m : ActiveLine) → l.line ≡ m.line → l.windings ≡ m.windings → SameOpen (if b then Some l else None) (if b then Some m else None)
  choose true l m e f = (e, f)
  choose false l m e f = tt

  chosen : (l m : ActiveLine) → l.line ≡ m.line → l.windings ≡ m.windings → SameOpen (if takes l.windings then Some l else None)
      (if takes m.windings then Some m else None)
  chosen l m e f =
      subst (λ (b : Bool). SameOpen (if takes l.windings then Some l else None) (if b then Some m else None)) (ap takes f) (choose (takes l.windings) l m e f)

  ended_by : (b : Bool) (p q l m : ActiveLine) (ls ms : List ActiveLine) → takes l.windings ≡ b → takes m.windings ≡ b → SameOpen (Some p) (Some q)
      → l.line ≡ m.line
      → ended_runs takes (Some p) ls ≡ ended_runs takes (Some q) ms → ended_runs takes None ls ≡ ended_runs takes None ms
      → ended_runs takes (Some p) (l ∷ ls) ≡ ended_runs takes (Some q) (m ∷ ms)
  ended_by true p q l m ls ms e f same line on out = rw (e, f) on
  ended_by false p q l m ls ms e f same line on out =
      rw (e, f) (ap (λ (r : Run). r ∷ ended_runs takes None ls) (same_run p q l m same.0 same.1 line) ∙ ap (λ (rs : List Run). run_up_to q m.line ∷ rs) out)

  pub alike_ended : (p q : Option ActiveLine) (ls ms : List ActiveLine) → SameOpen p q → AreAlike ls ms → ended_runs takes p ls ≡ ended_runs takes q ms
  alike_ended p q [] [] same h = refl
  alike_ended p q [] (m ∷ ms) same h = absurd h
  alike_ended p q (l ∷ ls) [] same h = absurd h
  alike_ended None None (l ∷ ls) (m ∷ ms) same h =
      alike_ended (if takes l.windings then Some l else None) (if takes m.windings then Some m else None) ls ms (chosen l m h.0 h.1) h.2
  alike_ended None (Some q) (l ∷ ls) (m ∷ ms) same h = absurd same
  alike_ended (Some p) None (l ∷ ls) (m ∷ ms) same h = absurd same
  alike_ended (Some p) (Some q) (l ∷ ls) (m ∷ ms) same h =
      ended_by _ p q l m ls ms (ap takes h.1) refl same h.0 (alike_ended (Some p) (Some q) ls ms same h.2) (alike_ended None None ls ms tt h.2)

  open_by : (b : Bool) (p q l m : ActiveLine) → takes l.windings ≡ b → takes m.windings ≡ b → SameOpen (Some p) (Some q)
      → SameOpen (if takes l.windings then Some p else None) (if takes m.windings then Some q else None)
  open_by true p q l m e f same = rw (e, f) same
  open_by false p q l m e f same = rw (e, f) tt

  pub alike_open : (p q : Option ActiveLine) (ls ms : List ActiveLine) → SameOpen p q → AreAlike ls ms
      → SameOpen (open_after takes p ls) (open_after takes q ms)
  alike_open p q [] [] same h = same
  alike_open p q [] (m ∷ ms) same h = absurd h
  alike_open p q (l ∷ ls) [] same h = absurd h
  alike_open None None (l ∷ ls) (m ∷ ms) same h =
      alike_open (if takes l.windings then Some l else None) (if takes m.windings then Some m else None) ls ms (chosen l m h.0 h.1) h.2
  alike_open None (Some q) (l ∷ ls) (m ∷ ms) same h = absurd same
  alike_open (Some p) None (l ∷ ls) (m ∷ ms) same h = absurd same
  alike_open (Some p) (Some q) (l ∷ ls) (m ∷ ms) same h =
      alike_open (if takes l.windings then Some p else None) (if takes m.windings then Some q else None) ls ms (open_by _ p q l m (ap takes h.1) refl same) h.2

pub open_moved : (g : Option Growing) (p q : Option ActiveLine) → SameOpen p q → IsOpenAt g p → IsOpenAt g q
open_moved None None None same at = tt
open_moved None None (Some m) same at = absurd same
open_moved None (Some l) q same at = absurd at
open_moved (Some g) None q same at = absurd at
open_moved (Some g) (Some l) None same at = absurd same
open_moved (Some g) (Some l) (Some m) same at = at ∙ same.0

-- ---- a list with a line reopened

pub last_same : (us vs : List Growing) (g h : Growing) → us ++ g ∷ [] ≡ vs ++ h ∷ [] → (us ≡ vs) × (g ≡ h)
last_same [] [] g h e = (let same : g ≡ h = cc in (refl, same))
last_same [] (v ∷ []) g h e = absurd (let clash : ⊥ = cc in clash)
last_same [] (v ∷ w ∷ vs) g h e = absurd (let clash : ⊥ = cc in clash)
last_same (u ∷ []) [] g h e = absurd (let clash : ⊥ = cc in clash)
last_same (u ∷ w ∷ us) [] g h e = absurd (let clash : ⊥ = cc in clash)
last_same (u ∷ us) (v ∷ vs) g h e =
    let first : u ≡ v = cc in
    let rest : us ++ g ∷ [] ≡ vs ++ h ∷ [] = cc in
    let k = last_same us vs g h rest in
    (ap (λ (w : Growing). w ∷ us) first ∙ ap (λ (ws : List Growing). v ∷ ws) k.0, k.1)

shut_growing : (lines : List ActiveLine) → All IsShut lines → growing_of lines ≡ []
shut_growing [] h = refl
shut_growing (l ∷ lines) h =
    ap (λ (o : Option Opened). growing_by l.line o (growing_of lines)) (All-head IsShut l lines h) ∙ shut_growing lines (All-tail IsShut l lines h)

-- what is open at the line
record IsSomeOpen (l : ActiveLine) : Type 0 where
  o : Opened
  is : l.opened ≡ Some o

some_open_by : (o : Option Opened) (l : ActiveLine) → l.opened ≡ o → (IsShut l → ⊥) → IsSomeOpen l
some_open_by None l e h = absurd (h e)
some_open_by (Some o) l e h = record { o = o; is = e }

reopened_alike : (o : Opened) (left right : List ActiveLine) (l : ActiveLine) → AreAlike (left ++ l ∷ right) (left ++ reopened o l ∷ right)
reopened_alike o [] right l = (refl, refl, alike_self right)
reopened_alike o (k ∷ left) right l = (refl, refl, reopened_alike o left right l)

pub reopen_alike : (o : Opened) (lines new : List ActiveLine) (l : ActiveLine) → IsReopened o lines l new → AreAlike lines new
reopen_alike o lines new l h =
    subst (λ (ks : List ActiveLine). AreAlike ks new) (sym h.split)
    (subst (λ (ms : List ActiveLine). AreAlike (h.left ++ l ∷ h.right) ms) (sym h.new_is) (reopened_alike o h.left h.right l))

-- the last trapezoid that grows was at the line, and is now another one
pub record IsLastReopened (o : Opened) (fresh : List Growing) (g : Growing) (l : ActiveLine) (new : List ActiveLine) : Type 0 where
  pub at : l.line ≡ g.left
  pub was : l.opened ≡ Some (let k : Opened = record { right = g.right; since = g.y0 } in k)
  pub now : growing_of new ≡ fresh ++ (let k : Growing = record { y0 = o.since; left = g.left; right = o.right } in k) ∷ []

opened_was : (o : Opened) (line : Line) (g : Growing) → (let h : Growing = record { y0 = o.since; left = line; right = o.right } in h) ≡ g
    → o ≡ (let k : Opened = record { right = g.right; since = g.y0 } in k)
opened_was o line g e = ap (λ (h : Growing). let k : Opened = record { right = h.right; since = h.y0 } in k) e

pub reopen_last : (o : Opened) (lines new : List ActiveLine) (l : ActiveLine) (fresh : List Growing) (g : Growing) → IsReopened o lines l new
    → growing_of lines ≡ fresh ++ g ∷ []
    → IsLastReopened o fresh g l new
reopen_last o lines new l fresh g h e =
    let some = some_open_by l.opened l refl h.was_open in
    let w : Growing = record { y0 = some.o.since; left = l.line; right = some.o.right } in
    let none = shut_growing h.right h.last in
    let before : growing_of lines ≡ growing_of h.left ++ w ∷ []
    = ap growing_of h.split ∙ (growing_append h.left (l ∷ h.right)
    ∙ (ap (λ (k : Option Opened). growing_of h.left ++ growing_by l.line k (growing_of h.right)) some.is
    ∙ ap (λ (us : List Growing). growing_of h.left ++ w ∷ us) none)) in
    let same = last_same (growing_of h.left) fresh w g (sym before ∙ e) in
    let line : l.line ≡ g.left = ap (λ (k : Growing). k.left) same.1 in
    record {
      at = line;
      was = some.is ∙ ap (λ (k : Opened). Some k) (opened_was some.o l.line g same.1);
      now = ap growing_of h.new_is ∙ (growing_append h.left (reopened o l ∷ h.right)
          ∙ (ap (λ (us : List Growing). growing_of h.left ++ (let k : Growing = record { y0 = o.since; left = l.line; right = o.right } in k) ∷ us) none
          ∙ (ap (λ (us : List Growing). us ++ (let k : Growing = record { y0 = o.since; left = l.line; right = o.right } in k) ∷ []) same.0
          ∙ ap (λ (k : Line). fresh ++ (let u : Growing = record { y0 = o.since; left = k; right = o.right } in u) ∷ []) line)));
    }
