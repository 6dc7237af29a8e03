-- One line further in what is read off lines from the left.
use Rattle.std.proofs.Common.{ℤ, ◌≡◌, Bool, true, false, List, [], ◌∷◌, ◌++◌, Option, Some, None, if◌then◌else◌, append_assoc, refl, ap, sym, ◌∙◌}
use Rattle.half_grid.specs.declared.plane.Line.{Line}
use Rattle.trap_join.specs.declared.front.Growing.{Growing}
use Rattle.active_lines.specs.declared.item.ActiveLine.{ActiveLine}
use Rattle.active_lines.specs.declared.item.Opened.{Opened}
use Rattle.active_lines.specs.declared.item.Windings.{Windings}
use Rattle.row_lists.specs.RowRuns.{end_of}
use Rattle.plane_sweep.specs.StopRuns.{ends_among, end_among, leaving_at, leaving_of, begins_at, opened_at, opened_among, opened_new}
use Rattle.plane_sweep.proofs.OpenedNew.{ends_at, ends_not}

module _ (test : Windings → Bool) (l : ActiveLine) (rest all : List ActiveLine) (split : all ≡ l ∷ rest) where
  pub end_more : (whole : Option Line) → test l.windings ≡ true → end_among test all ≡ whole → end_among test rest ≡ whole
  end_more whole taken before = there taken ∙ (ap (end_among test) (sym split) ∙ before)
    where
      there : test l.windings ≡ true → end_among test rest ≡ end_among test (l ∷ rest)
      there e = rw e refl

  pub end_here : (whole : Option Line) → test l.windings ≡ false → end_among test all ≡ whole → Some l.line ≡ whole
  end_here whole taken before = there taken ∙ (ap (end_among test) (sym split) ∙ before)
    where
      there : test l.windings ≡ false → Some l.line ≡ end_among test (l ∷ rest)
      there e = rw e refl

  pub leaving_more : (found next whole : Option Growing) (r : Bool) → r ≡ test l.windings → next ≡ (if r then leaving_at l l.opened found else None)
      → leaving_of test found all ≡ whole
      → leaving_of test next rest ≡ whole
  leaving_more found next whole r is step before =
      ap (λ (o : Option Growing). leaving_of test o rest) (step ∙ ap (λ (b : Bool). if b then leaving_at l l.opened found else None) is)
      ∙ (ap (leaving_of test found) (sym split) ∙ before)

  pub begins_more : (inside : Bool) (found next whole : Option ActiveLine) (r : Bool) → r ≡ test l.windings
      → next ≡ (if r then (if inside then found else Some l) else None)
      → begins_at test inside found all ≡ whole → begins_at test r next rest ≡ whole
  begins_more inside found next whole r is step before =
      ap (λ (b : Bool). begins_at test b next rest) is
      ∙ (ap (λ (o : Option ActiveLine). begins_at test (test l.windings) o rest)
      (step ∙ ap (λ (b : Bool). if b then (if inside then found else Some l) else None) is)
      ∙ (ap (begins_at test inside found) (sym split) ∙ before))

  pub opened_more : (inside r : Bool) (y : ℤ) (kept : Option Opened) (before after whole : List ActiveLine) (m : ActiveLine) → r ≡ test l.windings
      → opened_new test inside y kept (l ∷ rest) ≡ m ∷ opened_new test (test l.windings) y kept rest → after ≡ before ++ m ∷ []
      → before ++ opened_new test inside y kept all ≡ whole
      → after ++ opened_new test r y kept rest ≡ whole
  opened_more inside r y kept before after whole m is step put so_far =
      ap (λ (b : Bool). after ++ opened_new test b y kept rest) is
      ∙ (ap (λ (us : List ActiveLine). us ++ opened_new test (test l.windings) y kept rest) put
      ∙ (append_assoc before (m ∷ []) (opened_new test (test l.windings) y kept rest)
      ∙ (ap (λ (us : List ActiveLine). before ++ us) (sym step)
      ∙ (ap (λ (us : List ActiveLine). before ++ opened_new test inside y kept us) (sym split) ∙ so_far))))

-- ---- what is open at one line

pub among_ends : (test : Windings → Bool) (y : ℤ) (kept : Option Opened) (line right : Line) (others : List ActiveLine) → end_among test others ≡ Some right
    → (let o : Opened = record { right = right; since = y } in o) ≡ opened_among test y kept line others
among_ends test y kept line right others found =
    let e = ends_at test others right found in
    chosen e.ends (e.to line)
  where
    chosen : ends_among test others ≡ true → end_of test line others ≡ right
        → (let o : Opened = record { right = right; since = y } in o) ≡ opened_among test y kept line others
    chosen e same = rw (e, same) refl

pub among_not : (test : Windings → Bool) (y : ℤ) (kept : Option Opened) (line : Line) (others : List ActiveLine) → end_among test others ≡ None
    → opened_at y kept line ≡ opened_among test y kept line others
among_not test y kept line others none = chosen (ends_not test others none)
  where
    chosen : ends_among test others ≡ false → opened_at y kept line ≡ opened_among test y kept line others
    chosen e = rw e refl

pub among_kept : (test : Windings → Bool) (y : ℤ) (kept : Option Opened) (line : Line) (others : List ActiveLine) (o : Opened)
    → end_among test others ≡ None → kept ≡ Some o
    → o ≡ opened_among test y kept line others
among_kept test y kept line others o none is = ap (λ (k : Option Opened). opened_at y k line) (sym is) ∙ among_not test y kept line others none

pub among_fresh : (test : Windings → Bool) (y : ℤ) (kept : Option Opened) (line : Line) (others : List ActiveLine) → end_among test others ≡ None → kept ≡ None
    → (let o : Opened = record { right = line; since = y } in o) ≡ opened_among test y kept line others
among_fresh test y kept line others none is = ap (λ (k : Option Opened). opened_at y k line) (sym is) ∙ among_not test y kept line others none
