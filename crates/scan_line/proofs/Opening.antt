-- The list of runs while its last one may be open.
use Rattle.std.proofs.Common.{ℕ, ◌≡◌, ◌+◌, ◌-◌, Bool, true, false, List, [], ◌∷◌, ◌++◌, Option, Some, None, arith, refl, ap, subst, sym, ◌∙◌, length}
use Rattle.std.proofs.Math.ListN.{set, get_or}
use Rattle.std.proofs.Math.Seq.{set-append_seam, get_or-append_seam}
use Rattle.std.proofs.lemmas.List.{append-nil, length-append}
use Rattle.half_grid.specs.declared.plane.Line.{Line}
use Rattle.scan_line.specs.OpenRuns.{IsOpen, run_between, ended_at, open_after, ends_at}
use Rattle.scan_line.specs.declared.runs.Run.{Run}
use Rattle.scan_line.specs.declared.sums.Windings.{Windings}

apart : true ≡ false → ⊥
apart h = let none : ⊥ = cc in none

-- nothing turns: none is open and none begins
pub stays_closed : (runs done : List Run) (inside taken : Bool) (run : Option Run) (line : Line) (w : Windings)
    → taken ≡ false → inside ≡ false → IsOpen runs inside done run → IsOpen runs taken (done ++ ends_at line run taken)
    (open_after line w run taken)
stays_closed runs done inside true run line w off shut i = absurd (apart off)
stays_closed runs done true false run line w off shut i = absurd (apart shut)
stays_closed runs done false false None line w off shut i =
    record { whole = subst (λ (l : List Run). runs ≡ l ++ []) (sym (append-nil done)) i.whole; is = refl }
stays_closed runs done false false (Some run) line w off shut i = absurd (apart (sym i.is))

-- or the open one goes on
pub stays_open : (runs done : List Run) (inside taken : Bool) (run : Option Run) (line : Line) (w : Windings)
    → taken ≡ true → inside ≡ true → IsOpen runs inside done run → IsOpen runs taken (done ++ ends_at line run taken)
    (open_after line w run taken)
stays_open runs done inside false run line w on in_run i = absurd (apart (sym on))
stays_open runs done false true run line w on in_run i = absurd (apart (sym in_run))
stays_open runs done true true None line w on in_run i = absurd (apart i.is)
stays_open runs done true true (Some run) line w on in_run i =
    record { whole = subst (λ (l : List Run). runs ≡ l ++ run ∷ []) (sym (append-nil done)) i.whole; is = refl }

-- one begins
pub begins : (runs now done : List Run) (inside taken : Bool) (run : Option Run) (line : Line) (w : Windings)
    → taken ≡ true → inside ≡ false → now ≡ runs ++ run_between line line w ∷ [] → IsOpen runs inside done run
    → IsOpen now taken (done ++ ends_at line run taken) (open_after line w run taken)
begins runs now done inside false run line w same other is i = absurd (apart (sym same))
begins runs now done true true run line w same other is i = absurd (apart other)
begins runs now done false true (Some run) line w same other is i = absurd (apart (sym i.is))
begins runs now done false true None line w same other is i =
    let whole : runs ≡ done = i.whole ∙ append-nil done in
    record { whole = is ∙ (ap (λ (l : List Run). l ++ run_between line line w ∷ []) (whole ∙ sym (append-nil done))); is = refl }

-- the open one ends
pub ends : (runs now done : List Run) (inside taken : Bool) (run : Option Run) (line : Line) (w : Windings) → taken ≡ false → inside ≡ true
    → ((all : List Run) (last : Run) → runs ≡ all ++ last ∷ [] → now ≡ all ++ ended_at line last ∷ [])
    → IsOpen runs inside done run → IsOpen now taken (done ++ ends_at line run taken) (open_after line w run taken)
ends runs now done inside true run line w same other is i = absurd (apart same)
ends runs now done false false run line w same other is i = absurd (apart (sym other))
ends runs now done true false None line w same other is i = absurd (apart i.is)
ends runs now done true false (Some run) line w same other is i =
    record { whole = is done run i.whole ∙ sym (append-nil (done ++ ended_at line run ∷ [])); is = refl }

-- the last run of a list, ended in its place
pub ends_in_place : (runs : List Run) (now : Run) (line : Line) (n : ℕ) → n ≡ length runs
    → now ≡ get_or runs (n - 1) now → (done : List Run) (run : Run) → runs ≡ done ++ run ∷ []
    → set runs (n - 1) (ended_at line now) ≡ done ++ ended_at line run ∷ []
ends_in_place runs now line n len at done run is =
    let one : length runs ≡ length done + 1 = ap length is ∙ length-append done (run ∷ []) in
    let last : n - 1 ≡ length done = omega (arith, len, one) in
    let same : now ≡ run = rw (last, is) at at ∙ get_or-append_seam done run [] now in
    rw (last, is, same) (set-append_seam done run [] (ended_at line run))
