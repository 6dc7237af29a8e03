-- A row has one row list.
use Rattle.std.proofs.Common.{ℤ, pos, ◌≡◌, ◌≢◌, ◌-ℤ◌, ◌<ℤ◌, Bool, true, false, List, [], ◌∷◌, arith, refl, ap, sym, subst, ◌∙◌}
use Rattle.std.specs.Ordering.{int_eq}
use Rattle.std.proofs.lemmas.Int.{ints, by_lt_z}
use Rattle.std.proofs.lemmas.List.Elements.{All-cons, All-weaker}
use Rattle.half_grid.specs.Edges.{EdgeParts}
use Rattle.half_grid.specs.Rows.{place}
use Rattle.half_grid.specs.declared.border.Operand.{Operand}
use Rattle.half_grid.specs.declared.border.Operand.TheVariants.{A, B}
use Rattle.half_grid.proofs.ForCallers.{one_line, int_eq_same, int_eq_true}
use Rattle.active_lines.specs.declared.item.ActiveLine.{ActiveLine}
use Rattle.active_lines.specs.declared.item.Windings.{Windings}
use Rattle.row_lists.specs.RowLists.{IsRowList, AscendIn, ChangeAtEach, AreAlike, no_windings, winding_of, change_at}
use Rattle.row_lists.proofs.Alike.{StandRight, no_change}

pub same_windings : (w v : Windings) → w.a ≡ v.a → w.b ≡ v.b → w ≡ v
same_windings w v a b =
    ap (λ (x : ℤ). let r : Windings = record { a = x; b = w.b } in r) a
    ∙ ap (λ (x : ℤ). let r : Windings = record { a = v.a; b = x } in r) b

change_here : (o : Operand) (j : ℤ) (w : Windings) (l : ActiveLine) (lines : List ActiveLine)
    → change_at o j (place l.line j) w (l ∷ lines) ≡ winding_of o l.windings -ℤ winding_of o w
change_here o j w l lines = let same = int_eq_same (place l.line j) (place l.line j) refl in rw same refl

equal_by : (x y : ℤ) → x -ℤ y ≡ pos 0 → x ≡ y
equal_by x y h = omega (arith, ints, h)

-- a line at which nothing changes is none
unchanged : (j : ℤ) (w : Windings) (l : ActiveLine) (lines : List ActiveLine) → l.windings ≢ w → ((o : Operand)
    → change_at o j (place l.line j) w (l ∷ lines) ≡ pos 0) → ⊥
unchanged j w l lines differ none =
    let a = equal_by _ _ (sym (change_here A j w l lines) ∙ none A) in
    let b = equal_by _ _ (sym (change_here B j w l lines) ∙ none B) in
    differ (same_windings l.windings w a b)

right_of : (j : ℤ) (l m : ActiveLine) (ms : List ActiveLine) → place l.line j <ℤ place m.line j → AscendIn j (m ∷ ms) → StandRight j (place l.line j) (m ∷ ms)
right_of j l m ms lt h =
    All-cons (λ x. place l.line j <ℤ place x.line j) m ms lt
    (All-weaker (λ x. place m.line j <ℤ place x.line j) (λ x. place l.line j <ℤ place x.line j) (λ x q. omega (arith, ints, lt, q)) ms h.0)

same_start : (x y w v : ℤ) → x -ℤ w ≡ y -ℤ v → w ≡ v → x ≡ y
same_start x y w v h k = omega (arith, ints, h, k)

tail_by : (b : Bool) (o : Operand) (j n : ℤ) (w : Windings) (l m : ActiveLine) (ls ms : List ActiveLine) → int_eq (place l.line j) n ≡ b
    → place l.line j ≡ place m.line j
    → AscendIn j (l ∷ ls) → AscendIn j (m ∷ ms) → change_at o j n w (l ∷ ls) ≡ change_at o j n w (m ∷ ms)
    → change_at o j n l.windings ls ≡ change_at o j n m.windings ms
tail_by true o j n w l m ls ms b e h k same =
    let at : place l.line j ≡ n = int_eq_true (place l.line j) n b in
    let left : StandRight j n ls = All-weaker (λ x. place l.line j <ℤ place x.line j) (λ x. n <ℤ place x.line j) (λ x q. omega (arith, ints, at, q)) ls h.0 in
    let right : StandRight j n ms = All-weaker (λ x. place m.line j <ℤ place x.line j) (λ x. n <ℤ place x.line j) (λ x q. omega
    (arith, ints, at, e, q)) ms k.0 in
    no_change o j n l.windings ls left ∙ sym (no_change o j n m.windings ms right)
tail_by false o j n w l m ls ms b e h k same =
    let c : int_eq (place m.line j) n ≡ false = ap (λ (x : ℤ). int_eq x n) (sym e) ∙ b in
    rw (b, c) at same

heads_alike : (j : ℤ) (w : Windings) (l m : ActiveLine) (ls ms : List ActiveLine) → AscendIn j (l ∷ ls) → AscendIn j (m ∷ ms) → ChangeAtEach w (m ∷ ms)
    → ((o : Operand) (n : ℤ) → change_at o j n w (l ∷ ls) ≡ change_at o j n w (m ∷ ms)) → place l.line j ≡ place m.line j
    → (ChangeAtEach l.windings ms → ((o : Operand) (n : ℤ) → change_at o j n l.windings ls ≡ change_at o j n l.windings ms) → AreAlike ls ms)
    → AreAlike (l ∷ ls) (m ∷ ms)
heads_alike j w l m ls ms h k d same e rest =
    let each : (o : Operand) → winding_of o l.windings ≡ winding_of o m.windings
    = λ o. same_start _ _ _ _ (sym (change_here o j w l ls) ∙ (same o (place l.line j) ∙ (ap (λ (n : ℤ). change_at o j n w (m ∷ ms)) e
    ∙ change_here o j w m ms))) refl in
    let v = same_windings l.windings m.windings (each A) (each B) in
    let later : (o : Operand) (n : ℤ) → change_at o j n l.windings ls ≡ change_at o j n l.windings ms
    = λ o n. tail_by _ o j n w l m ls ms refl e h k (same o n) ∙ ap (λ (x : Windings). change_at o j n x ms) (sym v) in
    (one_line l.line m.line j e, v, rest (subst (λ (x : Windings). ChangeAtEach x ms) (sym v) d.1) later)

one_list : (j : ℤ) (w : Windings) (ls ms : List ActiveLine) → AscendIn j ls → AscendIn j ms → ChangeAtEach w ls → ChangeAtEach w ms
    → ((o : Operand) (n : ℤ) → change_at o j n w ls ≡ change_at o j n w ms) → AreAlike ls ms
one_list j w [] [] h k c d same = tt
one_list j w [] (m ∷ ms) h k c d same = unchanged j w m ms d.0 (λ o. sym (same o (place m.line j)))
one_list j w (l ∷ ls) [] h k c d same = unchanged j w l ls c.0 (λ o. same o (place l.line j))
one_list j w (l ∷ ls) (m ∷ ms) h k c d same =
    by_lt_z (place l.line j) (place m.line j)
    (λ lt. absurd (unchanged j w l ls c.0 (λ o. same o (place l.line j) ∙ no_change o j (place l.line j) w (m ∷ ms) (right_of j l m ms lt k))))
    (λ le. by_lt_z (place m.line j) (place l.line j)
    (λ lt. absurd (unchanged j w m ms d.0 (λ o. sym (same o (place m.line j)) ∙ no_change o j (place m.line j) w (l ∷ ls) (right_of j m l ls lt h))))
    (λ ge. heads_alike j w l m ls ms h k d same (omega (arith, ints, le, ge)) (λ change later. one_list j l.windings ls ms h.1 k.1 c.1 change later)))

pub one_row_list : (edges : List EdgeParts) (j : ℤ) (ls ms : List ActiveLine) → IsRowList edges j ls → IsRowList edges j ms → AreAlike ls ms
one_row_list edges j ls ms h k =
    one_list j no_windings ls ms h.ascend k.ascend h.change k.change (λ o n. h.weights o n ∙ sym (k.weights o n))
