-- The pass over the edges of a row that fills in its runs, in all rows at once.
use Rattle.std.proofs.Common.{ℕ, ℤ, pos, neg_ℤ, ◌≡◌, ◌+◌, ◌≤◌, ◌<◌, ◌^◌, ◌+ℤ◌, ◌≤ℤ◌, ◌<ℤ◌, Bool, true, false, IsTrue}
use Rattle.std.proofs.Common.{List, [], ◌∷◌, ◌++◌, All, Option, Some, None, cond, arith, refl, ap, subst, sym, ◌∙◌}
use Rattle.std.proofs.Common.{length}
use Rattle.std.specs.Prelude.{◌↔◌, IfSome}
use Rattle.std.specs.List.{Contains}
use Rattle.std.proofs.lemmas.Int.{ints}
use Rattle.std.proofs.lemmas.List.{append-nil, length-append}
use Rattle.std.proofs.lemmas.List.Elements.{All-head, All-tail, All-nil, All-push, All-contains_itself}
use Rattle.half_grid.specs.Edges.{EdgeParts, is_of}
use Rattle.half_grid.specs.declared.plane.Line.{Line}
use Rattle.half_grid.specs.declared.border.Operand.{Operand}
use Rattle.half_grid.specs.declared.border.Operand.TheVariants.{A, B}
use Rattle.scan_line.specs.Actives.{AreInOrder}
use Rattle.scan_line.specs.OpenRuns.{IsOpen, ended_at, open_after, ends_at}
use Rattle.scan_line.specs.Rules.{IsRule, Takes}
use Rattle.scan_line.specs.Runs.{AreRuns}
use Rattle.scan_line.specs.Windings.{HasNext, adds, BeginsOn, IsEven, IsLineOf, HasLinesOf}
use Rattle.scan_line.specs.declared.runs.Run.{Run}
use Rattle.scan_line.specs.declared.sums.Windings.{Windings}
use Rattle.scan_line.proofs.RuleLemmas.{takes_no_nothing}
use Rattle.scan_line.proofs.RowWindings.{total, total_even}
use Rattle.scan_line.proofs.RowRuns.{SoFar, so_far_none, so_far_same_line, so_far_last, runs_of_row}

-- both sums and what is left come to 0, and the sums are small
pub record AreSums (w : Windings) (left : List EdgeParts) : Type 0 where
  pub all_a : w.a +ℤ total A left ≡ pos 0
  pub all_b : w.b +ℤ total B left ≡ pos 0
  pub low_a : pos (length left) ≤ℤ (w.a +ℤ pos (2 ^ 63))
  pub high_a : (w.a +ℤ pos (length left)) <ℤ pos (2 ^ 63)
  pub low_b : pos (length left) ≤ℤ (w.b +ℤ pos (2 ^ 63))
  pub high_b : (w.b +ℤ pos (length left)) <ℤ pos (2 ^ 63)

-- no run is open past all edges
abbrev pub EndsClosed : List EdgeParts → Option Run → Type 0
EndsClosed [] begun = begun ≡ None
EndsClosed (e ∷ left) begun = Unit {0}

-- what the pass keeps
pub record Filled (post : ℤ → ℤ → Bool → Type 0) (edges left : List EdgeParts) (w : Windings) (begun : Option Run) (runs : List Run) (most : ℕ) : Type 0 where
  pub rows : (j : ℤ) → AreInOrder j edges → SoFar post edges j left w begun runs
  pub sums : AreSums w left
  pub ends : EndsClosed left begun
  pub fits : length runs + length left ≤ most
  pub among : All (Contains edges) left
  pub lines : All (HasLinesOf edges) runs
  pub line : IfSome begun (λ run. IsLineOf edges run.left)

ends_none : (edges : List EdgeParts) → EndsClosed edges None
ends_none [] = refl
ends_none (e ∷ edges) = tt

pub filled_none : (pre : ℤ → ℤ → Type 0) (post : ℤ → ℤ → Bool → Type 0) (edges : List EdgeParts) (w : Windings)
    (runs : List Run) (most : ℕ) → IsRule pre post → ((o : Operand) → IsEven edges o) → length edges < 2 ^ 63
    → length edges ≤ most → w.a ≡ pos 0 → w.b ≡ pos 0 → runs ≡ []
    → Filled post edges edges w None runs most
filled_none pre post edges w runs most rule even short fits a b none = subst (λ (rs : List Run). Filled post edges edges w None rs most) (sym none) (record {
  rows = λ j ordered. so_far_none pre post edges j w rule ordered a b;
  sums = record {
    all_a = omega (arith, ints, a, total_even A edges (even A));
    all_b = omega (arith, ints, b, total_even B edges (even B));
    low_a = omega (arith, ints, a, short);
    high_a = omega (arith, ints, a, short);
    low_b = omega (arith, ints, b, short);
    high_b = omega (arith, ints, b, short);
  };
  ends = ends_none edges;
  fits = omega (arith, fits);
  among = All-contains_itself edges;
  lines = All-nil (HasLinesOf edges);
  line = tt;
})

small_step : (b up : Bool) → (neg_ℤ (pos 1) ≤ℤ cond b (cond up (pos 1) (neg_ℤ (pos 1))) (pos 0)) × (cond b (cond up (pos 1) (neg_ℤ (pos 1))) (pos 0) ≤ℤ pos 1)
small_step true true = (omega (arith, ints), omega (arith, ints))
small_step true false = (omega (arith, ints), omega (arith, ints))
small_step false up = (omega (arith, ints), omega (arith, ints))

adds_small : (o : Operand) (e : EdgeParts) → (neg_ℤ (pos 1) ≤ℤ adds o e) × (adds o e ≤ℤ pos 1)
adds_small o e = small_step (is_of o e.operand) e.up

low_past : (x y s : ℤ) (n : ℕ) → y ≡ x +ℤ s → neg_ℤ (pos 1) ≤ℤ s → pos (n + 1) ≤ℤ (x +ℤ pos (2 ^ 63)) → pos n ≤ℤ (y +ℤ pos (2 ^ 63))
low_past x y s n e h k = omega (arith, ints, e, h, k)

high_past : (x y s : ℤ) (n : ℕ) → y ≡ x +ℤ s → s ≤ℤ pos 1 → (x +ℤ pos (n + 1)) <ℤ pos (2 ^ 63) → (y +ℤ pos n) <ℤ pos (2 ^ 63)
high_past x y s n e h k = omega (arith, ints, e, h, k)

one_more : (e : EdgeParts) (rest : List EdgeParts) → length (e ∷ rest) ≡ length rest + 1
one_more e rest = omega arith

-- the sums past one more edge
pub sums_past : (w now : Windings) (e : EdgeParts) (rest : List EdgeParts) → AreSums w (e ∷ rest)
    → now.a ≡ w.a +ℤ adds A e → now.b ≡ w.b +ℤ adds B e → AreSums now rest
sums_past w now e rest i a b =
    let one = one_more e rest in
    let all_a = i.all_a in
    let all_b = i.all_b in
    record {
      all_a = omega (arith, ints, a, all_a);
      all_b = omega (arith, ints, b, all_b);
      low_a = low_past w.a now.a (adds A e) (length rest) a (adds_small A e).0 (subst (λ (n : ℕ). pos n ≤ℤ (w.a +ℤ pos (2 ^ 63))) one i.low_a);
      high_a = high_past w.a now.a (adds A e) (length rest) a (adds_small A e).1 (subst (λ (n : ℕ). (w.a +ℤ pos n) <ℤ pos (2 ^ 63)) one i.high_a);
      low_b = low_past w.b now.b (adds B e) (length rest) b (adds_small B e).0 (subst (λ (n : ℕ). pos n ≤ℤ (w.b +ℤ pos (2 ^ 63))) one i.low_b);
      high_b = high_past w.b now.b (adds B e) (length rest) b (adds_small B e).1 (subst (λ (n : ℕ). (w.b +ℤ pos n) <ℤ pos (2 ^ 63)) one i.high_b);
    }

-- what one more edge asks of them
pub record BothNext (w : Windings) : Type 0 where
  pub a : HasNext w.a
  pub b : HasNext w.b

next_of : (x : ℤ) (n : ℕ) → pos (n + 1) ≤ℤ (x +ℤ pos (2 ^ 63)) → (x +ℤ pos (n + 1)) <ℤ pos (2 ^ 63) → HasNext x
next_of x n low high = record { below = omega (arith, ints, low, high); above = omega (arith, ints, low, high) }

next_both : (w : Windings) (e : EdgeParts) (rest : List EdgeParts) → AreSums w (e ∷ rest) → BothNext w
next_both w e rest i =
    let one = one_more e rest in
    record {
      a = next_of w.a (length rest) (subst (λ (n : ℕ). pos n ≤ℤ (w.a +ℤ pos (2 ^ 63))) one i.low_a)
          (subst (λ (n : ℕ). (w.a +ℤ pos n) <ℤ pos (2 ^ 63)) one i.high_a);
      b = next_of w.b (length rest) (subst (λ (n : ℕ). pos n ≤ℤ (w.b +ℤ pos (2 ^ 63))) one i.low_b)
          (subst (λ (n : ℕ). (w.b +ℤ pos n) <ℤ pos (2 ^ 63)) one i.high_b);
    }

pub sums_next : (w : Windings) (left : List EdgeParts) (e : EdgeParts) (rest : List EdgeParts) → AreSums w left → left ≡ e ∷ rest → BothNext w
sums_next w left e rest i same = next_both w e rest (subst (AreSums w) same i)

ends_same_line : (e : EdgeParts) (rest : List EdgeParts) (begun : Option Run) → BeginsOn e.line rest → EndsClosed rest begun
ends_same_line e [] begun on = absurd on
ends_same_line e (f ∷ rest) begun on = tt

-- one more edge, whose line the next one shares
pub filled_same_line : (post : ℤ → ℤ → Bool → Type 0) (edges left : List EdgeParts) (e : EdgeParts)
    (rest : List EdgeParts) (w now : Windings) (begun : Option Run) (runs : List Run) (most : ℕ)
    → Filled post edges left w begun runs most → left ≡ e ∷ rest → now.a ≡ w.a +ℤ adds A e → now.b ≡ w.b +ℤ adds B e
    → BeginsOn e.line rest → Filled post edges rest now begun runs most
filled_same_line post edges left e rest w now begun runs most before same a b on =
    let i : Filled post edges (e ∷ rest) w begun runs most = subst (λ (l : List EdgeParts). Filled post edges l w begun runs most) same before in
    let fits = i.fits in
    record {
      rows = λ j ordered. so_far_same_line post edges j e rest w now begun runs (i.rows j ordered) a b on;
      sums = sums_past w now e rest i.sums a b;
      ends = ends_same_line e rest begun on;
      fits = omega (arith, fits);
      among = All-tail (Contains edges) e rest i.among;
      lines = i.lines;
      line = i.line;
    }

line_here : (edges : List EdgeParts) (e : EdgeParts) → Contains edges e → IsLineOf edges e.line
line_here edges e h = record { edge = e; has = h; is = refl }

line_after : (edges : List EdgeParts) (e : EdgeParts) (w : Windings) (begun : Option Run) (answer : Bool)
    → Contains edges e → IfSome begun (λ run. IsLineOf edges run.left)
    → IfSome (open_after e.line w begun answer) (λ run. IsLineOf edges run.left)
line_after edges e w None true h k = line_here edges e h
line_after edges e w None false h k = tt
line_after edges e w (Some run) true h k = k
line_after edges e w (Some run) false h k = tt

lines_after : (edges : List EdgeParts) (e : EdgeParts) (begun : Option Run) (answer : Bool) (runs : List Run)
    → Contains edges e → IfSome begun (λ run. IsLineOf edges run.left) → All (HasLinesOf edges) runs
    → All (HasLinesOf edges) (runs ++ ends_at e.line begun answer)
lines_after edges e None answer runs h k all = subst (All (HasLinesOf edges)) (sym (append-nil runs)) all
lines_after edges e (Some run) true runs h k all = subst (All (HasLinesOf edges)) (sym (append-nil runs)) all
lines_after edges e (Some run) false runs h k all = All-push (HasLinesOf edges) runs (ended_at e.line run) all
    (record { left = k; right = line_here edges e h })

few_end : (line : Line) (begun : Option Run) (answer : Bool) → length (ends_at line begun answer) ≤ 1
few_end line None answer = omega arith
few_end line (Some run) true = omega arith
few_end line (Some run) false = omega arith

-- past the last edge both windings are 0, and so no run goes on
nothing_left : (pre : ℤ → ℤ → Type 0) (post : ℤ → ℤ → Bool → Type 0) (w : Windings) (begun : Option Run) (line : Line)
    (answer : Bool) → IsRule pre post → w.a ≡ pos 0 → w.b ≡ pos 0 → IsTrue answer ↔ Takes post w.a w.b
    → open_after line w begun answer ≡ None
nothing_left pre post w begun line true rule a b says = absurd (takes_no_nothing pre post rule (let t = says.0 refl in (rw (a, b) at t)))
nothing_left pre post w None line false rule a b says = refl
nothing_left pre post w (Some run) line false rule a b says = refl

ends_last : (pre : ℤ → ℤ → Type 0) (post : ℤ → ℤ → Bool → Type 0) (w : Windings) (begun : Option Run) (line : Line)
    (answer : Bool) (rest : List EdgeParts) → IsRule pre post → AreSums w rest → IsTrue answer ↔ Takes post w.a w.b
    → EndsClosed rest (open_after line w begun answer)
ends_last pre post w begun line answer [] rule sums says =
    let a = sums.all_a in
    let b = sums.all_b in
    nothing_left pre post w begun line answer rule (omega (arith, ints, a)) (omega (arith, ints, b)) says
ends_last pre post w begun line answer (e ∷ rest) rule sums says = tt

-- one more edge, the last of its line
pub filled_last : (pre : ℤ → ℤ → Type 0) (post : ℤ → ℤ → Bool → Type 0) (edges left : List EdgeParts) (e : EdgeParts)
    (rest : List EdgeParts) (w now : Windings) (begun after : Option Run) (answer : Bool) (runs now_runs : List Run)
    (most : ℕ)
    → IsRule pre post → Filled post edges left w begun runs most → left ≡ e ∷ rest → now.a ≡ w.a +ℤ adds A e
    → now.b ≡ w.b +ℤ adds B e → (BeginsOn e.line rest → ⊥)
    → IsTrue answer ↔ Takes post now.a now.b → after ≡ open_after e.line now begun answer
    → now_runs ≡ runs ++ ends_at e.line begun answer → Filled post edges rest now after now_runs most
filled_last pre post edges left e rest w now begun after answer runs now_runs most rule before same a b last says is_after is_runs =
    let i : Filled post edges (e ∷ rest) w begun runs most = subst (λ (l : List EdgeParts). Filled post edges l w begun runs most) same before in
    let has = All-head (Contains edges) e rest i.among in
    let fits = i.fits in
    let few = few_end e.line begun answer in
    let len = length-append runs (ends_at e.line begun answer) in
    let sums = sums_past w now e rest i.sums a b in
    rw (is_after, is_runs) (record {
      rows = λ j ordered. so_far_last post edges j e rest w now runs a b last begun answer says (i.rows j ordered);
      sums = sums;
      ends = ends_last pre post now begun e.line answer rest rule sums says;
      fits = omega (arith, fits, few, len);
      among = All-tail (Contains edges) e rest i.among;
      lines = lines_after edges e begun answer runs has i.line i.lines;
      line = line_after edges e now begun answer has i.line;
    })

nil_of : (left : List EdgeParts) → length left ≡ 0 → left ≡ []
nil_of [] h = refl
nil_of (e ∷ left) h = absurd (omega (arith, h))

-- past all edges
pub filled_rows : (post : ℤ → ℤ → Bool → Type 0) (edges left : List EdgeParts) (w : Windings) (begun : Option Run)
    (runs : List Run) (most : ℕ) → Filled post edges left w begun runs most → length left ≡ 0 → (j : ℤ)
    → AreInOrder j edges → AreRuns post edges j runs
filled_rows post edges left w begun runs most i h j ordered =
    let none = nil_of left h in
    let closed : EndsClosed [] begun = subst (λ (l : List EdgeParts). EndsClosed l begun) none i.ends in
    runs_of_row post edges left j w begun runs (i.rows j ordered) none closed

pub filled_room : (post : ℤ → ℤ → Bool → Type 0) (edges left : List EdgeParts) (w : Windings) (begun : Option Run)
    (runs : List Run) (most now : ℕ) → now ≡ most → Filled post edges left w begun runs most
    → Filled post edges left w begun runs now
filled_room post edges left w begun runs most now e i = subst (λ (n : ℕ). Filled post edges left w begun runs n) (sym e) i

-- the test whether the next edge shares the line, by the edge itself
pub on_line : (line own : Line) (rest : List EdgeParts) → line ≡ own → BeginsOn line rest → BeginsOn own rest
on_line line own rest e h = subst (λ (l : Line). BeginsOn l rest) e h

pub not_both : (b : Bool) → b ≡ false → b ≡ true → ⊥
not_both b h k = let none : ⊥ = cc in none

-- the same, where an open run is the last of the list
pub record Filling (post : ℤ → ℤ → Bool → Type 0) (edges left : List EdgeParts) (w : Windings) (inside : Bool) (runs : List Run) (most : ℕ) : Type 0 where
  pub done : List Run
  pub begun : Option Run
  pub is_open : IsOpen runs inside done begun
  pub filled : Filled post edges left w begun done most

pub filling_none : (pre : ℤ → ℤ → Type 0) (post : ℤ → ℤ → Bool → Type 0) (edges : List EdgeParts) (w : Windings)
    (runs : List Run) (most : ℕ) → IsRule pre post → ((o : Operand) → IsEven edges o) → length edges < 2 ^ 63
    → length edges ≤ most → w.a ≡ pos 0 → w.b ≡ pos 0 → runs ≡ []
    → Filling post edges edges w false runs most
filling_none pre post edges w runs most rule even short fits a b none = record {
  done = [];
  begun = None;
  is_open = record { whole = none; is = refl };
  filled = filled_none pre post edges w [] most rule even short fits a b refl;
}

pub filling_same_line : (post : ℤ → ℤ → Bool → Type 0) (edges left : List EdgeParts) (e : EdgeParts)
    (rest : List EdgeParts) (w now : Windings) (inside : Bool) (runs : List Run) (most : ℕ)
    → Filling post edges left w inside runs most → left ≡ e ∷ rest → now.a ≡ w.a +ℤ adds A e → now.b ≡ w.b +ℤ adds B e
    → BeginsOn e.line rest → Filling post edges rest now inside runs most
filling_same_line post edges left e rest w now inside runs most i same a b on = record {
  done = i.done;
  begun = i.begun;
  is_open = i.is_open;
  filled = filled_same_line post edges left e rest w now i.begun i.done most i.filled same a b on;
}

-- what a turn makes of the list
abbrev pub Turns : List Run → List Run → Bool → Line → Windings → Bool → Type 0
Turns runs now inside line w taken = (done : List Run) (run : Option Run) → IsOpen runs inside done run
    → IsOpen now taken (done ++ ends_at line run taken) (open_after line w run taken)

pub filling_last : (pre : ℤ → ℤ → Type 0) (post : ℤ → ℤ → Bool → Type 0) (edges left : List EdgeParts) (e : EdgeParts)
    (rest : List EdgeParts) (w now : Windings) (inside taken : Bool) (runs now_runs : List Run) (most now_most : ℕ)
    → now_most ≡ most → IsRule pre post → Filling post edges left w inside runs most → left ≡ e ∷ rest
    → now.a ≡ w.a +ℤ adds A e → now.b ≡ w.b +ℤ adds B e → (BeginsOn e.line rest → ⊥)
    → IsTrue taken ↔ Takes post now.a now.b → Turns runs now_runs inside e.line now taken → Filling post edges rest now taken now_runs now_most
filling_last pre post edges left e rest w now inside taken runs now_runs most now_most room rule i same a b last says turns = record {
  done = i.done ++ ends_at e.line i.begun taken;
  begun = open_after e.line now i.begun taken;
  is_open = turns i.done i.begun i.is_open;
  filled = filled_room post edges rest now (open_after e.line now i.begun taken) (i.done ++ ends_at e.line i.begun taken) most now_most room
      (filled_last pre post edges left e rest w now i.begun (open_after e.line now i.begun taken) taken i.done
      (i.done ++ ends_at e.line i.begun taken) most rule i.filled same a b last says refl refl);
}

-- where none is open there is room for one
closed_list : (done runs : List Run) (begun : Option Run) → IsOpen runs false done begun → runs ≡ done
closed_list done runs None i = i.whole ∙ append-nil done
closed_list done runs (Some run) i = absurd (not_both false refl i.is)

pub room_for_one : (post : ℤ → ℤ → Bool → Type 0) (edges left : List EdgeParts) (e : EdgeParts) (rest : List EdgeParts)
    (w : Windings) (inside : Bool) (runs : List Run) (most : ℕ) → Filling post edges left w inside runs most
    → left ≡ e ∷ rest → inside ≡ false → length runs < most
room_for_one post edges left e rest w inside runs most i same closed =
    let fits = i.filled.fits in
    let shut : IsOpen runs false i.done i.begun = subst (λ (b : Bool). IsOpen runs b i.done i.begun) closed i.is_open in
    let all = closed_list i.done runs i.begun shut in
    let more : length left ≡ length rest + 1 = ap length same ∙ one_more e rest in
    omega (arith, fits, more, ap length all)

-- past all edges none is open
all_done : (edges left : List EdgeParts) (begun : Option Run) (done runs : List Run) (inside : Bool)
    → EndsClosed left begun → left ≡ [] → IsOpen runs inside done begun → runs ≡ done
all_done edges [] None done runs inside closed none i = i.whole ∙ append-nil done
all_done edges [] (Some run) done runs inside closed none i = let no : ⊥ = cc in absurd no
all_done edges (e ∷ left) begun done runs inside closed none i = let no : ⊥ = cc in absurd no

pub filling_done : (post : ℤ → ℤ → Bool → Type 0) (edges left : List EdgeParts) (w : Windings) (inside : Bool)
    (runs : List Run) (most : ℕ) → (i : Filling post edges left w inside runs most) → length left ≡ 0 → runs ≡ i.done
filling_done post edges left w inside runs most i h = all_done edges left i.begun i.done runs inside i.filled.ends (nil_of left h) i.is_open

pub filling_rows : (post : ℤ → ℤ → Bool → Type 0) (edges left : List EdgeParts) (w : Windings) (inside : Bool)
    (runs : List Run) (most : ℕ) → Filling post edges left w inside runs most → length left ≡ 0 → (j : ℤ)
    → AreInOrder j edges → AreRuns post edges j runs
filling_rows post edges left w inside runs most i h j ordered =
    subst (AreRuns post edges j) (sym (filling_done post edges left w inside runs most i h))
    (filled_rows post edges left w i.begun i.done most i.filled h j ordered)

pub filling_lines : (post : ℤ → ℤ → Bool → Type 0) (edges left : List EdgeParts) (w : Windings) (inside : Bool)
    (runs : List Run) (most : ℕ) → Filling post edges left w inside runs most → length left ≡ 0
    → All (HasLinesOf edges) runs
filling_lines post edges left w inside runs most i h = subst (All (HasLinesOf edges)) (sym (filling_done post edges left w inside runs most i h)) i.filled.lines
