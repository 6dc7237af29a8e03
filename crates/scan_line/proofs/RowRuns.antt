-- The runs of a row, from its edges from left to right.
use Rattle.std.proofs.Common.{ℤ, pos, ◌≡◌, ◌+ℤ◌, ◌≤ℤ◌, ◌<ℤ◌, ◌⊎◌, Bool, true, false, IsTrue, List, [], ◌∷◌, ◌++◌, All}
use Rattle.std.proofs.Common.{Option, Some, None, arith, refl, inl, inr, ap, subst, sym}
use Rattle.std.specs.Prelude.{◌↔◌, Any, IfSome}
use Rattle.std.specs.List.{Contains}
use Rattle.std.proofs.lemmas.Int.{ints, by_lt_z}
use Rattle.std.proofs.lemmas.List.{append-nil}
use Rattle.std.proofs.lemmas.List.Elements.{All-head, All-tail, All-cons, All-nil, All-push, All-weaker, All-contains}
use Rattle.std.proofs.lemmas.List.Elements.{Contains-append_left, Contains-push, Contains-push_cases}
use Rattle.half_grid.specs.Edges.{EdgeParts, edges_winding}
use Rattle.half_grid.specs.Rows.{number_in_row, place}
use Rattle.half_grid.specs.declared.plane.Tile.{Tile}
use Rattle.half_grid.specs.declared.plane.Line.{Line}
use Rattle.half_grid.specs.declared.border.Operand.{Operand}
use Rattle.half_grid.specs.declared.border.Operand.TheVariants.{A, B}
use Rattle.half_grid.proofs.ForCallers.{places_differ}
use Rattle.scan_line.specs.Actives.{SpansRow, AreInOrder}
use Rattle.scan_line.specs.OpenRuns.{run_between, ended_at, open_after, ends_at}
use Rattle.scan_line.specs.Rules.{IsRule, Takes}
use Rattle.scan_line.specs.Runs.{RunHas, StandApart, HoldsWindings, IsTaken, AreRuns}
use Rattle.scan_line.specs.Windings.{adds, winding_of, BeginsOn}
use Rattle.scan_line.specs.declared.runs.Run.{Run}
use Rattle.scan_line.specs.declared.sums.Windings.{Windings}
use Rattle.scan_line.proofs.RuleLemmas.{takes_no_nothing}
use Rattle.scan_line.proofs.RowWindings.{part_right, winding_cons, winding_left}

-- all these edges stand further right than the tile's number, or than a place
abbrev pub StandRight : ℤ → ℤ → List EdgeParts → Type 0
StandRight j n edges = All (λ e. n <ℤ place e.line j) edges

-- the tile is right of the first of these edges
abbrev pub ReachesFirst : Tile → List EdgeParts → Type 0
ReachesFirst t [] = ⊥
ReachesFirst t (e ∷ edges) = place e.line t.j ≤ℤ number_in_row t

-- the tile is right of the left line of the open run
abbrev pub IsInOpen : Tile → Option Run → Type 0
IsInOpen t None = ⊥
IsInOpen t (Some run) = place run.left t.j ≤ℤ number_in_row t

pub record OpenRun (edges : List EdgeParts) (j : ℤ) (left : List EdgeParts) (runs : List Run) (run : Run) : Type 0 where
  pub before : StandRight j (place run.left j) left
  pub after : All (λ r. place r.right j <ℤ place run.left j) runs
  pub held : HoldsWindings edges j run

-- What is known of a row after some of its edges: `left` are the others, and the runs are right at the tiles that
-- none of them has on its right.
pub record SoFar (post : ℤ → ℤ → Bool → Type 0) (edges : List EdgeParts) (j : ℤ) (left : List EdgeParts) (w : Windings)
    (begun : Option Run) (runs : List Run) : Type 0 where
  pub ordered : AreInOrder j left
  pub winding : (t : Tile) → t.j ≡ j → ReachesFirst t left → (o : Operand) → edges_winding o edges t ≡ winding_of o w +ℤ edges_winding o left t
  pub taken : (t : Tile) → t.j ≡ j → StandRight j (number_in_row t) left → IsTaken post edges t ↔ (Any (RunHas t) runs ⊎ IsInOpen t begun)
  pub apart : StandApart j runs
  pub below : All (λ r. StandRight j (place r.right j) left) runs
  pub held : All (HoldsWindings edges j) runs
  pub opened : IfSome begun (OpenRun edges j left runs)

none_has : (t : Tile) → Any (RunHas t) [] → ⊥
none_has t h = absurd (omega (arith, h.2))

left_of_all : (post : ℤ → ℤ → Bool → Type 0) (edges : List EdgeParts) (t : Tile) → (Takes post (pos 0) (pos 0) → ⊥)
    → All (λ e. number_in_row t <ℤ place e.line t.j) edges → IsTaken post edges t → ⊥
left_of_all post edges t leaves h taken =
    let a = winding_left A edges t h in
    let b = winding_left B edges t h in
    leaves (rw (a, b) at taken)

at_row : (t : Tile) (j : ℤ) (edges : List EdgeParts) → t.j ≡ j → StandRight j (number_in_row t) edges → All (λ e. number_in_row t <ℤ place e.line t.j) edges
at_row t j edges e h = rw e h

-- before the first edge
pub so_far_none : (pre : ℤ → ℤ → Type 0) (post : ℤ → ℤ → Bool → Type 0) (edges : List EdgeParts) (j : ℤ) (w : Windings)
    → IsRule pre post → AreInOrder j edges → w.a ≡ pos 0 → w.b ≡ pos 0 → SoFar post edges j edges w None []
so_far_none pre post edges j w rule ordered a b = record {
  ordered = ordered;
  winding = λ t e h. zero_first w edges t a b;
  taken = λ t e h. (λ taken. absurd (left_of_all post edges t (takes_no_nothing pre post rule) (at_row t j edges e h) taken), λ k. nothing t k);
  apart = tt;
  below = All-nil (λ r. StandRight j (place r.right j) edges);
  held = All-nil (HoldsWindings edges j);
  opened = tt;
}
  where
    zero_first : (w : Windings) (edges : List EdgeParts) (t : Tile) → w.a ≡ pos 0 → w.b ≡ pos 0 → (o : Operand)
        → edges_winding o edges t ≡ winding_of o w +ℤ edges_winding o edges t
    zero_first w edges t a b A = omega (arith, ints, a)
    zero_first w edges t a b B = omega (arith, ints, b)

    nothing : (t : Tile) → Any (RunHas t) [] ⊎ ⊥ → IsTaken post edges t
    nothing t (inl h) = absurd (none_has t h)
    nothing t (inr h) = absurd h

any_of : {X : Type 0} (P : X → Type 0) (xs : List X) (x : X) → Contains xs x → P x → Any P xs
any_of P xs x h p = (h.0, x, h.1, h.2, p)

has_of : {X : Type 0} (P : X → Type 0) (xs : List X) (h : Any P xs) → Contains xs h.1
has_of P xs h = (h.0, h.2, h.3)

pub any_left : {X : Type 0} (P : X → Type 0) (xs ys : List X) → Any P xs → Any P (xs ++ ys)
any_left P xs ys h = any_of P (xs ++ ys) h.1 (Contains-append_left xs ys h.1 (has_of P xs h)) h.4

any_last : {X : Type 0} (P : X → Type 0) (xs : List X) (y : X) → P y → Any P (xs ++ y ∷ [])
any_last P xs y p = any_of P (xs ++ y ∷ []) y (Contains-push xs y) p

last_cases : {X : Type 0} (P : X → Type 0) (xs : List X) (y x : X) → P x → Contains xs x ⊎ (y ≡ x) → Any P xs ⊎ P y
last_cases P xs y x p (inl h) = inl (any_of P xs x h p)
last_cases P xs y x p (inr e) = inr (subst P (sym e) p)

any_cases : {X : Type 0} (P : X → Type 0) (xs : List X) (y : X) → Any P (xs ++ y ∷ []) → Any P xs ⊎ P y
any_cases P xs y h = last_cases P xs y h.1 h.4 (Contains-push_cases xs y h.1 (has_of P (xs ++ y ∷ []) h))

-- none of the runs reaches as far as the tile
none_reaches : (t : Tile) (j : ℤ) (runs : List Run) (n : ℤ) → t.j ≡ j → All (λ r. place r.right j <ℤ n) runs → n ≤ℤ number_in_row t → Any (RunHas t) runs → ⊥
none_reaches t j runs n e h le any =
    let run = any.1 in
    let below : place run.right j <ℤ n = All-contains (λ r. place r.right j <ℤ n) runs run h (has_of (RunHas t) runs any) in
    let same : place run.right t.j ≡ place run.right j = ap (λ (y : ℤ). place run.right y) e in
    let has = any.4.below_right in
    absurd (omega (arith, ints, below, same, has, le))

sum_past : (o : Operand) (w now : Windings) (e : EdgeParts) → now.a ≡ w.a +ℤ adds A e → now.b ≡ w.b +ℤ adds B e → winding_of o now ≡ winding_of o w +ℤ adds o e
sum_past A w now e a b = a
sum_past B w now e a b = b

-- all that follow an edge that is the last of its line stand further right
pub stand_right_of : (j : ℤ) (e : EdgeParts) (rest : List EdgeParts) → AreInOrder j (e ∷ rest) → (BeginsOn e.line rest → ⊥) → StandRight j (place e.line j) rest
stand_right_of j e [] h last = All-nil (λ f. place e.line j <ℤ place f.line j)
stand_right_of j e (f ∷ rest) h last =
    let first : place e.line j ≤ℤ place f.line j = All-head (λ g. place e.line j ≤ℤ place g.line j) f rest h.ascending.0 in
    let differ = places_differ f.line e.line j last in
    let here : place e.line j <ℤ place f.line j = by_lt_z (place e.line j) (place f.line j) (λ k. k) (λ k. absurd (differ (omega (arith, ints, first, k)))) in
    let after = h.ascending.1.0 in
    All-cons (λ g. place e.line j <ℤ place g.line j) f rest here
    (All-weaker (λ g. place f.line j ≤ℤ place g.line j) (λ g. place e.line j <ℤ place g.line j) (λ g k. omega (arith, ints, here, k)) rest after)

pub order_tail : (j : ℤ) (e : EdgeParts) (rest : List EdgeParts) → AreInOrder j (e ∷ rest) → AreInOrder j rest
order_tail j e rest h = record { spanning = All-tail (SpansRow j) e rest h.spanning; ascending = h.ascending.1 }

-- what is right of the first of those that follow is right of the edge
reaches : (t : Tile) (e : EdgeParts) (rest : List EdgeParts) → AreInOrder t.j (e ∷ rest) → ReachesFirst t rest → place e.line t.j ≤ℤ number_in_row t
reaches t e [] h r = absurd r
reaches t e (f ∷ rest) h r =
    let first : place e.line t.j ≤ℤ place f.line t.j = All-head (λ g. place e.line t.j ≤ℤ place g.line t.j) f rest h.ascending.0 in
    omega (arith, ints, first, r)

-- the winding right of one more edge
winding_past : (post : ℤ → ℤ → Bool → Type 0) (edges : List EdgeParts) (j : ℤ) (e : EdgeParts) (rest : List EdgeParts)
    (w now : Windings) (begun : Option Run) (runs : List Run)
    → SoFar post edges j (e ∷ rest) w begun runs → now.a ≡ w.a +ℤ adds A e → now.b ≡ w.b +ℤ adds B e
    → (t : Tile) → t.j ≡ j → place e.line t.j ≤ℤ number_in_row t → (o : Operand) → edges_winding o edges t ≡ winding_of o now +ℤ edges_winding o rest t
winding_past post edges j e rest w now begun runs i a b t same h o =
    let spanning : SpansRow t.j e = subst (λ (y : ℤ). SpansRow y e) (sym same) (All-head (SpansRow j) e rest i.ordered.spanning) in
    let before = i.winding t same h o in
    let step = winding_cons o e rest t in
    let one = part_right o t e spanning h in
    let sum = sum_past o w now e a b in
    omega (arith, ints, before, step, one, sum)

same_place : (l m : Line) (j : ℤ) → l ≡ m → place l j ≡ place m j
same_place l m j e = ap (λ (x : Line). place x j) e

right_of_both : (j n : ℤ) (e : EdgeParts) (rest : List EdgeParts) → BeginsOn e.line rest → StandRight j n rest → StandRight j n (e ∷ rest)
right_of_both j n e [] on h = absurd on
right_of_both j n e (f ∷ rest) on h =
    let first = All-head (λ g. n <ℤ place g.line j) f rest h in
    let same = same_place f.line e.line j on in
    All-cons (λ g. n <ℤ place g.line j) e (f ∷ rest) (omega (arith, ints, first, same)) h

tails : (j : ℤ) (e : EdgeParts) (rest : List EdgeParts) (runs : List Run)
    → All (λ r. StandRight j (place r.right j) (e ∷ rest)) runs → All (λ r. StandRight j (place r.right j) rest) runs
tails j e rest runs h =
    All-weaker (λ r. StandRight j (place r.right j) (e ∷ rest)) (λ r. StandRight j (place r.right j) rest)
    (λ r k. All-tail (λ f. place r.right j <ℤ place f.line j) e rest k) runs h

opened_tail : (edges : List EdgeParts) (j : ℤ) (e : EdgeParts) (rest : List EdgeParts) (runs : List Run)
    (begun : Option Run) → IfSome begun (OpenRun edges j (e ∷ rest) runs) → IfSome begun (OpenRun edges j rest runs)
opened_tail edges j e rest runs None h = tt
opened_tail edges j e rest runs (Some run) h =
    record {
      before = All-tail (λ f. place run.left j <ℤ place f.line j) e rest h.before;
      after = h.after;
      held =
          h.held;
    }

-- One edge more, and the next one lies on its line.
pub so_far_same_line : (post : ℤ → ℤ → Bool → Type 0) (edges : List EdgeParts) (j : ℤ) (e : EdgeParts)
    (rest : List EdgeParts) (w now : Windings) (begun : Option Run) (runs : List Run)
    → SoFar post edges j (e ∷ rest) w begun runs → now.a ≡ w.a +ℤ adds A e → now.b ≡ w.b +ℤ adds B e
    → BeginsOn e.line rest → SoFar post edges j rest now begun runs
so_far_same_line post edges j e rest w now begun runs i a b on = record {
  ordered = order_tail j e rest i.ordered;
  winding = λ t same h o. winding_past post edges j e rest w now begun runs i a b t same
      (reaches t e rest (subst (λ (y : ℤ). AreInOrder y (e ∷ rest)) (sym same) i.ordered) h) o;
  taken = λ t same h. i.taken t same (right_of_both j (number_in_row t) e rest on h);
  apart = i.apart;
  below = tails j e rest runs i.below;
  held = i.held;
  opened = opened_tail edges j e rest runs begun i.opened;
}

apart_push : (j : ℤ) (runs : List Run) (run : Run) → StandApart j runs
    → All (λ r. place r.right j <ℤ place run.left j) runs → place run.left j <ℤ place run.right j
    → StandApart j (runs ++ run ∷ [])
apart_push j [] run h below legal = (legal, All-nil (λ next. place run.right j <ℤ place next.left j), tt)
apart_push j (r ∷ runs) run h below legal =
    let P : Run → Type 0 = λ s. place s.right j <ℤ place run.left j in (
      h.0,
      All-push (λ next. place r.right j <ℤ place next.left j) runs run h.1
          (All-head P r runs below),
      apart_push j runs run h.2 (All-tail P r runs below) legal,
    )

-- One edge more, and it is the last of its line.
module _ (post : ℤ → ℤ → Bool → Type 0) (edges : List EdgeParts) (j : ℤ) (e : EdgeParts) (rest : List EdgeParts) (w now : Windings) (runs : List Run)
    (a : now.a ≡ w.a +ℤ adds A e) (b : now.b ≡ w.b +ℤ adds B e) (last : BeginsOn e.line rest → ⊥) where
  abbrev Before : Option Run → Type 0
  Before begun = SoFar post edges j (e ∷ rest) w begun runs

  edge_at : (t : Tile) → t.j ≡ j → place e.line t.j ≡ place e.line j
  edge_at t same = ap (λ (y : ℤ). place e.line y) same

  here : (begun : Option Run) → Before begun → (t : Tile) → t.j ≡ j → StandRight j (number_in_row t) rest
      → place e.line j ≤ℤ number_in_row t → (o : Operand) → edges_winding o edges t ≡ winding_of o now
  here begun i t same h le o =
      let at = edge_at t same in
      let le_here : place e.line t.j ≤ℤ number_in_row t = omega (arith, ints, at, le) in
      let past = winding_past post edges j e rest w now begun runs i a b t same le_here o in
      let zero = winding_left o rest t (at_row t j rest same h) in
      omega (arith, ints, past, zero)

  takes_here : (begun : Option Run) → Before begun → (t : Tile) → t.j ≡ j → StandRight j (number_in_row t) rest
      → place e.line j ≤ℤ number_in_row t → IsTaken post edges t → Takes post now.a now.b
  takes_here begun i t same h le taken =
      let x = here begun i t same h le A in
      let y = here begun i t same h le B in
      rw (x, y) at taken

  taken_here : (begun : Option Run) → Before begun → (t : Tile) → t.j ≡ j → StandRight j (number_in_row t) rest
      → place e.line j ≤ℤ number_in_row t → Takes post now.a now.b → IsTaken post edges t
  taken_here begun i t same h le takes =
      let x = here begun i t same h le A in
      let y = here begun i t same h le B in
      rw (x, y) takes

  taken_left : (begun : Option Run) → Before begun → (t : Tile) → t.j ≡ j → StandRight j (number_in_row t) rest
      → number_in_row t <ℤ place e.line j → IsTaken post edges t ↔ (Any (RunHas t) runs ⊎ IsInOpen t begun)
  taken_left begun i t same h lt = i.taken t same (All-cons (λ f. number_in_row t <ℤ place f.line j) e rest lt h)

  ends_before : (begun : Option Run) → Before begun → All (λ r. place r.right j <ℤ place e.line j) runs
  ends_before begun i = All-weaker (λ r. StandRight j (place r.right j) (e ∷ rest))
      (λ r. place r.right j <ℤ place e.line j)
      (λ r k. All-head (λ f. place r.right j <ℤ place f.line j) e rest k) runs i.below

  none_here : (begun : Option Run) → Before begun → (t : Tile) → t.j ≡ j → place e.line j ≤ℤ number_in_row t → Any (RunHas t) runs → ⊥
  none_here begun i t same le = none_reaches t j runs (place e.line j) same (ends_before begun i) le

  winding_next : (begun : Option Run) → Before begun → (t : Tile) → t.j ≡ j → ReachesFirst t rest → (o : Operand)
      → edges_winding o edges t ≡ winding_of o now +ℤ edges_winding o rest t
  winding_next begun i t same h o = winding_past post edges j e rest w now begun runs i a b t same
      (reaches t e rest (subst (λ (y : ℤ). AreInOrder y (e ∷ rest)) (sym same) i.ordered) h) o

  rest_right : (begun : Option Run) → Before begun → StandRight j (place e.line j) rest
  rest_right begun i = stand_right_of j e rest i.ordered last

  held_here : (begun : Option Run) → Before begun → HoldsWindings edges j (run_between e.line e.line now)
  held_here begun i t same number =
      let right : StandRight j (number_in_row t) rest = rw number (rest_right begun i) in
      let le : place e.line j ≤ℤ number_in_row t = omega (arith, ints, number) in
      (sym (here begun i t same right le A), sym (here begun i t same right le B))

  stays_out : Before None → (Takes post now.a now.b → ⊥) → SoFar post edges j rest now None runs
  stays_out i leaves = record {
    ordered = order_tail j e rest i.ordered;
    winding = winding_next None i;
    taken = λ t same h. by_lt_z (number_in_row t) (place e.line j)
        (λ lt. taken_left None i t same h lt)
        (λ le. (λ taken. absurd (leaves (takes_here None i t same h le taken)), λ k. absurd (neither t same le k)));
    apart = i.apart;
    below = tails j e rest runs i.below;
    held = i.held;
    opened = tt;
  }
    where
      neither : (t : Tile) → t.j ≡ j → place e.line j ≤ℤ number_in_row t → Any (RunHas t) runs ⊎ ⊥ → ⊥
      neither t same le (inl k) = none_here None i t same le k
      neither t same le (inr k) = k

  begins : Before None → Takes post now.a now.b → SoFar post edges j rest now (Some (run_between e.line e.line now)) runs
  begins i takes = record {
    ordered = order_tail j e rest i.ordered;
    winding = winding_next None i;
    taken = λ t same h. by_lt_z (number_in_row t) (place e.line j)
        (λ lt. (λ taken. inl (in_runs t ((taken_left None i t same h lt).0 taken)), λ k. (taken_left None i t same h lt).1 (inl (not_open t same lt k))))
        (λ le. (λ taken. inr (in_open t same le), λ k. taken_here None i t same h le takes));
    apart = i.apart;
    below = tails j e rest runs i.below;
    held = i.held;
    opened = record { before = rest_right None i; after = ends_before None i; held = held_here None i };
  }
    where
      in_runs : (t : Tile) → Any (RunHas t) runs ⊎ ⊥ → Any (RunHas t) runs
      in_runs t (inl k) = k
      in_runs t (inr k) = absurd k

      not_open : (t : Tile) → t.j ≡ j → number_in_row t <ℤ place e.line j → Any (RunHas t) runs
          ⊎ IsInOpen t (Some (run_between e.line e.line now)) → Any (RunHas t) runs
      not_open t same lt (inl k) = k
      not_open t same lt (inr k) = let at = edge_at t same in absurd (omega (arith, ints, at, lt, k))

      in_open : (t : Tile) → t.j ≡ j → place e.line j ≤ℤ number_in_row t → place e.line t.j ≤ℤ number_in_row t
      in_open t same le = let at = edge_at t same in omega (arith, ints, at, le)

  left_before : (run : Run) → Before (Some run) → place run.left j <ℤ place e.line j
  left_before run i = All-head (λ f. place run.left j <ℤ place f.line j) e rest i.opened.before

  goes_on : (run : Run) → Before (Some run) → Takes post now.a now.b → SoFar post edges j rest now (Some run) runs
  goes_on run i takes = record {
    ordered = order_tail j e rest i.ordered;
    winding = winding_next (Some run) i;
    taken = λ t same h. by_lt_z (number_in_row t) (place e.line j)
        (λ lt. taken_left (Some run) i t same h lt)
        (λ le. (λ taken. inr (in_open t same le), λ k. taken_here (Some run) i t same h le takes));
    apart = i.apart;
    below = tails j e rest runs i.below;
    held = i.held;
    opened = opened_tail edges j e rest runs (Some run) i.opened;
  }
    where
      in_open : (t : Tile) → t.j ≡ j → place e.line j ≤ℤ number_in_row t → place run.left t.j ≤ℤ number_in_row t
      in_open t same le =
          let at : place run.left t.j ≡ place run.left j = ap (λ (y : ℤ). place run.left y) same in
          let lt = left_before run i in
          omega (arith, ints, at, le, lt)

  ends : (run : Run) → Before (Some run) → (Takes post now.a now.b → ⊥) → SoFar post edges j rest now None (runs ++ ended_at e.line run ∷ [])
  ends run i leaves = record {
    ordered = order_tail j e rest i.ordered;
    winding = winding_next (Some run) i;
    taken = λ t same h. by_lt_z (number_in_row t) (place e.line j)
        (λ lt. (λ taken. inl (now_in t same lt ((taken_left (Some run) i t same h lt).0 taken)), λ k. (taken_left (Some run) i t same h lt).1 (was_in t k)))
        (λ le. (λ taken. absurd (leaves (takes_here (Some run) i t same h le taken)), λ k. absurd (not_in t same le k)));
    apart = apart_push j runs (ended_at e.line run) i.apart i.opened.after (left_before run i);
    below = All-push (λ r. StandRight j (place r.right j) rest) runs (ended_at e.line run) (tails j e rest runs i.below) (rest_right (Some run) i);
    held = All-push (HoldsWindings edges j) runs (ended_at e.line run) i.held i.opened.held;
    opened = tt;
  }
    where
      now_in : (t : Tile) → t.j ≡ j → number_in_row t <ℤ place e.line j → Any (RunHas t) runs ⊎ IsInOpen t (Some run)
          → Any (RunHas t) (runs ++ ended_at e.line run ∷ [])
      now_in t same lt (inl k) = any_left (RunHas t) runs (ended_at e.line run ∷ []) k
      now_in t same lt (inr k) =
          let at = edge_at t same in
          any_last (RunHas t) runs (ended_at e.line run) (record { from_left = k; below_right = omega (arith, ints, at, lt) })

      split_last : (t : Tile) → Any (RunHas t) runs ⊎ RunHas t (ended_at e.line run) → Any (RunHas t) runs ⊎ IsInOpen t (Some run)
      split_last t (inl k) = inl k
      split_last t (inr k) = inr k.from_left

      was_in : (t : Tile) → Any (RunHas t) (runs ++ ended_at e.line run ∷ []) ⊎ ⊥ → Any (RunHas t) runs ⊎ IsInOpen t (Some run)
      was_in t (inl k) = split_last t (any_cases (RunHas t) runs (ended_at e.line run) k)
      was_in t (inr k) = absurd k

      neither : (t : Tile) → t.j ≡ j → place e.line j ≤ℤ number_in_row t → Any (RunHas t) runs ⊎ RunHas t (ended_at e.line run) → ⊥
      neither t same le (inl k) = none_here (Some run) i t same le k
      neither t same le (inr k) =
          let at = edge_at t same in
          let below = k.below_right in
          absurd (omega (arith, ints, at, le, below))

      not_in : (t : Tile) → t.j ≡ j → place e.line j ≤ℤ number_in_row t → Any (RunHas t) (runs ++ ended_at e.line run ∷ []) ⊎ ⊥ → ⊥
      not_in t same le (inl k) = neither t same le (any_cases (RunHas t) runs (ended_at e.line run) k)
      not_in t same le (inr k) = k

  no_more : (begun : Option Run) → SoFar post edges j rest now begun runs → SoFar post edges j rest now begun (runs ++ [])
  no_more begun i = subst (SoFar post edges j rest now begun) (sym (append-nil runs)) i

  pub so_far_last : (begun : Option Run) (answer : Bool) → IsTrue answer ↔ Takes post now.a now.b → Before begun
      → SoFar post edges j rest now (open_after e.line now begun answer) (runs ++ ends_at e.line begun answer)
  so_far_last None true says i = no_more (Some (run_between e.line e.line now)) (begins i (says.0 refl))
  so_far_last None false says i = no_more None (stays_out i (λ t. (let wrong = says.1 t in absurd (let none : ⊥ = cc in none))))
  so_far_last (Some run) true says i = no_more (Some run) (goes_on run i (says.0 refl))
  so_far_last (Some run) false says i = ends run i (λ t. (let wrong = says.1 t in absurd (let none : ⊥ = cc in none)))

-- Past all edges, with no run open.
pub runs_of_row : (post : ℤ → ℤ → Bool → Type 0) (edges left : List EdgeParts) (j : ℤ) (w : Windings)
    (begun : Option Run) (runs : List Run) → SoFar post edges j left w begun runs → left ≡ [] → begun ≡ None
    → AreRuns post edges j runs
runs_of_row post edges (e ∷ left) j w begun runs i h k = absurd (let none : ⊥ = cc in none)
runs_of_row post edges [] j w (Some run) runs i h k = absurd (let none : ⊥ = cc in none)
runs_of_row post edges [] j w None runs i h k = record {
  apart = i.apart;
  taken = λ t same. (
    λ taken. in_runs t
        ((i.taken t same (All-nil (λ e. number_in_row t <ℤ place e.line j))).0 taken),
    λ any.
        (i.taken t same (All-nil (λ e. number_in_row t <ℤ place e.line j))).1 (inl any),
  );
  windings = i.held;
}
  where
    in_runs : (t : Tile) → Any (RunHas t) runs ⊎ ⊥ → Any (RunHas t) runs
    in_runs t (inl k) = k
    in_runs t (inr k) = absurd k
