-- Where the order of edges may change.
use Rattle.std.proofs.Common.{subst, ℤ, ◌≡◌, ◌≢◌, ◌≤ℤ◌, ◌<ℤ◌, ◌⊎◌, List, [], ◌∷◌, All, length, arith, refl, inl, inr, ◌∙◌, sym}
use Rattle.std.proofs.lemmas.Int.{ints}
use Rattle.std.specs.List.{Contains}
use Rattle.std.proofs.lemmas.List.Elements.{All-tail, All-contains, Contains-append_right, All-contains_itself}
use Rattle.half_grid.specs.Edges.{EdgeParts}
use Rattle.half_grid.specs.Meetings.{MeetAt}
use Rattle.scan_line.specs.Turns.{IsLower, PassesNext, AreQuiet, IsTurn}
use Rattle.scan_line.specs.declared.runs.Slab.{Slab}

pub has_first : {X : Type 0} (x : X) (xs : List X) → Contains (x ∷ xs) x
has_first x xs = (0, omega arith, refl)

pub has_later : {X : Type 0} (x : X) (xs : List X) (y : X) → Contains xs y → Contains (x ∷ xs) y
has_later x xs y h = Contains-append_right (x ∷ []) xs y h

-- the turn of an edge and the next one
pub turn_of_two : (e f : EdgeParts) (rest : List EdgeParts) (limit cut y : ℤ) → (cut ≡ limit) ⊎ (cut ≡ e.y1)
    → (y ≡ cut) ⊎ ((e.line ≢ f.line) × MeetAt e.line f.line y)
    → Contains rest f → IsTurn (e ∷ rest) limit y
turn_of_two e f rest limit cut y (inl h) (inl k) has = inl (k ∙ h)
turn_of_two e f rest limit cut y (inr h) (inl k) has = inr (inl (record { e = e; has = has_first e rest; end = sym (k ∙ h) }))
turn_of_two e f rest limit cut y c (inr k) has = inr
    (inr (record { e = e; f = f; has_e = has_first e rest; has_f = has_later e rest f has; differ = k.0; meet = k.1 }))

-- a turn of some of the edges is one of all
pub turn_of_all : (edges some : List EdgeParts) (limit y : ℤ) → All (Contains edges) some → IsTurn some limit y → IsTurn edges limit y
turn_of_all edges some limit y a (inl h) = inl h
turn_of_all edges some limit y a (inr (inl h)) = inr (inl (record { e = h.e; has = All-contains (Contains edges) some h.e a h.has; end = h.end }))
turn_of_all edges some limit y a (inr (inr h)) =
    inr (inr (record {
      e = h.e;
      f = h.f;
      has_e = All-contains (Contains edges) some h.e a h.has_e;
      has_f = All-contains
          (Contains edges) some h.f a h.has_f;
      differ = h.differ;
      meet = h.meet;
    }))

pub turn_again : (edges : List EdgeParts) (limit cut y : ℤ) → IsTurn edges limit cut → IsTurn edges cut y → IsTurn edges limit y
turn_again edges limit cut y (inl h) (inl k) = inl (k ∙ h)
turn_again edges limit cut y (inr (inl h)) (inl k) = inr (inl (record { e = h.e; has = h.has; end = h.end ∙ sym k }))
turn_again edges limit cut y (inr (inr h)) (inl k) = inr
    (inr (record { e = h.e; f = h.f; has_e = h.has_e; has_f = h.has_f; differ = h.differ; meet = rw k h.meet }))
turn_again edges limit cut y t (inr k) = inr k

passes_lower : (low high top : ℤ) (e : EdgeParts) (rest : List EdgeParts) → high ≤ℤ top → PassesNext low top e rest → PassesNext low high e rest
passes_lower low high top e [] h p = tt
passes_lower low high top e (f ∷ rest) h p = λ y a b m. p y a (omega (arith, ints, h, b)) m

-- what is quiet up to some Y, one edge further
pub quiet_further : (low high top : ℤ) (e : EdgeParts) (rest : List EdgeParts) → high ≤ℤ top → top ≤ℤ e.y1
    → PassesNext low top e rest → AreQuiet low high rest → AreQuiet low high (e ∷ rest)
quiet_further low high top e rest h end p q = (omega (arith, ints, h, end), passes_lower low high top e rest h p, q)

-- what is known of rows below the turns of the edges before `left`
pub record AreBelow (edges left : List EdgeParts) (slab rows : Slab) : Type 0 where
  pub lower : IsLower slab rows
  pub top : IsTurn edges slab.y1 rows.y1
  pub among : All (Contains edges) left
  pub above : All (λ e. slab.y0 <ℤ e.y1) left
  pub quiet : (high : ℤ) → high ≤ℤ rows.y1 → AreQuiet slab.y0 high left → AreQuiet slab.y0 high edges

pub below_none : (edges : List EdgeParts) (slab : Slab) → slab.y0 <ℤ slab.y1 → All (λ e. slab.y0 <ℤ e.y1) edges → AreBelow edges edges slab slab
below_none edges slab h a = record {
  lower = record { bottom = refl; has_rows = h; top = omega (arith, ints) };
  top = inl refl;
  among = All-contains_itself edges;
  above = a;
  quiet = λ high h q. q;
}

-- one edge more
pub below_more : (edges left : List EdgeParts) (e : EdgeParts) (rest : List EdgeParts) (slab rows now : Slab) → AreBelow edges left slab rows → left ≡ e ∷ rest
    → IsLower rows now → now.y1 ≤ℤ e.y1 → PassesNext rows.y0 now.y1 e rest → IsTurn (e ∷ rest) rows.y1 now.y1 → AreBelow edges rest slab now
below_more edges left e rest slab rows now i same low end passes turn =
    let bottom = i.lower.bottom in
    let top = i.lower.top in
    let among : All (Contains edges) (e ∷ rest) = subst (All (Contains edges)) same i.among in
    let above : All (λ f. slab.y0 <ℤ f.y1) (e ∷ rest) = subst (All (λ (f : EdgeParts). slab.y0 <ℤ f.y1)) same i.above in
    let now_bottom = low.bottom in
    let now_top = low.top in
    let passes_here : PassesNext slab.y0 now.y1 e rest = subst (λ (y : ℤ). PassesNext y now.y1 e rest) bottom passes in
    record {
      lower = record { bottom = now_bottom ∙ bottom; has_rows = low.has_rows; top = omega (arith, ints) };
      top = turn_again edges slab.y1 rows.y1 now.y1 i.top (turn_of_all edges (e ∷ rest) rows.y1 now.y1 among turn);
      among = All-tail (Contains edges) e rest among;
      above = All-tail (λ f. slab.y0 <ℤ f.y1) e rest above;
      quiet = λ high h q.
          i.quiet high (omega (arith, ints, h, now_top))
          (subst (AreQuiet slab.y0 high) (sym same) (quiet_further slab.y0 high now.y1 e rest h end passes_here q));
    }

pub quiet_all : (edges left : List EdgeParts) (slab rows : Slab) → AreBelow edges left slab rows → length left ≡ 0 → AreQuiet slab.y0 rows.y1 edges
quiet_all edges [] slab rows i h = i.quiet rows.y1 (omega (arith, ints)) tt
quiet_all edges (e ∷ left) slab rows i h = absurd (omega (arith, h))

-- what the next step asks
pub record IsNext (slab : Slab) (e : EdgeParts) : Type 0 where
  pub rows : slab.y0 <ℤ slab.y1
  pub edge : slab.y0 <ℤ e.y1
