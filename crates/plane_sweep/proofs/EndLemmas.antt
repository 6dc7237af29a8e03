-- Trapezoids that end at the lines through a point, from left to right.
use Rattle.std.proofs.Common.{ℤ, ◌≡◌, Bool, true, false, List, [], ◌∷◌, ◌++◌, map, Option, Some, None, IfSome, All}
use Rattle.std.proofs.Common.{append-nil, append_assoc, refl, ap, sym, subst, ◌∙◌}
use Rattle.std.specs.Option.{option_to_list}
use Rattle.std.proofs.lemmas.List.{map-append}
use Rattle.std.proofs.lemmas.List.Elements.{All-head, All-tail}
use Rattle.half_grid.specs.Trapezoids.{Trapezoid, IsShot}
use Rattle.trap_join.specs.declared.front.Growing.{Growing}
use Rattle.trap_join.specs.Fronts.{ended_at}
use Rattle.active_lines.specs.declared.item.ActiveLine.{ActiveLine}
use Rattle.active_lines.specs.declared.item.Opened.{Opened}
use Rattle.plane_sweep.specs.StopRuns.{growing_of, growing_by}
use Rattle.plane_sweep.specs.Crossings.{EndsStep, EndedBut, EndsLast, EndsLines}
use Rattle.plane_sweep.proofs.Openings.{growing_append}
use Rattle.plane_sweep.proofs.AlikeRuns.{last_same}

abbrev Shots : ℤ → List Growing → Type 0
Shots y gs = All (λ g. IsShot (ended_at y g)) gs

-- the lines up to here
abbrev pub EndedSoFar : ℤ → List Trapezoid → List ActiveLine → List ActiveLine → List Trapezoid → Option Growing → Type 0
EndedSoFar y given lines left given1 last =
    All (λ g. IsShot (ended_at y g)) (growing_of lines)
    → (inner : List Growing) × (growing_of lines ≡ (inner ++ option_to_list last) ++ growing_of left) × (given1 ≡ given ++ map (ended_at y) inner)
    × (last ≡ None → inner ≡ [])

pub none_so_far : (y : ℤ) (given : List Trapezoid) (lines : List ActiveLine) → EndedSoFar y given lines lines given None
none_so_far y given lines shots = ([], refl, sym (append-nil given), λ none. refl)

pub all_so_far : (y : ℤ) (given : List Trapezoid) (lines left : List ActiveLine) (given1 : List Trapezoid) (last : Option Growing) → left ≡ []
    → EndedSoFar y given lines left given1 last
    → EndedBut y given lines given1 last
all_so_far y given lines left given1 last none so_far shots =
    let k = so_far shots in
    (k.0, k.1 ∙ (ap (λ (us : List ActiveLine). (k.0 ++ option_to_list last) ++ growing_of us) none ∙ append-nil (k.0 ++ option_to_list last)), k.2, k.3)

last_shot : (y : ℤ) (inner rest : List Growing) (last : Option Growing) → Shots y ((inner ++ option_to_list last) ++ rest)
    → IfSome last (λ g. IsShot (ended_at y g))
last_shot y inner rest None h = tt
last_shot y [] rest (Some g) h = All-head (λ k. IsShot (ended_at y k)) g rest h
last_shot y (u ∷ inner) rest (Some g) h = last_shot y inner rest (Some g) (All-tail (λ k. IsShot (ended_at y k)) u ((inner ++ g ∷ []) ++ rest) h)

pub one_so_far : (y : ℤ) (given : List Trapezoid) (lines left rest : List ActiveLine) (l : ActiveLine) (given1 given2 : List Trapezoid)
    (last next : Option Growing) → left ≡ l ∷ rest
    → EndedSoFar y given lines left given1 last → EndsStep y given1 last l given2 next → EndedSoFar y given lines rest given2 next
one_so_far y given lines left rest l given1 given2 last next split so_far step shots =
    let k = so_far shots in
    let s = step (last_shot y k.0 (growing_of left) last (subst (All (λ g. IsShot (ended_at y g))) k.1 shots)) in
    let more : growing_of left ≡ growing_of (l ∷ []) ++ growing_of rest = ap growing_of split ∙ growing_append (l ∷ []) rest in (
      k.0 ++ s.0,
      k.1 ∙ (append_assoc k.0 (option_to_list last) (growing_of left)
          ∙ (ap (λ (us : List Growing). k.0 ++ (option_to_list last ++ us)) more
          ∙ (ap (λ (us : List Growing). k.0 ++ us) (sym (append_assoc (option_to_list last) (growing_of (l ∷ [])) (growing_of rest)))
          ∙ (ap (λ (us : List Growing). k.0 ++ (us ++ growing_of rest)) s.1
          ∙ (ap (λ (us : List Growing). k.0 ++ us) (append_assoc s.0 (option_to_list next) (growing_of rest))
          ∙ (sym (append_assoc k.0 s.0 (option_to_list next ++ growing_of rest))
          ∙ sym (append_assoc (k.0 ++ s.0) (option_to_list next) (growing_of rest)))))))),
      s.2 ∙ (ap (λ (zs : List Trapezoid). zs ++ map (ended_at y) s.0) k.2
          ∙ (append_assoc given (map (ended_at y) k.0) (map (ended_at y) s.0) ∙ ap (λ (zs : List Trapezoid). given ++ zs)
          (sym (map-append (ended_at y) k.0 s.0)))),
      λ none. (let t = s.3 none in both_none k.0 s.0 (k.3 t.0) t.1),
    )
  where
    both_none : (us vs : List Growing) → us ≡ [] → vs ≡ [] → us ++ vs ≡ []
    both_none us vs h m = rw (h, m) refl

-- ---- one step

pub shut_step : (y : ℤ) (given : List Trapezoid) (last : Option Growing) (l : ActiveLine) → l.opened ≡ None → EndsStep y given last l given last
shut_step y given last l shut h = (
  [],
  ap (λ (o : Option Opened). option_to_list last ++ growing_by l.line o []) shut ∙ append-nil (option_to_list last),
  sym
      (append-nil given),
  λ none. (none, refl),
)

pub next_step : (y : ℤ) (given given1 : List Trapezoid) (last : Option Growing) (l : ActiveLine) (o : Opened) → l.opened ≡ Some o → EndsLast y given last given1
    → EndsStep y given last l given1 (Some (let k : Growing = record { y0 = o.since; left = l.line; right = o.right } in k))
next_step y given given1 last l o is put h =
    (option_to_list last, ap (λ (k : Option Opened). option_to_list last ++ growing_by l.line k []) is, put h, λ none. absurd (let clash : ⊥ = cc in clash))

pub last_ends : (y : ℤ) (given given1 : List Trapezoid) (last : Option Growing) (g : Growing) → last ≡ Some g
    → (IsShot (ended_at y g) → given1 ≡ given ++ ended_at y g ∷ []) → EndsLast y given last given1
last_ends y given given1 last g is put =
    subst (λ (o : Option Growing). EndsLast y given o given1) (sym is) put

-- ---- all of them

last_end : (y : ℤ) (inner : List Growing) (last : Option Growing) → Shots y (inner ++ option_to_list last) → IfSome last (λ g. IsShot (ended_at y g))
last_end y inner None h = tt
last_end y [] (Some g) h = All-head (λ k. IsShot (ended_at y k)) g [] h
last_end y (u ∷ inner) (Some g) h = last_end y inner (Some g) (All-tail (λ k. IsShot (ended_at y k)) u (inner ++ g ∷ []) h)

pub lines_end : (y : ℤ) (given given1 given2 : List Trapezoid) (lines : List ActiveLine) (last : Option Growing) → EndedBut y given lines given1 last
    → EndsLast y given1 last given2
    → All (λ g. IsShot (ended_at y g)) (growing_of lines) → given2 ≡ given ++ map (ended_at y) (growing_of lines)
lines_end y given given1 given2 lines last but one shots =
    let k = but shots in
    one (last_end y k.0 last (subst (All (λ g. IsShot (ended_at y g))) k.1 shots))
    ∙ (ap (λ (zs : List Trapezoid). zs ++ map (ended_at y) (option_to_list last)) k.2
    ∙ (append_assoc given (map (ended_at y) k.0) (map (ended_at y) (option_to_list last))
    ∙ (ap (λ (zs : List Trapezoid). given ++ zs) (sym (map-append (ended_at y) k.0 (option_to_list last)))
    ∙ ap (λ (us : List Growing). given ++ map (ended_at y) us) (sym k.1))))

-- where the last one is known, it is the one that goes on
last_is : (us vs : List Growing) (last : Option Growing) (g : Growing) → us ++ option_to_list last ≡ vs ++ g ∷ [] → (last ≡ None → us ≡ [])
    → us ++ g ∷ [] ≡ vs ++ g ∷ []
last_is us vs (Some h) g e none = (let same = (last_same us vs h g e).1 in ap (λ (k : Growing). us ++ k ∷ []) (sym same) ∙ e)
last_is us vs None g e none = absurd (nothing vs (ap (λ (ws : List Growing). ws ++ []) (sym (none refl)) ∙ e))
  where
    nothing : (ws : List Growing) → [] ≡ ws ++ g ∷ [] → ⊥
    nothing [] h = absurd (let clash : ⊥ = cc in clash)
    nothing (w ∷ ws) h = absurd (let clash : ⊥ = cc in clash)

pub but_last : (y : ℤ) (given given1 : List Trapezoid) (lines : List ActiveLine) (last : Option Growing) (vs : List Growing) (g : Growing)
    → EndedBut y given lines given1 last
    → All (λ k. IsShot (ended_at y k)) (growing_of lines) → growing_of lines ≡ vs ++ g ∷ []
    → (inner : List Growing) × (growing_of lines ≡ inner ++ g ∷ []) × (given1 ≡ given ++ map (ended_at y) inner)
but_last y given given1 lines last vs g but shots is =
    let k = but shots in
    (k.0, is ∙ sym (last_is k.0 vs last g (sym k.1 ∙ is) k.3), k.2)

-- ---- as the code does it

pub leave_all : (y : ℤ) (given given1 given2 : List Trapezoid) (lines : List ActiveLine) (last : Option Growing) (goes_on : Bool) → goes_on ≡ false
    → EndedBut y given lines given1 last
    → EndsLast y given1 last given2 → EndsLines y given lines goes_on given2
leave_all y given given1 given2 lines last goes_on no_more but one =
    subst (λ (b : Bool). EndsLines y given lines b given2) (sym no_more) (lines_end y given given1 given2 lines last but one)

pub leave_but : (y : ℤ) (given given1 : List Trapezoid) (lines : List ActiveLine) (last : Option Growing) (goes_on : Bool) → goes_on ≡ true
    → EndedBut y given lines given1 last
    → EndsLines y given lines goes_on given1
leave_but y given given1 lines last goes_on more but = subst (λ (b : Bool). EndsLines y given lines b given1) (sym more) (last, but)
