-- The shots that records give.
use Rattle.std.proofs.Common.{◌≡◌, ℕ, zero, suc, ℤ, pos, ◌≤◌, ◌+ℤ◌, ◌*ℤ◌, List, [], ◌∷◌, ◌++◌, map, length, Option}
use Rattle.std.proofs.Common.{Some, None, All, refl, arith, ap, sym, ◌∙◌, append_assoc}
use Rattle.std.proofs.lemmas.List.{append-nil}
use Rattle.std.proofs.lemmas.List.Elements.{All-cons}
use Rattle.std.proofs.lemmas.Int.{ints}
use Rattle.half_grid.specs.Trapezoids.{Trapezoid}
use Rattle.half_grid.specs.declared.plane.Point.{Point}
use Rattle.oas_lex.specs.ShotText.{fields_of}
use Rattle.oas_lex.specs.declared.fields.ShotFields.{ShotFields}
use Rattle.oas_lex.proofs.ForCallers.{same_fields}
use Rattle.shot_repeat.specs.Values.{moved, moved_from, given, all_given, shot_count}
use Rattle.shot_repeat.specs.declared.record.PackRecord.{PackRecord}
use Rattle.shot_repeat.specs.declared.record.Repetition.{Repetition}

-- ---- steps

no_step : (a b : ℤ) → a ≡ a +ℤ pos 0 *ℤ b
no_step a b = omega (arith, ints)

next_step : (k : ℕ) (a b : ℤ) → (a +ℤ pos k *ℤ b) +ℤ pos 1 *ℤ b ≡ a +ℤ pos (suc k) *ℤ b
next_step k a b = omega (arith, ints)

pub moved_none : (f : ShotFields) (step : Point) → f ≡ moved f step 0
moved_none f step = same_fields f (moved f step 0) refl refl refl refl refl refl (no_step f.x step.x) (no_step f.y step.y)

pub moved_next : (f : ShotFields) (step : Point) (k : ℕ) → moved (moved f step k) step 1 ≡ moved f step (suc k)
moved_next f step k = same_fields (moved (moved f step k) step 1) (moved f step (suc k)) refl refl refl refl refl refl
    (next_step k f.x step.x) (next_step k f.y step.y)

pub length_moved : (f : ShotFields) (step : Point) (k count : ℕ) → length (moved_from f step k count) ≡ count
length_moved f step k zero = refl
length_moved f step k (suc count) = omega (arith, length_moved f step (suc k) count)

pub length_map : {X Y : Type 0} (h : X → Y) (xs : List X) → length (map h xs) ≡ length xs
length_map h [] = refl
length_map h (x ∷ xs) = omega (arith, length_map h xs)

pub some_given : (o : Option Repetition) → 1 ≤ shot_count o
some_given None = omega arith
some_given (Some p) = omega arith

-- ---- records

pub all_more : (before rs : List PackRecord) (r : PackRecord) → all_given before (rs ++ r ∷ []) ≡ all_given before rs ++ given (before ++ rs) r
all_more before [] r = append-nil (given before r) ∙ ap (λ (b : List PackRecord). given b r) (sym (append-nil before))
all_more before (s ∷ rs) r =
    ap (λ (t : List ShotFields). given before s ++ t)
    (all_more (before ++ s ∷ []) rs r ∙ ap (λ (b : List PackRecord). all_given (before ++ s ∷ []) rs ++ given b r)
    (append_assoc before (s ∷ []) rs))
    ∙ sym (append_assoc (given before s) (all_given (before ++ s ∷ []) rs) (given (before ++ s ∷ rs) r))

-- the first of what a record gives
pub first_given : (f : ShotFields) (step : Point) (k count : ℕ) (l d : ℕ) (zs : List Trapezoid) → 1 ≤ count
    → map (fields_of l d) zs ≡ moved_from f step k count → (l ≡ f.layer) × (d ≡ f.datatype)
first_given f step k zero l d zs h e = absurd (omega arith)
first_given f step k (suc count) l d [] h e = absurd (cc)
first_given f step k (suc count) l d (z ∷ zs) h e =
    let first : fields_of l d z ≡ moved f step k = cc in
    (ap (λ (g : ShotFields). g.layer) first, ap (λ (g : ShotFields). g.datatype) first)

-- a list whose images are two lists, one after the other, is two lists
pub record Halves {X Y : Type 0} (h : X → Y) (xs : List X) (items bs : List Y) : Type 0 where
  pub front : List X
  pub rest : List X
  pub split : xs ≡ front ++ rest
  pub fronts : map h front ≡ items
  pub rests : map h rest ≡ bs

pub halves : {X Y : Type 0} (h : X → Y) (xs : List X) (items bs : List Y) → map h xs ≡ items ++ bs → Halves h xs items bs
halves h xs [] bs e = record { front = []; rest = xs; split = refl; fronts = refl; rests = e }
halves h [] (a ∷ items) bs e = absurd (cc)
halves h (x ∷ xs) (a ∷ items) bs e =
    let first : h x ≡ a = cc in
    let others : map h xs ≡ items ++ bs = cc in
    let both = halves h xs items bs others in
    record {
      front = x ∷ both.front;
      rest = both.rest;
      split = ap (λ (t : List _). x ∷ t) both.split;
      fronts = ap (λ (y : _). y ∷ map h both.front) first ∙ ap (λ (t : List _). a ∷ t) both.fronts;
      rests = both.rests;
    }

pub all_front : {X : Type 0} (P : X → Type 0) (xs ys : List X) → All P (xs ++ ys) → All P xs
all_front P [] ys h = λ k d below. absurd (omega arith)
all_front P (x ∷ xs) ys h = All-cons P x xs (h 0 x (omega arith)) (all_front P xs ys (λ j e under. h (suc j) e (omega arith)))

pub all_rest : {X : Type 0} (P : X → Type 0) (xs ys : List X) → All P (xs ++ ys) → All P ys
all_rest P [] ys h = h
all_rest P (x ∷ xs) ys h = all_rest P xs ys (λ j e under. h (suc j) e (omega arith))
