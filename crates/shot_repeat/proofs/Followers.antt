-- Runs of shots that follow one another by one step.
use Rattle.std.proofs.Common.{◌≡◌, ℕ, zero, suc, ℤ, pos, ◌+◌, ◌-◌, ◌≤◌, ◌+ℤ◌, ◌-ℤ◌, ◌*ℤ◌, Bool, true, false, cond, ◌&&◌}
use Rattle.std.proofs.Common.{nat_eq, nat_le, List, [], ◌∷◌, map, length, take, Option, Some, None, refl, arith, ap}
use Rattle.std.proofs.Common.{sym, subst, ◌∙◌}
use Rattle.std.specs.Ordering.{int_eq}
use Rattle.std.proofs.lemmas.Int.{ints}
use Rattle.std.proofs.lemmas.Bool.Decides.{Decides-eqb, Decides-int_eq, nat_tests}
use Rattle.half_grid.specs.Trapezoids.{Trapezoid}
use Rattle.half_grid.specs.declared.plane.Point.{Point}
use Rattle.oas_lex.specs.ShotText.{fields_of}
use Rattle.oas_lex.specs.declared.fields.ShotFields.{ShotFields}
use Rattle.oas_lex.proofs.ForCallers.{same_fields}
use Rattle.shot_repeat.specs.Packed.{most_of_record}
use Rattle.shot_repeat.specs.Packer.{step_between, has_shape_of, is_step, followers, run_length, repetition_of}
use Rattle.shot_repeat.specs.Values.{moved, moved_from, shot_count, step_of}
use Rattle.shot_repeat.specs.declared.record.Repetition.{Repetition}
use Rattle.shot_repeat.proofs.Gifts.{moved_none, moved_next}
use Rattle.shot_repeat.proofs.Steps.{same_point}

both : (p q : Bool) → (p && q) ≡ true → (p ≡ true) × (q ≡ true)
both true q e = (refl, e)
both false q e = absurd (cc)

-- all of one layer and one datatype
abbrev pub AreOf : ℕ → ℕ → List ShotFields → Type 0
AreOf l d [] = Unit {0}
AreOf l d (f ∷ fs) = (f.layer ≡ l) × (f.datatype ≡ d) × AreOf l d fs

pub are_of : (l d : ℕ) (shots : List Trapezoid) → AreOf l d (map (fields_of l d) shots)
are_of l d [] = tt
are_of l d (z ∷ shots) = (refl, refl, are_of l d shots)

one_step : (a b s : ℤ) → b -ℤ a ≡ s → b ≡ a +ℤ pos 1 *ℤ s
one_step a b s e = omega (arith, ints)

-- a step leads to the next shot
step_moves : (step : Point) (a b : ShotFields) → is_step step a b ≡ true → a.layer ≡ b.layer → a.datatype ≡ b.datatype → b ≡ moved a step 1
step_moves step a b e l d =
    let parts = both (has_shape_of a b) (int_eq (b.x -ℤ a.x) step.x && int_eq (b.y -ℤ a.y) step.y) e in
    let shape = both (nat_eq a.width b.width && nat_eq a.height b.height) (int_eq a.left_delta b.left_delta && int_eq a.right_delta b.right_delta) parts.0 in
    let sizes = both (nat_eq a.width b.width) (nat_eq a.height b.height) shape.0 in
    let deltas = both (int_eq a.left_delta b.left_delta) (int_eq a.right_delta b.right_delta) shape.1 in
    let places = both (int_eq (b.x -ℤ a.x) step.x) (int_eq (b.y -ℤ a.y) step.y) parts.1 in
    same_fields b (moved a step 1) (sym l) (sym d) (sym ((Decides-eqb a.width b.width).0 sizes.0)) (sym ((Decides-eqb a.height b.height).0 sizes.1))
    (sym ((Decides-int_eq a.left_delta b.left_delta).0 deltas.0)) (sym ((Decides-int_eq a.right_delta b.right_delta).0 deltas.1))
    (one_step a.x b.x step.x ((Decides-int_eq (b.x -ℤ a.x) step.x).0 places.0)) (one_step a.y b.y step.y ((Decides-int_eq (b.y -ℤ a.y) step.y).0 places.1))

-- how many follow
follow_by : (p : Bool) (k : ℕ) → p ≡ true → cond p (suc k) 0 ≡ suc k
follow_by true k e = refl
follow_by false k e = absurd (cc)

stop_by : (p : Bool) (k : ℕ) → p ≡ false → cond p (suc k) 0 ≡ 0
stop_by true k e = absurd (cc)
stop_by false k e = refl

-- those that follow are the first, moved by more and more steps
follow : (l d : ℕ) (step : Point) (base a : ShotFields) (rest : List ShotFields) (k n : ℕ) → AreOf l d (a ∷ rest)
    → a ≡ moved base step k → n ≤ followers step a rest → take n rest ≡ moved_from base step (suc k) n
follow l d step base a rest k zero h e g = refl
follow l d step base a [] k (suc n) h e g = absurd (omega arith)
follow l d step base a (b ∷ rest) k (suc n) h e g = by_test (is_step step a b) refl (λ next more. follow l d step base b rest (suc k) n h.2 next more)
  where
    by_test : (p : Bool) → p ≡ is_step step a b → (b ≡ moved base step (suc k) → n ≤ followers step b rest → take n rest ≡ moved_from base step (suc (suc k)) n)
        → b ∷ take n rest ≡ moved base step (suc k) ∷ moved_from base step (suc (suc k)) n
    by_test true t others =
        let next : b ≡ moved base step (suc k) = step_moves step a b (sym t) (h.0 ∙ sym h.2.0)
        (h.1 ∙ sym h.2.1) ∙ (ap (λ (f : ShotFields). moved f step 1) e ∙ moved_next base step k) in
        let more : n ≤ followers step b rest = omega (arith, g, follow_by (is_step step a b) (followers step b rest) (sym t)) in
        ap (λ (f : ShotFields). f ∷ take n rest) next ∙ ap (λ (t : List ShotFields). moved base step (suc k) ∷ t) (others next more)
    by_test false t others = absurd (omega (arith, g, stop_by (is_step step a b) (followers step b rest) (sym t)))

pub few_follow : (step : Point) (a : ShotFields) (rest : List ShotFields) → followers step a rest ≤ length rest
few_follow step a [] = omega arith
few_follow step a (b ∷ rest) = by_test (is_step step a b) refl (few_follow step b rest)
  where
    by_test : (p : Bool) → p ≡ is_step step a b → followers step b rest ≤ length rest → followers step a (b ∷ rest) ≤ length (b ∷ rest)
    by_test true t others = omega (arith, follow_by (is_step step a b) (followers step b rest) (sym t), others)
    by_test false t others = omega (arith, stop_by (is_step step a b) (followers step b rest) (sym t))

pub run_few : (fs : List ShotFields) → run_length fs ≤ most_of_record
run_few [] = omega arith
run_few (a ∷ []) = omega arith
run_few (a ∷ b ∷ rest) = omega arith

pub run_within : (fs : List ShotFields) → run_length fs ≤ length fs
run_within [] = omega arith
run_within (a ∷ []) = omega arith
run_within (a ∷ b ∷ rest) = omega (arith, few_follow (step_between a b) a (b ∷ rest))

-- the run from the first shot on
run_is : (l d : ℕ) (a b : ShotFields) (rest : List ShotFields) (n : ℕ) → AreOf l d (a ∷ b ∷ rest)
    → suc n ≤ run_length (a ∷ b ∷ rest) → take (suc n) (a ∷ b ∷ rest) ≡ moved_from a (step_between a b) 0 (suc n)
run_is l d a b rest n h g =
    let step = step_between a b in
    ap (λ (f : ShotFields). f ∷ take n (b ∷ rest)) (moved_none a step)
    ∙ ap (λ (t : List ShotFields). moved a step 0 ∷ t) (follow l d step a a (b ∷ rest) 0 n h (moved_none a step) (omega (arith, g)))

-- ---- the shots of a record

-- the record that begins a list stands for so many of it
pub record Stands (f : ShotFields) (rest : List ShotFields) (o : Option Repetition) : Type 0 where
  pub few : shot_count o ≤ most_of_record
  pub within : shot_count o ≤ length (f ∷ rest)
  pub given : moved_from f (step_of o) 0 (shot_count o) ≡ take (shot_count o) (f ∷ rest)

one_given : (f : ShotFields) (rest : List ShotFields) → Stands f rest None
one_given f rest = record {
  few = omega arith;
  within = omega arith;
  given = ap (λ (g : ShotFields). g ∷ []) (sym (moved_none f (record { x = pos 0; y = pos 0 })));
}

more_given : (l d : ℕ) (a b : ShotFields) (rest : List ShotFields) (m : ℕ) → AreOf l d (a ∷ b ∷ rest)
    → m + 2 ≡ run_length (a ∷ b ∷ rest)
    → Stands a (b ∷ rest) (Some (record { more = m; x = b.x -ℤ a.x; y = b.y -ℤ a.y }))
more_given l d a b rest m h e = record {
  few = omega (arith, e, run_few (a ∷ b ∷ rest));
  within = omega (arith, e, run_within (a ∷ b ∷ rest));
  given =
      let two : m + 2 ≡ suc (m + 1) = omega arith in
      ap (moved_from a (step_between a b) 0) two
      ∙ (sym (run_is l d a b rest (m + 1) h (omega (arith, e))) ∙ ap (λ (n : ℕ). take n (a ∷ b ∷ rest)) (sym two));
}

pub stands : (l d : ℕ) (f : ShotFields) (rest : List ShotFields) → AreOf l d (f ∷ rest) → Stands f rest (repetition_of (f ∷ rest))
stands l d a [] h = one_given a []
stands l d a (b ∷ rest) h = by_test (nat_le 3 (run_length (a ∷ b ∷ rest))) refl
  where
    by_test : (p : Bool) → p ≡ nat_le 3 (run_length (a ∷ b ∷ rest))
        → Stands a (b ∷ rest)
        (cond p (Some (record { more = run_length (a ∷ b ∷ rest) - 2; x = b.x -ℤ a.x; y = b.y -ℤ a.y })) None)
    by_test true t = more_given l d a b rest (run_length (a ∷ b ∷ rest) - 2) h (three (run_length (a ∷ b ∷ rest)) (sym t))
      where
        three : (n : ℕ) → nat_le 3 n ≡ true → n - 2 + 2 ≡ n
        three n e = grind (arith, nat_tests)
    by_test false t = one_given a (b ∷ rest)

-- ---- the longest

step_back : (a b s : ℤ) → b ≡ a +ℤ pos 1 *ℤ s → b -ℤ a ≡ s
step_back a b s e = omega (arith, ints)

and_back : (p q : Bool) → p ≡ true → q ≡ true → (p && q) ≡ true
and_back true q e f = f
and_back false q e f = absurd (cc)

moves_step : (step : Point) (a b : ShotFields) → b ≡ moved a step 1 → is_step step a b ≡ true
moves_step step a b e =
    and_back (has_shape_of a b) (int_eq (b.x -ℤ a.x) step.x && int_eq (b.y -ℤ a.y) step.y)
    (and_back (nat_eq a.width b.width && nat_eq a.height b.height) (int_eq a.left_delta b.left_delta && int_eq a.right_delta b.right_delta)
    (and_back (nat_eq a.width b.width) (nat_eq a.height b.height)
    ((Decides-eqb a.width b.width).1 (sym (ap (λ (f : ShotFields). f.width) e)))
    ((Decides-eqb a.height b.height).1 (sym (ap (λ (f : ShotFields). f.height) e))))
    (and_back (int_eq a.left_delta b.left_delta) (int_eq a.right_delta b.right_delta)
    ((Decides-int_eq a.left_delta b.left_delta).1 (sym (ap (λ (f : ShotFields). f.left_delta) e)))
    ((Decides-int_eq a.right_delta b.right_delta).1 (sym (ap (λ (f : ShotFields). f.right_delta) e)))))
    (and_back (int_eq (b.x -ℤ a.x) step.x) (int_eq (b.y -ℤ a.y) step.y)
    ((Decides-int_eq (b.x -ℤ a.x) step.x).1 (step_back a.x b.x step.x (ap (λ (f : ShotFields). f.x) e)))
    ((Decides-int_eq (b.y -ℤ a.y) step.y).1 (step_back a.y b.y step.y (ap (λ (f : ShotFields). f.y) e))))

back : (step : Point) (base a : ShotFields) (rest : List ShotFields) (k n : ℕ) → a ≡ moved base step k
    → n ≤ length rest → take n rest ≡ moved_from base step (suc k) n → n ≤ followers step a rest
back step base a rest k zero e h g = omega arith
back step base a [] k (suc n) e h g = absurd (omega arith)
back step base a (b ∷ rest) k (suc n) e h g =
    let first : b ≡ moved base step (suc k) = cc in
    let others : take n rest ≡ moved_from base step (suc (suc k)) n = cc in
    let next : b ≡ moved a step 1 = first ∙ (sym (moved_next base step k) ∙ ap (λ (f : ShotFields). moved f step 1) (sym e)) in
    omega (
      arith,
      follow_by (is_step step a b) (followers step b rest)
          (moves_step step a b next),
      back step base b rest (suc k) n first (omega (arith, h)) others,
    )

pub longest_by : (a b first : ShotFields) (rest : List ShotFields) (step : Point) (n : ℕ) → suc (suc n) ≤ most_of_record → suc (suc n) ≤ length (a ∷ b ∷ rest)
    → take (suc (suc n)) (a ∷ b ∷ rest) ≡ moved_from first step 0 (suc (suc n)) → suc (suc n) ≤ run_length (a ∷ b ∷ rest)
longest_by a b first rest step n few within e =
    let one : a ≡ moved first step 0 = cc in
    let two : b ≡ moved first step 1 = cc in
    let others : take (suc n) (b ∷ rest) ≡ moved_from first step 1 (suc n) = cc in
    let next : b ≡ moved a step 1 = two ∙ (sym (moved_next first step 0) ∙ ap (λ (f : ShotFields). moved f step 1) (sym one)) in
    let same : step_between a b ≡ step = same_point (step_between a b) step
    (step_back a.x b.x step.x (ap (λ (f : ShotFields). f.x) next))
    (step_back a.y b.y step.y (ap (λ (f : ShotFields). f.y) next)) in
    let many : suc n ≤ followers (step_between a b) a (b ∷ rest) = subst
    (λ (s : Point). suc n ≤ followers s a (b ∷ rest)) (sym same)
    (back step first a (b ∷ rest) 0 (suc n) one (omega (arith, within)) others) in
    omega (arith, few, many)

pub run_by : (l d : ℕ) (a b : ShotFields) (rest : List ShotFields) (n : ℕ) → AreOf l d (a ∷ b ∷ rest)
    → n ≡ run_length (a ∷ b ∷ rest) → take n (a ∷ b ∷ rest) ≡ moved_from a (step_between a b) 0 n
run_by l d a b rest zero h e = absurd (omega (arith, e))
run_by l d a b rest (suc n) h e = run_is l d a b rest n h (omega (arith, e))
