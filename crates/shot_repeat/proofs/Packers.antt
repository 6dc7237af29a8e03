-- What is worked out is the packed text of shots, and no other text is.
use Rattle.std.proofs.Common.{◌≡◌, inl, inr, ℕ, zero, suc, ℤ, pos, ◌+◌, ◌-◌, ◌<◌, ◌≤◌, ◌+ℤ◌, ◌*ℤ◌, Bool, true, false, cond}
use Rattle.std.proofs.Common.{nat_le, List, [], ◌∷◌, ◌++◌, slice_get, map, length, take, drop, Option, Some, None, refl, arith, ap}
use Rattle.std.proofs.Common.{sym, subst, ◌∙◌}
use Rattle.std.specs.Prelude.{flat_map}
use Rattle.std.proofs.lemmas.Int.{ints}
use Rattle.std.proofs.lemmas.Bool.Decides.{nat_tests}
use Rattle.half_grid.specs.declared.plane.Point.{Point}
use Rattle.oas_lex.specs.ShotText.{head, end, fields_of}
use Rattle.oas_lex.specs.declared.fields.ShotFields.{ShotFields}
use Rattle.shot_repeat.specs.Packer.{step_between, run_length, repetition_of, records_of, packed_records, packed_text}
use Rattle.shot_repeat.specs.Packing.{AreSteps, IsRun, repeated, packed_record, ArePacked}
use Rattle.shot_repeat.specs.PackingLaws.{TextIsPacked, OnePackedText, RunIsLongest}
use Rattle.shot_repeat.specs.Records.{record_text}
use Rattle.shot_repeat.specs.Values.{moved, moved_from, shot_count}
use Rattle.shot_repeat.specs.declared.record.PackRecord.{PackRecord}
use Rattle.shot_repeat.proofs.Followers.{AreOf, are_of, run_few, run_by, longest_by}
use Rattle.shot_repeat.proofs.Gifts.{moved_none}
use Rattle.shot_repeat.proofs.Steps.{same_point}

-- ---- shot by shot

get_taken : {X : Type 0} (n : ℕ) (xs : List X) (i : ℕ) → i < n → slice_get (take n xs) i ≡ slice_get xs i
get_taken zero xs i h = absurd (omega (arith, h))
get_taken (suc n) [] i h = refl
get_taken (suc n) (x ∷ xs) zero h = refl
get_taken (suc n) (x ∷ xs) (suc i) h = get_taken n xs i (omega (arith, h))

no_more : (j : ℕ) → j ≡ j + 0
no_more j = omega arith

zero_more : (i : ℕ) → 0 + i ≡ i
zero_more i = omega arith

one_more : (j i : ℕ) → suc j + i ≡ j + suc i
one_more j i = omega arith

get_moved : (f : ShotFields) (step : Point) (j n i : ℕ) → i < n → slice_get (moved_from f step j n) i ≡ Some (moved f step (j + i))
get_moved f step j zero i h = absurd (omega (arith, h))
get_moved f step j (suc n) zero h = ap (λ (m : ℕ). Some (moved f step m)) (no_more j)
get_moved f step j (suc n) (suc i) h =
    get_moved f step (suc j) n i (omega (arith, h)) ∙ ap (λ (m : ℕ). Some (moved f step m)) (one_more j i)

steps_of : (f : ShotFields) (fs : List ShotFields) (step : Point) (n : ℕ) → take n fs ≡ moved_from f step 0 n
    → (i : ℕ) → i < n → slice_get fs i ≡ Some (moved f step i)
steps_of f fs step n e i h =
    sym (get_taken n fs i h)
    ∙ (ap (λ (t : List ShotFields). slice_get t i) e ∙ (get_moved f step 0 n i h ∙ ap (λ (m : ℕ). Some (moved f step m)) (zero_more i)))

-- shots that are moved one by one are a list of moved ones
all_moved : (fs : List ShotFields) (f : ShotFields) (step : Point) (j n : ℕ)
    → ((i : ℕ) → i < n → slice_get fs i ≡ Some (moved f step (j + i))) → (n ≤ length fs) × (take n fs ≡ moved_from f step j n)
all_moved fs f step j zero h = (omega arith, refl)
all_moved [] f step j (suc n) h = let none = h 0 (omega arith) in absurd (cc)
all_moved (x ∷ fs) f step j (suc n) h =
    let own = h 0 (omega arith) in
    let first : x ≡ moved f step j = let none = ap (λ (m : ℕ). Some (moved f step m)) (no_more j) in cc in
    let rest = all_moved fs f step (suc j) n
    (λ i below. h (suc i) (omega (arith, below)) ∙ sym (ap (λ (m : ℕ). Some (moved f step m)) (one_more j i))) in (
      omega (arith, rest.0),
      ap (λ (g : ShotFields). g ∷ take n fs) first ∙ ap (λ (t : List ShotFields). moved f step j ∷ t) rest.1,
    )

-- ---- the run from a shot on

longest : (a : ShotFields) (rest : List ShotFields) (step : Point) (n : ℕ) → AreSteps a rest step n → n ≤ run_length (a ∷ rest)
longest a rest step zero s = omega arith
longest a [] step (suc zero) s = omega arith
longest a [] step (suc (suc n)) s = let none = s.are 1 (omega arith) in absurd (cc)
longest a (b ∷ rest) step (suc zero) s = omega arith
longest a (b ∷ rest) step (suc (suc n)) s =
    let all = all_moved (a ∷ b ∷ rest) a step 0 (suc (suc n))
    (λ i below. s.are i below ∙ sym (ap (λ (m : ℕ). Some (moved a step m)) (zero_more i))) in
    longest_by a b a rest step n s.few all.0 all.1

no_point : Point
no_point = record { x = pos 0; y = pos 0 }

-- the step of the run
step_for : ShotFields → List ShotFields → Point
step_for a [] = no_point
step_for a (b ∷ rest) = step_between a b

alone : (a : ShotFields) (i : ℕ) → i < 1 → slice_get (a ∷ []) i ≡ Some (moved a no_point i)
alone a zero h = ap Some (moved_none a no_point)
alone a (suc i) h = absurd (omega (arith, h))

is_run : (l d : ℕ) (a : ShotFields) (rest : List ShotFields) → AreOf l d (a ∷ rest) → IsRun a rest (step_for a rest) (run_length (a ∷ rest))
unfolding step_for
is_run l d a [] h = record { steps = record { few = omega arith; are = alone a }; longest = longest a [] }
is_run l d a (b ∷ rest) h = record {
  steps = record {
    few = run_few (a ∷ b ∷ rest);
    are = steps_of a (a ∷ b ∷ rest) (step_between a b) (run_length (a ∷ b ∷ rest)) (run_by l d a b rest (run_length (a ∷ b ∷ rest)) h refl);
  };
  longest = longest a (b ∷ rest);
}

pub run_is_longest : RunIsLongest
run_is_longest l d z zs = (step_for (fields_of l d z) (map (fields_of l d) zs), is_run l d (fields_of l d z) (map (fields_of l d) zs) (are_of l d (z ∷ zs)))

-- ---- the records are packed

three : (n : ℕ) → nat_le 3 n ≡ true → 3 ≤ n
three n e = grind (arith, nat_tests)

two : (n : ℕ) → nat_le 3 n ≡ false → n < 3
two n e = grind (arith, nat_tests)

skipped : (n : ℕ) (f : ShotFields) (fs : List ShotFields) → 3 ≤ n → drop (n - 2 + 2 - 1) fs ≡ drop n (f ∷ fs)
skipped zero f fs h = absurd (omega (arith, h))
skipped (suc n) f fs h = ap (λ (k : ℕ). drop k fs) (same n h)
  where
    same : (n : ℕ) → 3 ≤ suc n → suc n - 2 + 2 - 1 ≡ n
    same n h = omega (arith, h)

first_packed : (last : Option ShotFields) (f : ShotFields) (fs : List ShotFields) → IsRun f fs (step_for f fs) (run_length (f ∷ fs))
    → ArePacked (Some f) (drop (shot_count (repetition_of (f ∷ fs)) - 1) fs) (records_of (Some f) (shot_count (repetition_of (f ∷ fs)) - 1) fs)
    → ArePacked last (f ∷ fs) (records_of last 0 (f ∷ fs))
unfolding step_for
first_packed last f [] run left = (no_point, 1, run, inr (omega arith, refl, left))
first_packed last f (b ∷ rest) run left = by_test (nat_le 3 (run_length (f ∷ b ∷ rest))) refl left
  where
    by_test : (p : Bool) → p ≡ nat_le 3 (run_length (f ∷ b ∷ rest))
        → ArePacked (Some f)
        (drop (shot_count (cond p (Some (repeated (step_between f b) (run_length (f ∷ b ∷ rest)))) None) - 1) (b ∷ rest))
        (records_of (Some f) (shot_count (cond p (Some (repeated (step_between f b) (run_length (f ∷ b ∷ rest)))) None) - 1) (b ∷ rest))
        → ArePacked last (f ∷ b ∷ rest)
        (packed_record last f (cond p (Some (repeated (step_between f b) (run_length (f ∷ b ∷ rest)))) None)
        ∷ records_of (Some f) (shot_count (cond p (Some (repeated (step_between f b) (run_length (f ∷ b ∷ rest)))) None) - 1) (b ∷ rest))
    by_test true t left =
        let n = run_length (f ∷ b ∷ rest) in
        let long = three n (sym t) in (
          step_between f b,
          n,
          run,
          inl (
            long,
            refl,
            subst (λ (fields : List ShotFields). ArePacked (Some f) fields (records_of (Some f) (n - 2 + 2 - 1) (b ∷ rest)))
                (skipped n f (b ∷ rest) long) left,
          ),
        )
    by_test false t left = (step_between f b, run_length (f ∷ b ∷ rest), run, inr (two (run_length (f ∷ b ∷ rest)) (sym t), refl, left))

packed : (l d : ℕ) (last : Option ShotFields) (skip : ℕ) (fs : List ShotFields) → AreOf l d fs
    → ArePacked last (drop skip fs) (records_of last skip fs)
packed l d last zero [] h = tt
packed l d last (suc skip) [] h = tt
packed l d last (suc skip) (f ∷ fs) h = packed l d last skip fs h.2
packed l d last zero (f ∷ fs) h =
    first_packed last f fs (is_run l d f fs h) (packed l d (Some f) (shot_count (repetition_of (f ∷ fs)) - 1) fs h.2)

-- ---- no other records are

same_step : (a b c : ℤ) → a +ℤ pos 1 *ℤ b ≡ a +ℤ pos 1 *ℤ c → b ≡ c
same_step a b c e = omega (arith, ints)

one_step : (f : ShotFields) (fs : List ShotFields) (p q : Point) (n m : ℕ) → AreSteps f fs p n → AreSteps f fs q m → 3 ≤ n → 3 ≤ m → p ≡ q
one_step f fs p q n m s t h g =
    let e = s.are 1 (omega (arith, h)) in
    let o = t.are 1 (omega (arith, g)) in
    let same : moved f p 1 ≡ moved f q 1 = cc in
    same_point p q (same_step f.x p.x q.x (ap (λ (k : ShotFields). k.x) same)) (same_step f.y p.y q.y (ap (λ (k : ShotFields). k.y) same))

one_count : (f : ShotFields) (fs : List ShotFields) (p q : Point) (n m : ℕ) → IsRun f fs p n → IsRun f fs q m → n ≡ m
one_count f fs p q n m r s = omega (arith, r.longest q m s.steps, s.longest p n r.steps)

same_list : (r s : PackRecord) (rs ss : List PackRecord) → r ≡ s → rs ≡ ss → r ∷ rs ≡ s ∷ ss
same_list r s rs ss e g = ap (λ (t : PackRecord). t ∷ rs) e ∙ ap (λ (t : List PackRecord). s ∷ t) g

one_first : (last : Option ShotFields) (f : ShotFields) (fs : List ShotFields) (r s : PackRecord) (rs ss : List PackRecord)
    → ((fields : List ShotFields) → ArePacked (Some f) fields rs → ArePacked (Some f) fields ss → rs ≡ ss)
    → ArePacked last (f ∷ fs) (r ∷ rs) → ArePacked last (f ∷ fs) (s ∷ ss) → r ∷ rs ≡ s ∷ ss
one_first last f fs r s rs ss others (p, n, run, inl h) (q, m, more, inl g) =
    let count = one_count f fs p q n m run more in
    let step = one_step f fs p q n m run.steps more.steps h.0 g.0 in
    same_list r s rs ss
    (h.1 ∙ (ap (λ (k : Point). packed_record last f (Some (repeated k n))) step
    ∙ (ap (λ (k : ℕ). packed_record last f (Some (repeated q k))) count ∙ sym g.1)))
    (others (drop n (f ∷ fs)) h.2 (subst (λ (k : ℕ). ArePacked (Some f) (drop k (f ∷ fs)) ss) (sym count) g.2))
one_first last f fs r s rs ss others (p, n, run, inl h) (q, m, more, inr g) = absurd (omega (arith, h.0, g.0, one_count f fs p q n m run more))
one_first last f fs r s rs ss others (p, n, run, inr h) (q, m, more, inl g) = absurd (omega (arith, h.0, g.0, one_count f fs p q n m run more))
one_first last f fs r s rs ss others (p, n, run, inr h) (q, m, more, inr g) = same_list r s rs ss (h.1 ∙ sym g.1) (others fs h.2 g.2)

one_list : (last : Option ShotFields) (fs : List ShotFields) (rs ss : List PackRecord) → ArePacked last fs rs → ArePacked last fs ss → rs ≡ ss
one_list last [] [] [] h g = refl
one_list last [] [] (s ∷ ss) h g = absurd g
one_list last [] (r ∷ rs) ss h g = absurd h
one_list last (f ∷ fs) [] ss h g = absurd h
one_list last (f ∷ fs) (r ∷ rs) [] h g = absurd g
one_list last (f ∷ fs) (r ∷ rs) (s ∷ ss) h g = one_first last f fs r s rs ss (λ fields p q. one_list (Some f) fields rs ss p q) h g

-- ---- the text

pub text_is_packed : TextIsPacked
unfolding packed_text
text_is_packed unit l d shots = record { packed = packed l d None 0 (map (fields_of l d) shots) (are_of l d shots); is = refl }

pub one_packed_text : OnePackedText
unfolding packed_text
one_packed_text unit l d shots records text p =
    let same = one_list None (map (fields_of l d) shots) records (packed_records l d shots) p.packed
    (packed l d None 0 (map (fields_of l d) shots) (are_of l d shots)) in
    (same, p.is ∙ ap (λ (rs : List PackRecord). head unit ++ flat_map record_text rs ++ end) same)
