-- The packed text of shots is no longer than their plain one: a repetition takes no more bytes than two of the records that
-- it stands for.
use Rattle.std.proofs.Common.{◌≡◌, inl, inr, ℕ, zero, suc, ◌+◌, ◌-◌, ◌*◌, ◌/◌, ◌≤◌, ℤ, pos, negsuc, ◌-ℤ◌, unsigned_abs, Bool, true, false}
use Rattle.std.proofs.Common.{cond, nat_eq, nat_le, List, [], ◌∷◌, ◌++◌, length, map, drop, flat_map, Option, Some, None, refl, arith, ap, length-append}
use Rattle.std.specs.Prelude.{◌&&◌}
use Rattle.std.specs.Ordering.{int_eq}
use Rattle.std.proofs.lemmas.Bool.{cases_lt}
use Rattle.std.proofs.lemmas.Bool.Decides.{Decides-int_eq, nat_tests}
use Rattle.std.proofs.lemmas.Int.{ints}
use Rattle.half_grid.specs.Trapezoids.{Trapezoid}
use Rattle.half_grid.specs.declared.plane.Point.{Point}
use Rattle.oas_lex.specs.ShotText.{head, end, delta_text, text_of, fields_of, spelling_of, shot_text}
use Rattle.oas_lex.specs.Spelling.{groups, unsigned_text, signed_code, signed_text}
use Rattle.oas_lex.specs.declared.fields.ShotFields.{ShotFields}
use Rattle.oas_lex.proofs.ForCallers.{groups_last, groups_next, length_unsigned, text_opens, spelling_is}
use Rattle.shot_repeat.specs.Packer.{has_shape_of, is_step, step_between, followers, run_length, repetition_of, records_of, packed_records, packed_text}
use Rattle.shot_repeat.specs.Packing.{changed, changed_place, packed_record}
use Rattle.shot_repeat.specs.PackingLaws.{TextIsShort}
use Rattle.shot_repeat.specs.Records.{number_text, place_text, step_code, repetition_text, record_text}
use Rattle.shot_repeat.specs.Values.{shot_count}
use Rattle.shot_repeat.specs.declared.record.PackRecord.{PackRecord}
use Rattle.shot_repeat.specs.declared.record.Repetition.{Repetition}
use Rattle.shot_repeat.proofs.Followers.{run_few}
use Rattle.shot_repeat.proofs.Texts.{record_opens}

-- ---- numbers

groups_some : (more n : ℕ) → 1 ≤ length (groups more n)
groups_some zero n = omega arith
groups_some (suc more) n =
    elim (cases_lt n 128) [
      | inl small ↦ omega (arith, ap length (groups_last (suc more) n small))
      | inr large ↦ omega (arith, ap length (groups_next more n large))
    ]

-- a greater number has no fewer groups
groups_up : (more m n : ℕ) → m ≤ n → length (groups more m) ≤ length (groups more n)
groups_up zero m n up = omega arith
groups_up (suc more) m n up =
    elim (cases_lt m 128) [
      | inl small ↦ omega (arith, ap length (groups_last (suc more) m small), groups_some (suc more) n)
      | inr large ↦ (
          let rest = groups_up more (m / 128) (n / 128) (omega (arith, up)) in
          omega (arith, rest, ap length (groups_next more m large), ap length (groups_next more n (omega (arith, large, up))))
          )
    ]

-- no number has fewer where it may have more
groups_room : (more n : ℕ) → length (groups more n) ≤ length (groups (suc more) n)
groups_room zero n = omega (arith, groups_some 1 n)
groups_room (suc more) n =
    elim (cases_lt n 128) [
      | inl small ↦ omega (arith, ap length (groups_last (suc more) n small), groups_some (suc (suc more)) n)
      | inr large ↦ omega (arith, groups_room more (n / 128), ap length (groups_next more n large), ap length (groups_next (suc more) n large))
    ]

-- one of at most seven bits more has one group more at most
groups_next_few : (more m n : ℕ) → n ≤ 128 * m + 127 → length (groups (suc more) n) ≤ length (groups more m) + 1
groups_next_few more m n few =
    elim (cases_lt n 128) [
      | inl small ↦ omega (arith, ap length (groups_last (suc more) n small))
      | inr large ↦ omega (arith, groups_up more (n / 128) m (omega (arith, few)), ap length (groups_next more n large))
    ]

number_some : (n : ℕ) → 1 ≤ length (unsigned_text n)
unfolding unsigned_text
number_some n = groups_some 9 n

number_few : (m n : ℕ) → n ≤ 128 * m + 127 → length (unsigned_text n) ≤ length (unsigned_text m) + 1
unfolding unsigned_text
number_few m n few = omega (arith, groups_next_few 8 m n few, groups_room 8 m)

-- one that is little more than two others together has no more than both
number_of_two : (a b n : ℕ) → n ≤ 2 * (a + b) + 3 → length (unsigned_text n) ≤ length (unsigned_text a) + length (unsigned_text b)
number_of_two a b n few =
    elim (cases_lt a b) [
      | inl less ↦ omega (arith, number_few b n (omega (arith, few, less)), number_some a)
      | inr more ↦ omega (arith, number_few a n (omega (arith, few, more)), number_some b)
    ]

step_small : (z : ℤ) → step_code z ≤ 4 * unsigned_abs z + 3
step_small (pos n) = omega arith
step_small (negsuc n) = omega arith

code_small : (z : ℤ) → signed_code z ≤ 2 * unsigned_abs z + 1
code_small (pos n) = omega arith
code_small (negsuc n) = omega arith

code_large : (z : ℤ) → 2 * unsigned_abs z ≤ signed_code z
code_large (pos n) = omega arith
code_large (negsuc n) = omega arith

gap_small : (a b : ℤ) → unsigned_abs (b -ℤ a) ≤ unsigned_abs a + unsigned_abs b
gap_small a b = omega (arith, ints)

-- the step from one place to another
step_few : (a b : ℤ) → length (unsigned_text (step_code (b -ℤ a))) ≤ length (signed_text a) + length (signed_text b)
step_few a b =
    number_of_two (signed_code a) (signed_code b) (step_code (b -ℤ a))
    (omega (arith, step_small (b -ℤ a), gap_small a b, code_large a, code_large b))

gap_few : (a b : ℤ) → length (signed_text (b -ℤ a)) ≤ length (signed_text a) + length (signed_text b)
gap_few a b =
    number_of_two (signed_code a) (signed_code b) (signed_code (b -ℤ a))
    (omega (arith, code_small (b -ℤ a), gap_small a b, code_large a, code_large b))

-- ---- records

plain_is : (f : ShotFields) → length (text_of f) ≡ 2
    + (length (unsigned_text f.layer) + (length (unsigned_text f.datatype) + (length (unsigned_text f.width) + (length (unsigned_text f.height)
    + (length (delta_text f.left_delta) + (length (delta_text f.right_delta) + (length (signed_text f.x) + length (signed_text f.y))))))))
plain_is f =
    let y = signed_text f.y ++ [] in
    let x = signed_text f.x ++ y in
    let right = delta_text f.right_delta ++ x in
    let left = delta_text f.left_delta ++ right in
    let height = unsigned_text f.height ++ left in
    let width = unsigned_text f.width ++ height in
    let datatype = unsigned_text f.datatype ++ width in
    omega (
      arith,
      ap length (text_opens f []),
      length-append (text_of f) [],
      length-append (unsigned_text f.layer) datatype,
      length-append (unsigned_text f.datatype) width,
      length-append (unsigned_text f.width) height,
      length-append (unsigned_text f.height) left,
      length-append (delta_text f.left_delta) right,
      length-append (delta_text f.right_delta) x,
      length-append (signed_text f.x) y,
      length-append (signed_text f.y) [],
    )

record_is : (r : PackRecord) → length (record_text r) ≡ 2
    + (length (number_text r.layer) + (length (number_text r.datatype) + (length (number_text r.width) + (length (number_text r.height)
    + (length (delta_text r.left_delta) + (length (delta_text r.right_delta) + (length (place_text r.x) + (length (place_text r.y)
    + length (repetition_text r.repetition)))))))))
record_is r =
    let last = repetition_text r.repetition ++ [] in
    let y = place_text r.y ++ last in
    let x = place_text r.x ++ y in
    let right = delta_text r.right_delta ++ x in
    let left = delta_text r.left_delta ++ right in
    let height = number_text r.height ++ left in
    let width = number_text r.width ++ height in
    let datatype = number_text r.datatype ++ width in
    omega (
      arith,
      ap length (record_opens r []),
      length-append (record_text r) [],
      length-append (number_text r.layer) datatype,
      length-append (number_text r.datatype) width,
      length-append (number_text r.width) height,
      length-append (number_text r.height) left,
      length-append (delta_text r.left_delta) right,
      length-append (delta_text r.right_delta) x,
      length-append (place_text r.x) y,
      length-append (place_text r.y) last,
      length-append (repetition_text r.repetition) [],
    )

changed_few : (old now : ℕ) → length (number_text (changed old now)) ≤ length (unsigned_text now)
changed_few old now = by_test (nat_eq old now)
  where
    by_test : (p : Bool) → length (number_text (cond p None (Some now))) ≤ length (unsigned_text now)
    by_test true = omega arith
    by_test false = omega arith

place_few : (old now : ℤ) → length (place_text (changed_place old now)) ≤ length (signed_text now)
place_few old now = by_test (int_eq old now)
  where
    by_test : (p : Bool) → length (place_text (cond p None (Some now))) ≤ length (signed_text now)
    by_test true = omega arith
    by_test false = omega arith

-- but for its repetition a record is no longer than the plain one
record_few : (last : Option ShotFields) (f : ShotFields) (o : Option Repetition)
    → length (record_text (packed_record last f o)) ≤ length (text_of f) + length (repetition_text o)
record_few None f o =
    omega (arith, record_is (packed_record None f o), plain_is f, place_few (pos 0) f.x, place_few (pos 0) f.y)
record_few (Some e) f o =
    omega (
      arith,
      record_is (packed_record (Some e) f o),
      plain_is f,
      changed_few e.width f.width,
      changed_few e.height f.height,
      place_few e.x f.x,
      place_few e.y f.y,
    )

-- ---- the bytes of plain records, together

abbrev total : List ShotFields → ℕ
total [] = 0
total (f ∷ fs) = length (text_of f) + total fs

drop_few : (n : ℕ) (fs : List ShotFields) → total (drop n fs) ≤ total fs
drop_few zero fs = omega arith
drop_few (suc n) [] = omega arith
drop_few (suc n) (f ∷ fs) = omega (arith, drop_few n fs)

drop_two : (n : ℕ) (a b : ShotFields) (fs : List ShotFields) → 2 ≤ n → total (drop n (a ∷ b ∷ fs)) ≤ total fs
drop_two zero a b fs some = absurd (omega (arith, some))
drop_two (suc zero) a b fs some = absurd (omega (arith, some))
drop_two (suc (suc n)) a b fs some = drop_few n fs

plain_long : (f : ShotFields) → 6 + (length (signed_text f.x) + length (signed_text f.y)) ≤ length (text_of f)
plain_long f = omega (arith, plain_is f, number_some f.layer, number_some f.datatype, number_some f.width, number_some f.height)

-- ---- the second step of a run

right_true : (a b : Bool) → (a && b) ≡ true → b ≡ true
right_true true b e = e
right_true false b e = absurd cc

left_true : (a b : Bool) → (a && b) ≡ true → a ≡ true
left_true true b e = refl
left_true false b e = absurd cc

-- the second step is as long as the first
record IsSecond (step : Point) (b c : ShotFields) : Type 0 where
  x : c.x -ℤ b.x ≡ step.x
  y : c.y -ℤ b.y ≡ step.y

second_is : (step : Point) (b c : ShotFields) → is_step step b c ≡ true → IsSecond step b c
second_is step b c e =
    let places = right_true (has_shape_of b c) (int_eq (c.x -ℤ b.x) step.x && int_eq (c.y -ℤ b.y) step.y) e in
    record {
      x = (Decides-int_eq (c.x -ℤ b.x) step.x).0 (left_true (int_eq (c.x -ℤ b.x) step.x) (int_eq (c.y -ℤ b.y) step.y) places);
      y = (Decides-int_eq (c.y -ℤ b.y) step.y).0 (right_true (int_eq (c.x -ℤ b.x) step.x) (int_eq (c.y -ℤ b.y) step.y) places);
    }

followed : (p : Bool) (n : ℕ) → 1 ≤ cond p (suc n) 0 → (p ≡ true) × (cond p (suc n) 0 ≡ suc n)
followed true n some = (refl, refl)
followed false n some = absurd (omega (arith, some))

none_follows : (step : Point) (a b : ShotFields) → 2 ≤ followers step a (b ∷ []) → ⊥
none_follows step a b some = by_test (is_step step a b) some
  where
    by_test : (p : Bool) → 2 ≤ cond p 1 0 → ⊥
    by_test true h = omega (arith, h)
    by_test false h = omega (arith, h)

second_of : (step : Point) (a b c : ShotFields) (rest : List ShotFields) → 2 ≤ followers step a (b ∷ c ∷ rest) → IsSecond step b c
second_of step a b c rest some =
    let first = followed (is_step step a b) (followers step b (c ∷ rest)) (omega (arith, some)) in
    let next : 1 ≤ followers step b (c ∷ rest) = omega (arith, some, first.1) in
    second_is step b c (followed (is_step step b c) (followers step c rest) next).0

-- ---- a repetition

repeated_few : (step : Point) (b c : ShotFields) (more : ℕ) → more ≤ 16777216 → IsSecond step b c
    → length (repetition_text (Some (record { more = more; x = step.x; y = step.y }))) ≤ length (text_of b) + length (text_of c)
repeated_few step b c more few second =
    let n = unsigned_text more in
    let x = unsigned_text (step_code step.x) in
    let y = signed_text step.y in
    let x_few = step_few b.x c.x in
    let y_few = gap_few b.y c.y in
    let same_x = ap (λ (z : ℤ). length (unsigned_text (step_code z))) second.x in
    let same_y = ap (λ (z : ℤ). length (signed_text z)) second.y in
    omega (
      arith,
      length-append (n ++ x) y,
      length-append n x,
      length_unsigned more (omega (arith, few)),
      x_few,
      y_few,
      same_x,
      same_y,
      plain_long b,
      plain_long c,
    )

three : (n : ℕ) → nat_le 3 n ≡ true → 3 ≤ n
three n e = grind (arith, nat_tests)

repeats : (f : ShotFields) (fs : List ShotFields)
    → length (repetition_text (repetition_of (f ∷ fs))) + total (drop (shot_count (repetition_of (f ∷ fs)) - 1) fs) ≤ total fs
repeats f [] = omega arith
repeats f (b ∷ rest) = by_test rest (nat_le 3 (run_length (f ∷ b ∷ rest))) refl
  where
    by_test : (rest : List ShotFields) (p : Bool) → nat_le 3 (run_length (f ∷ b ∷ rest)) ≡ p
        → length (repetition_text (cond p (Some (record { more = run_length (f ∷ b ∷ rest) - 2; x = b.x -ℤ f.x; y = b.y -ℤ f.y })) None))
        + total (drop (shot_count (cond p (Some (record { more = run_length (f ∷ b ∷ rest) - 2; x = b.x -ℤ f.x; y = b.y -ℤ f.y })) None) - 1) (b ∷ rest))
        ≤ total (b ∷ rest)
    by_test rest false t = omega arith
    by_test [] true t =
        let long = three (run_length (f ∷ b ∷ [])) t in
        absurd (none_follows (step_between f b) f b (omega (arith, long)))
    by_test (c ∷ rest) true t =
        let step = step_between f b in
        let long = three (run_length (f ∷ b ∷ c ∷ rest)) t in
        let second = second_of step f b c rest (omega (arith, long)) in
        let own = repeated_few step b c (run_length (f ∷ b ∷ c ∷ rest) - 2) (omega (arith, run_few (f ∷ b ∷ c ∷ rest))) second in
        let left = drop_two (run_length (f ∷ b ∷ c ∷ rest) - 2 + 2 - 1) b c rest (omega (arith, long)) in
        omega (arith, own, left)

-- ---- the texts

records_few : (last : Option ShotFields) (skip : ℕ) (fs : List ShotFields)
    → length (flat_map record_text (records_of last skip fs)) ≤ total (drop skip fs)
records_few last zero [] = omega arith
records_few last (suc skip) [] = omega arith
records_few last (suc skip) (f ∷ fs) = records_few last skip fs
records_few last zero (f ∷ fs) =
    let o = repetition_of (f ∷ fs) in
    let rest = records_of (Some f) (shot_count o - 1) fs in
    omega (
      arith,
      length-append (record_text (packed_record last f o)) (flat_map record_text rest),
      record_few last f o,
      records_few (Some f) (shot_count o - 1) fs,
      repeats f fs,
    )

total_is : (l d : ℕ) (shots : List Trapezoid) → total (map (fields_of l d) shots) ≡ length (flat_map (spelling_of l d) shots)
total_is l d [] = refl
total_is l d (z ∷ shots) =
    omega (arith, total_is l d shots, length-append (spelling_of l d z) (flat_map (spelling_of l d) shots), ap length (spelling_is l d z))

pub text_is_short : TextIsShort
unfolding packed_text shot_text
text_is_short unit l d shots =
    let packed = flat_map record_text (packed_records l d shots) in
    let plain = flat_map (spelling_of l d) shots in
    omega (
      arith,
      records_few None 0 (map (fields_of l d) shots),
      total_is l d shots,
      length-append (head unit ++ packed) end,
      length-append (head unit) packed,
      length-append (head unit ++ plain) end,
      length-append (head unit) plain,
    )
