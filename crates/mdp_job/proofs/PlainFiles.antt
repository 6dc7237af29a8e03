-- What a plain shot file holds after each call of its writer, and how many triangles its shots have at most.
use Rattle.std.proofs.Common.{◌≡◌, ℕ, ◌+◌, ◌*◌, ◌^◌, ◌≤◌, ◌<◌, ℤ, ◌-ℤ◌, ◌+ℤ◌, unsigned_abs, inl, inr, List, [], ◌∷◌, ◌++◌, length, take, All, sym}
use Rattle.std.proofs.Common.{ap, subst, refl, ◌∙◌, arith, append_assoc, mul-suc}
use Rattle.std.proofs.lemmas.Int.{ints, unsigned_abs-mul}
use Rattle.std.proofs.lemmas.List.{append-nil, length-append, take-append-le}
use Rattle.std.proofs.lemmas.List.Elements.{All-head, All-tail}
use Rattle.std.proofs.lemmas.List.Sums.{sum_by-cons}
use Rattle.std.proofs.lemmas.Nat.{mul-le}
use Rattle.depot.specs.Content.{Content, with_file, with_written, with_current, IsPartMade, IsPartWritten}
use Rattle.half_grid.specs.Reach.{IsWithinReach}
use Rattle.half_grid.specs.Trapezoids.{Trapezoid, IsShot, bottom_of, top_of}
use Rattle.layout_model.specs.declared.pair.Pair.{Pair}
use Rattle.oas_lex.specs.ShotText.{head, end, shot_text}
use Rattle.shot_writer.specs.Writing.{records_of, triangles_in, triangles_of}
use Rattle.shot_writer.proofs.ForCallers.{started_text, put_text, finished_text, put_part, finish_part}

-- ---- triangles

small : (a b : ℤ) → IsWithinReach a → IsWithinReach b → unsigned_abs (a -ℤ b) ≤ 2 ^ 45
small a b p q = omega (arith, ints)

small_sum : (a b : ℤ) → unsigned_abs a ≤ 2 ^ 45 → unsigned_abs b ≤ 2 ^ 45 → unsigned_abs (a +ℤ b) ≤ 2 ^ 46
small_sum a b p q = omega (arith, ints)

of_one : (z : Trapezoid) → IsShot z → triangles_in z ≤ 2 ^ 91
of_one z shot =
    let r = shot.reach in
    let rows : unsigned_abs (z.y1 -ℤ z.y0) ≤ 2 ^ 45 = small _ _ r.y1 r.y0 in
    let sides : unsigned_abs (bottom_of z +ℤ top_of z) ≤ 2 ^ 46 =
    small_sum (bottom_of z) (top_of z) (small _ _ r.bottom_right r.bottom_left) (small _ _ r.top_right r.top_left) in
    subst (λ (m : ℕ). m ≤ 2 ^ 91) (sym (unsigned_abs-mul (z.y1 -ℤ z.y0) (bottom_of z +ℤ top_of z))) (mul-le _ _ (2 ^ 45) (2 ^ 46) rows sides)

of_all : (zs : List Trapezoid) → All IsShot zs → triangles_of zs ≤ 2 ^ 91 * length zs
of_all [] h = omega arith
of_all (z ∷ zs) h =
    let split : triangles_of (z ∷ zs) ≡ triangles_in z + triangles_of zs = sum_by-cons triangles_in z zs in
    omega (arith, split, of_one z (All-head IsShot z zs h), of_all zs (All-tail IsShot z zs h), mul-suc (2 ^ 91) (length zs))

pub has_room : (shots : List Trapezoid) → All IsShot shots → length shots ≤ 33554432 → triangles_of shots < 2 ^ 127
has_room shots legal few =
    let all = of_all shots legal in
    omega (arith, all, few)

-- ---- the file

made : (c now : Content) (name bytes : List ℕ) (n : ℕ) → n ≤ length bytes → now ≡ with_file c name (take n bytes) → IsPartMade c name bytes now
made c now name bytes n few e = inr (n, few, subst (λ (x : Content). x ≡ with_current (with_file c name (take n bytes)) x.current) (sym e) refl)

module _ (c : Content) (name : List ℕ) (unit : ℕ) (pair : Pair) (shots : List Trapezoid) where
  abbrev text : List ℕ
  text = shot_text unit pair.layer pair.datatype shots

  whole_is : head unit ++ (records_of pair shots ++ end) ≡ text
  unfolding shot_text
  whole_is = sym (append_assoc (head unit) (records_of pair shots) end)

  head_few : length (head unit) ≤ length text
  head_few = omega (arith, ap length whole_is, length-append (head unit) (records_of pair shots ++ end))

  -- a prefix of the head is one of the text
  pub started_part : (now : Content) → IsPartMade c name (head unit) now → IsPartMade c name text now
  started_part now (inl same) = inl same
  started_part now (inr (n, few, e)) = inr (
    n,
    omega (arith, few, head_few),
    e ∙ ap (λ (bytes : List ℕ). with_current (with_file c name bytes) now.current)
        (sym (take-append-le n (head unit) (records_of pair shots ++ end) few) ∙ ap (take n) whole_is),
  )

  module _ (s : Content) (started : s ≡ with_file c name (head unit)) where
    pub put_cut : (now : Content) → IsPartWritten s (records_of pair shots) now → IsPartMade c name text now
    put_cut now part =
        let same : shot_text unit pair.layer pair.datatype ([] ++ shots ++ []) ≡ text = ap (shot_text unit pair.layer pair.datatype) (append-nil shots) in
        let p = put_part c s now name unit pair [] shots [] (started_text c s name unit pair started) part in
        subst (λ (bytes : List ℕ). IsPartMade c name bytes now) same (made c now name (shot_text unit pair.layer pair.datatype ([] ++ shots ++ [])) p.0 p.1 p.2)

    module _ (d : Content) (put : d ≡ with_written s (records_of pair shots)) where
      pub finished : (now : Content) → now ≡ with_written d end → now ≡ with_file c name text
      finished now e = finished_text c d now name unit pair shots (put_text c s d name unit pair [] shots (started_text c s name unit pair started) put) e

      pub finish_cut : (now : Content) → IsPartWritten d end now → IsPartMade c name text now
      finish_cut now part =
          let p = finish_part c d now name unit pair shots (put_text c s d name unit pair [] shots (started_text c s name unit pair started) put) part in
          made c now name text p.0 p.1 p.2
