-- What the file of a stripe holds after each call of its writer, and how many triangles its pieces have at most.
use Rattle.std.proofs.Common.{◌≡◌, ℕ, ◌+◌, ◌*◌, ◌^◌, ◌≤◌, ℤ, pos, ◌-ℤ◌, ◌+ℤ◌, unsigned_abs, inl, inr, List}
use Rattle.std.proofs.Common.{[], ◌∷◌, ◌++◌, length, take, All, sym, ap, subst, refl, ◌∙◌, arith, append_assoc, mul-suc}
use Rattle.std.proofs.lemmas.Int.{ints, clamps, unsigned_abs-mul}
use Rattle.std.proofs.lemmas.List.{append-nil, length-append, take-append-le}
use Rattle.std.proofs.lemmas.List.Elements.{All-head, All-tail}
use Rattle.std.proofs.lemmas.List.Sums.{sum_by-cons}
use Rattle.std.proofs.lemmas.Nat.{mul-le}
use Rattle.depot.specs.Content.{Content, with_file, with_written, with_current, IsPartMade, IsPartWritten}
use Rattle.half_grid.specs.Trapezoids.{Trapezoid, IsShot, bottom_of, top_of}
use Rattle.field_split.specs.Cutting.{pieces_of}
use Rattle.field_split.specs.Fields.{IsFieldSize, IsStripeList}
use Rattle.field_split.specs.Looks.{IsFieldShot, IsWithinFieldReach}
use Rattle.field_split.proofs.ForCallers.{one_stripe_list, stripe_list_is, pieces_are_shots, pieces_fit, pieces_few}
use Rattle.shot_writer.specs.declared.parts.Head.{Head}
use Rattle.shot_writer.specs.declared.parts.Sums.{Sums}
use Rattle.oas_lex.specs.ShotText.{head, end, shot_text}
use Rattle.shot_writer.specs.Writing.{records_of, triangles_in, triangles_of, AreSumsAfter, no_sums}
use Rattle.shot_writer.proofs.ForCallers.{started_text, put_text, finished_text, put_part, finish_part}
use Rattle.field_output.specs.Stripes.{sums_of}

-- ---- triangles

abbrev Small : Trapezoid → Type 0
Small z = IsShot z × IsWithinFieldReach z

of_one : (z : Trapezoid) → Small z → triangles_in z ≤ 2 ^ 50
of_one z s =
    let legal = s.0.legal in
    let fits = s.1 in
    let rows : unsigned_abs (z.y1 -ℤ z.y0) ≤ 2 ^ 24 = omega (arith, ints, fits.not_too_high, legal.has_rows) in
    let sides : unsigned_abs (bottom_of z +ℤ top_of z) ≤ 2 ^ 26 = omega (arith, ints, clamps, fits.not_too_wide, legal.bottom, legal.top) in
    subst (λ (m : ℕ). m ≤ 2 ^ 50) (sym (unsigned_abs-mul (z.y1 -ℤ z.y0) (bottom_of z +ℤ top_of z))) (mul-le _ _ (2 ^ 24) (2 ^ 26) rows sides)

of_all : (zs : List Trapezoid) → All Small zs → triangles_of zs ≤ 2 ^ 50 * length zs
of_all [] h = omega arith
of_all (z ∷ zs) h =
    let split : triangles_of (z ∷ zs) ≡ triangles_in z + triangles_of zs = sum_by-cons triangles_in z zs in
    omega (arith, split, of_one z (All-head Small z zs h), of_all zs (All-tail Small z zs h), mul-suc (2 ^ 50) (length zs))

module _ (size k : ℤ) (sized : IsFieldSize size) (shots : List Trapezoid) (each : All IsFieldShot shots) (few : length shots ≤ 33554432) where
  legal : All IsShot shots
  legal = λ i d lt. (each i d lt).shot

  within : All IsWithinFieldReach shots
  within = λ i d lt. (each i d lt).reach

  pieces_small : All Small (pieces_of size k shots)
  pieces_small =
      let list = stripe_list_is size k sized shots legal in
      λ i d lt. (
        pieces_are_shots size k sized shots (pieces_of size k shots) legal list i d lt,
        pieces_fit size k sized (pos 16777216)
            (pos 33554432) shots (pieces_of size k shots) legal within list i d lt,
      )

  pub pieces_number : length (pieces_of size k shots) ≤ 2 ^ 53
  pieces_number = omega (arith, pieces_few size k shots (pieces_of size k shots) sized each (stripe_list_is size k sized shots legal), few)

  pub triangles_few : triangles_of (pieces_of size k shots) ≤ 2 ^ 103
  triangles_few = omega (arith, of_all (pieces_of size k shots) pieces_small, pieces_number)

-- the stripe list is the computed one
pub is_list : (size k : ℤ) (chosen own pieces : List Trapezoid) → IsFieldSize size → own ≡ chosen → All IsFieldShot own
    → IsStripeList size k chosen pieces → pieces ≡ pieces_of size k chosen
is_list size k chosen own pieces sized same each list =
    let legal : All IsShot chosen = subst (All IsShot) same (λ i d lt. (each i d lt).shot) in
    one_stripe_list size k sized chosen pieces (pieces_of size k chosen) legal list (stripe_list_is size k sized chosen legal)

-- ---- the file

made : (c now : Content) (name bytes : List ℕ) (n : ℕ) → n ≤ length bytes → now ≡ with_file c name (take n bytes) → IsPartMade c name bytes now
made c now name bytes n few e = inr (n, few, subst (λ (x : Content). x ≡ with_current (with_file c name (take n bytes)) x.current) (sym e) refl)

module _ (c : Content) (name : List ℕ) (h : Head) (shots : List Trapezoid) where
  abbrev text : List ℕ
  text = shot_text h.unit h.pair.layer h.pair.datatype shots

  whole_is : head h.unit ++ (records_of h.pair shots ++ end) ≡ text
  unfolding shot_text
  whole_is = sym (append_assoc (head h.unit) (records_of h.pair shots) end)

  head_few : length (head h.unit) ≤ length text
  head_few = omega (arith, ap length whole_is, length-append (head h.unit) (records_of h.pair shots ++ end))

  -- a prefix of the head is one of the text
  pub started_part : (now : Content) → IsPartMade c name (head h.unit) now → IsPartMade c name text now
  started_part now (inl same) = inl same
  started_part now (inr (n, few, e)) = inr (
    n,
    omega (arith, few, head_few),
    e ∙ ap (λ (bytes : List ℕ). with_current (with_file c name bytes) now.current) (sym (take-append-le n (head h.unit)
        (records_of h.pair shots ++ end) few) ∙ ap (take n) whole_is),
  )

  module _ (s : Content) (started : s ≡ with_file c name (head h.unit)) where
    pub put_cut : (now : Content) → IsPartWritten s (records_of h.pair shots) now → IsPartMade c name text now
    put_cut now part =
        let same : shot_text h.unit h.pair.layer h.pair.datatype ([] ++ shots ++ []) ≡ text = ap (shot_text h.unit h.pair.layer h.pair.datatype)
        (append-nil shots) in
        let p = put_part c s now name h.unit h.pair [] shots [] (started_text c s name h.unit h.pair started) part in
        subst (λ (bytes : List ℕ). IsPartMade c name bytes now) same (made c now name (shot_text h.unit h.pair.layer h.pair.datatype
        ([] ++ shots ++ [])) p.0 p.1 p.2)

    module _ (d : Content) (put : d ≡ with_written s (records_of h.pair shots)) where
      pub finished : (now : Content) → now ≡ with_written d end → now ≡ with_file c name text
      finished now e = finished_text c d now name h.unit h.pair shots (put_text c s d name h.unit h.pair [] shots
          (started_text c s name h.unit h.pair started) put) e

      pub finish_cut : (now : Content) → IsPartWritten d end now → IsPartMade c name text now
      finish_cut now part =
          let p = finish_part c d now name h.unit h.pair shots (put_text c s d name h.unit h.pair [] shots
          (started_text c s name h.unit h.pair started) put) part in
          made c now name text p.0 p.1 p.2

-- the sums of a file
pub sums_are : (before : Sums) (shots : List Trapezoid) (sums : Sums) → before ≡ no_sums → AreSumsAfter before shots sums → sums ≡ sums_of shots
sums_are before shots sums none are =
    let number : sums.shots ≡ length shots = omega (arith, are.shots, ap (λ (s : Sums). s.shots) none) in
    let triangles : sums.triangles ≡ triangles_of shots = omega (arith, are.triangles, ap (λ (s : Sums). s.triangles) none) in
    ap (λ (n : ℕ). record { shots = n; triangles = sums.triangles }) number ∙ ap (λ (n : ℕ). record { shots = length shots; triangles = n }) triangles
