-- The stripe lists of stripes one above another: one more, their files and their sums.
use Rattle.std.proofs.Common.{◌≡◌, ℕ, zero, suc, ◌+◌, ◌*◌, ◌≤◌, ◌^◌, ℤ, pos, ◌+ℤ◌, List}
use Rattle.std.proofs.Common.{[], ◌∷◌, ◌++◌, length, All, refl, ap, sym, ◌∙◌, arith, append_assoc, length-append, mul-suc}
use Rattle.std.proofs.lemmas.Int.{ints}
use Rattle.std.proofs.lemmas.List.{append-nil}
use Rattle.std.proofs.lemmas.List.Sums.{sum_by-append}
use Rattle.depot.specs.Content.{Content, with_file}
use Rattle.half_grid.specs.Trapezoids.{Trapezoid, IsShot}
use Rattle.geo_stream.specs.Flattened.{end_to_end}
use Rattle.field_split.specs.Cutting.{pieces_of}
use Rattle.field_split.specs.Fields.{IsFieldSize, AreStripeLists}
use Rattle.field_split.specs.Looks.{IsFieldShot}
use Rattle.field_split.proofs.ForCallers.{stripe_list_is}
use Rattle.shot_writer.specs.declared.parts.Head.{Head}
use Rattle.shot_writer.specs.declared.parts.Sums.{Sums}
use Rattle.shot_writer.specs.Writing.{triangles_in, triangles_of}
use Rattle.field_output.specs.declared.sums.StripeSums.{StripeSums}
use Rattle.field_output.specs.Lists.{lists_from, list_at}
use Rattle.field_output.specs.Stripes.{stripe_name, stripe_text, sums_from, sums_of, with_stripe_files}
use Rattle.field_output.proofs.FileLemmas.{pieces_number, triangles_few}

-- numbers
first_one : (k : ℤ) → k +ℤ pos 0 ≡ k
first_one k = omega (arith, ints)

next_one : (k : ℤ) (n : ℕ) → (k +ℤ pos 1) +ℤ pos n ≡ k +ℤ pos (suc n)
next_one k n = omega (arith, ints)

module _ (size : ℤ) (shots : List Trapezoid) where
  pub lists_length : (k : ℤ) (n : ℕ) → length (lists_from size shots k n) ≡ n
  lists_length k zero = refl
  lists_length k (suc n) = ap suc (lists_length (k +ℤ pos 1) n)

  lists_more : (k : ℤ) (n : ℕ) → lists_from size shots k (suc n) ≡ lists_from size shots k n ++ list_at size shots k n ∷ []
  lists_more k zero = ap (λ (m : ℤ). pieces_of size m shots ∷ []) (sym (first_one k))
  lists_more k (suc n) =
      ap (λ l. pieces_of size k shots ∷ l) (lists_more (k +ℤ pos 1) n ∙ ap (λ (m : ℤ). lists_from size shots
      (k +ℤ pos 1) n ++ pieces_of size m shots ∷ []) (next_one k n))

  -- one list more
  pub one_more : (k : ℤ) (n : ℕ) → lists_from size shots k (n + 1) ≡ lists_from size shots k n ++ list_at size shots k n ∷ []
  one_more k n =
      let more : n + 1 ≡ suc n = omega arith in
      ap (lists_from size shots k) more ∙ lists_more k n

  pub are_lists : IsFieldSize size → All IsShot shots → (k : ℤ) (n : ℕ) → AreStripeLists size k shots (lists_from size shots k n)
  are_lists sized legal k zero = tt
  are_lists sized legal k (suc n) = (stripe_list_is size k sized shots legal, are_lists sized legal (k +ℤ pos 1) n)

-- ---- the files

module _ (base : List ℕ) (h : Head) where
  pub files_more : (content : Content) (k : ℤ) (lists : List (List Trapezoid)) (pieces : List Trapezoid)
      → with_stripe_files content base h k (lists ++ pieces ∷ []) ≡ with_file (with_stripe_files content base h k lists) (stripe_name base (k +ℤ pos
      (length lists))) (stripe_text h pieces)
  files_more content k [] pieces = ap (λ (m : ℤ). with_file content (stripe_name base m) (stripe_text h pieces)) (sym (first_one k))
  files_more content k (list ∷ lists) pieces =
      let on = with_file content (stripe_name base k) (stripe_text h list) in
      files_more on (k +ℤ pos 1) lists pieces
      ∙ ap (λ (m : ℤ). with_file (with_stripe_files on base h (k +ℤ pos 1) lists) (stripe_name base m) (stripe_text h pieces)) (next_one k (length lists))

-- ---- the sums

pub sums_more : (k : ℤ) (lists : List (List Trapezoid)) (pieces : List Trapezoid) → sums_from k
    (lists ++ pieces ∷ []) ≡ sums_from k lists ++ record { number = k +ℤ pos (length lists); sums = sums_of pieces } ∷ []
sums_more k [] pieces = ap (λ (m : ℤ). record { number = m; sums = sums_of pieces } ∷ []) (sym (first_one k))
sums_more k (list ∷ lists) pieces =
    ap (λ (l : List StripeSums). record { number = k; sums = sums_of list } ∷ l)
    (sums_more (k +ℤ pos 1) lists pieces ∙ ap (λ (m : ℤ). sums_from (k +ℤ pos 1) lists ++ record { number = m; sums = sums_of pieces } ∷ [])
    (next_one k (length lists)))

pub sums_length : (k : ℤ) (lists : List (List Trapezoid)) → length (sums_from k lists) ≡ length lists
sums_length k [] = refl
sums_length k (list ∷ lists) = ap suc (sums_length (k +ℤ pos 1) lists)

ended_more : (lists : List (List Trapezoid)) (pieces : List Trapezoid) → end_to_end (lists ++ pieces ∷ []) ≡ end_to_end lists ++ pieces
ended_more [] pieces = append-nil pieces
ended_more (list ∷ lists) pieces = ap (λ l. list ++ l) (ended_more lists pieces) ∙ sym (append_assoc list (end_to_end lists) pieces)

-- the sums of all lists with one list more
pub all_more : (lists : List (List Trapezoid)) (pieces : List Trapezoid) (before more now : Sums) → before ≡ sums_of (end_to_end lists) → more ≡ sums_of pieces
    → now.shots ≡ before.shots + more.shots → now.triangles ≡ before.triangles + more.triangles → now ≡ sums_of (end_to_end (lists ++ pieces ∷ []))
all_more lists pieces before more now was is number triangles =
    let n : now.shots ≡ length (end_to_end (lists ++ pieces ∷ [])) =
    omega (
      arith,
      number,
      ap (λ (s : Sums). s.shots) was,
      ap (λ (s : Sums). s.shots) is,
      ap length (ended_more lists pieces),
      length-append
          (end_to_end lists) pieces,
    ) in
    let t : now.triangles ≡ triangles_of (end_to_end (lists ++ pieces ∷ [])) =
    omega (
      arith,
      triangles,
      ap (λ (s : Sums). s.triangles) was,
      ap (λ (s : Sums). s.triangles) is,
      ap triangles_of
          (ended_more lists pieces),
      sum_by-append triangles_in (end_to_end lists) pieces,
    ) in
    ap (λ (m : ℕ). record { shots = m; triangles = now.triangles }) n ∙ ap (λ (m : ℕ). record {
      shots = length (end_to_end
          (lists ++ pieces ∷ []));
      triangles = m;
    }) t

module _ (size : ℤ) (sized : IsFieldSize size) (shots : List Trapezoid) (each : All IsFieldShot shots) (few : length shots ≤ 33554432) where
  pub all_number : (k : ℤ) (n : ℕ) → length (end_to_end (lists_from size shots k n)) ≤ 2 ^ 53 * n
  all_number k zero = omega arith
  all_number k (suc n) =
      omega (
        arith,
        length-append (pieces_of size k shots) (end_to_end (lists_from size shots
            (k +ℤ pos 1) n)),
        pieces_number size k sized shots each few,
        all_number (k +ℤ pos 1) n,
        mul-suc (2 ^ 53) n,
      )

  pub all_triangles : (k : ℤ) (n : ℕ) → triangles_of (end_to_end (lists_from size shots k n)) ≤ 2 ^ 103 * n
  all_triangles k zero = omega arith
  all_triangles k (suc n) =
      omega (
        arith,
        sum_by-append triangles_in (pieces_of size k shots) (end_to_end (lists_from size shots
            (k +ℤ pos 1) n)),
        triangles_few size k sized shots each few,
        all_triangles (k +ℤ pos 1) n,
        mul-suc (2 ^ 103) n,
      )
