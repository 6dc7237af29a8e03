-- One stripe more: its rows, its pieces, its file and its sums.
use Rattle.std.proofs.Common.{◌≡◌, ℕ, ◌+◌, ◌≤◌, ◌<◌, ◌^◌, ℤ, pos, ◌+ℤ◌, ◌<ℤ◌, List, [], ◌∷◌, ◌++◌, length, All, ap, sym, subst, ◌∙◌, arith}
use Rattle.std.specs.List.{filter}
use Rattle.depot.specs.Content.{Content, with_file, IsPartMade}
use Rattle.half_grid.specs.Reach.{IsWithinReach}
use Rattle.half_grid.specs.Trapezoids.{Trapezoid, IsShot}
use Rattle.geo_stream.specs.Flattened.{end_to_end}
use Rattle.field_split.specs.Cutting.{pieces_of}
use Rattle.field_split.specs.Fields.{IsFieldSize, IsInStretch}
use Rattle.field_split.specs.Looks.{IsFieldShot}
use Rattle.shot_writer.specs.declared.parts.Head.{Head}
use Rattle.shot_writer.specs.declared.parts.Sums.{Sums}
use Rattle.field_output.specs.declared.sums.StripeSums.{StripeSums}
use Rattle.field_output.specs.Lists.{lists_from, list_at}
use Rattle.field_output.specs.Meeting.{IsPlaced, meets}
use Rattle.field_output.specs.Stripes.{stripe_name, stripe_text, sums_from, sums_of, with_stripe_files}
use Rattle.field_output.proofs.MeetLemmas.{same_pieces}
use Rattle.field_output.proofs.FileLemmas.{pieces_number, triangles_few}
use Rattle.field_output.proofs.ListLemmas.{lists_length, one_more, files_more, sums_more, all_more, all_number, all_triangles}

pub rows_at : (size size' k k' : ℤ) → size ≡ size' → k' ≡ k → ((y : ℤ) × IsWithinReach y × IsInStretch size k y) →
    (y : ℤ) × IsWithinReach y × IsInStretch size' k' y
rows_at size size' k k' e f row =
    (row.0, row.1, subst (λ (s : ℤ). IsInStretch s k' row.0) e (subst (λ (m : ℤ). IsInStretch size m row.0) (sym f) row.2))

pub pieces_as : (size size' first k : ℤ) (count place : ℕ) (shots : List Trapezoid) → pos 0 <ℤ size → All IsShot shots → All
    (IsPlaced size first count) shots → size ≡ size' → k ≡ first +ℤ pos place
    → pieces_of size' k (filter (meets size first place) shots) ≡ list_at size shots first place
pieces_as size size' first k count place shots some legal placed e f =
    let chosen = filter (meets size first place) shots in
    ap (λ (s : ℤ). pieces_of s k chosen) (sym e) ∙ ap (λ (m : ℤ). pieces_of size m chosen) f ∙ same_pieces size first count some place shots legal placed

-- the file of the stripe by its name and its pieces
pub file_as : (before now : Content) (name base : List ℕ) (k : ℤ) (h : Head) (pieces list : List Trapezoid) → name ≡ stripe_name base k
    → pieces ≡ list → now ≡ with_file before name (stripe_text h pieces) → now ≡ with_file before (stripe_name base k) (stripe_text h list)
file_as before now name base k h pieces list e f is =
    is ∙ ap (λ (n : List ℕ). with_file before n (stripe_text h pieces)) e ∙ ap (λ (l : List Trapezoid). with_file before (stripe_name base k)
    (stripe_text h l)) f

pub part_as : (before now : Content) (name base : List ℕ) (k : ℤ) (h : Head) (pieces list : List Trapezoid) → name ≡ stripe_name base k
    → pieces ≡ list → IsPartMade before name (stripe_text h pieces) now → IsPartMade before (stripe_name base k) (stripe_text h list) now
part_as before now name base k h pieces list e f part =
    subst (λ (l : List Trapezoid). IsPartMade before (stripe_name base k) (stripe_text h l) now) f (subst (λ (n : List ℕ). IsPartMade before n
    (stripe_text h pieces) now) e part)

module _ (size : ℤ) (shots : List Trapezoid) (first : ℤ) (place : ℕ) where
  pub each_more : (old new : List StripeSums) (number : ℤ) (sums : Sums) → old ≡ sums_from first (lists_from size shots first place)
      → number ≡ first +ℤ pos place → sums ≡ sums_of (list_at size shots first place)
      → new ≡ old ++ record { number = number; sums = sums } ∷ [] → new ≡ sums_from first (lists_from size shots first (place + 1))
  each_more old new number sums was n s is =
      let lists = lists_from size shots first place in
      let pieces = list_at size shots first place in
      is ∙ ap (λ (l : List StripeSums). l ++ record { number = number; sums = sums } ∷ []) was
      ∙ ap (λ (m : ℤ). sums_from first lists ++ record { number = m; sums = sums } ∷ []) (n ∙ ap (λ (j : ℕ). first +ℤ pos j) (sym
      (lists_length size shots first place)))
      ∙ ap (λ (t : Sums). sums_from first lists ++ record { number = first +ℤ pos (length lists); sums = t } ∷ []) s
      ∙ sym (sums_more first lists pieces) ∙ ap (sums_from first) (sym (one_more size shots first place))

  pub content_more : (before mid now : Content) (base : List ℕ) (h : Head) → mid ≡ with_stripe_files before base h first (lists_from size shots first place)
      → now ≡ with_file mid (stripe_name base (first +ℤ pos place)) (stripe_text h (list_at size shots first place))
      → now ≡ with_stripe_files before base h first (lists_from size shots first (place + 1))
  content_more before mid now base h was is =
      let lists = lists_from size shots first place in
      let pieces = list_at size shots first place in
      is ∙ ap (λ (c : Content). with_file c (stripe_name base (first +ℤ pos place)) (stripe_text h pieces)) was
      ∙ ap (λ (j : ℕ). with_file (with_stripe_files before base h first lists) (stripe_name base (first +ℤ pos j)) (stripe_text h pieces)) (sym
      (lists_length size shots first place))
      ∙ sym (files_more base h before first lists pieces) ∙ ap (with_stripe_files before base h first) (sym (one_more size shots first place))

  pub sums_step : (before more now : Sums) → before ≡ sums_of (end_to_end (lists_from size shots first place)) → more ≡ sums_of (list_at size shots first place)
      → now.shots ≡ before.shots + more.shots → now.triangles ≡ before.triangles + more.triangles → now ≡ sums_of (end_to_end
      (lists_from size shots first (place + 1)))
  sums_step before more now was is n t =
      all_more (lists_from size shots first place) (list_at size shots first place) before more now was is n t
      ∙ ap (λ (l : List (List Trapezoid)). sums_of (end_to_end l)) (sym (one_more size shots first place))

  module _ (sized : IsFieldSize size) (each : All IsFieldShot shots) (few : length shots ≤ 33554432) (below : place < 4096) (before more : Sums)
      (was : before ≡ sums_of (end_to_end (lists_from size shots first place))) (is : more ≡ sums_of (list_at size shots first place)) where
    pub shots_fit : before.shots + more.shots < 2 ^ 128
    shots_fit =
        omega (
          arith,
          below,
          ap (λ (s : Sums). s.shots) was,
          ap (λ (s : Sums). s.shots) is,
          all_number size sized shots each few first place,
          pieces_number size (first +ℤ pos place) sized shots each few,
        )

    pub triangles_fit : before.triangles + more.triangles < 2 ^ 128
    triangles_fit =
        omega (
          arith,
          below,
          ap (λ (s : Sums). s.triangles) was,
          ap (λ
              (s : Sums). s.triangles) is,
          all_triangles size sized shots each few first place,
          triangles_few size (first +ℤ pos place) sized shots each few,
        )
