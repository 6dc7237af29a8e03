-- The shots of a band are put part by part.
use Rattle.std.proofs.Common.{ℕ, ◌+◌, ◌≤◌, ◌<◌, ◌^◌, ◌≡◌, List, ◌++◌, length, take, arith, sym, ap, subst, ◌∙◌}
use Rattle.std.proofs.lemmas.List.{length-append, take_all, take-append-le}
use Rattle.std.proofs.Math.Seq.{take-append-add}
use Rattle.std.proofs.lemmas.List.Sums.{sum_by-append}
use Rattle.std.proofs.lemmas.Grind.{flat_map-append}
use Rattle.depot.specs.Content.{Content, with_written, IsPartWritten}
use Rattle.half_grid.specs.Trapezoids.{Trapezoid}
use Rattle.layout_model.specs.declared.pair.Pair.{Pair}
use Rattle.fracture.specs.Cutting.{cut_list}
use Rattle.deck_plan.specs.Plans.{Planned}
use Rattle.shot_writer.specs.Writing.{AreSumsAfter, records_of, triangles_of, triangles_in}
use Rattle.shot_writer.specs.declared.parts.Sums.{Sums}
use Rattle.shot_output.specs.Bands.{band_shots}
use Rattle.shot_output.proofs.PutLemmas.{records_push, written_push}

module _ (p : Planned) (k : ℕ) where
  shots_push : (xs ys : List Trapezoid) → band_shots p (xs ++ ys) ≡ band_shots p xs ++ band_shots p ys
  shots_push xs ys = flat_map-append (cut_list p.deck.limits.height p.deck.limits.width) xs ys

  texts_push : (pair : Pair) (xs ys : List Trapezoid)
      → records_of pair (band_shots p (xs ++ ys)) ≡ records_of pair (band_shots p xs) ++ records_of pair (band_shots p ys)
  texts_push pair xs ys = ap (records_of pair) (shots_push xs ys) ∙ records_push p k pair (band_shots p xs) (band_shots p ys)

  pub content_more : (pair : Pair) (c₀ c now : Content) (given more : List Trapezoid) → c ≡ with_written c₀ (records_of pair (band_shots p given))
      → now ≡ with_written c (records_of pair (band_shots p more)) → now ≡ with_written c₀ (records_of pair (band_shots p (given ++ more)))
  content_more pair c₀ c now given more e f =
      written_push p k c₀ c now (records_of pair (band_shots p given)) (records_of pair (band_shots p more)) e f
      ∙ ap (with_written c₀) (sym (texts_push pair given more))

  pub sums_more : (first sums new : Sums) (given more : List Trapezoid) → AreSumsAfter first (band_shots p given) sums
      → AreSumsAfter sums (band_shots p more) new → AreSumsAfter first (band_shots p (given ++ more)) new
  sums_more first sums new given more a b =
      let one = a.shots in
      let two = a.triangles in
      subst (λ (shots : List Trapezoid). AreSumsAfter first shots new) (sym (shots_push given more))
      (record {
        shots = omega (arith, b.shots, one, length-append (band_shots p given) (band_shots p more));
        triangles = omega (arith, b.triangles, two, sum_by-append triangles_in (band_shots p given) (band_shots p more));
      })

  -- of the band's list some was given, and there is the rest
  pub part_given : (pair : Pair) (c₀ c : Content) (given rest traps : List Trapezoid) → traps ≡ given ++ rest
      → c ≡ with_written c₀ (records_of pair (band_shots p given)) → IsPartWritten c₀ (records_of pair (band_shots p traps)) c
  part_given pair c₀ c given rest traps is e =
      let xs = records_of pair (band_shots p given) in
      let zs = records_of pair (band_shots p rest) in
      let all : records_of pair (band_shots p traps) ≡ xs ++ zs =
      ap (λ (list : List Trapezoid). records_of pair (band_shots p list)) is ∙ texts_push pair given rest in (
        length xs,
        omega (arith, ap length all, length-append xs zs),
        e ∙ ap (with_written c₀) (sym (ap (take (length xs)) all ∙ take-append-le (length xs) xs zs (omega arith) ∙ take_all (length xs) xs (omega arith))),
      )

  -- of the band's list some was given, and there is more and the rest
  module _ (given more rest traps : List Trapezoid) (is : traps ≡ (given ++ more) ++ rest) where
    pub room_left : (first sums : Sums) → first.triangles + triangles_of (band_shots p traps) < 2 ^ 127
        → AreSumsAfter first (band_shots p given) sums → sums.triangles + triangles_of (band_shots p more) < 2 ^ 127
    room_left first sums room a =
        let two = a.triangles in
        let all : triangles_of (band_shots p traps) ≡ triangles_of (band_shots p given ++ band_shots p more) + triangles_of (band_shots p rest) =
        ap (λ (zs : List Trapezoid). triangles_of (band_shots p zs)) is
        ∙ ap triangles_of (shots_push (given ++ more) rest ∙ ap (λ (zs : List Trapezoid). zs ++ band_shots p rest) (shots_push given more))
        ∙ sum_by-append triangles_in (band_shots p given ++ band_shots p more) (band_shots p rest) in
        omega (arith, room, two, all, sum_by-append triangles_in (band_shots p given) (band_shots p more))

    pub part_put : (pair : Pair) (c₀ c now : Content) → c ≡ with_written c₀ (records_of pair (band_shots p given))
        → IsPartWritten c (records_of pair (band_shots p more)) now → IsPartWritten c₀ (records_of pair (band_shots p traps)) now
    part_put pair c₀ c now e part =
        let xs = records_of pair (band_shots p given) in
        let ys = records_of pair (band_shots p more) in
        let zs = records_of pair (band_shots p rest) in
        let all : records_of pair (band_shots p traps) ≡ (xs ++ ys) ++ zs =
        ap (λ (list : List Trapezoid). records_of pair (band_shots p list)) is
        ∙ texts_push pair (given ++ more) rest ∙ ap (λ (text : List ℕ). text ++ zs) (texts_push pair given more) in
        let n = length xs + part.0 in
        let inside : n ≤ length (xs ++ ys) = omega (arith, part.1, length-append xs ys) in (
          n,
          omega (arith, inside, ap length all, length-append (xs ++ ys) zs),
          written_push p k c₀ c now xs (take part.0 ys) e part.2
              ∙ ap (with_written c₀) (sym (take-append-add xs ys part.0) ∙ sym (take-append-le n (xs ++ ys) zs inside) ∙ ap (take n) (sym all)),
        )
