-- The stripe list of a list of shots: there is one, it is the computed one, and what holds of each of its pieces.
use Rattle.std.proofs.Common.{◌≡◌, ℤ, List, [], ◌∷◌, ◌++◌, refl, sym, ap, subst, ◌∙◌, map, flat_map}
use Rattle.std.proofs.lemmas.List.Elements.{All-nil, All-head, All-tail, All-append}
use Rattle.std.specs.List.{All, AllZip}
use Rattle.half_grid.specs.Trapezoids.{Trapezoid, IsShot, FitsLimits}
use Rattle.geo_stream.specs.Flattened.{end_to_end}
use Rattle.field_split.specs.Fields.{IsFieldSize, AreShotPieces, IsStripeList}
use Rattle.field_split.specs.Laws.{LiesInOneField}
use Rattle.field_split.specs.Cutting.{pieces_of_shot, pieces_of}
use Rattle.field_split.proofs.FieldLemmas.{one_split, split_is, shot_pieces_shots, shot_pieces_fit, shot_pieces_in_fields}

mapped_end : (f : Trapezoid → List Trapezoid) (shots : List Trapezoid) → flat_map f shots ≡ end_to_end (map f shots)
mapped_end f [] = refl
mapped_end f (z ∷ shots) = ap (λ (xs : List Trapezoid). f z ++ xs) (mapped_end f shots)

module _ (size k : ℤ) (sized : IsFieldSize size) where
  each_split : (shots : List Trapezoid) → All IsShot shots → AllZip (AreShotPieces size k) shots (map (pieces_of_shot size k) shots)
  each_split [] h = tt
  each_split (z ∷ shots) h = (split_is size k sized z (All-head IsShot z shots h).legal, each_split shots (All-tail IsShot z shots h))

  pub stripe_list_is : (shots : List Trapezoid) → All IsShot shots → IsStripeList size k shots (pieces_of size k shots)
  stripe_list_is shots h = record { lists = map (pieces_of_shot size k) shots; each = each_split shots h; is = mapped_end (pieces_of_shot size k) shots }

  same_lists : (shots : List Trapezoid) (xs ys : List (List Trapezoid)) → All IsShot shots
      → AllZip (AreShotPieces size k) shots xs → AllZip (AreShotPieces size k) shots ys → xs ≡ ys
  same_lists [] [] [] h p q = refl
  same_lists [] [] (y ∷ ys) h p q = absurd q
  same_lists [] (x ∷ xs) ys h p q = absurd p
  same_lists (z ∷ shots) [] ys h p q = absurd p
  same_lists (z ∷ shots) (x ∷ xs) [] h p q = absurd q
  same_lists (z ∷ shots) (x ∷ xs) (y ∷ ys) h p q =
      let first = one_split size k sized z (All-head IsShot z shots h).legal x y p.0 q.0 in
      let rest = same_lists shots xs ys (All-tail IsShot z shots h) p.1 q.1 in
      cc

  pub one_stripe_list : (shots xs ys : List Trapezoid) → All IsShot shots → IsStripeList size k shots xs → IsStripeList size k shots ys → xs ≡ ys
  one_stripe_list shots xs ys h p q = p.is ∙ ap end_to_end (same_lists shots p.lists q.lists h p.each q.each) ∙ sym q.is

  -- ---- what holds of each piece

  all_of : (P Q : Trapezoid → Type 0) → ((z : Trapezoid) → Q z → All P (pieces_of_shot size k z))
      → (shots : List Trapezoid) → All Q shots → All P (pieces_of size k shots)
  all_of P Q each [] h = All-nil P
  all_of P Q each (z ∷ shots) h = All-append P (pieces_of_shot size k z) (pieces_of size k shots)
      (each z (All-head Q z shots h)) (all_of P Q each shots (All-tail Q z shots h))

  all_of_list : (P : Trapezoid → Type 0) (shots pieces : List Trapezoid) → All IsShot shots
      → IsStripeList size k shots pieces → All P (pieces_of size k shots) → All P pieces
  all_of_list P shots pieces h list all = subst (All P) (one_stripe_list shots (pieces_of size k shots) pieces h (stripe_list_is shots h) list) all

  pub pieces_are_shots : (shots pieces : List Trapezoid) → All IsShot shots → IsStripeList size k shots pieces → All IsShot pieces
  pieces_are_shots shots pieces h list = all_of_list IsShot shots pieces h list
      (all_of IsShot IsShot (λ z s. shot_pieces_shots size k sized z s.legal s) shots h)

  pub pieces_in_fields : (shots pieces : List Trapezoid) → All IsShot shots → IsStripeList size k shots pieces → All (LiesInOneField size k) pieces
  pieces_in_fields shots pieces h list =
      all_of_list (LiesInOneField size k) shots pieces h list
      (all_of (LiesInOneField size k) IsShot (λ z s. shot_pieces_in_fields size k sized z s.legal) shots h)

  abbrev Both : ℤ → ℤ → Trapezoid → Type 0
  Both height width z = IsShot z × FitsLimits height width z

  both : (height width : ℤ) (shots : List Trapezoid) → All IsShot shots → All (FitsLimits height width) shots → All (Both height width) shots
  both height width shots h f = λ i d lt. (h i d lt, f i d lt)

  pub pieces_fit : (height width : ℤ) (shots pieces : List Trapezoid) → All IsShot shots
      → All (FitsLimits height width) shots → IsStripeList size k shots pieces → All (FitsLimits height width) pieces
  pieces_fit height width shots pieces h f list =
      all_of_list (FitsLimits height width) shots pieces h list
      (all_of (FitsLimits height width) (Both height width)
      (λ z s. shot_pieces_fit size k sized z s.0.legal height width s.1) shots (both height width shots h f))
