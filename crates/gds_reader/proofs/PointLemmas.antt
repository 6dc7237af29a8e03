-- Points one after another.
use Rattle.std.proofs.Common.{◌≡◌, ℕ, zero, suc, ◌+◌, ◌*◌, List, [], ◌∷◌, ◌++◌, map, refl, ap, ◌∙◌, arith}
use Rattle.std.specs.List.{range_with_len}
use Rattle.std.proofs.lemmas.List.{map-append}
use Rattle.gds_reader.specs.Values.{point_at, points_from}

range_more : (a n : ℕ) → range_with_len a (suc n) ≡ range_with_len a n ++ (a + n) ∷ []
range_more a zero = let e : a ≡ a + 0 = omega arith in ap (λ x. x ∷ []) e
range_more a (suc n) =
    let e : (a + 1) + n ≡ a + suc n = omega arith in
    ap (λ xs. a ∷ xs) (range_more (a + 1) n ∙ ap (λ x. range_with_len (a + 1) n ++ x ∷ []) e)

-- one more point
pub points_more : (bytes : List ℕ) (at n : ℕ) → points_from bytes at (n + 1) ≡ points_from bytes at n ++ point_at bytes (at + 8 * n) ∷ []
points_more bytes at n =
    let e : n + 1 ≡ suc n = omega arith in
    rw e (ap (map (λ k. point_at bytes (at + 8 * k))) (range_more 0 n) ∙ map-append (λ k. point_at bytes (at + 8 * k))
    (range_with_len 0 n) ((0 + n) ∷ []) ∙ (let z : 0 + n ≡ n = omega arith in rw z refl))
