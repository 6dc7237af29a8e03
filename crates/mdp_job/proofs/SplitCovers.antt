-- What the shots of the files of stripes keep of those of the file.
use Rattle.std.proofs.Common.{◌≡◌, inl, inr, ℤ, pos, ◌+ℤ◌, List, [], ◌∷◌, All, sym, ap, subst, ◌∙◌}
use Rattle.std.proofs.lemmas.List.Elements.{All-nil, All-cons, All-append}
use Rattle.half_grid.specs.Trapezoids.{Trapezoid, IsShot, FitsLimits, CoversExactly, count_in}
use Rattle.half_grid.specs.declared.plane.Tile.{Tile}
use Rattle.geo_stream.specs.Flattened.{end_to_end}
use Rattle.field_split.specs.Fields.{IsFieldSize, IsStripeList, AreStripeLists}
use Rattle.field_split.specs.Looks.{AreStripesOf}
use Rattle.field_split.proofs.ForCallers.{pieces_are_shots, pieces_fit, pieces_in_fields, all_counted}
use Rattle.shot_writer.specs.Writing.{triangles_of}
use Rattle.shot_output.proofs.ForCallers.{tiles_of}
use Rattle.field_output.specs.Stripes.{AreAllStripeLists}
use Rattle.mdp_job.specs.Denoted.{area_of}
use Rattle.mdp_job.specs.Splitting.{AreAllLists}
use Rattle.mdp_job.specs.Keeping.{LieInFields, HaveTiles, AreKept}

-- the triangles of shots are their tiles
have_tiles : (zs : List Trapezoid) → All IsShot zs → HaveTiles zs (triangles_of zs)
have_tiles zs shots =
    let found = tiles_of zs shots in
    record { tiles = found.0; each = found.1.each; count = found.1.count }

module _ (size : ℤ) (sized : IsFieldSize size) (shots : List Trapezoid) (legal : All IsShot shots) where
  -- what holds of each piece of each stripe list holds of all
  all_pieces : (P : Trapezoid → Type 0) → ((k : ℤ) (pieces : List Trapezoid) → IsStripeList size k shots pieces → All P pieces)
      → (k : ℤ) (lists : List (List Trapezoid)) → AreStripeLists size k shots lists → All P (end_to_end lists)
  all_pieces P each k [] h = All-nil P
  all_pieces P each k (pieces ∷ lists) h = All-append P pieces (end_to_end lists) (each k pieces h.0) (all_pieces P each (k +ℤ pos 1) lists h.1)

  in_fields : (k : ℤ) (lists : List (List Trapezoid)) → AreStripeLists size k shots lists → LieInFields size k lists
  in_fields k [] h = tt
  in_fields k (pieces ∷ lists) h = (pieces_in_fields size k sized shots pieces legal h.0, in_fields (k +ℤ pos 1) lists h.1)

  own_tiles : (k : ℤ) (lists : List (List Trapezoid)) → AreStripeLists size k shots lists → All (λ pieces. HaveTiles pieces (triangles_of pieces)) lists
  own_tiles k [] h = All-nil (λ pieces. HaveTiles pieces (triangles_of pieces))
  own_tiles k (pieces ∷ lists) h = All-cons (λ pieces. HaveTiles pieces (triangles_of pieces)) pieces lists
      (have_tiles pieces (pieces_are_shots size k sized shots pieces legal h.0))
      (own_tiles (k +ℤ pos 1) lists h.1)

  covers : (xs ys : List Trapezoid) (area : Tile → Type 0) → ((t : Tile) → count_in xs t ≡ count_in ys t) → CoversExactly ys area → CoversExactly xs area
  covers xs ys area same cover = record { once = λ t here. same t ∙ cover.once t here; never = λ t gone. same t ∙ cover.never t gone }

  stripes_keep : (first last : ℤ) (lists : List (List Trapezoid)) → AreStripesOf size shots first last → AreAllStripeLists shots size first last lists
      → AreKept size shots first lists
  stripes_keep first last lists stripes all =
      let same : (t : Tile) → count_in (end_to_end lists) t ≡ count_in shots t =
      λ t. all_counted size sized t first last shots lists stripes.within all.each all.number in
      let shown : All IsShot (end_to_end lists) =
      all_pieces IsShot (λ k pieces list. pieces_are_shots size k sized shots pieces legal list) first lists all.each in
      record {
        same = same;
        legal = shown;
        triangles = own_tiles first lists all.each;
        all_triangles = have_tiles (end_to_end lists) shown;
        fields = in_fields first lists all.each;
        within = λ height width within. all_pieces (FitsLimits height width)
            (λ k pieces list. pieces_fit size k sized height width shots pieces legal within list) first lists all.each;
        cover = λ input output cover. covers (end_to_end lists) shots (area_of input output) same cover;
      }

  nothing_kept : (first : ℤ) → shots ≡ [] → AreKept size shots first []
  nothing_kept first none = record {
    same = λ t. ap (λ (zs : List Trapezoid). count_in zs t) (sym none);
    legal = All-nil IsShot;
    fields = tt;
    triangles = All-nil (λ pieces. HaveTiles pieces (triangles_of pieces));
    all_triangles = have_tiles [] (All-nil IsShot);
    within = λ height width within. All-nil (FitsLimits height width);
    cover = λ input output cover. subst (λ (zs : List Trapezoid). CoversExactly zs (area_of input output)) none cover;
  }

  pub lists_keep : (first : ℤ) (lists : List (List Trapezoid)) → AreAllLists size shots first lists → AreKept size shots first lists
  lists_keep first lists (inl (none, empty)) = subst (λ (ls : List (List Trapezoid)). AreKept size shots first ls) (sym empty) (nothing_kept first none)
  lists_keep first lists (inr (last, stripes, all)) = stripes_keep first last lists stripes all
