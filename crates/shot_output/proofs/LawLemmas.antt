-- What holds of the shot list of each output.
use Rattle.std.proofs.Common.{ℕ, ℤ, ◌≡◌, List, ap, ◌∙◌, sym, subst, arith}
use Rattle.std.proofs.lemmas.Int.{ints}
use Rattle.half_grid.specs.declared.shot.Limits.{Limits}
use Rattle.deck_text.specs.Decks.{IsDeck}
use Rattle.deck_text.specs.Sound.{IsSound}
use Rattle.deck_text.specs.declared.deck.Deck.{Deck}
use Rattle.deck_plan.specs.Plans.{IsRead, planned_area}
use Rattle.shot_output.specs.ShotLists.{Rules, IsShotList}
use Rattle.shot_output.specs.Files.{rules_of}
use Rattle.shot_output.specs.Laws.{HasRules, ShotsAreLegal, ShotsFit, ShotsCover, ShotsAreFew, TrianglesAreTiles, OneShotList}
use Rattle.shot_output.proofs.CoverLemmas.{below_shots, below_fit, below_needless, list_covers}
use Rattle.shot_output.proofs.TileLemmas.{area_count}
use Rattle.shot_output.proofs.FrontLemmas.{one_list, same_list}

pub is_read : {bytes layout_name deck_name : List ℕ} {deck : Deck} → IsDeck bytes layout_name deck_name deck → IsRead deck
is_read {bytes} {layout_name} {deck_name} {deck} d = record { bytes = bytes; layout_name = layout_name; deck_name = deck_name; is = d }

-- a deck that is read has bands with rows, and limits of shots
pub has_rules : (layout_name deck_name : List ℕ) (deck : Deck) → IsSound layout_name deck_name deck → HasRules deck
has_rules layout_name deck_name deck s =
    let band = s.band_low in
    let width = s.limits.width_low in
    record { some_rows = omega (arith, ints, band); limits = record { some_rows = s.limits.height_low; wide = omega (arith, ints, width) } }

pub shots_are_legal : ShotsAreLegal
shots_are_legal p k shots h s = below_shots (rules_of p.deck) h.some_rows h.limits (planned_area p k) s.k shots s.below

pub shots_fit : ShotsFit
shots_fit p k shots h s = below_fit (rules_of p.deck) h.some_rows h.limits (planned_area p k) s.k shots s.below

pub shots_cover : ShotsCover
shots_cover p k shots h s = list_covers (rules_of p.deck) h.some_rows h.limits (planned_area p k) shots s

pub shots_are_few : ShotsAreFew
shots_are_few p k shots h s = below_needless (rules_of p.deck) h.some_rows h.limits (planned_area p k) s.k shots s.below

pub triangles_are_tiles : TrianglesAreTiles
triangles_are_tiles p k shots h s = area_count (planned_area p k) shots (shots_are_legal p k shots h s) (shots_cover p k shots h s)

pub one_shot_list : OneShotList
one_shot_list p q k m xs ys h band limits same s z =
    let rules : rules_of p.deck ≡ rules_of q.deck = ap (λ (b : ℤ). record { rows = b; height = p.deck.limits.height; width = p.deck.limits.width }) band
    ∙ ap (λ (l : Limits). record { rows = q.deck.band; height = l.height; width = l.width }) limits in
    one_list (rules_of p.deck) h.some_rows (planned_area p k) xs ys s
    (same_list (rules_of p.deck) (planned_area q m) (planned_area p k) (λ t. (same t).1) (λ t. (same t).0) ys
    (subst (λ (r : Rules). IsShotList r (planned_area q m) ys) (sym rules) z))
