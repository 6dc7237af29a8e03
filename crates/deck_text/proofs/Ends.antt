-- Where the bytes end, and one more statement.
use Rattle.std.proofs.Common.{◌≡◌, ℕ, ◌≤◌, List, [], ◌∷◌, ◌++◌, length, drop, refl, ap, ◌∙◌}
use Rattle.std.proofs.lemmas.List.{drop_all, map-append}
use Rattle.deck_text.specs.Lines.{lines_of}
use Rattle.deck_text.specs.Statements.{Said}
use Rattle.deck_text.specs.SaidViews.{said_view, said_views}
use Rattle.deck_text.specs.declared.said.Said.{Said as LentSaid}

pub none_left : (bytes : List ℕ) (at : ℕ) → length bytes ≤ at → lines_of (drop at bytes) ≡ []
unfolding lines_of
none_left bytes at le = rw (drop_all at bytes le) refl

pub pushed : (xs ys : List LentSaid) (x : LentSaid) (m : Said) → ys ≡ xs ++ (x ∷ []) → said_view x ≡ m → said_views ys ≡ said_views xs ++ (m ∷ [])
pushed xs ys x m e f = ap said_views e ∙ (map-append said_view xs (x ∷ []) ∙ ap (λ (y : Said). said_views xs ++ (y ∷ [])) f)
