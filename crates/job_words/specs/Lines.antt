-- The word that the line of a refused shot file names.
use Rattle.std.specs.Prelude.{ℕ, List, [], ◌∷◌}

-- FILE of `shots FILE`, `pack FILE OUT`, `unpack FILE OUT` and `split SIZE FILE OUT`
abbrev pub file_word : List (List ℕ) → List ℕ
file_word [] = []
file_word (command ∷ []) = []
file_word (command ∷ file ∷ []) = file
file_word (command ∷ file ∷ out ∷ []) = file
file_word (command ∷ size ∷ file ∷ out ∷ more) = file
