-- Writing to a terminal.
use Rattle.std.proofs.Common.{◌≡◌, ℕ, List, take, Option, None, Some, Result, Ok, Err, sym, subst, ◌∙◌}
use Rattle.std.proofs.lemmas.List.{append-nil}
use Rattle.std.specs.Io.KnownBytes.{Appends, Keeps, WriteAppends}

-- what is kept has nothing put to it
kept : (old new : Option (List ℕ)) (bytes : List ℕ) → Keeps old new → Appends old new (take 0 bytes)
kept None new bytes k = tt
kept (Some xs) None bytes k = k
kept (Some xs) (Some ys) bytes k = k ∙ sym (append-nil xs)

-- a call of `write` puts a first part of its bytes
pub written_once : {E : Type 0} (old new : Option (List ℕ)) (r : Result ℕ E) (bytes meant : List ℕ) → bytes ≡ meant
    → WriteAppends old new r bytes → (n : ℕ) × Appends old new (take n meant)
written_once old new (Ok n) bytes meant is w = (n, subst (λ b. Appends old new (take n b)) is w)
written_once old new (Err e) bytes meant is w = (0, kept old new meant w)
