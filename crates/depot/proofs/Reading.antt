-- What the reading of a whole file concludes from its parts.
use Rattle.std.proofs.Common.{◌≡◌, ◌⊎◌, inl, inr, ℕ, ◌<◌, ◌≤◌, List, [], ◌++◌, length, Option, None, Some, Result, Err, IsSomeAnd, arith, sym, subst, ◌∙◌}
use Rattle.depot.specs.Counts.{Counts, Rose}
use Rattle.depot.specs.declared.outside.DepotBad.{DepotBad}
use Rattle.depot.specs.declared.outside.DepotBad.TheVariants as depot
use Rattle.depot.specs.declared.whole.Refused.TheVariants as whole
use Rattle.depot.specs.Refusals.{refused_as}

pub one_error : {T E : Type 0} (r : Result T E) (x y : E) → r ≡ Err x → r ≡ Err y → x ≡ y
one_error r x y e f = cc

pub refused_not_long : (bad : DepotBad) → refused_as bad ≡ whole.TooLong → ⊥
refused_not_long depot.Failed e = cc
refused_not_long depot.NoMemory e = cc

pub refused_fault : (bad : DepotBad) → refused_as bad ≡ whole.Fault → bad ≡ depot.Failed
refused_fault depot.Failed e = cc
refused_fault depot.NoMemory e = cc

-- what was read whole within a limit isn't longer
pub not_longer : (held : Option (List ℕ)) (bytes : List ℕ) (limit : ℕ) → held ≡ Some bytes → length bytes ≤ limit → IsSomeAnd held (λ b. limit < length b) → ⊥
not_longer None bytes limit e le long = cc
not_longer (Some b) bytes limit e le long =
    let same : b ≡ bytes = cc in
    absurd (omega (arith, long, same_length b bytes same))
  where
    same_length : (x y : List ℕ) → x ≡ y → length x ≡ length y
    same_length x y e = cc

pub not_missing : (held : Option (List ℕ)) (bytes : List ℕ) → held ≡ Some bytes → held ≡ None → ⊥
not_missing held bytes e f = cc

-- what is left of a file is longer than the limit, and so is the file
pub longer : (held : Option (List ℕ)) (first left : List ℕ) (limit : ℕ) → held ≡ Some left → first ≡ []
    → limit < length (first ++ left) → IsSomeAnd held (λ b. limit < length b)
longer held first left limit e none more =
    let whole : limit < length left = subst (λ (t : List ℕ). limit < length (t ++ left)) none more in
    subst (λ o. IsSomeAnd o (λ b. limit < length b)) (sym e) whole

-- nothing was counted, and then a want of memory or nothing
pub want_or_nothing : (o p q : Counts) → p ≡ o → Rose p.refused q.refused ⊎ (q ≡ p) → Rose o.refused q.refused ⊎ (q ≡ o)
want_or_nothing o p q e (inl rose) = inl (subst (λ (c : Counts). Rose c.refused q.refused) e rose)
want_or_nothing o p q e (inr same) = inr (same ∙ e)
