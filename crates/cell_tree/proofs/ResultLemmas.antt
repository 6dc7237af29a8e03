-- What holds on success.
use Rattle.std.proofs.Common.{◌≡◌, ◌≢◌, List, [], ◌∷◌, Result, Ok, Err, OnOk, refl}

pub on_ok2 : {T E A B Q : Type 0} (r : Result T E) → OnOk r A → OnOk r B → (A → B → Q) → OnOk r Q
on_ok2 (Ok x) a b f = f a b
on_ok2 (Err e) a b f = tt

pub on_ok4 : {T E A B C D Q : Type 0} (r : Result T E) → OnOk r A → OnOk r B → OnOk r C → OnOk r D → (A → B → C → D → Q) → OnOk r Q
on_ok4 (Ok x) a b c d f = f a b c d
on_ok4 (Err e) a b c d f = tt

-- by whether a list is empty
pub by_empty : {X : Type 0} (xs : List X) (P : Type 0) → (xs ≡ [] → P) → (xs ≢ [] → P) → P
by_empty [] P empty some = empty refl
by_empty (x ∷ xs) P empty some = some (λ e. cc)
