-- A refusal that is handed on.
use Rattle.std.proofs.Common.{◌≡◌, Result, Ok, Err, sym, subst}
use Rattle.std.specs.Result.{IsErr, IsErrAnd, IfOk, IfErr}

pub handed_on : {V E : Type 0} (P : E → Type 0) (r : Result V E) (bad : E) → IsErr r → IsErrAnd r (λ e. e ≡ bad) → P bad → IfErr r P
handed_on P (Ok v) bad is and p = absurd and
handed_on P (Err e) bad is and p = subst P (sym and) p

-- what a result says that says something stronger
pub ok_weaker : {V E : Type 0} (P Q : V → Type 0) (r : Result V E) → ((v : V) → P v → Q v) → IfOk r P → IfOk r Q
ok_weaker P Q (Ok v) f h = f v h
ok_weaker P Q (Err e) f h = h

pub err_weaker : {V E : Type 0} (P Q : E → Type 0) (r : Result V E) → ((e : E) → P e → Q e) → IfErr r P → IfErr r Q
err_weaker P Q (Ok v) f h = h
err_weaker P Q (Err e) f h = f e h
