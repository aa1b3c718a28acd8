-- Stops that are passed on.
use Rattle.std.proofs.Common.{◌≡◌, Result, IfErr}
use Rattle.std.specs.Result.{IsErrAnd}
use Rattle.std.proofs.lemmas.Result.{err_from_is_err_and}
use Rattle.luo_rules.specs.declared.rule.Stop.{Stop}

-- a stop of a part is passed on as one of the whole
pub passed-on : {T : Type 0} (r : Result T Stop) (e : Stop) (P : Stop → Type 0) → IsErrAnd r (λ y. y ≡ e) → P e → IfErr r P
passed-on r e P h p = let fault = err_from_is_err_and r h in rw (fault.1, fault.2) p
