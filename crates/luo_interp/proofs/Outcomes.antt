-- What holds of an answer, where something else does.
use Rattle.std.proofs.Common.{Result, Ok, Err, IfOk}

pub ok_other : {A E : Type 0} (r : Result A E) (P Q : A → Type 0) → ((a : A) → P a → Q a) → IfOk r P → IfOk r Q
ok_other (Ok a) P Q h p = h a p
ok_other (Err e) P Q h p = tt
