-- What holds of bytes that are not told.
use Rattle.std.proofs.Common.{ℕ, List, None, Ok, Err, OnOk}
use Rattle.std.specs.declared.result.Result.{Result}
use Rattle.std.specs.Io.KnownBytes.{ReadConsumes}

pub untold_read : {E : Type 0} (r : Result ℕ E) (bytes : List ℕ) → ReadConsumes None None r bytes
untold_read (Ok n) bytes = (tt, λ _ _. tt)
untold_read (Err e) bytes = tt

pub on_ok_always : {T E P : Type 0} (r : Result T E) → P → OnOk r P
on_ok_always (Ok x) p = p
on_ok_always (Err e) p = tt
