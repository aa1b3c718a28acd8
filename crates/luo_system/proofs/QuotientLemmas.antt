-- Quotients are rounded down.
use Rattle.std.proofs.Common.{◌≡◌, suc, ◌+◌, ◌*◌, ◌-◌, ◌<◌, ◌/◌, ◌%◌, arith, pos, negsuc}
use Rattle.std.proofs.Math.Nat.{div-add-mod}
use Rattle.std.proofs.Math.IntN.{pos-*ℤ-pos, pos-*ℤ-negsuc}
use Rattle.std.proofs.lemmas.Int.{ints}
use Rattle.luo_system.specs.Laws.{QuotientsRoundDown}

pub quotients-down : QuotientsRoundDown
quotients-down (pos n) k =
    let d = div-add-mod n (suc k) in
    let s : n % suc k < suc k = omega arith in
    (n % suc k, s, omega (arith, ints, d, pos-*ℤ-pos (suc k) (n / suc k)))
quotients-down (negsuc n) k =
    let d = div-add-mod n (suc k) in
    let s : n % suc k < suc k = omega arith in
    let m : suc k * suc (n / suc k) ≡ suc k * (n / suc k) + suc k = omega arith in
    (k - n % suc k, omega (arith, s), omega (arith, ints, d, s, m, pos-*ℤ-negsuc (suc k) (n / suc k)))
