-- The average that is written.
use Rattle.std.proofs.Common.{◌≡◌, ℕ, zero, suc, ◌<◌, ◌%◌, refl, sym, ap, arith}
use Rattle.std.specs.Int.{IsGcd}
use Rattle.std.proofs.lemmas.Nat.Gcd.{IsGcd-from_zero, IsGcd-from_mod}
use Rattle.std.proofs.Math.Nat.{mod-lt}
use Rattle.luo_fraction.specs.declared.fraction.Average.{Average}
use Rattle.luo_fraction.specs.Average.{IsAverage}
use Rattle.luo_fraction.proofs.AverageLemmas.{reduced, average-is_one}
use Rattle.luo_report.specs.Average.{divisor_in, divisor, average_of, fraction_text}
use Rattle.luo_report.specs.Laws.{AverageIsWritten}

divisor_in-is : (rounds a b : ℕ) → b < rounds → IsGcd a b (divisor_in rounds a b)
divisor_in-is zero a b h = absurd (omega (arith, h))
divisor_in-is (suc rounds) a zero h = IsGcd-from_zero a 0 refl
divisor_in-is (suc rounds) a (suc b) h =
    let some : 0 < suc b = omega arith in
    let less : a % suc b < suc b = mod-lt a some in
    IsGcd-from_mod a (suc b) (divisor_in rounds (suc b) (a % suc b)) (divisor_in-is rounds (suc b) (a % suc b) (omega (arith, h, less)))

pub average-written : AverageIsWritten
unfolding average_of
average-written total zero = refl
average-written total (suc k) =
    let some : 0 < suc k = omega arith in
    (some, reduced total (suc k) (divisor total (suc k)) some (divisor_in-is (suc (suc k)) total (suc k) (omega arith)))

-- an average is the one that is written
pub same_text : (total count : ℕ) (a : Average) → IsAverage total count a → fraction_text a ≡ fraction_text (average_of total count)
same_text total count a h = ap fraction_text (average-is_one total count a (average_of total count) h (average-written total count))
