-- What making a value asks for: measures, branches and statements within their limits.
use Rattle.std.specs.Prelude.{◌≡◌, ℕ, ◌+◌, ◌*◌, ◌^◌, ◌<◌, ◌≤◌, List, length, Some}
use Rattle.luo_num.specs.declared.limits.TheConstants.{NUMBER_LIMIT, STATEMENT_LIMIT}
use Rattle.luo_model.specs.Invariant.{inner_parts}
use Rattle.luo_rules.specs.declared.names.Meaning.TheVariants.{Measure}
use Rattle.luo_rules.specs.declared.setting.Setting.{Setting}
use Rattle.luo_rules.specs.Meanings.{meaning}
use Rattle.luo_rules.specs.Settings.{shape_at}

-- no measure is above the greatest charge
abbrev pub HasMeasuresWithin : Setting → Type 0
HasMeasuresWithin s =
    (text : List ℕ) (number value : ℕ) → meaning s.names text ≡ Some (Measure number value)
    → value ≤ NUMBER_LIMIT

-- the branches of each union have numbers of 32 bits
abbrev pub HasFewBranches : Setting → Type 0
HasFewBranches s = (x : ℕ) → length (inner_parts (shape_at s x)) < 2 ^ 32

-- so many statements may still come in a body that charges so much, with sites from this number on:
-- 1,024 in all
pub record HasRoom (statements own next : ℕ) : Type 0 where
  pub charges : own + statements * NUMBER_LIMIT ≤ STATEMENT_LIMIT * NUMBER_LIMIT
  pub sites : next + 2 * statements ≤ 2 ^ 32
