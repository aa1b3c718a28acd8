-- What holds of the first entry that overflows.
use Rattle.std.specs.Prelude.{◌≡◌, ℕ, ◌≤◌}
use Rattle.luo_model.specs.declared.table.Entry.{Entry}
use Rattle.luo_model.specs.declared.table.Fill.{Fill}
use Rattle.luo_model.specs.Program.{Program}
use Rattle.luo_model.specs.Invariant.{IsProgram}
use Rattle.luo_model.specs.Founded.{IsFounded}
use Rattle.luo_engine.specs.Entries.{IsFirstOver, NoneOver}

-- at most one entry at one size is the first
abbrev pub FirstOverIsOne : Type 0
FirstOverIsOne =
    (p : Program) → IsProgram p → IsFounded p → (last : ℕ) (fill : Fill) (a b : Entry) (m n : ℕ)
    → IsFirstOver p last fill a m → IsFirstOver p last fill b n → (a ≡ b) × (m ≡ n)

-- where no entry is the first, no number of these sizes overflows
abbrev pub NoneOrFirst : Type 0
NoneOrFirst =
    (p : Program) → IsProgram p → IsFounded p → (last : ℕ) (fill : Fill)
    → ((entry : Entry) (n : ℕ) → IsFirstOver p last fill entry n → ⊥) → (n : ℕ) → n ≤ last
    → NoneOver p fill n

-- where no entry of any of these sizes overflows, none is the first
abbrev pub NoneIsFirst : Type 0
NoneIsFirst =
    (p : Program) (last : ℕ) (fill : Fill) → ((n : ℕ) → n ≤ last → NoneOver p fill n)
    → (entry : Entry) (n : ℕ) → IsFirstOver p last fill entry n → ⊥
