-- The steps that commands share from a program on: that it is founded, a size, and the tables.
use Rattle.std.specs.Prelude.{◌≡◌, ◌⊎◌, ◌<◌, ◌≤◌, ⊤, ℕ}
use Rattle.luo_model.specs.declared.table.Fill.{Fill}
use Rattle.luo_model.specs.Program.{Program}
use Rattle.luo_model.specs.Founded.{IsFounded}
use Rattle.luo_num.specs.declared.limits.TheConstants.{SIZE_LIMIT, LIST_SIZE_LIMIT, WORKER_LIMIT}
use Rattle.luo_engine.specs.Entries.{NoneOver}
use Rattle.luo_answer.specs.declared.status.Status.TheVariants.{Limit}
use Rattle.luo_answer.specs.FoundedRefusals.{FoundedRefusal}
use Rattle.luo_answer.specs.Lines.{size_line}
use Rattle.luo_answer.specs.Overflows.{OverflowRefusal}
use Rattle.luo_answer.specs.Step.{Step, ◌or_makes◌, RefusedWhere}
use Rattle.luo_answer.specs.WordRefusals.{list_size_line, workers_line}

-- the first rule of well-foundedness that is broken, and else the program is founded
abbrev pub founded : Program → Step ⊤
founded p = FoundedRefusal p or_makes λ _. IsFounded p

-- a size past the limit is refused
abbrev pub sized : ℕ → Step ℕ
sized n = RefusedWhere (SIZE_LIMIT < n) Limit size_line or_makes λ size. size ≡ n

-- and one past the limit of listings, where structures are looked at one by one
abbrev pub list_sized : ℕ → Step ℕ
list_sized n = RefusedWhere (LIST_SIZE_LIMIT < n) Limit list_size_line or_makes λ size. size ≡ n

-- no workers, and more than their limit, are refused
abbrev pub workers_of : ℕ → Step ℕ
workers_of w =
    RefusedWhere ((w ≡ 0) ⊎ (WORKER_LIMIT < w)) Limit workers_line or_makes λ workers. workers ≡ w

-- the first entry that overflows, and else no number up to size n does
abbrev pub tables : Fill → Program → ℕ → Step ⊤
tables fill p n = OverflowRefusal p fill n or_makes λ _. (m : ℕ) → m ≤ n → NoneOver p fill m
