-- What is said of an overflow, and its refusal.
use Rattle.std.specs.Prelude.{◌≡◌, ◌⊎◌, ◌<◌, ℕ, ◌++◌, List, codes, decimal}
use Rattle.luo_model.specs.declared.table.Entry.{Entry}
use Rattle.luo_model.specs.declared.table.Entry.TheVariants.{Count, Total}
use Rattle.luo_model.specs.declared.table.Fill.{Fill}
use Rattle.luo_model.specs.Program.{Program}
use Rattle.luo_engine.specs.Entries.{IsFirstOver}
use Rattle.luo_answer.specs.declared.status.Status.TheVariants as way
use Rattle.luo_answer.specs.Answer.{Answer, Refusal}
use Rattle.luo_answer.specs.Lines.{line}
use Rattle.luo_answer.specs.Names.{node_name, site_name}

-- `count of t.0`, `total of p.1`
abbrev pub entry_text : Program → Entry → List ℕ
entry_text p (Count x) = codes "count of " ++ node_name p x
entry_text p (Total i) = codes "total of " ++ site_name p i

-- what is said of an entry at this size
abbrev pub overflow_text : Program → Entry → ℕ → List ℕ
overflow_text p entry n = codes "overflow: " ++ entry_text p entry ++ codes " at size " ++ decimal n

abbrev pub overflow_line : Program → Entry → ℕ → List ℕ
overflow_line p entry n = line (overflow_text p entry n)

-- of the tables up to a last size, the first entry that overflows is named
abbrev pub OverflowRefusal : Program → Fill → ℕ → Answer → Type 0
OverflowRefusal p fill last answer =
    (entry : Entry) × (n : ℕ) × IsFirstOver p last fill entry n
    × (answer ≡ Refusal way.Overflow (overflow_line p entry n))

-- of totals that an audit finds: size m on analyze line j comes before size n on line k, on an
-- earlier line, or a lesser size on the same
abbrev pub IsEarlier : ℕ → ℕ → ℕ → ℕ → Type 0
IsEarlier j m k n = (j < k) ⊎ ((j ≡ k) × (m < n))

-- `overflow: audit of p at size 8`
abbrev pub audit_line : List ℕ → ℕ → List ℕ
audit_line name n = line (codes "overflow: audit of " ++ name ++ codes " at size " ++ decimal n)
