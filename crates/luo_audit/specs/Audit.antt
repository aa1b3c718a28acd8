-- What an audit answers.
use Rattle.std.specs.Prelude.{◌≡◌, ℕ, ◌<◌, ◌≤◌, List, Some, slice_get}
use Rattle.std.specs.List.{AllZip}
use Rattle.luo_num.specs.declared.TheConstants.{MAX}
use Rattle.luo_num.specs.declared.limits.TheConstants.{WALKED_LIMIT}
use Rattle.luo_model.specs.Tree.{Tree}
use Rattle.luo_model.specs.Program.{Program, Procedure}
use Rattle.luo_model.specs.Structures.{IsOrderedListing}
use Rattle.luo_model.specs.Charges.{Charges}
use Rattle.luo_model.specs.Tables.{IsCount, IsTotal, IsRow}
use Rattle.luo_audit.specs.Pieces.{piece_sums}
use Rattle.luo_audit.specs.declared.auditing.Audited.{Audited}
use Rattle.luo_audit.specs.declared.auditing.AuditError.{AuditError}
use Rattle.luo_audit.specs.declared.auditing.AuditError.TheVariants.{TooMany, Over, NoMemory}

module _ (p : Program) (f n : ℕ) where
  -- what procedure f charges on the structures of its parameter's node of size n, in their order
  abbrev pub AreCharges : List ℕ → Type 0
  AreCharges charges =
      (P : Procedure) × (slice_get p.procs f ≡ Some P) × (l : List Tree)
      × IsOrderedListing p P.on.node n l × AllZip (Charges p f) l charges

  -- the structures have charges, and the pieces of these have these sums
  pub record IsPieceSums (workers : ℕ) (sums : List ℕ) : Type 0 where
    pub exists : (charges : List ℕ) × AreCharges charges
    pub each : (charges : List ℕ) → AreCharges charges → sums ≡ piece_sums charges workers

  -- the number of structures, and the sum of what is charged on all of them
  abbrev pub CountIs : ℕ → Type 0
  CountIs c = (P : Procedure) × (slice_get p.procs f ≡ Some P) × IsCount p P.on.node n c

  abbrev pub TotalIs : ℕ → Type 0
  TotalIs t = (P : Procedure) × (slice_get p.procs f ≡ Some P) × IsTotal p P.site n t

  -- there are so few structures that they are walked
  abbrev pub AreFew : Type 0
  AreFew = (c : ℕ) × CountIs c × (c ≤ WALKED_LIMIT)

  -- there are few structures, and their total overflows
  abbrev pub IsOver : Type 0
  IsOver = AreFew × ((t : ℕ) × TotalIs t × (MAX < t))

  -- the row of size n, and the sums of the pieces
  pub record IsAudit (workers : ℕ) (a : Audited) : Type 0 where
    pub size : a.row.n ≡ n
    pub right : IsRow p f a.row
    pub sums : IsPieceSums workers a.sums
    pub few : a.row.count ≤ WALKED_LIMIT
    pub small : a.row.total ≤ MAX

  -- too many structures, with their number; few, with a total that overflows; that memory was
  -- refused says only that they are few
  abbrev pub Explains : AuditError → Type 0
  Explains (TooMany c) = CountIs c × (WALKED_LIMIT < c)
  Explains Over = IsOver
  Explains NoMemory = AreFew
