-- Counts, totals and rows.
use Rattle.std.specs.Prelude.{◌≡◌, ℕ, slice_get, Some}
use Rattle.luo_finite.specs.Listing.{Counts, Totals}
use Rattle.luo_model.specs.declared.table.Row.{Row}
use Rattle.luo_model.specs.Program.{Program, Procedure, site_node}
use Rattle.luo_model.specs.Structures.{IsStructure}
use Rattle.luo_model.specs.Charges.{SiteCharges}

-- the number of structures of node x of size n: a listing exists, and each has length c
abbrev pub IsCount : Program → ℕ → ℕ → ℕ → Type 0
IsCount p x n c = Counts (IsStructure p x n) c

-- the total of site i at size n: a listing of its node exists, and over each the charges of the
-- site sum to t
abbrev pub IsTotal : Program → ℕ → ℕ → ℕ → Type 0
IsTotal p i n t = Totals (IsStructure p (site_node p i) n) (SiteCharges p i) t

-- the row of procedure f: a size, the count of its parameter's node, and the total of its whole
abbrev pub IsRow : Program → ℕ → Row → Type 0
IsRow p f row =
    (P : Procedure) × (slice_get p.procs f ≡ Some P) × IsCount p P.on.node row.n row.count
    × IsTotal p P.site row.n row.total
