-- Every count and every total of a founded program exists.
use Rattle.std.proofs.Common.{ℕ, ◌<◌, length, sum_by}
use Rattle.luo_finite.proofs.Decided.{Totals-by}
use Rattle.luo_finite.proofs.Sums.{Sums-by, Counts-from}
use Rattle.luo_model.specs.Program.{Program, site_node}
use Rattle.luo_model.specs.Structures.{IsStructure, labels_from}
use Rattle.luo_model.specs.Charges.{SiteCharges}
use Rattle.luo_model.specs.Tables.{IsCount, IsTotal}
use Rattle.luo_model.specs.Invariant.{IsProgram}
use Rattle.luo_model.specs.Founded.{IsFounded}
use Rattle.luo_model.proofs.Decisions.{structure_decided}
use Rattle.luo_founded.proofs.Listed.{listing_exists}
use Rattle.luo_founded.proofs.Charged.{site_charge}

module _ (p : Program) (q : IsProgram p) (f : IsFounded p) where
  pub count_exists : (x n : ℕ) → (c : ℕ) × IsCount p x n c
  count_exists x n =
      let l = listing_exists p q f x n in
      (sum_by (λ t. 1) l.0, Counts-from (IsStructure p x n) (sum_by (λ t. 1) l.0) (Sums-by (IsStructure p x n) (λ t. 1) l.0 l.1))

  pub total_exists : (i n : ℕ) → i < length p.sites → (t : ℕ) × IsTotal p i n t
  total_exists i n h =
      let l = listing_exists p q f (site_node p i) n in
      Totals-by (IsStructure p (site_node p i) n) (SiteCharges p i) (structure_decided p (site_node p i) (labels_from 1 n) n) (λ t s. site_charge p q f.no_endless i h t s.0) l.0 l.1
