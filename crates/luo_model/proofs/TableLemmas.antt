-- A node has one count at a size, and a site one total.
use Rattle.luo_finite.proofs.Sums.{Counts-unique}
use Rattle.luo_finite.proofs.Totals.{Totals-unique}
use Rattle.luo_model.specs.Program.{site_node}
use Rattle.luo_model.specs.Structures.{IsStructure}
use Rattle.luo_model.specs.Charges.{SiteCharges}
use Rattle.luo_model.specs.Laws.{CountsAreSingle, TotalsAreSingle}
use Rattle.luo_model.proofs.SiteLemmas.{site_charges_are_single}

pub counts_are_single : CountsAreSingle
counts_are_single p x n a b h k = Counts-unique (IsStructure p x n) a b h k

pub totals_are_single : TotalsAreSingle
totals_are_single p apart i n a b h k =
    Totals-unique (IsStructure p (site_node p i) n) (SiteCharges p i) a b (λ s x y m. site_charges_are_single p apart i s x y) h k
