-- The totals of a founded program as a function of sites and sizes, on any labels.
use Rattle.std.proofs.Common.{◌≡◌, ◌⊎◌, ℕ, ◌≤◌, ◌<◌, inl, inr, length, sum_by, sym, ◌∙◌, arith}
use Rattle.luo_finite.proofs.Decided.{Decided}
use Rattle.luo_finite.proofs.Sums.{Sums-by}
use Rattle.luo_finite.proofs.Totals.{Totals-of}
use Rattle.luo_model.specs.Tree.{Tree}
use Rattle.luo_model.specs.Program.{Program, shape_of, site_node}
use Rattle.luo_model.specs.Member.{Member}
use Rattle.luo_model.specs.Structures.{IsStructure, labels_from}
use Rattle.luo_model.specs.Charges.{SiteCharges}
use Rattle.luo_model.specs.Tables.{IsTotal}
use Rattle.luo_model.specs.Invariant.{IsProgram}
use Rattle.luo_model.specs.Founded.{IsFounded}
use Rattle.luo_model.proofs.Decisions.{fits_decided}
use Rattle.luo_counting.specs.Counted.{SumsAt}
use Rattle.luo_counting.proofs.Numbered.{room_of}
use Rattle.luo_founded.proofs.Listed.{listing_exists}
use Rattle.luo_founded.proofs.Charged.{one_site_charge}
use Rattle.luo_places.specs.relabelling.Relabelling.{relabelled}
use Rattle.luo_places.proofs.relabelling.Relabelled.{site_sent}
use Rattle.luo_places.proofs.relabelling.LabelMaps.{sums_at}

less_or_not : (a b : ℕ) → (a < b) ⊎ (b ≤ a)
less_or_not a b = grind arith

module _ (p : Program) (q : IsProgram p) (f : IsFounded p) where
  -- what the site charges on a member of its node, and 0 on another tree
  weigh : (i : ℕ) (t : Tree) → (i < length p.sites) ⊎ (length p.sites ≤ i) → Decided (Member p (site_node p i) t) → ℕ
  weigh i t (inl h) (inl m) = (one_site_charge p q f.no_endless i h t m).0
  weigh i t (inl h) (inr n) = 0
  weigh i t (inr h) d = 0

  pub weight : ℕ → Tree → ℕ
  weight i t = weigh i t (less_or_not i (length p.sites)) (fits_decided p t (shape_of p (site_node p i)))

  weighed : (i : ℕ) (t : Tree) (h : (i < length p.sites) ⊎ (length p.sites ≤ i)) (d : Decided (Member p (site_node p i) t)) → i < length p.sites → Member p (site_node p i) t → SiteCharges p i t (weigh i t h d)
  unfolding weigh
  weighed i t (inl h) (inl m) l k = (one_site_charge p q f.no_endless i h t m).1
  weighed i t (inl h) (inr n) l k = absurd (n k)
  weighed i t (inr h) d l k = absurd (omega (arith, h, l))

  -- the site charges its weight
  pub weight_charged : (i : ℕ) → i < length p.sites → (t : Tree) → Member p (site_node p i) t → SiteCharges p i t (weight i t)
  unfolding weight
  weight_charged i h t m = weighed i t (less_or_not i (length p.sites)) (fits_decided p t (shape_of p (site_node p i))) h m

  pub weight_is : (i : ℕ) → i < length p.sites → (t : Tree) (a : ℕ) → Member p (site_node p i) t → SiteCharges p i t a → a ≡ weight i t
  weight_is i h t a m c =
      let o = one_site_charge p q f.no_endless i h t m in
      o.2 a c ∙ sym (o.2 (weight i t) (weight_charged i h t m))

  -- other labels don't change it
  weight_sent : (i : ℕ) → i < length p.sites → (g : ℕ → ℕ) (t : Tree) → Member p (site_node p i) t → Member p (site_node p i) (relabelled g t) → weight i (relabelled g t) ≡ weight i t
  weight_sent i h g t m k = sym (weight_is i h (relabelled g t) (weight i t) k (site_sent g p i t (weight i t) (weight_charged i h t m)))

  -- the sum of what site i charges over the structures of size n
  pub total : ℕ → ℕ → ℕ
  total i n = sum_by (weight i) (listing_exists p q f (site_node p i) n).0

  pub total_known : (i n : ℕ) → i < length p.sites → SumsAt p (site_node p i) (weight i) n (total i n)
  unfolding total
  total_known i n h =
      let l = listing_exists p q f (site_node p i) n in
      sums_at p (site_node p i) n (weight i) (sum_by (weight i) l.0) (λ g s m k. weight_sent i h g s m k) (Sums-by (IsStructure p (site_node p i) n) (weight i) l.0 l.1)

  pub total_is : (i n : ℕ) → i < length p.sites → IsTotal p i n (total i n)
  total_is i n h =
      Totals-of (IsStructure p (site_node p i) n) (SiteCharges p i) (weight i) (total i n) (λ t s. weight_charged i h t s.0)
      (total_known i n h (labels_from 1 n) (room_of p.universe n))
