-- Counts and totals of the core form one by one: their numbers, ranks, levels and names are those of the source.
use Rattle.std.proofs.Common.{◌≡◌, ◌↔◌, ℕ, ◌<◌, List, ◌++◌, length, Some, slice_get, refl, sym, ap, ◌∙◌, subst}
use Rattle.std.specs.Prelude.{codes}
use Rattle.luo_finite.specs.Listing.{Totals}
use Rattle.luo_model.specs.declared.program.Def.{Def}
use Rattle.luo_model.specs.declared.program.Node.{Node}
use Rattle.luo_model.specs.declared.program.Site.{Site}
use Rattle.luo_model.specs.declared.table.Entry.TheVariants.{Count, Total}
use Rattle.luo_model.specs.Tree.{Tree}
use Rattle.luo_model.specs.Program.{Procedure, site_node}
use Rattle.luo_model.specs.Invariant.{IsProgram}
use Rattle.luo_model.specs.Structures.{IsStructure}
use Rattle.luo_model.specs.Charges.{SiteCharges}
use Rattle.luo_model.specs.Founded.{IsFounded}
use Rattle.luo_model.specs.Levels.{IsRank, IsLevel}
use Rattle.luo_model.specs.Tables.{IsCount, IsTotal}
use Rattle.luo_source.specs.Plain.Source.{Source}
use Rattle.luo_rules.specs.Checks.{IsSource, IsChecked}
use Rattle.luo_rules.specs.Whole.{core}
use Rattle.luo_rules.proofs.Lists.{some_same, below_get}
use Rattle.luo_rules.proofs.CleanSource.{Clean}
use Rattle.luo_meaning.specs.Rows.{IsStructureOf, IsTotalOf}
use Rattle.luo_meaning.specs.Ranks.{IsRankOf}
use Rattle.luo_meaning.specs.Sites.{SomeSiteOf}
use Rattle.luo_meaning.specs.Places.{Placed}
use Rattle.luo_meaning.specs.Entries.{constructs, site_places, place_text, IsEntryText, IsNumberOf, HasRank, HasLevel}
use Rattle.luo_meaning.proofs.CheckedSource.{checked_program}
use Rattle.luo_meaning.proofs.ConstructPlaces.{node_is, construct_there, node_below}
use Rattle.luo_meaning.proofs.Held.{held}
use Rattle.luo_meaning.proofs.OverKept.{site_kept, related}
use Rattle.luo_meaning.proofs.RanksKept.{rank_kept}
use Rattle.luo_meaning.proofs.RowsKept.{clean_source, counts_same, totals_same}
use Rattle.luo_meaning.proofs.SitesKept.{InNode, InType, Related}
use Rattle.luo_meaning.proofs.SitePlaces.{site_is, site_there}

module _ (source : Source) (is : IsSource source) (checked : IsChecked source (core source)) where
  c : Clean source
  c = clean_source source is checked.1.0

  program : IsProgram (core source)
  program = checked_program source (core source) is checked

  -- a count
  pub count_kept : (x n v : ℕ) → ((x < length (core source).nodes) × IsCount (core source) x n v) ↔ IsNumberOf source (Count x) n v
  count_kept x n v = (
    λ h. let k = construct_there source c x h.0 in (k.0, k.1, counts_same (IsStructure (core source) x n) (IsStructureOf source k.0.form n) v (structures k.0 k.1) h.1),
    λ h. (node_below source c x h.0 h.1, counts_same (IsStructureOf source h.0.form n) (IsStructure (core source) x n) v (λ t. let b = structures h.0 h.1 t in (b.1, b.0)) h.2),
  )
    where
      structures : (k : Placed) → slice_get (constructs source) x ≡ Some k → (t : Tree) → IsStructure (core source) x n t ↔ IsStructureOf source k.form n t
      structures k e t = let m = held source c x k.form (node_is source c x k e).holds t in ((λ h. (m.0 h.0, h.1, h.2)), λ h. (m.1 h.0, h.1, h.2))

  -- what holds of this site
  this_site : (i : ℕ) (Q : InNode) (P : InType) → Related source Q P
      → ((j x : ℕ) (C D : Tree → ℕ → Type 0) (L M : ℕ → Type 0) → ((t : Tree) (q : ℕ) → C t q ↔ D t q) → ((n : ℕ) → L n ↔ M n) → Q j x C L → Q j x D M)
      → ((i < length (core source).sites) × Q i (site_node (core source) i) (SiteCharges (core source) i) (IsLevel (core source) i)) ↔ SomeSiteOf source (λ j e charges level. (j ≡ i) × P j e charges level)
  this_site i Q P related ext =
      let Q' : InNode = λ j x C L. (j ≡ i) × Q j x C L in
      let P' : InType = λ j e D M. (j ≡ i) × P j e D M in
      let r : Related source Q' P' = λ j x e C D L M h same deep. let b = related j x e C D L M h same deep in ((λ q. (q.0, b.0 q.1)), λ q. (q.0, b.1 q.1)) in
      let k = site_kept source is checked.1.0 program Q' P' r (λ j x C D L M same deep q. (q.0, ext j x C D L M same deep q.1)) in
      let All : ℕ → Type 0 = λ j. (j < length (core source).sites) × Q j (site_node (core source) j) (SiteCharges (core source) j) (IsLevel (core source) j) in (
        λ h. k.0 (i, h.0, (refl, h.1)),
        λ h. let g = k.1 h in subst All g.2.0 (g.1, g.2.1),
      )

  -- a total
  pub total_kept : (i n v : ℕ) → ((i < length (core source).sites) × IsTotal (core source) i n v) ↔ IsNumberOf source (Total i) n v
  total_kept i n v =
      this_site i (λ j x charges level. Totals (IsStructure (core source) x n) charges v) (λ j e charges level. IsTotalOf source e charges n v) (related source is checked.1.0 n v)
      (λ j x C D L M same deep q. totals_same (IsStructure (core source) x n) (IsStructure (core source) x n) C D v (λ t. ((λ h. h), λ h. h)) (λ t r. (same t r).0) q)

  -- the level of a site
  pub level_kept : (i l : ℕ) → ((i < length (core source).sites) × IsLevel (core source) i l) ↔ HasLevel source i l
  level_kept i l = this_site i (λ j x charges level. level l) (λ j e charges level. level l) (λ j x e C D L M h same deep. deep l) (λ j x C D L M same deep q. (deep l).0 q)

  module _ (f : IsFounded (core source)) where
    -- ranks
    pub node_rank : (x r : ℕ) → ((x < length (core source).nodes) × IsRank (core source) x r) ↔ HasRank source (Count x) r
    node_rank x r = (
      λ h. let k = construct_there source c x h.0 in (k.0, k.1, (rank_kept source c f x k.0.form (node_is source c x k.0 k.1).holds r).0 h.1),
      λ h. (node_below source c x h.0 h.1, (rank_kept source c f x h.0.form (node_is source c x h.0 h.1).holds r).1 h.2),
    )

    pub site_rank : (i r : ℕ) → ((i < length (core source).sites) × IsRank (core source) (site_node (core source) i) r) ↔ HasRank source (Total i) r
    site_rank i r = this_site i (λ j x charges level. IsRank (core source) x r) (λ j e charges level. IsRankOf source e r) (λ j x e C D L M h same deep. rank_kept source c f x e h r) (λ j x C D L M same deep q. q)

  -- what a node is called
  pub node_name_kept : (x : ℕ) (text : List ℕ)
      → ((node : Node) × (d : Def) × (slice_get (core source).nodes x ≡ Some node) × (slice_get (core source).defs node.owner ≡ Some d) × (text ≡ codes "count of " ++ place_text d.name node.place)) ↔ IsEntryText source (Count x) text
  node_name_kept x text = (forth, back)
    where
      called : (k : Placed) (node : Node) (d : Def) → slice_get (constructs source) x ≡ Some k → slice_get (core source).nodes x ≡ Some node → slice_get (core source).defs node.owner ≡ Some d → codes "count of " ++ place_text d.name node.place ≡ codes "count of " ++ place_text k.name k.place
      called k node d e there owner =
          let n = node_is source c x k e in
          let same : n.node ≡ node = some_same n.node node (sym n.there ∙ there) in
          let one : n.def ≡ d = some_same n.def d (sym n.owner ∙ (ap (λ (z : Node). slice_get (core source).defs z.owner) same ∙ owner)) in
          ap (λ (z : Node). codes "count of " ++ place_text d.name z.place) (sym same) ∙ (ap (λ (z : Def). codes "count of " ++ place_text z.name n.node.place) (sym one)
          ∙ (ap (λ z. codes "count of " ++ place_text z n.node.place) n.name ∙ ap (λ z. codes "count of " ++ place_text k.name z) n.place))

      forth : (node : Node) × (d : Def) × (slice_get (core source).nodes x ≡ Some node) × (slice_get (core source).defs node.owner ≡ Some d) × (text ≡ codes "count of " ++ place_text d.name node.place) → IsEntryText source (Count x) text
      forth (node, d, there, owner, e) =
          let k = construct_there source c x (below_get (core source).nodes x node there) in
          (k.0, k.1, e ∙ called k.0 node d k.1 there owner)

      back : IsEntryText source (Count x) text → (node : Node) × (d : Def) × (slice_get (core source).nodes x ≡ Some node) × (slice_get (core source).defs node.owner ≡ Some d) × (text ≡ codes "count of " ++ place_text d.name node.place)
      back (k, there, e) = let n = node_is source c x k there in (n.node, n.def, n.there, n.owner, e ∙ sym (called k n.node n.def there n.there n.owner))

  -- and a site
  pub site_name_kept : (i : ℕ) (text : List ℕ)
      → ((site : Site) × (P : Procedure) × (slice_get (core source).sites i ≡ Some site) × (slice_get (core source).procs site.caller ≡ Some P) × (text ≡ codes "total of " ++ place_text P.name site.place)) ↔ IsEntryText source (Total i) text
  site_name_kept i text = (forth, back)
    where
      called : (k : List ℕ × ℕ) (site : Site) (P : Procedure) → slice_get (site_places source) i ≡ Some k → slice_get (core source).sites i ≡ Some site → slice_get (core source).procs site.caller ≡ Some P → codes "total of " ++ place_text P.name site.place ≡ codes "total of " ++ place_text k.0 k.1
      called k site P e there caller =
          let n = site_is source is checked i k e in
          let same : n.site ≡ site = some_same n.site site (sym n.there ∙ there) in
          let one : n.P ≡ P = some_same n.P P (sym n.caller ∙ (ap (λ (z : Site). slice_get (core source).procs z.caller) same ∙ caller)) in
          ap (λ (z : Site). codes "total of " ++ place_text P.name z.place) (sym same) ∙ (ap (λ (z : Procedure). codes "total of " ++ place_text z.name n.site.place) (sym one)
          ∙ (ap (λ z. codes "total of " ++ place_text z n.site.place) n.name ∙ ap (λ z. codes "total of " ++ place_text k.0 z) n.place))

      forth : (site : Site) × (P : Procedure) × (slice_get (core source).sites i ≡ Some site) × (slice_get (core source).procs site.caller ≡ Some P) × (text ≡ codes "total of " ++ place_text P.name site.place) → IsEntryText source (Total i) text
      forth (site, P, there, caller, e) =
          let k = site_there source is checked i (below_get (core source).sites i site there) in
          (k.0, k.1, e ∙ called k.0 site P k.1 there caller)

      back : IsEntryText source (Total i) text → (site : Site) × (P : Procedure) × (slice_get (core source).sites i ≡ Some site) × (slice_get (core source).procs site.caller ≡ Some P) × (text ≡ codes "total of " ++ place_text P.name site.place)
      back (k, there, e) = let n = site_is source is checked i k there in (n.site, n.P, n.there, n.caller, e ∙ sym (called k n.site n.P there n.there n.caller))
