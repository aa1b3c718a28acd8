-- Places, ranks, levels and the order of entries of the source of binary trees.
use Rattle.std.proofs.Common.{◌≡◌, ◌⊎◌, ℕ, zero, suc, ◌≤◌, List, [], ◌∷◌, Some, slice_get, codes, refl, sym, ap, ◌∙◌, subst, inl, inr, arith}
use Rattle.luo_model.specs.declared.table.Entry.TheVariants.{Total}
use Rattle.luo_model.specs.Tree.{Tree, Atom, Inj, Tup, Coll, size_of}
use Rattle.luo_model.specs.Member.{Member}
use Rattle.luo_source.specs.declared.names.Name.{Name}
use Rattle.luo_source.specs.Plain.Types as type
use Rattle.luo_source.specs.Plain.Types.{TypeExpr, Named, Epsilon, Union, Product, Coll, no_exprs, an_expr}
use Rattle.luo_source.specs.Plain.Source.{Source}
use Rattle.luo_rules.specs.declared.names.Meaning.TheVariants as mean
use Rattle.luo_rules.specs.Definitions.{Definition, definitions, names_of}
use Rattle.luo_rules.specs.Meanings.{meaning}
use Rattle.luo_rules.specs.Sources.{name, binary_source}
use Rattle.luo_rules.specs.Whole.{core}
use Rattle.luo_rules.proofs.Lists.{some_same, none_some}
use Rattle.luo_meaning.specs.Defined.{DefinesType}
use Rattle.luo_meaning.specs.Structures.{exprs_in, IsOf, empty, branch}
use Rattle.luo_meaning.specs.Structures as structures
use Rattle.luo_meaning.specs.Types.{LeadsTo, itself, union_of, product_of}
use Rattle.luo_meaning.specs.Types as types
use Rattle.luo_meaning.specs.Constructs.{IsConstruct}
use Rattle.luo_meaning.specs.Ranks.{MayBeEmpty, KeepsSize, by_branch, by_factor, by_component, HasChain, IsRankOf}
use Rattle.luo_meaning.specs.Levels.{ProcLevel}
use Rattle.luo_meaning.specs.Entries.{HasRank}
use Rattle.luo_meaning.specs.Facts.{PlacesOfBinaryTrees, RanksOfBinaryTrees, LevelsOfBinaryTrees, OrderOfBinaryTrees}
use Rattle.luo_meaning.proofs.Named.{named_type}
use Rattle.luo_meaning.proofs.RowsKept.{type_kept}
use Rattle.luo_meaning.proofs.SourceMeanings.{binary_clean}

pub places_of_binary_trees : PlacesOfBinaryTrees
places_of_binary_trees = (refl, refl)

-- ---- what type expressions lead to

abbrev form_number : TypeExpr → ℕ
form_number (Named name) = 0
form_number (Epsilon at) = 1
form_number (type.Atom weight weight_at at) = 2
form_number (Union parts) = 3
form_number (Product parts at) = 4
form_number (Coll kind part bound at) = 5

abbrev inside : TypeExpr → List TypeExpr
inside (Union parts) = exprs_in parts
inside (Product parts at) = exprs_in parts
inside _ = []

leads_self : (source : Source) (c e : TypeExpr) → IsConstruct e → LeadsTo source c e → c ≡ e
leads_self source c e q itself = refl
leads_self source c e q (types.by_name right is l) = absurd q

-- a name of a definition leads where its right side does
leads_named : (source : Source) (c : TypeExpr) (name : Name) → IsConstruct c → LeadsTo source c (Named name) → (right : TypeExpr) × DefinesType source name.text right × LeadsTo source c right
leads_named source c name q itself = absurd q
leads_named source c name q (types.by_name right is l) = (right, is, l)

right_of : (i : ℕ) (d : Definition) (text : List ℕ) (right : TypeExpr) → slice_get (definitions binary_source) i ≡ Some d → meaning (names_of binary_source) text ≡ Some (mean.Definition i) → DefinesType binary_source text right → right ≡ d.right
right_of i d text right there means is =
    let n = named_type binary_source binary_clean text right is in
    let same : n.i ≡ i = number n.i i (sym n.means ∙ means) in
    let one : n.d ≡ d = some_same n.d d (sym n.is ∙ (ap (slice_get (definitions binary_source)) same ∙ there)) in
    sym n.right_side ∙ ap (λ (z : Definition). z.right) one
  where
    number : (i j : ℕ) → Some (mean.Definition i) ≡ Some (mean.Definition j) → i ≡ j
    number i j e = cc

-- ---- the types of binary trees

abbrev node_name : ℕ → TypeExpr
node_name at = Named (name (codes "node") at)

abbrev leaf_name : ℕ → TypeExpr
leaf_name at = Named (name (codes "leaf") at)

abbrev tree_name : ℕ → TypeExpr
tree_name at = Named (name (codes "tree") at)

abbrev product : TypeExpr
product = Product (an_expr (node_name 20) (an_expr (tree_name 22) (an_expr (tree_name 24) no_exprs))) 18

abbrev union : TypeExpr
union = Union (an_expr (leaf_name 16) (an_expr product no_exprs))

abbrev Keeps : TypeExpr → TypeExpr → Type 0
Keeps e f = KeepsSize binary_source e f

defines_leaf : DefinesType binary_source (codes "leaf") (Epsilon 3)
defines_leaf = (_, inl refl, (_, inl refl, refl), refl)

defines_node : DefinesType binary_source (codes "node") (type.Atom 1 10 8)
defines_node = (_, inr (inl refl), (_, inl refl, refl), refl)

defines_tree : DefinesType binary_source (codes "tree") union
defines_tree = (_, inr (inr (inl refl)), (_, inl refl, refl), refl)

-- what a step goes from
record From (e f : TypeExpr) : Type 0 where
  pub c : TypeExpr
  pub to : LeadsTo binary_source c e
  pub is_construct : IsConstruct c
  pub i : ℕ
  pub is : slice_get (inside c) i ≡ Some f
  pub others : form_number c ≡ 4 → (k : ℕ) (other : TypeExpr) → slice_get (inside c) k ≡ Some other → (k ≡ i → ⊥) → MayBeEmpty binary_source other

-- no collection stands in this source
from : (e f : TypeExpr) → ((c : TypeExpr) → LeadsTo binary_source c e → form_number c ≡ 5 → ⊥) → Keeps e f → From e f
from e f none (by_branch {parts} i l is) = record { c = Union parts; to = l; is_construct = tt; i = i; is = is; others = λ e. absurd (omega (arith, e)) }
from e f none (by_factor {parts} {at} i l is others) = record { c = Product parts at; to = l; is_construct = tt; i = i; is = is; others = λ e. others }
from e f none (by_component {kind} {bound} {at} l allows) = absurd (none (Coll kind f bound at) l refl)

-- steps from a construct itself
here : (e f : TypeExpr) → IsConstruct e → (form_number e ≡ 5 → ⊥) → (step : Keeps e f) → (i : ℕ) × (slice_get (inside e) i ≡ Some f) × (form_number e ≡ 4 → (k : ℕ) (other : TypeExpr) → slice_get (inside e) k ≡ Some other → (k ≡ i → ⊥) → MayBeEmpty binary_source other)
here e f q five step =
    let s = from e f (λ c l n. five (ap form_number (sym (leads_self binary_source c e q l)) ∙ n)) step in
    let same : s.c ≡ e = leads_self binary_source s.c e q s.to in
    (s.i, subst (λ z. slice_get (inside z) s.i ≡ Some f) same s.is, subst (λ z. form_number z ≡ 4 → (k : ℕ) (other : TypeExpr) → slice_get (inside z) k ≡ Some other → (k ≡ s.i → ⊥) → MayBeEmpty binary_source other) same s.others)

-- a step from a name of a definition is one from its right side
behind_name : (n : Name) (i : ℕ) (d : Definition) (f : TypeExpr) → slice_get (definitions binary_source) i ≡ Some d → meaning (names_of binary_source) n.text ≡ Some (mean.Definition i) → Keeps (Named n) f → Keeps d.right f
behind_name n i d f there means (by_branch {parts} j l is) =
    let r = leads_named binary_source (Union parts) n tt l in by_branch j (subst (LeadsTo binary_source (Union parts)) (right_of i d n.text r.0 there means r.1) r.2) is
behind_name n i d f there means (by_factor {parts} {at} j l is others) =
    let r = leads_named binary_source (Product parts at) n tt l in by_factor j (subst (LeadsTo binary_source (Product parts at)) (right_of i d n.text r.0 there means r.1) r.2) is others
behind_name n i d f there means (by_component {kind} {bound} {at} l allows) =
    let r = leads_named binary_source (Coll kind f bound at) n tt l in by_component (subst (LeadsTo binary_source (Coll kind f bound at)) (right_of i d n.text r.0 there means r.1) r.2) allows

no_step : (e f : TypeExpr) → IsConstruct e → (form_number e ≡ 5 → ⊥) → inside e ≡ [] → Keeps e f → ⊥
no_step e f q five none step = let s = here e f q five step in absurd (none_some f (ap (λ z. slice_get z s.0) (sym none) ∙ s.1))

leaf_none : (f : TypeExpr) → Keeps (Epsilon 3) f → ⊥
leaf_none f = no_step (Epsilon 3) f tt (λ e. absurd (omega (arith, e))) refl

node_none : (f : TypeExpr) → Keeps (type.Atom 1 10 8) f → ⊥
node_none f = no_step (type.Atom 1 10 8) f tt (λ e. absurd (omega (arith, e))) refl

-- the node isn't empty
no_size : (t : Tree) → Member (core binary_source) 1 t → size_of t ≡ 0 → ⊥
no_size (Atom w l) m e = omega (arith, m.0, e)
no_size (Inj zero t) m e = absurd m
no_size (Inj (suc i) t) m e = absurd m
no_size (Tup ts) m e = absurd m
no_size (Coll ts) m e = absurd m

node_full : (at : ℕ) → MayBeEmpty binary_source (node_name at) → ⊥
node_full at (t, is, none) = no_size t ((type_kept binary_source binary_clean (name (codes "node") at) 1 refl t).1 is) none

-- from the product one comes to the node alone
from_product : (f : TypeExpr) → Keeps product f → f ≡ node_name 20
from_product f step = let s = here product f tt (λ e. absurd (omega (arith, e))) step in by s.0 s.1 (s.2 refl)
  where
    by : (i : ℕ) → slice_get (inside product) i ≡ Some f → ((k : ℕ) (other : TypeExpr) → slice_get (inside product) k ≡ Some other → (k ≡ i → ⊥) → MayBeEmpty binary_source other) → f ≡ node_name 20
    by zero e others = sym (some_same (node_name 20) f e)
    by (suc i) e others = absurd (node_full 20 (others 0 (node_name 20) refl (λ z. omega (arith, z))))

from_union : (f : TypeExpr) → Keeps union f → (f ≡ leaf_name 16) ⊎ (f ≡ product)
from_union f step = let s = here union f tt (λ e. absurd (omega (arith, e))) step in by s.0 s.1
  where
    by : (i : ℕ) → slice_get (inside union) i ≡ Some f → (f ≡ leaf_name 16) ⊎ (f ≡ product)
    by zero e = inl (sym (some_same (leaf_name 16) f e))
    by (suc zero) e = inr (sym (some_same product f e))
    by (suc (suc i)) e = absurd (none_some f e)

-- ---- ranks

none_chain : (e : TypeExpr) → ((f : TypeExpr) → Keeps e f → ⊥) → (k : ℕ) → HasChain binary_source k e → k ≤ 0
none_chain e none zero h = omega arith
none_chain e none (suc k) (f, step, rest) = absurd (none f step)

node_chain : (at k : ℕ) → HasChain binary_source k (node_name at) → k ≤ 0
node_chain at = none_chain (node_name at) (λ f step. node_none f (behind_name (name (codes "node") at) 1 (record { name = name (codes "node") 6; right = type.Atom 1 10 8 }) f refl refl step))

leaf_chain : (at k : ℕ) → HasChain binary_source k (leaf_name at) → k ≤ 0
leaf_chain at = none_chain (leaf_name at) (λ f step. leaf_none f (behind_name (name (codes "leaf") at) 0 (record { name = name (codes "leaf") 1; right = Epsilon 3 }) f refl refl step))

product_chain : (k : ℕ) → HasChain binary_source k product → k ≤ 1
product_chain zero h = omega arith
product_chain (suc k) (f, step, rest) = let l = node_chain 20 k (subst (HasChain binary_source k) (from_product f step) rest) in omega (arith, l)

union_chain : (k : ℕ) → HasChain binary_source k union → k ≤ 2
union_chain zero h = omega arith
union_chain (suc k) (f, step, rest) =
    elim (from_union f step) [
      | inl e ↦ let l = leaf_chain 16 k (subst (HasChain binary_source k) e rest) in omega (arith, l)
      | inr e ↦ let l = product_chain k (subst (HasChain binary_source k) e rest) in omega (arith, l)
    ]

tree_chain : (at k : ℕ) → HasChain binary_source k (tree_name at) → k ≤ 2
tree_chain at zero h = omega arith
tree_chain at (suc k) (f, step, rest) =
    union_chain (suc k) (f, behind_name (name (codes "tree") at) 2 (record { name = name (codes "tree") 14; right = union }) f refl refl step, rest)

empty_tree : (at : ℕ) → MayBeEmpty binary_source (tree_name at)
empty_tree at = (Inj 1 (Atom 0 0), structures.by_name union defines_tree (branch 0 (leaf_name 16) refl (structures.by_name (Epsilon 3) defines_leaf empty)), refl)

product_step : Keeps product (node_name 20)
product_step = by_factor 0 itself refl others
  where
    others : (k : ℕ) (other : TypeExpr) → slice_get (inside product) k ≡ Some other → (k ≡ 0 → ⊥) → MayBeEmpty binary_source other
    others zero other e n = absurd (n refl)
    others (suc zero) other e n = subst (MayBeEmpty binary_source) (some_same (tree_name 22) other e) (empty_tree 22)
    others (suc (suc zero)) other e n = subst (MayBeEmpty binary_source) (some_same (tree_name 24) other e) (empty_tree 24)
    others (suc (suc (suc k))) other e n = absurd (none_some other e)

rank_leaf : IsRankOf binary_source (Epsilon 3) 0
rank_leaf = (tt, none_chain (Epsilon 3) leaf_none)

rank_node : IsRankOf binary_source (type.Atom 1 10 8) 0
rank_node = (tt, none_chain (type.Atom 1 10 8) node_none)

rank_product : IsRankOf binary_source product 1
rank_product = ((node_name 20, product_step, tt), product_chain)

rank_union : IsRankOf binary_source union 2
rank_union = ((product, by_branch 1 itself refl, (node_name 20, product_step, tt)), union_chain)

rank_tree : (at : ℕ) → IsRankOf binary_source (tree_name at) 2
rank_tree at = ((product, by_branch 1 (types.by_name union defines_tree itself) refl, (node_name 20, product_step, tt)), tree_chain at)

pub ranks_of_binary_trees : RanksOfBinaryTrees
ranks_of_binary_trees = ((_, refl, rank_leaf), (_, refl, rank_node), (_, refl, rank_union), (_, refl, rank_product))

-- ---- levels

size_level : ProcLevel binary_source (codes "size") 1
size_level = (1, (_, (inl refl, refl), (1, 0, refl, refl, refl)))

pub levels_of_binary_trees : LevelsOfBinaryTrees
levels_of_binary_trees = (
  inr (inl (inl (tree_name 37, leaf_name 16 ∷ product ∷ [], refl, inl (union_of (types.by_name union defines_tree itself)), inr (inr (inl (_, (_, product_of itself, refl), inr (inl (tree_name 22, refl, (refl, (1, size_level, refl)))))))))),
  inr (inl (inl (tree_name 37, leaf_name 16 ∷ product ∷ [], refl, inl (union_of (types.by_name union defines_tree itself)), inl (refl, refl)))),
  inl (refl, (1, 0, refl, refl, refl)),
)

site_ranks : HasRank binary_source (Total 0) 2 × HasRank binary_source (Total 2) 2 × HasRank binary_source (Total 3) 2
site_ranks = (
  inr (inl (inl (tree_name 37, leaf_name 16 ∷ product ∷ [], refl, inl (union_of (types.by_name union defines_tree itself)), inr (inr (inl (_, (_, product_of itself, refl), inr (inl (tree_name 22, refl, (refl, rank_tree 22))))))))),
  inr (inl (inl (tree_name 37, leaf_name 16 ∷ product ∷ [], refl, inl (union_of (types.by_name union defines_tree itself)), inl (refl, rank_tree 37)))),
  inl (refl, rank_tree 37),
)

pub order_of_binary_trees : OrderOfBinaryTrees
order_of_binary_trees =
    let (leaf, node, tree, inner) = ranks_of_binary_trees in
    let (call, case, whole) = levels_of_binary_trees in
    let (first, second, third) = site_ranks in (
      (0, 0, leaf, node, inr (refl, omega arith)),
      (0, 1, node, inner, inl (omega arith)),
      (1, 2, inner, tree, inl (omega arith)),
      tt,
      (2, 2, 0, 1, second, third, case, whole, inr (refl, inl (omega arith))),
      (2, 2, 1, 2, third, first, whole, call, inr (refl, inl (omega arith))),
    )
