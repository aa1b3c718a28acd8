-- What holds of every program.
use Rattle.std.specs.Prelude.{◌≡◌, ◌⊎◌, ℕ, ◌+◌, ◌<◌, ◌≤◌, List, [], ◌∷◌, ◌++◌, map, length, sum_by, Some, None, slice_get, IfSome}
use Rattle.luo_finite.specs.Listing.{In, NoDouble, Neighbours}
use Rattle.luo_num.specs.declared.limits.TheConstants.{DEFINITION_LIMIT, NODE_LIMIT, PART_LIMIT, BOUND_LIMIT, MULTISET_LIMIT, PROCEDURE_LIMIT, STATEMENT_LIMIT, ANALYSIS_LIMIT, WALK_LIMIT}
use Rattle.luo_model.specs.declared.program.Universe.{Universe}
use Rattle.luo_model.specs.declared.program.Universe.TheVariants.{Unlabelled, Labelled}
use Rattle.luo_model.specs.declared.program.Kind.{Kind}
use Rattle.luo_model.specs.declared.program.Kind.TheVariants.{Sequence, Set, Cycle, Multiset, Powerset}
use Rattle.luo_model.specs.declared.program.Part.{Part}
use Rattle.luo_model.specs.declared.program.Shape.{Shape}
use Rattle.luo_model.specs.declared.program.Shape.TheVariants.{Atom, Union, Product, Coll}
use Rattle.luo_model.specs.declared.program.Node.{Node}
use Rattle.luo_model.specs.declared.program.Def.{Def}
use Rattle.luo_model.specs.declared.program.Site.{Site}
use Rattle.luo_model.specs.Program.{Program, Procedure, Result}
use Rattle.luo_model.specs.Scopes.Fits.{FitsBody, FitsValue}
use Rattle.luo_model.specs.Scopes.ValueBodies.{value_body}
use Rattle.luo_model.specs.Scopes.Sites.{body_sites}
use Rattle.luo_model.specs.Scopes.Walks.{multiset_of, body_items, body_walks}

-- the parts of a construct
abbrev pub inner_parts : Shape → List Part
inner_parts (Atom weight) = []
inner_parts (Union parts) = parts
inner_parts (Product parts) = parts
inner_parts (Coll kind part low high) = part ∷ []

-- the definition of this name has this node, and a part without a name has any
abbrev pub NamesRight : Program → Part → Type 0
NamesRight p part =
    IfSome part.name (λ i. (d : Def) × (slice_get p.defs i ≡ Some d) × (part.node ≡ d.whole.node))

-- the node is there, and is the one of the definition that is named
abbrev pub IsPart : Program → Part → Type 0
IsPart p part = (part.node < length p.nodes) × NamesRight p part

-- a part that names a definition
abbrev pub IsNamed : Program → Part → Type 0
IsNamed p part = IsPart p part × (part.name ≡ None → ⊥)

-- what stands for a construct by itself
abbrev pub bare : ℕ → Part
bare x = record { node = x; name = None }

-- a node of a definition comes after one of the same definition, and of the next place, or is the
-- first of a later one
abbrev pub Follows : Node → Node → Type 0
Follows a b =
    ((b.owner ≡ a.owner) × (b.place ≡ a.place + 1)) ⊎ ((a.owner < b.owner) × (b.place ≡ 0))

abbrev pub IsFirstPlace : List Node → Type 0
IsFirstPlace [] = Unit {0}
IsFirstPlace (node ∷ nodes) = node.place ≡ 0

-- node x is of definition i
abbrev pub IsOf : Program → ℕ → ℕ → Type 0
IsOf p i x = (node : Node) × (slice_get p.nodes x ≡ Some node) × (node.owner ≡ i)

-- y is the part of node x by itself: it comes after x, in the same definition
pub record Holds (p : Program) (x y : ℕ) : Type 0 where
  pub node : Node
  pub inner : Node
  pub is_node : slice_get p.nodes x ≡ Some node
  pub is_inner : slice_get p.nodes y ≡ Some inner
  pub part : In (bare y) (inner_parts node.shape)
  pub behind : x < y
  pub together : inner.owner ≡ node.owner
  pub not_first : (inner.place ≡ 0 → ⊥)

-- the whole of definition i: its first node by itself, or another definition's name, and then it
-- has no node
abbrev pub IsWhole : Program → ℕ → Part → Type 0
IsWhole p i whole =
    ((whole.name ≡ None)
    × ((node : Node) × (slice_get p.nodes whole.node ≡ Some node) × (node.owner ≡ i)
    × (node.place ≡ 0)))
    ⊎ ((whole.name ≡ None → ⊥) × ((x : ℕ) → IsOf p i x → ⊥))

-- from definition i, going from a name to the definition of it again and again ends
pub data NamingEnds (p : Program) : ℕ → Type 0 where
  at_construct : {i : ℕ} (d : Def) → slice_get p.defs i ≡ Some d → d.whole.name ≡ None
      → NamingEnds p i
  at_name : {i : ℕ} (d : Def) (j : ℕ) → slice_get p.defs i ≡ Some d → d.whole.name ≡ Some j
      → NamingEnds p j → NamingEnds p i

-- structures of this universe may have this construct: its weight, its kind, its bounds and the
-- number of its parts
abbrev pub IsKind : Universe → Kind → Type 0
IsKind universe Sequence = Unit {0}
IsKind universe Set = universe ≡ Labelled
IsKind universe Cycle = universe ≡ Labelled
IsKind universe Multiset = universe ≡ Unlabelled
IsKind universe Powerset = universe ≡ Unlabelled

abbrev pub IsLow : Kind → ℕ → Type 0
IsLow Cycle low = 1 ≤ low
IsLow Powerset low = low ≤ 1
IsLow _ low = Unit {0}

abbrev pub greatest_weight : Universe → ℕ
greatest_weight Labelled = 1
greatest_weight Unlabelled = 16

abbrev pub IsAllowed : Universe → Shape → Type 0
IsAllowed universe (Atom weight) = weight ≤ greatest_weight universe
IsAllowed universe (Union parts) = (2 ≤ length parts) × (length parts ≤ PART_LIMIT)
IsAllowed universe (Product parts) = (2 ≤ length parts) × (length parts ≤ PART_LIMIT)
IsAllowed universe (Coll kind part low high) =
    IsKind universe kind × IsLow kind low × (low ≤ BOUND_LIMIT)
    × IfSome high (λ most. (low ≤ most) × (most ≤ BOUND_LIMIT))

-- the procedure stands on a type, its body fits, and so does its value where it has a result, which
-- gives the body
abbrev pub IsProcedure : Program → Procedure → Type 0
IsProcedure p P = IsNamed p P.on × FitsBody p (P.on ∷ []) P.body
    × IfSome P.result
    (λ (r : Result). IsNamed p r.on × (p.universe ≡ Unlabelled)
    × FitsValue p (P.on ∷ []) r.on.node r.value
    × ((first : ℕ) × (P.body ≡ value_body first r.value)))

-- the sites of a procedure with their nodes, its whole last
abbrev pub procedure_sites : Program → Procedure → List (ℕ × ℕ)
procedure_sites p P = body_sites p (P.on ∷ []) P.body ++ (P.site, P.on.node) ∷ []

-- the sites of a procedure by their places in it
abbrev pub placed : ℕ → ℕ → List (ℕ × ℕ) → List (ℕ × Site)
placed caller place [] = []
placed caller place (site ∷ rest) =
    (site.0, record { node = site.1; caller = caller; place = place })
    ∷ placed caller (place + 1) rest

-- the sites of procedures from the one of this number on
abbrev pub sites_from : Program → ℕ → List Procedure → List (ℕ × Site)
sites_from p f [] = []
sites_from p f (P ∷ Ps) = placed f 0 (procedure_sites p P) ++ sites_from p (f + 1) Ps

-- elements with their numbers, from this one on
abbrev pub numbered_from : ℕ → List Site → List (ℕ × Site)
numbered_from k [] = []
numbered_from k (site ∷ rest) = (k, site) ∷ numbered_from (k + 1) rest

-- every program has these points
pub record IsProgram (p : Program) : Type 0 where
  -- each definition's right side, each part of a node and each analyze line is there, and a name
  -- stands for its definition's node
  pub wholes_there : (i : ℕ) (d : Def) → slice_get p.defs i ≡ Some d → IsPart p d.whole
  pub parts_there : (x : ℕ) (node : Node) → slice_get p.nodes x ≡ Some node → (part : Part)
      → In part (inner_parts node.shape) → IsPart p part
  pub analyses_there : (f : ℕ) → In f p.analyses → f < length p.procs
  -- the nodes stand definition by definition, with places from 0
  pub owners_there : (x : ℕ) (node : Node) → slice_get p.nodes x ≡ Some node
      → node.owner < length p.defs
  pub first_place : IsFirstPlace p.nodes
  pub in_order : Neighbours Follows p.nodes
  -- the first node of a definition is its whole, and a definition that is a name has no node
  pub wholes_first : (i : ℕ) (d : Def) → slice_get p.defs i ≡ Some d → IsWhole p i d.whole
  -- every other node is the part by itself of exactly one node, before it in the same definition,
  -- at one place there; no other part stands by itself
  pub held : (y : ℕ) (node : Node) → slice_get p.nodes y ≡ Some node → (node.place ≡ 0 → ⊥)
      → (x : ℕ) × Holds p x y × ((z : ℕ) → Holds p z y → z ≡ x)
  pub bare_held : (x y : ℕ) (node : Node) → slice_get p.nodes x ≡ Some node
      → In (bare y) (inner_parts node.shape) → Holds p x y
  pub one_place : (x : ℕ) (node : Node) → slice_get p.nodes x ≡ Some node
      → (y i j : ℕ) → slice_get (inner_parts node.shape) i ≡ Some (bare y)
      → slice_get (inner_parts node.shape) j ≡ Some (bare y) → i ≡ j
  -- no definition is a name that leads back to it
  pub naming_ends : (i : ℕ) → i < length p.defs → NamingEnds p i
  pub distinct : NoDouble (map (λ d. d.name) p.defs ++ map (λ P. P.name) p.procs)
  -- weights, kinds, bounds and numbers of parts are allowed
  pub allowed : (x : ℕ) (node : Node) → slice_get p.nodes x ≡ Some node
      → IsAllowed p.universe node.shape
  -- what is counted is within its limit
  pub few_definitions : length p.defs ≤ DEFINITION_LIMIT
  pub few_nodes : length p.nodes ≤ NODE_LIMIT
  pub few_multisets : sum_by (λ node. multiset_of node.shape) p.nodes ≤ MULTISET_LIMIT
  pub few_procedures : length p.procs ≤ PROCEDURE_LIMIT
  pub few_items : sum_by (λ P. body_items P.body) p.procs ≤ STATEMENT_LIMIT
  pub few_analyses : length p.analyses ≤ ANALYSIS_LIMIT
  pub few_walks : sum_by (λ P. body_walks p (P.on ∷ []) P.body) p.procs ≤ WALK_LIMIT
  -- each procedure stands on a type and fits it
  pub procedures : (f : ℕ) (P : Procedure) → slice_get p.procs f ≡ Some P → IsProcedure p P
  -- the sites are numbered by procedure, each item after all that stands inside it, and each has
  -- its node
  pub sites : sites_from p 0 p.procs ≡ numbered_from 0 p.sites
