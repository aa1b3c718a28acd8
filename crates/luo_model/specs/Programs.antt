-- Well-known programs in the core form, as their texts give them, over which known facts are
-- stated.
use Rattle.std.specs.Prelude.{ℕ, List, [], ◌∷◌, Some, None, codes}
use Rattle.luo_model.specs.declared.body.Bind.TheVariants.{Nothing, Whole, Parts}
use Rattle.luo_model.specs.declared.program.Universe.TheVariants.{Unlabelled, Labelled}
use Rattle.luo_model.specs.declared.program.Kind.TheVariants.{Sequence, Set, Cycle, Multiset}
use Rattle.luo_model.specs.declared.program.Part.{Part}
use Rattle.luo_model.specs.declared.program.Shape.{Shape}
use Rattle.luo_model.specs.declared.program.Shape.TheVariants as shape
use Rattle.luo_model.specs.declared.program.Node.{Node}
use Rattle.luo_model.specs.declared.program.Def.{Def}
use Rattle.luo_model.specs.declared.program.Site.{Site}
use Rattle.luo_model.specs.Program.{Program, Procedure, Body, Does, Items, no_items, item, Call, Case, Forall, no_arms, arm}

-- node x where the name of definition i stands, and by itself
abbrev pub named : ℕ → ℕ → Part
named x i = record { node = x; name = Some i }

abbrev pub alone : ℕ → Part
alone x = record { node = x; name = None }

-- a node of this construct, at this place of definition i
abbrev pub node : Shape → ℕ → ℕ → Node
node s i place = record { shape = s; owner = i; place = place }

abbrev pub definition : List ℕ → Part → Def
definition name whole = record { name = name; whole = whole }

abbrev pub procedure : List ℕ → Part → Body → ℕ → Procedure
procedure name on body site =
    record { name = name; on = on; body = body; site = site; result = None }

-- a site of a procedure, on node x
abbrev pub site : ℕ → ℕ → ℕ → Site
site x caller place = record { node = x; caller = caller; place = place }

-- a body of one item
abbrev pub only : Items → Body
only items = Does 0 items

-- type leaf = epsilon; type node = atom(1); type tree = leaf | product(node, tree, tree); measure
-- step : 1; procedure size(t : tree); begin case t of leaf : skip; (n, l, r) : begin step; size(l);
-- size(r) end end end; procedure path(t : tree); begin case t of leaf : skip; (n, l, r) : begin
-- size(l); size(r); path(l); path(r) end end end; analyze path;
abbrev pub binary : Program
binary = record {
  universe = Unlabelled;
  defs =
      definition (codes "leaf") (alone 0) ∷ definition (codes "node") (alone 1)
      ∷ definition (codes "tree") (alone 2) ∷ [];
  nodes =
      node (shape.Atom 0) 0 0
      ∷ node (shape.Atom 1) 1 0
      ∷ node (shape.Union (named 0 0 ∷ alone 3 ∷ [])) 2 0
      ∷ node (shape.Product (named 1 1 ∷ named 2 2 ∷ named 2 2 ∷ [])) 2 1
      ∷ [];
  procs =
      procedure (codes "size") (named 2 2) (only (item (Case 0
      (arm Nothing (Does 0 no_items)
      (arm (Parts 3)
      (Does 1 (item (Call 1 0 0) (item (Call 2 0 1) no_items))) no_arms)) 2) no_items)) 3
      ∷ procedure (codes "path") (named 2 2) (only (item (Case 0
      (arm Nothing (Does 0 no_items)
      (arm (Parts 3)
      (Does 0 (item (Call 1 0 4)
      (item (Call 2 0 5)
      (item (Call 1 1 6) (item (Call 2 1 7) no_items))))) no_arms)) 8) no_items)) 9
      ∷ [];
  sites =
      site 2 0 0 ∷ site 2 0 1 ∷ site 2 0 2 ∷ site 2 0 3
      ∷ site 2 1 0 ∷ site 2 1 1 ∷ site 2 1 2 ∷ site 2 1 3 ∷ site 2 1 4 ∷ site 2 1 5
      ∷ [];
  analyses = 1 ∷ [];
}

-- labelled; type point = atom(1); type cyc = cycle(point); type perm = set(cyc); measure one : 1;
-- procedure cycles(p : perm); begin forall c in p do one end; analyze cycles;
abbrev pub permutations : Program
permutations = record {
  universe = Labelled;
  defs =
      definition (codes "point") (alone 0) ∷ definition (codes "cyc") (alone 1)
      ∷ definition (codes "perm") (alone 2) ∷ [];
  nodes =
      node (shape.Atom 1) 0 0 ∷ node (shape.Coll Cycle (named 0 0) 1 None) 1 0
      ∷ node (shape.Coll Set (named 1 1) 0 None) 2 0 ∷ [];
  procs =
      procedure (codes "cycles") (named 2 2)
      (only (item (Forall 0 (Does 1 no_items) 0 1) no_items)) 2 ∷ [];
  sites = site 1 0 0 ∷ site 2 0 1 ∷ site 2 0 2 ∷ [];
  analyses = 0 ∷ [];
}

-- type unit = atom(1); type part = sequence(unit, card >= 1); type partition = multiset(part);
-- measure one : 1; procedure parts(p : partition); begin forall x in p do one end; analyze parts;
abbrev pub partitions : Program
partitions = record {
  universe = Unlabelled;
  defs =
      definition (codes "unit") (alone 0) ∷ definition (codes "part") (alone 1)
      ∷ definition (codes "partition") (alone 2) ∷ [];
  nodes =
      node (shape.Atom 1) 0 0 ∷ node (shape.Coll Sequence (named 0 0) 1 None) 1 0
      ∷ node (shape.Coll Multiset (named 1 1) 0 None) 2 0 ∷ [];
  procs =
      procedure (codes "parts") (named 2 2)
      (only (item (Forall 0 (Does 1 no_items) 0 1) no_items)) 2 ∷ [];
  sites = site 1 0 0 ∷ site 2 0 1 ∷ site 2 0 2 ∷ [];
  analyses = 0 ∷ [];
}

-- type leaf = atom(1); type h = leaf | multiset(h, card >= 2); measure one : 1; procedure leaves(t
-- : h); begin case t of leaf : one; _ as s : begin forall u in s do leaves(u) end end end; analyze
-- leaves;
abbrev pub hierarchies : Program
hierarchies = record {
  universe = Unlabelled;
  defs = definition (codes "leaf") (alone 0) ∷ definition (codes "h") (alone 1) ∷ [];
  nodes =
      node (shape.Atom 1) 0 0 ∷ node (shape.Union (named 0 0 ∷ alone 2 ∷ [])) 1 0
      ∷ node (shape.Coll Multiset (named 1 1) 2 None) 1 1 ∷ [];
  procs =
      procedure (codes "leaves") (named 1 1) (only (item (Case 0
      (arm Nothing (Does 1 no_items)
      (arm Whole (only (item
      (Forall 0 (only (item (Call 0 0 0) no_items)) 1 2) no_items)) no_arms)) 3) no_items)) 4
      ∷ [];
  sites = site 1 0 0 ∷ site 1 0 1 ∷ site 2 0 2 ∷ site 1 0 3 ∷ site 1 0 4 ∷ [];
  analyses = 0 ∷ [];
}

-- labelled; type node = atom(1); type tree = product(node, set(tree)); measure one : 1; procedure
-- size(t : tree); begin one; case t of (n, s) : begin forall u in s do size(u) end end end; analyze
-- size;
abbrev pub rooted : Program
rooted = record {
  universe = Labelled;
  defs = definition (codes "node") (alone 0) ∷ definition (codes "tree") (alone 1) ∷ [];
  nodes =
      node (shape.Atom 1) 0 0 ∷ node (shape.Product (named 0 0 ∷ alone 2 ∷ [])) 1 0
      ∷ node (shape.Coll Set (named 1 1) 0 None) 1 1 ∷ [];
  procs =
      procedure (codes "size") (named 1 1) (Does 1 (item (Case 0
      (arm (Parts 2)
      (only (item (Forall 1
      (only (item (Call 0 0 0) no_items)) 1 2) no_items)) no_arms) 3) no_items)) 4
      ∷ [];
  sites = site 1 0 0 ∷ site 1 0 1 ∷ site 2 0 2 ∷ site 1 0 3 ∷ site 1 0 4 ∷ [];
  analyses = 0 ∷ [];
}
