-- Small programs and structures, over which known facts are stated.
use Rattle.std.specs.Prelude.{ℕ, List, [], ◌∷◌, Option, None}
use Rattle.luo_model.specs.declared.body.Bind.TheVariants.{Nothing}
use Rattle.luo_model.specs.declared.program.Universe.{Universe}
use Rattle.luo_model.specs.declared.program.Universe.TheVariants.{Unlabelled, Labelled}
use Rattle.luo_model.specs.declared.program.Kind.{Kind}
use Rattle.luo_model.specs.declared.program.Kind.TheVariants.{Sequence, Set, Multiset}
use Rattle.luo_model.specs.declared.program.Part.{Part}
use Rattle.luo_model.specs.declared.program.Shape.{Shape}
use Rattle.luo_model.specs.declared.program.Shape.TheVariants as shape
use Rattle.luo_model.specs.declared.program.Node.{Node}
use Rattle.luo_model.specs.Tree.{Tree, Trees, Atom, Inj, Coll, none, more}
use Rattle.luo_model.specs.Program.{Program, Procedure, Body, Does, no_items, item, Call, Case, Forall, no_arms, arm}

-- a part that is node x
abbrev pub part : ℕ → Part
part x = record { node = x; name = None }

-- a node of this construct
abbrev pub node : Shape → Node
node s = record { shape = s; owner = 0; place = 0 }

-- the program of these nodes and procedures
abbrev pub program : Universe → List Node → List Procedure → Program
program universe nodes procs =
    record {
      universe = universe;
      defs = [];
      nodes = nodes;
      procs = procs;
      sites = [];
      analyses = [];
    }

-- a procedure on node x with this body, whose whole has this site
abbrev pub procedure : ℕ → Body → ℕ → Procedure
procedure x body site = record { name = []; on = part x; body = body; site = site; result = None }

abbrev pub one : Tree → Trees
one s = more s none

abbrev pub two : Tree → Tree → Trees
two s t = more s (one t)

abbrev pub three : Tree → Tree → Tree → Trees
three s t u = more s (two t u)

-- e = epsilon; z = atom(1); node 2 is product(e, z)
abbrev pub beside_nothing : Program
beside_nothing =
    program Unlabelled
    (node (shape.Atom 0)
    ∷ (node (shape.Atom 1) ∷ (node (shape.Product (part 0 ∷ (part 1 ∷ []))) ∷ []))) []

-- an atom of weight 1, node 1 the collection of this kind of such atoms, with these bounds
abbrev pub collection : Universe → Kind → ℕ → Option ℕ → Program
collection universe kind low high =
    program universe (node (shape.Atom 1) ∷ (node (shape.Coll kind (part 0) low high) ∷ [])) []

-- atoms of weights 1 and 2, node 2 either of them, node 3 the multiset of such
abbrev pub multisets_of_two_sizes : Program
multisets_of_two_sizes =
    program Unlabelled
    (node (shape.Atom 1)
    ∷ (node (shape.Atom 2)
    ∷ (node (shape.Union (part 0 ∷ (part 1 ∷ [])))
    ∷ (node (shape.Coll Multiset (part 2) 0 None) ∷ [])))) []

abbrev pub small : Tree
small = Inj 1 (Atom 1 0)

abbrev pub large : Tree
large = Inj 2 (Atom 2 0)

-- one node, an atom of this weight
abbrev pub atoms : Universe → ℕ → Program
atoms universe weight = program universe (node (shape.Atom weight) ∷ []) []

-- an atom of weight 1 with this label
abbrev pub point : ℕ → Tree
point label = Atom 1 label

-- a collection of atoms of weight 1 with these labels, and a collection of such
abbrev pub points : List ℕ → Trees
points [] = none
points (label ∷ labels) = more (point label) (points labels)

abbrev pub row : List ℕ → Tree
row labels = Coll (points labels)

abbrev pub each_row : List (List ℕ) → Trees
each_row [] = none
each_row (labels ∷ lists) = more (row labels) (each_row lists)

abbrev pub rows : List (List ℕ) → Tree
rows lists = Coll (each_row lists)

-- z = atom(1); node 1 is z | z, and a procedure on it charges 3 in the first branch and 5 in the
-- second; site 0 is its case, and site 1 its whole
abbrev pub choosing : Program
choosing =
    record (program Unlabelled
    (node (shape.Atom 1) ∷ (node (shape.Union (part 0 ∷ (part 0 ∷ []))) ∷ []))
    (procedure 1
    (Does 0 (item (Case 0
    (arm Nothing (Does 3 no_items) (arm Nothing (Does 5 no_items) no_arms)) 0) no_items)) 1 ∷ [])) {
      sites = record { node = 1; caller = 0; place = 0 }
          ∷ (record { node = 1; caller = 0; place = 1 } ∷ []);
    }

-- multisets of atoms of weight 1, and a walk that charges 1 at each component
abbrev pub walking : Program
walking =
    program Unlabelled (node (shape.Atom 1) ∷ (node (shape.Coll Multiset (part 0) 0 None) ∷ []))
    (procedure 1 (Does 0 (item (Forall 0 (Does 1 no_items) 0 1) no_items)) 2 ∷ [])

-- an atom, and a procedure that charges 1 and calls itself on it
abbrev pub looping : Program
looping =
    program Unlabelled (node (shape.Atom 1) ∷ [])
    (procedure 0 (Does 1 (item (Call 0 0 0) no_items)) 1 ∷ [])

-- node 0 is z = atom(1), and node 1 is z | z, of which node 2 is a collection of this kind and
-- these bounds
abbrev pub of_two : Kind → ℕ → Option ℕ → Program
of_two kind low high = program Unlabelled
    (node (shape.Atom 1)
    ∷ (node (shape.Union (part 0 ∷ (part 0 ∷ [])))
    ∷ (node (shape.Coll kind (part 1) low high) ∷ []))) []

-- labelled points; node 1 are sets of them, and node 2 pairs of such sets
abbrev pub pairs_of_sets : Program
pairs_of_sets = program Labelled
    (node (shape.Atom 1)
    ∷ (node (shape.Coll Set (part 0) 0 None)
    ∷ (node (shape.Product (part 1 ∷ (part 1 ∷ []))) ∷ []))) []

-- labelled points; node 1 are sequences of them, and node 2 collections of this kind of such
-- sequences
abbrev pub of_sequences : Kind → Program
of_sequences kind = program Labelled
    (node (shape.Atom 1)
    ∷ (node (shape.Coll Sequence (part 0) 0 None) ∷ (node (shape.Coll kind (part 1) 1 None) ∷ [])))
    []
