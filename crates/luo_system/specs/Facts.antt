-- The equations of two small programs.
use Rattle.std.specs.Prelude.{◌≡◌, ℕ, [], ◌∷◌, Some, None}
use Rattle.luo_model.specs.declared.program.Universe.TheVariants.{Unlabelled, Labelled}
use Rattle.luo_model.specs.declared.program.Kind.TheVariants as kind
use Rattle.luo_model.specs.declared.program.Part.{Part}
use Rattle.luo_model.specs.declared.program.Def.{Def}
use Rattle.luo_model.specs.declared.program.Shape.TheVariants as shape
use Rattle.luo_model.specs.declared.body.Bind.TheVariants.{Nothing, Parts}
use Rattle.luo_model.specs.Program.{Program, Procedure, Body, Does, no_items, item, Call, Case, Forall, no_arms, arm}
use Rattle.luo_model.specs.Examples.{part, node}
use Rattle.luo_equation.specs.Expr.{Expr, Number, Power, Series, Tau, Sum, Prod, Coll, Point, no_exprs, expr}
use Rattle.luo_equation.specs.Equation.{Equation}
use Rattle.luo_equation.specs.declared.equation.Left.TheVariants as left
use Rattle.luo_system.specs.System.{system}

-- node x, where the name of definition i is written
abbrev pub by_name : ℕ → ℕ → Part
by_name x i = record { node = x; name = Some i }

abbrev pub def : Part → Def
def whole = record { name = []; whole = whole }

abbrev pub on : Part → Body → Procedure
on part body = record { name = []; on = part; body = body; site = 0; result = None }

-- leaf = epsilon; node = atom(1); tree = leaf | product(node, tree, tree); a procedure that charges
-- 1 at each inner node and calls itself on both subtrees
abbrev pub trees : Program
trees = record {
  universe = Unlabelled;
  defs = def (part 0) ∷ (def (part 1) ∷ (def (part 2) ∷ []));
  nodes =
      node (shape.Atom 0) ∷ (node (shape.Atom 1) ∷ (node (shape.Union (by_name 0 0 ∷ (part 3 ∷ [])))
      ∷ (node (shape.Product (by_name 1 1 ∷ (by_name 2 2 ∷ (by_name 2 2 ∷ [])))) ∷ [])));
  procs = on (by_name 2 2) (Does 0 (item (Case 0 (arm Nothing (Does 0 no_items)
      (arm (Parts 3)
      (Does 1 (item (Call 1 0 0) (item (Call 2 0 0) no_items))) no_arms)) 0) no_items)) ∷ [];
  sites = [];
  analyses = [];
}

abbrev pub three : Expr → Expr → Expr → Expr
three a b c = Prod (expr a (expr b (expr c no_exprs)))

abbrev pub equation : ℕ → Expr → Equation
equation i e = record { left = left.Series i; right = e }

-- leaf(z) = 1; node(z) = z; tree(z) = leaf(z) + node(z)*tree(z)*tree(z); tau(z) =
-- node(z)*tree(z)*tree(z) + tau(z)*node(z)*tree(z) + tau(z)*node(z)*tree(z)
abbrev pub SystemOfTrees : Type 0
SystemOfTrees = system trees ≡ equation 0 (Number 1) ∷ (equation 1 (Power 1)
    ∷ (equation 2 (Sum (expr (Series 0) (expr (three (Series 1) (Series 2) (Series 2)) no_exprs)))
    ∷ (record {
      left = left.Tau 0;
      right = Sum (expr (three (Series 1) (Series 2) (Series 2))
          (expr (three (Tau 0) (Series 1) (Series 2))
          (expr (three (Tau 0) (Series 1) (Series 2)) no_exprs)));
    } ∷ [])))

-- node = atom(1); tree = product(node, set(tree)); a procedure that charges 1 and calls itself on
-- each subtree
abbrev pub rooted : Program
rooted = record {
  universe = Labelled;
  defs = def (part 0) ∷ (def (part 1) ∷ []);
  nodes =
      node (shape.Atom 1)
      ∷ (node (shape.Product (by_name 0 0 ∷ (part 2 ∷ [])))
      ∷ (node (shape.Coll kind.Set (by_name 1 1) 0 None) ∷ []));
  procs =
      on (by_name 1 1)
      (Does 1 (item (Case 0
      (arm (Parts 2)
      (Does 0 (item (Forall 1
      (Does 0 (item (Call 0 0 0) no_items)) 0 0) no_items)) no_arms) 0) no_items)) ∷ [];
  sites = [];
  analyses = [];
}

-- node(z) = z; tree(z) = node(z)*Set[tree(z)]; tau(z) = tree(z) + Point[Set[tree(z)];
-- tau(z)]*node(z)
abbrev pub SystemOfRooted : Type 0
SystemOfRooted = system rooted ≡ equation 0 (Power 1)
    ∷ (equation 1 (Prod (expr (Series 0) (expr (Coll kind.Set (Series 1) 0 None) no_exprs)))
    ∷ (record {
      left = left.Tau 0;
      right = Sum
          (expr (Series 1)
          (expr (Prod (expr (Point kind.Set (Series 1) 0 None (Tau 0))
          (expr (Series 0) no_exprs))) no_exprs));
    } ∷ []))
