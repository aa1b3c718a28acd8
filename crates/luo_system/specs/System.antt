-- The equations of a program.
use Rattle.std.specs.Prelude.{ℕ, zero, suc, List, [], ◌∷◌, ◌++◌, length, Option, Some, None}
use Rattle.luo_model.specs.declared.program.Part.{Part}
use Rattle.luo_model.specs.declared.program.Shape.{Shape}
use Rattle.luo_model.specs.declared.program.Shape.TheVariants as shape
use Rattle.luo_model.specs.declared.program.Def.{Def}
use Rattle.luo_model.specs.declared.body.Bind.{Bind}
use Rattle.luo_model.specs.declared.body.Bind.TheVariants.{Nothing, Whole, Parts}
use Rattle.luo_model.specs.Program.{Program, Procedure, Body, Does, Items, no_items, item, Item, Call, Case, Forall, Arms, arm, shape_of}
use Rattle.luo_model.specs.Scopes.Stands.{Stand, stand_part, stands, factors, bound_parts, part_at}
use Rattle.luo_equation.specs.Expr as made
use Rattle.luo_equation.specs.Expr.{Expr, Exprs, no_exprs, expr}
use Rattle.luo_equation.specs.Equation.{Equation}
use Rattle.luo_equation.specs.declared.equation.Left.TheVariants as left
use Rattle.luo_system.specs.Plain.{sum_of, product_of, walk_of}

-- a name where a name stands
abbrev pub named : Option ℕ → Expr → Expr
named (Some i) e = made.Series i
named None e = e

-- an atom of weight 0 is the number 1
abbrev pub atom_expr : ℕ → Expr
atom_expr zero = made.Number 1
atom_expr (suc w) = made.Power (suc w)

abbrev pub exprs_of : {X : Type 0} → (X → Expr) → List X → Exprs
exprs_of e [] = no_exprs
exprs_of e (x ∷ xs) = expr (e x) (exprs_of e xs)

-- a construct, where e says what stands for its parts: a union is a sum, a product a product
abbrev pub shape_expr : (Part → Expr) → Shape → Expr
shape_expr e (shape.Atom weight) = atom_expr weight
shape_expr e (shape.Union parts) = sum_of (exprs_of e parts)
shape_expr e (shape.Product parts) = product_of (exprs_of e parts)
shape_expr e (shape.Coll kind part low high) = made.Coll kind (e part) low high

-- the construct of node x, not deeper than so many nodes inside one another
abbrev pub node_expr : Program → ℕ → ℕ → Expr
node_expr p zero x = made.Number 0
node_expr p (suc depth) x =
    shape_expr (λ part. named part.name (node_expr p depth part.node)) (shape_of p x)

abbrev pub inside_expr : Program → ℕ → Part → Expr
inside_expr p depth part = named part.name (node_expr p depth part.node)

-- a part as it is written in the source: a name where a name stands, else its construct. Parts by
-- themselves come after their node, so the number of nodes is depth enough
abbrev pub part_expr : Program → Part → Expr
part_expr p part = inside_expr p (length p.nodes) part

-- what stands for the whole scope of an arm
abbrev pub whole_parts : Program → Stand → Bind → List Part
whole_parts p stand Nothing = stand_part stand ∷ []
whole_parts p stand Whole = stand_part stand ∷ []
whole_parts p stand (Parts k) = factors (shape_of p (stand_part stand).node)

-- all but the part at this place
abbrev pub others : ℕ → List Part → List Part
others i [] = []
others zero (part ∷ parts) = parts
others (suc i) (part ∷ parts) = part ∷ others i parts

abbrev pub item_var : Item → ℕ
item_var (Call var callee site) = var
item_var (Case var arms site) = var
item_var (Forall var body body_site site) = var

-- a walk with this body over a collection; the body is in a scope of the component
abbrev pub walk_expr : (Part → Expr) → Shape → (Part → Expr) → Expr
walk_expr e (shape.Coll kind part low high) body = walk_of kind (e part) low high (body part)
walk_expr e _ body = made.Number 0

module _ (p : Program) where
  -- what a scope charges itself
  abbrev pub own_expr : List Part → ℕ → Expr
  own_expr whole own = product_of (expr (made.Number own) (exprs_of (part_expr p) whole))

  -- a descriptor on a variable, times all other variables
  abbrev pub beside_others : List Part → ℕ → Expr → Expr
  beside_others vars var e = product_of (expr e (exprs_of (part_expr p) (others var vars)))

  abbrev mutual
    -- the descriptor of a body, where `whole` stands for the scope and the variables are of these
    -- types: what the scope charges itself, and a term for each item
    pub body_expr : List Part → List Part → Body → Expr
    body_expr whole vars (Does own items) =
        sum_of (expr (own_expr whole own) (items_exprs vars items))

    pub items_exprs : List Part → Items → Exprs
    items_exprs vars no_items = no_exprs
    items_exprs vars (item i is) =
        expr (beside_others vars (item_var i) (item_expr vars i)) (items_exprs vars is)

    -- the descriptor of a call, of a case, which is the sum of those of its arms, and of a walk
    pub item_expr : List Part → Item → Expr
    item_expr vars (Call var callee site) = made.Tau callee
    item_expr vars (Case var arms site) =
        sum_of (arms_exprs (stands (part_at vars var) (shape_of p (part_at vars var).node)) arms)
    item_expr vars (Forall var body body_site site) =
        walk_expr (part_expr p) (shape_of p (part_at vars var).node)
        (λ part. body_expr (part ∷ []) (part ∷ []) body)

    pub arms_exprs : List Stand → Arms → Exprs
    arms_exprs (stand ∷ rest) (arm bind body arms) =
        expr (body_expr (whole_parts p stand bind) (bound_parts p stand bind) body)
        (arms_exprs rest arms)
    arms_exprs _ _ = no_exprs

  abbrev pub term_expr : List Part → Item → Expr
  term_expr vars i = beside_others vars (item_var i) (item_expr vars i)

  abbrev pub case_expr : Part → Arms → Expr
  case_expr on arms = sum_of (arms_exprs (stands on (shape_of p on.node)) arms)

  abbrev pub arm_expr : Stand → Bind → Body → Expr
  arm_expr stand bind body = body_expr (whole_parts p stand bind) (bound_parts p stand bind) body

  abbrev pub walk_body_expr : Part → Body → Expr
  walk_body_expr on body =
      walk_expr (part_expr p) (shape_of p on.node) (λ part. body_expr (part ∷ []) (part ∷ []) body)

-- the descriptor of a procedure
abbrev pub descriptor : Program → Procedure → Expr
descriptor p P = body_expr p (P.on ∷ []) (P.on ∷ []) P.body

-- the equations of definitions from number i on, and of procedures from number f on
abbrev pub defs_from : Program → ℕ → List Def → List Equation
defs_from p i [] = []
defs_from p i (d ∷ ds) =
    record { left = left.Series i; right = part_expr p d.whole } ∷ defs_from p (suc i) ds

abbrev pub procs_from : Program → ℕ → List Procedure → List Equation
procs_from p f [] = []
procs_from p f (P ∷ Ps) =
    record { left = left.Tau f; right = descriptor p P } ∷ procs_from p (suc f) Ps

-- one equation for each definition, then one for each procedure
abbrev pub system : Program → List Equation
system p = defs_from p 0 p.defs ++ procs_from p 0 p.procs
