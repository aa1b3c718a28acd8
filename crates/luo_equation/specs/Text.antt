-- The text of an equation.
use Rattle.std.specs.Prelude.{ℕ, zero, suc, List, [], ◌∷◌, ◌++◌, codes, decimal, Option, None, Some, slice_index_or, nat_eq, if◌then◌else◌}
use Rattle.std.specs.List.{join_by}
use Rattle.luo_model.specs.declared.program.Kind.{Kind}
use Rattle.luo_model.specs.declared.program.Kind.TheVariants.{Sequence, Set, Cycle, Multiset, Powerset}
use Rattle.luo_model.specs.Program.{Program, Procedure, no_items, Does}
use Rattle.luo_equation.specs.declared.equation.Left.{Left}
use Rattle.luo_equation.specs.declared.equation.Left.TheVariants as left
use Rattle.luo_equation.specs.Expr.{Expr, Exprs, Number, Power, Series, Tau, Sum, Prod, Coll, Point, no_exprs, expr}
use Rattle.luo_equation.specs.Equation.{Equation}

-- the name of a definition; one that isn't there has no name
abbrev pub definition_name : Program → ℕ → List ℕ
definition_name p i =
    (slice_index_or p.defs i (record { name = []; whole = record { node = 0; name = None } })).name

abbrev pub no_procedure : Procedure
no_procedure =
    record {
      name = [];
      on = record { node = 0; name = None };
      body = Does 0 no_items;
      site = 0;
      result = None;
    }

-- the name of a procedure
abbrev pub procedure_name : Program → ℕ → List ℕ
procedure_name p f = (slice_index_or p.procs f no_procedure).name

-- the series of a definition, the descriptor of a procedure
abbrev pub series_text : Program → ℕ → List ℕ
series_text p i = definition_name p i ++ codes "(z)"

abbrev pub tau_text : Program → ℕ → List ℕ
tau_text p f = codes "tau[" ++ procedure_name p f ++ codes "](z)"

abbrev pub power_text : ℕ → List ℕ
power_text zero = codes "1"
power_text (suc zero) = codes "z"
power_text (suc (suc w)) = codes "z^" ++ decimal (suc (suc w))

abbrev pub kind_word : Kind → List ℕ
kind_word Sequence = codes "Seq"
kind_word Set = codes "Set"
kind_word Cycle = codes "Cyc"
kind_word Multiset = codes "MSet"
kind_word Powerset = codes "PSet"

-- the least number of components where none is written
abbrev pub free_low : Kind → ℕ
free_low Cycle = 1
free_low _ = 0

-- at least so many components, which isn't written where it says nothing
abbrev pub least_text : Kind → ℕ → List ℕ
least_text kind low = if nat_eq low (free_low kind) then [] else codes ", k>=" ++ decimal low

-- at least and at most so many, in the first form that fits
abbrev pub between_text : ℕ → ℕ → List ℕ
between_text low high =
    if nat_eq low high then codes ", k=" ++ decimal high
    else if nat_eq low 0 then codes ", k<=" ++ decimal high
    else codes ", k in " ++ decimal low ++ codes ".." ++ decimal high

abbrev pub bounds_text : Kind → ℕ → Option ℕ → List ℕ
bounds_text kind low None = least_text kind low
bounds_text kind low (Some high) = between_text low high

-- a collection
abbrev pub coll_text : Kind → ℕ → Option ℕ → List ℕ → List ℕ
coll_text kind low high inner =
    kind_word kind ++ codes "[" ++ inner ++ bounds_text kind low high ++ codes "]"

-- the body of a walk
abbrev pub marked_text : List ℕ → List ℕ
marked_text body = codes "; " ++ body ++ codes "]"

-- texts with this between them
abbrev pub joined : List ℕ → List (List ℕ) → List ℕ
joined between texts = join_by (λ t. t) between texts

-- round brackets stand round a sum among factors
abbrev pub opening : Expr → List ℕ
opening (Sum es) = codes "("
opening _ = []

abbrev pub closing : Expr → List ℕ
closing (Sum es) = codes ")"
closing _ = []

module _ (p : Program) where
  abbrev mutual
    pub expr_text : Expr → List ℕ
    expr_text (Number c) = decimal c
    expr_text (Power w) = power_text w
    expr_text (Series i) = series_text p i
    expr_text (Tau f) = tau_text p f
    expr_text (Sum es) = joined (codes " + ") (term_texts es)
    expr_text (Prod es) = joined (codes "*") (factor_texts es)
    expr_text (Coll kind inner low high) = coll_text kind low high (expr_text inner)
    expr_text (Point kind inner low high body) =
        codes "Point[" ++ coll_text kind low high (expr_text inner) ++ marked_text (expr_text body)

    pub term_texts : Exprs → List (List ℕ)
    term_texts no_exprs = []
    term_texts (expr e es) = expr_text e ∷ term_texts es

    pub factor_texts : Exprs → List (List ℕ)
    factor_texts no_exprs = []
    factor_texts (expr e es) = (opening e ++ expr_text e ++ closing e) ∷ factor_texts es

  abbrev pub left_text : Left → List ℕ
  left_text (left.Series i) = series_text p i
  left_text (left.Tau f) = tau_text p f

  -- the line of an equation, without its line end
  abbrev pub equation_text : Equation → List ℕ
  equation_text e = left_text e.left ++ codes " = " ++ expr_text e.right

-- a factor
unfoldable pub factor_text : Program → Expr → List ℕ
factor_text p e = opening e ++ expr_text p e ++ closing e
