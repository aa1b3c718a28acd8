-- The canonical text of type expressions, and of the lines of definitions and measures.
use Rattle.std.specs.Prelude.{ℕ, List, [], ◌∷◌, ◌++◌, codes, decimal, Option, None, Some}
use Rattle.luo_model.specs.declared.program.Kind.{Kind}
use Rattle.luo_model.specs.declared.program.Kind.TheVariants.{Sequence, Set, Cycle, Multiset, Powerset}
use Rattle.luo_source.specs.declared.types.Range.{Range}
use Rattle.luo_source.specs.declared.types.Range.TheVariants.{Exactly, AtMost, AtLeast, Between}
use Rattle.luo_source.specs.declared.types.Bound.{Bound}
use Rattle.luo_source.specs.declared.types.MeasureDef.{MeasureDef}
use Rattle.luo_source.specs.Plain.Types.{TypeExpr, Named, Epsilon, Atom, Union, Product, Coll, TypeExprs, no_exprs, an_expr, TypeDef}
use Rattle.luo_print.specs.Layout.{joined, name_list}

abbrev pub kind_text : Kind → List ℕ
kind_text Sequence = codes "sequence"
kind_text Set = codes "set"
kind_text Cycle = codes "cycle"
kind_text Multiset = codes "multiset"
kind_text Powerset = codes "powerset"

abbrev pub range_text : Range → List ℕ
range_text (Exactly n) = codes "= " ++ decimal n
range_text (AtMost n) = codes "<= " ++ decimal n
range_text (AtLeast n) = codes ">= " ++ decimal n
range_text (Between low high) = codes "in " ++ decimal low ++ codes ".." ++ decimal high

-- a bound after the component of a collection
abbrev pub bound_text : Option Bound → List ℕ
bound_text None = []
bound_text (Some bound) = codes ", card " ++ range_text bound.range

abbrev mutual
  pub expr_text : TypeExpr → List ℕ
  expr_text (Named name) = name.text
  expr_text (Epsilon at) = codes "epsilon"
  expr_text (Atom weight weight_at at) = codes "atom(" ++ decimal weight ++ codes ")"
  expr_text (Union parts) = joined (codes " | ") (expr_texts parts)
  expr_text (Product parts at) =
      codes "product(" ++ joined (codes ", ") (expr_texts parts) ++ codes ")"
  expr_text (Coll kind part bound at) =
      kind_text kind ++ codes "(" ++ expr_text part ++ bound_text bound ++ codes ")"

  -- the texts of a list
  pub expr_texts : TypeExprs → List (List ℕ)
  expr_texts no_exprs = []
  expr_texts (an_expr e rest) = expr_text e ∷ expr_texts rest

-- the line of a definition
abbrev pub type_def_line : TypeDef → List ℕ
type_def_line def =
    codes "type " ++ name_list def.names ++ codes " = " ++ expr_text def.body ++ codes ";\n"

-- the line of measures
abbrev pub measure_line : MeasureDef → List ℕ
measure_line def =
    codes "measure " ++ name_list def.names ++ codes " : " ++ decimal def.value ++ codes ";\n"
