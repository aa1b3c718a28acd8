-- The constructs of a source: what stands in a right side, but for names.
use Rattle.std.specs.Prelude.{◌≡◌, ℕ, List, Option, Some, slice_get}
use Rattle.luo_model.specs.declared.program.Kind.{Kind}
use Rattle.luo_source.specs.declared.types.Bound.{Bound}
use Rattle.luo_source.specs.Plain.Types.{TypeExpr, Named, Union, Product, Coll}
use Rattle.luo_source.specs.Plain.Source.{Source}
use Rattle.luo_meaning.specs.Defined.{DefinesType}
use Rattle.luo_meaning.specs.Structures.{exprs_in}

-- e is the type expression, or stands somewhere inside it
pub data IsIn (e : TypeExpr) : TypeExpr → Type 0 where
  itself : IsIn e e
  in_union : {parts : _} (i : ℕ) (f : TypeExpr) → slice_get (exprs_in parts) i ≡ Some f
      → IsIn e f → IsIn e (Union parts)
  in_product : {parts : _} {at : ℕ} (i : ℕ) (f : TypeExpr)
      → slice_get (exprs_in parts) i ≡ Some f → IsIn e f → IsIn e (Product parts at)
  in_collection : {kind : Kind} {part : TypeExpr} {bound : Option Bound} {at : ℕ}
      → IsIn e part → IsIn e (Coll kind part bound at)

-- it is no name
abbrev pub IsConstruct : TypeExpr → Type 0
IsConstruct (Named name) = ⊥
IsConstruct _ = Unit {0}

-- e is no name, and stands in a right side of the source
abbrev pub IsConstructOf : Source → TypeExpr → Type 0
IsConstructOf source e =
    (text : List ℕ) × (right : TypeExpr) × DefinesType source text right × IsIn e right
    × IsConstruct e
