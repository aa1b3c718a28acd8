-- Which trees are structures of a type expression, by its form as written.
use Rattle.std.specs.Prelude.{◌≡◌, ℕ, suc, ◌≤◌, List, [], ◌∷◌, Option, Some, None, slice_get, length}
use Rattle.luo_model.specs.declared.program.Kind.{Kind}
use Rattle.luo_model.specs.declared.program.Kind.TheVariants.{Cycle}
use Rattle.luo_model.specs.Tree.{Tree, Trees, Atom, Inj, Tup, Coll, none, more, to_list}
use Rattle.luo_model.specs.Member.{IsLabel, ComponentsStand}
use Rattle.luo_source.specs.declared.names.Name.{Name}
use Rattle.luo_source.specs.declared.types.Range.{Range}
use Rattle.luo_source.specs.declared.types.Range.TheVariants.{Exactly, AtMost, AtLeast, Between}
use Rattle.luo_source.specs.declared.types.Bound.{Bound}
use Rattle.luo_source.specs.Plain.Types as type
use Rattle.luo_source.specs.Plain.Types.{TypeExpr, Named, Epsilon, Union, Product, Coll, TypeExprs, no_exprs, an_expr}
use Rattle.luo_source.specs.Plain.Source.{Source}
use Rattle.luo_meaning.specs.Defined.{DefinesType}

-- the type expressions of a list, from the left: branches or factors
abbrev pub exprs_in : TypeExprs → List TypeExpr
exprs_in no_exprs = []
exprs_in (an_expr e rest) = e ∷ exprs_in rest

-- a cycle has a component, the other collections may have none
abbrev pub least_count : Kind → ℕ
least_count Cycle = 1
least_count _ = 0

-- `card = n`, `card <= n`, `card >= n` or `low <= card <= high` allows k components; what sets no
-- lower bound leaves the kind's own
abbrev pub IsInRange : Kind → Range → ℕ → Type 0
IsInRange kind (Exactly n) k = k ≡ n
IsInRange kind (AtMost n) k = (least_count kind ≤ k) × (k ≤ n)
IsInRange kind (AtLeast n) k = n ≤ k
IsInRange kind (Between low high) k = (low ≤ k) × (k ≤ high)

-- a collection may have k components: with no bound, as many as its kind allows
abbrev pub AllowsCount : Kind → Option Bound → ℕ → Type 0
AllowsCount kind None k = least_count kind ≤ k
AllowsCount kind (Some bound) k = IsInRange kind bound.range k

mutual
  -- the tree is a structure of the type expression: one rule for each form
  pub data IsOf (source : Source) : TypeExpr → Tree → Type 0 where
    -- `name`: what is of the right side that the name stands for
    by_name : {name : Name} {t : Tree} (right : TypeExpr) → DefinesType source name.text right
        → IsOf source right t → IsOf source (Named name) t
    -- `epsilon`: the atom of weight 0, without label
    empty : {at : ℕ} → IsOf source (Epsilon at) (Atom 0 0)
    -- `atom(w)`: an atom of weight w, labelled where the universe is and w is 1
    atom : {weight weight_at at label : ℕ} → IsLabel source.universe weight label
        → IsOf source (type.Atom weight weight_at at) (Atom weight label)
    -- `e0 | e1 | ..`: a structure of one of the branches, under the number of that branch, from 1
    branch : {parts : _} {t : Tree} (i : ℕ) (e : TypeExpr)
        → slice_get (exprs_in parts) i ≡ Some e → IsOf source e t
        → IsOf source (Union parts) (Inj (suc i) t)
    -- `product(e0, e1, ..)`: a tuple with a structure of each factor, in order
    tuple : {parts : _} {at : ℕ} {ts : Trees} → AreOf source (exprs_in parts) ts
        → IsOf source (Product parts at) (Tup ts)
    -- `sequence(e, bound)`, `set`, `cycle`, `multiset`, `powerset`: structures of e, of a number
    -- that is allowed, standing as the kind says
    collection : {kind : Kind} {e : TypeExpr} {bound : Option Bound} {at : ℕ} {ts : Trees}
        → AllowsCount kind bound (length (to_list ts)) → EachOf source e ts
        → ComponentsStand kind (to_list ts) → IsOf source (Coll kind e bound at) (Coll ts)

  -- as many trees as type expressions, each of its own
  pub data AreOf (source : Source) : List TypeExpr → Trees → Type 0 where
    no_parts : AreOf source [] none
    more_parts : {e : TypeExpr} {es : List TypeExpr} {t : Tree} {ts : Trees} → IsOf source e t
        → AreOf source es ts → AreOf source (e ∷ es) (more t ts)

  -- trees, all of the same type expression
  pub data EachOf (source : Source) : TypeExpr → Trees → Type 0 where
    no_components : {e : TypeExpr} → EachOf source e none
    more_components : {e : TypeExpr} {t : Tree} {ts : Trees} → IsOf source e t → EachOf source e ts
        → EachOf source e (more t ts)
