-- What values, and procedures with a result, make, by their forms as written.
use Rattle.std.specs.Prelude.{◌≡◌, ℕ, zero, suc, List, [], ◌∷◌, Some, slice_get}
use Rattle.luo_model.specs.Tree as tree
use Rattle.luo_model.specs.Tree.{Tree, Trees, Inj, Tup, none, more}
use Rattle.luo_source.specs.Plain.Types as type
use Rattle.luo_source.specs.Plain.Types.{TypeExpr}
use Rattle.luo_source.specs.Plain.Values.{SourceValue, Given, Made, Atom, Tuple, Branch, Case, SourceValues, no_source_values, a_source_value, SourceValueArms, no_source_value_arms, a_source_value_arm}
use Rattle.luo_source.specs.Plain.Source.{ProcBody, Statements, Value, ProcDef, Source}
use Rattle.luo_meaning.specs.Defined.{DefinesProcedure}
use Rattle.luo_meaning.specs.Structures.{IsOf}
use Rattle.luo_meaning.specs.Types.{IsUnionOf, IsProductOf}
use Rattle.luo_meaning.specs.Variables.{Environment, structure_of, binds}

-- R relates the name of a procedure and a structure to what it makes of it
module _ (source : Source) (R : List ℕ → Tree → Tree → Type 0) where
  abbrev mutual
    -- a value makes r, where a structure of e is wanted
    pub ValueMakes : TypeExpr → Environment → SourceValue → Tree → Type 0
    -- `x`: the structure of x itself
    ValueMakes e env (Given name) r = structure_of env name.text ≡ Some r
    -- `p(x)`: what the procedure p makes of the structure of x
    ValueMakes e env (Made callee arg) r =
        (t : Tree) × (structure_of env arg.text ≡ Some t) × R callee.text t r
    -- `atom`, `m atom`: the atom without label that is of e
    ValueMakes e env (Atom charge at) r =
        (weight : ℕ) × (r ≡ tree.Atom weight 0) × IsOf source e (tree.Atom weight 0)
    -- `product(..)`, where e leads to a product: a tuple of what its parts make, each for its
    -- factor
    ValueMakes e env (Tuple parts at) r =
        (es : List TypeExpr) × (ts : Trees) × IsProductOf source e es × ValuesMake es env parts ts
        × (r ≡ Tup ts)
    -- `i : v`, where e leads to a union: what v makes for branch i, under this number
    ValueMakes e env (Branch number at inner) r =
        (es : List TypeExpr) × (i : ℕ) × (f : TypeExpr) × (t : Tree) × IsUnionOf source e es
        × (number ≡ suc i)
        × (slice_get es i ≡ Some f) × ValueMakes f env inner t × (r ≡ Inj number t)
    -- `case x of .. end`: what the arm for the structure of x makes
    ValueMakes e env (Case var arms) r =
        (t : Tree) × (structure_of env var.text ≡ Some t) × ArmsMake e arms t r

    -- as many parts as factors and trees, each part makes its tree
    pub ValuesMake : List TypeExpr → Environment → SourceValues → Trees → Type 0
    ValuesMake [] env no_source_values none = Unit {0}
    ValuesMake (e ∷ es) env (a_source_value v rest) (more t ts) =
        ValueMakes e env v t × ValuesMake es env rest ts
    ValuesMake _ env _ _ = ⊥

    -- arms by their places, as where they charge
    pub ArmsMake : TypeExpr → SourceValueArms → Tree → Tree → Type 0
    ArmsMake e (a_source_value_arm pattern v rest) (Inj (suc zero) t) r =
        ValueMakes e (binds pattern t) v r
    ArmsMake e (a_source_value_arm pattern v rest) (Inj (suc (suc i)) t) r =
        ArmsMake e rest (Inj (suc i) t) r
    ArmsMake e (a_source_value_arm pattern v no_source_value_arms) (Tup ts) r =
        ValueMakes e (binds pattern (Tup ts)) v r
    ArmsMake e _ _ r = ⊥

  -- statements make nothing
  abbrev pub BodyMakes : Environment → ProcBody → Tree → Type 0
  BodyMakes env (Statements stmts) r = ⊥
  BodyMakes env (Value colon result v) r = ValueMakes (type.Named result) env v r

-- the procedure of this name makes r of t, where calls go at most so deep
abbrev pub ProcMakesWithin : Source → ℕ → List ℕ → Tree → Tree → Type 0
ProcMakesWithin source zero text t r = ⊥
ProcMakesWithin source (suc depth) text t r =
    (p : ProcDef) × DefinesProcedure source text p
    × BodyMakes source (ProcMakesWithin source depth) ((p.param.text, t) ∷ []) p.body r

-- the procedure of this name makes r of t: what its value makes with its parameter bound to t
abbrev pub ProcMakes : Source → List ℕ → Tree → Tree → Type 0
ProcMakes source text t r = (depth : ℕ) × ProcMakesWithin source depth text t r
