-- How far the structures of a type expression go down without getting smaller.
use Rattle.std.specs.Prelude.{◌≡◌, ℕ, zero, suc, ◌≤◌, Option, Some, slice_get}
use Rattle.luo_model.specs.declared.program.Kind.{Kind}
use Rattle.luo_model.specs.Tree.{Tree, size_of}
use Rattle.luo_source.specs.declared.types.Bound.{Bound}
use Rattle.luo_source.specs.Plain.Types.{TypeExpr, Union, Product, Coll}
use Rattle.luo_source.specs.Plain.Source.{Source}
use Rattle.luo_meaning.specs.Structures.{IsOf, AllowsCount, exprs_in}
use Rattle.luo_meaning.specs.Types.{LeadsTo}

-- some structure of e has size 0
abbrev pub MayBeEmpty : Source → TypeExpr → Type 0
MayBeEmpty source e = (t : Tree) × IsOf source e t × (size_of t ≡ 0)

-- a structure of e may have the size of a part of it that is of f
pub data KeepsSize (source : Source) (e f : TypeExpr) : Type 0 where
  -- f is a branch of the union that e leads to
  by_branch : {parts : _} (i : ℕ) → LeadsTo source (Union parts) e
      → slice_get (exprs_in parts) i ≡ Some f → KeepsSize source e f
  -- f is a factor of the product that e leads to, and each other factor may be empty
  by_factor : {parts : _} {at : ℕ} (i : ℕ) → LeadsTo source (Product parts at) e
      → slice_get (exprs_in parts) i ≡ Some f
      → ((k : ℕ) (other : TypeExpr) → slice_get (exprs_in parts) k ≡ Some other → (k ≡ i → ⊥)
      → MayBeEmpty source other) → KeepsSize source e f
  -- f is the component of the collection that e leads to, which may have one
  by_component : {kind : Kind} {bound : Option Bound} {at : ℕ}
      → LeadsTo source (Coll kind f bound at) e → AllowsCount kind bound 1 → KeepsSize source e f

-- so many such steps, one after the other, begin at e
abbrev pub HasChain : Source → ℕ → TypeExpr → Type 0
HasChain source zero e = Unit {0}
HasChain source (suc k) e = (f : TypeExpr) × KeepsSize source e f × HasChain source k f

-- the rank of e is the greatest number of such steps
abbrev pub IsRankOf : Source → TypeExpr → ℕ → Type 0
IsRankOf source e r = HasChain source r e × ((k : ℕ) → HasChain source k e → k ≤ r)
