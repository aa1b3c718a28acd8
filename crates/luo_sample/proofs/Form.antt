-- The source of a sample program, at any tokens.
use Rattle.std.specs.Prelude.{◌≡◌, ℕ, zero, suc, List, [], ◌∷◌, codes, None}
use Rattle.luo_model.specs.declared.program.Universe.{Universe}
use Rattle.luo_model.specs.declared.program.Kind.{Kind}
use Rattle.luo_source.specs.declared.names.Name.{Name}
use Rattle.luo_source.specs.Plain.Types.{Named, Atom, Union, Product, Coll, no_exprs, an_expr, TypeDef}
use Rattle.luo_source.specs.declared.types.MeasureDef.{MeasureDef}
use Rattle.luo_source.specs.declared.statements.Pattern.TheVariants as pattern
use Rattle.luo_source.specs.Plain.Statements.{Skip, Charge, Call, Block, Case, Forall, Stmts, no_stmts, a_stmt, SourceArms, no_source_arms, a_source_arm}
use Rattle.luo_source.specs.Plain.Source.{Statements, ProcDef, Source}
use Rattle.luo_sample.specs.declared.choice.Choice.{Choice}
use Rattle.luo_sample.specs.Text.{kind_chosen, type_name, proc_name}

abbrev pub at : List ℕ → ℕ → Name
at text token = record { text = text; at = token }

-- element n of the list, or 0
abbrev pub token : List ℕ → ℕ → ℕ
token [] n = 0
token (k ∷ ks) zero = k
token (k ∷ ks) (suc n) = token ks n

-- a definition of z as an atom of weight 1
pub data IsAtomDef : TypeDef → Type 0 where
  atom_def : {a b c : ℕ} → IsAtomDef (record { names = at (codes "z") a ∷ []; body = Atom 1 b c })

-- definition i, by its choice, with a collection of this kind, at these tokens
abbrev pub type_form_with : Kind → ℕ → Choice → List ℕ → TypeDef
type_form_with kind i c ks = record {
  names = at (type_name i) (token ks 0) ∷ [];
  body = Union (
      an_expr (Named (at (codes "z") (token ks 1))) (
      an_expr (Product (an_expr (Named (at (codes "z") (token ks 2))) (
      an_expr (Named (at (type_name c.first) (token ks 3))) (
      an_expr (Named (at (type_name c.second) (token ks 4))) no_exprs))) (token ks 5)) (
      an_expr (Product (an_expr (Named (at (codes "z") (token ks 6))) (
      an_expr (Coll kind (Named (at (type_name c.inner) (token ks 7))) None (token ks 8)) no_exprs)) (token ks 9))
      no_exprs)));
}

abbrev pub type_form : Universe → ℕ → Choice → List ℕ → TypeDef
type_form universe i c ks = type_form_with (kind_chosen universe c.kind) i c ks

pub data IsTypeOf (universe : Universe) (i : ℕ) (c : Choice) : TypeDef → Type 0 where
  type_of : (ks : List ℕ) → IsTypeOf universe i c (type_form universe i c ks)

pub data IsUnit : MeasureDef → Type 0 where
  unit_def : {a : ℕ} → IsUnit (record { names = at (codes "unit") a ∷ []; value = 1 })

-- what the arms of a procedure do
abbrev pub two_calls : Choice → List ℕ → Stmts
two_calls c ks =
    a_stmt (Call (at (proc_name c.first) (token ks 10)) (at (codes "b") (token ks 11))) (
    a_stmt (Call (at (proc_name c.second) (token ks 12)) (at (codes "c") (token ks 13)))
    no_stmts)

abbrev pub one_walk : Choice → List ℕ → Stmts
one_walk c ks = a_stmt (Forall (at (codes "u") (token ks 17)) (at (codes "b") (token ks 18)) (Call (at (proc_name c.inner) (token ks 19)) (at (codes "u") (token ks 20)))) no_stmts

abbrev pub arms_form : Choice → List ℕ → SourceArms
arms_form c ks =
    a_source_arm (pattern.Named (at (codes "z") (token ks 5))) Skip (
    a_source_arm (pattern.Parts (at (codes "a") (token ks 6) ∷ at (codes "b") (token ks 7) ∷ at (codes "c") (token ks 8) ∷ []) (token ks 9)) (Block (two_calls c ks)) (
    a_source_arm (pattern.Parts (at (codes "a") (token ks 14) ∷ at (codes "b") (token ks 15) ∷ []) (token ks 16)) (Block (one_walk c ks))
    no_source_arms))

-- procedure i, by its choice, at these tokens
abbrev pub proc_form : ℕ → Choice → List ℕ → ProcDef
proc_form i c ks = record {
  name = at (proc_name i) (token ks 0);
  param = at (codes "x") (token ks 1);
  on = at (type_name i) (token ks 2);
  body = Statements (
      a_stmt (Charge (at (codes "unit") (token ks 3))) (
      a_stmt (Case (at (codes "x") (token ks 4)) (arms_form c ks))
      no_stmts));
}

pub data IsProcOf (i : ℕ) (c : Choice) : ProcDef → Type 0 where
  proc_of : (ks : List ℕ) → IsProcOf i c (proc_form i c ks)

-- so many elements, from number i on, of each of which P holds with its number
abbrev pub EachFrom : {A : Type 0} → (ℕ → A → Type 0) → ℕ → ℕ → List A → Type 0
EachFrom P i zero [] = Unit {0}
EachFrom P i zero (x ∷ xs) = ⊥
EachFrom P i (suc n) [] = ⊥
EachFrom P i (suc n) (x ∷ xs) = P i x × EachFrom P (suc i) n xs

abbrev pub AreTypes : Universe → (ℕ → Choice) → ℕ → ℕ → List TypeDef → Type 0
AreTypes universe choice = EachFrom (λ i d. IsTypeOf universe i (choice i) d)

abbrev pub AreProcs : (ℕ → Choice) → ℕ → ℕ → List ProcDef → Type 0
AreProcs choice = EachFrom (λ i p. IsProcOf i (choice i) p)

abbrev pub AreAnalyzed : ℕ → ℕ → List Name → Type 0
AreAnalyzed = EachFrom (λ i name. name.text ≡ proc_name i)

-- z, and then 20 definitions
abbrev pub AllTypes : Universe → (ℕ → Choice) → List TypeDef → Type 0
AllTypes universe choice [] = ⊥
AllTypes universe choice (d ∷ ds) = IsAtomDef d × AreTypes universe choice 0 20 ds

abbrev pub OneMeasure : List MeasureDef → Type 0
OneMeasure (m ∷ []) = IsUnit m
OneMeasure _ = ⊥

-- the source of these choices
pub record IsSource (universe : Universe) (choice : ℕ → Choice) (s : Source) : Type 0 where
  pub universe_is : s.universe ≡ universe
  pub types : AllTypes universe choice s.types
  pub measures : OneMeasure s.measures
  pub procs : AreProcs choice 0 20 s.procs
  pub analyses : AreAnalyzed 0 8 s.analyses
