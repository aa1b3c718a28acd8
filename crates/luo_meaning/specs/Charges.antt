-- What statements, values and procedures charge, by their forms as written.
use Rattle.std.specs.Prelude.{◌≡◌, ℕ, zero, suc, ◌+◌, List, [], ◌∷◌, Some, None}
use Rattle.luo_model.specs.Tree.{Tree, Trees, Inj, Tup, Coll}
use Rattle.luo_model.specs.Charges.{EachCharges}
use Rattle.luo_source.specs.Plain.Statements.{Stmt, Skip, Charge, Call, Block, Case, Forall, Stmts, no_stmts, a_stmt, SourceArms, no_source_arms, a_source_arm}
use Rattle.luo_source.specs.Plain.Values as value
use Rattle.luo_source.specs.Plain.Values.{SourceValue, Given, Made, Atom, Tuple, Branch, SourceValues, no_source_values, a_source_value, SourceValueArms, no_source_value_arms, a_source_value_arm}
use Rattle.luo_source.specs.Plain.Source.{ProcBody, Statements, Value, ProcDef, Source}
use Rattle.luo_meaning.specs.Defined.{DefinesMeasure, DefinesProcedure}
use Rattle.luo_meaning.specs.Variables.{Environment, structure_of, binds}

-- R relates the name of a procedure and a structure to what it charges there
module _ (source : Source) (R : List ℕ → Tree → ℕ → Type 0) where
  abbrev mutual
    pub StmtCharges : Environment → Stmt → ℕ → Type 0
    -- `skip`: nothing
    StmtCharges env Skip q = q ≡ 0
    -- `m`: the value of the measure m
    StmtCharges env (Charge measure) q = DefinesMeasure source measure.text q
    -- `p(x)`: what the procedure p charges on the structure of x
    StmtCharges env (Call callee arg) q =
        (t : Tree) × (structure_of env arg.text ≡ Some t) × R callee.text t q
    -- `begin .. end`: the sum over its statements
    StmtCharges env (Block stmts) q = StmtsCharge env stmts q
    -- `case x of .. end`: what the arm for the structure of x charges
    StmtCharges env (Case var arms) q =
        (t : Tree) × (structure_of env var.text ≡ Some t) × ArmsCharge arms t q
    -- `forall v in x do ..`: the sum over the components of x, copies included, of what the body
    -- charges with v alone bound to it
    StmtCharges env (Forall var over body) q =
        (ts : Trees) × (structure_of env over.text ≡ Some (Coll ts))
        × EachCharges (λ t. StmtCharges ((var.text, t) ∷ []) body) ts q

    pub StmtsCharge : Environment → Stmts → ℕ → Type 0
    StmtsCharge env no_stmts q = q ≡ 0
    StmtsCharge env (a_stmt stmt rest) q =
        (a : ℕ) × (b : ℕ) × StmtCharges env stmt a × StmtsCharge env rest b × (q ≡ a + b)

    -- on a structure of branch i the arm in place i, from 1, and on a tuple the one arm; its scope
    -- has what its pattern binds, and nothing else
    pub ArmsCharge : SourceArms → Tree → ℕ → Type 0
    ArmsCharge (a_source_arm pattern body rest) (Inj (suc zero) t) q =
        StmtCharges (binds pattern t) body q
    ArmsCharge (a_source_arm pattern body rest) (Inj (suc (suc i)) t) q =
        ArmsCharge rest (Inj (suc i) t) q
    ArmsCharge (a_source_arm pattern body no_source_arms) (Tup ts) q =
        StmtCharges (binds pattern (Tup ts)) body q
    ArmsCharge _ _ q = ⊥

  abbrev mutual
    pub ValueCharges : Environment → SourceValue → ℕ → Type 0
    -- `x`: nothing
    ValueCharges env (Given name) q = q ≡ 0
    -- `p(x)`: what the procedure p charges on the structure of x
    ValueCharges env (Made callee arg) q =
        (t : Tree) × (structure_of env arg.text ≡ Some t) × R callee.text t q
    -- `atom`: nothing; `m atom`: the value of the measure m
    ValueCharges env (Atom None at) q = q ≡ 0
    ValueCharges env (Atom (Some measure) at) q = DefinesMeasure source measure.text q
    -- `product(..)`: the sum over its parts
    ValueCharges env (Tuple parts at) q = ValuesCharge env parts q
    -- `i : v`: what v does
    ValueCharges env (Branch number at inner) q = ValueCharges env inner q
    -- `case x of .. end`: what the arm for the structure of x charges
    ValueCharges env (value.Case var arms) q =
        (t : Tree) × (structure_of env var.text ≡ Some t) × ValueArmsCharge arms t q

    pub ValuesCharge : Environment → SourceValues → ℕ → Type 0
    ValuesCharge env no_source_values q = q ≡ 0
    ValuesCharge env (a_source_value v rest) q =
        (a : ℕ) × (b : ℕ) × ValueCharges env v a × ValuesCharge env rest b × (q ≡ a + b)

    -- arms with values: as those with statements
    pub ValueArmsCharge : SourceValueArms → Tree → ℕ → Type 0
    ValueArmsCharge (a_source_value_arm pattern body rest) (Inj (suc zero) t) q =
        ValueCharges (binds pattern t) body q
    ValueArmsCharge (a_source_value_arm pattern body rest) (Inj (suc (suc i)) t) q =
        ValueArmsCharge rest (Inj (suc i) t) q
    ValueArmsCharge (a_source_value_arm pattern body no_source_value_arms) (Tup ts) q =
        ValueCharges (binds pattern (Tup ts)) body q
    ValueArmsCharge _ _ q = ⊥

  -- the body of a procedure: statements, or the value of its result
  abbrev pub BodyCharges : Environment → ProcBody → ℕ → Type 0
  BodyCharges env (Statements stmts) q = StmtsCharge env stmts q
  BodyCharges env (Value colon result v) q = ValueCharges env v q

-- the procedure of this name charges q on t, where calls go at most so deep
abbrev pub ProcChargesWithin : Source → ℕ → List ℕ → Tree → ℕ → Type 0
ProcChargesWithin source zero text t q = ⊥
ProcChargesWithin source (suc depth) text t q =
    (p : ProcDef) × DefinesProcedure source text p
    × BodyCharges source (ProcChargesWithin source depth) ((p.param.text, t) ∷ []) p.body q

-- the procedure of this name charges q on t: what its body charges with its parameter bound to t
abbrev pub ProcCharges : Source → List ℕ → Tree → ℕ → Type 0
ProcCharges source text t q = (depth : ℕ) × ProcChargesWithin source depth text t q
