-- Bodies and values that fit the variables of their scopes.
use Rattle.std.specs.Prelude.{◌≡◌, ℕ, suc, ◌*◌, ◌≤◌, List, [], ◌∷◌, length, Some, slice_get}
use Rattle.luo_num.specs.declared.limits.TheConstants.{NUMBER_LIMIT, STATEMENT_LIMIT}
use Rattle.luo_model.specs.declared.program.Part.{Part}
use Rattle.luo_model.specs.declared.program.Shape.TheVariants as shape
use Rattle.luo_model.specs.Program.{Program, Procedure, Result, Body, Does, Items, no_items, item, Item, Call, Case, Forall, Arms, no_arms, arm, Value, Given, Made, Atom, Tuple, Branch, Chosen, Values, no_values, value, ValueArms, no_value_arms, value_arm, shape_of}
use Rattle.luo_model.specs.Scopes.Stands.{Stand, stands, factors, component, IsCollection, IsProductOf, MayBind, bound_parts}

abbrev mutual
  -- each variable is bound; a call's is of the callee's node; a case has one arm for each thing
  -- that there is to stand for, and a walk goes over a collection
  pub FitsBody : Program → List Part → Body → Type 0
  FitsBody p vars (Does own items) = (own ≤ STATEMENT_LIMIT * NUMBER_LIMIT) × FitsItems p vars items

  pub FitsItems : Program → List Part → Items → Type 0
  FitsItems p vars no_items = Unit {0}
  FitsItems p vars (item i is) = FitsItem p vars i × FitsItems p vars is

  pub FitsItem : Program → List Part → Item → Type 0
  FitsItem p vars (Call var callee site) =
      (P : Procedure) × (on : Part)
      × (slice_get p.procs callee ≡ Some P) × (slice_get vars var ≡ Some on) × (on.node ≡ P.on.node)
  FitsItem p vars (Case var arms site) =
      (on : Part) × (slice_get vars var ≡ Some on)
      × (1 ≤ length (stands on (shape_of p on.node)))
      × FitsArms p (stands on (shape_of p on.node)) arms
  FitsItem p vars (Forall var body body_site site) =
      (on : Part) × (slice_get vars var ≡ Some on)
      × IsCollection (shape_of p on.node) × FitsBody p (component (shape_of p on.node) ∷ []) body

  pub FitsArms : Program → List Stand → Arms → Type 0
  FitsArms p [] no_arms = Unit {0}
  FitsArms p (stand ∷ rest) (arm bind body arms) =
      MayBind p stand bind × FitsBody p (bound_parts p stand bind) body × FitsArms p rest arms
  FitsArms p _ _ = ⊥

-- the number of parts of a tuple
abbrev pub value_count : Values → ℕ
value_count no_values = 0
value_count (value v vs) = suc (value_count vs)

abbrev mutual
  -- a value makes a structure of the node that is expected
  pub FitsValue : Program → List Part → ℕ → Value → Type 0
  FitsValue p vars expected (Given var) =
      (on : Part) × (slice_get vars var ≡ Some on) × (on.node ≡ expected)
  FitsValue p vars expected (Made var callee) =
      (P : Procedure) × (r : Result) × (on : Part)
      × (slice_get p.procs callee ≡ Some P) × (slice_get vars var ≡ Some on) × (on.node ≡ P.on.node)
      × (P.result ≡ Some r) × (r.on.node ≡ expected)
  FitsValue p vars expected (Atom weight own) =
      (shape_of p expected ≡ shape.Atom weight) × (own ≤ NUMBER_LIMIT)
  FitsValue p vars expected (Tuple vs) =
      IsProductOf (value_count vs) (shape_of p expected)
      × FitsValues p vars (factors (shape_of p expected)) vs
  FitsValue p vars expected (Branch number v) =
      (parts : List Part) × (i : ℕ) × (part : Part)
      × (shape_of p expected ≡ shape.Union parts) × (number ≡ suc i)
      × (slice_get parts i ≡ Some part)
      × FitsValue p vars part.node v
  FitsValue p vars expected (Chosen var arms) =
      (on : Part) × (slice_get vars var ≡ Some on)
      × (1 ≤ length (stands on (shape_of p on.node)))
      × FitsValueArms p (stands on (shape_of p on.node)) expected arms

  pub FitsValues : Program → List Part → List Part → Values → Type 0
  FitsValues p vars [] no_values = Unit {0}
  FitsValues p vars (expected ∷ rest) (value v vs) =
      FitsValue p vars expected.node v × FitsValues p vars rest vs
  FitsValues p vars _ _ = ⊥

  pub FitsValueArms : Program → List Stand → ℕ → ValueArms → Type 0
  FitsValueArms p [] expected no_value_arms = Unit {0}
  FitsValueArms p (stand ∷ rest) expected (value_arm bind v arms) =
      MayBind p stand bind × FitsValue p (bound_parts p stand bind) expected v
      × FitsValueArms p rest expected arms
  FitsValueArms p _ expected _ = ⊥
