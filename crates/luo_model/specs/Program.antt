-- A program as plain data.
use Rattle.std.specs.Prelude.{ℕ, List, [], Option, slice_index_or}
use Rattle.luo_model.specs.declared.program.Universe.{Universe}
use Rattle.luo_model.specs.declared.program.Part.{Part}
use Rattle.luo_model.specs.declared.program.Shape.{Shape}
use Rattle.luo_model.specs.declared.program.Shape.TheVariants.{Union}
use Rattle.luo_model.specs.declared.program.Node.{Node}
use Rattle.luo_model.specs.declared.program.Def.{Def}
use Rattle.luo_model.specs.declared.program.Site.{Site}
use Rattle.luo_model.specs.declared.body.Bind.{Bind}

mutual
  -- what a scope charges itself, and its items in text order
  pub data Body : Type 0 where
    Does : ℕ → Items → Body

  pub data Items : Type 0 where
    no_items : Items
    item : Item → Items → Items

  -- a call of a procedure, a case and a walk, each on a variable of the scope and with its site; a
  -- walk has a site for its body as well
  pub data Item : Type 0 where
    Call : (var callee site : ℕ) → Item
    Case : (var : ℕ) → Arms → (site : ℕ) → Item
    Forall : (var : ℕ) → Body → (body_site site : ℕ) → Item

  -- the arms of a case, each with what it binds
  pub data Arms : Type 0 where
    no_arms : Arms
    arm : Bind → Body → Arms → Arms

mutual
  -- what a procedure with a result makes
  pub data Value : Type 0 where
    Given : ℕ → Value
    Made : (var callee : ℕ) → Value
    Atom : (weight own : ℕ) → Value
    Tuple : Values → Value
    Branch : ℕ → Value → Value
    Chosen : (var : ℕ) → ValueArms → Value

  pub data Values : Type 0 where
    no_values : Values
    value : Value → Values → Values

  pub data ValueArms : Type 0 where
    no_value_arms : ValueArms
    value_arm : Bind → Value → ValueArms → ValueArms

-- the type of a result, and the value
pub record Result : Type 0 where
  pub on : Part
  pub value : Value

-- a procedure: its name, its parameter's type, what it does, the site of its whole, and its result,
-- if any
pub record Procedure : Type 0 where
  pub name : List ℕ
  pub on : Part
  pub body : Body
  pub site : ℕ
  pub result : Option Result

-- a program; the analyze lines name procedures
pub record Program : Type 0 where
  pub universe : Universe
  pub defs : List Def
  pub nodes : List Node
  pub procs : List Procedure
  pub sites : List Site
  pub analyses : List ℕ

-- a place that holds no node has no structure
abbrev pub no_node : Node
no_node = record { shape = Union []; owner = 0; place = 0 }

-- the construct of a node
abbrev pub shape_of : Program → ℕ → Shape
shape_of p x = (slice_index_or p.nodes x no_node).shape

-- the node of a site's variable
abbrev pub site_node : Program → ℕ → ℕ
site_node p i = (slice_index_or p.sites i (record { node = 0; caller = 0; place = 0 })).node
