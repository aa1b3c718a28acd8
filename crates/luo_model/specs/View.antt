-- The program of the code as plain data.
use Rattle.std.specs.Prelude.{ℕ, List, [], ◌∷◌, map}
use Rattle.std.specs.Option.{option_map}
use Rattle.luo_model.specs.declared.body.Body.{Body}
use Rattle.luo_model.specs.declared.body.Item.{Item, Call, Case', Forall', Row_of-Item, end_of-Item, more_of-Item, Row_of-Arm, end_of-Arm, more_of-Arm}
use Rattle.luo_model.specs.declared.value.Made.{Made}
use Rattle.luo_model.specs.declared.value.Value.{Value, Row_of-Value, end_of-Value, more_of-Value, Row_of-ValueArm, end_of-ValueArm, more_of-ValueArm}
use Rattle.luo_model.specs.declared.value.Value as made
use Rattle.luo_model.specs.declared.program.Proc.{Proc}
use Rattle.luo_model.specs.declared.program.Universe.{Universe}
use Rattle.luo_model.specs.declared.program.Def.{Def}
use Rattle.luo_model.specs.declared.program.Node.{Node}
use Rattle.luo_model.specs.declared.program.Site.{Site}
use Rattle.luo_model.specs.Program as plain

abbrev mutual
  pub item_of : Item → plain.Item
  item_of (Call var callee site) = plain.Call var callee site
  item_of (Case' var shape arms site) = plain.Case var (arms_of arms) site
  item_of (Forall' var own shape items body_site site) =
      plain.Forall var (plain.Does own (items_of items)) body_site site

  pub items_of : {n : _} → Row_of-Item n → plain.Items
  items_of end_of-Item = plain.no_items
  items_of (more_of-Item i rest) = plain.item (item_of i) (items_of rest)

  pub arms_of : {n : _} → Row_of-Arm n → plain.Arms
  arms_of end_of-Arm = plain.no_arms
  arms_of (more_of-Arm bind own shape items rest) =
      plain.arm bind (plain.Does own (items_of items)) (arms_of rest)

abbrev pub item_list : List Item → plain.Items
item_list [] = plain.no_items
item_list (i ∷ is) = plain.item (item_of i) (item_list is)

abbrev pub body_of : Body → plain.Body
body_of b = plain.Does b.own (item_list b.items)

abbrev mutual
  pub value_of : Value → plain.Value
  value_of (made.Given var) = plain.Given var
  value_of (made.Call var callee) = plain.Made var callee
  value_of (made.Atom weight own) = plain.Atom weight own
  value_of (made.Tuple' shape parts) = plain.Tuple (values_of parts)
  value_of (made.Branch' number shape inner) = plain.Branch number (first_value inner)
  value_of (made.Case' var shape arms) = plain.Chosen var (value_arms_of arms)

  pub values_of : {n : _} → Row_of-Value n → plain.Values
  values_of end_of-Value = plain.no_values
  values_of (more_of-Value v rest) = plain.value (value_of v) (values_of rest)

  -- the one value of a box
  pub first_value : {n : _} → Row_of-Value n → plain.Value
  first_value end_of-Value = plain.Tuple plain.no_values
  first_value (more_of-Value v rest) = value_of v

  pub value_arms_of : {n : _} → Row_of-ValueArm n → plain.ValueArms
  value_arms_of end_of-ValueArm = plain.no_value_arms
  value_arms_of (more_of-ValueArm bind v rest) =
      plain.value_arm bind (value_of v) (value_arms_of rest)

abbrev pub result_of : Made → plain.Result
result_of m = record { on = m.on; value = value_of m.value }

abbrev pub procedure_of : Proc → plain.Procedure
procedure_of P =
    record {
      name = P.name;
      on = P.on;
      body = body_of P.body;
      site = P.site;
      result = option_map result_of P.result;
    }

-- a program as the code holds it
pub record Held : Type 0 where
  pub universe : Universe
  pub defs : List Def
  pub nodes : List Node
  pub procs : List Proc
  pub sites : List Site
  pub analyses : List ℕ

-- the program as plain data
abbrev pub plain_of : Held → plain.Program
plain_of p =
    record {
      universe = p.universe;
      defs = p.defs;
      nodes = p.nodes;
      procs = map procedure_of p.procs;
      sites = p.sites;
      analyses = p.analyses;
    }
