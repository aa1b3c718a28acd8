-- The collection at a place of a plan's order.
use Rattle.std.proofs.Common.{◌≡◌, ℕ, ◌+◌, ◌≤◌, ◌<◌, ⊎_elim, List, length, take, slice_set, slice_get, ◌∙◌, ap, subst, arith, Some, Option}
use Rattle.luo_num.specs.Mark.{capped}
use Rattle.luo_num.specs.declared.TheConstants.{MAX}
use Rattle.luo_finite.specs.Listing.{In}
use Rattle.luo_model.specs.declared.program.Part.{Part}
use Rattle.luo_model.specs.declared.program.Kind.{Kind}
use Rattle.luo_model.specs.declared.program.Shape.{Shape}
use Rattle.luo_model.specs.declared.program.Shape.TheVariants.{Coll}
use Rattle.luo_model.specs.Program.{Program, shape_of}
use Rattle.luo_model.specs.View.{plain_of}
use Rattle.luo_model.specs.Member.{IsWithin}
use Rattle.luo_model.specs.Invariant.{IsProgram, inner_parts}
use Rattle.luo_model.proofs.NodeLemmas.{node_at_place}
use Rattle.luo_engine.specs.inner.Grid.{row_of, entry_of}
use Rattle.luo_engine.specs.inner.Filled.{AreCounted, CountsTo}
use Rattle.luo_engine.specs.inner.Plan.{Planned, IsPlan}
use Rattle.luo_engine.specs.inner.Asked.{Asked, GoesOnAs, number_asked, asked_more}
use Rattle.luo_engine.specs.inner.Collections.{table_at, AreCollections}
use Rattle.luo_recipes.proofs.CountLemmas.{number, obeys, suits}
use Rattle.luo_engine.proofs.inner.CollectionLemmas as collection

-- the parts of a construct are nodes
pub parts_there : (p : Program) → IsProgram p → (x : ℕ) → x < length p.nodes → (part : Part) → In part (inner_parts (shape_of p x)) → part.node < length p.nodes
parts_there p q x h part i = ⊎_elim
    (λ n. (q.parts_there x n.0 n.1 part (subst (λ (s : Shape). In part (inner_parts s)) n.2 i)).0)
    (λ o. absurd (subst (λ (s : Shape). In part (inner_parts s)) o i)) (node_at_place p x)

module _ (plan : Planned) (is : IsPlan plan) (counts : List (List ℕ)) (tables : List (Option Asked)) (n k x low : ℕ) (kind : Kind) (part : Part) (high : Option ℕ) (place : slice_get plan.order k ≡ Some x) (shape : shape_of (plain_of plan.program) x ≡ Coll kind part low high)
    (counted : AreCounted (plain_of plan.program) plan.order counts n k) (are : AreCollections (plain_of plan.program) plan.reach plan.order tables n k) where
  pub component_row : part.node < length counts
  component_row =
      let t = collection.component_there (plain_of plan.program) plan.ranks plan.order (number (plain_of plan.program) is.proper is.founded) (obeys (plain_of plan.program) is.proper is.founded) is.ranked (parts_there (plain_of plan.program) is.proper) is.ordered counts n k counted x place low kind part high shape plan.reach tables are in
      omega (arith, t, counted.wide)

  pub component_reaches : n < length (row_of counts part.node)
  component_reaches = counted.reach part.node component_row

  module _ (here : ℕ) (one : IsWithin low high 1 → here ≡ entry_of counts part.node n) (alone : (IsWithin low high 1 → ⊥) → here ≡ 0) (row comp : List ℕ) (is_row : row ≡ row_of counts part.node) (is_front : comp ≡ take n row) where
    front : comp ≡ take n (row_of counts part.node)
    front = is_front ∙ ap (take n) is_row

    pub goes_on : n ≤ plan.reach → GoesOnAs (table_at tables x) comp here
    goes_on =
        collection.goes_on (plain_of plan.program) plan.ranks plan.order (number (plain_of plan.program) is.proper is.founded) (obeys (plain_of plan.program) is.proper is.founded) is.ranked (parts_there (plain_of plan.program) is.proper) is.ordered counts n k counted x place low kind part high shape plan.reach tables are
        here one alone comp front

    pub comp_long : length comp ≡ n
    comp_long =
        collection.comp_long (plain_of plan.program) plan.ranks plan.order (number (plain_of plan.program) is.proper is.founded) (obeys (plain_of plan.program) is.proper is.founded) is.ranked (parts_there (plain_of plan.program) is.proper) is.ordered counts n k counted x place low kind part high shape plan.reach tables are
        here one alone comp front

    pub number_is : (value : ℕ) → value ≡ capped (number_asked (table_at tables x) comp here) → CountsTo (plain_of plan.program) x n value
    number_is =
        collection.number (plain_of plan.program) plan.ranks plan.order (number (plain_of plan.program) is.proper is.founded) (obeys (plain_of plan.program) is.proper is.founded) is.ranked (parts_there (plain_of plan.program) is.proper) is.ordered counts n k counted x place low kind part high shape plan.reach tables are
        here one alone comp front (suits (plain_of plan.program) is.proper is.founded x low kind part high shape)

    pub next : (new : List (Option Asked)) (value : ℕ) → new ≡ slice_set tables x (Some (asked_more (table_at tables x) comp here value)) → value ≤ MAX → AreCollections (plain_of plan.program) plan.reach plan.order new n (k + 1)
    next =
        collection.asked_next (plain_of plan.program) plan.ranks plan.order (number (plain_of plan.program) is.proper is.founded) (obeys (plain_of plan.program) is.proper is.founded) is.ranked (parts_there (plain_of plan.program) is.proper) is.ordered counts n k counted x place low kind part high shape plan.reach tables are
        here one alone comp front
