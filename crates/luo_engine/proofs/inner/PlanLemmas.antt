-- The entries of a plan's nodes.
use Rattle.std.proofs.Common.{◌≡◌, ⊎_elim, ℕ, ◌+◌, ◌<◌, List, [], length, sum_by, drop, slice_index, slice_get, sym, ◌∙◌, ap, subst, arith, Some, None, Option}
use Rattle.std.proofs.lemmas.Option.{get_or_from_slice_get}
use Rattle.std.proofs.lemmas.Bool.Decides.{nat_tests}
use Rattle.luo_num.specs.Mark.{capped}
use Rattle.luo_finite.specs.Listing.{In}
use Rattle.luo_model.specs.declared.program.Part.{Part}
use Rattle.luo_model.specs.declared.program.Shape.{Shape}
use Rattle.luo_model.specs.declared.program.Shape.TheVariants.{Atom, Union, Product}
use Rattle.luo_model.specs.Program.{Program, shape_of}
use Rattle.luo_model.specs.Invariant.{IsProgram, inner_parts}
use Rattle.luo_model.specs.View.{plain_of}
use Rattle.luo_model.proofs.NodeLemmas.{node_at_place}
use Rattle.luo_engine.specs.inner.Grid.{entry_of}
use Rattle.luo_recipes.specs.Shares.{tail_of}
use Rattle.luo_recipes.specs.Obeys.{atom_count}
use Rattle.luo_engine.specs.inner.Filled.{AreCounted, CountsTo}
use Rattle.luo_engine.specs.inner.Plan.{Planned, IsPlan}
use Rattle.luo_engine.proofs.inner.RowLemmas.{end-there, room-there}
use Rattle.luo_recipes.proofs.CountLemmas.{number, obeys}
use Rattle.luo_engine.proofs.inner.EntryLemmas.{product_counts, union_counts, atom_counts_to}

small_atom : (weight n : ℕ) → atom_count weight n ≡ capped (atom_count weight n)
small_atom weight n = grind (arith, nat_tests)

-- the parts of each node are there
pub parts_of_program : (p : Program) → IsProgram p → (x : ℕ) (part : Part) → In part (inner_parts (shape_of p x)) → part.node < length p.nodes
parts_of_program p q x part i = ⊎_elim
    (λ n. (q.parts_there x n.0 n.1 part (subst (λ (s : Shape). In part (inner_parts s)) n.2 i)).0)
    (λ o. nothing (subst (λ (s : Shape). In part (inner_parts s)) o i)) (node_at_place p x)
  where
    nothing : In part (inner_parts (Union [])) → part.node < length p.nodes
    nothing j = absurd j

module _ (plan : Planned) (is : IsPlan plan) (k x : ℕ) (place : slice_get plan.order k ≡ Some x) where
  x_there : x < length plan.program.nodes
  x_there = is.ordered.there k x place

  pub parts_there : (parts : List Part) (shape : Shape) → shape_of (plain_of plan.program) x ≡ shape → inner_parts shape ≡ parts → (width : ℕ) → width ≡ length plan.program.nodes → (part : Part) → In part parts → part.node < width
  parts_there parts shape e q width w part i =
      let j : In part (inner_parts (shape_of (plain_of plan.program) x)) = subst (λ (s : Shape). In part (inner_parts s)) (sym e) (subst (In part) (sym q) i) in
      omega (arith, w, parts_of_program (plain_of plan.program) is.proper x part j)

  pub end_at : (parts : List Part) (start arity : ℕ) (factors : List (Option ℕ)) → shape_of (plain_of plan.program) x ≡ Product parts → start ≡ slice_index plan.starts x → arity ≡ length parts → factors ≡ plan.factors
      → slice_get factors (start + arity) ≡ Some None
  end_at parts start arity factors e s a f =
      let rows = is.laid.products x parts x_there e in
      ap (λ (fs : List (Option ℕ)). slice_get fs (start + arity)) f ∙ ap (λ i. slice_get plan.factors (i + arity)) s ∙ ap (λ i. slice_get plan.factors (slice_index plan.starts x + i)) a
      ∙ end-there (λ (part : Part). part.node) parts rows.0 plan.factors (slice_index plan.starts x) rows.1

  pub room_at : (parts : List Part) (start arity : ℕ) (factors : List (Option ℕ)) → shape_of (plain_of plan.program) x ≡ Product parts → start ≡ slice_index plan.starts x → arity ≡ length parts → factors ≡ plan.factors
      → start + arity < length factors
  room_at parts start arity factors e s a f =
      let rows = is.laid.products x parts x_there e in
      omega (arith, s, a, ap length f, room-there (λ (part : Part). part.node) parts rows.0 plan.factors (slice_index plan.starts x) rows.1)

  module _ (counts : List (List ℕ)) (n value : ℕ) (counted : AreCounted (plain_of plan.program) plan.order counts n k) where
    pub placed_to : CountsTo (plain_of plan.program) x n value → CountsTo (plain_of plan.program) (slice_index plan.order k) n value
    placed_to c = subst (λ y. CountsTo (plain_of plan.program) y n value) (sym (get_or_from_slice_get plan.order k x 0 place)) c

    pub product_to : (parts : List Part) (start : ℕ) (factors : List (Option ℕ)) → shape_of (plain_of plan.program) x ≡ Product parts → start ≡ slice_index plan.starts x → factors ≡ plan.factors
        → value ≡ capped (tail_of plan.program.universe (entry_of counts) (drop start factors) n) → CountsTo (plain_of plan.program) (slice_index plan.order k) n value
    product_to parts start factors e s f v =
        placed_to (product_counts (plain_of plan.program) plan.ranks plan.order (number (plain_of plan.program) is.proper is.founded) (obeys (plain_of plan.program) is.proper is.founded) is.ranked (λ y h part i. parts_of_program (plain_of plan.program) is.proper y part i) is.ordered
        counts n k counted x place parts start value plan.factors plan.starts e is.laid s
        (v ∙ ap (λ (fs : List (Option ℕ)). capped (tail_of plan.program.universe (entry_of counts) (drop start fs) n)) f))

    pub union_to : (parts : List Part) → shape_of (plain_of plan.program) x ≡ Union parts → value ≡ capped (sum_by (λ part. entry_of counts part.node n) parts) → CountsTo (plain_of plan.program) (slice_index plan.order k) n value
    union_to parts e v =
        placed_to (union_counts (plain_of plan.program) plan.ranks plan.order (number (plain_of plan.program) is.proper is.founded) (obeys (plain_of plan.program) is.proper is.founded) is.ranked (λ y h part i. parts_of_program (plain_of plan.program) is.proper y part i) is.ordered
        counts n k counted x place parts value e v)

    pub atom_to : (weight : ℕ) → shape_of (plain_of plan.program) x ≡ Atom weight → value ≡ atom_count weight n → CountsTo (plain_of plan.program) (slice_index plan.order k) n value
    atom_to weight e v =
        placed_to (atom_counts_to (plain_of plan.program) plan.ranks plan.order (number (plain_of plan.program) is.proper is.founded) (obeys (plain_of plan.program) is.proper is.founded) is.ranked (λ y h part i. parts_of_program (plain_of plan.program) is.proper y part i) is.ordered
        counts n k counted x place weight value e v (v ∙ small_atom weight n ∙ ap capped (sym v)))
