-- Meanings of small sources, computed on their core forms and brought back by the laws.
use Rattle.std.proofs.Common.{◌≡◌, ◌↔◌, ℕ, List, [], ◌∷◌, true, Some, codes, refl, subst, arith}
use Rattle.luo_finite.proofs.Listings.{Lists-iff}
use Rattle.luo_model.specs.Order.{order_of}
use Rattle.luo_model.specs.Tree.{Tree, Coll, none, more}
use Rattle.luo_model.specs.Member.{Member}
use Rattle.luo_model.specs.Structures.{IsStructure}
use Rattle.luo_model.proofs.Searched.{is_listing, listing_is}
use Rattle.luo_model.proofs.Decided.{deep}
use Rattle.luo_model.proofs.Computed.{charge_within, charge_is}
use Rattle.luo_model.proofs.ChargeLemmas.{charges_one}
use Rattle.luo_source.specs.declared.names.Name.{Name}
use Rattle.luo_source.specs.Plain.Types.{Named}
use Rattle.luo_source.specs.Plain.Source.{Source}
use Rattle.luo_rules.specs.declared.names.Meaning.TheVariants as mean
use Rattle.luo_rules.specs.Meanings.{meaning}
use Rattle.luo_rules.specs.Definitions.{definitions, names_of, measures}
use Rattle.luo_rules.specs.inner.Naming.{node_of}
use Rattle.luo_rules.specs.TypeBreaches.{measures_breaches}
use Rattle.luo_rules.specs.Sources.{binary_source, permutations_source, few_cycles, copying}
use Rattle.luo_rules.specs.Whole.{core}
use Rattle.luo_rules.proofs.ProperSource.{ProperSource, ProperProc}
use Rattle.luo_rules.proofs.SourceFacts.{all_get}
use Rattle.luo_rules.proofs.CleanSource.{Clean, clean}
use Rattle.luo_meaning.specs.Structures.{IsOf}
use Rattle.luo_meaning.specs.Rows.{IsStructureOf}
use Rattle.luo_meaning.specs.Examples.{choices, spines}
use Rattle.luo_meaning.specs.Facts.{AreAllOf, ChargesJust, point, leaf, inner, zero_bit, one_bit, bits, first_kind, second_kind, CyclesAreCharged, ChoicesOfTwo, BinaryTreesOfTwo, PathLengths, SpinesAreCharged, PermutationsOfTwo, FewCyclesOfTwo, BothIsMade}
use Rattle.luo_interp.specs.Makes.{Makes}
use Rattle.luo_meaning.specs.Made.{ProcMakes}
use Rattle.luo_meaning.proofs.RowsKept.{type_kept}
use Rattle.luo_meaning.proofs.ProceduresKept.{charges_kept}
use Rattle.luo_meaning.proofs.ProceduresMade.{made_kept}

-- a listing of a node is one of the name that leads to it
all_of : (source : Source) → Clean source → (text : List ℕ) (i x n : ℕ) (trees : List Tree) → meaning (names_of source) text ≡ Some (mean.Definition i) → node_of (names_of source) (definitions source) i ≡ x
    → is_listing (core source) deep x n trees ≡ true → AreAllOf source text n trees
all_of source c text i x n trees means node e =
    let name : Name = record { text = text; at = 0 } in
    let kept : (t : Tree) → Member (core source) x t ↔ IsOf source (Named name) t = λ t. subst (λ y. Member (core source) y t ↔ IsOf source (Named name) t) node (type_kept source c name i means t) in
    Lists-iff (IsStructure (core source) x n) (IsStructureOf source (Named name) n) trees (λ t h. ((kept t).0 h.0, h.1, h.2)) (λ t h. ((kept t).1 h.0, h.1, h.2)) (listing_is (core source) deep x n trees e)

-- what is computed is what is charged, and nothing else
just : (source : Source) → Clean source → measures_breaches (names_of source) 0 (measures source) ≡ [] → (text : List ℕ) (f : ℕ) (t : Tree) (q : ℕ) → meaning (names_of source) text ≡ Some (mean.Procedure f)
    → charge_within (core source).procs deep f t ≡ Some q → ChargesJust source text t q
just source c clear text f t q means e =
    let charged = charge_is (core source) deep f t q e in
    ((charges_kept source c clear text f means t q).0 charged, λ other h. charges_one (core source) f t other q ((charges_kept source c clear text f means t other).1 h) charged)

pub binary_clean : Clean binary_source
binary_clean =
    clean binary_source
    (record {
      right_sides = (tt, (tt, ((omega arith, (tt, ((omega arith, (tt, (tt, (tt, tt)))), tt))), tt)));
      values = (omega arith, tt);
      bodies = (((omega arith, (tt, ((tt, (tt, (tt, tt))), tt))), tt), (((omega arith, (tt, ((tt, (tt, (tt, (tt, tt)))), tt))), tt), tt));
    }) refl

permutations_clean : Clean permutations_source
permutations_clean = clean permutations_source (record { right_sides = (tt, (tt, (tt, tt))); values = (omega arith, tt); bodies = ((tt, tt), tt) }) refl

few_cycles_clean : Clean few_cycles
few_cycles_clean = clean few_cycles (record { right_sides = (tt, (tt, (tt, tt))); values = (omega arith, tt); bodies = ((tt, tt), tt) }) refl

pub cycles_are_charged : CyclesAreCharged
cycles_are_charged = (
  just permutations_source permutations_clean refl (codes "cycles") 0 (Coll (more (Coll (more (point 1) (more (point 2) none))) none)) 1 refl refl,
  just permutations_source permutations_clean refl (codes "cycles") 0 (Coll (more (Coll (more (point 1) none)) (more (Coll (more (point 2) none)) none))) 2 refl refl,
)

pub choices_clean : Clean choices
choices_clean = clean choices (record { right_sides = (tt, ((omega arith, (tt, (tt, tt))), (tt, (tt, tt)))); values = (omega arith, tt); bodies = ((tt, tt), tt) }) refl

pub choices_of_two : ChoicesOfTwo
unfolding order_of
choices_of_two = (
  all_of choices choices_clean (codes "u") 3 3 0 (Coll none ∷ []) refl refl refl,
  all_of choices choices_clean (codes "u") 3 3 2 (Coll (more second_kind (more first_kind none)) ∷ []) refl refl refl,
  all_of choices choices_clean (codes "x") 4 4 2 (Coll (more first_kind (more first_kind none)) ∷ Coll (more second_kind (more first_kind none)) ∷ Coll (more second_kind (more second_kind none)) ∷ []) refl refl refl,
)

copying_proper : ProperSource copying.types copying.measures copying.procs
copying_proper = record {
  right_sides = (tt, ((omega arith, (tt, (tt, tt))), ((omega arith, (tt, (tt, tt))), tt)));
  values = (omega arith, tt);
  bodies = ((omega arith, (tt, (tt, tt))), ((omega arith, ((tt, (tt, tt)), tt)), tt));
}

copying_clean : Clean copying
copying_clean = clean copying copying_proper refl

pub binary_trees_of_two : BinaryTreesOfTwo
unfolding order_of
binary_trees_of_two = all_of binary_source binary_clean (codes "tree") 2 2 2 (inner (inner leaf leaf) leaf ∷ inner leaf (inner leaf leaf) ∷ []) refl refl refl

pub path_lengths : PathLengths
path_lengths = (
  just binary_source binary_clean refl (codes "path") 1 (inner (inner leaf leaf) leaf) 1 refl refl,
  just binary_source binary_clean refl (codes "path") 1 (inner leaf (inner leaf leaf)) 1 refl refl,
  just binary_source binary_clean refl (codes "path") 1 (inner (inner (inner leaf leaf) leaf) leaf) 3 refl refl,
)

spines_clean : Clean spines
spines_clean =
    clean spines
    (record { right_sides = (tt, (tt, ((omega arith, (tt, ((omega arith, (tt, (tt, (tt, tt)))), tt))), tt))); values = (omega arith, tt); bodies = (((omega arith, (tt, ((tt, (tt, tt)), tt))), tt), tt) })
    refl

pub spines_are_charged : SpinesAreCharged
spines_are_charged = (
  just spines spines_clean refl (codes "spine") 0 (inner (inner leaf leaf) leaf) 2 refl refl,
  just spines spines_clean refl (codes "spine") 0 (inner leaf (inner leaf leaf)) 1 refl refl,
)

pub permutations_of_two : PermutationsOfTwo
unfolding order_of
permutations_of_two =
    all_of permutations_source permutations_clean (codes "perm") 2 2 2
    (Coll (more (Coll (more (point 1) (more (point 2) none))) none) ∷ Coll (more (Coll (more (point 1) none)) (more (Coll (more (point 2) none)) none)) ∷ []) refl refl refl

pub few_cycles_of_two : FewCyclesOfTwo
unfolding order_of
few_cycles_of_two = all_of few_cycles few_cycles_clean (codes "perm") 2 2 2 (Coll (more (Coll (more (point 1) none)) (more (Coll (more (point 2) none)) none)) ∷ []) refl refl refl

both_makes : (s t r : Tree) → Makes (core copying) 1 (bits s t) r → ProcMakes copying (codes "both") (bits s t) r
both_makes s t r h = (made_kept copying copying_clean (λ f p e. all_get ProperProc copying.procs f p copying_proper.bodies e) (codes "both") 1 refl (bits s t) r).0 h

both_charges : (s t : Tree) (q : ℕ) → charge_within (core copying).procs deep 1 (bits s t) ≡ Some q → ChargesJust copying (codes "both") (bits s t) q
both_charges s t q e = just copying copying_clean refl (codes "both") 1 (bits s t) q refl e

pub both_is_made : BothIsMade
both_is_made =
    let one : Tree = one_bit in
    let zero : Tree = zero_bit in (
      both_makes one zero (bits one one) (2, (_, _, refl, refl, (bits one zero, refl, (more one (more one none), (_, _, (zero, refl, (_, _, refl, refl, (zero, refl, (point 0, refl, refl)))), (_, _, refl, refl, refl), refl), refl)))),
      both_charges one zero 3 refl,
      both_makes one one (bits zero one) (2, (_, _, refl, refl, (bits one one, refl, (more zero (more one none), (_, _, (one, refl, (_, _, refl, refl, (one, refl, (point 0, refl, refl)))), (_, _, refl, refl, refl), refl), refl)))),
      both_charges one one 0 refl,
    )
