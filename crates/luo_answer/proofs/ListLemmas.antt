-- What a listing shows: at most one text, and one where nothing refuses.
use Rattle.std.proofs.Common.{◌≡◌, ℕ, List, inl, inr, ⊎_elim, map, sym, ap, ◌∙◌, slice_get}
use Rattle.luo_finite.specs.Steps.{IsSingle}
use Rattle.luo_finite.proofs.Doubles.{NoDouble-append_left}
use Rattle.luo_finite.proofs.Falling.{IsOrder, falling_listing}
use Rattle.luo_finite.proofs.Pairwise.{pairwise_unique}
use Rattle.luo_finite.proofs.Places.{some_same}
use Rattle.luo_model.specs.declared.program.Def.{Def}
use Rattle.luo_model.specs.Founded.{IsFounded}
use Rattle.luo_model.specs.Invariant.{IsProgram}
use Rattle.luo_model.specs.Order.{IsBefore}
use Rattle.luo_model.specs.Program.{Program, Procedure}
use Rattle.luo_model.specs.Structures.{IsStructure, IsOrderedListing}
use Rattle.luo_model.specs.Tree.{Tree}
use Rattle.luo_counting.proofs.Orders.{trees_ordered}
use Rattle.luo_founded.proofs.Listed.{listing_exists}
use Rattle.luo_answer.specs.Commands.List.{IsTypeNamed, IsListText, lines_from}
use Rattle.luo_answer.proofs.RunLemmas.{one_place}

-- at most one type has a name
pub type_single : (p : Program) → IsProgram p → (name : List ℕ) → IsSingle (IsTypeNamed p name)
type_single p q name x y (i, d, e, s, w) (j, v, g, t, z) =
    let same : i ≡ j = one_place (λ (d : Def). d.name) p.defs (NoDouble-append_left (map (λ (d : Def). d.name) p.defs) (map (λ (P : Procedure). P.name) p.procs) q.distinct) i j d v e g (s ∙ sym t) in
    let one : d ≡ v = some_same d v (sym e ∙ ap (slice_get p.defs) same ∙ g) in
    sym w ∙ ap (λ (d : Def). d.whole.node) one ∙ z

-- at most one text is a listing
pub list_text_single : (p : Program) (x n start k : ℕ) → IsSingle (IsListText p x n start k)
list_text_single p x n start k a b (l, h, e) (m, g, d) =
    let same : l ≡ m = pairwise_unique IsBefore l m trees_ordered.one_way h.1 g.1 (λ t i. g.0.complete t (h.0.sound t i)) (λ t i. h.0.complete t (g.0.sound t i)) in
    e ∙ ap (lines_from start k) same ∙ sym d

-- the order turned round
pub flipped : IsOrder (λ (s t : Tree). IsBefore t s)
flipped = record {
  one_way = λ x y h k. trees_ordered.one_way x y k h;
  through = λ x y z h k. trees_ordered.through z y x k h;
  either = λ x y. ⊎_elim (λ h. inr (inr h)) (λ o. ⊎_elim (λ e. inr (inl e)) (λ h. inl h) o) (trees_ordered.either x y);
}

-- a node of a founded program has an ordered listing of each size
pub ordered_listing : (p : Program) → IsProgram p → IsFounded p → (x n : ℕ) → (l : List Tree) × IsOrderedListing p x n l
ordered_listing p q f x n =
    let l = listing_exists p q f x n in
    let m = falling_listing (λ (s t : Tree). IsBefore t s) flipped (IsStructure p x n) l.0 l.1 in
    (m.0, (m.2, m.1))
