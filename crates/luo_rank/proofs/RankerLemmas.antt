-- Rankers: what they look up in, and for which node and size.
use Rattle.std.proofs.Common.{◌≡◌, ℕ, ◌≤◌, ◌<◌, List, length, sym, ◌∙◌, ap, subst, arith}
use Rattle.luo_num.specs.declared.TheConstants.{MAX}
use Rattle.luo_finite.specs.Places.{IsPlace}
use Rattle.luo_model.specs.Tree.{Tree}
use Rattle.luo_model.specs.Order.{IsBefore}
use Rattle.luo_model.specs.Structures.{IsStructure, IsStructureOn, labels_from}
use Rattle.luo_model.specs.Tables.{IsCount}
use Rattle.luo_model.specs.View.{Held, plain_of}
use Rattle.luo_counting.specs.Sharing.{IsRoom}
use Rattle.luo_counting.proofs.Numbered.{room_of}
use Rattle.luo_rank.specs.Ranked.{Ranked}
use Rattle.luo_rank.specs.inner.Lookup.{Looked, IsLooked, Looks, StandsAt, entry_of}
use Rattle.luo_struct.specs.Small.{IsSmall}
use Rattle.luo_rank.proofs.FillLemmas.{count_is}
use Rattle.luo_rank.proofs.HalvingLemmas.{small_structure}

pub looks_at : (t : Looked) (q : Held) (labels : List ℕ) (node n count : ℕ) → IsLooked t → (t.program ≡ q) × (t.last ≡ n) → node < length q.nodes → labels ≡ labels_from 1 n → count ≡ entry_of t.counts node n → Looks t labels node count
looks_at t q labels node n count k (e, o) l f g = record {
  looked = k;
  there = subst (λ (h : Held). node < length h.nodes) (sym e) l;
  first = f ∙ ap (labels_from 1) (sym o);
  counted = g ∙ ap (entry_of t.counts node) (sym o);
}

pub looks_node : (t : Looked) (q : Held) (node n : ℕ) → (t.program ≡ q) × (t.last ≡ n) → node < length q.nodes → node < length t.program.nodes
looks_node t q node n (e, o) l = subst (λ (h : Held). node < length h.nodes) (sym e) l

pub counts_to : (t : Looked) (q : Held) (node n count : ℕ) → IsLooked t → (t.program ≡ q) × (t.last ≡ n) → node < length q.nodes → count ≡ entry_of t.counts node n → IsCount (plain_of q) node n count
counts_to t q node n count k (e, o) l g =
    subst (λ (h : Held). IsCount (plain_of h) node n count) e
    (subst (IsCount (plain_of t.program) node n) (sym g) (count_is t k.base node n (looks_node t q node n (e, o) l) (let w : n ≤ t.last = omega (arith, o) in w)))

module _ (t : Looked) (labels : List ℕ) (node count : ℕ) (k : Looks t labels node count) where
  pub looks_small : count ≤ MAX
  looks_small = subst (λ c. c ≤ MAX) (sym k.counted) (k.looked.base.small node t.last k.there (let q : t.last ≤ t.last = omega arith in q))

  pub looks_count : (r : Ranked) → record { program = t.program; node = node; size = t.last; count = count } ≡ r → IsCount (plain_of r.program) r.node r.size r.count
  looks_count r e = subst (λ (o : Ranked). IsCount (plain_of o.program) o.node o.size o.count) e
      (subst (IsCount (plain_of t.program) node t.last) (sym k.counted) (count_is t k.looked.base node t.last k.there (let q : t.last ≤ t.last = omega arith in q)))

  pub looks_structure : (r : Ranked) → record { program = t.program; node = node; size = t.last; count = count } ≡ r → (s : Tree) → IsStructure (plain_of r.program) r.node r.size s → IsSmall s
  looks_structure r e s h = small_structure (plain_of t.program) k.looked.base.numbers.light node t.last s k.looked.base.few (subst (λ (o : Ranked). IsStructure (plain_of o.program) o.node o.size s) (sym e) h)

  module _ (ls : List ℕ) (n : ℕ) (same : ls ≡ labels) (size : n ≡ t.last) where
    pub looks_room : IsRoom t.program.universe ls n
    looks_room = subst (IsRoom t.program.universe ls) (sym size) (subst (λ (o : List ℕ). IsRoom t.program.universe o t.last) (sym (same ∙ k.first)) (room_of t.program.universe t.last))

    pub looks_rank : (rank : ℕ) → rank < count → rank < entry_of t.counts node n
    looks_rank rank h = subst (λ c. rank < c) (k.counted ∙ ap (entry_of t.counts node) (sym size)) h

    pub looks_place : (r : Ranked) → record { program = t.program; node = node; size = t.last; count = count } ≡ r → (rank : ℕ) (s : Tree) → StandsAt t node ls n rank s → IsPlace (IsStructure (plain_of r.program) r.node r.size) IsBefore rank s
    looks_place r e rank s h =
        subst (λ (o : Ranked). IsPlace (IsStructure (plain_of o.program) o.node o.size) IsBefore rank s) e
        (subst (λ m. IsPlace (IsStructureOn (plain_of t.program) node (labels_from 1 t.last) m) IsBefore rank s) size (subst (λ (o : List ℕ). IsPlace (IsStructureOn (plain_of t.program) node o n) IsBefore rank s) (same ∙ k.first) h))
