-- Ranks and counts as they are copied out.
use Rattle.std.proofs.Common.{◌≡◌, ℕ, zero, suc, ◌+◌, ◌≤◌, ◌<◌, List, [], ◌∷◌, ◌++◌, inl, ⊎_elim, length, slice_index, Option, refl, sym, ◌∙◌, ap, subst, arith}
use Rattle.luo_num.specs.declared.TheConstants.{MAX}
use Rattle.luo_finite.specs.Listing.{In}
use Rattle.luo_finite.proofs.Sums.{Counts-from}
use Rattle.luo_finite.proofs.Walks.{no_path, few_steps}
use Rattle.luo_model.specs.declared.program.Universe.{Universe}
use Rattle.luo_model.specs.declared.program.Universe.TheVariants.{Unlabelled, Labelled}
use Rattle.luo_model.specs.declared.program.Kind.{Kind}
use Rattle.luo_model.specs.declared.program.Part.{Part}
use Rattle.luo_model.specs.declared.program.Shape.{Shape}
use Rattle.luo_model.specs.declared.program.Shape.TheVariants as shape
use Rattle.luo_model.specs.Program.{Program, shape_of}
use Rattle.luo_model.specs.Structures.{IsStructure, labels_from}
use Rattle.luo_model.specs.View.{Held, plain_of}
use Rattle.luo_model.specs.Invariant.{IsProgram, IsAllowed, inner_parts}
use Rattle.luo_model.specs.Founded.{IsFounded, SameSize}
use Rattle.luo_model.specs.Levels.{IsRank}
use Rattle.luo_model.specs.Tables.{IsCount}
use Rattle.luo_model.proofs.NodeLemmas.{node_at_place}
use Rattle.luo_counting.specs.Counted.{AreLight, IsLight}
use Rattle.luo_counting.proofs.Numbered.{room_of}
use Rattle.luo_counting.proofs.OfPrograms.{light_program}
use Rattle.luo_founded.proofs.StepsGraph.{step_there, step_within}
use Rattle.luo_places.specs.Tails.{IsBag}
use Rattle.luo_places.proofs.relabelling.LabelMaps.{counts_at}
use Rattle.luo_rank.specs.inner.Lookup.{Looked, IsCounted, IsLooked, AreRanks, rank_in, entry_of, IsCountRow, AreCountRows, IsRankRow, AreAllRests, AreAllPlanes, ArePlanes, HasPlanes}
use Rattle.luo_rank.proofs.ListLemmas.{le_or, pushed, pushed_long}
use Rattle.luo_rank.proofs.TailLemmas.{inner_there}

module _ (p : Program) where
  pub ranks_none : IsRankRow p 0 []
  ranks_none = record { long = refl; right = λ x h. absurd (omega (arith, h)) }

  pub ranks_more : (x v : ℕ) (row new : List ℕ) → IsRankRow p x row → new ≡ row ++ v ∷ [] → IsRank p x v → IsRankRow p (x + 1) new
  ranks_more x v row new r q e = record {
    long = pushed_long 0 row new v x r.long q;
    right = pushed 0 (IsRank p) row new v x r.long q r.right e;
  }

  pub ranks_all : (m n : ℕ) (row : List ℕ) → m ≡ n → IsRankRow p m row → IsRankRow p n row
  ranks_all m n row e r = subst (λ i. IsRankRow p i row) e r

  pub numbers_none : (x : ℕ) → IsCountRow p x 0 []
  numbers_none x = record { long = refl; right = λ n h. absurd (omega (arith, h)); small = λ n h. absurd (omega (arith, h)) }

  pub numbers_more : (x n v : ℕ) (row new : List ℕ) → IsCountRow p x n row → new ≡ row ++ v ∷ [] → IsCount p x n v → v ≤ MAX → IsCountRow p x (n + 1) new
  numbers_more x n v row new r q e l = record {
    long = pushed_long 0 row new v n r.long q;
    right = pushed 0 (IsCount p x) row new v n r.long q r.right e;
    small = pushed 0 (λ m c. c ≤ MAX) row new v n r.long q r.small l;
  }

  pub numbers_all : (x m n : ℕ) (row : List ℕ) → m ≡ n → IsCountRow p x m row → IsCountRow p x n row
  numbers_all x m n row e r = subst (λ i. IsCountRow p x i row) e r

  pub tables_none : (last : ℕ) → AreCountRows p last 0 []
  tables_none last = record { long = refl; each = λ x h. absurd (omega (arith, h)) }

  pub tables_more : (last x : ℕ) (row : List ℕ) (rows new : List (List ℕ)) → AreCountRows p last x rows → new ≡ rows ++ row ∷ [] → IsCountRow p x (suc last) row → AreCountRows p last (x + 1) new
  tables_more last x row rows new r q e = record {
    long = pushed_long [] rows new row x r.long q;
    each = pushed [] (λ y (c : List ℕ). IsCountRow p y (suc last) c) rows new row x r.long q r.each e;
  }

  pub tables_all : (last m n : ℕ) (rows : List (List ℕ)) → m ≡ n → AreCountRows p last m rows → AreCountRows p last n rows
  tables_all last m n rows e r = subst (λ i. AreCountRows p last i rows) e r

  index_past : (xs : List ℕ) (i : ℕ) → length xs ≤ i → slice_index xs i ≡ 0
  index_past [] i h = refl
  index_past (x ∷ xs) zero h = absurd (omega (arith, h))
  index_past (x ∷ xs) (suc i) h = index_past xs i (omega (arith, h))

  ranked : IsProgram p → IsFounded p → (row : List ℕ) → IsRankRow p (length p.nodes) row → AreRanks p (rank_in row)
  ranked q f row r = record {
    steps = λ x y s.
        let a = r.right x (step_there p q x y s).2 in
        let b = r.right y (step_within p q x y s) in
        let l : suc (slice_index row y) ≤ slice_index row x = a.1 (suc (slice_index row y)) b.0.0 (y, s, b.0.1) in
        omega (arith, l);
    below = λ x. ⊎_elim
        (λ l. let z : slice_index row x ≡ 0 = index_past row x (omega (arith, l, r.long)) in omega (arith, z))
        (λ l. let w = (r.right x l).0 in omega (arith, few_steps (SameSize p) f.no_circle (length p.nodes) (λ a b s. (step_there p q a b s).2) (slice_index row x) x w.0 [] (no_path (SameSize p) (length p.nodes) x) w.1))
        (le_or (length p.nodes) x);
  }

pub counted_is : (p : Held) (last reach : ℕ) (ranks : List ℕ) (counts : List (List ℕ)) (rests : List (List (List ℕ))) (planes : List (List (List (List ℕ)))) → IsProgram (plain_of p) → IsFounded (plain_of p) → last ≤ 40 → reach ≡ last
    → IsRankRow (plain_of p) (length p.nodes) ranks → AreCountRows (plain_of p) last (length p.nodes) counts
    → IsCounted (record { program = p; last = last; reach = reach; ranks = ranks; counts = counts; rests = rests; planes = planes })
counted_is p last reach ranks counts rests planes proper founded few e r c = record {
  proper = proper;
  founded = founded;
  few = few;
  reached = omega (arith, e);
  ranked = ranked (plain_of p) proper founded ranks r;
  numbers = record {
    light = light_program (plain_of p) proper;
    right = λ x n l h. counts_at (plain_of p) x n (entry_of counts x n) ((c.each x l).right n (omega (arith, h)));
  };
  many = c.long;
  long = λ x l. (c.each x l).long;
  small = λ x n l h. (c.each x l).small n (omega (arith, h));
}

pub counted_from : (p r q : Held) (last reach nodes : ℕ) (ranks : List ℕ) (counts : List (List ℕ)) (rests : List (List (List ℕ))) (planes : List (List (List (List ℕ)))) → p ≡ r → q ≡ r → nodes ≡ length p.nodes → IsProgram (plain_of p) → IsFounded (plain_of r)
    → last ≤ 40 → reach ≡ last → IsRankRow (plain_of r) nodes ranks → AreCountRows (plain_of q) last nodes counts
    → IsCounted (record { program = p; last = last; reach = reach; ranks = ranks; counts = counts; rests = rests; planes = planes })
counted_from p r q last reach nodes ranks counts rests planes e o m proper founded few f a b =
    counted_is p last reach ranks counts rests planes proper (subst (λ (h : Held). IsFounded (plain_of h)) (sym e) founded) few f
    (ranks_all (plain_of p) nodes (length p.nodes) ranks m (subst (λ (h : Held). IsRankRow (plain_of h) nodes ranks) (sym e) a))
    (tables_all (plain_of p) last nodes (length p.nodes) counts m (subst (λ (h : Held). AreCountRows (plain_of h) last nodes counts) (o ∙ sym e) b))

pub recounted : (t : Looked) (rests : List (List (List ℕ))) (planes : List (List (List (List ℕ)))) → IsCounted t
    → IsCounted (record { program = t.program; last = t.last; reach = t.reach; ranks = t.ranks; counts = t.counts; rests = rests; planes = planes })
recounted t rests planes k = record { proper = k.proper; founded = k.founded; few = k.few; reached = k.reached; ranked = k.ranked; numbers = record { light = k.numbers.light; right = k.numbers.right }; many = k.many; long = k.long; small = k.small }

pub all_looked : (t r : Looked) (rests : List (List (List ℕ))) (planes : List (List (List (List ℕ)))) → IsCounted t → AreAllRests t (length t.program.nodes) rests → AreAllPlanes t (length t.program.nodes) planes
    → r ≡ record { program = t.program; last = t.last; reach = t.reach; ranks = t.ranks; counts = t.counts; rests = rests; planes = planes } → IsLooked r
all_looked t r rests planes k a b e = subst IsLooked (sym e) (record {
  base = recounted t rests planes k;
  rests_many = a.long;
  rests = λ x l s. let w = a.each x l s in record { long = w.long; right = λ g h. w.right g h };
  planes_many = b.long;
  planes = λ x l. b.each x l;
})

-- the planes of a node
pub has_planes : (a : ℕ → ℕ → ℕ) (last : ℕ) (s : Shape) (kind : Kind) (part : Part) (low : ℕ) (high : Option ℕ) (planes : List (List (List ℕ))) → s ≡ shape.Coll kind part low high → (IsBag kind → ArePlanes kind (a part.node) last (suc last) planes) → HasPlanes a last s planes
has_planes a last s kind part low high planes e h = subst (λ o. HasPlanes a last o planes) (sym e) h

pub no_planes : (a : ℕ → ℕ → ℕ) (last : ℕ) (now s : Shape) (planes : List (List (List ℕ))) → now ≡ s → ((kind : Kind) (part : Part) (low : ℕ) (high : Option ℕ) → now ≡ shape.Coll kind part low high → ⊥) → HasPlanes a last s planes
no_planes a last now (shape.Atom w) planes e d = tt
no_planes a last now (shape.Union parts) planes e d = tt
no_planes a last now (shape.Product parts) planes e d = tt
no_planes a last now (shape.Coll kind part low high) planes e d = absurd (d kind part low high e)

pub part_there : (t : Looked) (k : IsCounted t) (x : ℕ) (kind : Kind) (part : Part) (low : ℕ) (high : Option ℕ) → shape_of (plain_of t.program) x ≡ shape.Coll kind part low high → part.node < length t.program.nodes
part_there t k x kind part low high e = inner_there (plain_of t.program) k.proper k.founded x part (subst (λ (s : Shape). In part (inner_parts s)) (sym e) (inl refl))

-- the count of a node, and the labels of its structures
pub count_is : (t : Looked) (k : IsCounted t) (x n : ℕ) → x < length t.program.nodes → n ≤ t.last → IsCount (plain_of t.program) x n (entry_of t.counts x n)
count_is t k x n l h = Counts-from (IsStructure (plain_of t.program) x n) (entry_of t.counts x n) (k.numbers.right x n l h (labels_from 1 n) (room_of t.program.universe n))

pub labels_more : (first n : ℕ) → labels_from first (suc n) ≡ labels_from first n ++ (first + n) ∷ []
labels_more first zero = ap (λ v. v ∷ []) (let q : first ≡ first + 0 = omega arith in q)
labels_more first (suc n) = ap (λ ls. first ∷ ls) (labels_more (first + 1) n ∙ ap (λ v. labels_from (first + 1) n ++ v ∷ []) (let q : first + 1 + n ≡ first + suc n = omega arith in q))

pub labels_next : (n v next : ℕ) (old new : List ℕ) → old ≡ labels_from 1 n → new ≡ old ++ v ∷ [] → v ≡ n + 1 → next ≡ n + 1 → new ≡ labels_from 1 next
labels_next n v next old new e q w z =
    q ∙ ap (λ (ls : List ℕ). ls ++ v ∷ []) e ∙ ap (λ m. labels_from 1 n ++ m ∷ []) (let o : v ≡ 1 + n = omega (arith, w) in o) ∙ sym (labels_more 1 n) ∙ ap (labels_from 1) (let o : suc n ≡ next = omega (arith, z) in o)
