-- Places shared out between the first and the rest.
use Rattle.std.proofs.Common.{◌≡◌, ℕ, zero, suc, ◌+◌, ◌*◌, ◌-◌, ◌/◌, ◌%◌, ◌≤◌, ◌<◌, [], ◌∷◌, ◌⊎◌, ⊎_elim, length, refl, sym, ◌∙◌, ap, subst, arith}
use Rattle.std.proofs.Math.Nat.{mod-lt, div-add-mod', mul_comm}
use Rattle.std.proofs.lemmas.Nat.{mul-le}
use Rattle.luo_finite.specs.Range.{sum_below}
use Rattle.luo_finite.specs.Binomial.{choose}
use Rattle.luo_finite.proofs.Ranges.{sum_below-more}
use Rattle.luo_num.specs.Mark.{capped}
use Rattle.luo_num.specs.declared.TheConstants.{MAX, MARK}
use Rattle.luo_num.proofs.Capped.{capped-mul, capped-small}
use Rattle.luo_binom.proofs.CellLemmas.{few_exact}
use Rattle.luo_binom.proofs.RowLemmas.{few_within}
use Rattle.luo_model.specs.declared.program.Universe.{Universe}
use Rattle.luo_model.specs.declared.program.Universe.TheVariants.{Unlabelled, Labelled}
use Rattle.luo_model.specs.declared.program.Kind.TheVariants.{Sequence, Set, Cycle, Multiset, Powerset}
use Rattle.luo_model.specs.Structures.{labels_from}
use Rattle.luo_model.specs.View.{plain_of}
use Rattle.luo_counting.proofs.Numbered.{room_of}
use Rattle.luo_counting.proofs.Planes.{times_suc}
use Rattle.luo_places.specs.Numbers.{ways, led_ways, pair_place}
use Rattle.luo_places.specs.Tails.{Tail, factors, items, behind_first, first_node, tail_count, head_ways, IsSpread, IsThere, GoesOn}
use Rattle.luo_places.proofs.Tails.{tail_sum, first_found}
use Rattle.luo_rank.specs.inner.Lookup.{Looked, IsCounted, entry_of, tail_at, IsLeft, left_count, term_of, IsFound, IsFirstOf, IsLedTail}
use Rattle.luo_rank.proofs.LookupLemmas.{goes_on}
use Rattle.luo_rank.proofs.PartLemmas.{ways_not, ways_led}
use Rattle.luo_rank.proofs.StepLemmas.{is_there}

pub spread_behind : (tail : Tail) → IsSpread tail → IsSpread (behind_first tail)
spread_behind (factors []) h = tt
spread_behind (factors (part ∷ parts)) h = tt
spread_behind (items Sequence y low high) h = tt
spread_behind (items Set y low high) h = tt
spread_behind (items Cycle y low high) h = tt
spread_behind (items Multiset y low high) h = absurd h
spread_behind (items Powerset y low high) h = absurd h

pub next_spread : (t : Looked) (x f : ℕ) → IsSpread (tail_at (plain_of t.program) x f) → IsSpread (tail_at (plain_of t.program) x (f + 1))
next_spread t x f h = subst (λ g. IsSpread (tail_at (plain_of t.program) x g)) (let e : suc f ≡ f + 1 = omega arith in e) (spread_behind (tail_at (plain_of t.program) x f) h)

-- THE WAYS
pub ways_plain : (u : Universe) (tail : Tail) (n k v : ℕ) → u ≡ Labelled → (IsLedTail tail → ⊥) → n ≤ 40 → v ≡ capped (choose n k) → v ≡ head_ways u tail n k
ways_plain Unlabelled tail n k v e d l h = absurd (cc)
ways_plain Labelled tail n k v e d l h = few_exact n k v (omega (arith, l)) h ∙ sym (ways_not Labelled tail n k d)

pub ways_least : (u : Universe) (tail : Tail) (n k v : ℕ) → u ≡ Labelled → IsLedTail tail → n ≤ 40 → (k ≡ 0 → ⊥) → v ≡ capped (choose (n - 1) (k - 1)) → v ≡ head_ways u tail n k
ways_least Unlabelled tail n k v e d l z h = absurd (cc)
ways_least Labelled tail n zero v e d l z h = absurd (z refl)
ways_least Labelled tail n (suc k) v e d l z h = few_exact (n - 1) (suc k - 1) v (omega (arith, l)) h ∙ ap (choose (n - 1)) (let q : suc k - 1 ≡ k = omega arith in q) ∙ sym (ways_led tail n (suc k) d)

-- THE TERM
pub term_marked : (a b w rest both result : ℕ) → rest ≡ capped b → both ≡ capped (a * rest) → result ≡ capped (both * w) → a ≤ MAX → w ≤ MAX → result ≡ capped ((a * b) * w)
term_marked a b w rest both result p q r l m =
    let e : both ≡ capped (a * b) = q ∙ ap (λ v. capped (a * v)) p ∙ ap (λ v. capped (v * capped b)) (sym (capped-small a l)) ∙ capped-mul a b in
    r ∙ ap (λ v. capped (v * w)) e ∙ ap (λ v. capped (capped (a * b) * v)) (sym (capped-small w m)) ∙ capped-mul (a * b) w

-- DIVISION by a marked number
le_or : (m n : ℕ) → (m ≤ n) ⊎ (n < m)
le_or m n = grind arith

pub record Divided (m c rest : ℕ) : Type 0 where
  pub some : 0 < c
  pub is : (rest / c) * m + rest % c ≡ rest
  pub less : rest % c < m

pub divided : (m c rest : ℕ) → c ≡ capped m → rest ≤ MAX → 0 < m → Divided m c rest
divided m c rest e l g = ⊎_elim
    (λ h. let q : c ≡ m = omega (arith, e, h) in
    let z : 0 < c = omega (arith, q, g) in
    record { some = z; is = ap (λ v. (rest / c) * v + rest % c) (sym q) ∙ div-add-mod' rest c; less = omega (arith, mod-lt rest z, q) })
    (λ h. let q : c ≡ MARK = omega (arith, e, h) in
    let z : 0 < c = omega (arith, q) in
    let d = div-add-mod' rest c in
    let none : rest / c ≡ 0 = no_quotient (rest / c) c (rest % c) rest d (omega (arith, q, l)) in
    record { some = z; is = ap (λ v. v * m + rest % c) none ∙ omega (arith, d, ap (λ v. v * c) none); less = omega (arith, mod-lt rest z, q, h) })
    (le_or m MARK)
  where
    no_quotient : (q c r rest : ℕ) → q * c + r ≡ rest → rest < c → q ≡ 0
    no_quotient zero c r rest d h = refl
    no_quotient (suc q) c r rest d h = absurd (omega (arith, d, h, times_suc q c))

quotient_less : (q w m r rest : ℕ) → q * m + r ≡ rest → rest < m * w → q < w
quotient_less q w m r rest d h = ⊎_elim (λ g. absurd (let k : w * m ≤ q * m = mul-le w m q m g (let z : m ≤ m = omega arith in z) in omega (arith, d, h, k, mul_comm m w))) (λ g. g) (le_or w q)

positive_left : (a b : ℕ) (r : ℕ) → r < a * b → 0 < a
positive_left zero b r h = absurd (omega (arith, h))
positive_left (suc a) b r h = omega arith

positive_right : (a b : ℕ) (r : ℕ) → r < a * b → 0 < b
positive_right a b r h = positive_left b a r (subst (λ v. r < v) (mul_comm a b) h)

-- WHAT IS FOUND
module _ (t : Looked) (k : IsCounted t) (x f n rank : ℕ) (within : n ≤ t.last) (spread : IsSpread (tail_at (plain_of t.program) x f)) (left : IsLeft (tail_at (plain_of t.program) x f) n) (below : rank < left_count t x f n) where
  left_goes : GoesOn (tail_at (plain_of t.program) x f) n
  left_goes = by (tail_at (plain_of t.program) x f) (is_there t k x f) left below
    where
      by : (tail : Tail) → IsThere (plain_of t.program) (length t.program.nodes) tail → IsLeft tail n → rank < tail_count t.program.universe (entry_of t.counts) tail n → GoesOn tail n
      by (factors []) there l h = absurd l
      by (factors (part ∷ parts)) there l h = tt
      by (items kind y low high) there l h = goes_on (plain_of t.program) (length t.program.nodes) t.last (entry_of t.counts) k.numbers kind y low high n rank (labels_from 1 n) there within (room_of t.program.universe n) l h

  pub share_rank : rank < sum_below (term_of t x f n) (suc n)
  share_rank = subst (λ c. rank < c) (tail_sum (plain_of t.program) (length t.program.nodes) t.last (entry_of t.counts) k.numbers (tail_at (plain_of t.program) x f) (is_there t k x f) spread n within left_goes) below

  -- the first of size g has this count
  abbrev pub first_count : ℕ → ℕ
  first_count g = entry_of t.counts (first_node (tail_at (plain_of t.program) x f)) g

  abbrev pub back_count : ℕ → ℕ
  back_count g = tail_count t.program.universe (entry_of t.counts) (behind_first (tail_at (plain_of t.program) x f)) (n - g)

  pub found_some : (g rest : ℕ) → IsFound (term_of t x f n) (suc n) rank g rest → 0 < first_count g
  found_some g rest found = positive_left (first_count g) (back_count g) 0 (positive_left (first_count g * back_count g) (head_ways t.program.universe (tail_at (plain_of t.program) x f) n g) rest found.inside)

  pub record Shared (g rest width both : ℕ) : Type 0 where
    pub width_some : 0 < width
    pub both_some : 0 < both
    pub small : (rest % both) % width ≤ MAX
    pub first : IsFirstOf t x f n rank g (rest / both) ((rest % both) / width) ((rest % both) % width)

  pub shared : (g rest width both : ℕ) → IsFound (term_of t x f n) (suc n) rank g rest → rank ≤ MAX → width ≡ capped (back_count g) → both ≡ capped (first_count g * back_count g) → Shared g rest width both
  unfolding pair_place
  shared g rest width both found small e h =
      let a = first_count g in
      let b = back_count g in
      let w = head_ways t.program.universe (tail_at (plain_of t.program) x f) n g in
      let m : 0 < a * b = positive_left (a * b) w rest found.inside in
      let z : 0 < b = positive_right a b 0 m in
      let l : rest ≤ MAX = omega (arith, found.is, small) in
      let d = divided (a * b) both rest h l m in
      let r : rest % both ≤ MAX = omega (arith, d.is, l) in
      let c = divided b width (rest % both) e r z in
      record {
        width_some = c.some;
        both_some = d.some;
        small = omega (arith, c.is, r);
        first = first_found (plain_of t.program) (length t.program.nodes) t.last (entry_of t.counts) k.numbers (tail_at (plain_of t.program) x f) (is_there t k x f) spread n within left_goes rank g (rest / both) ((rest % both) / width) ((rest % both) % width)
            (omega (arith, found.there))
            (quotient_less (rest / both) w (a * b) (rest % both) rest d.is found.inside)
            (quotient_less ((rest % both) / width) a b ((rest % both) % width) (rest % both) c.is (subst (λ v. rest % both < v) (mul_comm a b) d.less))
            c.less
            (ap (λ v. sum_below (term_of t x f n) g + v) (omega (arith, d.is, c.is, mul_comm (a * b) (rest / both))) ∙ found.is);
      }

pub found_past : (F : ℕ → ℕ) (n rank group rest : ℕ) → rank < sum_below F (suc n) → sum_below F group + rest ≡ rank → n < group → IsFound F (suc n) rank group rest
found_past F n rank group rest h e l = absurd (omega (arith, h, e, sum_below-more F (suc n) group (omega (arith, l))))

ways_few : (u : Universe) (n k : ℕ) → n ≤ 40 → ways u n k ≤ MAX
ways_few Unlabelled n k l = omega arith
ways_few Labelled n k l = few_within n k (omega (arith, l))

led_few : (n k : ℕ) → n ≤ 40 → led_ways n k ≤ MAX
led_few n zero l = omega arith
led_few n (suc k) l = few_within (n - 1) k (omega (arith, l))

pub ways_small : (u : Universe) (tail : Tail) (n k : ℕ) → n ≤ 40 → head_ways u tail n k ≤ MAX
ways_small Unlabelled tail n k l = ways_few Unlabelled n k l
ways_small Labelled (factors parts) n k l = ways_few Labelled n k l
ways_small Labelled (items Sequence y low high) n k l = ways_few Labelled n k l
ways_small Labelled (items Set y low high) n k l = led_few n k l
ways_small Labelled (items Cycle y low high) n k l = led_few n k l
ways_small Labelled (items Multiset y low high) n k l = ways_few Labelled n k l
ways_small Labelled (items Powerset y low high) n k l = ways_few Labelled n k l

-- the rest behind the first, said by one part more
pub rest_as : (t : Looked) (x f n v : ℕ) → v ≡ capped (left_count t x (f + 1) n) → v ≡ capped (tail_count t.program.universe (entry_of t.counts) (behind_first (tail_at (plain_of t.program) x f)) n)
rest_as t x f n v e = e ∙ ap (λ g. capped (left_count t x g n)) (let q : f + 1 ≡ suc f = omega arith in q)

pub some_left : (n : ℕ) → (n ≡ 0 → ⊥) → 0 < n
some_left zero h = absurd (h refl)
some_left (suc n) h = omega arith

pub both_marked : (a b rest both : ℕ) → rest ≡ capped b → both ≡ capped (a * rest) → a ≤ MAX → both ≡ capped (a * b)
both_marked a b rest both p q l = q ∙ ap (λ v. capped (a * v)) p ∙ ap (λ v. capped (v * capped b)) (sym (capped-small a l)) ∙ capped-mul a b
