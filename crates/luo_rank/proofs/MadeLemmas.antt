-- What is looked up in, as it is made.
use Rattle.std.proofs.Common.{◌≡◌, ℕ, zero, suc, ◌+◌, ◌-◌, ◌≤◌, ◌<◌, List, [], ◌∷◌, ◌++◌, ⊎_elim, length, slice_index, slice_index_or, Option, Some, None, min, refl, sym, ◌∙◌, ap, subst, arith, Result, Ok, Err, IfOk}
use Rattle.luo_num.specs.Mark.{capped}
use Rattle.luo_finite.specs.Range.{sum_below, unit}
use Rattle.luo_model.specs.declared.program.Universe.{Universe}
use Rattle.luo_model.specs.declared.program.Universe.TheVariants.{Unlabelled, Labelled}
use Rattle.luo_model.specs.declared.program.Kind.{Kind}
use Rattle.luo_model.specs.declared.program.Kind.TheVariants.{Sequence, Set, Cycle, Multiset, Powerset}
use Rattle.luo_model.specs.declared.program.Part.{Part}
use Rattle.luo_model.specs.declared.program.Shape.{Shape}
use Rattle.luo_model.specs.declared.program.Shape.TheVariants as shape
use Rattle.luo_model.specs.Program.{shape_of}
use Rattle.luo_model.specs.Structures.{labels_from}
use Rattle.luo_model.specs.View.{plain_of}
use Rattle.luo_counting.specs.Items.{Suits}
use Rattle.luo_counting.specs.Numbers.{coll_count, terms, of_k, plane}
use Rattle.luo_counting.proofs.Numbered.{room_of}
use Rattle.luo_places.specs.Numbers.{one_less, AllowsOne, cut}
use Rattle.luo_places.specs.Tails.{Tail, factors, items, kind_behind, tail_of, behind_first, behind_some, tail_count, IsSpread, IsBag, IsThere, GoesOn, Ends}
use Rattle.luo_places.proofs.Tails.{tail_sum}
use Rattle.luo_rank.specs.inner.Lookup.{Looked, IsCounted, IsLooked, entry_of, tail_at, IsLeft, Stands, left_count, term_of, IsBagTail, below_in, below_of, top_of, IsRow, AreRows, AreRests, ArePlaneRows, IsPlane, ArePlanes, HasPlanes, HasPlane, IsCellRow, AreAllRests, AreAllPlanes, less_by, most_of, AreWays, with_size}
use Rattle.luo_rank.proofs.ListLemmas.{le_or, pushed, pushed_long}
use Rattle.luo_rank.proofs.PlaneLemmas.{count_below}
use Rattle.luo_rank.proofs.TailLemmas.{no_tail, default_none}
use Rattle.luo_rank.proofs.LookupLemmas.{goes_on}
use Rattle.luo_rank.proofs.PartLemmas.{same_kind, behind_cycle, still_factors}
use Rattle.luo_rank.proofs.StepLemmas.{is_there}
use Rattle.luo_rank.proofs.ShareLemmas.{spread_behind}

pub ok_into : {A E : Type 0} (r : Result A E) (P Q : A → Type 0) → ((a : A) → P a → Q a) → IfOk r P → IfOk r Q
ok_into (Ok a) P Q f h = f a h
ok_into (Err e) P Q f h = h

pub last_none : {A : Type 0} (xs : List (List A)) → length xs ≡ 0 → [] ≡ slice_index_or xs (length xs - 1) []
last_none [] e = refl
last_none (x ∷ xs) e = absurd (omega (arith, e))

-- PLANES
module _ (kind : Kind) (a : ℕ → ℕ) where
  pub cells_none : (d k : ℕ) → IsCellRow kind a d k 0 []
  cells_none d k = record { long = refl; right = λ n h. absurd (omega (arith, h)) }

  pub cells_more : (d k n v : ℕ) (row new : List ℕ) → IsCellRow kind a d k n row → new ≡ row ++ v ∷ [] → v ≡ capped (plane kind a d k n) → IsCellRow kind a d k (n + 1) new
  cells_more d k n v row new r q e = record {
    long = pushed_long 0 row new v n r.long q;
    right = pushed 0 (λ m c. c ≡ capped (plane kind a d k m)) row new v n r.long q r.right e;
  }

  pub cells_all : (d k m n : ℕ) (row : List ℕ) → m ≡ n → IsCellRow kind a d k m row → IsCellRow kind a d k n row
  cells_all d k m n row e r = subst (λ i. IsCellRow kind a d k i row) e r

  pub rows_none : (d last : ℕ) → ArePlaneRows kind a d last 0 []
  rows_none d last = record { long = refl; wide = λ k h. absurd (omega (arith, h)); right = λ k n h. absurd (omega (arith, h)) }

  pub rows_more : (d last k : ℕ) (row : List ℕ) (rows new : List (List ℕ)) → ArePlaneRows kind a d last k rows → new ≡ rows ++ row ∷ [] → IsCellRow kind a d k (suc last) row → ArePlaneRows kind a d last (k + 1) new
  rows_more d last k row rows new r q e = record {
    long = pushed_long [] rows new row k r.long q;
    wide = pushed [] (λ m c. length c ≡ suc last) rows new row k r.long q r.wide e.long;
    right = λ m n l h. pushed [] (λ i (c : List ℕ). slice_index c n ≡ capped (plane kind a d i n)) rows new row k r.long q (λ i g. r.right i n g h) (e.right n h) m l;
  }

  pub rows_all : (d last m : ℕ) (rows : List (List ℕ)) → m ≡ suc last → ArePlaneRows kind a d last m rows → IsPlane kind a d last rows
  rows_all d last m rows e r = subst (λ i. ArePlaneRows kind a d last i rows) e r

  pub planes_none : (last : ℕ) → ArePlanes kind a last 0 []
  planes_none last = record { long = refl; right = λ d h. absurd (omega (arith, h)) }

  pub planes_more : (last d : ℕ) (rows : List (List ℕ)) (planes new : List (List (List ℕ))) → ArePlanes kind a last d planes → new ≡ planes ++ rows ∷ [] → IsPlane kind a d last rows → ArePlanes kind a last (d + 1) new
  planes_more last d rows planes new r q e = record {
    long = pushed_long [] planes new rows d r.long q;
    right = pushed [] (λ i (c : List (List ℕ)). IsPlane kind a i last c) planes new rows d r.long q r.right e;
  }

  pub planes_all : (last m n : ℕ) (planes : List (List (List ℕ))) → m ≡ n → ArePlanes kind a last m planes → ArePlanes kind a last n planes
  planes_all last m n planes e r = subst (λ i. ArePlanes kind a last i planes) e r

  pub planes_last : (last d : ℕ) (rows : List (List ℕ)) (planes : List (List (List ℕ))) → ArePlanes kind a last d planes → rows ≡ slice_index_or planes (length planes - 1) [] → 1 ≤ d → IsPlane kind a (d - 1) last rows
  planes_last last d rows planes r e g =
      subst (λ (c : List (List ℕ)). IsPlane kind a (d - 1) last c) (sym (e ∙ ap (λ i. slice_index_or planes i []) (let q : length planes - 1 ≡ d - 1 = omega (arith, r.long) in q))) (r.right (d - 1) (omega (arith, g)))

-- THE TAIL of a collection, with its bounds
pub bounds_of : (kind : Kind) (y low : ℕ) (high : Option ℕ) (f : ℕ) → (k : Kind) × (behind_some (items kind y low high) f ≡ items k y (low - f) (less_by f high))
bounds_of kind y low high zero = (kind, (λ i. items kind y ((let q : low ≡ low - 0 = omega arith in q) i) ((none_less high) i)))
  where
    none_less : (high : Option ℕ) → high ≡ less_by 0 high
    none_less (Some h) = ap Some (let q : h ≡ h - 0 = omega arith in q)
    none_less None = refl
bounds_of kind y low high (suc f) =
    let b = bounds_of kind y low high f in
    (kind_behind b.0, ap behind_first b.1 ∙ (λ i. items (kind_behind b.0) y ((let q : low - f - 1 ≡ low - suc f = omega arith in q) i) ((next_less high) i)))
  where
    next_less : (high : Option ℕ) → one_less (less_by f high) ≡ less_by (suc f) high
    next_less (Some h) = ap Some (let q : h - f - 1 ≡ h - suc f = omega arith in q)
    next_less None = refl

-- WHETHER components stand by the order
pub bag_on : (kind : Kind) (y low : ℕ) (high : Option ℕ) (f : ℕ) → IsBag kind → IsBagTail (behind_some (items kind y low high) f)
bag_on Multiset y low high f b = subst IsBagTail (sym (same_kind Multiset y low high refl f).2) tt
bag_on Powerset y low high f b = subst IsBagTail (sym (same_kind Powerset y low high refl f).2) tt
bag_on Sequence y low high f b = absurd b
bag_on Set y low high f b = absurd b
bag_on Cycle y low high f b = absurd b

pub bag_back : (kind : Kind) (y low : ℕ) (high : Option ℕ) (f : ℕ) → IsBagTail (behind_some (items kind y low high) f) → IsBag kind
bag_back Multiset y low high f b = tt
bag_back Powerset y low high f b = tt
bag_back Sequence y low high f b = subst IsBagTail (same_kind Sequence y low high refl f).2 b
bag_back Set y low high f b = subst IsBagTail (same_kind Set y low high refl f).2 b
bag_back Cycle y low high zero b = b
bag_back Cycle y low high (suc f) b = subst IsBagTail (behind_cycle y low high f).2 b

pub spread_on : (tail : Tail) (f : ℕ) → IsSpread tail → IsSpread (behind_some tail f)
spread_on tail zero h = h
spread_on tail (suc f) h = spread_behind (behind_some tail f) (spread_on tail f h)

pub spread_kind : (kind : Kind) (y low : ℕ) (high : Option ℕ) (f : ℕ) → (IsBag kind → ⊥) → IsSpread (behind_some (items kind y low high) f)
spread_kind Sequence y low high f b = spread_on (items Sequence y low high) f tt
spread_kind Set y low high f b = spread_on (items Set y low high) f tt
spread_kind Cycle y low high f b = spread_on (items Cycle y low high) f tt
spread_kind Multiset y low high f b = absurd (b tt)
spread_kind Powerset y low high f b = absurd (b tt)

pub spread_back : (tail : Tail) (f : ℕ) → IsSpread (behind_some tail f) → IsSpread tail
spread_back (factors parts) f h = tt
spread_back (items Sequence y low high) f h = tt
spread_back (items Set y low high) f h = tt
spread_back (items Cycle y low high) f h = tt
spread_back (items Multiset y low high) f h = subst IsSpread (same_kind Multiset y low high refl f).2 h
spread_back (items Powerset y low high) f h = subst IsSpread (same_kind Powerset y low high refl f).2 h

pub bag_or_spread : (tail : Tail) → IsBagTail tail → IsSpread tail → ⊥
bag_or_spread (factors parts) b h = b
bag_or_spread (items Sequence y low high) b h = b
bag_or_spread (items Set y low high) b h = b
bag_or_spread (items Cycle y low high) b h = b
bag_or_spread (items Multiset y low high) b h = h
bag_or_spread (items Powerset y low high) b h = h

pub default_spread : (now s : Shape) (f : ℕ) → now ≡ s → ((kind : Kind) (part : Part) (low : ℕ) (high : Option ℕ) → now ≡ shape.Coll kind part low high → ⊥) → IsSpread (behind_some (tail_of s) f)
default_spread now (shape.Atom w) f e d = spread_on (factors []) f tt
default_spread now (shape.Union parts) f e d = spread_on (factors []) f tt
default_spread now (shape.Product parts) f e d = spread_on (factors parts) f tt
default_spread now (shape.Coll kind part low high) f e d = absurd (d kind part low high e)

-- THE END
one_term : (high : Option ℕ) → terms 0 high 0 ≡ 1
one_term (Some h) = let q : suc (min h 0) - 0 ≡ 1 = omega arith in q
one_term None = let q : suc 0 - 0 ≡ 1 = omega arith in q

no_term : (low : ℕ) (high : Option ℕ) → 1 ≤ low → terms low high 0 ≡ 0
no_term low (Some h) g = let q : suc (min h 0) - low ≡ 0 = omega (arith, g) in q
no_term low None g = let q : suc 0 - low ≡ 0 = omega (arith, g) in q

none_of : (u : Universe) (kind : Kind) (a : ℕ → ℕ) → Suits u kind 0 → of_k u kind a (0 + 0) 0 ≡ 1
none_of u Sequence a s = refl
none_of Labelled Set a s = refl
none_of Labelled Cycle a s = absurd (omega (arith, s))
none_of Unlabelled Multiset a s = refl
none_of Unlabelled Powerset a s = refl
none_of Unlabelled Set a s = absurd s
none_of Unlabelled Cycle a s = absurd s
none_of Labelled Multiset a s = absurd s
none_of Labelled Powerset a s = absurd s

end_one : (u : Universe) (kind : Kind) (a : ℕ → ℕ) (low : ℕ) (high : Option ℕ) → Suits u kind low → low ≡ 0 → coll_count u kind a low high 0 ≡ 1
unfolding coll_count
end_one u kind a low high s e =
    let zero_low : coll_count u kind a low high 0 ≡ coll_count u kind a 0 high 0 = ap (λ l. coll_count u kind a l high 0) e in
    let one : sum_below (λ i. of_k u kind a (0 + i) 0) (terms 0 high 0) ≡ sum_below (λ i. of_k u kind a (0 + i) 0) 1 = ap (sum_below (λ i. of_k u kind a (0 + i) 0)) (one_term high) in
    let first : of_k u kind a (0 + 0) 0 ≡ 1 = none_of u kind a (subst (Suits u kind) e s) in
    zero_low ∙ one ∙ (let q : of_k u kind a (0 + 0) 0 + 0 ≡ 1 = omega (arith, first) in q)

end_none : (u : Universe) (kind : Kind) (a : ℕ → ℕ) (low : ℕ) (high : Option ℕ) → 1 ≤ low → coll_count u kind a low high 0 ≡ 0
unfolding coll_count
end_none u kind a low high g = ap (sum_below (λ i. of_k u kind a (low + i) 0)) (no_term low high g)

module _ (t : Looked) (k : IsCounted t) (x f n : ℕ) where
  ended_by : (v low : ℕ) (kind : Kind) (part : Part) (high : Option ℕ) → shape_of (plain_of t.program) x ≡ shape.Coll kind part low high → Ends (tail_at (plain_of t.program) x f) n
      → ((kind : Kind) → Suits t.program.universe kind (low - f) → coll_count t.program.universe kind (entry_of t.counts part.node) (low - f) (less_by f high) 0 ≡ v) → v ≡ capped v → v ≡ capped (left_count t x f n)
  ended_by v low kind part high is ends h small =
      let b = bounds_of kind part.node low high f in
      let e : tail_at (plain_of t.program) x f ≡ items b.0 part.node (low - f) (less_by f high) = ap (λ s. behind_some (tail_of s) f) is ∙ b.1 in
      let there = subst (IsThere (plain_of t.program) (length t.program.nodes)) e (is_there t k x f) in
      let z : n ≡ 0 = subst (λ o. Ends o n) e ends in
      small ∙ ap capped (sym (h b.0 there.1)) ∙ ap (λ m. capped (coll_count t.program.universe b.0 (entry_of t.counts part.node) (low - f) (less_by f high) m)) (sym z)
      ∙ ap (λ o. capped (tail_count t.program.universe (entry_of t.counts) o n)) (sym e)

  pub ended_one : (low : ℕ) (kind : Kind) (part : Part) (high : Option ℕ) → shape_of (plain_of t.program) x ≡ shape.Coll kind part low high → Ends (tail_at (plain_of t.program) x f) n → low ≤ f → 1 ≡ capped (left_count t x f n)
  ended_one low kind part high is ends l = ended_by 1 low kind part high is ends (λ other s. end_one t.program.universe other (entry_of t.counts part.node) (low - f) (less_by f high) s (let q : low - f ≡ 0 = omega (arith, l) in q)) (let q : 1 ≡ capped 1 = omega arith in q)

  pub ended_none : (low : ℕ) (kind : Kind) (part : Part) (high : Option ℕ) → shape_of (plain_of t.program) x ≡ shape.Coll kind part low high → Ends (tail_at (plain_of t.program) x f) n → f < low → 0 ≡ capped (left_count t x f n)
  ended_none low kind part high is ends l = ended_by 0 low kind part high is ends (λ other s. end_none t.program.universe other (entry_of t.counts part.node) (low - f) (less_by f high) (let q : 1 ≤ low - f = omega (arith, l) in q)) (let q : 0 ≡ capped 0 = omega arith in q)

  all_ended : (tail : Tail) → Ends tail n → ((kind : Kind) (y low : ℕ) (high : Option ℕ) → tail ≡ items kind y low high → ⊥) → tail_count t.program.universe (entry_of t.counts) tail n ≡ unit n
  all_ended (factors []) e d = refl
  all_ended (factors (part ∷ parts)) e d = absurd e
  all_ended (items kind y low high) e d = absurd (d kind y low high refl)

  factors_only : (now s : Shape) → now ≡ s → ((kind : Kind) (part : Part) (low : ℕ) (high : Option ℕ) → now ≡ shape.Coll kind part low high → ⊥) → (kind : Kind) (y low : ℕ) (high : Option ℕ) → behind_some (tail_of s) f ≡ items kind y low high → ⊥
  factors_only now (shape.Atom w) e d kind y low high q = let o : factors [] ≡ items kind y low high = sym (no_tail f) ∙ q in cc
  factors_only now (shape.Union parts) e d kind y low high q = let o : factors [] ≡ items kind y low high = sym (no_tail f) ∙ q in cc
  factors_only now (shape.Product parts) e d kind y low high q = let r = still_factors parts f in let o : factors r.0 ≡ items kind y low high = sym r.1 ∙ q in cc
  factors_only now (shape.Coll kind' part low' high') e d kind y low high q = d kind' part low' high' e

  unit_one : n ≡ 0 → unit n ≡ 1
  unit_one e = ap unit e

  unit_none : (m : ℕ) → (m ≡ 0 → ⊥) → unit m ≡ 0
  unit_none zero h = absurd (h refl)
  unit_none (suc m) h = refl

  pub unit_ended : (now : Shape) → now ≡ shape_of (plain_of t.program) x → ((kind : Kind) (part : Part) (low : ℕ) (high : Option ℕ) → now ≡ shape.Coll kind part low high → ⊥) → Ends (tail_at (plain_of t.program) x f) n → n ≡ 0 → 1 ≡ capped (left_count t x f n)
  unit_ended now e d ends z = let q : left_count t x f n ≡ 1 = all_ended (tail_at (plain_of t.program) x f) ends (factors_only now (shape_of (plain_of t.program) x) e d) ∙ unit_one z in omega (arith, q)

  pub unit_past : (now : Shape) → now ≡ shape_of (plain_of t.program) x → ((kind : Kind) (part : Part) (low : ℕ) (high : Option ℕ) → now ≡ shape.Coll kind part low high → ⊥) → Ends (tail_at (plain_of t.program) x f) n → (n ≡ 0 → ⊥) → 0 ≡ capped (left_count t x f n)
  unit_past now e d ends z = let q : left_count t x f n ≡ 0 = all_ended (tail_at (plain_of t.program) x f) ends (factors_only now (shape_of (plain_of t.program) x) e d) ∙ unit_none n z in omega (arith, q)

  -- WHETHER a part more is allowed
  left_some : (tail : Tail) → IsLeft tail n → ((kind : Kind) (y low : ℕ) (high : Option ℕ) → tail ≡ items kind y low high → ⊥) → GoesOn tail n
  left_some (factors []) l d = l
  left_some (factors (part ∷ parts)) l d = tt
  left_some (items kind y low high) l d = absurd (d kind y low high refl)

  pub default_goes : (now : Shape) → now ≡ shape_of (plain_of t.program) x → ((kind : Kind) (part : Part) (low : ℕ) (high : Option ℕ) → now ≡ shape.Coll kind part low high → ⊥) → IsLeft (tail_at (plain_of t.program) x f) n → GoesOn (tail_at (plain_of t.program) x f) n
  default_goes now e d left = left_some (tail_at (plain_of t.program) x f) left (factors_only now (shape_of (plain_of t.program) x) e d)

  module _ (kind : Kind) (part : Part) (low : ℕ) (high : Option ℕ) (is : shape_of (plain_of t.program) x ≡ shape.Coll kind part low high) (left : IsLeft (tail_at (plain_of t.program) x f) n) where
    as_items : tail_at (plain_of t.program) x f ≡ items (bounds_of kind part.node low high f).0 part.node (low - f) (less_by f high)
    as_items = ap (λ s. behind_some (tail_of s) f) is ∙ (bounds_of kind part.node low high f).1

    pub items_goes : AllowsOne (less_by f high) → GoesOn (tail_at (plain_of t.program) x f) n
    items_goes h = subst (λ o. GoesOn o n) (sym as_items) (subst (λ o. IsLeft o n) as_items left, h)

    pub items_none : n ≤ t.last → (AllowsOne (less_by f high) → ⊥) → left_count t x f n ≡ 0
    items_none within h = ⊎_elim
        (λ l. let q : left_count t x f n ≡ 0 = omega (arith, l) in q)
        (λ l. absurd (h
        (let there = subst (IsThere (plain_of t.program) (length t.program.nodes)) as_items (is_there t k x f) in
        goes_on (plain_of t.program) (length t.program.nodes) t.last (entry_of t.counts) k.numbers (bounds_of kind part.node low high f).0 part.node (low - f) (less_by f high) n 0 (labels_from 1 n) there within (room_of t.program.universe n)
        (subst (λ o. IsLeft o n) as_items left) (subst (λ o. 0 < tail_count t.program.universe (entry_of t.counts) o n) as_items l)).1))
        (le_or (left_count t x f n) 0)

pub less_allows : (high : Option ℕ) (f m : ℕ) → high ≡ Some m → f < m → AllowsOne (less_by f high)
less_allows high f m e l = subst (λ h. AllowsOne (less_by f h)) (sym e) (let q : 1 ≤ m - f = omega (arith, l) in q)

pub free_allows : (high : Option ℕ) (f : ℕ) → high ≡ None → AllowsOne (less_by f high)
free_allows high f e = subst (λ h. AllowsOne (less_by f h)) (sym e) tt

pub more_allows : (high : Option ℕ) (f m : ℕ) → high ≡ Some m → m ≤ f → AllowsOne (less_by f high) → ⊥
more_allows high f m e l h = let a : 1 ≤ m - f = subst (λ o. AllowsOne (less_by f o)) e h in omega (arith, a, l)

pub left_shared : (t : Looked) (k : IsCounted t) (x f n v : ℕ) → n ≤ t.last → IsSpread (tail_at (plain_of t.program) x f) → GoesOn (tail_at (plain_of t.program) x f) n → v ≡ capped (sum_below (term_of t x f n) (suc n)) → v ≡ capped (left_count t x f n)
left_shared t k x f n v within spread goes e = e ∙ ap capped (sym (tail_sum (plain_of t.program) (length t.program.nodes) t.last (entry_of t.counts) k.numbers (tail_at (plain_of t.program) x f) (is_there t k x f) spread n within goes))

-- ROWS
past_top : (s : Shape) (last f n : ℕ) → top_of s last < f → Stands s last f n → ⊥
past_top (shape.Atom w) last f n h s = s
past_top (shape.Union parts) last f n h s = s
past_top (shape.Product parts) last f n h s = omega (arith, h, s)
past_top (shape.Coll kind part low high) last f n h s = omega (arith, h, s)

pub stands_top : (s : Shape) (last f n : ℕ) → Stands s last f n → f ≤ top_of s last
stands_top s last f n h = ⊎_elim (λ l. l) (λ l. absurd (past_top s last f n l h)) (le_or f (top_of s last))

module _ (t : Looked) (x : ℕ) where
  abbrev Top : ℕ
  Top = top_of (shape_of (plain_of t.program) x) t.last

  pub all_none : AreRows t x 0 []
  all_none = record { long = refl; right = λ g h. absurd (omega (arith, h)) }

  pub all_more : (done : ℕ) (row : List ℕ) (rows new : List (List ℕ)) → AreRows t x done rows → new ≡ rows ++ row ∷ [] → IsRow t x (Top - done) row → AreRows t x (done + 1) new
  all_more done row rows new r q e = record {
    long = pushed_long [] rows new row done r.long q;
    right = pushed [] (λ g (c : List ℕ). IsRow t x (Top - g) c) rows new row done r.long q r.right e;
  }

  pub all_done : (m n : ℕ) (rows : List (List ℕ)) → m ≡ n → AreRows t x m rows → AreRows t x n rows
  all_done m n rows e r = subst (λ i. AreRows t x i rows) e r

  pub row_behind : (done : ℕ) (row : List ℕ) (rows : List (List ℕ)) → AreRows t x done rows → done ≤ Top → row ≡ slice_index_or rows (length rows - 1) [] → IsRow t x (Top - done + 1) row
  row_behind zero row rows r l e = λ n s w. absurd (past_top (shape_of (plain_of t.program) x) t.last (Top - 0 + 1) n (omega arith) s)
  row_behind (suc done) row rows r l e =
      subst (λ (c : List ℕ). IsRow t x (Top - suc done + 1) c) (sym (e ∙ ap (λ i. slice_index_or rows i []) (let q : length rows - 1 ≡ done = omega (arith, r.long) in q)))
      (subst (λ i. IsRow t x i (slice_index_or rows done [])) (let q : Top - done ≡ Top - suc done + 1 = omega (arith, l) in q) (r.right done (omega arith)))

  pub row_there : (f : ℕ) (rows : List (List ℕ)) → AreRests t x rows → IsSpread (tail_at (plain_of t.program) x f) → f ≤ Top → (f < length rows) × IsRow t x f (slice_index_or rows (length rows - 1 - f) [])
  row_there f rows h spread l =
      let r = h (spread_back (tail_of (shape_of (plain_of t.program) x)) f spread) in (
        omega (arith, r.long, l),
        subst (λ i. IsRow t x f (slice_index_or rows i [])) (let q : Top - f ≡ length rows - 1 - f = omega (arith, r.long) in q)
            (subst (λ i. IsRow t x i (slice_index_or rows (Top - f) [])) (let q : Top - (Top - f) ≡ f = omega (arith, l) in q) (r.right (Top - f) (omega arith))),
      )

  pub row_all : (f width n : ℕ) (row : List ℕ) → ((m : ℕ) → Stands (shape_of (plain_of t.program) x) t.last f m → m ≤ t.last → m < width) → width ≤ n → length row ≡ n → ((m : ℕ) → m < n → slice_index row m ≡ capped (left_count t x f m)) → IsRow t x f row
  row_all f width n row all l e h m s w = let i = all m s w in (omega (arith, i, l, e), h m (omega (arith, i, l)))

pub default_stands : (now s : Shape) (last f n : ℕ) → now ≡ s → ((ps : List Part) → now ≡ shape.Product ps → ⊥) → ((kind : Kind) (part : Part) (low : ℕ) (high : Option ℕ) → now ≡ shape.Coll kind part low high → ⊥) → Stands s last f n → ⊥
default_stands now s last f n e d c h = default_none now s last f n e d c h

pub rests_none : (t : Looked) → AreAllRests t 0 []
rests_none t = record { long = refl; each = λ x h. absurd (omega (arith, h)) }

pub rests_more : (t : Looked) (x : ℕ) (rows : List (List ℕ)) (all new : List (List (List ℕ))) → AreAllRests t x all → new ≡ all ++ rows ∷ [] → AreRests t x rows → AreAllRests t (x + 1) new
rests_more t x rows all new r q e = record {
  long = pushed_long [] all new rows x r.long q;
  each = pushed [] (λ i (c : List (List ℕ)). AreRests t i c) all new rows x r.long q r.each e;
}

pub rests_all : (t : Looked) (m n : ℕ) (all : List (List (List ℕ))) → m ≡ n → AreAllRests t m all → AreAllRests t n all
rests_all t m n all e r = subst (λ i. AreAllRests t i all) e r

pub nodes_none : (t : Looked) → AreAllPlanes t 0 []
nodes_none t = record { long = refl; each = λ x h. absurd (omega (arith, h)) }

pub nodes_more : (t : Looked) (x : ℕ) (planes : List (List (List ℕ))) (all new : List (List (List (List ℕ)))) → AreAllPlanes t x all → new ≡ all ++ planes ∷ [] → HasPlanes (entry_of t.counts) t.last (shape_of (plain_of t.program) x) planes → AreAllPlanes t (x + 1) new
nodes_more t x planes all new r q e = record {
  long = pushed_long [] all new planes x r.long q;
  each = pushed [] (λ i (c : List (List (List ℕ))). HasPlanes (entry_of t.counts) t.last (shape_of (plain_of t.program) i) c) all new planes x r.long q r.each e;
}

pub nodes_all : (t : Looked) (m n : ℕ) (all : List (List (List (List ℕ)))) → m ≡ n → AreAllPlanes t m all → AreAllPlanes t n all
nodes_all t m n all e r = subst (λ i. AreAllPlanes t i all) e r

-- the tail of a multiset or a powerset is of the same kind
abbrev kind_in : Tail → Kind
kind_in (factors parts) = Sequence
kind_in (items kind y low high) = kind

bag_stays : (kind : Kind) → IsBag kind → kind_behind kind ≡ kind
bag_stays Multiset b = refl
bag_stays Powerset b = refl
bag_stays Sequence b = absurd b
bag_stays Set b = absurd b
bag_stays Cycle b = absurd b

bag_bounds : (kind : Kind) (y low : ℕ) (high : Option ℕ) (f : ℕ) → IsBag kind → behind_some (items kind y low high) f ≡ items kind y (low - f) (less_by f high)
bag_bounds kind y low high f b =
    let o = bounds_of kind y low high f in
    let s = same_kind kind y low high (bag_stays kind b) f in
    let e : o.0 ≡ kind = ap kind_in (sym o.1 ∙ s.2) in
    o.1 ∙ ap (λ (u : Kind). items u y (low - f) (less_by f high)) e

-- the plane of a node
pub plane_there : (t : Looked) (k : IsLooked t) (x d : ℕ) → x < length t.program.nodes → IsBagTail (tail_at (plain_of t.program) x 0) → d ≤ t.last → (d < length (slice_index_or t.planes x [])) × HasPlane t x d (slice_index_or (slice_index_or t.planes x []) d [])
plane_there t k x d l bag h = by (shape_of (plain_of t.program) x) refl bag (k.planes x l)
  where
    by : (s : Shape) → shape_of (plain_of t.program) x ≡ s → IsBagTail (tail_of s) → HasPlanes (entry_of t.counts) t.last s (slice_index_or t.planes x []) → (d < length (slice_index_or t.planes x [])) × HasPlane t x d (slice_index_or (slice_index_or t.planes x []) d [])
    by (shape.Atom w) e b p = absurd b
    by (shape.Union parts) e b p = absurd b
    by (shape.Product parts) e b p = absurd b
    by (shape.Coll kind part low high) e b p =
        let r = p b in (
          omega (arith, r.long, h),
          λ kind' part' low' high' e'. same kind kind' part part' (let q : shape.Coll kind part low high ≡ shape.Coll kind' part' low' high' = sym e ∙ e' in cc) (let q : shape.Coll kind part low high ≡ shape.Coll kind' part' low' high' = sym e ∙ e' in cc) (r.right d (omega (arith, h))),
        )
      where
        same : (kind kind' : Kind) (part part' : Part) → kind ≡ kind' → part ≡ part' → IsPlane kind (entry_of t.counts part.node) d t.last (slice_index_or (slice_index_or t.planes x []) d []) → IsPlane kind' (entry_of t.counts part'.node) d t.last (slice_index_or (slice_index_or t.planes x []) d [])
        same kind kind' part part' e q w = subst (λ (o : Part). IsPlane kind' (entry_of t.counts o.node) d t.last (slice_index_or (slice_index_or t.planes x []) d [])) q (subst (λ (o : Kind). IsPlane o (entry_of t.counts part.node) d t.last (slice_index_or (slice_index_or t.planes x []) d [])) e w)

-- how many have only components before a place
pub below_is : (t : Looked) (k : IsCounted t) (x f n d i least most v : ℕ) (ways : List ℕ) (rows : List (List ℕ)) (kind : Kind) (part : Part) (low : ℕ) (high : Option ℕ) → shape_of (plain_of t.program) x ≡ shape.Coll kind part low high → IsBagTail (tail_at (plain_of t.program) x f)
    → 1 ≤ d → d ≤ n → n ≤ t.last → AreWays kind i d n ways → HasPlane t x (d - 1) rows → least ≡ low - f → most ≡ most_of (less_by f high) n → v ≡ capped (sum_below (λ e. with_size ways rows d (least + e) n) (suc most - least)) → v ≡ capped (below_of t x f n d i)
below_is t k x f n d i least most v ways rows kind part low high is bag g l w aw there e q r =
    let y = part.node in
    let b : IsBag kind = bag_back kind y low high f (subst (λ s. IsBagTail (behind_some (tail_of s) f)) is bag) in
    let h : capped (sum_below (λ o. with_size ways rows d (low - f + o) n) (suc (most_of (less_by f high) n) - (low - f))) ≡ capped (coll_count Unlabelled kind (cut (entry_of t.counts y) d i) (low - f) (less_by f high) n)
    = count_below kind (entry_of t.counts y) ways rows d t.last (low - f) n i (less_by f high) b g l w (there kind part low high is) aw in
    r ∙ ap (λ m. capped (sum_below (λ o. with_size ways rows d (m + o) n) (suc most - m))) e ∙ ap (λ m. capped (sum_below (λ o. with_size ways rows d (low - f + o) n) (suc m - (low - f)))) q ∙ h
    ∙ ap (λ o. capped (below_in (entry_of t.counts) o n d i)) (sym (bag_bounds kind y low high f b)) ∙ ap (λ s. capped (below_in (entry_of t.counts) (behind_some (tail_of s) f) n d i)) (sym is)

pub bag_left : (tail : Tail) (n : ℕ) → IsBagTail tail → IsLeft tail n → 1 ≤ n
bag_left (factors parts) n b l = absurd b
bag_left (items kind y low high) n b l = l

pub default_bag : (now s : Shape) (f : ℕ) → now ≡ s → ((kind : Kind) (part : Part) (low : ℕ) (high : Option ℕ) → now ≡ shape.Coll kind part low high → ⊥) → IsBagTail (behind_some (tail_of s) f) → ⊥
default_bag now s f e d b = bag_or_spread (behind_some (tail_of s) f) b (default_spread now s f e d)
