-- A collection at its place of the order.
use Rattle.std.proofs.Common.{◌≡◌, ◌⊎◌, ℕ, zero, suc, ◌+◌, ◌≤◌, ◌<◌, inl, inr, ⊎_elim, false, List, [], ◌∷◌, ◌++◌, length, take, slice_index, slice_set, slice_get, nat_lt, refl, sym, ◌∙◌, ap, subst, arith, Some, None, Option}
use Rattle.std.proofs.lemmas.List.{get_or-take, length-take-le}
use Rattle.std.proofs.lemmas.Option.{slice_get_within, get_or_from_slice_get}
use Rattle.luo_num.specs.Mark.{capped}
use Rattle.luo_num.specs.declared.TheConstants.{MAX}
use Rattle.luo_finite.specs.Listing.{In}
use Rattle.luo_finite.proofs.Sums.{Counts-unique}
use Rattle.luo_model.specs.declared.program.Part.{Part}
use Rattle.luo_model.specs.declared.program.Kind.{Kind}
use Rattle.luo_model.specs.declared.program.Shape.{Shape}
use Rattle.luo_model.specs.declared.program.Shape.TheVariants.{Coll}
use Rattle.luo_model.specs.Program.{Program, shape_of}
use Rattle.luo_model.specs.Structures.{IsStructure}
use Rattle.luo_model.specs.Member.{IsWithin}
use Rattle.luo_model.specs.Invariant.{inner_parts}
use Rattle.luo_model.specs.Tables.{IsCount}
use Rattle.luo_counting.specs.Items.{Suits}
use Rattle.luo_counting.specs.Numbers.{coll_count}
use Rattle.luo_counting.proofs.Numbered.{coll_count-needed}
use Rattle.luo_counting.proofs.TreeCollections.{count_of_all}
use Rattle.luo_engine.specs.inner.Grid.{row_of, entry_of}
use Rattle.luo_recipes.specs.Obeys.{Obeys}
use Rattle.luo_engine.specs.inner.Filled.{rank_of, AreRanks, IsBefore, IsOrder, AreCounted, CountsTo}
use Rattle.luo_engine.specs.inner.Asked.{Asked, unasked, GoesOnAs, numbers, number_asked, asked_more}
use Rattle.luo_engine.specs.inner.Collections.{table_or, table_at, HasTable, IsAsked, HasAsked, AreCollections, AreUnasked, IsUnasked}
use Rattle.luo_engine.proofs.inner.EntryLemmas.{below_is, filled_is}

lt_or_not : (a b : ℕ) → (a < b) ⊎ (b ≤ a)
lt_or_not a b = grind arith

lt_or_eq : (a b : ℕ) → a < b + 1 → (a < b) ⊎ (a ≡ b)
lt_or_eq a b h = grind arith

three_ways : (a b : ℕ) → (a < b) ⊎ ((a ≡ b) ⊎ (b < a))
three_ways a b = grind arith

some_one : {A : Type 0} (x y : A) → Some x ≡ Some y → x ≡ y
some_one x y e = cc

pub get-set_same : {A : Type 0} (xs : List A) (i : ℕ) (v : A) → i < length xs → slice_get (slice_set xs i v) i ≡ Some v
get-set_same [] i v h = absurd (omega arith)
get-set_same (x ∷ xs) zero v h = refl
get-set_same (x ∷ xs) (suc i) v h = get-set_same xs i v (omega arith)

pub get-set_other : {A : Type 0} (xs : List A) (i j : ℕ) (v : A) → (j ≡ i → ⊥) → slice_get (slice_set xs i v) j ≡ slice_get xs j
get-set_other [] i j v d = refl
get-set_other (x ∷ xs) zero zero v d = absurd (d refl)
get-set_other (x ∷ xs) zero (suc j) v d = refl
get-set_other (x ∷ xs) (suc i) zero v d = refl
get-set_other (x ∷ xs) (suc i) (suc j) v d = get-set_other xs i j v (λ e. d (ap suc e))

get-front : {A : Type 0} (xs : List A) (h : A) (k : ℕ) → k < length xs → slice_get (xs ++ h ∷ []) k ≡ slice_get xs k
get-front [] h k l = absurd (omega arith)
get-front (x ∷ xs) h zero l = refl
get-front (x ∷ xs) h (suc k) l = get-front xs h k (omega arith)

get-last : {A : Type 0} (xs : List A) (h : A) (k : ℕ) → length xs ≡ k → slice_get (xs ++ h ∷ []) k ≡ Some h
get-last [] h zero e = refl
get-last [] h (suc k) e = absurd (omega (arith, e))
get-last (x ∷ xs) h zero e = absurd (omega (arith, e))
get-last (x ∷ xs) h (suc k) e = get-last xs h k (omega (arith, e))

pub front-at : (xs : List ℕ) (h k : ℕ) → k < length xs → slice_index (xs ++ h ∷ []) k ≡ slice_index xs k
front-at [] h k l = absurd (omega arith)
front-at (x ∷ xs) h zero l = refl
front-at (x ∷ xs) h (suc k) l = front-at xs h k (omega arith)

pub last-at : (xs : List ℕ) (h n : ℕ) → length xs ≡ n → slice_index (xs ++ h ∷ []) n ≡ h
last-at [] h zero e = refl
last-at [] h (suc n) e = absurd (omega arith)
last-at (x ∷ xs) h zero e = absurd (omega arith)
last-at (x ∷ xs) h (suc n) e = last-at xs h n (omega arith)

pub past-at : (xs : List ℕ) (h k : ℕ) → length xs < k → slice_index (xs ++ h ∷ []) k ≡ 0
past-at [] h zero l = absurd (omega arith)
past-at [] h (suc k) l = refl
past-at (x ∷ xs) h zero l = absurd (omega arith)
past-at (x ∷ xs) h (suc k) l = past-at xs h k (omega arith)

-- beyond the end of a list there is 0
pub beyond : (xs : List ℕ) (k : ℕ) → length xs ≤ k → slice_index xs k ≡ 0
beyond [] k l = refl
beyond (x ∷ xs) zero l = absurd (omega arith)
beyond (x ∷ xs) (suc k) l = beyond xs k (omega arith)

pub long-more : (xs : List ℕ) (h : ℕ) → length (xs ++ h ∷ []) ≡ length xs + 1
long-more [] h = refl
long-more (x ∷ xs) h = omega (arith, long-more xs h)

pub long_table : (xs : List (Option Asked)) (h : Option Asked) → length (xs ++ h ∷ []) ≡ length xs + 1
long_table [] h = refl
long_table (x ∷ xs) h = omega (arith, long_table xs h)

pub starts_empty : (xs : List ℕ) (h : ℕ) → slice_index xs 0 ≡ 0 → (length xs ≡ 0 → h ≡ 0) → numbers xs h 0 ≡ 0
starts_empty [] h z e = e refl
starts_empty (x ∷ xs) h z e = z

-- whether one component is within the bounds
pub within_or_not : (low : ℕ) (high : Option ℕ) → IsWithin low high 1 ⊎ (IsWithin low high 1 → ⊥)
within_or_not low None = ⊎_elim (λ h. inl h) (λ h. inr (λ w. absurd (omega (arith, h, w)))) (le_or low)
  where
    le_or : (a : ℕ) → (a ≤ 1) ⊎ (1 < a)
    le_or a = grind arith
within_or_not low (Some high) = ⊎_elim (λ (h : low ≤ 1). ⊎_elim (λ (g : 1 ≤ high). inl (h, g)) (λ g. inr (λ w. absurd (omega (arith, g, w.1)))) (le_or 1 high)) (λ h. inr (λ w. absurd (omega (arith, h, w.0)))) (le_or low 1)
  where
    le_or : (a b : ℕ) → (a ≤ b) ⊎ (b < a)
    le_or a b = grind arith

pub not_more : (value : ℕ) → value ≤ MAX → nat_lt MAX value ≡ false
not_more value h = grind arith

-- a table that is there is the one at its place
pub table_is : (tables : List (Option Asked)) (x : ℕ) (c : Asked) → slice_get tables x ≡ Some (Some c) → table_at tables x ≡ c
table_is tables x c e = ap table_or (get_or_from_slice_get tables x (Some c) None e)

pub has_table : (tables : List (Option Asked)) (x : ℕ) (c : Asked) → slice_get tables x ≡ Some (Some c) → HasTable tables x
has_table tables x c e = e ∙ ap (λ (a : Asked). Some (Some a)) (sym (table_is tables x c e))

-- who comes at another place is another
pub apart : (ranks order : List ℕ) (size j k x y : ℕ) → ((i j x y : ℕ) → i < j → slice_get order i ≡ Some x → slice_get order j ≡ Some y → IsBefore ranks x y) → slice_get order k ≡ Some x → slice_get order j ≡ Some y → (j ≡ k → ⊥) → y ≡ x → ⊥
apart ranks order size j k x y rising place e d q =
    let s : slice_get order j ≡ Some x = e ∙ ap Some q in
    ⊎_elim (λ (h : j < k). itself (rising j k x x h s place)) (λ r. ⊎_elim (λ i. d i) (λ (h : k < j). itself (rising k j x x h place s)) r) (three_ways j k)
  where
    itself : IsBefore ranks x x → ⊥
    itself (inl a) = absurd (omega arith)
    itself (inr b) = absurd (omega (arith, b.1))

module _ (p : Program) (ranks order : List ℕ) (C : ℕ → ℕ → ℕ) (obeys : Obeys p C) (ranked : AreRanks p ranks) (parts_there : (x : ℕ) → x < length p.nodes → (part : Part) → In part (inner_parts (shape_of p x)) → part.node < length p.nodes) (ordered : IsOrder p ranks order) (counts : List (List ℕ)) (n k : ℕ) (counted : AreCounted p order counts n k) (x : ℕ) (place : slice_get order k ≡ Some x)
    (low : ℕ) (kind : Kind) (part : Part) (high : Option ℕ) (shape : shape_of p x ≡ Coll kind part low high) (n_max : ℕ) (tables : List (Option Asked)) (are : AreCollections p n_max order tables n k) where
  mine : HasAsked p n_max tables x low kind part high n
  mine = are.to_ask k x low kind part high (omega arith) place shape

  it : Asked
  it = table_at tables x

  x_there : x < length p.nodes
  x_there = ordered.there k x place

  pub component_there : part.node < length p.nodes
  component_there = parts_there x x_there part (subst (λ (s : Shape). In part (inner_parts s)) (sym shape) (inl refl))

  abbrev T : ℕ → ℕ
  T = entry_of counts part.node

  -- an entry is filled, or 0
  entry_small : T n ≤ MAX
  entry_small =
      let at = ordered.complete part.node component_there in
      ⊎_elim (λ g. (counted.done at.0 part.node g at.1).1) (λ g. let z = counted.waiting at.0 part.node g at.1 in omega (arith, z)) (lt_or_not at.0 k)

  count_is : (m value : ℕ) → value ≡ C part.node m → IsCount p part.node m value
  count_is m value e = subst (IsCount p part.node m) (sym e) (count_of_all p part.node m (C part.node m) (obeys.known part.node m))

  is_count : (m value : ℕ) → IsCount p part.node m value → value ≡ C part.node m
  is_count m value h = Counts-unique (IsStructure p part.node m) value (C part.node m) h (count_of_all p part.node m (C part.node m) (obeys.known part.node m))

  module _ (here : ℕ) (one : IsWithin low high 1 → here ≡ T n) (alone : (IsWithin low high 1 → ⊥) → here ≡ 0) (comp : List ℕ) (front : comp ≡ take n (row_of counts part.node)) where
    pub comp_long : length comp ≡ n
    comp_long = ap length front ∙ length-take-le n (row_of counts part.node) (omega (arith, counted.reach part.node (omega (arith, component_there, counted.wide))))

    comp_at : (m : ℕ) → m < n → slice_index comp m ≡ T m
    comp_at m h = ap (λ (c : List ℕ). slice_index c m) front ∙ get_or-take n (row_of counts part.node) m 0 h

    comp_is : (m : ℕ) → m < n → slice_index comp m ≡ C part.node m
    comp_is m h = comp_at m h ∙ below_is p ranks order C obeys ranked parts_there ordered counts n k counted x place part.node m component_there h

    comp_small : (m : ℕ) → slice_index comp m ≤ MAX
    comp_small m = ⊎_elim (λ h. let s = (counted.below part.node m component_there h).1 in omega (arith, s, comp_at m h)) (λ h. let z = beyond comp m (omega (arith, h, comp_long)) in omega (arith, z)) (lt_or_not m n)

    here_is : IsWithin low high 1 → here ≡ C part.node n
    here_is w = one w ∙ filled_is p ranks order C obeys ranked parts_there ordered counts n k counted x place part.node component_there (obeys.component_falls x low kind part high shape w (rank_of ranks x) (rank_of ranks part.node) (ranked.ranked x x_there) (ranked.ranked part.node component_there))

    here_small : here ≤ MAX
    here_small = ⊎_elim (λ w. omega (arith, one w, entry_small)) (λ w. omega (arith, alone w)) (within_or_not low high)

    nothing : C part.node 0 ≡ 0
    nothing = obeys.component x low kind part high shape

    here_empty : n ≡ 0 → here ≡ 0
    here_empty e = ⊎_elim (λ w. here_is w ∙ ap (C part.node) e ∙ nothing) (λ w. alone w) (within_or_not low high)

    none_empty : slice_index comp 0 ≡ 0
    none_empty = ⊎_elim (λ h. comp_is 0 h ∙ nothing) (λ h. beyond comp 0 (omega (arith, h, comp_long))) (lt_or_not 0 n)

    within_is : IsWithin it.low it.high 1 → IsWithin low high 1
    unfolding it
    within_is w = subst (λ h. IsWithin low h 1) mine.asked.high_is (subst (λ l. IsWithin l it.high 1) mine.asked.low_is w)

    within_mine : IsWithin low high 1 → IsWithin it.low it.high 1
    unfolding it
    within_mine w = subst (λ h. IsWithin it.low h 1) (sym mine.asked.high_is) (subst (λ l. IsWithin l high 1) (sym mine.asked.low_is) w)

    pub goes_on : n ≤ n_max → GoesOnAs (table_at tables x) comp here
    unfolding it
    goes_on small =
        let a = mine.asked in record {
          going = a.going;
          reached = omega (arith, small, a.calls_are, a.n_max_is);
          sizes = comp_long ∙ sym a.calls_are;
          none_empty = none_empty;
          small = comp_small;
          here_small = here_small;
          here_empty = λ e. here_empty (sym comp_long ∙ e);
          here_alone = λ w. alone (λ v. w (within_mine v));
          agree = λ m h. comp_is m (omega (arith, h, comp_long)) ∙ sym (is_count m _ (a.agrees m (omega (arith, h, comp_long))));
          last_agrees = λ m h w. comp_is m (omega (arith, h, comp_long)) ∙ sym (is_count m _ (a.last_agrees m (h ∙ comp_long) (within_is w)));
        }

    -- the answer is the number of node x
    pub number : Suits p.universe kind low → (value : ℕ) → value ≡ capped (number_asked (table_at tables x) comp here) → CountsTo p x n value
    number suits value v =
        let a = mine.asked in
        let e : number_asked (table_at tables x) comp here ≡ coll_count p.universe kind (numbers comp here) low high n =
        ap (λ u. coll_count u (table_at tables x).kind (numbers comp here) (table_at tables x).low (table_at tables x).high (length comp)) a.universe_is
        ∙ ap (λ i. coll_count p.universe i (numbers comp here) (table_at tables x).low (table_at tables x).high (length comp)) a.kind_is
        ∙ ap (λ l. coll_count p.universe kind (numbers comp here) l (table_at tables x).high (length comp)) a.low_is
        ∙ ap (λ h. coll_count p.universe kind (numbers comp here) low h (length comp)) a.high_is
        ∙ ap (λ s. coll_count p.universe kind (numbers comp here) low high s) comp_long in
        record {
          number = C x n;
          is_number = count_of_all p x n (C x n) (obeys.known x n);
          marked = v ∙ ap capped (e
              ∙ coll_count-needed p.universe kind low high (numbers comp here) (C part.node) n suits (starts_empty comp here none_empty (λ l. here_empty (sym comp_long ∙ l))) nothing
              (λ m h. front-at comp here m (omega (arith, h, comp_long)) ∙ comp_is m h)
              (λ w. last-at comp here n comp_long ∙ here_is w)
              ∙ sym (obeys.collection x n low kind part high shape));
        }

    -- and the table has been asked once more
    after : (value : ℕ) → value ≤ MAX → IsAsked p kind part low high n_max (n + 1) (asked_more (table_at tables x) comp here value)
    after value small =
        let a = mine.asked in record {
          form_is = a.form_is;
          universe_is = a.universe_is;
          kind_is = a.kind_is;
          low_is = a.low_is;
          high_is = a.high_is;
          n_max_is = a.n_max_is;
          going = not_more value small;
          calls_are = long-more comp here ∙ ap (λ l. l + 1) comp_long;
          agrees = λ m h. count_is m _ (front-at comp here m (omega (arith, h, comp_long)) ∙ comp_is m (omega (arith, h)));
          last_alone = λ m h w. let q : m ≡ n = omega (arith, h) in ap (slice_index (comp ++ here ∷ [])) q ∙ last-at comp here n comp_long ∙ alone w;
          last_agrees = λ m h w. let q : m ≡ n = omega (arith, h) in count_is m _ (ap (slice_index (comp ++ here ∷ [])) q ∙ last-at comp here n comp_long ∙ here_is w ∙ ap (C part.node) (sym q));
        }

    pub asked_next : (new : List (Option Asked)) (value : ℕ) → new ≡ slice_set tables x (Some (asked_more (table_at tables x) comp here value)) → value ≤ MAX → AreCollections p n_max order new n (k + 1)
    asked_next new value e small =
        let now : slice_get new x ≡ Some (Some (asked_more (table_at tables x) comp here value)) =
        ap (λ (ts : List (Option Asked)). slice_get ts x) e ∙ get-set_same tables x (Some (asked_more (table_at tables x) comp here value)) (slice_get_within tables x (Some (table_at tables x)) mine.there) in
        let same : (y : ℕ) → (y ≡ x → ⊥) → slice_get new y ≡ slice_get tables y =
        λ y d. ap (λ (ts : List (Option Asked)). slice_get ts y) e ∙ get-set_other tables x y (Some (asked_more (table_at tables x) comp here value)) d in
        let kept : (y bound calls : ℕ) (sort : Kind) (component : Part) (most : Option ℕ) → (y ≡ x → ⊥) → HasAsked p n_max tables y bound sort component most calls → HasAsked p n_max new y bound sort component most calls =
        λ y bound calls sort component most d h.
        let s : slice_get new y ≡ Some (Some (table_at tables y)) = same y d ∙ h.there in
        record { there = has_table new y (table_at tables y) s; asked = subst (IsAsked p sort component bound most n_max calls) (sym (table_is new y (table_at tables y) s)) h.asked } in
        record {
          asked = λ j y bound sort component most h o s. ⊎_elim
              (λ (l : j < k). kept y bound (n + 1) sort component most (apart ranks order (length p.nodes) j k x y ordered.rising place o (λ q. absurd (omega (arith, l, q)))) (are.asked j y bound sort component most l o s))
              (λ (q : j ≡ k).
              let t : y ≡ x = some_one y x (sym o ∙ ap (slice_get order) q ∙ place) in
              let u : Coll sort component bound most ≡ Coll kind part low high = sym s ∙ ap (shape_of p) t ∙ shape in
              let same_kind : kind ≡ sort = cc in
              let same_part : part ≡ component = cc in
              let same_low : low ≡ bound = cc in
              let same_high : high ≡ most = cc in
              subst (λ z. HasAsked p n_max new z bound sort component most (n + 1)) (sym t)
              (subst (λ z. HasAsked p n_max new x bound sort component z (n + 1)) same_high
              (subst (λ z. HasAsked p n_max new x z sort component high (n + 1)) same_low
              (subst (λ z. HasAsked p n_max new x low sort z high (n + 1)) same_part
              (subst (λ z. HasAsked p n_max new x low z part high (n + 1)) same_kind
              (record { there = has_table new x _ now; asked = subst (IsAsked p kind part low high n_max (n + 1)) (sym (table_is new x _ now)) (after value small) }))))))
              (lt_or_eq j k h);
          to_ask = λ j y bound sort component most h o s. kept y bound n sort component most (apart ranks order (length p.nodes) j k x y ordered.rising place o (λ q. absurd (omega (arith, h, q)))) (are.to_ask j y bound sort component most (omega (arith, h)) o s);
        }

-- a node that is no collection has no table
pub collections_skip : (p : Program) (n_max : ℕ) (order : List ℕ) (tables : List (Option Asked)) (n k x : ℕ) → slice_get order k ≡ Some x → ((low : ℕ) (kind : Kind) (part : Part) (high : Option ℕ) → shape_of p x ≡ Coll kind part low high → ⊥)
    → AreCollections p n_max order tables n k → AreCollections p n_max order tables n (k + 1)
collections_skip p n_max order tables n k x place other a = record {
  asked = λ j y low kind part high h o s. ⊎_elim (λ (l : j < k). a.asked j y low kind part high l o s)
      (λ (q : j ≡ k). let t : y ≡ x = some_one y x (sym o ∙ ap (slice_get order) q ∙ place) in absurd (other low kind part high (ap (shape_of p) (sym t) ∙ s))) (lt_or_eq j k h);
  to_ask = λ j y low kind part high h o s. a.to_ask j y low kind part high (omega (arith, h)) o s;
}

-- the next size
pub collections_next : (p : Program) (n_max : ℕ) (order : List ℕ) (tables : List (Option Asked)) (n : ℕ) → AreCollections p n_max order tables n (length order) → AreCollections p n_max order tables (n + 1) 0
collections_next p n_max order tables n a = record {
  asked = λ j y low kind part high h o s. absurd (omega (arith, h));
  to_ask = λ j y low kind part high h o s. a.asked j y low kind part high (slice_get_within order j y o) o s;
}

-- before the first size nothing was given
pub collections_start : (p : Program) (n_max : ℕ) (order : List ℕ) (tables : List (Option Asked)) → ((j x : ℕ) → slice_get order j ≡ Some x → x < length p.nodes) → AreUnasked p n_max tables (length p.nodes) → AreCollections p n_max order tables 0 0
collections_start p n_max order tables there u = record {
  asked = λ j y low kind part high h o s. absurd (omega (arith, h));
  to_ask = λ j y low kind part high h o s.
      let g = u y low kind part high (there j y o) s in record {
        there = has_table tables y (unasked p.universe kind low high n_max) g;
        asked = subst (IsAsked p kind part low high n_max 0) (sym (table_is tables y (unasked p.universe kind low high n_max) g)) (record {
          form_is = refl;
          universe_is = refl;
          kind_is = refl;
          low_is = refl;
          high_is = refl;
          n_max_is = refl;
          going = refl;
          calls_are = refl;
          agrees = λ m l. absurd (omega (arith, l));
          last_agrees = λ m l. absurd (omega (arith, l));
          last_alone = λ m l. absurd (omega (arith, l));
        });
      };
}

-- one node more
pub unasked_more : (p : Program) (n_max : ℕ) (old new : List (Option Asked)) (table : Option Asked) (y : ℕ) → length old ≡ y → new ≡ old ++ table ∷ [] → IsUnasked p n_max y table → AreUnasked p n_max old y → AreUnasked p n_max new (y + 1)
unasked_more p n_max old new table y l e t u = λ x low kind part high h s. ⊎_elim
    (λ (g : x < y). ap (λ (ts : List (Option Asked)). slice_get ts x) e ∙ get-front old table x (omega (arith, g, l)) ∙ u x low kind part high g s)
    (λ (g : x ≡ y). ap (λ (ts : List (Option Asked)). slice_get ts x) e ∙ get-last old table x (l ∙ sym g) ∙ ap Some (t low kind part high (ap (shape_of p) (sym g) ∙ s)))
    (lt_or_eq x y h)
