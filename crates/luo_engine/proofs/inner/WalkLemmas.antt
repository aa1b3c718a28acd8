-- A walk over the collection of its site.
use Rattle.std.proofs.Common.{◌≡◌, ◌⊎◌, ℕ, suc, ◌+◌, ◌≤◌, ◌<◌, inl, inr, ⊎_elim, List, [], ◌∷◌, ◌++◌, length, map, take, sum_by, slice_index, slice_get, refl, sym, ◌∙◌, ap, subst, arith, Some, None, Option}
use Rattle.std.proofs.lemmas.List.{get_or-take, length-take-le}
use Rattle.std.proofs.lemmas.List.Sums.{sum_by-cons}
use Rattle.std.proofs.lemmas.Option.{get_or_from_slice_get}
use Rattle.luo_num.specs.Mark.{capped}
use Rattle.luo_num.specs.declared.TheConstants.{MAX}
use Rattle.luo_finite.specs.Listing.{In, NoDouble}
use Rattle.luo_finite.proofs.Sums.{Counts-unique}
use Rattle.luo_finite.proofs.Totals.{Totals-unique}
use Rattle.luo_model.specs.Tree.{Tree}
use Rattle.luo_model.specs.Program.{Program, site_node}
use Rattle.luo_model.specs.Structures.{IsStructure, labels_from}
use Rattle.luo_model.specs.Member.{Member, IsWithin}
use Rattle.luo_model.specs.Invariant.{IsProgram}
use Rattle.luo_model.specs.Founded.{IsFounded}
use Rattle.luo_model.specs.Charges.{Charges, BodyCharges, SiteCharges, WorkCharges, Work, of_body, works_of}
use Rattle.luo_model.specs.Tables.{IsCount, IsTotal}
use Rattle.luo_model.proofs.WorkLemmas.{sites_are_apart}
use Rattle.luo_counting.specs.Counted.{CountsAt, SumsAt}
use Rattle.luo_counting.specs.Numbers.{coll_total}
use Rattle.luo_counting.proofs.TreeCollections.{count_of_all}
use Rattle.luo_counting.proofs.Numbered.{room_of}
use Rattle.luo_counting.proofs.TreeCharges.{walk_total}
use Rattle.luo_engine.specs.inner.Grid.{row_of, entry_of}
use Rattle.luo_engine.specs.inner.Filled.{IsRightOf, IsRight, NumbersTo}
use Rattle.luo_engine.specs.inner.Asked.{Asked, AskedWalk, unasked_walk, GoesOnAs, GoesWithAs, KeepsCounts, numbers, total_asked, asked_more}
use Rattle.luo_engine.specs.inner.Collections.{table_at, HasAsked}
use Rattle.luo_engine.specs.inner.Walks.{IsWalk, walk_or, walk_at, HasWalk, IsAskedWalk, HasAskedWalk}
use Rattle.luo_recipes.proofs.CountLemmas.{number, number_known, light, suits, solid, component_none}
use Rattle.luo_recipes.proofs.TotalLemmas.{weight, weight_charged, weight_is, total, total_known, total_is}
use Rattle.luo_engine.proofs.inner.CollectionLemmas.{front-at, last-at, past-at, beyond, long-more, starts_empty, within_or_not, not_more}

lt_or_not : (a b : ℕ) → (a < b) ⊎ (b ≤ a)
lt_or_not a b = grind arith

le_or_eq : (a b : ℕ) → a ≤ b → (a < b) ⊎ (a ≡ b)
le_or_eq a b h = grind arith

same_list : (xs ys : List ℕ) → length xs ≡ length ys → ((m : ℕ) → m < length xs → slice_index xs m ≡ slice_index ys m) → xs ≡ ys
same_list [] [] e h = refl
same_list [] (y ∷ ys) e h = absurd (omega (arith, e))
same_list (x ∷ xs) [] e h = absurd (omega (arith, e))
same_list (x ∷ xs) (y ∷ ys) e h =
    let a : x ≡ y = h 0 (omega arith) in
    let b : xs ≡ ys = same_list xs ys (omega (arith, e)) (λ m l. h (suc m) (omega (arith, l))) in
    ap (λ z. z ∷ xs) a ∙ ap (λ zs. y ∷ zs) b

-- no elements, no sum
nothing_sums : {A : Type 0} (w : A → ℕ) (l : List A) → sum_by (λ a. 1) l ≡ 0 → sum_by w l ≡ 0
nothing_sums w [] e = refl
nothing_sums {A} w (a ∷ l) e = absurd (omega (arith, e, sum_by-cons (λ (b : A). 1) a l))

in_firsts : {B : Type 0} (l : List (ℕ × B)) (i : ℕ) (v : B) → In (i, v) l → In i (map (λ w. w.0) l)
in_firsts [] i v h = absurd h
in_firsts (w ∷ l) i v (inl e) = inl (ap (λ x. x.0) e)
in_firsts (w ∷ l) i v (inr h) = inr (in_firsts l i v h)

-- where no two first parts are equal, a first part has one second
second_one : {B : Type 0} (l : List (ℕ × B)) → NoDouble (map (λ w. w.0) l) → (i : ℕ) (v w : B) → In (i, v) l → In (i, w) l → v ≡ w
second_one [] d i v w h k = absurd h
second_one (x ∷ l) d i v w (inl e) (inl g) = ap (λ z. z.1) (e ∙ sym g)
second_one (x ∷ l) d i v w (inl e) (inr k) = absurd (d.0 (subst (λ z. In z (map (λ w. w.0) l)) (ap (λ z. z.0) e) (in_firsts l i w k)))
second_one (x ∷ l) d i v w (inr h) (inl g) = absurd (d.0 (subst (λ z. In z (map (λ w. w.0) l)) (ap (λ z. z.0) g) (in_firsts l i v h)))
second_one (x ∷ l) d i v w (inr h) (inr k) = second_one l d.1 i v w h k

-- a table that is there is the one at its place
pub walk_table_is : (walks : List (Option AskedWalk)) (i : ℕ) (w : AskedWalk) → slice_get walks i ≡ Some (Some w) → walk_at walks i ≡ w
walk_table_is walks i w e = ap walk_or (get_or_from_slice_get walks i (Some w) None e)

pub has_walk : (walks : List (Option AskedWalk)) (i : ℕ) (w : AskedWalk) → slice_get walks i ≡ Some (Some w) → HasWalk walks i
has_walk walks i w e = e ∙ ap (λ (a : AskedWalk). Some (Some a)) (sym (walk_table_is walks i w e))

module _ (p : Program) (q : IsProgram p) (f : IsFounded p) where
  abbrev C : ℕ → ℕ → ℕ
  C = number p q f

  abbrev T : ℕ → ℕ → ℕ
  T = total p q f

  -- an entry is the total, or the count
  pub is_total : (s m value : ℕ) → s < length p.sites → IsTotal p s m value → value ≡ T s m
  is_total s m value h t =
      Totals-unique (IsStructure p (site_node p s) m) (SiteCharges p s) value (total p q f s m)
      (λ x a b k c d. weight_is p q f s h x a k.0 c ∙ sym (weight_is p q f s h x b k.0 d)) t (total_is p q f s m h)

  total_for : (s m value : ℕ) → s < length p.sites → value ≡ T s m → IsTotal p s m value
  total_for s m value h e = subst (IsTotal p s m) (sym e) (total_is p q f s m h)

  pub is_count : (x m value : ℕ) → IsCount p x m value → value ≡ C x m
  is_count x m value h = Counts-unique (IsStructure p x m) value (number p q f x m) h (count_of_all p x m (number p q f x m) (number_known p q f x m))

  count_for : (x m value : ℕ) → value ≡ C x m → IsCount p x m value
  count_for x m value e = subst (IsCount p x m) (sym e) (count_of_all p x m (number p q f x m) (number_known p q f x m))

  module _ (i s : ℕ) (walk : IsWalk p i s) where
    -- where there are no components, nothing is charged
    none_charged : (m : ℕ) → C walk.part.node m ≡ 0 → T s m ≡ 0
    none_charged m e =
        let L = labels_from 1 m in
        let r = room_of p.universe m in
        let k = number_known p q f (site_node p s) m L r in
        let t = total_known p q f s m walk.there L r in
        sym (t.each k.exists.0 k.exists.1) ∙ nothing_sums (weight p q f s) k.exists.0 (k.each k.exists.0 k.exists.1 ∙ ap (λ x. number p q f x m) walk.node ∙ e)

    none_empty : C walk.part.node 0 ≡ 0
    none_empty = component_none p q f (site_node p i) walk.low walk.kind walk.part walk.high walk.shape

    -- the body charges its weight on each component
    body_charges : (t : Tree) → Member p walk.part.node t → BodyCharges (Charges p) walk.body (t ∷ []) (weight p q f s t)
    body_charges t m =
        let c = weight_charged p q f s walk.there t (subst (λ x. Member p x t) (sym walk.node) m) in
        let e : c.0 ≡ of_body walk.body = second_one (works_of p) (sites_are_apart p q) s c.0 (of_body walk.body) c.1 walk.inner in
        subst (λ (w : Work). WorkCharges p w t (weight p q f s t)) e c.2

    summed : (m value : ℕ) → value ≡ T s m → SumsAt p walk.part.node (weight p q f s) m value
    summed m value e = subst (SumsAt p walk.part.node (weight p q f s) m) (sym e) (subst (λ x. SumsAt p x (weight p q f s) m (total p q f s m)) walk.node (total_known p q f s m walk.there))

    counted_at : (m value : ℕ) → value ≡ C walk.part.node m → CountsAt p walk.part.node m value
    counted_at m value e = subst (CountsAt p walk.part.node m) (sym e) (number_known p q f walk.part.node m)

    -- the total of the walk, over numbers that are right where they count
    walk_is : (n : ℕ) (a b : ℕ → ℕ) → a 0 ≡ 0 → b 0 ≡ 0 → ((m : ℕ) → m < n → a m ≡ C walk.part.node m) → ((m : ℕ) → m < n → b m ≡ T s m)
        → (IsWithin walk.low walk.high 1 → a n ≡ C walk.part.node n) → (IsWithin walk.low walk.high 1 → b n ≡ T s n) → IsTotal p i n (coll_total p.universe walk.kind a b walk.low walk.high n)
    walk_is n a b y z c t d u =
        walk_total p i n walk.body walk.kind walk.part walk.low walk.high (weight p q f s) a b walk.walk walk.shape (light p q f) (suits p q f (site_node p i) walk.low walk.kind walk.part walk.high walk.shape)
        (solid p q f (site_node p i) walk.low walk.kind walk.part walk.high walk.shape) body_charges y z
        (λ m g l. (counted_at m (a m) (c m l), summed m (b m) (t m l)))
        (λ o. (counted_at n (a n) (d o), summed n (b n) (u o)))

    -- the table of the collection, which has answered size n, the table of the walk, which is asked for it, and the entries of the tables
    module _ (n n_max : ℕ) (reached : n ≤ n_max) (tables : List (Option Asked)) (table : HasAsked p n_max tables (site_node p i) walk.low walk.kind walk.part walk.high (n + 1))
        (walks : List (Option AskedWalk)) (asks : HasAskedWalk p n_max walks i s walk n) (counts totals : List (List ℕ))
        (counts_reach : n < length (row_of counts walk.part.node)) (counted : (m : ℕ) → m < n → IsRight p counts walk.part.node m)
        (totals_reach : n < length (row_of totals s)) (below : (m : ℕ) → m < n → IsRightOf (IsTotal p) totals s m) (one : IsWithin walk.low walk.high 1 → IsRightOf (IsTotal p) totals s n)
        (here : ℕ) (alone_one : IsWithin walk.low walk.high 1 → here ≡ entry_of totals s n) (alone : (IsWithin walk.low walk.high 1 → ⊥) → here ≡ 0)
        (comp body : List ℕ) (comp_front : comp ≡ take n (row_of counts walk.part.node)) (body_front : body ≡ take n (row_of totals s)) where
      c : Asked
      c = table_at tables (site_node p i)

      w : AskedWalk
      w = walk_at walks i

      pub comp_long : length comp ≡ n
      comp_long = ap length comp_front ∙ length-take-le n (row_of counts walk.part.node) (omega (arith, counts_reach))

      body_long : length body ≡ n
      body_long = ap length body_front ∙ length-take-le n (row_of totals s) (omega (arith, totals_reach))

      comp_at : (m : ℕ) → m < n → slice_index comp m ≡ entry_of counts walk.part.node m
      comp_at m h = ap (λ (l : List ℕ). slice_index l m) comp_front ∙ get_or-take n (row_of counts walk.part.node) m 0 h

      body_at : (m : ℕ) → m < n → slice_index body m ≡ entry_of totals s m
      body_at m h = ap (λ (l : List ℕ). slice_index l m) body_front ∙ get_or-take n (row_of totals s) m 0 h

      comp_is : (m : ℕ) → m < n → slice_index comp m ≡ C walk.part.node m
      comp_is m h = comp_at m h ∙ is_count walk.part.node m (entry_of counts walk.part.node m) (counted m h).0

      body_is : (m : ℕ) → m < n → slice_index body m ≡ T s m
      body_is m h = body_at m h ∙ is_total s m (entry_of totals s m) walk.there (below m h).0

      comp_small : (m : ℕ) → slice_index comp m ≤ MAX
      comp_small m = ⊎_elim (λ h. omega (arith, comp_at m h, (counted m h).1)) (λ h. let z = beyond comp m (omega (arith, h, comp_long)) in omega (arith, z)) (lt_or_not m n)

      body_small : (m : ℕ) → slice_index body m ≤ MAX
      body_small m = ⊎_elim (λ h. omega (arith, body_at m h, (below m h).1)) (λ h. let z = beyond body m (omega (arith, h, body_long)) in omega (arith, z)) (lt_or_not m n)

      here_is : IsWithin walk.low walk.high 1 → here ≡ T s n
      here_is o = alone_one o ∙ is_total s n (entry_of totals s n) walk.there (one o).0

      here_small : here ≤ MAX
      here_small = ⊎_elim (λ o. omega (arith, alone_one o, (one o).1)) (λ o. omega (arith, alone o)) (within_or_not walk.low walk.high)

      here_empty : n ≡ 0 → here ≡ 0
      here_empty e = ⊎_elim (λ o. here_is o ∙ ap (T s) e ∙ none_charged 0 none_empty) (λ o. alone o) (within_or_not walk.low walk.high)

      body_empty : slice_index body 0 ≡ 0
      body_empty = ⊎_elim (λ h. body_is 0 h ∙ none_charged 0 none_empty) (λ h. beyond body 0 (omega (arith, h, body_long))) (lt_or_not 0 n)

      given_is : (m : ℕ) → m < n → slice_index c.given m ≡ C walk.part.node m
      unfolding c
      given_is m h = is_count walk.part.node m _ (table.asked.agrees m (omega (arith, h)))

      given_here : IsWithin walk.low walk.high 1 → slice_index c.given n ≡ C walk.part.node n
      unfolding c
      given_here o = is_count walk.part.node n _ (table.asked.last_agrees n (omega arith) o)

      given_long : length c.given ≡ n + 1
      unfolding c
      given_long = table.asked.calls_are

      given_alone : (IsWithin walk.low walk.high 1 → ⊥) → slice_index c.given n ≡ 0
      unfolding c
      given_alone o = table.asked.last_alone n (omega arith) o

      given_empty : slice_index c.given 0 ≡ 0
      given_empty = ⊎_elim (λ h. given_is 0 h ∙ none_empty) (λ h. at_zero (omega (arith, h))) (lt_or_not 0 n)
        where
          at_zero : n ≡ 0 → slice_index c.given 0 ≡ 0
          at_zero e = ⊎_elim (λ o. ap (slice_index c.given) (sym e) ∙ given_here o ∙ ap (C walk.part.node) e ∙ none_empty) (λ o. ap (slice_index c.given) (sym e) ∙ given_alone o) (within_or_not walk.low walk.high)

      own : comp ≡ take (length body) c.given
      own =
          let l : length (take (length body) c.given) ≡ length body = length-take-le (length body) c.given (omega (arith, given_long, body_long)) in
          same_list comp (take (length body) c.given) (comp_long ∙ sym body_long ∙ sym l)
          (λ m h. let g : m < n = omega (arith, h, comp_long) in comp_is m g ∙ sym (given_is m g) ∙ sym (get_or-take (length body) c.given m 0 (omega (arith, g, body_long))))

      -- where there are no components, nothing is charged
      idle : (m : ℕ) → slice_index c.given m ≡ 0 → numbers body here m ≡ 0
      idle m e = ⊎_elim
          (λ (h : m < n). front-at body here m (omega (arith, h, body_long)) ∙ body_is m h ∙ none_charged m (sym (given_is m h) ∙ e))
          (λ h. ⊎_elim
          (λ (g : n < m). past-at body here m (omega (arith, g, body_long)))
          (λ (g : n ≡ m). ⊎_elim
          (λ o. last-at body here m (body_long ∙ g) ∙ here_is o ∙ none_charged n (sym (given_here o) ∙ ap (slice_index c.given) g ∙ e))
          (λ o. last-at body here m (body_long ∙ g) ∙ alone o)
          (within_or_not walk.low walk.high))
          (le_or_eq n m h))
          (lt_or_not m n)

      within_is : (low : ℕ) (high : Option ℕ) → low ≡ walk.low → high ≡ walk.high → IsWithin low high 1 → IsWithin walk.low walk.high 1
      within_is low high a b o = subst (λ h. IsWithin walk.low h 1) b (subst (λ l. IsWithin l high 1) a o)

      within_for : (low : ℕ) (high : Option ℕ) → low ≡ walk.low → high ≡ walk.high → IsWithin walk.low walk.high 1 → IsWithin low high 1
      within_for low high a b o = subst (λ h. IsWithin low h 1) (sym b) (subst (λ l. IsWithin l walk.high 1) (sym a) o)

      next : GoesOnAs w.sums body here
      unfolding w
      next =
          let a = asks.asked in record {
            going = a.going;
            reached = omega (arith, reached, a.calls_are, a.n_max_is);
            sizes = body_long ∙ sym a.calls_are;
            none_empty = body_empty;
            small = body_small;
            here_small = here_small;
            here_empty = λ e. here_empty (sym body_long ∙ e);
            here_alone = λ o. alone (λ v. o (within_for w.sums.low w.sums.high a.low_is a.high_is v));
            agree = λ m h. body_is m (omega (arith, h, body_long)) ∙ sym (is_total s m _ walk.there (a.agrees m (omega (arith, h, body_long))));
            last_agrees = λ m h o. body_is m (omega (arith, h, body_long)) ∙ sym (is_total s m _ walk.there (a.last_agrees m (h ∙ body_long) (within_is w.sums.low w.sums.high a.low_is a.high_is o)));
          }

      pub goes_with : GoesWithAs (table_at tables (site_node p i)) (walk_at walks i) comp body here
      unfolding c w
      goes_with =
          let t = table.asked in
          let a = asks.asked in record {
            form = t.form_is ∙ sym a.form_is;
            kind = t.kind_is ∙ sym a.kind_is;
            low = t.low_is ∙ sym a.low_is;
            high = t.high_is ∙ sym a.high_is;
            n_max = t.n_max_is ∙ sym a.n_max_is;
            going = t.going;
            counted = omega (arith, t.calls_are, body_long);
            given = own;
            small = comp_small;
            agree = λ m h. comp_is m (omega (arith, h, comp_long)) ∙ sym (is_count walk.part.node m _ (a.counts_agree m (omega (arith, h, comp_long))));
            last_agrees = λ e m h o. comp_is m (omega (arith, h, comp_long)) ∙ sym (is_count walk.part.node m _ (a.counts_last (sym t.form_is ∙ e) m (h ∙ comp_long) (within_is c.low c.high t.low_is t.high_is o)));
            next = next;
            idle = idle;
          }

      -- the answer is the total of the walk
      pub number_is : (value : ℕ) → value ≡ capped (total_asked (table_at tables (site_node p i)) body here) → NumbersTo (IsTotal p) i n value
      unfolding c
      number_is value v =
          let t = table.asked in
          let e : total_asked c body here ≡ coll_total p.universe walk.kind (slice_index c.given) (numbers body here) walk.low walk.high n =
          ap (λ u. coll_total u c.kind (slice_index c.given) (numbers body here) c.low c.high (length body)) t.universe_is
          ∙ ap (λ k. coll_total p.universe k (slice_index c.given) (numbers body here) c.low c.high (length body)) t.kind_is
          ∙ ap (λ l. coll_total p.universe walk.kind (slice_index c.given) (numbers body here) l c.high (length body)) t.low_is
          ∙ ap (λ h. coll_total p.universe walk.kind (slice_index c.given) (numbers body here) walk.low h (length body)) t.high_is
          ∙ ap (λ l. coll_total p.universe walk.kind (slice_index c.given) (numbers body here) walk.low walk.high l) body_long in
          record {
            number = coll_total p.universe walk.kind (slice_index c.given) (numbers body here) walk.low walk.high n;
            is_number = walk_is n (slice_index c.given) (numbers body here) given_empty (starts_empty body here body_empty (λ l. here_empty (sym body_long ∙ l))) given_is
                (λ m h. front-at body here m (omega (arith, h, body_long)) ∙ body_is m h) given_here (λ o. last-at body here n body_long ∙ here_is o);
            marked = v ∙ ap capped e;
          }

      -- and the table has been asked once more
      after : (value : ℕ) (new : AskedWalk) → value ≤ MAX → KeepsCounts (table_at tables (site_node p i)) comp new.counts → new.sums ≡ asked_more (walk_at walks i).sums body here value → IsAskedWalk p i s walk n_max (n + 1) new
      unfolding c w
      after value new small keeps sums =
          let a = asks.asked in
          let given : new.sums.given ≡ body ++ here ∷ [] = ap (λ (x : Asked). x.given) sums in
          record {
            form_is = ap (λ (x : Asked). x.form) sums ∙ a.form_is;
            kind_is = ap (λ (x : Asked). x.kind) sums ∙ a.kind_is;
            low_is = ap (λ (x : Asked). x.low) sums ∙ a.low_is;
            high_is = ap (λ (x : Asked). x.high) sums ∙ a.high_is;
            n_max_is = ap (λ (x : Asked). x.n_max) sums ∙ a.n_max_is;
            going = ap (λ (x : Asked). x.over) sums ∙ not_more value small;
            calls_are = ap length given ∙ long-more body here ∙ ap (λ l. l + 1) body_long;
            agrees = λ m h. total_for s m _ walk.there (ap (λ (l : List ℕ). slice_index l m) given ∙ front-at body here m (omega (arith, h, body_long)) ∙ body_is m (omega (arith, h)));
            last_agrees = λ m h o. let g : m ≡ n = omega (arith, h) in
                total_for s m _ walk.there (ap (λ (l : List ℕ). slice_index l m) given ∙ last-at body here m (body_long ∙ sym g) ∙ here_is o ∙ ap (T s) (sym g));
            counts_agree = λ m h. count_for walk.part.node m _ (keeps.below m (omega (arith, h, comp_long)) ∙ comp_is m (omega (arith, h)));
            counts_last = λ e m h o. let g : m ≡ length comp = omega (arith, h, comp_long) in
                count_for walk.part.node m _ (ap (slice_index new.counts) g ∙ keeps.last (table.asked.form_is ∙ e) ∙ ap (slice_index c.given) comp_long ∙ given_here o ∙ ap (C walk.part.node) (omega (arith, h)));
          }

      pub asked_next : (new : List (Option AskedWalk)) (value : ℕ) (now : AskedWalk) → slice_get new i ≡ Some (Some now) → value ≤ MAX → KeepsCounts (table_at tables (site_node p i)) comp now.counts
          → now.sums ≡ asked_more (walk_at walks i).sums body here value → HasAskedWalk p n_max new i s walk (n + 1)
      asked_next new value now e small keeps sums = record {
        there = has_walk new i now e;
        asked = subst (IsAskedWalk p i s walk n_max (n + 1)) (sym (walk_table_is new i now e)) (after value now small keeps sums);
      }

-- a table that has not been asked
pub walk_start : (p : Program) (i s : ℕ) (walk : IsWalk p i s) (n_max : ℕ) (tables : List (Option Asked)) (walks : List (Option AskedWalk)) → HasAsked p n_max tables (site_node p i) walk.low walk.kind walk.part walk.high 0
    → slice_get walks i ≡ Some (Some (unasked_walk (table_at tables (site_node p i)))) → HasAskedWalk p n_max walks i s walk 0
walk_start p i s walk n_max tables walks t e =
    let c = table_at tables (site_node p i) in record {
      there = has_walk walks i (unasked_walk c) e;
      asked = subst (IsAskedWalk p i s walk n_max 0) (sym (walk_table_is walks i (unasked_walk c) e)) (record {
        form_is = t.asked.form_is;
        kind_is = t.asked.kind_is;
        low_is = t.asked.low_is;
        high_is = t.asked.high_is;
        n_max_is = t.asked.n_max_is;
        going = refl;
        calls_are = refl;
        agrees = λ m h. absurd (omega (arith, h));
        last_agrees = λ m h. absurd (omega (arith, h));
        counts_agree = λ m h. absurd (omega (arith, h));
        counts_last = λ e m h. absurd (omega (arith, h));
      });
    }
