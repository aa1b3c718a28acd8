-- What calls may be given, and how the numbers that were given go on.
use Rattle.std.proofs.Common.{◌≡◌, ℕ, zero, suc, ◌+◌, ◌≤◌, ◌<◌, ◌⊎◌, inl, inr, false, List, [], ◌∷◌, ◌++◌, Option, Some, None, length, take, slice_index, slice_set, refl, sym, ◌∙◌, ap, subst, arith}
use Rattle.std.proofs.lemmas.List.{get_or-take, get_or_append_left, get_or_at, get_or_past, get_or_default, get_or-set_same, get_or-set_other, length-append, length-take-le, same_lists}
use Rattle.luo_num.specs.declared.TheConstants.{MAX}
use Rattle.luo_model.specs.Member.{IsWithin}
use Rattle.luo_labelled.specs.Calls as labelled
use Rattle.luo_unlabelled.specs.Calls as unlabelled
use Rattle.luo_numbers.specs.Given.{AreComponents, AreGiven, AreKept, AreAlike, AreSame}

-- one component is within the bounds or not
within_or : (low : ℕ) (high : Option ℕ) → IsWithin low high 1 ⊎ (IsWithin low high 1 → ⊥)
within_or low None = by (two low)
  where
    two : (low : ℕ) → (low ≤ 1) ⊎ (1 < low)
    two low = grind arith

    by : (low ≤ 1) ⊎ (1 < low) → (low ≤ 1) ⊎ (low ≤ 1 → ⊥)
    by (inl h) = inl h
    by (inr h) = inr (λ w. absurd (omega (arith, h, w)))
within_or low (Some high) = by (two low high)
  where
    two : (low high : ℕ) → ((low ≤ 1) × (1 ≤ high)) ⊎ ((1 < low) ⊎ (high < 1))
    two low high = grind arith

    by : ((low ≤ 1) × (1 ≤ high)) ⊎ ((1 < low) ⊎ (high < 1)) → ((low ≤ 1) × (1 ≤ high)) ⊎ ((low ≤ 1) × (1 ≤ high) → ⊥)
    by (inl h) = inl h
    by (inr (inl h)) = inr (λ w. absurd (omega (arith, h, w.0)))
    by (inr (inr h)) = inr (λ w. absurd (omega (arith, h, w.1)))

-- the numbers below a size, read
below_at : (comp : List ℕ) (n m : ℕ) → m < n → slice_index (take n comp) m ≡ slice_index comp m
below_at comp n m h = get_or-take n comp m 0 h

-- and behind them none is read
read_small : (comp : List ℕ) (n m : ℕ) → n ≤ length comp → ((i : ℕ) → slice_index comp i ≤ MAX) → slice_index (take n comp) m ≤ MAX
read_small comp n m l s = by (two n m)
  where
    two : (n m : ℕ) → (m < n) ⊎ (n ≤ m)
    two n m = grind arith

    by : (m < n) ⊎ (n ≤ m) → slice_index (take n comp) m ≤ MAX
    by (inl h) = subst (λ x. x ≤ MAX) (sym (below_at comp n m h)) (s m)
    by (inr h) = subst (λ x. x ≤ MAX) (sym (get_or_past (take n comp) m 0 (omega (arith, h, length-take-le n comp l)))) (omega arith)

starts : (comp : List ℕ) (n : ℕ) → slice_index comp 0 ≡ 0 → slice_index (take n comp) 0 ≡ 0
starts comp zero z = refl
starts comp (suc n) z = below_at comp (suc n) 0 (omega arith) ∙ z

-- the numbers of a call, read
call_below : (comp : List ℕ) (n here m : ℕ) → n ≤ length comp → m < n → slice_index (take n comp ++ here ∷ []) m ≡ slice_index comp m
call_below comp n here m l h = get_or_append_left (take n comp) (here ∷ []) 0 m (omega (arith, h, length-take-le n comp l)) ∙ below_at comp n m h

call_here : (comp : List ℕ) (n here : ℕ) → n ≤ length comp → slice_index (take n comp ++ here ∷ []) n ≡ here
call_here comp n here l = get_or_at (take n comp) here [] 0 n (length-take-le n comp l)

call_length : (comp : List ℕ) (n here : ℕ) → n ≤ length comp → length (take n comp ++ here ∷ []) ≡ suc n
call_length comp n here l = let e : length (take n comp ++ here ∷ []) ≡ length (take n comp) + 1 = length-append (take n comp) (here ∷ []) in omega (arith, e, length-take-le n comp l)

-- the numbers that were given, with those of one call more
pub given_more : (low : ℕ) (high : Option ℕ) (comp given : List ℕ) (n here : ℕ) → n ≤ length comp → given ≡ take n comp ++ here ∷ [] → (IsWithin low high 1 → here ≡ slice_index comp n) → AreGiven low high comp (n + 1) given
given_more low high comp given n here l e w = record {
  sizes = ap length e ∙ call_length comp n here l ∙ (let s : suc n ≡ n + 1 = omega arith in s);
  earlier = λ m h. ap (λ (g : List ℕ). slice_index g m) e ∙ call_below comp n here m l (omega (arith, h));
  last = λ m h i. let s : m ≡ n = omega (arith, h) in
      ap (slice_index given) s ∙ ap (λ (g : List ℕ). slice_index g n) e ∙ call_here comp n here l ∙ w i ∙ ap (slice_index comp) (sym s);
}

-- numbers that were given stay so where later ones are written
pub given_kept : (low : ℕ) (high : Option ℕ) (old new given : List ℕ) (n : ℕ) → ((m : ℕ) → m ≤ n → slice_index new m ≡ slice_index old m) → AreGiven low high old (n + 1) given → AreGiven low high new (n + 1) given
given_kept low high old new given n k g = record {
  sizes = g.sizes;
  earlier = λ m h. g.earlier m h ∙ sym (k m (omega (arith, h)));
  last = λ m h w. g.last m h w ∙ sym (k m (omega (arith, h)));
}

pub none_given : (low : ℕ) (high : Option ℕ) (comp given : List ℕ) → given ≡ [] → AreGiven low high comp 0 given
none_given low high comp given e = record {
  sizes = ap length e;
  earlier = λ m h. absurd (omega (arith, h));
  last = λ m h w. absurd (omega (arith, h));
}

-- numbers of components with one more
pub components_more : (comp : List ℕ) (n number : ℕ) → AreComponents comp → n + 1 < length comp → number ≤ MAX → AreComponents (slice_set comp (n + 1) number)
components_more comp n number a l s = record {
  none_empty = get_or-set_other comp (n + 1) 0 number 0 (λ e. absurd (omega (arith, e))) ∙ a.none_empty;
  small = λ m. by m (two m);
}
  where
    two : (m : ℕ) → (m ≡ n + 1) ⊎ (m ≡ n + 1 → ⊥)
    two m = grind arith

    by : (m : ℕ) → (m ≡ n + 1) ⊎ (m ≡ n + 1 → ⊥) → slice_index (slice_set comp (n + 1) number) m ≤ MAX
    by m (inl e) = subst (λ x. x ≤ MAX) (sym (ap (slice_index (slice_set comp (n + 1) number)) e ∙ get_or-set_same comp (n + 1) number 0 l)) s
    by m (inr e) = subst (λ x. x ≤ MAX) (sym (get_or-set_other comp (n + 1) m number 0 e)) (a.small m)

-- a chain may be given the numbers below and that of the size at hand
pub chain_goes_on : (t : labelled.Calls) (low : ℕ) (high : Option ℕ) (comp : List ℕ) (n here : ℕ) → t.low ≡ low → t.high ≡ high → AreComponents comp → n < length comp → n ≤ t.n_max → here ≤ slice_index comp n → AreGiven low high comp n t.given
    → labelled.GoesOn t (take n comp) here
chain_goes_on t low high comp n here el eh a l r s g = record {
  reached = omega (arith, r, g.sizes);
  sizes = length-take-le n comp (omega (arith, l)) ∙ sym g.sizes;
  none_empty = starts comp n a.none_empty;
  here_empty = λ e. let z : n ≡ 0 = sym (length-take-le n comp (omega (arith, l))) ∙ e in omega (arith, s, ap (slice_index comp) z, a.none_empty);
  agrees = record {
    earlier = λ m h. below_at comp n m (omega (arith, h, length-take-le n comp (omega (arith, l)))) ∙ sym (g.earlier m (omega (arith, h, length-take-le n comp (omega (arith, l)))));
    last = λ m h w. below_at comp n m (omega (arith, h, length-take-le n comp (omega (arith, l))))
        ∙ sym (g.last m (h ∙ length-take-le n comp (omega (arith, l))) (subst (λ x. IsWithin x high 1) el (subst (λ (x : Option ℕ). IsWithin t.low x 1) eh w)));
  };
}

-- a chain with an answer for size n, and a walk over it with none: the walk may be given the same numbers, each component charged once
pub walk_goes_on : (t : labelled.Calls) (w : labelled.WalkCalls) (low : ℕ) (high : Option ℕ) (comp : List ℕ) (n here : ℕ) → AreAlike t w.sums → t.low ≡ low → t.high ≡ high → AreComponents comp → n < length comp → n ≤ t.n_max → here ≤ slice_index comp n
    → AreGiven low high comp (n + 1) t.given → AreGiven low high comp n w.counts → AreGiven low high comp n w.sums.given → labelled.IsNext t w (take n comp) (take n comp) here
walk_goes_on t w low high comp n here k el eh a l r s g c b =
    let long : length (take n comp) ≡ n = length-take-le n comp (omega (arith, l)) in
    record {
      same_kind = k.kind;
      same_low = k.low;
      same_high = k.high;
      same_n_max = k.n_max;
      answered = g.sizes ∙ (let q : n + 1 ≡ suc n = omega arith in q) ∙ ap suc (sym long);
      sizes = refl;
      its_own = λ m h. below_at comp n m (omega (arith, h, long)) ∙ sym (g.earlier m (omega (arith, h, long)));
      counts_agree = record {
        earlier = λ m h. below_at comp n m (omega (arith, h, long)) ∙ sym (c.earlier m (omega (arith, h, long)));
        last = λ m h i. below_at comp n m (omega (arith, h, long)) ∙ sym (c.last m (h ∙ long) (subst (λ x. IsWithin x high 1) el (subst (λ (x : Option ℕ). IsWithin t.low x 1) eh i)));
      };
      goes_on = chain_goes_on w.sums low high comp n here (sym k.low ∙ el) (sym k.high ∙ eh) a l (omega (arith, r, k.n_max)) s b;
    }

-- the number of components of the size at hand that the chain was given is kept
pub counts_more : (low : ℕ) (high : Option ℕ) (comp given kept : List ℕ) (n : ℕ) → n < length comp → AreGiven low high comp (n + 1) given → kept ≡ take n comp ++ slice_index given (length (take n comp)) ∷ [] → AreGiven low high comp (n + 1) kept
counts_more low high comp given kept n l g e =
    let long : length (take n comp) ≡ n = length-take-le n comp (omega (arith, l)) in
    given_more low high comp kept n (slice_index given (length (take n comp))) (omega (arith, l)) e (λ w. ap (slice_index given) long ∙ g.last n (let q : suc n ≡ n + 1 = omega arith in q) w)

-- a table of unlabelled collections may be given the numbers below and that of the size at hand
pub table_goes_on : (t : unlabelled.Calls) (low : ℕ) (high : Option ℕ) (comp : List ℕ) (n here : ℕ) → t.over ≡ false → t.low ≡ low → t.high ≡ high → AreComponents comp → n < length comp → n ≤ t.n_max → here ≤ slice_index comp n
    → ((IsWithin low high 1 → ⊥) → here ≡ 0) → AreGiven low high comp n t.given → unlabelled.GoesOn t (take n comp) here
table_goes_on t low high comp n here o el eh a l r s z g =
    let long : length (take n comp) ≡ n = length-take-le n comp (omega (arith, l)) in
    record {
      going = o;
      reached = omega (arith, r, g.sizes);
      sizes = long ∙ sym g.sizes;
      none_empty = starts comp n a.none_empty;
      small = λ m. read_small comp n m (omega (arith, l)) a.small;
      here_small = omega (arith, s, a.small n);
      here_empty = λ e. let y : n ≡ 0 = sym long ∙ e in omega (arith, s, ap (slice_index comp) y, a.none_empty);
      here_alone = λ w. z (λ i. w (subst (λ x. IsWithin x t.high 1) (sym el) (subst (λ (x : Option ℕ). IsWithin low x 1) (sym eh) i)));
      agree = λ m h. below_at comp n m (omega (arith, h, long)) ∙ sym (g.earlier m (omega (arith, h, long)));
      last_agrees = λ m h w. below_at comp n m (omega (arith, h, long)) ∙ sym (g.last m (h ∙ long) (subst (λ x. IsWithin x high 1) el (subst (λ (x : Option ℕ). IsWithin t.low x 1) eh w)));
    }

-- with no component counted none is charged
idle : (low : ℕ) (high : Option ℕ) (comp given : List ℕ) (n here m : ℕ) → n < length comp → (IsWithin low high 1 → here ≡ slice_index comp n) → ((IsWithin low high 1 → ⊥) → here ≡ 0) → AreGiven low high comp (n + 1) given → slice_index given m ≡ 0 → slice_index (take n comp ++ here ∷ []) m ≡ 0
idle low high comp given n here m l w z g e = by (three m n)
  where
    three : (m n : ℕ) → (m < n) ⊎ ((m ≡ n) ⊎ (n < m))
    three m n = grind arith

    at_last : IsWithin low high 1 ⊎ (IsWithin low high 1 → ⊥) → m ≡ n → here ≡ 0
    at_last (inl i) q = w i ∙ ap (slice_index comp) (sym q) ∙ sym (g.last m (omega (arith, q)) i) ∙ e
    at_last (inr i) q = z i

    by : (m < n) ⊎ ((m ≡ n) ⊎ (n < m)) → slice_index (take n comp ++ here ∷ []) m ≡ 0
    by (inl h) = call_below comp n here m (omega (arith, l)) h ∙ sym (g.earlier m (omega (arith, h))) ∙ e
    by (inr (inl q)) = ap (slice_index (take n comp ++ here ∷ [])) q ∙ call_here comp n here (omega (arith, l)) ∙ at_last (within_or low high) q
    by (inr (inr h)) = get_or_past (take n comp ++ here ∷ []) m 0 (omega (arith, h, call_length comp n here (omega (arith, l))))

-- a table with an answer for size n, and a walk over it with none
pub walk_goes_with : (t : unlabelled.Calls) (w : unlabelled.Walk) (low : ℕ) (high : Option ℕ) (comp : List ℕ) (n here : ℕ) → AreSame t w.calls → t.over ≡ false → w.calls.over ≡ false → t.low ≡ low → t.high ≡ high → AreComponents comp → n < length comp → n ≤ t.n_max
    → here ≤ slice_index comp n → (IsWithin low high 1 → here ≡ slice_index comp n) → ((IsWithin low high 1 → ⊥) → here ≡ 0) → AreGiven low high comp (n + 1) t.given → AreKept comp n w.comp → AreGiven low high comp n w.calls.given
    → unlabelled.GoesWith t w (take n comp) (take n comp) here
walk_goes_with t w low high comp n here k o p el eh a l r s i z g c b =
    let long : length (take n comp) ≡ n = length-take-le n comp (omega (arith, l)) in
    let deep : length (take n t.given) ≡ n = length-take-le n t.given (omega (arith, g.sizes)) in
    let same : take n comp ≡ take n t.given =
    same_lists (take n comp) (take n t.given) (long ∙ sym deep)
    (λ m d h. get_or-take n comp m d (omega (arith, h, long)) ∙ get_or_default comp m d 0 (omega (arith, h, long, l)) ∙ sym (g.earlier m (omega (arith, h, long))) ∙ get_or_default t.given m 0 d (omega (arith, h, long, g.sizes))
    ∙ sym (get_or-take n t.given m d (omega (arith, h, long)))) in
    record {
      kind = k.kind;
      low = k.low;
      high = k.high;
      n_max = k.n_max;
      going = o;
      counted = g.sizes ∙ (let q : n + 1 ≡ suc n = omega arith in q) ∙ ap suc (sym long);
      given = same ∙ ap (λ x. take x t.given) (sym long);
      small = λ m. read_small comp n m (omega (arith, l)) a.small;
      agree = λ m h. below_at comp n m (omega (arith, h, long)) ∙ sym (c.earlier m (omega (arith, h, long)));
      next = table_goes_on w.calls low high comp n here p (sym k.low ∙ el) (sym k.high ∙ eh) a l (omega (arith, r, k.n_max)) s z b;
      idle = λ m e. idle low high comp t.given n here m l i z g e;
    }

pub kept_more : (comp kept : List ℕ) (n : ℕ) → kept ≡ take n comp → AreKept comp (n + 1) kept
kept_more comp kept n e = record {
  earlier = λ m h. ap (λ (g : List ℕ). slice_index g m) e ∙ below_at comp n m (omega (arith, h));
}

pub kept_kept : (old new kept : List ℕ) (n : ℕ) → ((m : ℕ) → m ≤ n → slice_index new m ≡ slice_index old m) → AreKept old (n + 1) kept → AreKept new (n + 1) kept
kept_kept old new kept n k c = record {
  earlier = λ m h. c.earlier m h ∙ sym (k m (omega (arith, h)));
}

-- a table and a walk stay for the same collections
pub alike_now : (old new walk next : labelled.Calls) → AreAlike old walk → AreAlike old new → AreAlike walk next → AreAlike new next
alike_now old new walk next a b c = record {
  kind = sym b.kind ∙ a.kind ∙ c.kind;
  low = sym b.low ∙ a.low ∙ c.low;
  high = sym b.high ∙ a.high ∙ c.high;
  n_max = sym b.n_max ∙ a.n_max ∙ c.n_max;
}

pub same_now : (old new walk next : unlabelled.Calls) → AreSame old walk → AreSame old new → AreSame walk next → AreSame new next
same_now old new walk next a b c = record {
  kind = sym b.kind ∙ a.kind ∙ c.kind;
  low = sym b.low ∙ a.low ∙ c.low;
  high = sym b.high ∙ a.high ∙ c.high;
  n_max = sym b.n_max ∙ a.n_max ∙ c.n_max;
}
