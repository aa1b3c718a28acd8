-- From each definition of a source without breach, going from a name to its definition ends.
use Rattle.std.proofs.Common.{◌≡◌, ℕ, zero, suc, ◌+◌, ◌<◌, ◌≤◌, ◌⊎◌, List, [], ◌∷◌, ◌++◌, length, Option, Some, None, refl, sym, ap, ◌∙◌, subst, inl, inr, arith, length-append}
use Rattle.std.specs.Prelude.{Bool, true, false, if◌then◌else◌, nat_eq}
use Rattle.std.specs.Option.{option_map}
use Rattle.std.proofs.lemmas.Bool.{eq-eqb}
use Rattle.luo_finite.specs.Listing.{In, NoDouble}
use Rattle.luo_finite.specs.Range.{below}
use Rattle.luo_finite.proofs.Membership.{around, In-without}
use Rattle.luo_finite.proofs.Ranges.{In-below, length-below}
use Rattle.luo_rules.specs.declared.names.Meaning.{Meaning}
use Rattle.luo_rules.specs.Definitions.{Definition, or_by, next, first_node, name_of}
use Rattle.luo_rules.specs.inner.Naming.{node_within, way_within}
use Rattle.luo_rules.proofs.Lists.{some_same, none_some}

-- as many elements as there are to be had, at most
sub_length : (xs ys : List ℕ) → NoDouble xs → ((x : ℕ) → In x xs → In x ys) → length xs ≤ length ys
sub_length [] ys single h = omega arith
sub_length (x ∷ xs) ys single h =
    let a = around x ys (h x (inl refl)) in
    let rest = sub_length xs (a.before ++ a.after) single.1
    (λ z i. In-without x z a.before a.after (subst (In z) a.is (h z (inr i))) (λ e. single.0 (subst (λ w. In w xs) e i))) in
    omega (arith, rest, ap length a.is, length-append a.before a.after, length-append a.before (x ∷ a.after))

pub few_below : (n : ℕ) (xs : List ℕ) → NoDouble xs → ((x : ℕ) → In x xs → x < n) → length xs ≤ n
few_below n xs single h = omega (arith, sub_length xs (below n) single (λ x i. In-below n x (h x i)), length-below n)

module _ (names : List (List ℕ × Meaning)) (defs : List Definition) where
  -- the definition that so many steps lead to
  abbrev pub after : ℕ → ℕ → Option ℕ
  after zero i = Some i
  after (suc k) i = or_by (next names defs i) (after k) None

  -- going from names to definitions ends, within so many definitions
  abbrev pub EndsBy : ℕ → ℕ → Type 0
  EndsBy zero i = ⊥
  EndsBy (suc k) i = (next names defs i ≡ None) ⊎ ((j : ℕ) × (next names defs i ≡ Some j) × EndsBy k j)

  after_more : (k h i j : ℕ) → after k h ≡ Some i → next names defs i ≡ Some j → after (suc k) h ≡ Some j
  after_more zero h i j e n = ap (λ o. or_by o (after zero) None) (ap (next names defs) (some_same h i e) ∙ n)
  after_more (suc k) h i j e n = by (λ g e. after_more k g i j e n) (next names defs h) e
    where
      by : ((g : ℕ) → after k g ≡ Some i → after (suc k) g ≡ Some j) → (o : Option ℕ) → or_by o (after k) None ≡ Some i → or_by o (after (suc k)) None ≡ Some j
      by on None e = absurd (none_some i e)
      by on (Some g) e = on g e

  no_more : (j : ℕ) (o : Option (List (List ℕ))) → option_map (λ way. name_of defs j ∷ way) o ≡ None → o ≡ None
  no_more j None e = refl
  no_more j (Some w) e = absurd (cc)

  not_home : (home j : ℕ) (way : Option (List (List ℕ))) (b : Bool) → nat_eq j home ≡ b → (if b then Some (name_of defs home ∷ []) else option_map (λ way. name_of defs j ∷ way) way) ≡ None → (way ≡ None) × (nat_eq j home ≡ false)
  not_home home j way true t e = absurd (cc)
  not_home home j way false t e = (no_more j way e, t)

  -- where no way leads home, no such number of steps does
  pub no_way : (home s i k : ℕ) → way_within names defs home s i ≡ None → k < s → after (suc k) i ≡ Some home → ⊥
  no_way home zero i k none l e = absurd (omega arith)
  no_way home (suc s) i k none l e = by (λ j m none l e. no_way home s j m none l e) (next names defs i) k none l e
    where
      by : ((j m : ℕ) → way_within names defs home s j ≡ None → m < s → after (suc m) j ≡ Some home → ⊥) → (o : Option ℕ) (k : ℕ)
          → or_by o (λ j. if nat_eq j home then Some (name_of defs home ∷ []) else option_map (λ way. name_of defs j ∷ way) (way_within names defs home s j)) None ≡ None
          → k < suc s → or_by o (after k) None ≡ Some home → ⊥
      by on None k none l e = none_some home e
      by on (Some j) zero none l e =
          let t = not_home home j (way_within names defs home s j) (nat_eq j home) refl none in
          let yes : nat_eq j home ≡ true = eq-eqb j home (some_same j home e) in
          absurd (cc)
      by on (Some j) (suc m) none l e = on j m (not_home home j (way_within names defs home s j) (nat_eq j home) refl none).0 (omega arith) e

  -- what is no way, for all definitions
  abbrev pub NoWays : Type 0
  NoWays = (i k : ℕ) → i < length defs → k < length defs → after (suc k) i ≡ Some i → ⊥

  abbrev pub NextsThere : Type 0
  NextsThere = (i j : ℕ) → next names defs i ≡ Some j → j < length defs

  -- from definition i, to which those seen lead
  record Seen (seen : List ℕ) (i : ℕ) : Type 0 where
    pub here : i < length defs
    pub single : NoDouble (i ∷ seen)
    pub small : (h : ℕ) → In h seen → h < length defs
    pub leads : (h : ℕ) → In h seen → (k : ℕ) × (k < length seen) × (after (suc k) h ≡ Some i)

  seen_small : (seen : List ℕ) (i : ℕ) → Seen seen i → (h : ℕ) → In h (i ∷ seen) → h < length defs
  seen_small seen i v h (inl e) = subst (λ z. z < length defs) (sym e) v.here
  seen_small seen i v h (inr m) = v.small h m

  seen_few : (seen : List ℕ) (i : ℕ) → Seen seen i → suc (length seen) ≤ length defs
  seen_few seen i v = few_below (length defs) (i ∷ seen) v.single (seen_small seen i v)

  seen_leads : (seen : List ℕ) (i j : ℕ) → Seen seen i → next names defs i ≡ Some j → (h : ℕ) → In h (i ∷ seen) → (k : ℕ) × (k < suc (length seen)) × (after (suc k) h ≡ Some j)
  seen_leads seen i j v n h (inl e) = (0, omega arith, ap (λ z. after 1 z) e ∙ ap (λ o. or_by o (after zero) None) n)
  seen_leads seen i j v n h (inr m) = let l = v.leads h m in (suc l.0, omega (arith, l.1), after_more (suc l.0) h i j l.2 n)

  seen_more : NoWays → NextsThere → (seen : List ℕ) (i j : ℕ) → Seen seen i → next names defs i ≡ Some j → Seen (i ∷ seen) j
  seen_more none there seen i j v n = record {
    here = there i j n;
    single = (λ m. let l = seen_leads seen i j v n j m in none j l.0 (there i j n) (omega (arith, l.1, seen_few seen i v)) l.2, v.single);
    small = seen_small seen i v;
    leads = seen_leads seen i j v n;
  }

  ends : NoWays → NextsThere → (fuel : ℕ) (seen : List ℕ) (i : ℕ) → length seen + fuel ≡ length defs → Seen seen i → EndsBy fuel i
  ends none there zero seen i long v = absurd (omega (arith, seen_few seen i v))
  ends none there (suc fuel) seen i long v = by (λ j n. ends none there fuel (i ∷ seen) j (omega arith) (seen_more none there seen i j v n)) (next names defs i) refl
    where
      by : ((j : ℕ) → next names defs i ≡ Some j → EndsBy fuel j) → (o : Option ℕ) → next names defs i ≡ o → EndsBy (suc fuel) i
      by on None e = inl e
      by on (Some j) e = inr (j, e, on j e)

  pub ends_by : NoWays → NextsThere → (i : ℕ) → i < length defs → EndsBy (length defs) i
  ends_by none there i l = ends none there (length defs) [] i (omega arith) (record { here = l; single = ((λ m. m), tt); small = λ h m. absurd m; leads = λ h m. absurd m })

  -- more steps make no difference
  pub node_same : (k s t i : ℕ) → EndsBy k i → k ≤ s → k ≤ t → node_within names defs s i ≡ node_within names defs t i
  node_same zero s t i e l m = absurd e
  node_same (suc k) zero t i e l m = absurd (omega arith)
  node_same (suc k) (suc s) zero i e l m = absurd (omega arith)
  node_same (suc k) (suc s) (suc t) i (inl e) l m =
      let left : node_within names defs (suc s) i ≡ first_node defs i = ap (λ o. or_by o (node_within names defs s) (first_node defs i)) e in
      let right : node_within names defs (suc t) i ≡ first_node defs i = ap (λ o. or_by o (node_within names defs t) (first_node defs i)) e in
      left ∙ sym right
  node_same (suc k) (suc s) (suc t) i (inr e) l m =
      let left : node_within names defs (suc s) i ≡ node_within names defs s e.0 = ap (λ o. or_by o (node_within names defs s) (first_node defs i)) e.1 in
      let right : node_within names defs (suc t) i ≡ node_within names defs t e.0 = ap (λ o. or_by o (node_within names defs t) (first_node defs i)) e.1 in
      left ∙ (node_same k s t e.0 e.2 (omega arith) (omega arith) ∙ sym right)
