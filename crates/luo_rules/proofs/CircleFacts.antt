-- Chains of names from definition to definition, and what is found by steps.
use Rattle.std.proofs.Common.{◌≡◌, ℕ, zero, suc, ◌+◌, ◌<◌, ◌≤◌, ◌⊎◌, List, [], ◌∷◌, ◌++◌, map, length, Option, Some, None, slice_get, refl, sym, ap, ◌∙◌, subst, inl, inr, arith}
use Rattle.std.specs.Prelude.{Bool, true, false, if◌then◌else◌, nat_eq}
use Rattle.std.specs.Option.{option_map}
use Rattle.std.proofs.lemmas.Bool.{eq-eqb, eqb-true}
use Rattle.luo_finite.specs.Listing.{In, NoDouble}
use Rattle.luo_source.specs.declared.names.Name.{Name}
use Rattle.luo_rules.specs.declared.names.Meaning.{Meaning}
use Rattle.luo_rules.specs.Definitions.{Definition, or_by, named_at, next, first_node, name_of}
use Rattle.luo_rules.specs.inner.Naming.{node_within, node_of, way_within, circle}
use Rattle.luo_rules.specs.Circles.{Leads, EndsAt, IsCircle, IsFirstCircle}
use Rattle.luo_rules.specs.TypeBreaches.{first_circle, first_some}
use Rattle.luo_rules.proofs.Lists.{some_same, none_some}
use Rattle.luo_rules.proofs.NamingFacts.{few_below}

module _ (names : List (List ℕ × Meaning)) (defs : List Definition) where
  abbrev Goes : ℕ → List ℕ → ℕ → Type 0
  Goes = Leads names defs

  there : (i j : ℕ) → next names defs i ≡ Some j → i < length defs
  there i j = by (slice_get defs i) refl
    where
      short : (ds : List Definition) (k : ℕ) (d : Definition) → slice_get ds k ≡ Some d → k < length ds
      short [] k d e = absurd (none_some d e)
      short (x ∷ ds) zero d e = omega arith
      short (x ∷ ds) (suc k) d e = let l = short ds k d e in omega (arith, l)

      by : (o : Option Definition) → slice_get defs i ≡ o → next names defs i ≡ Some j → i < length defs
      by None e h = absurd (none_some j (sym (ap (named_at names) e) ∙ h))
      by (Some d) e h = short defs i d e

  -- all that a chain goes through lead on
  through : (ps : List ℕ) (i j p : ℕ) → Goes i ps j → In p ps → p < length defs
  through [] i j p g m = absurd m
  through (q ∷ ps) i j p g (inl e) = subst (λ z. z < length defs) (sym (e ∙ g.0)) (there i g.1 g.2)
  through (q ∷ ps) i j p g (inr m) = through ps g.1 j p g.3 m

  -- the rest of a chain, from one that it goes through
  record Rest (ps : List ℕ) (p j : ℕ) : Type 0 where
    pub rest : List ℕ
    pub leads : Goes p rest j
    pub short : length rest ≤ length ps
    pub inside : (x : ℕ) → In x rest → In x ps

  rest_of : (ps : List ℕ) (i j p : ℕ) → Goes i ps j → In p ps → Rest ps p j
  rest_of [] i j p g m = absurd m
  rest_of (q ∷ ps) i j p g (inl e) = record {
    rest = q ∷ ps;
    leads = (sym e, g.1, subst (λ z. next names defs z ≡ Some g.1) (sym (e ∙ g.0)) g.2, g.3);
    short = omega arith;
    inside = λ x m. m;
  }
  rest_of (q ∷ ps) i j p g (inr m) =
      let r = rest_of ps g.1 j p g.3 m in
      record { rest = r.rest; leads = r.leads; short = omega (arith, r.short); inside = λ x m. inr (r.inside x m) }

  -- chains that don't go through their end are as long
  alike : (ps qs : List ℕ) (i j : ℕ) → Goes i ps j → (In j ps → ⊥) → Goes i qs j → (In j qs → ⊥) → length ps ≡ length qs
  alike [] [] i j g n h m = refl
  alike [] (q ∷ qs) i j g n h m = absurd (m (inl (sym g ∙ sym h.0)))
  alike (p ∷ ps) [] i j g n h m = absurd (n (inl (sym h ∙ sym g.0)))
  alike (p ∷ ps) (q ∷ qs) i j g n h m =
      let same : h.1 ≡ g.1 = some_same h.1 g.1 (sym h.2 ∙ g.2) in
      ap suc (alike ps qs g.1 j g.3 (λ e. n (inr e)) (subst (λ z. Goes z qs j) same h.3) (λ e. m (inr e)))

  -- so they go through each but once
  single : (ps : List ℕ) (i j : ℕ) → Goes i ps j → (In j ps → ⊥) → NoDouble ps
  single [] i j g n = tt
  single (p ∷ ps) i j g n = (
    λ m.
        let r = rest_of ps g.1 j p g.3 m in
        let whole : Goes p (p ∷ ps) j = subst (λ z. Goes z (p ∷ ps) j) (sym g.0) g in
        let long : length r.rest ≡ suc (length ps) = alike r.rest (p ∷ ps) p j r.leads (λ e. n (inr (r.inside j e))) whole n in
        absurd (omega (arith, long, r.short)),
    single ps g.1 j g.3 (λ m. n (inr m)),
  )

  few : (ps : List ℕ) (i j : ℕ) → Goes i ps j → NoDouble ps → length ps ≤ length defs
  few ps i j g s = few_below (length defs) ps s (λ x m. through ps i j x g m)

  -- a way by steps is a chain that comes home once
  record Homeward (home i : ℕ) (way : List (List ℕ)) : Type 0 where
    pub ps : List ℕ
    pub leads : Goes i (i ∷ ps) home
    pub once : In home ps → ⊥
    pub is : way ≡ map (name_of defs) ps ++ name_of defs home ∷ []

  put_before : (j : ℕ) (way : List (List ℕ)) (o : Option (List (List ℕ))) → option_map (λ w. name_of defs j ∷ w) o ≡ Some way
      → (rest : List (List ℕ)) × (o ≡ Some rest) × (way ≡ name_of defs j ∷ rest)
  put_before j way None e = absurd (none_some way e)
  put_before j way (Some rest) e = (rest, refl, sym (some_same (name_of defs j ∷ rest) way e))

  home_or_on : (home j : ℕ) (way : List (List ℕ)) (o : Option (List (List ℕ))) (b : Bool) → nat_eq j home ≡ b
      → (if b then Some (name_of defs home ∷ []) else option_map (λ w. name_of defs j ∷ w) o) ≡ Some way
      → ((j ≡ home) × (way ≡ name_of defs home ∷ [])) ⊎ ((j ≡ home → ⊥) × ((rest : List (List ℕ)) × (o ≡ Some rest) × (way ≡ name_of defs j ∷ rest)))
  home_or_on home j way o true t e = inl (eqb-true j home t, sym (some_same (name_of defs home ∷ []) way e))
  home_or_on home j way o false t e = inr ((λ h. let yes : nat_eq j home ≡ true = eq-eqb j home h in cc), put_before j way o e)

  homeward : (home s i : ℕ) (way : List (List ℕ)) → way_within names defs home s i ≡ Some way → Homeward home i way
  homeward home zero i way e = absurd (none_some way e)
  homeward home (suc s) i way e = by (homeward home s) (next names defs i) refl e
    where
      by : ((j : ℕ) (way : List (List ℕ)) → way_within names defs home s j ≡ Some way → Homeward home j way) → (o : Option ℕ) → next names defs i ≡ o
          → or_by o (λ j. if nat_eq j home then Some (name_of defs home ∷ []) else option_map (λ w. name_of defs j ∷ w) (way_within names defs home s j)) None ≡ Some way
          → Homeward home i way
      by on None n h = absurd (none_some way h)
      by on (Some j) n h =
          elim (home_or_on home j way (way_within names defs home s j) (nat_eq j home) refl h) [
            | inl a ↦ record { ps = []; leads = (refl, j, n, a.0); once = λ m. m; is = a.1 }
            | inr a ↦
                let rest = on j a.1.0 a.1.1 in
                record {
                  ps = j ∷ rest.ps;
                  leads = (refl, j, n, rest.leads);
                  once = λ m. elim m [ inl q ↦ a.0 (sym q) | inr q ↦ rest.once q ];
                  is = a.1.2 ∙ ap (λ w. name_of defs j ∷ w) rest.is;
                }
          ]

  -- and such a chain is found in as many steps
  found_in : (ps : List ℕ) (home s i : ℕ) → Goes i (i ∷ ps) home → (In home ps → ⊥) → suc (length ps) ≤ s
      → way_within names defs home s i ≡ Some (map (name_of defs) ps ++ name_of defs home ∷ [])
  found_in ps home zero i g n l = absurd (omega (arith, l))
  found_in [] home (suc s) i g n l =
      ap (λ o. or_by o (λ j. if nat_eq j home then Some (name_of defs home ∷ []) else option_map (λ w. name_of defs j ∷ w) (way_within names defs home s j)) None) (g.2 ∙ ap Some g.3)
      ∙ ap (λ b. if b then Some (name_of defs home ∷ []) else option_map (λ w. name_of defs home ∷ w) (way_within names defs home s home)) (eq-eqb home home refl)
  found_in (p ∷ ps) home (suc s) i g n l =
      let other : p ≡ home → ⊥ = λ e. n (inl (sym e)) in
      let at : next names defs i ≡ Some p = g.2 ∙ ap Some (sym g.3.0) in
      let rest = found_in ps home s p (subst (λ z. Goes z (p ∷ ps) home) (sym g.3.0) g.3) (λ m. n (inr m)) (omega (arith, l)) in
      ap (λ o. or_by o (λ j. if nat_eq j home then Some (name_of defs home ∷ []) else option_map (λ w. name_of defs j ∷ w) (way_within names defs home s j)) None) at
      ∙ (ap (λ b. if b then Some (name_of defs home ∷ []) else option_map (λ w. name_of defs p ∷ w) (way_within names defs home s p)) (differ p home (nat_eq p home) refl other)
      ∙ ap (λ o. option_map (λ w. name_of defs p ∷ w) o) rest)
    where
      differ : (x y : ℕ) (b : Bool) → nat_eq x y ≡ b → (x ≡ y → ⊥) → nat_eq x y ≡ false
      differ x y true e n = absurd (n (eqb-true x y e))
      differ x y false e n = e

  -- the circle that steps find is one
  pub circle_is : (i : ℕ) (chain : List (List ℕ)) → circle names defs i ≡ Some chain → IsCircle names defs i chain
  circle_is i chain e =
      let w = put_before i chain (way_within names defs i (length defs) i) e in
      let h = homeward i (length defs) i w.0 w.1 in
      (h.ps, h.leads, (h.once, single_behind h.ps i h.leads h.once), w.2 ∙ ap (λ z. name_of defs i ∷ z) h.is)
    where
      single_behind : (ps : List ℕ) (i : ℕ) → Goes i (i ∷ ps) i → (In i ps → ⊥) → NoDouble ps
      single_behind ps i g n = single ps g.1 i g.3 n

  -- and steps find each that is one
  pub is_circle : (i : ℕ) (chain : List (List ℕ)) → IsCircle names defs i chain → circle names defs i ≡ Some chain
  is_circle i chain c =
      ap (option_map (λ way. name_of defs i ∷ way)) (found_in c.0 i (length defs) i c.1 c.2.0 (few (i ∷ c.0) i i c.1 c.2))
      ∙ ap Some (sym c.3)

  -- so for the first of some definitions
  pub first_is : (owners : List Name) (i : ℕ) (chain : List (List ℕ)) → first_circle names defs i owners ≡ Some chain → IsFirstCircle names defs i owners chain
  first_is [] i chain e = absurd (none_some chain e)
  first_is (o ∷ owners) i chain e = by (first_is owners (suc i) chain) (circle names defs i) refl e
    where
      at_first : i + 0 ≡ i
      at_first = omega arith

      behind : (k : ℕ) → i + suc k ≡ suc i + k
      behind k = omega arith

      before : circle names defs i ≡ None → (k : ℕ) → ((m : ℕ) (other : List (List ℕ)) → m < k → IsCircle names defs (suc i + m) other → ⊥)
          → (m : ℕ) (other : List (List ℕ)) → m < suc k → IsCircle names defs (i + m) other → ⊥
      before h k none zero other l c = none_some other (sym h ∙ is_circle i other (subst (λ z. IsCircle names defs z other) at_first c))
      before h k none (suc m) other l c = none m other (omega (arith, l)) (subst (λ z. IsCircle names defs z other) (behind m) c)

      by : (first_circle names defs (suc i) owners ≡ Some chain → IsFirstCircle names defs (suc i) owners chain)
          → (c : Option (List (List ℕ))) → circle names defs i ≡ c → first_some c (first_circle names defs (suc i) owners) ≡ Some chain
          → IsFirstCircle names defs i (o ∷ owners) chain
      by on (Some found) h e =
          (0, omega arith, subst (λ z. IsCircle names defs z chain) (sym at_first) (circle_is i chain (h ∙ e)), λ m other l c. absurd (omega (arith, l)))
      by on None h e =
          let rest = on e in
          (suc rest.0, omega (arith, rest.1), subst (λ z. IsCircle names defs z chain) (sym (behind rest.0)) rest.2, before h rest.0 rest.3)

  no_circle : (i : ℕ) (o : Option (List (List ℕ))) → circle names defs i ≡ o → ((other : List (List ℕ)) → IsCircle names defs i other → ⊥) → o ≡ None
  no_circle i None e n = refl
  no_circle i (Some chain) e n = absurd (n chain (circle_is i chain e))

  pub is_first : (owners : List Name) (i : ℕ) (chain : List (List ℕ)) → IsFirstCircle names defs i owners chain → first_circle names defs i owners ≡ Some chain
  is_first [] i chain f = absurd (omega (arith, f.1))
  is_first (o ∷ owners) i chain (zero, l, c, n) =
      let here : i + 0 ≡ i = omega arith in
      ap (λ z. first_some z (first_circle names defs (suc i) owners)) (is_circle i chain (subst (λ z. IsCircle names defs z chain) here c))
  is_first (o ∷ owners) i chain (suc k, l, c, n) =
      let here : i + 0 ≡ i = omega arith in
      let behind : (m : ℕ) → i + suc m ≡ suc i + m = λ m. omega arith in
      let none : circle names defs i ≡ None =
      no_circle i (circle names defs i) refl (λ other d. n 0 other (omega arith) (subst (λ z. IsCircle names defs z other) (sym here) d)) in
      ap (λ z. first_some z (first_circle names defs (suc i) owners)) none
      ∙ is_first owners (suc i) chain
      (k, omega (arith, l), subst (λ z. IsCircle names defs z chain) (behind k) c, λ m other l d. n (suc m) other (omega (arith, l)) (subst (λ z. IsCircle names defs z other) (sym (behind m)) d))

  -- the node of a definition is the first one of that to which its names lead
  node_in : (ps : List ℕ) (s i j : ℕ) → Goes i ps j → next names defs j ≡ None → length ps < s → node_within names defs s i ≡ first_node defs j
  node_in ps zero i j g n l = absurd (omega (arith, l))
  node_in [] (suc s) i j g n l =
      ap (λ o. or_by o (node_within names defs s) (first_node defs i)) (ap (next names defs) g ∙ n) ∙ ap (first_node defs) g
  node_in (p ∷ ps) (suc s) i j g n l =
      ap (λ o. or_by o (node_within names defs s) (first_node defs i)) g.2 ∙ node_in ps s g.1 j g.3 n (omega (arith, l))

  no_end : (ps : List ℕ) (i j : ℕ) → Goes i ps j → next names defs j ≡ None → In j ps → ⊥
  no_end [] i j g n m = absurd m
  no_end (p ∷ ps) i j g n (inl e) = none_some g.1 (sym n ∙ (ap (next names defs) (e ∙ g.0) ∙ g.2))
  no_end (p ∷ ps) i j g n (inr m) = no_end ps g.1 j g.3 n m

  pub node_is : (i j : ℕ) → EndsAt names defs i j → node_of names defs i ≡ first_node defs j
  node_is i j e =
      let l = few e.0 i j e.1 (single e.0 i j e.1 (no_end e.0 i j e.1 e.2)) in
      node_in e.0 (suc (length defs)) i j e.1 e.2 (omega (arith, l))
