-- The breaches that a check goes through, and what is broken.
use Rattle.std.proofs.Common.{◌≡◌, ◌⊎◌, ◌<◌, List, [], ◌∷◌, Result, Ok, Err, IfOk, IfErr, inl, inr, ⊎_elim, refl, sym, ◌∙◌, ap, subst, arith}
use Rattle.luo_finite.specs.Listing.{In}
use Rattle.luo_finite.proofs.Membership.{In-append_left, In-append_right, In-append_cases}
use Rattle.luo_model.specs.View.{Held, plain_of}
use Rattle.luo_source.specs.Plain.Source.{Source}
use Rattle.luo_rules.specs.declared.rule.Breach.{Breach}
use Rattle.luo_rules.specs.Breaches.{◌or_if_none◌}
use Rattle.luo_rules.specs.declared.error.CheckError.{CheckError}
use Rattle.luo_rules.specs.declared.error.CheckError.TheVariants.{Limit, Rule, NoMemory}
use Rattle.luo_rules.specs.Checks.{IsSource, IsChecked, IsUnchecked, BreaksFirst}
use Rattle.luo_rules.specs.Definitions.{definitions}
use Rattle.luo_rules.specs.Nodes.{setting_of}
use Rattle.luo_rules.specs.Asked.{Asked, first_asked, later_asked}
use Rattle.luo_rules.specs.Broken.{Breaks}
use Rattle.luo_rules.specs.Whole.{breaches}
use Rattle.luo_rules.specs.BrokenLaws.{ListedIsBroken, BrokenIsListed, BreaksNothing, TellsFirstBroken, FirstBreachIsFirstBroken, FirstBrokenIsFirstBreach, NoBreachBreaksNothing, NothingBrokenIsNoBreach}
use Rattle.luo_rules.proofs.AskedBreaches.{own, all, first_of, later_of, first_all, later_all}
use Rattle.luo_rules.proofs.BrokenLemmas.{In_flat, flat_In, own_breaks, breaks_own}
use Rattle.luo_rules.proofs.Rise.Source.{first_in_order, first_breach_is_least, breaches_are_single}

in_either : (xs ys : List Breach) (b : Breach) → In b (xs or_if_none ys) → In b xs ⊎ In b ys
in_either [] ys b i = inr i
in_either (x ∷ xs) ys b i = inl i

in_first : (xs ys : List Breach) (b : Breach) → In b xs → In b (xs or_if_none ys)
in_first [] ys b i = absurd i
in_first (x ∷ xs) ys b i = i

-- what is in the second list is listed, or something of the first is
in_second : (xs ys : List Breach) (b : Breach) → In b ys → In b (xs or_if_none ys) ⊎ ((a : Breach) × In a xs)
in_second [] ys b i = inl i
in_second (x ∷ xs) ys b i = inr (x, inl refl)

module _ (source : Source) where
  told : (qs : List Asked) (b : Breach) → In b (all (definitions source) (setting_of source) qs) → (q : Asked) × In q qs × Breaks (definitions source) (setting_of source) q b
  told qs b i = let r = In_flat (own (definitions source) (setting_of source)) qs b i in (r.0, r.1, own_breaks (definitions source) (setting_of source) r.0 b r.2)

  listed : (qs : List Asked) (q : Asked) (b : Breach) → In q qs → Breaks (definitions source) (setting_of source) q b → In b (all (definitions source) (setting_of source) qs)
  listed qs q b i h = flat_In (own (definitions source) (setting_of source)) qs q b i (breaks_own (definitions source) (setting_of source) q b h)

pub listed_is_broken : ListedIsBroken
listed_is_broken source b i =
    ⊎_elim
    (λ j. let r = told source (first_asked source) b (subst (In b) (first_all source) j) in (r.0, In-append_left r.0 (first_asked source) (later_asked source) r.1, r.2))
    (λ j. let r = told source (later_asked source) b (subst (In b) (later_all source) j) in (r.0, In-append_right r.0 (first_asked source) (later_asked source) r.1, r.2))
    (in_either (first_of source) (later_of source) b i)

pub broken_is_listed : BrokenIsListed
broken_is_listed source b is h =
    ⊎_elim
    (λ i. inl (in_first (first_of source) (later_of source) b (subst (In b) (sym (first_all source)) (listed source (first_asked source) h.0 b i h.2))))
    (λ i.
    let there : In b (later_of source) = subst (In b) (sym (later_all source)) (listed source (later_asked source) h.0 b i h.2) in
    ⊎_elim (λ j. inl j) (λ r. inr (r.0, in_first (first_of source) (later_of source) r.0 r.1, first_in_order source is r.0 b r.1 there)) (in_second (first_of source) (later_of source) b there))
    (In-append_cases h.0 (first_asked source) (later_asked source) h.1)

pub first_breach_is_first_broken : FirstBreachIsFirstBroken
first_breach_is_first_broken source first is f = (
  listed_is_broken source first (subst (In first) (sym f.1) (inl refl)),
  λ b h. ⊎_elim (λ i. first_breach_is_least source first b is f i) (λ r. let l = first_breach_is_least source first r.0 is f r.1 in omega (arith, l, r.2)) (broken_is_listed source b is h),
)

pub first_broken_is_first_breach : FirstBrokenIsFirstBreach
first_broken_is_first_breach source b is first = by (breaches source) refl
  where
    behind : (a : Breach) → In a (breaches source) → a.token < b.token → ⊥
    behind a i l = let m = first.1 a (listed_is_broken source a i) in omega (arith, l, m)

    by : (bs : List Breach) → breaches source ≡ bs → BreaksFirst source b
    by [] e =
        ⊎_elim (λ i. absurd (subst (In b) e i)) (λ r. absurd (subst (In r.0) e r.1)) (broken_is_listed source b is first.0)
    by (x ∷ xs) e =
        let here : In x (breaches source) = subst (In x) (sym e) (inl refl) in
        ⊎_elim
        (λ i.
        let least = first_breach_is_least source x b is (xs, e) i in
        let same = breaches_are_single source x b is here i (omega (arith, least, first.1 x (listed_is_broken source x here))) in
        (xs, e ∙ ap (λ y. y ∷ xs) same))
        (λ r. absurd (behind r.0 r.1 r.2))
        (broken_is_listed source b is first.0)

pub no_breach_breaks_nothing : NoBreachBreaksNothing
no_breach_breaks_nothing source is e b h =
    ⊎_elim (λ i. subst (In b) e i) (λ r. subst (In r.0) e r.1) (broken_is_listed source b is h)

pub nothing_broken_is_no_breach : NothingBrokenIsNoBreach
nothing_broken_is_no_breach source none = by (breaches source) refl
  where
    by : (bs : List Breach) → breaches source ≡ bs → breaches source ≡ []
    by [] e = e
    by (x ∷ xs) e = absurd (none x (listed_is_broken source x (subst (In x) (sym e) (inl refl))))

-- an error tells the first that is broken
pub tells_first : (source : Source) (e : CheckError) → IsSource source → IsUnchecked source e → TellsFirstBroken source e
tells_first source (Limit which) is h = tt
tells_first source (Rule rule token names) is h = first_breach_is_first_broken source (record { rule = rule; token = token; names = names }) is h.1
tells_first source NoMemory is h = tt

pub tells-refusal : (source : Source) (r : Result Held CheckError) → IsSource source → IfErr r (λ e. IsUnchecked source e) → IfErr r (λ e. TellsFirstBroken source e)
tells-refusal source (Ok p) is h = tt
tells-refusal source (Err e) is h = tells_first source e is h

pub unbroken-answer : (source : Source) (r : Result Held CheckError) → IsSource source → IfOk r (λ p. IsChecked source (plain_of p)) → IfOk r (λ p. BreaksNothing source)
unbroken-answer source (Ok p) is h = no_breach_breaks_nothing source is h.1.0
unbroken-answer source (Err e) is h = tt
