-- The facts of small programs.
use Rattle.std.proofs.Common.{◌≡◌, ◌⊎◌, ℕ, zero, suc, ◌+◌, ◌≤◌, ◌<◌, List, [], ◌∷◌, inl, inr, ⊎_elim, refl, sym, ◌∙◌, ap, subst, arith, length, Option, Some, slice_get}
use Rattle.luo_finite.specs.Listing.{In}
use Rattle.luo_finite.specs.Walk.{Walk, OnCircle, IsCircle, IsNotAfter, IsNamedCircle}
use Rattle.luo_model.specs.declared.program.Part.{Part}
use Rattle.luo_model.specs.Invariant.{bare}
use Rattle.luo_model.specs.declared.program.Shape.TheVariants.{Atom}
use Rattle.luo_model.specs.Member.{IsWithin}
use Rattle.luo_model.specs.Program.{Procedure, Does, no_items, item, Call}
use Rattle.luo_finite.proofs.Places.{some_same, none_some, less_or_same}
use Rattle.luo_model.specs.Founded.{BuiltWithin, IsInhabited, HasZero, SameSize, CallsIn, OwnCall, BreaksW1, BreaksW2}
use Rattle.luo_founded.specs.Facts.{procedure, programs, leaves, hierarchies, nested, endless, hollow, beside, HierarchiesAreFounded, OneComponentLeadsBack, OtherBoundsEndThere, EndlessProductsAreNamed, EmptyComponentsAreNamed, EmptyFactorsLeadBack, OtherFactorsEndThere, OwnCallsAreNamed}

-- where a number falls at each step there is no circle
module _ (R : ℕ → ℕ → Type 0) (height : ℕ → ℕ) (falls : (x y : ℕ) → R x y → height y < height x) where
  walk_falls : (k x y : ℕ) → Walk R k x y → height y + k ≤ height x
  walk_falls zero x y w = omega (arith, ap height w)
  walk_falls (suc k) x y w = omega (arith, falls x w.0 w.1, walk_falls k w.0 y w.2)

  pub no_circle_falling : (x : ℕ) → OnCircle R x → ⊥
  no_circle_falling x c = omega (arith, walk_falls (suc c.0) x x c.1)

never_zero : (n : ℕ) → suc n ≡ 0 → ⊥
never_zero n e = omega (arith, e)

-- hierarchies
no_empty_hierarchy : (d : ℕ) → BuiltWithin (λ w. w ≡ 0) hierarchies d 0 → ⊥
no_empty_hierarchy zero m = m
no_empty_hierarchy (suc zero) m = m.2
no_empty_hierarchy (suc (suc d)) (part, inl e, m) = never_zero 0 (subst (λ (q : Part). BuiltWithin (λ w. w ≡ 0) hierarchies (suc d) q.node) e m)
no_empty_hierarchy (suc (suc d)) (part, inr (inl e), m) =
    ⊎_elim (λ z. omega (arith, z)) (λ k. no_empty_hierarchy d k) (subst (λ (q : Part). BuiltWithin (λ w. w ≡ 0) hierarchies (suc d) q.node) e m)
no_empty_hierarchy (suc (suc d)) (part, inr (inr e), m) = absurd e

abbrev height : ℕ → ℕ
height zero = 1
height (suc x) = 0

hierarchy_falls : (x y : ℕ) → SameSize hierarchies x y → height y < height x
hierarchy_falls zero y (part, inl e, s) = subst (λ z. height z < 1) s (subst (λ (q : Part). height q.node < 1) (sym e) (omega arith))
hierarchy_falls zero y (part, inr (inl e), s) = subst (λ z. height z < 1) s (subst (λ (q : Part). height q.node < 1) (sym e) (omega arith))
hierarchy_falls zero y (part, inr (inr e), s) = absurd e
hierarchy_falls (suc zero) y k = absurd k
hierarchy_falls (suc (suc zero)) y k = absurd (omega (arith, k.1))
hierarchy_falls (suc (suc (suc x))) y k = absurd (k.1)

no_own_call : (f g : ℕ) → OwnCall hierarchies f g → ⊥
no_own_call zero g c = subst (λ (P : Procedure). CallsIn g P.body) (sym (some_same (procedure leaves) c.0 c.1)) c.2
no_own_call (suc f) g c = none_some c.0 c.1

pub hierarchies_are_founded : HierarchiesAreFounded
hierarchies_are_founded = record {
  inhabited = all;
  solid = solid;
  no_circle = no_circle_falling (SameSize hierarchies) height hierarchy_falls;
  no_endless = λ f c. no_own_call f c.1.0 c.1.1;
}
  where
    all : (x : ℕ) → x < 3 → IsInhabited hierarchies x
    all zero h = (2, (bare 1, inl refl, tt))
    all (suc zero) h = (1, tt)
    all (suc (suc zero)) h = (3, inr (bare 1, inl refl, tt))
    all (suc (suc (suc x))) h = absurd (omega arith)

    solid : (x : ℕ) → BreaksW2 hierarchies x → ⊥
    solid zero b = b
    solid (suc zero) b = b
    solid (suc (suc zero)) b = no_empty_hierarchy b.0 b.1
    solid (suc (suc (suc x))) b = b

-- the circles that are named in these programs
module _ (R : ℕ → ℕ → Type 0) where
  named_one : R 0 0 → IsNamedCircle R 0 (0 ∷ (0 ∷ []))
  named_one r = record { circle = (refl, (r, tt), refl); least = λ y c. omega arith; shortest = shortest; first = first }
    where
      shortest : (other : List ℕ) → IsCircle R 0 other → 2 ≤ length other
      shortest [] c = absurd c
      shortest (x ∷ []) c = absurd c
      shortest (x ∷ (y ∷ rest)) c = omega arith

      first : (other : List ℕ) → IsCircle R 0 other → 2 ≡ length other → IsNotAfter (0 ∷ (0 ∷ [])) other
      first [] c e = absurd c
      first (x ∷ []) c e = absurd c
      first (x ∷ (y ∷ [])) c e = inr (sym c.0, inr (sym c.2, tt))
      first (x ∷ (y ∷ (z ∷ rest))) c e = absurd (omega (arith, e))

  named_two : R 0 2 → R 2 0 → (R 0 0 → ⊥) → ((y : ℕ) → R 0 y → R y 0 → 2 ≤ y) → IsNamedCircle R 0 (0 ∷ (2 ∷ (0 ∷ [])))
  named_two r s none over = record { circle = (refl, (r, (s, tt)), refl); least = λ y c. omega arith; shortest = shortest; first = first }
    where
      shortest : (other : List ℕ) → IsCircle R 0 other → 3 ≤ length other
      shortest [] c = absurd c
      shortest (x ∷ []) c = absurd c
      shortest (x ∷ (y ∷ [])) c = absurd (none (subst (λ z. R 0 z) c.2 (subst (λ z. R z y) c.0 c.1.0)))
      shortest (x ∷ (y ∷ (z ∷ rest))) c = omega arith

      middle : (x y z : ℕ) → x ≡ 0 → z ≡ 0 → R x y → R y z → 2 ≤ y
      middle x y z e d a b = over y (subst (λ w. R w y) e a) (subst (λ w. R y w) d b)

      first : (other : List ℕ) → IsCircle R 0 other → 3 ≡ length other → IsNotAfter (0 ∷ (2 ∷ (0 ∷ []))) other
      first [] c e = absurd c
      first (x ∷ []) c e = absurd c
      first (x ∷ (y ∷ [])) c e = absurd (omega (arith, e))
      first (x ∷ (y ∷ (z ∷ []))) c e =
          inr (sym c.0, ⊎_elim (λ l. inl l) (λ s. inr (s, inr (sym c.2, tt))) (less_or_same 2 y (middle x y z c.0 c.2 c.1.0 c.1.1.0)))
      first (x ∷ (y ∷ (z ∷ (w ∷ rest)))) c e = absurd (omega (arith, e))

-- steps from a union of nodes 1 and 2
union_step : (y : ℕ) → ((part : Part) × In part (bare 1 ∷ (bare 2 ∷ [])) × (part.node ≡ y)) → (y ≡ 1) ⊎ (y ≡ 2)
union_step y (part, inl e, s) = inl (sym s ∙ ap (λ (q : Part). q.node) e)
union_step y (part, inr (inl e), s) = inr (sym s ∙ ap (λ (q : Part). q.node) e)
union_step y (part, inr (inr e), s) = absurd e

from_union : (R : ℕ → ℕ → Type 0) → ((y : ℕ) → R 0 y → (y ≡ 1) ⊎ (y ≡ 2)) → (R 1 0 → ⊥) → (y : ℕ) → R 0 y → R y 0 → 2 ≤ y
from_union R steps none y a b = ⊎_elim (λ e. absurd (none (subst (λ z. R z 0) e b))) (λ e. omega (arith, e)) (steps y a)

not_itself : (R : ℕ → ℕ → Type 0) → ((y : ℕ) → R 0 y → (y ≡ 1) ⊎ (y ≡ 2)) → R 0 0 → ⊥
not_itself R steps r = ⊎_elim (λ e. omega (arith, e)) (λ e. omega (arith, e)) (steps 0 r)

pub one_component_leads_back : OneComponentLeadsBack
one_component_leads_back low high w =
    named_two (SameSize (nested low high)) (bare 2, inr (inl refl), refl) (refl, w) (not_itself (SameSize (nested low high)) union_step)
    (from_union (SameSize (nested low high)) union_step (λ k. k))

nested_falls : (low : ℕ) (high : Option ℕ) → (IsWithin low high 1 → ⊥) → (x y : ℕ) → SameSize (nested low high) x y → height y < height x
nested_falls low high none zero y k = ⊎_elim (λ e. subst (λ z. height z < 1) (sym e) (omega arith)) (λ e. subst (λ z. height z < 1) (sym e) (omega arith)) (union_step y k)
nested_falls low high none (suc zero) y k = absurd k
nested_falls low high none (suc (suc zero)) y k = absurd (none k.1)
nested_falls low high none (suc (suc (suc x))) y k = absurd k.1

pub other_bounds_end_there : OtherBoundsEndThere
other_bounds_end_there low high none = no_circle_falling (SameSize (nested low high)) height (nested_falls low high none)

-- the four rules
never_made : (d : ℕ) → BuiltWithin (λ w. Unit {0}) endless d 1 → ⊥
never_made zero m = m
never_made (suc d) m = never_made d (m (bare 1) (inr (inl refl)))

pub endless_products_are_named : EndlessProductsAreNamed
endless_products_are_named = ((omega arith, λ m. never_made m.0 m.1), least)
  where
    least : (y : ℕ) → BreaksW1 endless y → 1 ≤ y
    least zero b = absurd (b.1 (1, tt))
    least (suc y) b = omega arith

pub empty_components_are_named : EmptyComponentsAreNamed
empty_components_are_named = ((1, refl), least)
  where
    least : (y : ℕ) → BreaksW2 hollow y → 1 ≤ y
    least zero b = absurd b
    least (suc y) b = omega arith

empty_beside : (k : ℕ) (other : Part) → slice_get (bare 3 ∷ (bare 0 ∷ [])) k ≡ Some other → (k ≡ 1 → ⊥) → HasZero (beside 0) other.node
empty_beside zero other e n = subst (λ (q : Part). HasZero (beside 0) q.node) (some_same (bare 3) other e) (1, refl)
empty_beside (suc zero) other e n = absurd (n refl)
empty_beside (suc (suc k)) other e n = absurd (none_some other e)

pub empty_factors_lead_back : EmptyFactorsLeadBack
empty_factors_lead_back =
    named_two (SameSize (beside 0)) (bare 2, inr (inl refl), refl) (1, bare 0, refl, refl, empty_beside) (not_itself (SameSize (beside 0)) union_step)
    (from_union (SameSize (beside 0)) union_step (λ k. k))

abbrev depth : ℕ → ℕ
depth zero = 2
depth (suc zero) = 0
depth (suc (suc zero)) = 1
depth (suc (suc (suc x))) = 0

beside_falls : (weight : ℕ) (x y : ℕ) → SameSize (beside (suc weight)) x y → depth y < depth x
beside_falls weight zero y k = ⊎_elim (λ e. subst (λ z. depth z < 2) (sym e) (omega arith)) (λ e. subst (λ z. depth z < 2) (sym e) (omega arith)) (union_step y k)
beside_falls weight (suc zero) y k = absurd k
beside_falls weight (suc (suc zero)) y (zero, part, e, s, others) =
    subst (λ z. depth z < 1) s (subst (λ (q : Part). depth q.node < 1) (some_same (bare 3) part e) (omega arith))
beside_falls weight (suc (suc zero)) y (suc zero, part, e, s, others) = absurd (never (others 0 (bare 3) refl (λ z. omega (arith, z))))
  where
    never : HasZero (beside (suc weight)) 3 → ⊥
    never (zero, m) = m
    never (suc d, m) = omega (arith, m)
beside_falls weight (suc (suc zero)) y (suc (suc i), part, e, s, others) = absurd (none_some part e)
beside_falls weight (suc (suc (suc zero))) y k = absurd k
beside_falls weight (suc (suc (suc (suc x)))) y k = absurd k.1

pub other_factors_end_there : OtherFactorsEndThere
other_factors_end_there weight = no_circle_falling (SameSize (beside (suc weight))) depth (beside_falls weight)

pub own_calls_are_named : OwnCallsAreNamed
own_calls_are_named = named_one (OwnCall (programs (Atom 1 ∷ []) (Does 0 (item (Call 0 0 0) no_items) ∷ []))) (procedure (Does 0 (item (Call 0 0 0) no_items)), refl, inl refl)
