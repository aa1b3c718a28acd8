-- The way from a definition round to itself.
use Rattle.std.proofs.Common.{◌≡◌, ℕ, zero, suc, ◌-◌, ◌<◌, List, [], ◌∷◌, ◌++◌, cond, nat_eq, Option, Some, None, refl, ap, ◌∙◌, sym, subst, arith, append_assoc, ne_eqb}
use Rattle.std.specs.Option.{option_map}
use Rattle.luo_rules.specs.declared.names.Meaning.{Meaning}
use Rattle.luo_rules.specs.Definitions.{Definition, next, name_of, or_by}
use Rattle.luo_rules.specs.inner.Naming.{way_within, circle}

-- the circle is what was gone so far, and what is left to go
pub record Goes (names : List (List ℕ × Meaning)) (defs : List Definition) (home : ℕ) (way : List (List ℕ)) (steps at : ℕ) : Type 0 where
  pub is : circle names defs home ≡ option_map (λ rest. way ++ rest) (way_within names defs home steps at)

map_behind : (way : List (List ℕ)) (name : List ℕ) (o : Option (List (List ℕ))) → option_map (λ rest. way ++ rest) (option_map (λ rest. name ∷ rest) o) ≡ option_map (λ rest. (way ++ name ∷ []) ++ rest) o
map_behind way name None = refl
map_behind way name (Some rest) = ap Some (sym (append_assoc way (name ∷ []) rest))

goes_behind : (names : List (List ℕ × Meaning)) (defs : List Definition) (home : ℕ) (way : List (List ℕ)) (steps at named : ℕ)
    → Goes names defs home way steps at → 0 < steps → next names defs at ≡ Some named → (named ≡ home → ⊥) → Goes names defs home (way ++ name_of defs named ∷ []) (steps - 1) named
goes_behind names defs home way zero at named g h e other = absurd (omega arith)
goes_behind names defs home way (suc k) at named g h e other = record {
  is =
      g.is
      ∙ ap (λ o. option_map (λ rest. way ++ rest) (or_by o (λ j. cond (nat_eq j home) (Some (name_of defs home ∷ [])) (option_map (λ way. name_of defs j ∷ way) (way_within names defs home k j))) None)) e
      ∙ ap (λ b. option_map (λ rest. way ++ rest) (cond b (Some (name_of defs home ∷ [])) (option_map (λ way. name_of defs named ∷ way) (way_within names defs home k named)))) (ne_eqb named home other)
      ∙ map_behind way (name_of defs named) (way_within names defs home k named)
      ∙ ap (λ m. option_map (λ rest. (way ++ name_of defs named ∷ []) ++ rest) (way_within names defs home m named)) (sym less);
}
  where
    less : suc k - 1 ≡ k
    less = omega arith

-- a step to a definition that isn't home
pub goes_on : (names : List (List ℕ × Meaning)) (defs : List Definition) (home : ℕ) (way longer : List (List ℕ)) (text : List ℕ) (steps at named : ℕ)
    → Goes names defs home way steps at → 0 < steps → next names defs at ≡ Some named → (named ≡ home → ⊥) → text ≡ name_of defs named → longer ≡ way ++ text ∷ [] → Goes names defs home longer (steps - 1) named
goes_on names defs home way longer text steps at named g h e other is more =
    subst (λ w. Goes names defs home w (steps - 1) named) (sym (more ∙ ap (λ t. way ++ t ∷ []) is)) (goes_behind names defs home way steps at named g h e other)
