-- Which types of a small source are the same, and what a call breaks.
use Rattle.std.proofs.Common.{◌≡◌, ℕ, List, Some, true, false, slice_get, codes, refl, sym, ap, ◌∙◌, subst, inl, inr, arith}
use Rattle.luo_source.specs.declared.names.Name.{Name}
use Rattle.luo_source.specs.Plain.Source.{ProcDef}
use Rattle.luo_rules.specs.declared.names.Meaning.{Meaning}
use Rattle.luo_rules.specs.declared.names.Meaning.TheVariants as mean
use Rattle.luo_rules.specs.declared.rule.Breach.{Breach}
use Rattle.luo_rules.specs.Definitions.{definitions, names_of}
use Rattle.luo_rules.specs.inner.Naming.{node_of}
use Rattle.luo_rules.specs.Meanings.{meaning}
use Rattle.luo_rules.specs.Sources.{name}
use Rattle.luo_rules.specs.Asked.{a_procedure, uses}
use Rattle.luo_rules.specs.Broken.{undefined, other_sort, is_sort}
use Rattle.luo_rules.proofs.Lists.{some_same, none_some}
use Rattle.luo_meaning.specs.Examples.{choices}
use Rattle.luo_meaning.specs.Places.{Placed, of_name, IsSameType}
use Rattle.luo_meaning.specs.Broken.{BreaksNames}
use Rattle.luo_meaning.specs.Facts.{TypesOfChoices}
use Rattle.luo_meaning.proofs.PlacedTypes.{HoldsAt, name_holds, same_type}
use Rattle.luo_meaning.proofs.SourceMeanings.{choices_clean}

-- the node of a type
at : (text : List ℕ) (token i : ℕ) → meaning (names_of choices) text ≡ Some (mean.Definition i) → HoldsAt choices (node_of (names_of choices) (definitions choices) i) (of_name (name text token))
at text token i e = name_holds choices choices_clean.all (name text token) i e

same_a : IsSameType choices (of_name (name (codes "a") 0)) (of_name (name (codes "a") 1))
same_a = (same_type choices choices_clean.all 0 0 (of_name (name (codes "a") 0)) (of_name (name (codes "a") 1)) (at (codes "a") 0 0 refl) (at (codes "a") 1 0 refl)).1 refl

not_a_b : IsSameType choices (of_name (name (codes "a") 0)) (of_name (name (codes "b") 0)) → ⊥
not_a_b t = let e : 0 ≡ 1 = (same_type choices choices_clean.all 0 1 (of_name (name (codes "a") 0)) (of_name (name (codes "b") 0)) (at (codes "a") 0 0 refl) (at (codes "b") 0 1 refl)).0 t in absurd (omega (arith, e))

not_z_u : IsSameType choices (of_name (name (codes "z") 0)) (of_name (name (codes "u") 51)) → ⊥
not_z_u t = let e : 2 ≡ 3 = (same_type choices choices_clean.all 2 3 (of_name (name (codes "z") 0)) (of_name (name (codes "u") 51)) (at (codes "z") 0 2 refl) (at (codes "u") 51 3 refl)).0 t in absurd (omega (arith, e))

same_u : IsSameType choices (of_name (name (codes "u") 0)) (of_name (name (codes "u") 51))
same_u = (same_type choices choices_clean.all 3 3 (of_name (name (codes "u") 0)) (of_name (name (codes "u") 51)) (at (codes "u") 0 3 refl) (at (codes "u") 51 3 refl)).1 refl

-- `p` is a procedure
p_is_known : (b : Breach) → BreaksNames choices (uses a_procedure (name (codes "p") 70)) b → ⊥
p_is_known b (undefined e) = none_some (mean.Procedure 0) (sym e)
p_is_known b (other_sort m e f) = by m (some_same (mean.Procedure 0) m e) f
  where
    by : (m : Meaning) → mean.Procedure 0 ≡ m → is_sort a_procedure m ≡ false → ⊥
    by m e f = let g : true ≡ false = ap (is_sort a_procedure) e ∙ f in cc

-- a procedure that `p` means is of type u
on_u : (p : ProcDef) (f : ℕ) → Some (mean.Procedure 0) ≡ Some (mean.Procedure f) → slice_get choices.procs f ≡ Some p → p.on ≡ name (codes "u") 51
on_u p f e h = ap (λ (q : ProcDef). q.on) (sym (some_same _ p (ap (slice_get choices.procs) (number 0 f e) ∙ h)))
  where
    number : (i j : ℕ) → Some (mean.Procedure i) ≡ Some (mean.Procedure j) → i ≡ j
    number i j e = cc

pub types_of_choices : TypesOfChoices
types_of_choices = (
  same_a,
  not_a_b,
  inr (inr (of_name (name (codes "z") 0), _, refl, (0, refl, refl), (3, refl), not_z_u, refl)),
  λ b h. elim h [
    | inl u ↦ p_is_known b u
    | inr h ↦ elim h [
      | inl u ↦ none_some _ (sym u.0)
      | inr (a, p, t, (f, means, there), on, differ, is) ↦
          differ (subst (λ (z : Name). IsSameType choices a (of_name z)) (sym (on_u p f means there)) (subst (λ (z : Placed). IsSameType choices z (of_name (name (codes "u") 51))) (some_same _ a t) same_u))
    ]
  ],
)
