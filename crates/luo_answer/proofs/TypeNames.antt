-- Types by their names.
use Rattle.std.proofs.Common.{◌≡◌, ℕ, zero, suc, ◌<◌, List, [], ◌∷◌, length, refl, sym, ap, subst, ◌∙◌, Bool, true, false, None, Some, slice_get}
use Rattle.std.specs.Prelude.{if◌then◌else◌}
use Rattle.std.specs.Str.{bytes_eq}
use Rattle.std.proofs.lemmas.Slice.Eq.{bytes_eq-Decides}
use Rattle.luo_finite.proofs.Places.{none_some, some_same}
use Rattle.luo_model.specs.declared.program.Def.{Def}
use Rattle.luo_model.specs.Invariant.{IsProgram}
use Rattle.luo_model.specs.Program.{Program}
use Rattle.luo_model.specs.View.{Held, plain_of}
use Rattle.luo_answer.specs.Commands.List.{IsTypeNamed}
use Rattle.luo_answer.specs.inner.Found.{def_of}

-- what is found is the node of a type of the name, and nothing is where there is none
found : (defs : List Def) (name : List ℕ) (x : ℕ) → def_of defs name ≡ Some x → (i : ℕ) × (d : Def) × (slice_get defs i ≡ Some d) × (d.name ≡ name) × (d.whole.node ≡ x)
found [] name x e = absurd (none_some x e)
found (d ∷ defs) name x e = by (bytes_eq d.name name) refl e (λ h. found defs name x h)
  where
    by : (b : Bool) → bytes_eq d.name name ≡ b → (if b then Some d.whole.node else def_of defs name) ≡ Some x
        → (def_of defs name ≡ Some x → (i : ℕ) × (v : Def) × (slice_get defs i ≡ Some v) × (v.name ≡ name) × (v.whole.node ≡ x))
        → (i : ℕ) × (v : Def) × (slice_get (d ∷ defs) i ≡ Some v) × (v.name ≡ name) × (v.whole.node ≡ x)
    by true t h further = (0, d, refl, (bytes_eq-Decides d.name name).0 t, some_same d.whole.node x h)
    by false t h further = let r = further h in (suc r.0, r.1, r.2, r.3, r.4)

missed : (defs : List Def) (name : List ℕ) → def_of defs name ≡ None → (i : ℕ) (d : Def) → slice_get defs i ≡ Some d → d.name ≡ name → ⊥
missed [] name e i d h n = none_some d h
missed (v ∷ defs) name e i d h n = by (bytes_eq v.name name) refl e i h (λ g j l. missed defs name g j d l n)
  where
    differ : false ≡ true → ⊥
    differ e = cc

    by : (b : Bool) → bytes_eq v.name name ≡ b → (if b then Some v.whole.node else def_of defs name) ≡ None → (i : ℕ) → slice_get (v ∷ defs) i ≡ Some d
        → (def_of defs name ≡ None → (j : ℕ) → slice_get defs j ≡ Some d → ⊥) → ⊥
    by true t g i h further = none_some v.whole.node (sym g)
    by false t g zero h further = differ (sym t ∙ (bytes_eq-Decides v.name name).1 (ap (λ (z : Def). z.name) (some_same v d h) ∙ n))
    by false t g (suc i) h further = further g i h

module _ (h : Held) (defs : List Def) (e : defs ≡ h.defs) (name : List ℕ) where
  pub type_found : (x : ℕ) → def_of defs name ≡ Some x → IsTypeNamed (plain_of h) name x
  type_found x f = let r = found defs name x f in (r.0, r.1, ap (λ (l : List Def). slice_get l r.0) (sym e) ∙ r.2, r.3, r.4)

  pub type_missed : def_of defs name ≡ None → (x : ℕ) → IsTypeNamed (plain_of h) name x → ⊥
  type_missed m x (i, d, there, named, node) = missed defs name m i d (ap (λ (l : List Def). slice_get l i) e ∙ there) named

-- the node of a type is there
pub type_there : (p : Program) → IsProgram p → (name : List ℕ) (x : ℕ) → IsTypeNamed p name x → x < length p.nodes
type_there p q name x (i, d, there, named, node) = subst (λ y. y < length p.nodes) node (q.wholes_there i d there).0
