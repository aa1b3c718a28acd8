-- The calls on own parameters as a graph.
use Rattle.std.proofs.Common.{◌≡◌, ◌↔◌, ℕ, suc, ◌<◌, List, [], ◌∷◌, inl, inr, ⊎_elim, length, map, refl, sym, ◌∙◌, subst, arith, Some, slice_get}
use Rattle.std.proofs.lemmas.Option.{slice_get_within}
use Rattle.luo_finite.specs.Listing.{In}
use Rattle.luo_model.specs.declared.body.Item.{Item, Call, Case', Forall'}
use Rattle.luo_model.specs.declared.program.Proc.{Proc}
use Rattle.luo_model.specs.Program.{Program, Procedure, Body, Does, Items, no_items}
use Rattle.luo_model.specs.Program as plain
use Rattle.luo_model.specs.View.{Held, plain_of, procedure_of, item_list}
use Rattle.luo_model.specs.declared.program.Part.{Part}
use Rattle.luo_model.specs.Scopes.Fits.{FitsBody, FitsItems}
use Rattle.luo_model.specs.Invariant.{IsProgram}
use Rattle.luo_founded.specs.inner.Graph.{IsGraph}
use Rattle.luo_model.specs.Founded.{CallsAmong, CallsIn, OwnCall}
use Rattle.luo_finite.proofs.Places.{In_get, get_within, get_map, get_map_back}
use Rattle.luo_finite.proofs.Gathered.{EachGives}

-- the item is a call of g
abbrev pub IsCallOf : ℕ → Item → Type 0
IsCallOf g (Call var callee site) = callee ≡ g
IsCallOf g _ = ⊥

pub calls_found : (g : ℕ) (items : List Item) → CallsAmong g (item_list items) ↔ ((k : ℕ) × (i : Item) × (slice_get items k ≡ Some i) × IsCallOf g i)
calls_found g items = (there items, λ r. back items r.1 r.3 (In_get items r.0 r.1 r.2))
  where
    there : (items : List Item) → CallsAmong g (item_list items) → (k : ℕ) × (i : Item) × (slice_get items k ≡ Some i) × IsCallOf g i
    there [] c = absurd c
    there (Call var callee site ∷ items) c = ⊎_elim (λ e. (0, Call var callee site, refl, e)) (λ d. let r = there items d in (suc r.0, r.1, r.2, r.3)) c
    there (Case' var shape arms site ∷ items) c = let r = there items c in (suc r.0, r.1, r.2, r.3)
    there (Forall' var own shape inner body_site site ∷ items) c = let r = there items c in (suc r.0, r.1, r.2, r.3)

    back : (items : List Item) (i : Item) → IsCallOf g i → In i items → CallsAmong g (item_list items)
    back [] i c h = absurd h
    back (Call var callee site ∷ items) i c h = ⊎_elim (λ e. inl (subst (IsCallOf g) e c)) (λ j. inr (back items i c j)) h
    back (Case' var shape arms site ∷ items) i c h = ⊎_elim (λ e. absurd (subst (IsCallOf g) e c)) (λ j. back items i c j) h
    back (Forall' var own shape inner body_site site ∷ items) i c h = ⊎_elim (λ e. absurd (subst (IsCallOf g) e c)) (λ j. back items i c j) h

pub call_within : (p : Program) (vars : List Part) (items : Items) (g : ℕ) → FitsItems p vars items → CallsAmong g items → g < length p.procs
call_within p vars no_items g f c = absurd c
call_within p vars (plain.item (plain.Call var callee site) is) g f c =
    ⊎_elim (λ e. subst (λ h. h < length p.procs) e (slice_get_within p.procs callee f.0.0 f.0.2)) (λ d. call_within p vars is g f.1 d) c
call_within p vars (plain.item (plain.Case var arms site) is) g f c = call_within p vars is g f.1 c
call_within p vars (plain.item (plain.Forall var body body_site site) is) g f c = call_within p vars is g f.1 c

pub own_within : (p : Program) → IsProgram p → (f g : ℕ) → OwnCall p f g → g < length p.procs
own_within p q f g o = by_body o.0.body (q.procedures f o.0 o.1).1 o.2
  where
    by_body : (body : Body) → FitsBody p (o.0.on ∷ []) body → CallsIn g body → g < length p.procs
    by_body (Does own items) f c = call_within p (o.0.on ∷ []) items g f.1 c

pub calls_graph : (p : Held) → IsProgram (plain_of p) → (n : ℕ) (edges : List (List ℕ)) → EachGives (λ (P : Proc) g. CallsAmong g (item_list P.body.items)) p.procs n edges → n ≡ length p.procs → IsGraph (OwnCall (plain_of p)) (length p.procs) edges
calls_graph p q n edges h l = record {
  long = h.long ∙ l;
  sound = λ f g e.
      let a = get_within p.procs f (omega (arith, slice_get_within edges f e.0 e.1, h.long, l)) in
      (procedure_of a.0, get_map procedure_of p.procs f a.0 a.1, (h.gives f a.0 e.0 a.1 e.1 g).0 e.2);
  complete = λ f g o.
      let a = get_map_back procedure_of p.procs f o.0 o.1 in
      let b = get_within edges f (omega (arith, slice_get_within p.procs f a.0 a.1, h.long, l)) in
      (b.0, b.1, (h.gives f a.0 b.0 a.1 b.1 g).1 (subst (λ (P : Procedure). CallsIn g P.body) (sym a.2) o.2));
  within = λ f g o. subst (λ k. g < k) (same p.procs) (own_within (plain_of p) q f g o);
}
  where
    same : (procs : List Proc) → length (map procedure_of procs) ≡ length procs
    same [] = refl
    same (P ∷ procs) = omega (arith, same procs)

pub not_call : (i : Item) → ((var callee site : ℕ) → i ≡ Call var callee site → ⊥) → (g : ℕ) → IsCallOf g i → ⊥
not_call (Call var callee site) h g c = h var callee site refl
not_call (Case' var shape arms site) h g c = c
not_call (Forall' var own shape inner body_site site) h g c = c
