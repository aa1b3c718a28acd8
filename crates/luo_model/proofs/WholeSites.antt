-- The site of a procedure's whole has the node of the parameter.
use Rattle.std.proofs.Common.{◌≡◌, ℕ, zero, suc, ◌+◌, List, [], ◌∷◌, ◌++◌, inl, inr, refl, sym, ◌∙◌, ap, subst, arith, Some, slice_get}
use Rattle.std.proofs.lemmas.Option.{get_or_from_slice_get}
use Rattle.luo_finite.specs.Listing.{In}
use Rattle.luo_finite.proofs.Membership.{In-append_left, In-append_right}
use Rattle.luo_finite.proofs.Places.{some_same, none_some}
use Rattle.luo_model.specs.declared.program.Site.{Site}
use Rattle.luo_model.specs.Program.{Program, Procedure, site_node}
use Rattle.luo_model.specs.Scopes.Sites.{body_sites}
use Rattle.luo_model.specs.Invariant.{IsProgram, procedure_sites, placed, sites_from, numbered_from}

pub numbered_get : (k : ℕ) (l : List Site) (x : ℕ) (s : Site) → In (x, s) (numbered_from k l) → (j : ℕ) × (x ≡ k + j) × (slice_get l j ≡ Some s)
numbered_get k [] x s i = absurd i
numbered_get k (y ∷ l) x s (inl e) = (0, ap (λ w. w.0) e ∙ (let z : k ≡ k + 0 = omega arith in z), ap Some (sym (ap (λ w. w.1) e)))
numbered_get k (y ∷ l) x s (inr i) = let r = numbered_get (k + 1) l x s i in (suc r.0, omega (arith, r.1), r.2)

placed_last : (caller place : ℕ) (l : List (ℕ × ℕ)) (x y : ℕ) → (s : Site) × In (x, s) (placed caller place (l ++ (x, y) ∷ [])) × (s.node ≡ y)
placed_last caller place [] x y = (record { node = y; caller = caller; place = place }, inl refl, refl)
placed_last caller place (w ∷ l) x y = let r = placed_last caller (place + 1) l x y in (r.0, inr r.1, r.2)

site_in : (p : Program) (Ps : List Procedure) (k f : ℕ) (P : Procedure) → slice_get Ps f ≡ Some P → (s : Site) × In (P.site, s) (sites_from p k Ps) × (s.node ≡ P.on.node)
site_in p [] k f P e = absurd (none_some P e)
site_in p (Q ∷ Ps) k zero P e =
    let r = placed_last k 0 (body_sites p (P.on ∷ []) P.body) P.site P.on.node in (
      r.0,
      In-append_left (P.site, r.0) (placed k 0 (procedure_sites p Q)) (sites_from p (k + 1) Ps)
          (subst (λ (Z : Procedure). In (P.site, r.0) (placed k 0 (procedure_sites p Z))) (sym (some_same Q P e)) r.1),
      r.2,
    )
site_in p (Q ∷ Ps) k (suc f) P e =
    let r = site_in p Ps (k + 1) f P e in
    (r.0, In-append_right (P.site, r.0) (placed k 0 (procedure_sites p Q)) (sites_from p (k + 1) Ps) r.1, r.2)

pub whole_site : (p : Program) → IsProgram p → (f : ℕ) (P : Procedure) → slice_get p.procs f ≡ Some P → site_node p P.site ≡ P.on.node
whole_site p q f P e =
    let r = site_in p p.procs 0 f P e in
    let n = numbered_get 0 p.sites P.site r.0 (subst (In (P.site, r.0)) q.sites r.1) in
    let at : slice_get p.sites P.site ≡ Some r.0 = subst (λ j. slice_get p.sites j ≡ Some r.0) (let z : n.0 ≡ P.site = omega (arith, n.1) in z) n.2 in
    ap (λ (s : Site). s.node) (get_or_from_slice_get p.sites P.site r.0 (record { node = 0; caller = 0; place = 0 }) at) ∙ r.2
