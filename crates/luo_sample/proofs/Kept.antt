-- A program with the nodes and calls of a sample is well-founded.
use Rattle.std.proofs.Common.{◌≡◌, ◌<◌, ◌≤◌, ◌⊎◌, ℕ, zero, suc, [], ◌∷◌, length, refl, ap, sym, ◌∙◌, subst, inl, inr, arith, Some, slice_get}
use Rattle.luo_model.specs.declared.program.Part.{Part}
use Rattle.luo_model.specs.declared.program.Shape.{Shape}
use Rattle.luo_model.specs.declared.program.Shape.TheVariants as shape
use Rattle.luo_model.specs.Program.{Program, Procedure, shape_of}
use Rattle.luo_finite.specs.Walk.{Walk, OnCircle}
use Rattle.luo_model.specs.Founded.{IsBuilt, BuiltWithin, IsInhabited, HasZero, KeepsSize, SameSize, CallsIn, OwnCall, HasEmptyComponent, IsFounded}

-- a circle needs a step that doesn't come closer to the end
walk_falls : (R : ℕ → ℕ → Type 0) (rank : ℕ → ℕ) → ((x y : ℕ) → R x y → rank y < rank x) → (k x y : ℕ) → Walk R k x y → rank y ≤ rank x
walk_falls R rank falls zero x y w = subst (λ z. rank z ≤ rank x) w (omega arith)
walk_falls R rank falls (suc k) x y (z, r, w) = omega (arith, falls x z r, walk_falls R rank falls k z y w)

pub no_circle_by : (R : ℕ → ℕ → Type 0) (rank : ℕ → ℕ) → ((x y : ℕ) → R x y → rank y < rank x) → (x : ℕ) → OnCircle R x → ⊥
no_circle_by R rank falls x (k, (z, r, w)) = omega (arith, falls x z r, walk_falls R rank falls k z x w)

-- z
abbrev IsZ : Part → Type 0
IsZ part = part.node ≡ 0

module _ (p : Program) where
  -- a product with z
  abbrev pub HasAtom : Shape → Type 0
  HasAtom (shape.Product (z ∷ rest)) = z.node ≡ 0
  HasAtom _ = ⊥

  -- z, or one of two products with z
  abbrev pub IsChoice : Shape → Type 0
  IsChoice (shape.Union (z ∷ (a ∷ (b ∷ [])))) = (z.node ≡ 0) × HasAtom (shape_of p a.node) × HasAtom (shape_of p b.node)
  IsChoice _ = ⊥

  -- a node of a sample: z; a choice; two choices beside z; a collection beside z; a collection of choices
  abbrev pub IsPair : Shape → Type 0
  IsPair (shape.Product (z ∷ (a ∷ (b ∷ [])))) = (z.node ≡ 0) × IsChoice (shape_of p a.node) × IsChoice (shape_of p b.node)
  IsPair _ = ⊥

  abbrev pub IsMany : Shape → Type 0
  IsMany (shape.Coll kind part low high) = IsChoice (shape_of p part.node)
  IsMany _ = ⊥

  abbrev pub IsHolder : Shape → Type 0
  IsHolder (shape.Product (z ∷ (a ∷ []))) = (z.node ≡ 0) × IsMany (shape_of p a.node)
  IsHolder _ = ⊥

  pub data IsNode (s : Shape) : Type 0 where
    atom : s ≡ shape.Atom 1 → IsNode s
    choice : IsChoice s → IsNode s
    pair : IsPair s → IsNode s
    holder : IsHolder s → IsNode s
    many : IsMany s → IsNode s

  module _ (z_is : shape_of p 0 ≡ shape.Atom 1) where
    -- nothing of size 0
    z_solid : (x : ℕ) → x ≡ 0 → (k : ℕ) → BuiltWithin (λ weight. weight ≡ 0) p k x → ⊥
    z_solid x e zero m = m
    z_solid x e (suc k) m =
        let w : 1 ≡ 0 = subst (λ s. IsBuilt (λ weight. weight ≡ 0) (BuiltWithin (λ weight. weight ≡ 0) p k) s) (ap (shape_of p) e ∙ z_is) m in
        omega (arith, w)

    atom_solid : (s : Shape) → HasAtom s → (k : ℕ) → IsBuilt (λ weight. weight ≡ 0) (BuiltWithin (λ weight. weight ≡ 0) p k) s → ⊥
    atom_solid (shape.Product (z ∷ rest)) h k m = z_solid z.node h k (m z (inl refl))
    atom_solid (shape.Product []) h k m = h
    atom_solid (shape.Atom w) h k m = h
    atom_solid (shape.Union parts) h k m = h
    atom_solid (shape.Coll kind part low high) h k m = h

    branch_solid : (a : Part) → HasAtom (shape_of p a.node) → (k : ℕ) → BuiltWithin (λ weight. weight ≡ 0) p k a.node → ⊥
    branch_solid a h zero m = m
    branch_solid a h (suc k) m = atom_solid (shape_of p a.node) h k m

    choice_solid : (s : Shape) → IsChoice s → (k : ℕ) → IsBuilt (λ weight. weight ≡ 0) (BuiltWithin (λ weight. weight ≡ 0) p k) s → ⊥
    choice_solid (shape.Union (z ∷ (a ∷ (b ∷ [])))) h k (part, i, m) =
        elim i [
          | inl e ↦ z_solid part.node (ap (λ (q : Part). q.node) e ∙ h.0) k m
          | inr (inl e) ↦ branch_solid a h.1 k (subst (λ (q : Part). BuiltWithin (λ weight. weight ≡ 0) p k q.node) e m)
          | inr (inr (inl e)) ↦ branch_solid b h.2 k (subst (λ (q : Part). BuiltWithin (λ weight. weight ≡ 0) p k q.node) e m)
          | inr (inr (inr i)) ↦ i
        ]
    choice_solid (shape.Union (z ∷ (a ∷ (b ∷ (c ∷ rest))))) h k m = absurd h
    choice_solid (shape.Union (z ∷ (a ∷ []))) h k m = absurd h
    choice_solid (shape.Union (z ∷ [])) h k m = absurd h
    choice_solid (shape.Union []) h k m = absurd h
    choice_solid (shape.Product parts) h k m = absurd h
    choice_solid (shape.Atom w) h k m = absurd h
    choice_solid (shape.Coll kind part low high) h k m = absurd h

    no_zero : (x : ℕ) → IsChoice (shape_of p x) → HasZero p x → ⊥
    no_zero x c (zero, m) = m
    no_zero x c (suc k, m) = choice_solid (shape_of p x) c k m

    -- W1
    abbrev Fine : ℕ → Type 0
    Fine x = IsInhabited p x

    z_made : (x k : ℕ) → x ≡ 0 → BuiltWithin (λ weight. Unit {0}) p (suc k) x
    z_made x k e = subst (λ s. IsBuilt (λ weight. Unit {0}) (BuiltWithin (λ weight. Unit {0}) p k) s) (sym (ap (shape_of p) e ∙ z_is)) tt

    choice_made : (s : Shape) → IsChoice s → (k : ℕ) → IsBuilt (λ weight. Unit {0}) (BuiltWithin (λ weight. Unit {0}) p (suc k)) s
    choice_made (shape.Union (z ∷ (a ∷ (b ∷ [])))) h k = (z, inl refl, z_made z.node k h.0)
    choice_made (shape.Union (z ∷ (a ∷ (b ∷ (c ∷ rest))))) h k = absurd h
    choice_made (shape.Union (z ∷ (a ∷ []))) h k = absurd h
    choice_made (shape.Union (z ∷ [])) h k = absurd h
    choice_made (shape.Union []) h k = absurd h
    choice_made (shape.Product parts) h k = absurd h
    choice_made (shape.Atom w) h k = absurd h
    choice_made (shape.Coll kind part low high) h k = absurd h

    many_made : (s : Shape) → IsMany s → (k : ℕ) → IsBuilt (λ weight. Unit {0}) (BuiltWithin (λ weight. Unit {0}) p (suc (suc k))) s
    many_made (shape.Coll kind part low high) h k = inr (choice_made (shape_of p part.node) h k)
    many_made (shape.Union parts) h k = absurd h
    many_made (shape.Product parts) h k = absurd h
    many_made (shape.Atom w) h k = absurd h

    pair_made : (s : Shape) → IsPair s → IsBuilt (λ weight. Unit {0}) (BuiltWithin (λ weight. Unit {0}) p 3) s
    pair_made (shape.Product (z ∷ (a ∷ (b ∷ [])))) h = λ part i.
        elim i [
          | inl e ↦ z_made part.node 2 (ap (λ (q : Part). q.node) e ∙ h.0)
          | inr (inl e) ↦ subst (λ (q : Part). BuiltWithin (λ weight. Unit {0}) p 3 q.node) (sym e) (choice_made (shape_of p a.node) h.1 1)
          | inr (inr (inl e)) ↦ subst (λ (q : Part). BuiltWithin (λ weight. Unit {0}) p 3 q.node) (sym e) (choice_made (shape_of p b.node) h.2 1)
          | inr (inr (inr i)) ↦ absurd i
        ]
    pair_made (shape.Product (z ∷ (a ∷ (b ∷ (c ∷ rest))))) h = absurd h
    pair_made (shape.Product (z ∷ (a ∷ []))) h = absurd h
    pair_made (shape.Product (z ∷ [])) h = absurd h
    pair_made (shape.Product []) h = absurd h
    pair_made (shape.Union parts) h = absurd h
    pair_made (shape.Atom w) h = absurd h
    pair_made (shape.Coll kind part low high) h = absurd h

    holder_made : (s : Shape) → IsHolder s → IsBuilt (λ weight. Unit {0}) (BuiltWithin (λ weight. Unit {0}) p 3) s
    holder_made (shape.Product (z ∷ (a ∷ []))) h = λ part i.
        elim i [
          | inl e ↦ z_made part.node 2 (ap (λ (q : Part). q.node) e ∙ h.0)
          | inr (inl e) ↦ subst (λ (q : Part). BuiltWithin (λ weight. Unit {0}) p 3 q.node) (sym e) (many_made (shape_of p a.node) h.1 0)
          | inr (inr i) ↦ absurd i
        ]
    holder_made (shape.Product (z ∷ (a ∷ (b ∷ rest)))) h = absurd h
    holder_made (shape.Product (z ∷ [])) h = absurd h
    holder_made (shape.Product []) h = absurd h
    holder_made (shape.Union parts) h = absurd h
    holder_made (shape.Atom w) h = absurd h
    holder_made (shape.Coll kind part low high) h = absurd h

    node_made : (x : ℕ) → IsNode (shape_of p x) → IsInhabited p x
    node_made x (atom e) = (1, subst (λ s. IsBuilt (λ weight. Unit {0}) (BuiltWithin (λ weight. Unit {0}) p 0) s) (sym e) tt)
    node_made x (choice h) = (2, choice_made (shape_of p x) h 0)
    node_made x (pair h) = (4, pair_made (shape_of p x) h)
    node_made x (holder h) = (4, holder_made (shape_of p x) h)
    node_made x (many h) = (3, many_made (shape_of p x) h 0)

    -- W2
    node_solid : (s : Shape) → IsNode s → HasEmptyComponent p s → ⊥
    node_solid (shape.Coll kind part low high) n m = no_zero part.node (of n) m
      where
        of : IsNode (shape.Coll kind part low high) → IsChoice (shape_of p part.node)
        of (many h) = h
        of (atom e) = absurd (atom_coll e)
          where
            atom_coll : shape.Coll kind part low high ≡ shape.Atom 1 → ⊥
            atom_coll e = cc
        of (choice h) = absurd h
        of (pair h) = absurd h
        of (holder h) = absurd h
    node_solid (shape.Union parts) n m = m
    node_solid (shape.Product parts) n m = m
    node_solid (shape.Atom w) n m = m

    -- W3
    abbrev rank : Shape → ℕ
    rank (shape.Atom w) = 0
    rank (shape.Product parts) = 1
    rank (shape.Union parts) = 2
    rank (shape.Coll kind part low high) = 3

    z_rank : (x : ℕ) → x ≡ 0 → rank (shape_of p x) ≡ 0
    z_rank x e = ap rank (ap (shape_of p) e ∙ z_is)

    atom_rank : (s : Shape) → HasAtom s → rank s ≡ 1
    atom_rank (shape.Product parts) h = refl
    atom_rank (shape.Union parts) h = absurd h
    atom_rank (shape.Atom w) h = absurd h
    atom_rank (shape.Coll kind part low high) h = absurd h

    choice_rank : (s : Shape) → IsChoice s → rank s ≡ 2
    choice_rank (shape.Union parts) h = refl
    choice_rank (shape.Product parts) h = absurd h
    choice_rank (shape.Atom w) h = absurd h
    choice_rank (shape.Coll kind part low high) h = absurd h

    has_none : (x : ℕ) → x ≡ 0 → HasZero p x → ⊥
    has_none x e m = z_solid x e m.0 m.1

    abbrev Step : Shape → ℕ → Type 0
    Step s y = KeepsSize (HasZero p) s y → rank (shape_of p y) < rank s

    choice_step : (s : Shape) → IsChoice s → (y : ℕ) → Step s y
    choice_step (shape.Union (z ∷ (a ∷ (b ∷ [])))) h y (part, i, e) =
        elim i [
          | inl f ↦ omega (arith, z_rank y (sym e ∙ (ap (λ (q : Part). q.node) f ∙ h.0)))
          | inr (inl f) ↦ omega (arith, ap (λ x. rank (shape_of p x)) (sym e ∙ ap (λ (q : Part). q.node) f), atom_rank (shape_of p a.node) h.1)
          | inr (inr (inl f)) ↦ omega (arith, ap (λ x. rank (shape_of p x)) (sym e ∙ ap (λ (q : Part). q.node) f), atom_rank (shape_of p b.node) h.2)
          | inr (inr (inr i)) ↦ absurd i
        ]
    choice_step (shape.Union (z ∷ (a ∷ (b ∷ (c ∷ rest))))) h y k = absurd h
    choice_step (shape.Union (z ∷ (a ∷ []))) h y k = absurd h
    choice_step (shape.Union (z ∷ [])) h y k = absurd h
    choice_step (shape.Union []) h y k = absurd h
    choice_step (shape.Product parts) h y k = absurd h
    choice_step (shape.Atom w) h y k = absurd h
    choice_step (shape.Coll kind part low high) h y k = absurd h

    some_part : (a b : Part) → Some a ≡ Some b → a ≡ b
    some_part a b e = cc

    pair_step : (s : Shape) → IsPair s → (y : ℕ) → Step s y
    pair_step (shape.Product (z ∷ (a ∷ (b ∷ [])))) h y (zero, part, get, e, others) = absurd (no_zero a.node h.1 (others 1 a refl (λ e. omega (arith, e))))
    pair_step (shape.Product (z ∷ (a ∷ (b ∷ [])))) h y (suc i, part, get, e, others) = absurd (has_none z.node h.0 (others 0 z refl (λ e. omega (arith, e))))
    pair_step (shape.Product (z ∷ (a ∷ (b ∷ (c ∷ rest))))) h y k = absurd h
    pair_step (shape.Product (z ∷ (a ∷ []))) h y k = absurd h
    pair_step (shape.Product (z ∷ [])) h y k = absurd h
    pair_step (shape.Product []) h y k = absurd h
    pair_step (shape.Union parts) h y k = absurd h
    pair_step (shape.Atom w) h y k = absurd h
    pair_step (shape.Coll kind part low high) h y k = absurd h

    holder_step : (s : Shape) → IsHolder s → (y : ℕ) → Step s y
    holder_step (shape.Product (z ∷ (a ∷ []))) h y (zero, part, get, e, others) = omega (arith, z_rank y (sym e ∙ (sym (ap (λ (q : Part). q.node) (some_part z part get)) ∙ h.0)))
    holder_step (shape.Product (z ∷ (a ∷ []))) h y (suc i, part, get, e, others) = absurd (has_none z.node h.0 (others 0 z refl (λ e. omega (arith, e))))
    holder_step (shape.Product (z ∷ (a ∷ (b ∷ rest)))) h y k = absurd h
    holder_step (shape.Product (z ∷ [])) h y k = absurd h
    holder_step (shape.Product []) h y k = absurd h
    holder_step (shape.Union parts) h y k = absurd h
    holder_step (shape.Atom w) h y k = absurd h
    holder_step (shape.Coll kind part low high) h y k = absurd h

    many_step : (s : Shape) → IsMany s → (y : ℕ) → Step s y
    many_step (shape.Coll kind part low high) h y k = omega (arith, ap (λ x. rank (shape_of p x)) (sym k.0), choice_rank (shape_of p part.node) h)
    many_step (shape.Union parts) h y k = absurd h
    many_step (shape.Product parts) h y k = absurd h
    many_step (shape.Atom w) h y k = absurd h

    node_step : (s : Shape) → IsNode s → (y : ℕ) → Step s y
    node_step s (atom e) y k = absurd (subst (λ s. KeepsSize (HasZero p) s y) e k)
    node_step s (choice h) y k = choice_step s h y k
    node_step s (pair h) y k = pair_step s h y k
    node_step s (holder h) y k = holder_step s h y k
    node_step s (many h) y k = many_step s h y k

    nothing_step : (s : Shape) → s ≡ shape.Union [] → (y : ℕ) → KeepsSize (HasZero p) s y → ⊥
    nothing_step s e y k = (subst (λ s. KeepsSize (HasZero p) s y) e k).1

    -- all four
    pub kept : ((x : ℕ) → IsNode (shape_of p x) ⊎ (shape_of p x ≡ shape.Union [])) → ((x : ℕ) → x < length p.nodes → IsNode (shape_of p x))
        → ((f : ℕ) (P : Procedure) → slice_get p.procs f ≡ Some P → (g : ℕ) → CallsIn g P.body → ⊥) → IsFounded p
    kept all within none = record {
      inhabited = λ x l. node_made x (within x l);
      solid = λ x b. elim (all x) [ inl n ↦ node_solid (shape_of p x) n b | inr e ↦ subst (HasEmptyComponent p) e b ];
      no_circle = no_circle_by (SameSize p) (λ x. rank (shape_of p x)) (λ x y k. elim (all x) [ inl n ↦ node_step (shape_of p x) n y k | inr e ↦ absurd (nothing_step (shape_of p x) e y k) ]);
      no_endless = no_circle_by (OwnCall p) (λ f. 0) (λ f g c. absurd (none f c.0 c.1 g c.2));
    }
