-- The core form of a sample is well-founded.
use Rattle.std.proofs.Common.{◌≡◌, ◌<◌, ◌≤◌, ◌⊎◌, ◌+◌, ◌*◌, ℕ, zero, suc, List, [], ◌∷◌, length, refl, ap, sym, ◌∙◌, subst, inl, inr, arith, Some, None, slice_get, codes}
use Rattle.std.specs.Prelude.{slice_index_or}
use Rattle.luo_model.specs.declared.program.Universe.{Universe}
use Rattle.luo_model.specs.declared.program.Part.{Part}
use Rattle.luo_model.specs.declared.program.Node.{Node}
use Rattle.luo_model.specs.declared.program.Shape.{Shape}
use Rattle.luo_model.specs.declared.program.Shape.TheVariants as shape
use Rattle.luo_model.specs.Program.{Program, Procedure, shape_of, no_node}
use Rattle.luo_model.specs.Invariant.{bare}
use Rattle.luo_source.specs.Plain.Source.{ProcDef, Source}
use Rattle.luo_rules.specs.declared.names.Meaning.{Meaning}
use Rattle.luo_rules.specs.declared.names.Meaning.TheVariants as mean
use Rattle.luo_rules.specs.Meanings.{meaning}
use Rattle.luo_rules.specs.Definitions.{Definition, definitions, definition_meant, names_of}
use Rattle.luo_rules.specs.Nodes.{named_part, setting_of}
use Rattle.luo_rules.specs.TypeBreaches.{low_of}
use Rattle.luo_rules.specs.Whole.{core, procs_core}
use Rattle.luo_rules.proofs.Lists.{index_get}
use Rattle.luo_model.specs.Founded.{CallsIn, IsFounded}
use Rattle.luo_sample.specs.declared.choice.Choice.{Choice}
use Rattle.luo_sample.specs.Text.{type_name, proc_name, kind_chosen}
use Rattle.luo_sample.proofs.Form.{IsSource, AreProcs, proc_of}
use Rattle.luo_sample.proofs.Lines.{IsSmallChoice}
use Rattle.luo_sample.proofs.Table.{names_are, type_means, proc_means, z_means, unit_means}
use Rattle.luo_sample.proofs.Nodes.{Has, Block, part_for, quad, quad_is, z_node, type_node, z_has, type_has, all_count}
use Rattle.luo_sample.proofs.Kept.{HasAtom, IsChoice, IsPair, IsMany, IsHolder, IsNode, atom, choice, pair, holder, many, kept}

past_end : {A : Type 0} (xs : List A) (i : ℕ) (d : A) → length xs ≤ i → slice_index_or xs i d ≡ d
past_end [] i d l = refl
past_end (x ∷ xs) zero d l = absurd (omega (arith, l))
past_end (x ∷ xs) (suc i) d l = past_end xs i d (omega (arith, l))

pub has_shape : (p : Program) (m x : ℕ) (s : Shape) → Has p.nodes m s → m ≡ x → shape_of p x ≡ s
has_shape p m x s (node, get, e) h = subst (λ x. shape_of p x ≡ s) h (ap (λ (n : Node). n.shape) (index_get p.nodes m node no_node get) ∙ e)

-- each number is a multiple of four and at most three more
pub quarter : (n : ℕ) → (i : ℕ) × ((n ≡ 4 * i) ⊎ (n ≡ 4 * i + 1) ⊎ (n ≡ 4 * i + 2) ⊎ (n ≡ 4 * i + 3))
quarter zero = (0, inl (omega arith))
quarter (suc n) = by (quarter n)
  where
    by : ((i : ℕ) × ((n ≡ 4 * i) ⊎ (n ≡ 4 * i + 1) ⊎ (n ≡ 4 * i + 2) ⊎ (n ≡ 4 * i + 3))) → (i : ℕ) × ((suc n ≡ 4 * i) ⊎ (suc n ≡ 4 * i + 1) ⊎ (suc n ≡ 4 * i + 2) ⊎ (suc n ≡ 4 * i + 3))
    by (i, inl e) = (i, inr (inl (omega (arith, e))))
    by (i, inr (inl e)) = (i, inr (inr (inl (omega (arith, e)))))
    by (i, inr (inr (inl e))) = (i, inr (inr (inr (omega (arith, e)))))
    by (i, inr (inr (inr e))) = (suc i, inl (omega (arith, e)))

module _ (u : Universe) (choices : ℕ → Choice) (small : (i : ℕ) → IsSmallChoice (choices i)) (s : Source) (q : IsSource u choices s) where
  abbrev names : List (List ℕ × Meaning)
  names = names_of s

  abbrev defs : List Definition
  defs = definitions s

  pub type_meant : (i : ℕ) → i < 20 → meaning names (type_name i) ≡ Some (mean.Definition (suc i))
  type_meant i l = subst (λ ns. meaning ns (type_name i) ≡ Some (mean.Definition (suc i))) (sym (names_are u choices s q)) (type_means i l)

  pub proc_meant : (i : ℕ) → i < 20 → meaning names (proc_name i) ≡ Some (mean.Procedure i)
  proc_meant i l = subst (λ ns. meaning ns (proc_name i) ≡ Some (mean.Procedure i)) (sym (names_are u choices s q)) (proc_means i l)

  pub z_meant : meaning names (codes "z") ≡ Some (mean.Definition 0)
  z_meant = subst (λ ns. meaning ns (codes "z") ≡ Some (mean.Definition 0)) (sym (names_are u choices s q)) z_means

  pub unit_meant : meaning names (codes "unit") ≡ Some (mean.Measure 0 1)
  unit_meant = subst (λ ns. meaning ns (codes "unit") ≡ Some (mean.Measure 0 1)) (sym (names_are u choices s q)) unit_means

  abbrev pub part : List ℕ → Part
  part text = part_for u choices names defs text

  pub z_part : (part (codes "z")).node ≡ 0
  z_part = ap (λ m. (named_part names defs (definition_meant m)).node) z_meant ∙ z_node u choices names s.types q.types

  pub type_part : (i : ℕ) → i < 20 → (part (type_name i)).node ≡ 1 + 4 * i
  type_part i l = ap (λ m. (named_part names defs (definition_meant m)).node) (type_meant i l) ∙ (type_node u choices names s.types q.types i (omega (arith, l)) ∙ omega arith)

  abbrev p : Program
  p = core s

  pub block_at : (i : ℕ) → i < 20 → Block u choices names defs p.nodes (suc (quad i)) (1 + 4 * i) (choices i)
  block_at i l = type_has u choices names defs s.types q.types i l

  pub z_shape : shape_of p 0 ≡ shape.Atom 1
  z_shape = has_shape p 0 0 (shape.Atom 1) (z_has u choices names defs s.types q.types) refl

  pub whole_shape : (i : ℕ) → i < 20 → shape_of p (1 + 4 * i) ≡ shape.Union (part (codes "z") ∷ bare (1 + 4 * i + 1) ∷ bare (1 + 4 * i + 2) ∷ [])
  whole_shape i l = has_shape p (suc (quad i)) (1 + 4 * i) _ (block_at i l).whole (omega (arith, quad_is i))

  pub pair_shape : (i : ℕ) → i < 20 → shape_of p (1 + 4 * i + 1) ≡ shape.Product (part (codes "z") ∷ part (type_name (choices i).first) ∷ part (type_name (choices i).second) ∷ [])
  pair_shape i l = has_shape p (suc (suc (quad i))) (1 + 4 * i + 1) _ (block_at i l).pair (omega (arith, quad_is i))

  pub holder_shape : (i : ℕ) → i < 20 → shape_of p (1 + 4 * i + 2) ≡ shape.Product (part (codes "z") ∷ bare (1 + 4 * i + 3) ∷ [])
  holder_shape i l = has_shape p (suc (suc (suc (quad i)))) (1 + 4 * i + 2) _ (block_at i l).holder (omega (arith, quad_is i))

  pub many_shape : (i : ℕ) → i < 20 → shape_of p (1 + 4 * i + 3) ≡ shape.Coll (kind_chosen u (choices i).kind) (part (type_name (choices i).inner)) (low_of (kind_chosen u (choices i).kind) None) None
  many_shape i l = has_shape p (suc (suc (suc (suc (quad i))))) (1 + 4 * i + 3) _ (block_at i l).many (omega (arith, quad_is i))

  is_choice : (i : ℕ) → i < 20 → IsChoice p (shape_of p (1 + 4 * i))
  is_choice i l = subst (IsChoice p) (sym (whole_shape i l)) (z_part, subst (HasAtom p) (sym (pair_shape i l)) z_part, subst (HasAtom p) (sym (holder_shape i l)) z_part)

  names_choice : (i : ℕ) → i < 20 → IsChoice p (shape_of p (part (type_name i)).node)
  names_choice i l = subst (λ x. IsChoice p (shape_of p x)) (sym (type_part i l)) (is_choice i l)

  is_pair : (i : ℕ) → i < 20 → IsPair p (shape_of p (1 + 4 * i + 1))
  is_pair i l = subst (IsPair p) (sym (pair_shape i l)) (z_part, names_choice (choices i).first (small i).first, names_choice (choices i).second (small i).second)

  is_many : (i : ℕ) → i < 20 → IsMany p (shape_of p (1 + 4 * i + 3))
  is_many i l = subst (IsMany p) (sym (many_shape i l)) (names_choice (choices i).inner (small i).inner)

  is_holder : (i : ℕ) → i < 20 → IsHolder p (shape_of p (1 + 4 * i + 2))
  is_holder i l = subst (IsHolder p) (sym (holder_shape i l)) (z_part, is_many i l)

  count_is : length p.nodes ≡ 81
  count_is = all_count u choices names defs s.types q.types

  is_node : (x : ℕ) → x < length p.nodes → IsNode p (shape_of p x)
  is_node zero l = atom z_shape
  is_node (suc n) l = by (quarter n)
    where
      few : n < 80
      few = omega (arith, l, count_is)

      by : ((i : ℕ) × ((n ≡ 4 * i) ⊎ (n ≡ 4 * i + 1) ⊎ (n ≡ 4 * i + 2) ⊎ (n ≡ 4 * i + 3))) → IsNode p (shape_of p (suc n))
      by (i, inl e) = let m : 1 + 4 * i ≡ suc n = omega (arith, e) in subst (λ x. IsNode p (shape_of p x)) m (choice (is_choice i (omega (arith, e, few))))
      by (i, inr (inl e)) = let m : 1 + 4 * i + 1 ≡ suc n = omega (arith, e) in subst (λ x. IsNode p (shape_of p x)) m (pair (is_pair i (omega (arith, e, few))))
      by (i, inr (inr (inl e))) = let m : 1 + 4 * i + 2 ≡ suc n = omega (arith, e) in subst (λ x. IsNode p (shape_of p x)) m (holder (is_holder i (omega (arith, e, few))))
      by (i, inr (inr (inr e))) = let m : 1 + 4 * i + 3 ≡ suc n = omega (arith, e) in subst (λ x. IsNode p (shape_of p x)) m (many (is_many i (omega (arith, e, few))))

  is_any : (x : ℕ) → IsNode p (shape_of p x) ⊎ (shape_of p x ≡ shape.Union [])
  is_any x = elim (below_or_not x) [ inl l ↦ inl (is_node x l) | inr l ↦ inr (ap (λ (n : Node). n.shape) (past_end p.nodes x no_node l)) ]
    where
      below_or_not : (x : ℕ) → (x < length p.nodes) ⊎ (length p.nodes ≤ x)
      below_or_not x = grind arith

  no_calls : (i n first : ℕ) (ps : List ProcDef) → AreProcs choices i n ps → (f : ℕ) (P : Procedure) → slice_get (procs_core (setting_of s) first ps) f ≡ Some P → (g : ℕ) → CallsIn g P.body → ⊥
  no_calls i zero first [] e f P get g c = none_some P get
    where
      none_some : (P : Procedure) → None ≡ Some P → ⊥
      none_some P e = cc
  no_calls i zero first (x ∷ ps) e f P get g c = e
  no_calls i (suc n) first [] e f P get g c = e
  no_calls i (suc n) first (_ ∷ ps) (proc_of ks, e) zero P get g c = subst (CallsIn g) (sym (same_body _ P get)) c
    where
      same_body : (Q P : Procedure) → Some Q ≡ Some P → Q.body ≡ P.body
      same_body Q P e = cc
  no_calls i (suc n) first (_ ∷ ps) (proc_of ks, e) (suc f) P get g c = no_calls (suc i) n _ ps e f P get g c

  pub is_founded : IsFounded p
  is_founded = kept p z_shape is_any is_node (no_calls 0 20 0 s.procs q.procs)
