-- A sample passes no limit.
use Rattle.std.proofs.Common.{◌≡◌, ◌≤◌, ◌+◌, ◌*◌, max, ℕ, zero, suc, List, [], ◌∷◌, ◌++◌, length, refl, ap, ◌∙◌, arith, codes}
use Rattle.std.specs.Prelude.{sum_by, if◌then◌else◌}
use Rattle.std.proofs.lemmas.Bool.{le-ltb}
use Rattle.std.proofs.lemmas.List.Sums.{sum_by-cons}
use Rattle.luo_model.specs.declared.program.Universe.{Universe}
use Rattle.luo_model.specs.declared.program.Kind.{Kind}
use Rattle.luo_model.specs.declared.program.Kind.TheVariants.{Sequence, Set, Cycle, Multiset, Powerset}
use Rattle.luo_source.specs.Plain.Types.{Atom, TypeDef}
use Rattle.luo_source.specs.declared.names.Name.{Name}
use Rattle.luo_source.specs.Plain.Source.{ProcDef, Source}
use Rattle.luo_rules.specs.declared.error.CountLimit.{CountLimit}
use Rattle.luo_rules.specs.declared.error.CountLimit.TheVariants as count
use Rattle.luo_rules.specs.Counted.{own_nodes, own_multisets, most_parts, greatest_bound, body_statements, greatest_by, definition_count, node_count, multiset_count, statement_count, passed, limits_passed}
use Rattle.luo_sample.specs.declared.choice.Choice.{Choice}
use Rattle.luo_sample.specs.Text.{proc_name, kind_chosen}
use Rattle.luo_sample.proofs.Form.{at, IsSource, EachFrom, AllTypes, atom_def, IsTypeOf, type_of, type_form_with, IsProcOf, proc_of}

both : {A : Type 0} (xs ys : List A) → xs ≡ [] → ys ≡ [] → xs ++ ys ≡ []
both xs ys e f = ap (λ z. z ++ ys) e ∙ f

within : (which : CountLimit) (most counted : ℕ) → counted ≤ most → passed which most counted ≡ []
within which most counted l = ap (λ b. if b then which ∷ [] else []) (le-ltb most counted l)

-- so often this number
abbrev times : ℕ → ℕ → ℕ
times zero k = 0
times (suc n) k = k + times n k

module _ {A : Type 0} (P : ℕ → A → Type 0) (f : A → ℕ) (k : ℕ) (h : (i : ℕ) (x : A) → P i x → f x ≤ k) where
  sum_most : (i n : ℕ) (xs : List A) → EachFrom P i n xs → sum_by f xs ≤ times n k
  sum_most i zero [] e = omega arith
  sum_most i zero (x ∷ xs) e = absurd e
  sum_most i (suc n) [] e = absurd e
  sum_most i (suc n) (x ∷ xs) e = omega (arith, sum_by-cons f x xs, h i x e.0, sum_most (suc i) n xs e.1)

  greatest_most : (i n : ℕ) (xs : List A) → EachFrom P i n xs → greatest_by f xs ≤ k
  greatest_most i zero [] e = omega arith
  greatest_most i zero (x ∷ xs) e = absurd e
  greatest_most i (suc n) [] e = absurd e
  greatest_most i (suc n) (x ∷ xs) e = omega (arith, h i x e.0, greatest_most (suc i) n xs e.1)

length_each : {A : Type 0} (P : ℕ → A → Type 0) (i n : ℕ) (xs : List A) → EachFrom P i n xs → length xs ≡ n
length_each P i zero [] e = refl
length_each P i zero (x ∷ xs) e = absurd e
length_each P i (suc n) [] e = absurd e
length_each P i (suc n) (x ∷ xs) e = ap suc (length_each P (suc i) n xs e.1)

four_nodes : (u : Universe) (i : ℕ) (c : Choice) (d : TypeDef) → IsTypeOf u i c d → length d.names * own_nodes d.body ≡ 4
four_nodes u i c _ (type_of ks) = refl

three_parts : (u : Universe) (i : ℕ) (c : Choice) (d : TypeDef) → IsTypeOf u i c d → most_parts d.body ≡ 3
three_parts u i c _ (type_of ks) = refl

no_bound : (u : Universe) (i : ℕ) (c : Choice) (d : TypeDef) → IsTypeOf u i c d → greatest_bound d.body ≡ 0
no_bound u i c _ (type_of ks) = refl

few_multisets : (kind : Kind) (i : ℕ) (c : Choice) (ks : List ℕ) → length (type_form_with kind i c ks).names * own_multisets (type_form_with kind i c ks).body ≤ 1
few_multisets Sequence i c ks = omega arith
few_multisets Set i c ks = omega arith
few_multisets Cycle i c ks = omega arith
few_multisets Multiset i c ks = omega arith
few_multisets Powerset i c ks = omega arith

one_multiset : (u : Universe) (i : ℕ) (c : Choice) (d : TypeDef) → IsTypeOf u i c d → length d.names * own_multisets d.body ≤ 1
one_multiset u i c _ (type_of ks) = few_multisets (kind_chosen u c.kind) i c ks

seven : (i : ℕ) (c : Choice) (p : ProcDef) → IsProcOf i c p → body_statements p.body ≡ 7
seven i c _ (proc_of ks) = refl

module _ (u : Universe) (choices : ℕ → Choice) where
  over_types : (f : TypeDef → ℕ) (first k : ℕ) → ((a b c : ℕ) → f (record { names = at (codes "z") a ∷ []; body = Atom 1 b c }) ≤ first) → ((i : ℕ) (d : TypeDef) → IsTypeOf u i (choices i) d → f d ≤ k)
      → (ds : List TypeDef) → AllTypes u choices ds → (sum_by f ds ≤ first + times 20 k) × (greatest_by f ds ≤ max first k)
  over_types f first k h g [] e = absurd e
  over_types f first k h g (d ∷ ds) (atom_def {a = a} {b = b} {c = c}, e) =
      let s = sum_most (λ i d. IsTypeOf u i (choices i) d) f k g 0 20 ds e in
      let m = greatest_most (λ i d. IsTypeOf u i (choices i) d) f k g 0 20 ds e in
      (omega (arith, sum_by-cons f d ds, h a b c, s), omega (arith, h a b c, m))

  pub none_passed : (s : Source) → IsSource u choices s → limits_passed s ≡ []
  none_passed s q =
      let defs = over_types (λ d. length d.names) 1 1 (λ a b c. omega arith) (λ i d e. one_name i d e) s.types q.types in
      let nodes = over_types (λ d. length d.names * own_nodes d.body) 1 4 (λ a b c. omega arith) (λ i d e. omega (arith, four_nodes u i (choices i) d e)) s.types q.types in
      let parts = over_types (λ d. most_parts d.body) 0 3 (λ a b c. omega arith) (λ i d e. omega (arith, three_parts u i (choices i) d e)) s.types q.types in
      let bounds = over_types (λ d. greatest_bound d.body) 0 0 (λ a b c. omega arith) (λ i d e. omega (arith, no_bound u i (choices i) d e)) s.types q.types in
      let sets = over_types (λ d. length d.names * own_multisets d.body) 0 1 (λ a b c. omega arith) (λ i d e. one_multiset u i (choices i) d e) s.types q.types in
      let procs = length_each (λ i p. IsProcOf i (choices i) p) 0 20 s.procs q.procs in
      let stmts = sum_most (λ i p. IsProcOf i (choices i) p) (λ (p : ProcDef). body_statements p.body) 7 (λ i p e. omega (arith, seven i (choices i) p e)) 0 20 s.procs q.procs in
      let named = length_each (λ i (name : Name). name.text ≡ proc_name i) 0 8 s.analyses q.analyses in
      both _ _ (both _ _ (both _ _ (both _ _ (both _ _ (both _ _ (both _ _
      (within count.Definitions 64 (definition_count s) (omega (arith, defs.0)))
      (within count.Nodes 128 (node_count s) (omega (arith, nodes.0))))
      (within count.Parts 64 (greatest_by (λ (d : TypeDef). most_parts d.body) s.types) (omega (arith, parts.1))))
      (within count.Bounds 100 (greatest_by (λ (d : TypeDef). greatest_bound d.body) s.types) (omega (arith, bounds.1))))
      (within count.Multisets 32 (multiset_count s) (omega (arith, sets.0))))
      (within count.Procedures 64 (length s.procs) (omega (arith, procs))))
      (within count.Statements 1024 (statement_count s) (omega (arith, stmts))))
      (within count.Analyses 16 (length s.analyses) (omega (arith, named)))
    where
      one_name : (i : ℕ) (d : TypeDef) → IsTypeOf u i (choices i) d → length d.names ≤ 1
      one_name i _ (type_of ks) = omega arith
