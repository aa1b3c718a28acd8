-- What a source within the limits and without breach has: its definitions, its names and its procedures.
use Rattle.std.proofs.Common.{◌≡◌, ℕ, zero, suc, ◌≤◌, List, [], ◌∷◌, ◌++◌, length, Some, slice_get, refl, sym, ap, subst, inl, inr, arith}
use Rattle.std.specs.Prelude.{flat_map, Bool, true, false, if◌then◌else◌, nat_lt}
use Rattle.std.specs.List.{AllByRecursion}
use Rattle.std.proofs.lemmas.Bool.{ltb-false}
use Rattle.std.proofs.Math.Nat.{le-max_left, le-max_right}
use Rattle.luo_num.specs.declared.limits.TheConstants.{ANALYSIS_LIMIT, BOUND_LIMIT, DEFINITION_LIMIT, MULTISET_LIMIT, NODE_LIMIT, PART_LIMIT, PROCEDURE_LIMIT, STATEMENT_LIMIT}
use Rattle.luo_source.specs.declared.names.Name.{Name}
use Rattle.luo_source.specs.Plain.Types.{TypeDef}
use Rattle.luo_source.specs.Plain.Source.{Source}
use Rattle.luo_rules.specs.declared.error.CountLimit.{CountLimit}
use Rattle.luo_rules.specs.declared.error.CountLimit.TheVariants as count
use Rattle.luo_rules.specs.Counted.{most_parts, greatest_bound, greatest_by, definition_count, node_count, multiset_count, statement_count, passed, limits_passed}
use Rattle.luo_rules.specs.Definitions.{Definition, copies, definitions}
use Rattle.luo_rules.proofs.Lists.{some_same, none_some, get_cases, map_get, nil_left, nil_right}

pub all_get : {A : Type 0} (P : A → Type 0) (xs : List A) (i : ℕ) (x : A) → AllByRecursion P xs → slice_get xs i ≡ Some x → P x
all_get P [] i x h e = absurd (none_some x e)
all_get P (y ∷ xs) zero x h e = subst P (some_same y x e) h.0
all_get P (y ∷ xs) (suc i) x h e = all_get P xs i x h.1 e

pub greatest_get : (f : TypeDef → ℕ) (ts : List TypeDef) (i : ℕ) (t : TypeDef) (n : ℕ) → greatest_by f ts ≤ n → slice_get ts i ≡ Some t → f t ≤ n
greatest_get f [] i t n h e = absurd (none_some t e)
greatest_get f (u ∷ ts) zero t n h e = subst (λ z. f z ≤ n) (some_same u t e) (omega (arith, h, le-max_left (f u) (greatest_by f ts)))
greatest_get f (u ∷ ts) (suc i) t n h e = greatest_get f ts i t n (omega (arith, h, le-max_right (f u) (greatest_by f ts))) e

-- the type definition that a definition is a copy of
pub record CopyOf (ts : List TypeDef) (d : Definition) : Type 0 where
  pub k : ℕ
  pub t : TypeDef
  pub is : slice_get ts k ≡ Some t
  pub right : d.right ≡ t.body

pub copy_of : (ts : List TypeDef) (i : ℕ) (d : Definition) → slice_get (flat_map copies ts) i ≡ Some d → CopyOf ts d
copy_of [] i d e = absurd (none_some d e)
copy_of (t ∷ ts) i d e =
    elim (get_cases (copies t) (flat_map copies ts) i d e) [
      | inl g ↦
          let n = map_get (λ (name : Name). let v : Definition = record { name = name; right = t.body } in v) t.names i d g in
          record { k = 0; t = t; is = refl; right = ap (λ (z : Definition). z.right) n.2 }
      | inr g ↦ let c = copy_of ts g.0 d g.2 in record { k = suc c.k; t = c.t; is = c.is; right = c.right }
    ]

-- what is counted is within its limit
pub record Limits (source : Source) : Type 0 where
  pub definitions : definition_count source ≤ DEFINITION_LIMIT
  pub nodes : node_count source ≤ NODE_LIMIT
  pub parts : greatest_by (λ d. most_parts d.body) source.types ≤ PART_LIMIT
  pub bounds : greatest_by (λ d. greatest_bound d.body) source.types ≤ BOUND_LIMIT
  pub multisets : multiset_count source ≤ MULTISET_LIMIT
  pub procedures : length source.procs ≤ PROCEDURE_LIMIT
  pub statements : statement_count source ≤ STATEMENT_LIMIT
  pub analyses : length source.analyses ≤ ANALYSIS_LIMIT

not_passed : (which : CountLimit) (most counted : ℕ) → passed which most counted ≡ [] → counted ≤ most
not_passed which most counted e = ltb-false most counted (by (nat_lt most counted) e)
  where
    by : (b : Bool) → (if b then (which ∷ []) else []) ≡ [] → b ≡ false
    by true e = absurd (cc)
    by false e = refl

pub within_limits : (source : Source) → limits_passed source ≡ [] → Limits source
within_limits source e =
    let a = passed count.Definitions DEFINITION_LIMIT (definition_count source) in
    let b = passed count.Nodes NODE_LIMIT (node_count source) in
    let c = passed count.Parts PART_LIMIT (greatest_by (λ d. most_parts d.body) source.types) in
    let d = passed count.Bounds BOUND_LIMIT (greatest_by (λ d. greatest_bound d.body) source.types) in
    let f = passed count.Multisets MULTISET_LIMIT (multiset_count source) in
    let g = passed count.Procedures PROCEDURE_LIMIT (length source.procs) in
    let h = passed count.Statements STATEMENT_LIMIT (statement_count source) in
    let i = passed count.Analyses ANALYSIS_LIMIT (length source.analyses) in
    let e7 = nil_left (a ++ b ++ c ++ d ++ f ++ g ++ h) i e in
    let e6 = nil_left (a ++ b ++ c ++ d ++ f ++ g) h e7 in
    let e5 = nil_left (a ++ b ++ c ++ d ++ f) g e6 in
    let e4 = nil_left (a ++ b ++ c ++ d) f e5 in
    let e3 = nil_left (a ++ b ++ c) d e4 in
    let e2 = nil_left (a ++ b) c e3 in
    record {
      definitions = not_passed count.Definitions DEFINITION_LIMIT (definition_count source) (nil_left a b e2);
      nodes = not_passed count.Nodes NODE_LIMIT (node_count source) (nil_right a b e2);
      parts = not_passed count.Parts PART_LIMIT (greatest_by (λ d. most_parts d.body) source.types) (nil_right (a ++ b) c e3);
      bounds = not_passed count.Bounds BOUND_LIMIT (greatest_by (λ d. greatest_bound d.body) source.types) (nil_right (a ++ b ++ c) d e4);
      multisets = not_passed count.Multisets MULTISET_LIMIT (multiset_count source) (nil_right (a ++ b ++ c ++ d) f e5);
      procedures = not_passed count.Procedures PROCEDURE_LIMIT (length source.procs) (nil_right (a ++ b ++ c ++ d ++ f) g e6);
      statements = not_passed count.Statements STATEMENT_LIMIT (statement_count source) (nil_right (a ++ b ++ c ++ d ++ f ++ g) h e7);
      analyses = not_passed count.Analyses ANALYSIS_LIMIT (length source.analyses) (nil_right (a ++ b ++ c ++ d ++ f ++ g ++ h) i e);
    }

pub copies_limited : (source : Source) → Limits source → (i : ℕ) (d : Definition) → slice_get (definitions source) i ≡ Some d → (most_parts d.right ≤ PART_LIMIT) × (greatest_bound d.right ≤ BOUND_LIMIT)
copies_limited source l i d e =
    let c = copy_of source.types i d e in
    let p = greatest_get (λ t. most_parts t.body) source.types c.k c.t PART_LIMIT l.parts c.is in
    let b = greatest_get (λ t. greatest_bound t.body) source.types c.k c.t BOUND_LIMIT l.bounds c.is in
    (subst (λ r. most_parts r ≤ PART_LIMIT) (sym c.right) p, subst (λ r. greatest_bound r ≤ BOUND_LIMIT) (sym c.right) b)
