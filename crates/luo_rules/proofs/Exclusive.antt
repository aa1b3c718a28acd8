-- Each answer of a check excludes the others.
use Rattle.std.proofs.Common.{◌≡◌, ℕ, ◌⊎◌, inl, inr, List, [], ◌∷◌, ◌++◌, length, Result, Ok, Err, IfOk, IfErr, nat_lt, refl, sym, ◌∙◌, ap, subst, arith}
use Rattle.std.specs.List.{AllByRecursion}
use Rattle.luo_num.specs.declared.limits.TheConstants.{ANALYSIS_LIMIT, BOUND_LIMIT, DEFINITION_LIMIT, MULTISET_LIMIT, NODE_LIMIT, PART_LIMIT, PROCEDURE_LIMIT, STATEMENT_LIMIT}
use Rattle.luo_model.specs.Program.{Program}
use Rattle.luo_model.specs.View.{Held, plain_of}
use Rattle.luo_source.specs.Plain.Source.{Source}
use Rattle.luo_rules.specs.declared.rule.Breach.{Breach}
use Rattle.luo_rules.specs.declared.error.CheckError.{CheckError}
use Rattle.luo_rules.specs.declared.error.CheckError.TheVariants.{Limit, Rule, NoMemory}
use Rattle.luo_rules.specs.declared.error.CountLimit.{CountLimit}
use Rattle.luo_rules.specs.declared.error.CountLimit.TheVariants as count
use Rattle.luo_rules.specs.Checks.{PassesFirst, IsWithinLimits, BreaksFirst, WalksTooMuch, IsChecked, IsUnchecked, IsRefusal, IsProgramAnswer}
use Rattle.luo_rules.specs.Counted.{most_parts, greatest_bound, greatest_by, definition_count, node_count, multiset_count, statement_count, passed, limits_passed}
use Rattle.luo_rules.specs.Whole.{breaches, walk_count}
use Rattle.luo_rules.proofs.NameFacts.{either_if}

-- what is counted before all else
abbrev IsCounted : CountLimit → Type 0
IsCounted count.Walks = ⊥
IsCounted _ = Unit {0}

counted_append : (xs ys : List CountLimit) → AllByRecursion IsCounted xs → AllByRecursion IsCounted ys → AllByRecursion IsCounted (xs ++ ys)
counted_append [] ys h k = k
counted_append (x ∷ xs) ys h k = (h.0, counted_append xs ys h.1 k)

counted_passed : (which : CountLimit) (most counted : ℕ) → IsCounted which → AllByRecursion IsCounted (passed which most counted)
counted_passed which most counted h = either_if (AllByRecursion IsCounted) (nat_lt most counted) (which ∷ []) [] (h, tt) tt

counted_all : (source : Source) → AllByRecursion IsCounted (limits_passed source)
counted_all source =
    counted_append _ _ (counted_append _ _ (counted_append _ _ (counted_append _ _ (counted_append _ _ (counted_append _ _ (counted_append _ _
    (counted_passed count.Definitions DEFINITION_LIMIT (definition_count source) tt)
    (counted_passed count.Nodes NODE_LIMIT (node_count source) tt))
    (counted_passed count.Parts PART_LIMIT (greatest_by (λ d. most_parts d.body) source.types) tt))
    (counted_passed count.Bounds BOUND_LIMIT (greatest_by (λ d. greatest_bound d.body) source.types) tt))
    (counted_passed count.Multisets MULTISET_LIMIT (multiset_count source) tt))
    (counted_passed count.Procedures PROCEDURE_LIMIT (length source.procs) tt))
    (counted_passed count.Statements STATEMENT_LIMIT (statement_count source) tt))
    (counted_passed count.Analyses ANALYSIS_LIMIT (length source.analyses) tt)

-- why a check gives an error
pub data Cause (source : Source) : CheckError → Type 0 where
  passes : (which : CountLimit) → PassesFirst source which → Cause source (Limit which)
  breaks : (b : Breach) → IsWithinLimits source → BreaksFirst source b → Cause source (Rule b.rule b.token b.names)
  walks : IsWithinLimits source → WalksTooMuch source → Cause source (Limit count.Walks)
  no_memory : Cause source NoMemory

pub cause : (source : Source) (e : CheckError) → IsUnchecked source e → Cause source e
cause source (Limit count.Definitions) h = passes count.Definitions h
cause source (Limit count.Nodes) h = passes count.Nodes h
cause source (Limit count.Parts) h = passes count.Parts h
cause source (Limit count.Bounds) h = passes count.Bounds h
cause source (Limit count.Multisets) h = passes count.Multisets h
cause source (Limit count.Procedures) h = passes count.Procedures h
cause source (Limit count.Statements) h = passes count.Statements h
cause source (Limit count.Analyses) h = passes count.Analyses h
cause source (Limit count.Walks) h = walks h.0 h.1
cause source (Rule rule token names) h = breaks (record { rule = rule; token = token; names = names }) h.0 h.1
cause source NoMemory h = no_memory

-- a limit that is passed first is none on walks
pub unchecked-limit : (source : Source) (which : CountLimit) → PassesFirst source which → IsUnchecked source (Limit which)
unchecked-limit source count.Definitions h = h
unchecked-limit source count.Nodes h = h
unchecked-limit source count.Parts h = h
unchecked-limit source count.Bounds h = h
unchecked-limit source count.Multisets h = h
unchecked-limit source count.Procedures h = h
unchecked-limit source count.Statements h = h
unchecked-limit source count.Analyses h = h
unchecked-limit source count.Walks h = absurd (subst (AllByRecursion IsCounted) h.1 (counted_all source)).0

within_no_limit : (source : Source) (which : CountLimit) → IsWithinLimits source → PassesFirst source which → ⊥
within_no_limit source which w h = let e : [] ≡ which ∷ h.0 = sym w ∙ h.1 in cc

unbroken_no_breach : (source : Source) (b : Breach) → breaches source ≡ [] → BreaksFirst source b → ⊥
unbroken_no_breach source b w h = let e : [] ≡ b ∷ h.0 = sym w ∙ h.1 in cc

first_limit : (source : Source) (a b : CountLimit) → PassesFirst source a → PassesFirst source b → a ≡ b
first_limit source a b h k = let e : a ∷ h.0 ≡ b ∷ k.0 = sym h.1 ∙ k.1 in cc

first_breach : (source : Source) (a b : Breach) → BreaksFirst source a → BreaksFirst source b → a ≡ b
first_breach source a b h k = let e : a ∷ h.0 ≡ b ∷ k.0 = sym h.1 ∙ k.1 in cc

-- of two errors of which the second isn't want of memory, the first is the same or want of memory
pub one-cause : (source : Source) {e f : CheckError} → Cause source e → Cause source f → (f ≡ NoMemory → ⊥) → (e ≡ f) ⊎ (e ≡ NoMemory)
one-cause source no_memory k other = inr refl
one-cause source (passes a h) (passes b k) other = inl (ap Limit (first_limit source a b h k))
one-cause source (passes a h) (breaks b w k) other = absurd (within_no_limit source a w h)
one-cause source (passes a h) (walks w k) other = absurd (within_no_limit source a w h)
one-cause source (passes a h) no_memory other = absurd (other refl)
one-cause source (breaks a v h) (passes b k) other = absurd (within_no_limit source b v k)
one-cause source (breaks a v h) (breaks b w k) other = inl (ap (λ (c : Breach). Rule c.rule c.token c.names) (first_breach source a b h k))
one-cause source (breaks a v h) (walks w k) other = absurd (unbroken_no_breach source a k.0 h)
one-cause source (breaks a v h) no_memory other = absurd (other refl)
one-cause source (walks v h) (passes b k) other = absurd (within_no_limit source b v k)
one-cause source (walks v h) (breaks b w k) other = absurd (unbroken_no_breach source b h.0 k)
one-cause source (walks v h) (walks w k) other = inl refl
one-cause source (walks v h) no_memory other = absurd (other refl)

-- beside a program the only error is want of memory
pub checked-cause : (source : Source) (p : Program) {e : CheckError} → IsChecked source p → Cause source e → e ≡ NoMemory
checked-cause source p is (passes a h) = absurd (within_no_limit source a is.0 h)
checked-cause source p is (breaks a v h) = absurd (unbroken_no_breach source a is.1.0 h)
checked-cause source p is (walks v h) = absurd (omega (arith, ap walk_count is.1.1, is.2, h.1))
checked-cause source p is no_memory = refl

module _ (source : Source) where
  pub refusal : (r : Result Held CheckError) → IfOk r (λ p. IsChecked source (plain_of p)) → IfErr r (λ e. IsUnchecked source e) → (e : CheckError) → Cause source e → (e ≡ NoMemory → ⊥) → IsRefusal e r
  refusal (Ok p) ok err e is other = absurd (other (checked-cause source (plain_of p) ok is))
  refusal (Err given) ok err e is other = one-cause source (cause source given err) is other

  pub program-answer : (r : Result Held CheckError) → IfErr r (λ e. IsUnchecked source e) → (p : Program) → IsChecked source p → IsProgramAnswer r
  program-answer (Ok p) err q is = tt
  program-answer (Err given) err q is = checked-cause source q is (cause source given err)

  pub limit-refusal : (r : Result Held CheckError) → IfOk r (λ p. IsChecked source (plain_of p)) → IfErr r (λ e. IsUnchecked source e) → (which : CountLimit) → PassesFirst source which → IsRefusal (Limit which) r
  limit-refusal r ok err which h = refusal r ok err (Limit which) (passes which h) (λ e. cc)

  pub rule-refusal : (r : Result Held CheckError) → IfOk r (λ p. IsChecked source (plain_of p)) → IfErr r (λ e. IsUnchecked source e) → (b : Breach) → IsWithinLimits source → BreaksFirst source b → IsRefusal (Rule b.rule b.token b.names) r
  rule-refusal r ok err b w h = refusal r ok err (Rule b.rule b.token b.names) (breaks b w h) (λ e. cc)

  pub walks-refusal : (r : Result Held CheckError) → IfOk r (λ p. IsChecked source (plain_of p)) → IfErr r (λ e. IsUnchecked source e) → IsWithinLimits source → WalksTooMuch source → IsRefusal (Limit count.Walks) r
  walks-refusal r ok err w h = refusal r ok err (Limit count.Walks) (walks w h) (λ e. cc)

pub one-answer : (source : Source) (e f : CheckError) → IsUnchecked source e → IsUnchecked source f → (e ≡ NoMemory → ⊥) → (f ≡ NoMemory → ⊥) → e ≡ f
one-answer source e f h k not_e not_f = by (one-cause source (cause source e h) (cause source f k) not_f)
  where
    by : (e ≡ f) ⊎ (e ≡ NoMemory) → e ≡ f
    by (inl same) = same
    by (inr none) = absurd (not_e none)
