-- What an audit finds: few structures, rows whose totals don't overflow, and the first total that does.
use Rattle.std.proofs.Common.{◌≡◌, ◌⊎◌, ℕ, ◌+◌, ◌<◌, ◌≤◌, take, List, [], ◌∷◌, ◌++◌, length, get_or, inl, inr, refl, sym, ◌∙◌, ap, subst, arith, Some, slice_get, Ok, Err}
use Rattle.std.proofs.lemmas.List.{take_more, take_all}
use Rattle.std.proofs.lemmas.Option.{slice_get-get_or, slice_get_within}
use Rattle.luo_finite.specs.Listing.{In}
use Rattle.luo_finite.specs.Steps.{IsSingle}
use Rattle.luo_finite.proofs.Membership.{In-append_cases}
use Rattle.luo_finite.proofs.Places.{some_same}
use Rattle.luo_num.specs.declared.TheConstants.{MAX}
use Rattle.luo_num.specs.declared.limits.TheConstants.{WALKED_LIMIT}
use Rattle.luo_model.specs.declared.program.Proc.{Proc}
use Rattle.luo_model.specs.declared.table.Row.{Row}
use Rattle.luo_model.specs.Invariant.{IsProgram}
use Rattle.luo_model.specs.Program.{Program, Procedure}
use Rattle.luo_model.specs.Tables.{IsCount, IsTotal, IsRow}
use Rattle.luo_model.specs.View.{Held, plain_of, procedure_of}
use Rattle.luo_model.proofs.TableLemmas.{counts_are_single, totals_are_single}
use Rattle.luo_model.proofs.WorkLemmas.{sites_are_apart}
use Rattle.luo_audit.specs.Audit.{CountIs, TotalIs}
use Rattle.luo_report.specs.declared.table.Table.{Table}
use Rattle.luo_answer.specs.declared.status.Status.TheVariants.{Overflow}
use Rattle.luo_answer.specs.Answer.{Answer, Refusal}
use Rattle.luo_answer.specs.Commands.Audit.{HasTooMany, IsOverAt, IsTotalOver, IsFirstTotalOver, AuditRefusal}
use Rattle.luo_answer.specs.Names.{procedure_name}
use Rattle.luo_answer.specs.Overflows.{IsEarlier, audit_line}
use Rattle.luo_answer.specs.Report.{AreTables}
use Rattle.luo_answer.specs.Step.{HasNone}
use Rattle.luo_answer.specs.declared.refusal.Refusal as code
use Rattle.luo_answer.specs.inner.Audited.{AreFew, Names, IsFirstOf, AuditsRow, AuditsRows}
use Rattle.luo_answer.specs.inner.Passes.{RefusedBy}
use Rattle.luo_answer.proofs.RowLemmas.{plain_there, AreRowsTo, rows-step, tables-step}
use Rattle.luo_answer.proofs.StepLemmas.{RefusedBy-map}

cases : (m n : ℕ) → (m ≤ n) ⊎ (n < m)
cases m n = grind arith

-- the count of a procedure is that of its parameter's node
pub count_is : (h : Held) → IsProgram (plain_of h) → (procs : List Proc) → procs ≡ h.procs → (f : ℕ) (proc : Proc) → slice_get procs f ≡ Some proc → (n c : ℕ) → IsCount (plain_of h) proc.on.node n c → CountIs (plain_of h) f n c
count_is h q procs e f proc there n c count = (procedure_of proc, plain_there h q procs e f proc there, count)

-- there is one
pub count_one : (p : Program) (f n c d : ℕ) → CountIs p f n c → CountIs p f n d → c ≡ d
count_one p f n c d (P, e, h) (Q, g, k) =
    counts_are_single p P.on.node n c d h (subst (λ (Z : Procedure). IsCount p Z.on.node n d) (some_same Q P (sym g ∙ e)) k)

pub total_one : (p : Program) → IsProgram p → (f n s t : ℕ) → TotalIs p f n s → TotalIs p f n t → s ≡ t
total_one p q f n s t (P, e, h) (Q, g, k) =
    totals_are_single p (sites_are_apart p q) P.site n s t h (subst (λ (Z : Procedure). IsTotal p Z.site n t) (some_same Q P (sym g ∙ e)) k)

-- few structures up to a size, and up to the next
abbrev pub AreFewTo : Program → ℕ → ℕ → Type 0
AreFewTo p f n = (m c : ℕ) → m < n → CountIs p f m c → c ≤ WALKED_LIMIT

pub few_more : (p : Program) (f n c : ℕ) → AreFewTo p f n → CountIs p f n c → c ≤ WALKED_LIMIT → AreFewTo p f (n + 1)
few_more p f n c few count small m d l h = by (cases n m)
  where
    by : (n ≤ m) ⊎ (m < n) → d ≤ WALKED_LIMIT
    by (inr k) = few m d k h
    by (inl k) =
        let here : m ≡ n = omega (arith, k, l) in
        let same : c ≡ d = count_one p f n c d count (subst (λ z. CountIs p f z d) here h) in
        omega (arith, same, small)

pub few_all : (p : Program) (f last n : ℕ) → n ≡ last + 1 → AreFewTo p f n → AreFew p f last
few_all p f last n e few m c l h = few m c (omega (arith, e, l)) h

-- the same of each of these procedures
abbrev pub AreAllFew : Program → ℕ → List ℕ → Type 0
AreAllFew p last fs = (f : ℕ) → In f fs → AreFew p f last

pub all_few_more : (p : Program) (last i : ℕ) (fs : List ℕ) → i < length fs → AreAllFew p last (take i fs) → AreFew p (get_or fs i 0) last → AreAllFew p last (take (i + 1) fs)
all_few_more p last i fs l few this f there = by (In-append_cases f (take i fs) (get_or fs i 0 ∷ []) (subst (In f) (take_more fs i 0 l) there))
  where
    by : In f (take i fs) ⊎ In f (get_or fs i 0 ∷ []) → AreFew p f last
    by (inl h) = few f h
    by (inr (inl e)) = subst (λ z. AreFew p z last) (sym e) this
    by (inr (inr h)) = absurd h

pub no_too_many : (p : Program) (last : ℕ) → AreAllFew p last p.analyses → HasTooMany p last → ⊥
no_too_many p last few (f, n, c, there, l, count, over) = omega (arith, few f there n c l count, over)

pub all_few : (p : Program) (last : ℕ) → (HasTooMany p last → ⊥) → AreAllFew p last p.analyses
all_few p last none f there n c l count = by (cases c WALKED_LIMIT)
  where
    by : (c ≤ WALKED_LIMIT) ⊎ (WALKED_LIMIT < c) → c ≤ WALKED_LIMIT
    by (inl h) = h
    by (inr over) = absurd (none (f, n, c, there, l, count, over))

-- a row whose total doesn't overflow
pub row_not_over : (p : Program) → IsProgram p → (f n : ℕ) (row : Row) → row.n ≡ n → IsRow p f row → row.total ≤ MAX → IsOverAt p f n → ⊥
row_not_over p q f n row size (P, e, c, h) small (t, total, over) =
    let same : row.total ≡ t = total_one p q f n row.total t (P, e, subst (λ z. IsTotal p P.site z row.total) size h) total in
    omega (arith, same, small, over)

-- no total of a size below n is
abbrev pub NoneBelow : Program → ℕ → ℕ → Type 0
NoneBelow p f n = (m : ℕ) → m < n → IsOverAt p f m → ⊥

pub none_below_more : (p : Program) (f n : ℕ) → NoneBelow p f n → (IsOverAt p f n → ⊥) → NoneBelow p f (n + 1)
none_below_more p f n none this m l over = by (cases n m)
  where
    by : (n ≤ m) ⊎ (m < n) → ⊥
    by (inr k) = none m k over
    by (inl k) = let here : m ≡ n = omega (arith, k, l) in this (subst (IsOverAt p f) here over)

-- the rows of the sizes below n, of which no total is
pub record AreAuditedTo (p : Program) (f n : ℕ) (rows : List Row) : Type 0 where
  pub right : AreRowsTo p f n rows
  pub none : NoneBelow p f n

pub none_audited : (p : Program) (f : ℕ) (rows : List Row) → rows ≡ [] → AreAuditedTo p f 0 rows
none_audited p f rows e = record { right = subst (AreRowsTo p f 0) (sym e) (refl, tt); none = λ m l over. absurd (omega (arith, l)) }

pub audited_more : (p : Program) → IsProgram p → (f n : ℕ) (rows more : List Row) (row : Row) → AreAuditedTo p f n rows → AuditsRow p f n (Ok row) → more ≡ rows ++ row ∷ []
    → AreAuditedTo p f (n + 1) more
audited_more p q f n rows more row h (size, right, small) e = record {
  right = rows-step p f n rows more row h.right size right e;
  none = none_below_more p f n h.none (row_not_over p q f n row size right small);
}

-- the rows of all sizes up to the last
pub audited_all : (p : Program) (f last n : ℕ) (rows : List Row) → n ≡ last + 1 → AreAuditedTo p f n rows → AuditsRows p f last (Ok rows)
audited_all p f last n rows e h = (subst (λ k. AreRowsTo p f k rows) e h.right, λ m l over. h.none m (omega (arith, e, l)) over)

-- the refusal of a row is that of the rows
pub row_refused : (p : Program) (f last n : ℕ) (rows : List Row) → n ≤ last → AreAuditedTo p f n rows → (e : code.Refusal) → AuditsRow p f n (Err e) → AuditsRows p f last (Err e)
row_refused p f last n rows l h e r =
    RefusedBy-map (λ a. IsOverAt p f n × Names p f n a) (λ a. (m : ℕ) × IsFirstOf p f last m × Names p f m a) (λ a o. (n, (l, o.0, h.none), o.1)) e r

-- no total on the first k analyze lines is
abbrev pub NoneBefore : Program → ℕ → ℕ → Type 0
NoneBefore p last k = (j g m : ℕ) → j < k → m ≤ last → IsTotalOver p j g m → ⊥

pub none_before_more : (p : Program) (last k f : ℕ) → slice_get p.analyses k ≡ Some f → NoneBefore p last k → ((n : ℕ) → n ≤ last → IsOverAt p f n → ⊥) → NoneBefore p last (k + 1)
none_before_more p last k f at none this j g m l within (e, over) = by (cases k j)
  where
    by : (k ≤ j) ⊎ (j < k) → ⊥
    by (inr h) = none j g m h within (e, over)
    by (inl h) =
        let here : j ≡ k = omega (arith, h, l) in
        let same : g ≡ f = some_same g f (sym e ∙ ap (slice_get p.analyses) here ∙ at) in
        this m within (subst (λ z. IsOverAt p z m) same over)

-- the first on a line behind lines without one is the first of all
pub first_of_all : (p : Program) (last k f n : ℕ) → slice_get p.analyses k ≡ Some f → NoneBefore p last k → IsFirstOf p f last n → IsFirstTotalOver p last k f n
first_of_all p last k f n at none (within, over, below) = record { within = within; over = (at, over); first = first }
  where
    first : (j g m : ℕ) → m ≤ last → IsEarlier j m k n → IsTotalOver p j g m → ⊥
    first j g m l (inl before) h = none j g m before l h
    first j g m l (inr (same, less)) (e, o) = below m less (subst (λ z. IsOverAt p z m) (some_same g f (sym e ∙ ap (slice_get p.analyses) same ∙ at)) o)

pub refusal_of_all : (p : Program) (last k f : ℕ) → slice_get p.analyses k ≡ Some f → NoneBefore p last k
    → (a : Answer) → (n : ℕ) × IsFirstOf p f last n × Names p f n a → AuditRefusal p last a
refusal_of_all p last k f at none a (n, first, e) = (k, f, n, first_of_all p last k f n at none first, e)

pub no_refusal : (p : Program) (last k : ℕ) → length p.analyses ≤ k → NoneBefore p last k → (a : Answer) → AuditRefusal p last a → ⊥
no_refusal p last k all none a (j, f, n, first, e) = none j f n (let l = slice_get_within p.analyses j f first.over.0 in omega (arith, l, all)) first.within first.over

-- the tables of the first k analyze lines, of which no total is
pub record AreAuditedBefore (p : Program) (last k : ℕ) (fs : List ℕ) (tables : List Table) : Type 0 where
  pub right : AreTables p last (take k fs) tables
  pub none : NoneBefore p last k

pub none_tabled : (p : Program) (last : ℕ) (fs : List ℕ) (tables : List Table) → tables ≡ [] → AreAuditedBefore p last 0 fs tables
none_tabled p last fs tables e = record { right = subst (λ (l : List Table). AreTables p last [] l) (sym e) tt; none = λ j g m l. absurd (omega (arith, l)) }

module _ (p : Program) (last k : ℕ) (fs : List ℕ) (same : fs ≡ p.analyses) (tables : List Table) (h : AreAuditedBefore p last k fs tables) where
  -- the procedure of the line
  line : k < length fs → slice_get p.analyses k ≡ Some (get_or fs k 0)
  line l = ap (λ (z : List ℕ). slice_get z k) (sym same) ∙ slice_get-get_or fs k 0 l

  pub tabled_more : k < length fs → (rows : List Row) → AuditsRows p (get_or fs k 0) last (Ok rows) → (next : List Table)
      → next ≡ tables ++ record { callee = get_or fs k 0; rows = rows } ∷ [] → AreAuditedBefore p last (k + 1) fs next
  tabled_more l rows (right, none) next e = record {
    right = tables-step p last k fs (record { callee = get_or fs k 0; rows = rows }) tables next l h.right (refl, right) e;
    none = none_before_more p last k (get_or fs k 0) (line l) h.none none;
  }

  pub rows_refused : k < length fs → (e : code.Refusal) → AuditsRows p (get_or fs k 0) last (Err e) → RefusedBy (AuditRefusal p last) e
  rows_refused l e r =
      RefusedBy-map (λ a. (n : ℕ) × IsFirstOf p (get_or fs k 0) last n × Names p (get_or fs k 0) n a) (AuditRefusal p last)
      (refusal_of_all p last k (get_or fs k 0) (line l) h.none) e r

  pub all_tabled : length fs ≤ k → AreTables p last p.analyses tables
  all_tabled l = subst (λ (z : List ℕ). AreTables p last z tables) (take_all k fs l ∙ same) h.right

  pub none_refused : length fs ≤ k → HasNone (AuditRefusal p last)
  none_refused l = no_refusal p last k (subst (λ (z : List ℕ). length z ≤ k) same l) h.none

-- the first total that overflows is one
pub audit_refusal_one : (p : Program) (last : ℕ) → IsSingle (AuditRefusal p last)
audit_refusal_one p last a b (k, f, n, h, e) (j, g, m, i, d) = e ∙ (λ z. Refusal Overflow (audit_line (procedure_name p (same.1 z)) (same.2 z))) ∙ sym d
  where
    lines : k ≡ j
    lines = by (cases k j) (cases j k)
      where
        by : (k ≤ j) ⊎ (j < k) → (j ≤ k) ⊎ (k < j) → k ≡ j
        by (inl l) (inl o) = omega (arith, l, o)
        by (inr l) _ = absurd (h.first j g m i.within (inl l) i.over)
        by _ (inr l) = absurd (i.first k f n h.within (inl l) h.over)

    sizes : n ≡ m
    sizes = by (cases n m) (cases m n)
      where
        by : (n ≤ m) ⊎ (m < n) → (m ≤ n) ⊎ (n < m) → n ≡ m
        by (inl l) (inl o) = omega (arith, l, o)
        by (inr l) _ = absurd (h.first j g m i.within (inr (sym lines, l)) i.over)
        by _ (inr l) = absurd (i.first k f n h.within (inr (lines, l)) h.over)

    same : (k ≡ j) × (f ≡ g) × (n ≡ m)
    same = (lines, some_same f g (sym h.over.0 ∙ ap (slice_get p.analyses) lines ∙ i.over.0), sizes)
