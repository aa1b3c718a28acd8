-- A walk of a cursor, and what is charged on the way.
use Rattle.std.proofs.Common.{◌≡◌, ℕ, ◌+◌, ◌<◌, ◌≤◌, List, [], ◌∷◌, ◌++◌, length, sum, refl, sym, ◌∙◌, ap, subst, arith, Some, None, Option, slice_get, Result, Ok, Err, IfOk}
use Rattle.std.specs.Prelude.{IsErrAnd}
use Rattle.luo_num.specs.declared.TheConstants.{MAX}
use Rattle.luo_finite.specs.Places.{IsPlace}
use Rattle.luo_model.specs.Program.{Procedure}
use Rattle.luo_model.specs.Order.{IsBefore}
use Rattle.luo_model.specs.Structures.{IsStructure}
use Rattle.luo_model.specs.Charges.{Charges}
use Rattle.luo_model.specs.Tables.{IsCount}
use Rattle.luo_model.specs.View.{Held, plain_of}
use Rattle.luo_struct.specs.declared.structure.Structure.{Structure}
use Rattle.luo_struct.specs.View.{tree_of}
use Rattle.luo_interp.specs.Takes.{Takes}
use Rattle.luo_list.specs.Span.{Span, Answers}
use Rattle.luo_rank.specs.Ranked.{Ranked}
use Rattle.luo_audit.specs.Pieces.{start, sum_between, piece_sum, piece_sums_from}
use Rattle.luo_audit.specs.Audit.{AreCharges}
use Rattle.luo_audit.specs.inner.Answered.{IsSum, IsPieceSum, Gathers}
use Rattle.luo_audit.specs.declared.auditing.AuditError.{AuditError}
use Rattle.luo_audit.specs.declared.auditing.AuditError.TheVariants.{TooMany, Over, NoMemory}
use Rattle.luo_audit.specs.declared.auditing.Audited.{Audited}
use Rattle.luo_audit.proofs.Cuts.{step, nothing_between, piece_at_most, front_at_most, one_more, sum_one_more, all_pieces, pieces_add_up}
use Rattle.luo_audit.proofs.AuditLemmas.{charge_there, charges_long}

pub past : (a b : ℕ) → a ≤ b → (a ≤ MAX → ⊥) → MAX < b
past a b l n = grind (arith, l, n)

-- an answer that is this refusal
pub refused : (n : ℕ) (r : Result ℕ AuditError) (e : AuditError) → IsErrAnd r (λ x. x ≡ e) → IsSum n (Err e) → IsSum n r
refused n (Ok s) e i h = absurd i
refused n (Err x) e i h = subst (λ (y : AuditError). IsSum n (Err y)) (sym i) h

-- the walk goes on for the procedure of this number, whose parameter has this node
abbrev pub IsOn : Held → ℕ → ℕ → Type 0
IsOn h f node = (P : Procedure) × (slice_get (plain_of h).procs f ≡ Some P) × (node ≡ P.on.node)

-- a cursor that has gone from one span to another, and the sum of the charges on the way
pub record OnWay (h : Held) (f : ℕ) (first now : Span) (total : ℕ) : Type 0 where
  pub program : now.program ≡ h
  pub node : now.node ≡ first.node
  pub size : now.size ≡ first.size
  pub last : now.end ≡ first.end
  pub from : first.place ≤ now.place
  pub to : now.place ≤ first.end
  pub small : total ≤ MAX
  pub right : (charges : List ℕ) → AreCharges (plain_of h) f first.size charges → total ≡ sum_between charges first.place now.place

module _ (h : Held) (f : ℕ) (first : Span) where
  pub begins : first.program ≡ h → first.place ≤ first.end → OnWay h f first first 0
  begins e l = record {
    program = e;
    node = refl;
    size = refl;
    last = refl;
    from = omega arith;
    to = l;
    small = omega arith;
    right = λ charges m. sym (nothing_between charges first.place);
  }

  module _ (on : IsOn h f first.node) (now next : Span) (total : ℕ) (w : OnWay h f first now total) where
    pub ended : (o : Option Structure) → ((s : Structure) → o ≡ Some s → ⊥) → Answers now o next → (charges : List ℕ) → AreCharges (plain_of h) f first.size charges
        → (total ≡ sum_between charges first.place first.end) × (sum_between charges first.place first.end ≤ MAX)
    ended None n a charges m =
        let there : now.place ≡ first.end = a.0 ∙ w.last in
        let e : total ≡ sum_between charges first.place first.end = subst (λ k. total ≡ sum_between charges first.place k) there (w.right charges m) in
        (e, omega (arith, e, w.small))
    ended (Some s) n a charges m = absurd (n s refl)

    module _ (o : Option Structure) (s : Structure) (some : o ≡ Some s) (a : Answers now o next) where
      answers : Answers now (Some s) next
      answers = subst (λ (z : Option Structure). Answers now z next) some a

      place : IsPlace (IsStructure (plain_of h) on.0.on.node first.size) IsBefore now.place (tree_of s)
      place =
          subst (λ (z : Held). IsPlace (IsStructure (plain_of z) on.0.on.node first.size) IsBefore now.place (tree_of s)) w.program
          (subst (λ x. IsPlace (IsStructure (plain_of now.program) x first.size) IsBefore now.place (tree_of s)) (w.node ∙ on.2)
          (subst (λ n. IsPlace (IsStructure (plain_of now.program) now.node n) IsBefore now.place (tree_of s)) w.size answers.1))

      pub takes : Takes (plain_of h) f (tree_of s)
      takes = (on.0, on.1, place.there.0)

      one_step : (q : ℕ) → Charges (plain_of h) f (tree_of s) q → (charges : List ℕ) → AreCharges (plain_of h) f first.size charges
          → (sum_between charges first.place next.place ≡ sum_between charges first.place now.place + q) × (sum_between charges first.place next.place ≤ sum_between charges first.place first.end)
      one_step q c charges m =
          step charges first.place now.place next.place first.end q w.from (omega (arith, answers.0, w.last))
          (charge_there (plain_of h) f first.size on.0 on.1 charges m now.place (tree_of s) place q c) (ap (λ (z : Span). z.place) answers.2)

      pub goes_on : (q larger : ℕ) → Charges (plain_of h) f (tree_of s) q → larger ≡ total + q → larger ≤ MAX → OnWay h f first next larger
      goes_on q larger c e l =
          let is = answers.2 in
          let at : next.place ≡ now.place + 1 = ap (λ (z : Span). z.place) is in
          record {
            program = ap (λ (z : Span). z.program) is ∙ w.program;
            node = ap (λ (z : Span). z.node) is ∙ w.node;
            size = ap (λ (z : Span). z.size) is ∙ w.size;
            last = ap (λ (z : Span). z.end) is ∙ w.last;
            from = omega (arith, at, w.from);
            to = omega (arith, at, answers.0, w.last);
            small = l;
            right = λ charges m. let t = one_step q c charges m in omega (arith, e, t.0, w.right charges m);
          }

      pub past_sum : (q : ℕ) → Charges (plain_of h) f (tree_of s) q → (total + q ≤ MAX → ⊥) → (charges : List ℕ) → AreCharges (plain_of h) f first.size charges
          → MAX < sum_between charges first.place first.end
      past_sum q c n charges m = let t = one_step q c charges m in past (total + q) (sum_between charges first.place first.end) (omega (arith, t.0, t.1, w.right charges m)) n

      pub past_charge : (q : ℕ) × Charges (plain_of h) f (tree_of s) q × (MAX < q) → (charges : List ℕ) → AreCharges (plain_of h) f first.size charges
          → MAX < sum_between charges first.place first.end
      past_charge (q, c, l) charges m = past_sum q c (λ k. omega (arith, k, l)) charges m

-- a walk from where a piece begins to where the next one does gives the sum of the piece
pub piece_right : (h : Held) (f n node workers i : ℕ) → IsOn h f node → (ranker : Ranked) → ranker.program ≡ h → ranker.node ≡ node → ranker.size ≡ n
    → (count : ℕ) → IsCount (plain_of ranker.program) ranker.node ranker.size count → (first : Span)
    → first ≡ record { program = ranker.program; node = ranker.node; size = ranker.size; place = start count workers i; end = start count workers (i + 1) }
    → (r : Result ℕ AuditError) → IfOk r (λ s. s ≤ MAX)
    → ((charges : List ℕ) → AreCharges (plain_of h) f first.size charges → IsSum (sum_between charges first.place first.end) r) → IsPieceSum (plain_of h) f n workers i r
piece_right h f n node workers i on ranker same at size count c first is r small sums = record {
  small = small;
  sum = λ charges m.
      let here : IsCount (plain_of h) on.0.on.node n count =
      subst (λ (z : Held). IsCount (plain_of z) on.0.on.node n count) same (subst (λ k. IsCount (plain_of ranker.program) on.0.on.node k count) size (subst (λ x. IsCount (plain_of ranker.program) x ranker.size count) (at ∙ on.2) c)) in
      let long : count ≡ length charges = sym (charges_long (plain_of h) f n on.0 on.1 charges m count here) in
      let big : first.size ≡ n = ap (λ (z : Span). z.size) is ∙ size in
      let s = sums charges (subst (λ k. AreCharges (plain_of h) f k charges) (sym big) m) in
      subst (λ b. IsSum (sum_between charges (start (length charges) workers i) b) r) (ap (λ (z : Span). z.end) is ∙ ap (λ k. start k workers (i + 1)) long)
      (subst (λ a. IsSum (sum_between charges a first.end) r) (ap (λ (z : Span). z.place) is ∙ ap (λ k. start k workers i) long) s);
}

-- a sum that overflows is refused as one
pub sums_refused : (charges : List ℕ) (workers : ℕ) (r : Result Audited AuditError) → IsErrAnd r (λ x. x ≡ Over) → MAX < sum charges → Gathers charges workers r
sums_refused charges workers (Ok a) q l = absurd q
sums_refused charges workers (Err x) q l = subst (λ (y : AuditError). Gathers charges workers (Err y)) (sym q) l

-- the sums of the first pieces, and their sum
abbrev pub AreGathered : Held → ℕ → ℕ → ℕ → ℕ → List ℕ → ℕ → Type 0
AreGathered h f n workers i sums total =
    (total ≤ MAX) × ((charges : List ℕ) → AreCharges (plain_of h) f n charges → (sums ≡ piece_sums_from charges workers 0 i) × (total ≡ sum (piece_sums_from charges workers 0 i)))

module _ (h : Held) (f n workers : ℕ) where
  pub none_gathered : (sums : List ℕ) → sums ≡ [] → AreGathered h f n workers 0 sums 0
  none_gathered sums e = (omega arith, λ charges m. (e, refl))

  module _ (i : ℕ) (sums : List ℕ) (total : ℕ) (g : AreGathered h f n workers i sums total) where
    -- a piece that has no sum
    pub piece_refused : (e : AuditError) → IsPieceSum (plain_of h) f n workers i (Err e) → (r : Result Audited AuditError) → IsErrAnd r (λ x. x ≡ e)
        → (charges : List ℕ) → AreCharges (plain_of h) f n charges → Gathers charges workers r
    piece_refused e s (Ok a) q charges m = absurd q
    piece_refused e s (Err x) q charges m = by x (subst (λ (y : AuditError). IsSum (piece_sum charges workers i) (Err y)) (sym q) (s.sum charges m))
      where
        by : (y : AuditError) → IsSum (piece_sum charges workers i) (Err y) → Gathers charges workers (Err y)
        by (TooMany c) k = k
        by Over k = omega (arith, k, piece_at_most charges workers i)
        by NoMemory k = tt

    module _ (s : ℕ) (p : IsPieceSum (plain_of h) f n workers i (Ok s)) where
      pub sum_over : (total + s ≤ MAX → ⊥) → (charges : List ℕ) → AreCharges (plain_of h) f n charges → MAX < sum charges
      sum_over l charges m =
          past (total + s) (sum charges) (omega (arith, (g.1 charges m).1, (p.sum charges m).0, sum_one_more charges workers i, front_at_most charges workers (i + 1))) l

      pub one_gathered : (more : List ℕ) (larger : ℕ) → more ≡ sums ++ s ∷ [] → larger ≡ total + s → larger ≤ MAX → AreGathered h f n workers (i + 1) more larger
      one_gathered more larger e d l = (
        l,
        λ charges m.
            let k = g.1 charges m in
            let q = p.sum charges m in (
              e ∙ (ap (λ (z : List ℕ). z ++ s ∷ []) k.0 ∙ (ap (λ (x : ℕ). piece_sums_from charges workers 0 i ++ x ∷ []) q.0 ∙ one_more charges workers i)),
              omega (arith, d, k.1, q.0, sum_one_more charges workers i),
            ),
      )

    pub all_gathered : i ≡ workers → 0 < workers → (a : Audited) → a.sums ≡ sums → a.row.total ≡ total → (charges : List ℕ) → AreCharges (plain_of h) f n charges → Gathers charges workers (Ok a)
    all_gathered last some a is t charges m =
        let k = g.1 charges m in
        let whole = ap (λ (j : ℕ). piece_sums_from charges workers 0 j) last ∙ all_pieces charges workers in
        let all : total ≡ sum charges = k.1 ∙ (ap sum whole ∙ pieces_add_up charges workers some) in
        (is ∙ (k.0 ∙ whole), t ∙ all, omega (arith, all, g.0))
