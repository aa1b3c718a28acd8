-- Steps in order: where the first stops, and where it hands on.
use Rattle.std.proofs.Common.{◌≡◌, inl, inr, List, [], ℕ, refl, subst, sym, arith}
use Rattle.std.specs.Prelude.{◌⊎◌, Result, Ok, Err}
use Rattle.std.specs.Result.{IsErrAnd}
use Rattle.luo_answer.specs.declared.refusal.Refusal.{Refusal}
use Rattle.luo_answer.specs.declared.refusal.Refusal.TheVariants.{Usage, Refused, Limit, Overflow, ReadFault, NoMemory}
use Rattle.luo_answer.specs.Answer.{Answer, Untold}
use Rattle.luo_answer.specs.inner.Passes.{RefusedBy, Passes, AnswersOf, PassesOver, AnswersOver, StopsOver, Seen}
use Rattle.luo_answer.specs.Step.{Step, ◌and_then◌, makes}
use Rattle.luo_answer.specs.Told.{Told}

-- a refusal by some answers is one by more
pub RefusedBy-map : (P Q : Answer → Type 0) → ((a : Answer) → P a → Q a) → (e : Refusal) → RefusedBy P e → RefusedBy Q e
RefusedBy-map P Q f Usage h = h
RefusedBy-map P Q f (Refused l) h = f _ h
RefusedBy-map P Q f (Limit l) h = f _ h
RefusedBy-map P Q f (Overflow l) h = f _ h
RefusedBy-map P Q f ReadFault h = h
RefusedBy-map P Q f NoMemory h = h

-- what `?` answers is the error itself
pub same_error : {Z : Type 0} (P : Result Z Refusal → Type 0) (e : Refusal) (r : Result Z Refusal) → IsErrAnd r (λ d. d ≡ e) → P (Err e) → P r
same_error P e (Ok z) same h = absurd same
same_error P e (Err d) same h = subst (λ x. P (Err x)) (sym same) h

-- memory may be refused at each step
pub starved : {X Z : Type 0} {view : Z → X} {step : Step X} {r : Result Z Refusal} → IsErrAnd r (λ d. d ≡ NoMemory) → Passes view step r
starved {view = view} {step = step} {r = r} same = same_error (Passes view step) NoMemory r same (record { answers = tt })

-- a step without refusal
pub made : {X Z : Type 0} {view : Z → X} (hands : X → Type 0) (z : Z) → hands (view z) → Passes view (makes hands) (Ok z)
made hands z h = record { answers = (λ a r. r, h) }

module _ {X Y : Type 0} (first : Step X) (second : X → Step Y) {Z : Type 0} (view : Z → Y) where
  -- the first step refuses
  pub refused : (e : Refusal) → RefusedBy first.refuses e → Passes view (first and_then second) (Err e)
  unfolding ◌and_then◌
  refused e h = record { answers = RefusedBy-map first.refuses (first and_then second).refuses (λ a r. inl r) e h }

  -- the first step hands on
  pub handed : (x : X) (r : Result Z Refusal) → first.hands x → Passes view (second x) r → Passes view (first and_then second) r
  unfolding ◌and_then◌
  handed x (Ok z) f h = record { answers = (x, f, h.answers) }
  handed x (Err e) f h = record { answers = RefusedBy-map (second x).refuses (first and_then second).refuses (λ a r. inr (x, f, r)) e h.answers }

-- the same of calls: where the first answers an error, and where it answers a value
pub stop : {X Y Z W : Type 0} {seen : W → X} {view : Z → Y} {first : Step X} (second : X → Step Y) {e : Refusal} {r : Result Z Refusal}
    → Passes seen first (Err e) → IsErrAnd r (λ d. d ≡ e) → Passes view (first and_then second) r
stop {view = view} {first = first} second {e = e} {r = r} h same = same_error (Passes view (first and_then second)) e r same (refused first second view e h.answers)

pub go : {X Y Z W : Type 0} {seen : W → X} {view : Z → Y} {first : Step X} (second : X → Step Y) {w : W} {r : Result Z Refusal}
    → Passes seen first (Ok w) → Passes view (second (seen w)) r → Passes view (first and_then second) r
go {seen = seen} {view = view} {first = first} second {w = w} {r = r} f h = handed first second view (seen w) r f.answers h

-- the same where the first step reads files
module _ {X Y : Type 0} (files : List (List ℕ)) (first : Told → Step X) (second : X → Step Y) (s : Seen) {Z : Type 0} (view : Z → Y) where
  refused_over : (e : Refusal) → StopsOver files first s e → StopsOver files (λ told. first told and_then second) s e
  unfolding ◌and_then◌
  refused_over Usage h = h
  refused_over (Refused l) (inl r) = inl (inl r)
  refused_over (Refused l) (inr r) = inr (inl r)
  refused_over (Limit l) (inl r) = inl (inl r)
  refused_over (Limit l) (inr r) = inr (inl r)
  refused_over (Overflow l) (inl r) = inl (inl r)
  refused_over (Overflow l) (inr r) = inr (inl r)
  refused_over ReadFault (file, i, r, rose) = (file, i, inl r, rose)
  refused_over NoMemory h = h

  handed_over : (x : X) (r : Result Z Refusal) → ((first s.told).refuses Untold ⊎ (first s.told).hands x) → AnswersOf view (second x) r
      → AnswersOver view files (λ told. first told and_then second) s r
  unfolding ◌and_then◌
  handed_over x (Ok z) (inl u) h = inl (inl u)
  handed_over x (Ok z) (inr f) h = inr (x, f, h)
  handed_over x (Err Usage) f h = absurd h
  handed_over x (Err (Refused l)) (inl u) h = inl (inl u)
  handed_over x (Err (Refused l)) (inr f) h = inr (inr (x, f, h))
  handed_over x (Err (Limit l)) (inl u) h = inl (inl u)
  handed_over x (Err (Limit l)) (inr f) h = inr (inr (x, f, h))
  handed_over x (Err (Overflow l)) (inl u) h = inl (inl u)
  handed_over x (Err (Overflow l)) (inr f) h = inr (inr (x, f, h))
  handed_over x (Err ReadFault) f h = absurd h
  handed_over x (Err NoMemory) f h = tt

pub stop_over : {X Y Z W : Type 0} {seen : W → X} {view : Z → Y} {files : List (List ℕ)} {first : Told → Step X} (second : X → Step Y) {s : Seen} {e : Refusal} {r : Result Z Refusal}
    → PassesOver seen files first s (Err e) → IsErrAnd r (λ d. d ≡ e) → PassesOver view files (λ told. first told and_then second) s r
stop_over {view = view} {files = files} {first = first} second {s = s} {e = e} {r = r} h same =
    same_error (PassesOver view files (λ told. first told and_then second) s) e r same
    (record { answers = refused_over files first second s view e h.answers; same_told = h.same_told; none_fell = h.none_fell })

pub go_over : {X Y Z W : Type 0} {seen : W → X} {view : Z → Y} {files : List (List ℕ)} {first : Told → Step X} (second : X → Step Y) {s : Seen} {w : W} {r : Result Z Refusal}
    → PassesOver seen files first s (Ok w) → Passes view (second (seen w)) r → PassesOver view files (λ told. first told and_then second) s r
go_over {seen = seen} {view = view} {files = files} {first = first} second {s = s} {w = w} {r = r} f h =
    record { answers = handed_over files first second s view (seen w) r f.answers h.answers; same_told = f.same_told; none_fell = f.none_fell }

-- a step that reads no file
pub no_file : {X Z : Type 0} {view : Z → X} {step : Step X} {told : Told} {counts : List ℕ → ℕ} {r : Result Z Refusal} → Passes view step r
    → PassesOver view [] (λ _. step) (record { told = told; told_new = told; old = counts; new = counts }) r
no_file {Z = Z} {view = view} {step = step} {told = told} {counts = counts} {r = r} h = record { answers = of r h.answers; same_told = λ name. refl; none_fell = λ name. omega arith }
  where
    of : (q : Result Z Refusal) → AnswersOf view step q → AnswersOver view [] (λ _. step) (record { told = told; told_new = told; old = counts; new = counts }) q
    of (Ok z) h = inr h
    of (Err Usage) h = h
    of (Err (Refused l)) h = inr h
    of (Err (Limit l)) h = inr h
    of (Err (Overflow l)) h = inr h
    of (Err ReadFault) h = absurd h
    of (Err NoMemory) h = h
