-- What the words ask for, within the limits that they pass by themselves.
use Rattle.std.proofs.Common.{◌≡◌, ◌⊎◌, ℕ, ◌<◌, ◌≤◌, List, refl, sym, subst, ◌∙◌, ap, inl, inr, arith, Option, None, Some, Result, Ok, Err}
use Rattle.luo_num.specs.declared.limits.TheConstants.{SIZE_LIMIT, SAMPLE_LIMIT}
use Rattle.luo_answer.specs.declared.refusal.Refusal.{Refusal}
use Rattle.luo_answer.specs.declared.refusal.Refusal.TheVariants.{Usage, Refused, Limit, Overflow, ReadFault, NoMemory}
use Rattle.luo_answer.specs.declared.words.Request.{Request}
use Rattle.luo_answer.specs.declared.words.Request.TheVariants as request
use Rattle.luo_answer.specs.declared.status.Status.TheVariants as way
use Rattle.luo_answer.specs.Answer as answer
use Rattle.luo_answer.specs.Lines.{size_line, sample_line}
use Rattle.luo_answer.specs.Step.{HasNone}
use Rattle.luo_answer.specs.Words.{Command, Sample, command_of, LimitOfSample, LimitOfWords}
use Rattle.luo_answer.specs.inner.Requests.{Asks, IsRequest, IsRequestOf, Keeps}

-- the request goes on, or a limit of its words refuses it
pub asks_of : (words : List (List ℕ)) (request : Request) (r : Result Request Refusal) → IsRequestOf (command_of words) (Some request)
    → ((c : Command) → IsRequest c request → Keeps c request r) → Asks words r
asks_of words request r h keeps = by (command_of words) refl h
  where
    of : (c : Command) → command_of words ≡ Some c → IsRequest c request → (q : Result Request Refusal) → Keeps c request q → Asks words q
    of c e h (Ok q) (same, none) = (c, e, none, subst (IsRequest c) (sym same) h)
    of c e h (Err (Limit l)) k = (c, e, k)
    of c e h (Err Usage) k = absurd k
    of c e h (Err (Refused l)) k = absurd k
    of c e h (Err (Overflow l)) k = absurd k
    of c e h (Err ReadFault) k = absurd k
    of c e h (Err NoMemory) k = absurd k

    by : (o : Option Command) → command_of words ≡ o → IsRequestOf o (Some request) → Asks words r
    by None e h = absurd h
    by (Some c) e h = of c e h r (keeps c h)

-- the numbers of a sample whose words pass no limit
pub record Within (c : Command) (number last : ℕ) : Type 0 where
  pub number_within : number ≤ SAMPLE_LIMIT
  pub size_within : last ≤ SIZE_LIMIT
  pub same : c ≡ Sample number last

pub sample_within : (c : Command) (number last : ℕ) → HasNone (LimitOfWords c) → IsRequest c (request.Sample number last) → Within c number last
sample_within c number last none (k, n, same, e, h) =
    let free : HasNone (LimitOfSample k n) = subst (λ (x : Command). HasNone (LimitOfWords x)) same none in
    let l : k ≤ SAMPLE_LIMIT = at_most k SAMPLE_LIMIT (λ over. free _ (inl (over, refl))) in
    let m : n ≤ SIZE_LIMIT = at_most n SIZE_LIMIT (λ over. free _ (inr ((λ other p. free other (inl p)), (over, refl)))) in
    let first : number ≡ k = omega (arith, e, l) in
    let second : last ≡ n = omega (arith, h, m) in
    record { number_within = omega (arith, first, l); size_within = omega (arith, second, m); same = same ∙ (λ i. Sample (sym first i) (sym second i)) }
  where
    cases : (a b : ℕ) → (a ≤ b) ⊎ (b < a)
    cases a b = grind arith

    at_most : (a b : ℕ) → (b < a → ⊥) → a ≤ b
    at_most a b never = by (cases a b)
      where
        by : (a ≤ b) ⊎ (b < a) → a ≤ b
        by (inl h) = h
        by (inr h) = absurd (never h)

-- a number that is too large, and behind it a size that is
pub number_over : (c : Command) (number last : ℕ) (bytes : List ℕ) → IsRequest c (request.Sample number last) → SAMPLE_LIMIT < number → bytes ≡ sample_line
    → LimitOfWords c (answer.Refusal way.Limit bytes)
number_over c number last bytes (k, n, same, e, h) over says =
    subst (λ (x : Command). LimitOfWords x (answer.Refusal way.Limit bytes)) (sym same) (inl (omega (arith, e, over), ap (answer.Refusal way.Limit) says))

pub size_over : (c : Command) (number last : ℕ) (bytes : List ℕ) → IsRequest c (request.Sample number last) → number ≤ SAMPLE_LIMIT → SIZE_LIMIT < last → bytes ≡ size_line
    → LimitOfWords c (answer.Refusal way.Limit bytes)
size_over c number last bytes (k, n, same, e, h) within over says =
    subst (λ (x : Command). LimitOfWords x (answer.Refusal way.Limit bytes)) (sym same)
    (inr ((λ other p. omega (arith, e, within, p.0)), (omega (arith, h, over), ap (answer.Refusal way.Limit) says)))
