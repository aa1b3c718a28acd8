-- From one call to the next.
use Rattle.std.proofs.Common.{◌≡◌, ℕ, zero, suc, ◌+◌, ◌-◌, ◌≤◌, ◌<◌, ◌⊎◌, ⊎_elim, List, [], ◌∷◌, ◌++◌, Option, Some, None, Result, Ok, Err, Bool, length, take, slice_index, refl, sym, ◌∙◌, ap, subst, arith}
use Rattle.std.proofs.lemmas.List.{get_or-take, get_or_append_left, get_or_at, length-take, take-take, take_at}
use Rattle.std.specs.Prelude.{OkIff}
use Rattle.luo_num.specs.Mark.{capped}
use Rattle.luo_num.specs.declared.TheConstants.{MAX}
use Rattle.luo_num.specs.declared.marks.Over.{Over}
use Rattle.luo_model.specs.declared.program.Universe.TheVariants.{Unlabelled}
use Rattle.luo_model.specs.declared.program.Kind.{Kind}
use Rattle.luo_model.specs.declared.program.Kind.TheVariants.{Sequence}
use Rattle.luo_counting.specs.Items.{Suits}
use Rattle.luo_counting.specs.Numbers.{coll_total}
use Rattle.luo_counting.proofs.Numbered.{coll_count-needed, collections_counted, collections_totalled}
use Rattle.luo_unlabelled.specs.Calls.{Calls, Walk, numbers, GoesOn, AreBounds, IsCounted, IsTotalled, total_of}
use Rattle.luo_unlabelled.specs.declared.steps.Steps.{Steps}
use Rattle.luo_unlabelled.specs.inner.Steps.{most_at, step_count, step_total, HoldsTable, HoldsAll, Follows, IsLine, steps_of}
use Rattle.luo_unlabelled.proofs.RowLemmas.{coll_total-needed}

-- the numbers of a call, as they are kept
pub number_kept : (kept below : List ℕ) (here x : ℕ) → take (length below + 1) kept ≡ below ++ here ∷ [] → x ≤ length below → slice_index kept x ≡ numbers below here x
number_kept kept below here x e h = sym (get_or-take (length below + 1) kept x 0 (omega (arith, h))) ∙ ap (λ l. slice_index l x) e

pub number_below : (below : List ℕ) (here x : ℕ) → x < length below → numbers below here x ≡ slice_index below x
number_below below here x h = get_or_append_left below (here ∷ []) 0 x h

pub number_here : (below : List ℕ) (here : ℕ) → numbers below here (length below) ≡ here
number_here below here = get_or_at below here [] 0 (length below) refl

pub none_empty : (below : List ℕ) (here : ℕ) → slice_index below 0 ≡ 0 → (length below ≡ 0 → here ≡ 0) → numbers below here 0 ≡ 0
none_empty [] here z h = h refl
none_empty (x ∷ below) here z h = z

pub kept_empty : (kept below : List ℕ) (here : ℕ) → take (length below + 1) kept ≡ below ++ here ∷ [] → slice_index below 0 ≡ 0 → (length below ≡ 0 → here ≡ 0) → slice_index kept 0 ≡ 0
kept_empty kept below here e z h = number_kept kept below here 0 e (omega arith) ∙ none_empty below here z h

-- what was kept before agrees with what is kept now
kept_agrees : (s : Steps) (old new below : List ℕ) (here x : ℕ) → Follows s old below → take (length below + 1) new ≡ below ++ here ∷ [] → suc x < length below → slice_index old x ≡ slice_index new x
kept_agrees s old new below here x f e h = sym (number_kept new below here x e (omega (arith, h)) ∙ number_below below here x (omega (arith, h)) ∙ f.agree x h)

before_or : (m n : ℕ) → m < n → (suc m < n) ⊎ (suc m ≡ n)
before_or m n h = grind arith

-- so what a table held of the numbers before it holds of those now
pub holds_next : (s : Steps) (old new below : List ℕ) (here : ℕ) (cells : List ℕ) → Follows s old below → take (length below + 1) new ≡ below ++ here ∷ [] → slice_index old 0 ≡ 0 → slice_index new 0 ≡ 0
    → HoldsTable s (step_count s (slice_index old)) (length below) cells → HoldsTable s (step_count s (slice_index new)) (length below) cells
holds_next s old new below here cells f e z y t = record {
  below = λ i m l b. t.below i m l b ∙ ap capped (coll_count-needed Unlabelled Sequence (i - s.free) (most_at s.bounded i) (slice_index old) (slice_index new) m tt z y
      (λ x q. kept_agrees s old new below here x f e (omega (arith, q, b))) (λ w. kept_agrees s old new below here m f e b));
  answers = λ m b. t.answers m b ∙ ap capped (coll_count-needed Unlabelled Sequence (s.last - s.free) (most_at s.bounded s.last) (slice_index old) (slice_index new) m tt z y
      (λ x q. kept_agrees s old new below here x f e (omega (arith, q, b)))
      (λ w. ⊎_elim
      (λ l. kept_agrees s old new below here m f e l)
      (λ l. sym (number_kept new below here m e (omega (arith, l)) ∙ number_below below here m b ∙ f.last_agrees m l w))
      (before_or m (length below) b)));
}

-- the number is that of the call's numbers
pub count_given : (s : Steps) (new below : List ℕ) (here : ℕ) → take (length below + 1) new ≡ below ++ here ∷ [] → slice_index new 0 ≡ 0 → step_count s (slice_index new) s.last (length below) ≡ step_count s (numbers below here) s.last (length below)
count_given s new below here e z =
    coll_count-needed Unlabelled Sequence (s.last - s.free) (most_at s.bounded s.last) (slice_index new) (numbers below here) (length below) tt z (sym (number_kept new below here 0 e (omega arith)) ∙ z)
    (λ x q. number_kept new below here x e (omega (arith, q))) (λ w. number_kept new below here (length below) e (omega arith))

-- the numbered collections are as many as the number says
pub counted : (t : Calls) (comp : List ℕ) (here : ℕ) → Suits Unlabelled t.kind t.low → GoesOn t comp here → IsCounted t comp here
counted t comp here s g = collections_counted Unlabelled t.kind t.low t.high (numbers comp here) (length comp) s (none_empty comp here g.none_empty g.here_empty)

-- the charges over the collections of a table are the total of numbered collections
pub totalled : (t : Calls) (w : Walk) (comp body : List ℕ) (here : ℕ) → Suits Unlabelled t.kind t.low → slice_index t.given 0 ≡ 0 → IsTotalled t body here
totalled t w comp body here s z = λ q e. collections_totalled Unlabelled t.kind t.low t.high (slice_index t.given) (numbers body here) q (length body) s z e

-- what a walk held of the numbers before it holds of those now
pub totals_next : (s : Steps) (comp new_comp body new_body below sums : List ℕ) (none here : ℕ) (cells : List ℕ) → ((x : ℕ) → suc x < length below → slice_index below x ≡ slice_index comp x) → take (length below + 1) new_comp ≡ below ++ none ∷ []
    → Follows s body sums → take (length sums + 1) new_body ≡ sums ++ here ∷ [] → length below ≡ length sums → slice_index comp 0 ≡ 0 → slice_index new_comp 0 ≡ 0 → slice_index body 0 ≡ 0 → slice_index new_body 0 ≡ 0
    → HoldsTable s (step_total s (slice_index comp) (slice_index body)) (length sums) cells → HoldsTable s (step_total s (slice_index new_comp) (slice_index new_body)) (length sums) cells
totals_next s comp new_comp body new_body below sums none here cells ag e f g len z y v u t = record {
  below = λ i m l b. t.below i m l b ∙ ap capped (coll_total-needed (slice_index comp) (slice_index body) (slice_index new_comp) (slice_index new_body) (i - s.free) (most_at s.bounded i) m z v y u
      (λ x q. number x (omega (arith, q, b))) (λ x q. kept_agrees s body new_body sums here x f g (omega (arith, q, b))) (λ w. kept_agrees s body new_body sums here m f g b));
  answers = λ m b. t.answers m b ∙ ap capped (coll_total-needed (slice_index comp) (slice_index body) (slice_index new_comp) (slice_index new_body) (s.last - s.free) (most_at s.bounded s.last) m z v y u
      (λ x q. number x (omega (arith, q, b))) (λ x q. kept_agrees s body new_body sums here x f g (omega (arith, q, b)))
      (λ w. ⊎_elim
      (λ l. kept_agrees s body new_body sums here m f g l)
      (λ l. sym (number_kept new_body sums here m g (omega (arith, l)) ∙ number_below sums here m b ∙ f.last_agrees m l w))
      (before_or m (length sums) b)));
}
  where
    number : (x : ℕ) → suc x < length sums → slice_index comp x ≡ slice_index new_comp x
    number x h = sym (number_kept new_comp below none x e (omega (arith, h, len)) ∙ number_below below none x (omega (arith, h, len)) ∙ ag x (omega (arith, h, len)))

-- the total is that of the call's numbers
pub total_given : (s : Steps) (below new_comp new_body sums : List ℕ) (none here : ℕ) → length below ≡ length sums → take (length below + 1) new_comp ≡ below ++ none ∷ [] → take (length sums + 1) new_body ≡ sums ++ here ∷ []
    → slice_index below 0 ≡ 0 → slice_index new_comp 0 ≡ 0 → slice_index new_body 0 ≡ 0 → step_total s (slice_index new_comp) (slice_index new_body) s.last (length sums) ≡ step_total s (slice_index below) (numbers sums here) s.last (length sums)
total_given s below new_comp new_body sums none here len f e z y u =
    coll_total-needed (slice_index new_comp) (slice_index new_body) (slice_index below) (numbers sums here) (s.last - s.free) (most_at s.bounded s.last) (length sums) y u z (sym (number_kept new_body sums here 0 e (omega arith)) ∙ u)
    (λ x q. number_kept new_comp below none x f (omega (arith, q, len)) ∙ number_below below none x (omega (arith, q, len))) (λ x q. number_kept new_body sums here x e (omega (arith, q))) (λ w. number_kept new_body sums here (length sums) e (omega arith))

-- what is kept of the numbers below
pub below_kept : (kept below : List ℕ) (none n : ℕ) → take (length below + 1) kept ≡ below ++ none ∷ [] → length below ≡ n → take n kept ≡ below
below_kept kept below none n e l =
    sym (take-take n (length below + 1) kept (omega (arith, l))) ∙ ap (take n) e ∙ take_at below (none ∷ []) n l

-- the counts of a table serve for a walk that was given the same numbers
pub counts_serve : (s : Steps) (given comp : List ℕ) (n : ℕ) (cells : List ℕ) → slice_index given 0 ≡ 0 → slice_index comp 0 ≡ 0 → ((x : ℕ) → x < n → slice_index given x ≡ slice_index comp x) → HoldsTable s (step_count s (slice_index given)) (n + 1) cells
    → HoldsAll s (step_count s (slice_index comp)) n cells
counts_serve s given comp n cells z y e t = record {
  below = λ i l m b. t.below i m l (omega (arith, b)) ∙ same i m b;
  last = λ m b. t.answers m (omega (arith, b)) ∙ same s.last m b;
}
  where
    same : (i m : ℕ) → m < n → capped (step_count s (slice_index given) i m) ≡ capped (step_count s (slice_index comp) i m)
    same i m b = ap capped (coll_count-needed Unlabelled Sequence (i - s.free) (most_at s.bounded i) (slice_index given) (slice_index comp) m tt z y (λ x q. e x (omega (arith, q, b))) (λ w. e m b))

pub steps_alike : (low low' : ℕ) (high high' : Option ℕ) (n n' : ℕ) → low ≡ low' → high ≡ high' → n ≡ n' → steps_of low high n ≡ steps_of low' high' n'
steps_alike low low' high high' n n' e f g = ap (λ x. steps_of x high n) e ∙ ap (λ x. steps_of low' x n) f ∙ ap (λ x. steps_of low' high' x) g

-- what a line was given are the first of the numbers that it has
pub given_at : (calls n x : ℕ) (kept given : List ℕ) → take calls kept ≡ given → length given ≡ suc n → x < suc n → slice_index kept x ≡ slice_index given x
given_at calls n x kept given e l h = sym (get_or-take calls kept x 0 (omega (arith, h, l, sym (ap length e) ∙ length-take calls kept))) ∙ ap (λ g. slice_index g x) e

pub starts : (n : ℕ) (kept given comp : List ℕ) (calls : ℕ) → slice_index kept 0 ≡ 0 → take calls kept ≡ given → length given ≡ suc n → comp ≡ take n given → slice_index comp 0 ≡ 0
starts zero kept given comp calls z eg l ec = ap (λ c. slice_index c 0) ec
starts (suc n) kept given comp calls z eg l ec = ap (λ c. slice_index c 0) ec ∙ get_or-take (suc n) given 0 0 (omega arith) ∙ sym (given_at calls (suc n) 0 kept given eg l (omega arith)) ∙ z

pub line_serves : (s : Steps) (low : ℕ) (high : Option ℕ) (n_max calls n : ℕ) (kept cells given comp row : List ℕ) → s ≡ steps_of low high n_max → IsLine low high n_max calls kept cells → take calls kept ≡ given → length given ≡ suc n
    → comp ≡ take n given → row ≡ cells → HoldsAll s (step_count s (slice_index comp)) n row
line_serves s low high n_max calls n kept cells given comp row es line eg l ec er =
    let k : calls ≡ n + 1 = omega (arith, l, sym (ap length eg) ∙ length-take calls kept, line.reached, line.sizes) in
    let t : HoldsTable (steps_of low high n_max) (step_count (steps_of low high n_max) (slice_index kept)) (n + 1) cells = subst (λ (m : ℕ). HoldsTable (steps_of low high n_max) (step_count (steps_of low high n_max) (slice_index kept)) m cells) k line.holds in
    let u : HoldsTable s (step_count s (slice_index kept)) (n + 1) cells = subst (λ (p : Steps). HoldsTable p (step_count p (slice_index kept)) (n + 1) cells) (sym es) t in
    let a : (x : ℕ) → x < n → slice_index kept x ≡ slice_index comp x = λ x h. given_at calls n x kept given eg l (omega (arith, h)) ∙ sym (ap (λ g. slice_index g x) ec ∙ get_or-take n given x 0 h) in
    subst (λ (r : List ℕ). HoldsAll s (step_count s (slice_index comp)) n r) (sym er) (counts_serve s kept comp n cells line.none_empty (starts n kept given comp calls line.none_empty eg l ec) a u)

-- the total of the walk's numbers is that of the table's
pub total_same : (t : Calls) (comp body : List ℕ) (here n : ℕ) (s : Steps) → t.kind ≡ Sequence → t.low ≡ s.last - s.free → t.high ≡ most_at s.bounded s.last → length t.given ≡ suc n → n ≡ length body → comp ≡ take n t.given → slice_index t.given 0 ≡ 0 → slice_index comp 0 ≡ 0 → numbers body here 0 ≡ 0
    → step_total s (slice_index comp) (numbers body here) s.last (length body) ≡ total_of t body here
total_same t comp body here n s ek el eh l en ec z y u =
    coll_total-needed (slice_index comp) (numbers body here) (slice_index t.given) (numbers body here) (s.last - s.free) (most_at s.bounded s.last) (length body) y u z u
    (λ x q. ap (λ g. slice_index g x) ec ∙ get_or-take n t.given x 0 (omega (arith, q, en))) (λ x q. refl) (λ w. refl)
    ∙ ap (λ lo. coll_total Unlabelled Sequence (slice_index t.given) (numbers body here) lo (most_at s.bounded s.last) (length body)) (sym el)
    ∙ ap (λ hi. coll_total Unlabelled Sequence (slice_index t.given) (numbers body here) t.low hi (length body)) (sym eh)
    ∙ ap (λ k. coll_total Unlabelled k (slice_index t.given) (numbers body here) t.low t.high (length body)) (sym ek)

-- the bounds of the last step
pub last_low : (low : ℕ) (high : Option ℕ) (n_max : ℕ) → AreBounds low high n_max → low ≡ (steps_of low high n_max).last - (steps_of low high n_max).free
last_low low (Some h) n_max b = omega (arith, b.high_within.0)
last_low low None n_max b = omega arith

pub last_high : (low : ℕ) (high : Option ℕ) (n_max : ℕ) → high ≡ most_at (steps_of low high n_max).bounded (steps_of low high n_max).last
last_high low (Some h) n_max = refl
last_high low None n_max = refl

-- the counts of a table serve for the numbers as a walk keeps them
pub counts_kept : (s : Steps) (below kept : List ℕ) (none n : ℕ) (cells : List ℕ) → take (length below + 1) kept ≡ below ++ none ∷ [] → length below ≡ n → slice_index below 0 ≡ 0 → slice_index kept 0 ≡ 0 → HoldsAll s (step_count s (slice_index below)) n cells → HoldsAll s (step_count s (slice_index kept)) n cells
counts_kept s below kept none n cells e l z y t = record {
  below = λ i o m b. t.below i o m b ∙ same i m b;
  last = λ m b. t.last m b ∙ same s.last m b;
}
  where
    number : (x : ℕ) → x < n → slice_index below x ≡ slice_index kept x
    number x h = sym (number_kept kept below none x e (omega (arith, l, h)) ∙ number_below below none x (omega (arith, l, h)))

    same : (i m : ℕ) → m < n → capped (step_count s (slice_index below) i m) ≡ capped (step_count s (slice_index kept) i m)
    same i m b = ap capped (coll_count-needed Unlabelled Sequence (i - s.free) (most_at s.bounded i) (slice_index below) (slice_index kept) m tt z y (λ x q. number x (omega (arith, q, b))) (λ w. number m b))

pub given_none : (calls n : ℕ) (kept given : List ℕ) → take calls kept ≡ given → length given ≡ suc n → slice_index kept 0 ≡ 0 → slice_index given 0 ≡ 0
given_none calls n kept given e l z = sym (given_at calls n 0 kept given e l (omega arith)) ∙ z

-- an answer for a marked number is one for the number
pub answered : (r : Result ℕ Over) (v t : ℕ) → v ≡ capped t → OkIff r (v ≤ MAX) v → OkIff r (t ≤ MAX) t
answered (Ok x) v t e h = (omega (arith, e, h.0), omega (arith, e, h.0, h.1))
answered (Err x) v t e h = λ l. h (omega (arith, e, l))

-- there were as many calls as numbers were given
pub calls_are : (calls n_max n : ℕ) (kept given : List ℕ) → take calls kept ≡ given → n ≡ length given → calls ≤ n_max + 1 → length kept ≡ n_max + 1 → calls ≡ n
calls_are calls n_max n kept given e l r s = omega (arith, l, r, s, sym (ap length e) ∙ length-take calls kept)

-- the walk after a call
abbrev pub walk_with : Kind → ℕ → Option ℕ → ℕ → List ℕ → Bool → List ℕ → Walk
walk_with k l h n g o c = record { calls = record { kind = k; low = l; high = h; n_max = n; given = g; over = o }; comp = c }

pub same_walk : (w : Walk) (k : Kind) (low n_max : ℕ) (high : Option ℕ) (given given' comp comp' : List ℕ) (over over' : Bool) → k ≡ w.calls.kind → low ≡ w.calls.low → high ≡ w.calls.high → n_max ≡ w.calls.n_max → given ≡ given' → over ≡ over' → comp ≡ comp'
    → walk_with k low high n_max given over comp ≡ walk_with w.calls.kind w.calls.low w.calls.high w.calls.n_max given' over' comp'
same_walk w k low n_max high given given' comp comp' over over' a b c d e f g = λ i. walk_with (a i) (b i) (c i) (d i) (e i) (f i) (g i)

-- a call's answer from the one for the steps
pub walk_answer : (s : Steps) (t : Calls) (comp body : List ℕ) (here n_max low : ℕ) (high : Option ℕ) (v : ℕ) → s ≡ steps_of low high n_max → AreBounds low high n_max → t.kind ≡ Sequence → t.low ≡ low → t.high ≡ high → length t.given ≡ suc (length body) → comp ≡ take (length body) t.given
    → slice_index t.given 0 ≡ 0 → slice_index comp 0 ≡ 0 → numbers body here 0 ≡ 0 → v ≡ capped (step_total s (slice_index comp) (numbers body here) s.last (length body)) → v ≡ capped (total_of t body here)
walk_answer s t comp body here n_max low high v es b ek el eh l ec z y u e =
    let p : low ≡ s.last - s.free = last_low low high n_max b ∙ ap (λ (r : Steps). r.last - r.free) (sym es) in
    let q : high ≡ most_at s.bounded s.last = last_high low high n_max ∙ ap (λ (r : Steps). most_at r.bounded r.last) (sym es) in
    e ∙ ap capped (total_same t comp body here (length body) s ek (el ∙ p) (eh ∙ q) l refl ec z y u)
