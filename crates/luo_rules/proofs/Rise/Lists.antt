-- Lists of breaches at rising tokens between two borders.
use Rattle.std.proofs.Common.{◌≡◌, ℕ, ◌+◌, ◌<◌, ◌≤◌, List, [], ◌∷◌, ◌++◌, inl, inr, ap, sym, ◌∙◌, subst, ⊎_elim, Bool, true, false, arith}
use Rattle.std.specs.Prelude.{if◌then◌else◌}
use Rattle.luo_finite.specs.Listing.{In}
use Rattle.luo_rules.specs.declared.rule.Breach.{Breach}
use Rattle.luo_rules.specs.Breaches.{◌or_if_none◌}
use Rattle.luo_rules.specs.Rising.{Rises}

-- at most one breach, at this token
pub data At : ℕ → List Breach → Type 0 where
  none : {at : ℕ} → At at []
  single : {at : ℕ} {b : Breach} → b.token ≡ at → At at (b ∷ [])

-- breaches that rise, the first at `low` or behind it, and the last before `high`
pub data Within : ℕ → ℕ → List Breach → Type 0 where
  nothing : {low high : ℕ} → low ≤ high → Within low high []
  first : {low high : ℕ} {b : Breach} {bs : List Breach} → low ≤ b.token → Within (b.token + 1) high bs → Within low high (b ∷ bs)

pub at_if : {at : ℕ} {xs ys : List Breach} (test : Bool) → At at xs → At at ys → At at (if test then xs else ys)
at_if true p q = p
at_if false p q = q

pub at_or : {at : ℕ} {xs ys : List Breach} → At at xs → At at ys → At at (xs or_if_none ys)
at_or none q = q
at_or (single e) q = single e

pub borders : {low high : ℕ} {bs : List Breach} → Within low high bs → low ≤ high
borders (nothing l) = l
borders (first l w) = omega (arith, l, borders w)

-- wider borders
pub lower : {low mid high : ℕ} {bs : List Breach} → low ≤ mid → Within mid high bs → Within low high bs
lower l (nothing m) = nothing (omega (arith, l, m))
lower l (first m w) = first (omega (arith, l, m)) w

pub higher : {low mid high : ℕ} {bs : List Breach} → Within low mid bs → mid ≤ high → Within low high bs
higher (nothing m) h = nothing (omega (arith, m, h))
higher (first m w) h = first m (higher w h)

-- one list behind another
pub joined : {low mid next high : ℕ} {xs ys : List Breach} → Within low mid xs → mid ≤ next → Within next high ys → Within low high (xs ++ ys)
joined (nothing l) m w = lower (omega (arith, l, m)) w
joined (first l v) m w = first l (joined v m w)

-- at most one breach, at a token between the borders
pub placed : {low high at : ℕ} {bs : List Breach} → At at bs → low ≤ at → at < high → Within low high bs
placed none l h = nothing (omega (arith, l, h))
placed (single e) l h = first (omega (arith, l, e)) (nothing (omega (arith, h, e)))

-- at most one breach, and a list behind its token
pub led : {low high at : ℕ} {xs ys : List Breach} → At at xs → low ≤ at → Within (at + 1) high ys → Within low high (xs ++ ys)
led none l w = lower (omega (arith, l)) w
led (single e) l w = first (omega (arith, l, e)) (lower (omega (arith, e)) w)

pub within_or : {low high : ℕ} {xs ys : List Breach} → Within low high xs → Within low high ys → Within low high (xs or_if_none ys)
within_or (nothing l) v = v
within_or (first l w) v = first l w

-- a test before a list
pub within_if : {low high : ℕ} {xs : List Breach} (test : Bool) → Within low high xs → Within low high (if test then xs else [])
within_if true w = w
within_if false w = nothing (borders w)

above : {low high : ℕ} {bs : List Breach} → Within low high bs → (b : Breach) → In b bs → low ≤ b.token
above (nothing l) b i = absurd i
above {low} (first {b = c} l w) b i = ⊎_elim (λ e. subst (λ z. low ≤ z.token) (sym e) l) (λ j. let m = above w b j in omega (arith, l, m)) i

below : {low high : ℕ} {bs : List Breach} → Within low high bs → (b : Breach) → In b bs → b.token < high
below (nothing l) b i = absurd i
below {low} {high} (first {b = c} l w) b i = ⊎_elim (λ e. subst (λ z. z.token < high) (sym e) (let m = borders w in omega (arith, m))) (λ j. below w b j) i

-- what is in the first of two such lists stands before what is in the second
pub in_order : {low mid high : ℕ} {xs ys : List Breach} → Within low mid xs → Within mid high ys → (a b : Breach) → In a xs → In b ys → a.token < b.token
in_order v w a b i j = let l = below v a i in let m = above w b j in omega (arith, l, m)

-- such lists rise
pub rises : {low high : ℕ} {bs : List Breach} → Within low high bs → Rises bs
rises (nothing l) = tt
rises (first {b} l w) = ((λ later i. let m = above w later i in omega (arith, m)), rises w)

-- the first of a list that rises has the least token
pub first_is_least : (one other : Breach) (bs : List Breach) → Rises (one ∷ bs) → In other (one ∷ bs) → one.token ≤ other.token
first_is_least one other bs r (inl e) = omega (arith, ap (λ (z : Breach). z.token) e)
first_is_least one other bs r (inr i) = let m = r.0 other i in omega (arith, m)

-- a list that rises has at most one breach at a token
pub single_at : (bs : List Breach) → Rises bs → (one other : Breach) → In one bs → In other bs → one.token ≡ other.token → one ≡ other
single_at [] r one other i j e = absurd i
single_at (b ∷ bs) r one other (inl f) (inl g) e = f ∙ sym g
single_at (b ∷ bs) r one other (inl f) (inr j) e = let m = r.0 other j in absurd (omega (arith, m, e, ap (λ (z : Breach). z.token) f))
single_at (b ∷ bs) r one other (inr i) (inl g) e = let m = r.0 one i in absurd (omega (arith, m, e, ap (λ (z : Breach). z.token) g))
single_at (b ∷ bs) r one other (inr i) (inr j) e = single_at bs r.1 one other i j e
