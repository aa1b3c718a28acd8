-- What is left behind some parts of a structure.
use Rattle.std.proofs.Common.{◌≡◌, ℕ, zero, suc, ◌+◌, ◌-◌, ◌≤◌, ◌<◌, List, [], ◌∷◌, ◌++◌, append_assoc, inl, inr, ⊎_elim, length, refl, sym, ◌∙◌, ap, subst, arith, Option, slice_index_or, length-append, ◌⊎◌, true, false, nat_lt, IsTrue}
use Rattle.std.proofs.lemmas.Bool.Decides.{leb_tells}
use Rattle.luo_finite.specs.Listing.{In}
use Rattle.luo_model.specs.declared.program.Universe.{Universe}
use Rattle.luo_model.specs.declared.program.Kind.{Kind}
use Rattle.luo_model.specs.declared.program.Kind.TheVariants.{Sequence, Set, Cycle, Multiset, Powerset}
use Rattle.luo_model.specs.declared.program.Part.{Part}
use Rattle.luo_model.specs.declared.program.Shape.{Shape}
use Rattle.luo_model.specs.declared.program.Shape.TheVariants as shape
use Rattle.luo_model.specs.Program.{Program, shape_of}
use Rattle.luo_model.specs.Invariant.{IsProgram, inner_parts, IsKind, IsLow, IsAllowed}
use Rattle.luo_model.specs.Founded.{IsFounded, HasEmptyComponent}
use Rattle.luo_model.proofs.NodeLemmas.{node_at_place}
use Rattle.luo_counting.specs.Items.{Suits}
use Rattle.luo_founded.proofs.MadeLemmas.{zero_of_member}
use Rattle.luo_places.specs.Numbers.{one_less}
use Rattle.luo_places.specs.Tails.{factors, items, kind_behind, tail_of, behind_first, behind_some, first_node, IsThere, Ends, AreNumbers}
use Rattle.luo_places.proofs.Tails.{there_behind}
use Rattle.luo_rank.specs.inner.Lookup.{tail_at, IsLeft, Stands, no_part}

-- the factors behind the first f
pub record Split (parts : List Part) (f : ℕ) : Type 0 where
  pub before : List Part
  pub rest : List Part
  pub is : parts ≡ before ++ rest
  pub long : length before ≡ f
  pub tail : behind_some (factors parts) f ≡ factors rest

pub split_at : (parts : List Part) (f : ℕ) → f ≤ length parts → Split parts f
split_at parts zero l = record { before = []; rest = parts; is = refl; long = refl; tail = refl }
split_at parts (suc f) l = next (split_at parts f (omega (arith, l)))
  where
    next : Split parts f → Split parts (suc f)
    next s = by s.rest refl
      where
        by : (rest : List Part) → s.rest ≡ rest → Split parts (suc f)
        by [] e = absurd (omega (arith, l, ap length s.is, length-append s.before s.rest, ap length e, s.long))
        by (part ∷ rest) e = record {
          before = s.before ++ part ∷ [];
          rest = rest;
          is = s.is ∙ ap (λ r. s.before ++ r) e ∙ sym (append_assoc s.before (part ∷ []) rest);
          long = length-append s.before (part ∷ []) ∙ (let q : length s.before + 1 ≡ suc f = omega (arith, s.long) in q);
          tail = ap behind_first (s.tail ∙ ap factors e);
        }

-- the components behind the first f
pub record Bounds (kind : Kind) (y low : ℕ) (high : Option ℕ) (f : ℕ) : Type 0 where
  pub kind_now : Kind
  pub low_now : ℕ
  pub high_now : Option ℕ
  pub tail : behind_some (items kind y low high) f ≡ items kind_now y low_now high_now

pub bounds_at : (kind : Kind) (y low : ℕ) (high : Option ℕ) (f : ℕ) → Bounds kind y low high f
bounds_at kind y low high zero = record { kind_now = kind; low_now = low; high_now = high; tail = refl }
bounds_at kind y low high (suc f) = let b = bounds_at kind y low high f in record { kind_now = kind_behind b.kind_now; low_now = b.low_now - 1; high_now = one_less b.high_now; tail = ap behind_first b.tail }

pub no_tail : (f : ℕ) → behind_some (factors []) f ≡ factors []
no_tail zero = refl
no_tail (suc f) = ap behind_first (no_tail f)

-- WHETHER something is left
left_rest : (rest : List Part) (n : ℕ) → 1 ≤ length rest → IsLeft (factors rest) n
left_rest [] n h = absurd (omega (arith, h))
left_rest (part ∷ rest) n h = tt

ends_rest : (rest : List Part) (n : ℕ) → length rest ≡ 0 → Ends (factors rest) n
ends_rest [] n h = tt
ends_rest (part ∷ rest) n h = absurd (omega (arith, h))

pub parts_left : (parts : List Part) (f n : ℕ) → f < length parts → IsLeft (behind_some (factors parts) f) n
parts_left parts f n l =
    let s = split_at parts f (omega (arith, l)) in
    subst (λ t. IsLeft t n) (sym s.tail) (left_rest s.rest n (omega (arith, l, ap length s.is, length-append s.before s.rest, s.long)))

pub parts_end : (parts : List Part) (f n : ℕ) → f ≤ length parts → length parts ≤ f → Ends (behind_some (factors parts) f) n
parts_end parts f n l g =
    let s = split_at parts f l in
    subst (λ t. Ends t n) (sym s.tail) (ends_rest s.rest n (omega (arith, l, g, ap length s.is, length-append s.before s.rest, s.long)))

pub items_left : (kind : Kind) (y low : ℕ) (high : Option ℕ) (f n : ℕ) → 1 ≤ n → IsLeft (behind_some (items kind y low high) f) n
items_left kind y low high f n g = subst (λ t. IsLeft t n) (sym (bounds_at kind y low high f).tail) g

pub items_end : (kind : Kind) (y low : ℕ) (high : Option ℕ) (f n : ℕ) → n ≡ 0 → Ends (behind_some (items kind y low high) f) n
items_end kind y low high f n g = subst (λ t. Ends t n) (sym (bounds_at kind y low high f).tail) g

-- THE FIRST
rest_left : (rest : List Part) (n : ℕ) → IsLeft (factors rest) n → 1 ≤ length rest
rest_left [] n h = absurd h
rest_left (part ∷ rest) n h = omega arith

index_behind : (before rest : List Part) → slice_index_or (before ++ rest) (length before) no_part ≡ slice_index_or rest 0 no_part
index_behind [] rest = refl
index_behind (b ∷ before) rest = index_behind before rest

pub parts_more : (parts : List Part) (f n : ℕ) → f ≤ length parts → IsLeft (behind_some (factors parts) f) n → f < length parts
parts_more parts f n l h =
    let s = split_at parts f l in
    omega (arith, rest_left s.rest n (subst (λ t. IsLeft t n) s.tail h), ap length s.is, length-append s.before s.rest, s.long)

pub parts_first : (parts : List Part) (f : ℕ) → f < length parts → first_node (behind_some (factors parts) f) ≡ (slice_index_or parts f no_part).node
parts_first parts f l =
    let s = split_at parts f (omega (arith, l)) in
    ap first_node s.tail ∙ first_of s.rest (omega (arith, l, ap length s.is, length-append s.before s.rest, s.long))
    ∙ ap (λ (o : Part). o.node) (sym (index_behind s.before s.rest) ∙ ap (λ k. slice_index_or (s.before ++ s.rest) k no_part) s.long ∙ ap (λ ps. slice_index_or ps f no_part) (sym s.is))
  where
    first_of : (rest : List Part) → 1 ≤ length rest → first_node (factors rest) ≡ (slice_index_or rest 0 no_part).node
    first_of [] h = absurd (omega (arith, h))
    first_of (part ∷ rest) h = refl

pub items_first : (kind : Kind) (y low : ℕ) (high : Option ℕ) (f : ℕ) → first_node (behind_some (items kind y low high) f) ≡ y
items_first kind y low high f = ap first_node (bounds_at kind y low high f).tail

-- what isn't a product is a collection
pub true_less : (a b : ℕ) → IsTrue (nat_lt a b) → a < b
true_less a b h = by_leb (leb_tells (suc a) b)
  where
    by_leb : ((nat_lt a b ≡ true) × (suc a ≤ b)) ⊎ ((nat_lt a b ≡ false) × (b < suc a)) → a < b
    by_leb (inl k) = omega (arith, k.1)
    by_leb (inr k) = absurd (let e : false ≡ true = sym k.0 ∙ h in cc)

pub false_least : (a b : ℕ) → (IsTrue (nat_lt a b) → ⊥) → b ≤ a
false_least a b h = by_leb (leb_tells (suc a) b)
  where
    by_leb : ((nat_lt a b ≡ true) × (suc a ≤ b)) ⊎ ((nat_lt a b ≡ false) × (b < suc a)) → b ≤ a
    by_leb (inl k) = absurd (h k.0)
    by_leb (inr k) = omega (arith, k.1)

pub default_left : (now s : Shape) (last f n : ℕ) → now ≡ s → ((x : List Part) → now ≡ shape.Product x → ⊥) → Stands s last f n → 0 < n → IsLeft (behind_some (tail_of s) f) n
default_left now (shape.Atom w) last f n e d h g = absurd h
default_left now (shape.Union parts) last f n e d h g = absurd h
default_left now (shape.Product parts) last f n e d h g = absurd (d parts e)
default_left now (shape.Coll kind part low high) last f n e d h g = items_left kind part.node low high f n g

pub default_end : (now s : Shape) (last f n : ℕ) → now ≡ s → ((x : List Part) → now ≡ shape.Product x → ⊥) → Stands s last f n → n ≤ 0 → Ends (behind_some (tail_of s) f) n
default_end now (shape.Atom w) last f n e d h g = absurd h
default_end now (shape.Union parts) last f n e d h g = absurd h
default_end now (shape.Product parts) last f n e d h g = absurd (d parts e)
default_end now (shape.Coll kind part low high) last f n e d h g = items_end kind part.node low high f n (let q : n ≡ 0 = omega (arith, g) in q)

pub default_none : (now s : Shape) (last f n : ℕ) → now ≡ s → ((x : List Part) → now ≡ shape.Product x → ⊥) → ((k : Kind) (part : Part) (low : ℕ) (high : Option ℕ) → now ≡ shape.Coll k part low high → ⊥) → Stands s last f n → ⊥
default_none now (shape.Atom w) last f n e d c h = h
default_none now (shape.Union parts) last f n e d c h = h
default_none now (shape.Product parts) last f n e d c h = d parts e
default_none now (shape.Coll kind part low high) last f n e d c h = c kind part low high e

-- ALL NODES are there
module _ (p : Program) (proper : IsProgram p) (founded : IsFounded p) where
  pub inner_there : (x : ℕ) (part : Part) → In part (inner_parts (shape_of p x)) → part.node < length p.nodes
  inner_there x part i = ⊎_elim
      (λ n. (proper.parts_there x n.0 n.1 part (subst (λ (s : Shape). In part (inner_parts s)) n.2 i)).0)
      (λ o. absurd (subst (λ (s : Shape). In part (inner_parts s)) o i)) (node_at_place p x)

  suits_of : (u : Universe) (kind : Kind) (low : ℕ) → IsKind u kind → IsLow kind low → Suits u kind low
  suits_of u Sequence low k l = tt
  suits_of u Set low k l = subst (λ v. Suits v Set low) (sym k) tt
  suits_of u Cycle low k l = subst (λ v. Suits v Cycle low) (sym k) l
  suits_of u Multiset low k l = subst (λ v. Suits v Multiset low) (sym k) tt
  suits_of u Powerset low k l = subst (λ v. Suits v Powerset low) (sym k) tt

  pub top_there : (x : ℕ) → IsThere p (length p.nodes) (tail_of (shape_of p x))
  top_there x = by (shape_of p x) refl
    where
      by : (s : Shape) → shape_of p x ≡ s → IsThere p (length p.nodes) (tail_of s)
      by (shape.Atom w) is = λ part i. absurd i
      by (shape.Union parts) is = λ part i. absurd i
      by (shape.Product parts) is = λ part i. inner_there x part (subst (In part) (sym (ap inner_parts is)) i)
      by (shape.Coll kind part low high) is =
          let allowed : IsAllowed p.universe (shape.Coll kind part low high) = ⊎_elim (λ n. subst (IsAllowed p.universe) (sym n.2 ∙ is) (proper.allowed x n.0 n.1)) (λ o. absurd (let q : shape.Union [] ≡ shape.Coll kind part low high = sym o ∙ is in cc)) (node_at_place p x) in (
            inner_there x part (subst (In part) (sym (ap inner_parts is)) (inl refl)),
            suits_of p.universe kind low allowed.0 allowed.1,
            λ s m z. founded.solid x (subst (HasEmptyComponent p) (sym is) (zero_of_member p part.node s m z)),
          )

  pub tail_there : (x f last : ℕ) (a : ℕ → ℕ → ℕ) → AreNumbers p (length p.nodes) last a → IsThere p (length p.nodes) (tail_at p x f)
  tail_there x zero last a t = top_there x
  tail_there x (suc f) last a t = there_behind p (length p.nodes) last a t (tail_at p x f) (tail_there x f last a t)
