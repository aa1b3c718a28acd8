-- Nodes without structures of size 0, found by what their constructs hold.
use Rattle.std.proofs.Common.{◌≡◌, ◌≤◌, ℕ, zero, suc, Bool, true, false, List, [], ◌∷◌, inl, inr, length, refl, sym, Option, Some, None, slice_get, nat_eq, nat_le, arith}
use Rattle.std.proofs.lemmas.Bool.{leb-true}
use Rattle.luo_finite.specs.Listing.{In}
use Rattle.luo_finite.specs.Range.{below}
use Rattle.luo_model.specs.declared.program.Part.{Part}
use Rattle.luo_model.specs.declared.program.Shape.{Shape}
use Rattle.luo_model.specs.declared.program.Shape.TheVariants as shape
use Rattle.luo_model.specs.Tree.{Tree, Trees, Atom, Inj, Tup, Coll, none, more, size_of, sizes_of}
use Rattle.luo_model.specs.Program.{Program, shape_of}
use Rattle.luo_model.specs.Member.{Fits, FitAll, IsWithin}
use Rattle.luo_model.proofs.ChargeLemmas.{some_one}
use Rattle.luo_model.proofs.Tests.{both, either, every, is_among, among_decides, equal_decides}
use Rattle.luo_model.proofs.Candidates.{kept, every_at, first_true, second_true}

abbrev pub some : {A : Type 0} → (A → Bool) → List A → Bool
some test [] = false
some test (x ∷ xs) = either (test x) (some test xs)

-- a structure of this construct has no size 0, where none of the nodes zs has such
abbrev pub no_zero : List ℕ → Shape → Bool
no_zero zs (shape.Atom weight) = nat_le 1 weight
no_zero zs (shape.Union parts) = every (λ (part : Part). is_among nat_eq part.node zs) parts
no_zero zs (shape.Product parts) = some (λ (part : Part). is_among nat_eq part.node zs) parts
no_zero zs (shape.Coll kind part low high) = both (nat_le 1 low) (is_among nat_eq part.node zs)

-- of all nodes those are left out, again and again, that may have a structure of size 0
abbrev pub without : Program → ℕ → List ℕ → List ℕ
without p zero zs = zs
without p (suc rounds) zs = without p rounds (kept (λ x. no_zero zs (shape_of p x)) zs)

abbrev pub solid : Program → List ℕ
solid p = without p (length p.nodes) (below (length p.nodes))

abbrev pub is_closed : Program → List ℕ → Bool
is_closed p zs = every (λ x. no_zero zs (shape_of p x)) zs

get_in : {A : Type 0} (xs : List A) (i : ℕ) (x : A) → slice_get xs i ≡ Some x → In x xs
get_in [] i x e = absurd (let f : None ≡ Some x = e in cc)
get_in (y ∷ xs) zero x e = inl (sym (some_one y x e))
get_in (y ∷ xs) (suc i) x e = inr (get_in xs i x e)

first_or_rest : (a b : Bool) → either a b ≡ true → (a ≡ true → ⊥) → (b ≡ true → ⊥) → ⊥
first_or_rest true b e h k = h refl
first_or_rest false b e h k = k e

pub enough : (low : ℕ) (high : Option ℕ) (k : ℕ) → IsWithin low high k → low ≤ k
enough low (Some high) k h = h.0
enough low None k h = h

module _ (p : Program) (zs : List ℕ) (closed : is_closed p zs ≡ true) where
  known : (x : ℕ) → is_among nat_eq x zs ≡ true → no_zero zs (shape_of p x) ≡ true
  known x e = every_at (λ y. no_zero zs (shape_of p y)) zs x closed ((among_decides nat_eq equal_decides x zs).0 e)

  mutual
    pub never_zero : (t : Tree) (s : Shape) → no_zero zs s ≡ true → Fits p s t → size_of t ≡ 0 → ⊥
    never_zero (Atom w l) (shape.Atom weight) e h z = omega (arith, leb-true 1 weight e, h.0, z)
    never_zero (Inj zero t) (shape.Union parts) e h z = h
    never_zero (Inj (suc i) t) (shape.Union parts) e h z =
        never_zero t (shape_of p h.0.node) (known h.0.node (every_at (λ (part : Part). is_among nat_eq part.node zs) parts h.0 e (get_in parts i h.0 h.1))) h.2 z
    never_zero (Tup ts) (shape.Product parts) e h z = some_never ts parts e h z
    never_zero (Coll none) (shape.Coll kind part low high) e h z =
        omega (arith, leb-true 1 low (first_true (nat_le 1 low) (is_among nat_eq part.node zs) e), enough low high 0 h.0)
    never_zero (Coll (more t ts)) (shape.Coll kind part low high) e h z =
        never_zero t (shape_of p part.node) (known part.node (second_true (nat_le 1 low) (is_among nat_eq part.node zs) e)) h.1.0 (omega (arith, z))
    never_zero t s e h z = h

    some_never : (ts : Trees) (parts : List Part) → some (λ (part : Part). is_among nat_eq part.node zs) parts ≡ true → FitAll p parts ts → sizes_of ts ≡ 0 → ⊥
    some_never none [] e h z = cc
    some_never none (part ∷ parts) e h z = h
    some_never (more t ts) [] e h z = h
    some_never (more t ts) (part ∷ parts) e h z =
        first_or_rest (is_among nat_eq part.node zs) (some (λ (q : Part). is_among nat_eq q.node zs) parts) e
        (λ k. never_zero t (shape_of p part.node) (known part.node k) h.0 (omega (arith, z))) (λ k. some_never ts parts k h.1 (omega (arith, z)))
