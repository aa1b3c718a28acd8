-- Neighbours of a collection, and its least labels.
use Rattle.std.proofs.Common.{◌≡◌, ◌↔◌, ℕ, zero, suc, ◌+◌, ◌<◌, ◌≤◌, List, [], ◌∷◌, inl, inr, length, drop, get_or, min, refl, sym, ap, subst, ◌∙◌, arith, IsTrue, true, false}
use Rattle.std.proofs.lemmas.List.{drop_all}
use Rattle.luo_finite.specs.Listing.{In, Neighbours}
use Rattle.luo_finite.proofs.Pairwise.{neighbours_from_pairwise}
use Rattle.luo_model.specs.declared.program.Kind.{Kind}
use Rattle.luo_model.specs.declared.program.Kind.TheVariants.{Sequence, Set, Cycle, Multiset, Powerset}
use Rattle.luo_model.specs.Tree.{Tree, Trees, none, more, to_list, labels_of, least_of, least_label}
use Rattle.luo_model.specs.Order.{IsBefore, IsNotBefore}
use Rattle.luo_model.specs.Member.{ComponentsStand}
use Rattle.luo_model.proofs.OrderLemmas.{neighbours_stand}
use Rattle.luo_struct.specs.declared.structure.Structure.{Structure}
use Rattle.luo_struct.specs.View.{tree_of, tree_list}
use Rattle.luo_struct.specs.inner.Passes.{lesser, next_above}
use Rattle.luo_struct.specs.inner.Neighbours.{StandBeside, EachStandsBeside}
use Rattle.luo_struct.proofs.LabelOrder.{labels_positive}
use Rattle.luo_struct.proofs.SortedLemmas.{next_positive}
use Rattle.luo_struct.proofs.CompareLemmas.{at_part}

pub least_is : (t : Tree) → next_above 0 (labels_of t) ≡ least_label t
least_is t = go (labels_of t) (labels_positive t)
  where
    join : (x r : ℕ) → 0 < x → 0 < r → lesser x r ≡ min x r
    join zero r h g = absurd (omega arith)
    join (suc x) zero h g = absurd (omega arith)
    join (suc x) (suc r) h g = refl

    least_positive : (x : ℕ) (xs : List ℕ) → ((z : ℕ) → In z (x ∷ xs) → 0 < z) → 0 < least_of (x ∷ xs)
    least_positive x [] h = h x (inl refl)
    least_positive x (y ∷ xs) h = both x (least_of (y ∷ xs)) (h x (inl refl)) (least_positive y xs (λ z i. h z (inr i)))
      where
        both : (a b : ℕ) → 0 < a → 0 < b → 0 < min a b
        both a b h g = grind arith

    lesser_zero : (x : ℕ) → lesser x 0 ≡ x
    lesser_zero zero = refl
    lesser_zero (suc x) = refl

    go : (xs : List ℕ) → ((z : ℕ) → In z xs → 0 < z) → next_above 0 xs ≡ least_of xs
    go [] h = refl
    go (x ∷ []) h = ap (λ n. lesser n 0) (next_positive x (h x (inl refl))) ∙ lesser_zero x
    go (x ∷ (y ∷ xs)) h =
        ap (λ n. lesser n (next_above 0 (y ∷ xs))) (next_positive x (h x (inl refl))) ∙ ap (lesser x) (go (y ∷ xs) (λ z i. h z (inr i)))
        ∙ join x (least_of (y ∷ xs)) (h x (inl refl)) (least_positive y xs (λ z i. h z (inr i)))

-- ---- neighbours, from a place on

abbrev pub SameFrom : Kind → List Structure → ℕ → Type 0
SameFrom kind ss i = EachStandsBeside kind (tree_list (drop i ss)) ↔ EachStandsBeside kind (tree_list ss)

module _ (kind : Kind) (ss : List Structure) (i : ℕ) (s : Structure) (l : i < length ss) (e : s ≡ get_or ss i s) (h : SameFrom kind ss i) where
  module _ (t : Structure) (m : i + 1 < length ss) (f : t ≡ get_or ss (i + 1) t) where
    two : tree_list (drop i ss) ≡ more (tree_of s) (more (tree_of t) (tree_list (drop (i + 1 + 1) ss)))
    two = at_part ss i s l e ∙ ap (more (tree_of s)) (at_part ss (i + 1) t m f)

    pub beside_fails : (r : _) → (IsTrue r ↔ StandBeside kind (tree_of s) (tree_of t)) → r ≡ false → IsTrue false ↔ EachStandsBeside kind (tree_list ss)
    beside_fails r d q = ((λ n. absurd (differ n)), λ g. sym q ∙ d.1 (subst (EachStandsBeside kind) two (h.1 g)).0)
      where
        differ : false ≡ true → ⊥
        differ e = cc

    pub beside_next : (r : _) → (IsTrue r ↔ StandBeside kind (tree_of s) (tree_of t)) → r ≡ true → SameFrom kind ss (i + 1)
    beside_next r d q = (
      (λ g. h.0 (subst (EachStandsBeside kind) (sym two) (d.0 q, subst (EachStandsBeside kind) (at_part ss (i + 1) t m f) g))),
      λ g. subst (EachStandsBeside kind) (sym (at_part ss (i + 1) t m f)) (subst (EachStandsBeside kind) two (h.1 g)).1,
    )

  pub beside_last : length ss ≤ i + 1 → SameFrom kind ss (i + 1)
  beside_last m =
      let rest : tree_list (drop (i + 1) ss) ≡ none = ap tree_list (drop_all (i + 1) ss m) in
      ((λ g. h.0 (subst (EachStandsBeside kind) (sym (at_part ss i s l e ∙ ap (more (tree_of s)) rest)) tt)), λ g. subst (EachStandsBeside kind) (sym rest) tt)

pub beside_start : (kind : Kind) (ss : List Structure) → SameFrom kind ss 0
beside_start kind ss = ((λ g. g), λ g. g)

pub beside_end : (kind : Kind) (ss : List Structure) (i : ℕ) → length ss ≤ i → SameFrom kind ss i → IsTrue true ↔ EachStandsBeside kind (tree_list ss)
beside_end kind ss i l h = ((λ e. h.0 (subst (EachStandsBeside kind) (sym (ap tree_list (drop_all i ss l))) tt)), λ g. refl)

-- ---- what neighbours say of all

into : (kind : Kind) (R : Tree → Tree → Type 0) → ((s t : Tree) → StandBeside kind s t → R s t) → (ts : Trees) → EachStandsBeside kind ts → Neighbours R (to_list ts)
into kind R f none h = tt
into kind R f (more s none) h = tt
into kind R f (more s (more t ts)) h = (f s t h.0, into kind R f (more t ts) h.1)

back : (kind : Kind) (R : Tree → Tree → Type 0) → ((s t : Tree) → R s t → StandBeside kind s t) → (ts : Trees) → Neighbours R (to_list ts) → EachStandsBeside kind ts
back kind R f none h = tt
back kind R f (more s none) h = tt
back kind R f (more s (more t ts)) h = (f s t h.0, back kind R f (more t ts) h.1)

pub beside_stands : (kind : Kind) → (kind ≡ Cycle → ⊥) → (ts : Trees) → EachStandsBeside kind ts ↔ ComponentsStand kind (to_list ts)
beside_stands Sequence n ts = ((λ h. tt), λ h. back Sequence (λ s t. Unit {0}) (λ s t u. u) ts (anything (to_list ts)))
  where
    anything : (l : List Tree) → Neighbours (λ s t. Unit {0}) l
    anything [] = tt
    anything (x ∷ []) = tt
    anything (x ∷ (y ∷ l)) = (tt, anything (y ∷ l))
beside_stands Set n ts = (
  (λ h. neighbours_stand.0 (to_list ts) (into Set (λ s t. least_label s < least_label t) (λ s t u. u) ts h)),
  λ h. back Set (λ s t. least_label s < least_label t) (λ s t u. u) ts (neighbours_from_pairwise (λ s t. least_label s < least_label t) (to_list ts) h),
)
beside_stands Cycle n ts = absurd (n refl)
beside_stands Multiset n ts = (
  (λ h. neighbours_stand.1 (to_list ts) (into Multiset IsNotBefore (λ s t u. u) ts h)),
  λ h. back Multiset IsNotBefore (λ s t u. u) ts (neighbours_from_pairwise IsNotBefore (to_list ts) h),
)
beside_stands Powerset n ts = (
  (λ h. neighbours_stand.2 (to_list ts) (into Powerset (λ s t. IsBefore t s) (λ s t u. u) ts h)),
  λ h. back Powerset (λ s t. IsBefore t s) (λ s t u. u) ts (neighbours_from_pairwise (λ s t. IsBefore t s) (to_list ts) h),
)
