-- What the tests of facts decide.
use Rattle.std.proofs.Common.{◌≡◌, ℕ, suc, Bool, true, false, List, [], ◌∷◌, length, subst, Some, slice_get, nat_eq}
use Rattle.std.proofs.lemmas.Bool.{eqb-true}
use Rattle.luo_finite.specs.Listing.{Lists, Counts, Neighbours}
use Rattle.luo_finite.proofs.Listings.{Lists-same_length}
use Rattle.luo_model.specs.Tree.{Tree}
use Rattle.luo_model.specs.Order.{IsBefore}
use Rattle.luo_model.specs.Program.{Program, Procedure, shape_of, site_node}
use Rattle.luo_model.specs.Member.{Member}
use Rattle.luo_model.specs.Structures.{IsStructure, IsStructureOn, IsOrderedListing}
use Rattle.luo_model.specs.Tables.{IsCount, IsTotal}
use Rattle.luo_model.specs.FactsCounts.{HasCounts}
use Rattle.luo_model.specs.FactsTotals.{HasRows, HasTotals}
use Rattle.luo_model.proofs.Tests.{both, is_pairwise, pairwise_decides, comes_before, before_decides, fits, fits_decides, is_structure, structure_decides, is_structure_on, structure_on_decides}
use Rattle.luo_model.proofs.Candidates.{first_true, second_true}
use Rattle.luo_model.proofs.Searched.{found, is_listing, listing_is}
use Rattle.luo_model.proofs.Computed.{is_total, total_is}

-- constructs inside constructs to look into, and calls inside calls: enough for all facts
abbrev pub deep : ℕ
deep = 24

abbrev pub all_found : Program → ℕ → ℕ → List Tree
all_found p x n = found p deep x n

-- ---- members and structures

not_both : (b : Bool) → b ≡ false → b ≡ true → ⊥
not_both b e f = cc

pub member : (p : Program) (x : ℕ) (t : Tree) → fits p t (shape_of p x) ≡ true → Member p x t
member p x t e = (fits_decides p t (shape_of p x)).0 e

pub no_member : (p : Program) (x : ℕ) (t : Tree) → fits p t (shape_of p x) ≡ false → Member p x t → ⊥
no_member p x t e h = not_both (fits p t (shape_of p x)) e ((fits_decides p t (shape_of p x)).1 h)

pub structure : (p : Program) (x n : ℕ) (t : Tree) → is_structure p x n t ≡ true → IsStructure p x n t
structure p x n t e = (structure_decides p x n t).0 e

pub structure_on : (p : Program) (x : ℕ) (L : List ℕ) (n : ℕ) (t : Tree) → is_structure_on p x L n t ≡ true → IsStructureOn p x L n t
structure_on p x L n t e = (structure_on_decides p x L n t).0 e

pub no_structure_on : (p : Program) (x : ℕ) (L : List ℕ) (n : ℕ) (t : Tree) → is_structure_on p x L n t ≡ false → IsStructureOn p x L n t → ⊥
no_structure_on p x L n t e h = not_both (is_structure_on p x L n t) e ((structure_on_decides p x L n t).1 h)

-- ---- the order

abbrev pub is_chain : List Tree → Bool
is_chain [] = true
is_chain (s ∷ []) = true
is_chain (s ∷ (t ∷ ts)) = both (comes_before s t) (is_chain (t ∷ ts))

pub chain : (ts : List Tree) → is_chain ts ≡ true → Neighbours IsBefore ts
chain [] e = tt
chain (s ∷ []) e = tt
chain (s ∷ (t ∷ ts)) e = ((before_decides s t).0 (first_true (comes_before s t) _ e), chain (t ∷ ts) (second_true (comes_before s t) _ e))

abbrev pub is_ordered : Program → ℕ → ℕ → List Tree → Bool
is_ordered p x n l = both (is_pairwise comes_before l) (is_listing p deep x n l)

pub ordered : (p : Program) (x n : ℕ) (l : List Tree) → is_ordered p x n l ≡ true → IsOrderedListing p x n l
ordered p x n l e = (
  listing_is p deep x n l (second_true (is_pairwise comes_before l) _ e),
  (pairwise_decides IsBefore comes_before before_decides l).0 (first_true (is_pairwise comes_before l) _ e),
)

-- ---- counts

count_listed : {A : Type 0} (P : A → Type 0) (l : List A) → Lists P l → Counts P (length l)
count_listed P l h = record { exists = (l, h); each = λ m k. Lists-same_length P m l k h }

abbrev pub is_count : Program → ℕ → ℕ → ℕ → Bool
is_count p x n c = both (is_listing p deep x n (all_found p x n)) (nat_eq (length (all_found p x n)) c)

pub count : (p : Program) (x n c : ℕ) → is_count p x n c ≡ true → IsCount p x n c
count p x n c e =
    subst (IsCount p x n) (eqb-true (length (all_found p x n)) c (second_true (is_listing p deep x n (all_found p x n)) _ e))
    (count_listed (IsStructure p x n) (all_found p x n) (listing_is p deep x n (all_found p x n) (first_true (is_listing p deep x n (all_found p x n)) _ e)))

abbrev pub are_counts : Program → ℕ → ℕ → List ℕ → Bool
are_counts p x n [] = true
are_counts p x n (c ∷ cs) = both (is_count p x n c) (are_counts p x (suc n) cs)

pub counts : (p : Program) (x n : ℕ) (cs : List ℕ) → are_counts p x n cs ≡ true → HasCounts p x n cs
counts p x n [] e = tt
counts p x n (c ∷ cs) e = (count p x n c (first_true (is_count p x n c) _ e), counts p x (suc n) cs (second_true (is_count p x n c) _ e))

-- ---- totals and rows

abbrev pub is_total_at : Program → ℕ → ℕ → ℕ → Bool
is_total_at p i n t = both (is_listing p deep (site_node p i) n (all_found p (site_node p i) n)) (is_total p deep i (all_found p (site_node p i) n) t)

pub total : (p : Program) (i n t : ℕ) → is_total_at p i n t ≡ true → IsTotal p i n t
total p i n t e =
    let x = site_node p i in
    total_is p deep i n (all_found p x n) t (listing_is p deep x n (all_found p x n) (first_true (is_listing p deep x n (all_found p x n)) _ e))
    (second_true (is_listing p deep x n (all_found p x n)) _ e)

abbrev pub are_totals : Program → ℕ → ℕ → List ℕ → Bool
are_totals p n i [] = true
are_totals p n i (t ∷ ts) = both (is_total_at p i n t) (are_totals p n (suc i) ts)

pub totals : (p : Program) (n i : ℕ) (ts : List ℕ) → are_totals p n i ts ≡ true → HasTotals p n i ts
totals p n i [] e = tt
totals p n i (t ∷ ts) e = (total p i n t (first_true (is_total_at p i n t) _ e), totals p n (suc i) ts (second_true (is_total_at p i n t) _ e))

abbrev pub are_rows : Program → Procedure → ℕ → List (ℕ × ℕ) → Bool
are_rows p P n [] = true
are_rows p P n (row ∷ rows) = both (both (is_count p P.on.node n row.0) (is_total_at p P.site n row.1)) (are_rows p P (suc n) rows)

pub rows : (p : Program) (f : ℕ) (P : Procedure) → slice_get p.procs f ≡ Some P → (n : ℕ) (l : List (ℕ × ℕ)) → are_rows p P n l ≡ true → HasRows p f n l
rows p f P h n [] e = tt
rows p f P h n (row ∷ l) e =
    let c = is_count p P.on.node n row.0 in
    let first = first_true (both c (is_total_at p P.site n row.1)) _ e in
    ((P, h, count p P.on.node n row.0 (first_true c _ first), total p P.site n row.1 (second_true c _ first)), rows p f P h (suc n) l (second_true (both c (is_total_at p P.site n row.1)) _ e))
