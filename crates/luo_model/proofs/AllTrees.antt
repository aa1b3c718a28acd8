-- All trees up to a height, with bounded weights, branches and widths, and labels of a list.
use Rattle.std.proofs.Common.{ℕ, zero, suc, ◌≤◌, List, [], ◌∷◌, ◌++◌, inl, inr, length, refl, map, arith}
use Rattle.luo_finite.specs.Listing.{In}
use Rattle.luo_finite.specs.Range.{below}
use Rattle.luo_finite.proofs.Membership.{In-append_left, In-append_right, In-map}
use Rattle.luo_finite.proofs.Ranges.{In-below}
use Rattle.luo_model.specs.Tree.{Tree, Trees, Atom, Inj, Tup, Coll, none, more, to_list}
use Rattle.luo_finite.proofs.Decided.{spread, In-spread}

module _ (bound : ℕ) (labels : List ℕ) where
  abbrev mutual
    pub InBox : Tree → ℕ → Type 0
    InBox t zero = ⊥
    InBox (Atom w l) (suc h) = (w ≤ bound) × In l labels
    InBox (Inj i t) (suc h) = (i ≤ bound) × InBox t h
    InBox (Tup ts) (suc h) = (length (to_list ts) ≤ bound) × AllInBox ts h
    InBox (Coll ts) (suc h) = (length (to_list ts) ≤ bound) × AllInBox ts h

    pub AllInBox : Trees → ℕ → Type 0
    AllInBox none h = Unit {0}
    AllInBox (more t ts) h = InBox t h × AllInBox ts h

  unfoldable pub rows : List Tree → ℕ → List Trees
  rows trees zero = none ∷ []
  rows trees (suc k) = none ∷ spread (λ t. map (more t) (rows trees k)) trees

  unfoldable pub trees_to : ℕ → List Tree
  trees_to zero = []
  trees_to (suc h) =
      spread (λ w. map (Atom w) labels) (below (suc bound))
      ++ (spread (λ i. map (Inj i) (trees_to h)) (below (suc bound))
      ++ (map Tup (rows (trees_to h) bound) ++ map Coll (rows (trees_to h) bound)))

  first_of_four : {A : Type 0} (x : A) (xs ys zs us : List A) → In x xs → In x (xs ++ (ys ++ (zs ++ us)))
  first_of_four x xs ys zs us i = In-append_left x xs (ys ++ (zs ++ us)) i

  second_of_four : {A : Type 0} (x : A) (xs ys zs us : List A) → In x ys → In x (xs ++ (ys ++ (zs ++ us)))
  second_of_four x xs ys zs us i = In-append_right x xs (ys ++ (zs ++ us)) (In-append_left x ys (zs ++ us) i)

  third_of_four : {A : Type 0} (x : A) (xs ys zs us : List A) → In x zs → In x (xs ++ (ys ++ (zs ++ us)))
  third_of_four x xs ys zs us i = In-append_right x xs (ys ++ (zs ++ us)) (In-append_right x ys (zs ++ us) (In-append_left x zs us i))

  last_of_four : {A : Type 0} (x : A) (xs ys zs us : List A) → In x us → In x (xs ++ (ys ++ (zs ++ us)))
  last_of_four x xs ys zs us i = In-append_right x xs (ys ++ (zs ++ us)) (In-append_right x ys (zs ++ us) (In-append_right x zs us i))

  mutual
    unfolding trees_to rows

    in_box : (t : Tree) (h : ℕ) → InBox t h → In t (trees_to h)
    in_box t zero i = absurd i
    in_box (Atom w l) (suc h) i = first_of_four (Atom w l) (spread (λ w. map (Atom w) labels) (below (suc bound))) (spread (λ i. map (Inj i) (trees_to h)) (below (suc bound))) (map Tup (rows (trees_to h) bound)) (map Coll (rows (trees_to h) bound))
        (In-spread (λ w. map (Atom w) labels) w (below (suc bound)) (Atom w l) (In-below (suc bound) w (omega (arith, i.0))) (In-map (Atom w) l labels i.1))
    in_box (Inj k t) (suc h) i = second_of_four (Inj k t) (spread (λ w. map (Atom w) labels) (below (suc bound))) (spread (λ i. map (Inj i) (trees_to h)) (below (suc bound))) (map Tup (rows (trees_to h) bound)) (map Coll (rows (trees_to h) bound))
        (In-spread (λ i. map (Inj i) (trees_to h)) k (below (suc bound)) (Inj k t) (In-below (suc bound) k (omega (arith, i.0))) (In-map (Inj k) t (trees_to h) (in_box t h i.1)))
    in_box (Tup ts) (suc h) i = third_of_four (Tup ts) (spread (λ w. map (Atom w) labels) (below (suc bound))) (spread (λ i. map (Inj i) (trees_to h)) (below (suc bound))) (map Tup (rows (trees_to h) bound)) (map Coll (rows (trees_to h) bound))
        (In-map Tup ts (rows (trees_to h) bound) (in_rows ts h bound i.0 i.1))
    in_box (Coll ts) (suc h) i = last_of_four (Coll ts) (spread (λ w. map (Atom w) labels) (below (suc bound))) (spread (λ i. map (Inj i) (trees_to h)) (below (suc bound))) (map Tup (rows (trees_to h) bound)) (map Coll (rows (trees_to h) bound))
        (In-map Coll ts (rows (trees_to h) bound) (in_rows ts h bound i.0 i.1))

    in_rows : (ts : Trees) (h k : ℕ) → length (to_list ts) ≤ k → AllInBox ts h → In ts (rows (trees_to h) k)
    in_rows none h zero l i = inl refl
    in_rows none h (suc k) l i = inl refl
    in_rows (more t ts) h zero l i = absurd (omega arith)
    in_rows (more t ts) h (suc k) l i = inr (In-spread (λ t. map (more t) (rows (trees_to h) k)) t (trees_to h) (more t ts) (in_box t h i.0) (In-map (more t) ts (rows (trees_to h) k) (in_rows ts h k (omega arith) i.1)))

  pub in_trees : (t : Tree) (h : ℕ) → InBox t h → In t (trees_to h)
  in_trees t h i = in_box t h i
