-- Texts of structures of the code, part by part.
use Rattle.std.proofs.Common.{◌≡◌, ℕ, zero, suc, ◌+◌, ◌<◌, List, [], ◌∷◌, ◌++◌, decimal, length, take, get_or, sym, ap, ◌∙◌, arith, add-one, append_assoc}
use Rattle.std.proofs.lemmas.List.{append-nil}
use Rattle.luo_struct.specs.declared.structure.Structure.{Structure}
use Rattle.luo_model.specs.Tree.{Tree, Trees, Inj, Tup, Coll}
use Rattle.luo_struct.specs.View.{tree_of, tree_list}
use Rattle.luo_struct.specs.Text.{structure_text, joined, followed}

pub followed-take : (ss : List Structure) (i : ℕ) (s : Structure) → i < length ss → s ≡ get_or ss i s → followed (tree_list (take (i + 1) ss)) ≡ followed (tree_list (take i ss)) ++ (44 ∷ structure_text (tree_of s))
followed-take ss i s h e = rw add-one (go ss i s h e)
  where
    go : (ss : List Structure) (i : ℕ) (s : Structure) → i < length ss → s ≡ get_or ss i s → followed (tree_list (take (suc i) ss)) ≡ followed (tree_list (take i ss)) ++ (44 ∷ structure_text (tree_of s))
    go [] i s h e = absurd (omega arith)
    go (x ∷ ss) zero s h e = append-nil (44 ∷ structure_text (tree_of x)) ∙ ap (λ t. 44 ∷ structure_text (tree_of t)) (sym e)
    go (x ∷ ss) (suc i) s h e =
        ap (λ l. (44 ∷ structure_text (tree_of x)) ++ l) (go ss i s (omega arith) e)
        ∙ sym (append_assoc (44 ∷ structure_text (tree_of x)) (followed (tree_list (take i ss))) (44 ∷ structure_text (tree_of s)))

module _ (old : List ℕ) where
  pub next_put : (ss : List Structure) (i : ℕ) (s : Structure) (now comma new : List ℕ) → i < length ss → s ≡ get_or ss i s
      → comma ≡ now ++ 44 ∷ [] → new ≡ comma ++ structure_text (tree_of s) → now ≡ old ++ followed (tree_list (take i ss)) → new ≡ old ++ followed (tree_list (take (i + 1) ss))
  next_put ss i s now comma new l e c n h =
      n ∙ ap (λ k. k ++ structure_text (tree_of s)) (c ∙ ap (λ k. k ++ 44 ∷ []) h)
      ∙ append_assoc (old ++ followed (tree_list (take i ss))) (44 ∷ []) (structure_text (tree_of s))
      ∙ append_assoc old (followed (tree_list (take i ss))) (44 ∷ structure_text (tree_of s))
      ∙ ap (λ k. old ++ k) (sym (followed-take ss i s l e))

  bracketed : (ts : Trees) (a b : ℕ) (open' parts new : List ℕ) → open' ≡ old ++ a ∷ [] → parts ≡ open' ++ joined ts → new ≡ parts ++ b ∷ [] → new ≡ old ++ a ∷ (joined ts ++ b ∷ [])
  bracketed ts a b open' parts new o p is =
      is ∙ ap (λ k. k ++ b ∷ []) (p ∙ ap (λ k. k ++ joined ts) o) ∙ ap (λ k. k ++ b ∷ []) (append_assoc old (a ∷ []) (joined ts)) ∙ append_assoc old (a ∷ joined ts) (b ∷ [])

  pub branch_put : (t inner : Tree) (b : ℕ) (number colon new : List ℕ) → t ≡ Inj b inner → number ≡ old ++ decimal b → colon ≡ number ++ 58 ∷ [] → new ≡ colon ++ structure_text inner → new ≡ old ++ structure_text t
  branch_put t inner b number colon new e n c is =
      is ∙ ap (λ k. k ++ structure_text inner) (c ∙ ap (λ k. k ++ 58 ∷ []) n) ∙ append_assoc (old ++ decimal b) (58 ∷ []) (structure_text inner)
      ∙ append_assoc old (decimal b) (58 ∷ structure_text inner) ∙ ap (λ u. old ++ structure_text u) (sym e)

  pub tuple_put : (t : Tree) (ts : Trees) (open' parts new : List ℕ) → t ≡ Tup ts → open' ≡ old ++ 40 ∷ [] → parts ≡ open' ++ joined ts → new ≡ parts ++ 41 ∷ [] → new ≡ old ++ structure_text t
  tuple_put t ts open' parts new e o p is = bracketed ts 40 41 open' parts new o p is ∙ ap (λ u. old ++ structure_text u) (sym e)

  pub collection_put : (t : Tree) (ts : Trees) (open' parts new : List ℕ) → t ≡ Coll ts → open' ≡ old ++ 91 ∷ [] → parts ≡ open' ++ joined ts → new ≡ parts ++ 93 ∷ [] → new ≡ old ++ structure_text t
  collection_put t ts open' parts new e o p is = bracketed ts 91 93 open' parts new o p is ∙ ap (λ u. old ++ structure_text u) (sym e)
