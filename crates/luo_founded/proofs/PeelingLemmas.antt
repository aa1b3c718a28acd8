-- Numbers are peeled off one by one.
use Rattle.std.proofs.Common.{◌≡◌, ℕ, ◌<◌, List, Bool, true, length, slice_set, ⊎_elim, sym, ◌∙◌, subst}
use Rattle.luo_finite.specs.Listing.{In}
use Rattle.luo_finite.specs.Walk.{OnCircle}
use Rattle.luo_finite.proofs.Places.{some_same}
use Rattle.luo_finite.proofs.Walks.{walk_on}
use Rattle.luo_founded.specs.inner.Graph.{Edge}
use Rattle.luo_founded.specs.inner.Peeling.{IsLoose, IsPeeled}
use Rattle.luo_founded.proofs.MarkLemmas.{IsBlank, unmarked, fewer_unmarked, set_length, marked_after}

pub peeled_none : (edges : List (List ℕ)) (n : ℕ) (gone : List Bool) → n ≡ length edges → IsBlank n gone → IsPeeled edges gone
peeled_none edges n gone e b = record { long = b.0 ∙ e; free = λ x m. absurd (b.1 x m) }

-- a circle goes on to a target, which lies on it too
loose_free : (edges : List (List ℕ)) (gone : List Bool) (x : ℕ) → IsPeeled edges gone → IsLoose edges gone x → OnCircle (Edge edges) x → ⊥
loose_free edges gone x h l c =
    let e : Edge edges x c.1.0 = c.1.1 in
    let i : In c.1.0 l.0 = subst (In c.1.0) (some_same e.0 l.0 (sym e.1 ∙ l.1)) e.2 in
    h.free c.1.0 (l.3 c.1.0 i) (c.0, walk_on (Edge edges) c.0 c.1.0 x c.1.0 c.1.2 e)

pub peeled_next : (edges : List (List ℕ)) (gone slice new : List Bool) (x : ℕ) → slice ≡ gone → IsLoose edges slice x → new ≡ slice_set gone x true → IsPeeled edges gone → IsPeeled edges new
peeled_next edges gone slice new x e l is h = subst (IsPeeled edges) (sym is) (record {
  long = set_length gone x true ∙ h.long;
  free = λ y m. ⊎_elim
      (λ same. subst (λ z. OnCircle (Edge edges) z → ⊥) (sym same) (loose_free edges gone x h (subst (λ t. IsLoose edges t x) e l)))
      (λ k. h.free y k) (marked_after gone x y m);
})

pub fewer_next : (edges : List (List ℕ)) (gone slice new : List Bool) (x : ℕ) → slice ≡ gone → IsLoose edges slice x → new ≡ slice_set gone x true → unmarked new < unmarked gone
fewer_next edges gone slice new x e l is = subst (λ t. unmarked t < unmarked gone) (sym is) (fewer_unmarked gone x (subst (λ t. IsLoose edges t x) e l).2)
