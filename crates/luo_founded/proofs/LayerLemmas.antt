-- Layers one after another, and circles that they show.
use Rattle.std.proofs.Common.{◌≡◌, ◌↔◌, ℕ, zero, suc, ◌+◌, ◌<◌, List, [], ◌∷◌, ◌++◌, ⊎_elim, length, refl, sym, ◌∙◌, ap, subst, arith, Bool, Some, slice_get}
use Rattle.std.proofs.lemmas.Option.{slice_get_within}
use Rattle.luo_founded.specs.inner.Marks.{Marked}
use Rattle.luo_founded.specs.inner.Graph.{Edge, IsLayer, IsFirstWay, IsShortCircle}
use Rattle.luo_founded.specs.inner.Layers.{AreLayers}
use Rattle.luo_founded.proofs.CircleLemmas.{short_circle, named_circle}
use Rattle.luo_finite.specs.Walk.{Walk, OnCircle, IsNamedCircle}
use Rattle.luo_finite.proofs.Places.{some_same, none_some, get_last, one_longer, less_or_same}

module _ (edges : List (List ℕ)) (home : ℕ) where
  -- of no layer, and one layer more
  pub layers_first : (none layers : List (List Bool)) (table : List Bool) → none ≡ [] → layers ≡ none ++ table ∷ [] → ((x : ℕ) → Marked table x ↔ (x ≡ home)) → AreLayers edges home (0 + 1) layers
  layers_first none layers table n e h = subst (AreLayers edges home 1) (sym (e ∙ ap (λ l. l ++ table ∷ []) n)) (record { many = refl; layer = layer })
    where
      layer : (j : ℕ) (other : List Bool) → slice_get (table ∷ []) j ≡ Some other → IsLayer edges home j other
      layer zero other g = subst (IsLayer edges home 0) (some_same table other g) h
      layer (suc j) other g = absurd (none_some other g)

  pub layer_next : (k : ℕ) (layers : List (List Bool)) (last slice next : List Bool) → AreLayers edges home (k + 1) layers → slice_get layers k ≡ Some last → slice ≡ last
      → ((x : ℕ) → Marked next x ↔ ((y : ℕ) × Edge edges x y × Marked slice y)) → IsLayer edges home (suc k) next
  layer_next k layers last slice next a e same h x = (
    λ m. let r = (h x).0 m in (r.0, r.1, ((a.layer k last e) r.0).0 (subst (λ t. Marked t r.0) same r.2)),
    λ w. (h x).1 (w.0, w.1, subst (λ t. Marked t w.0) (sym same) (((a.layer k last e) w.0).1 w.2)),
  )

  pub layers_more : (k : ℕ) (layers longer : List (List Bool)) (next : List Bool) → AreLayers edges home (k + 1) layers → IsLayer edges home (suc k) next → longer ≡ layers ++ next ∷ [] → AreLayers edges home (k + 1 + 1) longer
  layers_more k layers longer next a l e = subst (AreLayers edges home (k + 1 + 1)) (sym e) (record {
    many = one_longer layers next ∙ ap (λ n. n + 1) a.many;
    layer = λ j table g. ⊎_elim (λ o. a.layer j table o)
        (λ o. subst (λ i. IsLayer edges home i table) (let q : suc k ≡ j = omega (arith, o.0, a.many) in q) (subst (IsLayer edges home (suc k)) o.1 l)) (get_last layers next j table g);
  })

  pub layers_there : (k : ℕ) (layers : List (List Bool)) → AreLayers edges home (k + 1) layers → length layers ≡ suc k
  layers_there k layers a = omega (arith, a.many)

  -- no circle of up to so many steps is none at all
  pub no_circle_at : ((j : ℕ) → j < length edges + 1 → Walk (Edge edges) (suc j) home home → ⊥) → OnCircle (Edge edges) home → ⊥
  no_circle_at h c = let r = short_circle (Edge edges) (length edges) (λ x y e. slice_get_within edges x e.0 e.1) home c in h r.0 (omega (arith, r.1)) r.2

  pub named_at : (chain : List ℕ) → IsShortCircle (Edge edges) home chain → ((x : ℕ) → x < home → OnCircle (Edge edges) x → ⊥) → IsNamedCircle (Edge edges) home chain
  named_at chain s h = named_circle (Edge edges) home s.0 chain s.1 s.2 h

pub all_homes : (edges : List (List ℕ)) → ((x : ℕ) → x < length edges → OnCircle (Edge edges) x → ⊥) → (x : ℕ) → OnCircle (Edge edges) x → ⊥
all_homes edges h x c = h x (slice_get_within edges x c.1.1.0 c.1.1.1) c

module _ (edges : List (List ℕ)) (home k : ℕ) where
  -- a way through all layers is a short circle
  pub short_way : (layers slice : List (List Bool)) (way : List ℕ) → AreLayers edges home (k + 1) layers → slice ≡ layers → ((j : ℕ) → j < k → Walk (Edge edges) (suc j) home home → ⊥)
      → IsFirstWay (Edge edges) home (length slice) home way → IsShortCircle (Edge edges) home way
  short_way layers slice way a same few f = (k, subst (λ n. IsFirstWay (Edge edges) home n home way) (ap length same ∙ layers_there edges home k layers a) f, few)

  -- where home is not in the next layer, it lies on no circle of so many steps
  pub no_more : (next slice : List Bool) → IsLayer edges home (suc k) next → slice ≡ next → (Marked slice home → ⊥) → ((j : ℕ) → j < k → Walk (Edge edges) (suc j) home home → ⊥)
      → (j : ℕ) → j < k + 1 → Walk (Edge edges) (suc j) home home → ⊥
  no_more next slice l same out few j h w = ⊎_elim
      (λ (a : j < k). few j a w)
      (λ (b : j ≡ k). out (subst (λ t. Marked t home) (sym same) ((l home).1 (subst (λ i. Walk (Edge edges) (suc i) home home) b w))))
      (less_or_same j k (omega arith))

pub no_circle_before : (edges : List (List ℕ)) (home : ℕ) → (OnCircle (Edge edges) home → ⊥) → ((x : ℕ) → x < home → OnCircle (Edge edges) x → ⊥) → (x : ℕ) → x < home + 1 → OnCircle (Edge edges) x → ⊥
no_circle_before edges home here before x h c = ⊎_elim
    (λ (a : x < home). before x a c)
    (λ (b : x ≡ home). here (subst (OnCircle (Edge edges)) b c))
    (less_or_same x home (omega arith))
