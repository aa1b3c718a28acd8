-- The way that is gone so far, and the layers that it goes through.
use Rattle.std.proofs.Common.{◌≡◌, ℕ, zero, suc, ◌-◌, ◌≤◌, ◌<◌, List, [], ◌∷◌, ◌++◌, refl, sym, ◌∙◌, ap, subst, arith, append_assoc, Bool, Some, slice_get}
use Rattle.luo_founded.specs.inner.Marks.{Marked}
use Rattle.luo_founded.specs.inner.Graph.{Edge, IsLayer, IsLeastStep, IsFirstWay}
use Rattle.luo_founded.specs.inner.Layers.{AreLayers}
use Rattle.luo_finite.specs.Walk.{Walk}

-- from at so many steps lead home, and a first way of them makes what was gone a first way of all
pub record IsOnWay (edges : List (List ℕ)) (home all left at : ℕ) (way : List ℕ) : Type 0 where
  pub before : List ℕ
  pub is : way ≡ before ++ at ∷ []
  pub few : left ≤ all
  pub leads : Walk (Edge edges) left at home
  pub goes : (rest : List ℕ) → IsFirstWay (Edge edges) home left at rest → IsFirstWay (Edge edges) home all home (before ++ rest)

module _ (edges : List (List ℕ)) (home all : ℕ) where
  pub on_start : (new way : List ℕ) → new ≡ [] → way ≡ new ++ home ∷ [] → Walk (Edge edges) all home home → IsOnWay edges home all all home way
  on_start new way n e w = record {
    before = [];
    is = e ∙ ap (λ l. l ++ home ∷ []) n;
    few = omega arith;
    leads = w;
    goes = λ rest f. f;
  }

  pub on_next : (layers : List (List Bool)) (left at y : ℕ) (way longer : List ℕ) (table slice : List Bool) → AreLayers edges home all layers → slice_get layers (left - 1) ≡ Some table → slice ≡ table
      → IsOnWay edges home all left at way → 0 < left → IsLeastStep edges slice at y → longer ≡ way ++ y ∷ [] → IsOnWay edges home all (left - 1) y longer
  on_next layers zero at y way longer table slice a k same on h m is = absurd (omega arith)
  on_next layers (suc left) at y way longer table slice a k same on h m is = subst (λ i. IsOnWay edges home all i y longer) (let q : left ≡ suc left - 1 = omega arith in q) (record {
    before = on.before ++ at ∷ [];
    is = is ∙ ap (λ l. l ++ y ∷ []) on.is;
    few = omega (arith, on.few);
    leads = (layer y).0 (subst (λ t. Marked t y) same m.marked);
    goes = λ rest f. subst (IsFirstWay (Edge edges) home all home) (sym (append_assoc on.before (at ∷ []) rest))
        (on.goes (at ∷ rest) (refl, (y, m.edge, λ other o w. m.least other o (subst (λ t. Marked t other) (sym same) ((layer other).1 w)), f)));
  })
    where
      layer : IsLayer edges home left table
      layer = a.layer left table (subst (λ i. slice_get layers i ≡ Some table) (let q : suc left - 1 ≡ left = omega arith in q) k)

  -- there is always a next step
  pub never_stuck : (layers : List (List Bool)) (left at : ℕ) (way : List ℕ) (table slice : List Bool) → AreLayers edges home all layers → slice_get layers (left - 1) ≡ Some table → slice ≡ table
      → IsOnWay edges home all left at way → 0 < left → ((y : ℕ) → Edge edges at y → Marked slice y → ⊥) → ⊥
  never_stuck layers zero at way table slice a k same on h stuck = omega arith
  never_stuck layers (suc left) at way table slice a k same on h stuck =
      let w : Walk (Edge edges) (suc left) at home = on.leads in
      stuck w.0 w.1 (subst (λ t. Marked t w.0) (sym same) ((a.layer left table (subst (λ i. slice_get layers i ≡ Some table) (let q : suc left - 1 ≡ left = omega arith in q) k) w.0).1 w.2))

  pub on_end : (left at : ℕ) (way : List ℕ) → IsOnWay edges home all left at way → left ≡ 0 → IsFirstWay (Edge edges) home all home way
  on_end zero at way on z = subst (IsFirstWay (Edge edges) home all home) (sym on.is) (on.goes (at ∷ []) (on.leads, refl))
  on_end (suc left) at way on z = absurd (omega arith)
