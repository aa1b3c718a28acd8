-- Tables that mark what the rules make.
use Rattle.std.proofs.Common.{◌≡◌, ℕ, zero, suc, ◌+◌, ◌<◌, List, [], ◌∷◌, ◌++◌, ◌⊎◌, inl, inr, ⊎_elim, length, refl, sym, ◌∙◌, ap, subst, arith, Bool, true, false, Some, slice_get, slice_set, IsTrue}
use Rattle.luo_model.specs.declared.program.Node.{Node}
use Rattle.luo_model.specs.declared.program.Shape.TheVariants as shape
use Rattle.luo_model.specs.Program.{Program, shape_of}
use Rattle.luo_founded.specs.inner.Marks.{Marked, Marks, IsNext, IsClosed}
use Rattle.luo_founded.proofs.MadeLemmas.{made_into, made_least, made_by_rule}
use Rattle.luo_model.specs.Founded.{IsBuilt, Built}
use Rattle.luo_finite.proofs.Places.{some_same, none_some, less_or_same, get_last, get_old, get_new, one_longer}
use Rattle.luo_model.proofs.NodeLemmas.{node_at_place, shape_there}

-- how many are not marked
abbrev pub unmarked : List Bool → ℕ
unmarked [] = 0
unmarked (true ∷ rest) = unmarked rest
unmarked (false ∷ rest) = suc (unmarked rest)

true_false : true ≡ false → ⊥
true_false e = cc

pub fewer_unmarked : (table : List Bool) (x : ℕ) → slice_get table x ≡ Some false → unmarked (slice_set table x true) < unmarked table
fewer_unmarked [] x e = absurd (none_some false e)
fewer_unmarked (true ∷ rest) zero e = absurd (true_false (some_same true false e))
fewer_unmarked (false ∷ rest) zero e = omega arith
fewer_unmarked (true ∷ rest) (suc x) e = fewer_unmarked rest x e
fewer_unmarked (false ∷ rest) (suc x) e = omega (arith, fewer_unmarked rest x e)

pub set_length : (table : List Bool) (x : ℕ) (b : Bool) → length (slice_set table x b) ≡ length table
set_length [] x b = refl
set_length (c ∷ rest) zero b = refl
set_length (c ∷ rest) (suc x) b = omega (arith, set_length rest x b)

-- what is marked after x is marked too
pub marked_after : (table : List Bool) (x y : ℕ) → Marked (slice_set table x true) y → (y ≡ x) ⊎ Marked table y
marked_after [] x y m = inr m
marked_after (c ∷ rest) zero zero m = inl refl
marked_after (c ∷ rest) zero (suc y) m = inr m
marked_after (c ∷ rest) (suc x) zero m = inr m
marked_after (c ∷ rest) (suc x) (suc y) m = ⊎_elim (λ e. inl (ap suc e)) (λ k. inr k) (marked_after rest x y m)

-- a table that marks only what is made
pub record IsSound (P : ℕ → Type 0) (n : ℕ) (table : List Bool) : Type 0 where
  pub long : length table ≡ n
  pub sound : (x : ℕ) → Marked table x → P x

-- nothing is marked
abbrev pub IsBlank : ℕ → List Bool → Type 0
IsBlank n table = (length table ≡ n) × ((x : ℕ) → Marked table x → ⊥)

pub blank_empty : (table : List Bool) → table ≡ [] → IsBlank 0 table
blank_empty table e = (ap length e, λ x m. none_some true (sym (ap (λ l. slice_get l x) e) ∙ m))

pub blank_more : (n : ℕ) (old table : List Bool) → table ≡ old ++ false ∷ [] → IsBlank n old → IsBlank (n + 1) table
blank_more n old table e h = subst (IsBlank (n + 1)) (sym e) (grows old h.0, λ x m. not old x h.1 m)
  where
    grows : (old : List Bool) → length old ≡ n → length (old ++ false ∷ []) ≡ n + 1
    grows old h = longer old ∙ ap (λ k. k + 1) h
      where
        longer : (old : List Bool) → length (old ++ false ∷ []) ≡ length old + 1
        longer [] = refl
        longer (b ∷ old) = omega (arith, longer old)

    not : (old : List Bool) (x : ℕ) → ((y : ℕ) → Marked old y → ⊥) → Marked (old ++ false ∷ []) x → ⊥
    not [] zero h m = true_false (sym (some_same false true m))
    not [] (suc x) h m = none_some true m
    not (b ∷ old) zero h m = h zero m
    not (b ∷ old) (suc x) h m = not old x (λ y. h (suc y)) m

module _ (From : ℕ → Type 0) (p : Program) where
  pub sound_blank : (n : ℕ) (table : List Bool) → IsBlank n table → IsSound (Built From p) n table
  sound_blank n table h = record { long = h.0; sound = λ x m. absurd (h.1 x m) }

  -- what is made of what is marked may be marked
  pub sound_next : (n x : ℕ) (old table : List Bool) → IsSound (Built From p) n old → IsNext From p.nodes old x → table ≡ slice_set old x true → IsSound (Built From p) n table
  sound_next n x old table s next e = record {
    long = ap length e ∙ set_length old x true ∙ s.long;
    sound = λ y m. ⊎_elim
        (λ same. subst (Built From p) (sym same) here)
        (λ k. s.sound y k)
        (marked_after old x y (subst (λ t. Marked t y) e m));
  }
    where
      here : Built From p x
      here = made_by_rule From p x next.node.shape (shape_there p x next.node next.is) (made_into From (Marked old) (Built From p) s.sound next.node.shape next.made)

  -- where nothing more is made, all is marked
  pub marks_closed : (table : List Bool) → IsSound (Built From p) (length p.nodes) table → IsClosed From p.nodes table → Marks (Built From p) (length p.nodes) table
  marks_closed table s closed = record { long = s.long; sound = s.sound; complete = λ x h m. made_least From p (Marked table) all m.0 x m.1 }
    where
      all : (x : ℕ) → IsBuilt From (Marked table) (shape_of p x) → Marked table x
      all x m = ⊎_elim
          (λ a. marked_or x a.3 (λ e. closed x a.0 a.1 e (subst (IsBuilt From (Marked table)) a.2 m)))
          (λ u. absurd (nothing (subst (IsBuilt From (Marked table)) u m)))
          (node_at_place p x)
        where
          nothing : IsBuilt From (Marked table) (shape.Union []) → ⊥
          nothing m = m.1

          marked_or : (x : ℕ) → x < length p.nodes → (slice_get table x ≡ Some false → ⊥) → Marked table x
          marked_or x h n = either table x (omega (arith, s.long)) n
            where
              either : (table : List Bool) (x : ℕ) → x < length table → (slice_get table x ≡ Some false → ⊥) → Marked table x
              either [] x h n = absurd (omega arith)
              either (true ∷ rest) zero h n = refl
              either (false ∷ rest) zero h n = absurd (n refl)
              either (b ∷ rest) (suc x) h n = either rest x (omega arith) n

  -- the same of copies of the nodes and of the table
  next_of : (nodes : List Node) (table slice : List Bool) (x : ℕ) → nodes ≡ p.nodes → slice ≡ table → IsNext From nodes slice x → IsNext From p.nodes table x
  next_of nodes table slice x d e next = subst (λ t. IsNext From p.nodes t x) e (subst (λ ns. IsNext From ns slice x) d next)

  pub still_sound : (nodes : List Node) (table slice new : List Bool) (x n : ℕ) → nodes ≡ p.nodes → slice ≡ table → IsNext From nodes slice x → new ≡ slice_set table x true → IsSound (Built From p) n table → IsSound (Built From p) n new
  still_sound nodes table slice new x n d e next is s = sound_next n x table new s (next_of nodes table slice x d e next) is

  pub fewer_left : (nodes : List Node) (table slice new : List Bool) (x : ℕ) → nodes ≡ p.nodes → slice ≡ table → IsNext From nodes slice x → new ≡ slice_set table x true → unmarked new < unmarked table
  fewer_left nodes table slice new x d e next is = subst (λ t. unmarked t < unmarked table) (sym is) (fewer_unmarked table x (next_of nodes table slice x d e next).unmarked)

  pub marks_made : (nodes : List Node) (table slice : List Bool) → nodes ≡ p.nodes → slice ≡ table → IsClosed From nodes slice → IsSound (Built From p) (length p.nodes) table → Marks (Built From p) (length p.nodes) table
  marks_made nodes table slice d e closed s = marks_closed table s (subst (λ t. IsClosed From p.nodes t) e (subst (λ ns. IsClosed From ns slice) d closed))

-- a table that is filled from the left
pub marks_none : (P : ℕ → Type 0) (table : List Bool) → table ≡ [] → Marks P 0 table
marks_none P table e = record { long = ap length e; sound = λ x m. absurd (none_some true (sym (ap (λ l. slice_get l x) e) ∙ m)); complete = λ x h q. absurd (omega arith) }

pub marks_more : (P : ℕ → Type 0) (n : ℕ) (old table : List Bool) (b : Bool) → Marks P n old → table ≡ old ++ b ∷ [] → (IsTrue b → P n) → (P n → IsTrue b) → Marks P (n + 1) table
marks_more P n old table b m e there back = subst (Marks P (n + 1)) (sym e) (record {
  long = one_longer old b ∙ ap (λ k. k + 1) m.long;
  sound = λ x k. ⊎_elim (λ o. m.sound x o) (λ o. subst P (sym (o.0 ∙ m.long)) (there o.1)) (get_last old b x true k);
  complete = λ x h q. ⊎_elim
      (λ (l : x < n). get_old old b x true (m.complete x l q))
      (λ (s : x ≡ n). subst (λ i. slice_get (old ++ b ∷ []) i ≡ Some true) (m.long ∙ sym s) (get_new old b ∙ ap Some (back (subst P s q))))
      (less_or_same x n (omega arith));
})
