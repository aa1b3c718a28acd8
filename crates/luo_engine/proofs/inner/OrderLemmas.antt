-- Nodes listed by rank, and then by number.
use Rattle.std.proofs.Common.{◌≡◌, ◌⊎◌, ℕ, zero, suc, ◌+◌, ◌≤◌, ◌<◌, inl, inr, ⊎_elim, List, [], ◌∷◌, ◌++◌, length, slice_get, refl, sym, ◌∙◌, ap, subst, arith, Some}
use Rattle.std.proofs.lemmas.Option.{slice_get_within}
use Rattle.luo_engine.specs.inner.Filled.{rank_of, IsBefore, IsOrderOf}
use Rattle.luo_engine.specs.inner.Listed.{IsEarly, IsListed}

some_one : {A : Type 0} (x y : A) → Some x ≡ Some y → x ≡ y
some_one x y e = cc

-- an element of a list with one more at its end
last_or : (xs : List ℕ) (v j y : ℕ) → slice_get (xs ++ v ∷ []) j ≡ Some y → (slice_get xs j ≡ Some y) ⊎ ((j ≡ length xs) × (v ≡ y))
last_or [] v zero y e = inr (refl, some_one v y e)
last_or [] v (suc j) y e = absurd (cc)
last_or (x ∷ xs) v zero y e = inl e
last_or (x ∷ xs) v (suc j) y e = ⊎_elim (λ h. inl h) (λ h. inr (ap suc h.0, h.1)) (last_or xs v j y e)

front_get : (xs : List ℕ) (v j y : ℕ) → slice_get xs j ≡ Some y → slice_get (xs ++ v ∷ []) j ≡ Some y
front_get [] v j y e = absurd (cc)
front_get (x ∷ xs) v zero y e = e
front_get (x ∷ xs) v (suc j) y e = front_get xs v j y e

last_get : (xs : List ℕ) (v : ℕ) → slice_get (xs ++ v ∷ []) (length xs) ≡ Some v
last_get [] v = refl
last_get (x ∷ xs) v = last_get xs v

less_or_eq : (a b : ℕ) → a < b + 1 → (a < b) ⊎ (a ≡ b)
less_or_eq a b h = grind arith

more_early : (ranks : List ℕ) (r x y : ℕ) → IsEarly ranks r x y → IsEarly ranks r (x + 1) y
more_early ranks r x y (inl h) = inl h
more_early ranks r x y (inr h) = inr (h.0, omega (arith, h.1))

pub listed_more : (ranks order new : List ℕ) (r x : ℕ) → IsListed ranks order r x → x < length ranks → rank_of ranks x ≡ r → new ≡ order ++ x ∷ [] → IsListed ranks new r (x + 1)
listed_more ranks order new r x l h e q = subst (λ (o : List ℕ). IsListed ranks o r (x + 1)) (sym q) (record {
  there = λ j y g. ⊎_elim (λ a. let t = l.there j y a in (t.0, more_early ranks r x y t.1)) (λ a. (omega (arith, h, a.1), inr (ap (rank_of ranks) (sym a.1) ∙ e, omega (arith, a.1)))) (last_or order x j y g);
  complete = λ y b a. listed y b a;
  rising = λ i j y z o f g. ⊎_elim
      (λ a. ⊎_elim (λ c. l.rising i j y z o c a) (λ c. absurd (omega (arith, o, c.0, slice_get_within order j z a))) (last_or order x i y f))
      (λ a. ⊎_elim (λ c. before y z (l.there i y c).1 a.1) (λ c. absurd (omega (arith, o, c.0, a.0))) (last_or order x i y f))
      (last_or order x j z g);
})
  where
    before : (y z : ℕ) → IsEarly ranks r x y → x ≡ z → IsBefore ranks y z
    before y z (inl a) s = inl (omega (arith, a, e, ap (rank_of ranks) s))
    before y z (inr a) s = inr (a.0 ∙ sym e ∙ ap (rank_of ranks) s, omega (arith, a.1, s))

    listed : (y : ℕ) → y < length ranks → IsEarly ranks r (x + 1) y → (j : ℕ) × (slice_get (order ++ x ∷ []) j ≡ Some y)
    listed y b (inl a) = let w = l.complete y b (inl a) in (w.0, front_get order x w.0 y w.1)
    listed y b (inr a) = ⊎_elim (λ c. let w = l.complete y b (inr (a.0, c)) in (w.0, front_get order x w.0 y w.1)) (λ c. (length order, last_get order x ∙ ap Some (sym c))) (less_or_eq y x a.1)

pub listed_other : (ranks order : List ℕ) (r x : ℕ) → IsListed ranks order r x → (rank_of ranks x ≡ r → ⊥) → IsListed ranks order r (x + 1)
listed_other ranks order r x l d = record {
  there = λ j y g. let t = l.there j y g in (t.0, more_early ranks r x y t.1);
  complete = λ y b a. l.complete y b (⊎_elim (λ c. inl c) (λ c. inr (c.0, ⊎_elim (λ h. h) (λ h. absurd (d (ap (rank_of ranks) (sym h) ∙ c.0))) (less_or_eq y x c.1))) a);
  rising = l.rising;
}

pub listed_next : (ranks order : List ℕ) (r x : ℕ) → IsListed ranks order r x → length ranks ≤ x → IsListed ranks order (r + 1) 0
listed_next ranks order r x l h = record {
  there = λ j y g. let t = l.there j y g in (t.0, inl (⊎_elim (λ a. omega (arith, a)) (λ a. omega (arith, a.0)) t.1));
  complete = λ y b a. l.complete y b (⊎_elim (λ c. ⊎_elim (λ e. inl e) (λ e. inr (e, omega (arith, b, h))) (less_or_eq (rank_of ranks y) r c)) (λ c. absurd (omega (arith, c.1))) a);
  rising = l.rising;
}

pub listed_none : (ranks : List ℕ) → IsListed ranks [] 0 0
listed_none ranks = record { there = λ j y e. absurd (cc); complete = λ y h a. ⊎_elim (λ c. absurd (omega (arith, c))) (λ c. absurd (omega (arith, c.1))) a; rising = λ i j y z o e f. absurd (cc) }

pub listed_all : (ranks order : List ℕ) (r top : ℕ) → IsListed ranks order r 0 → top ≤ r → ((x : ℕ) → x < length ranks → rank_of ranks x < top) → IsOrderOf (length ranks) (IsBefore ranks) order
listed_all ranks order r top l h small = record { there = λ j x g. (l.there j x g).0; complete = λ x b. l.complete x b (inl (omega (arith, small x b, h))); rising = l.rising }
