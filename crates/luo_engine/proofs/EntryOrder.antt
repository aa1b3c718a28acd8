-- The order of entries: of two entries one precedes the other, and what holds of each behind all before it holds of all.
use Rattle.std.proofs.Common.{◌≡◌, ℕ, zero, suc, ◌<◌, inl, inr, ⊎_elim, sym, ap, subst, arith}
use Rattle.luo_finite.proofs.Decided.{same_number}
use Rattle.luo_model.specs.declared.table.Entry.{Entry}
use Rattle.luo_model.specs.declared.table.Entry.TheVariants.{Count, Total}
use Rattle.luo_model.specs.Program.{Program, site_node}
use Rattle.luo_model.specs.Invariant.{IsProgram}
use Rattle.luo_model.specs.Founded.{IsFounded}
use Rattle.luo_engine.specs.Entries.{IsThere, LessOr, Precedes}
use Rattle.luo_engine.proofs.inner.RankFacts.{rank_comes}
use Rattle.luo_engine.proofs.inner.LevelFacts.{level_exists}

neither : (a b : ℕ) → (a < b → ⊥) → (b < a → ⊥) → a ≡ b
neither a b h k = grind arith

pub equal_first : (a b : ℕ) (X Y : Type 0) → (LessOr a b X → ⊥) → (LessOr b a Y → ⊥) → a ≡ b
equal_first a b X Y h k = neither a b (λ l. h (inl l)) (λ l. k (inl l))

numbers_equal : (a b : ℕ) → ((a ≡ b → ⊥) → ⊥) → a ≡ b
numbers_equal a b h = ⊎_elim (λ e. e) (λ n. absurd (h n)) (same_number a b)

-- entries that can't differ are equal
pub entries_equal : (a b : Entry) → ((a ≡ b → ⊥) → ⊥) → a ≡ b
entries_equal (Count x) (Count y) h = ap Count (numbers_equal x y (λ n. h (λ e. n (let d : x ≡ y = cc in d))))
entries_equal (Count x) (Total j) h = absurd (h (λ e. cc))
entries_equal (Total i) (Count y) h = absurd (h (λ e. cc))
entries_equal (Total i) (Total j) h = ap Total (numbers_equal i j (λ n. h (λ e. n (let d : i ≡ j = cc in d))))

module _ (p : Program) (q : IsProgram p) (f : IsFounded p) where
  -- it can't be that two entries differ and neither precedes the other
  pub precedes_either : (a b : Entry) → IsThere p a → IsThere p b → (Precedes p a b → ⊥) → (Precedes p b a → ⊥) → (a ≡ b → ⊥) → ⊥
  precedes_either (Count x) (Total j) h k less more other = less tt
  precedes_either (Total i) (Count y) h k less more other = more tt
  precedes_either (Count x) (Count y) h k less more other = rank_comes p q f x (λ r R. rank_comes p q f y (λ s S.
      let e : r ≡ s = equal_first r s (x < y) (y < x) (λ l. less (r, s, R, S, l)) (λ l. more (s, r, S, R, l)) in
      other (ap Count (neither x y (λ l. less (r, s, R, S, inr (e, l))) (λ l. more (s, r, S, R, inr (sym e, l)))))))
  precedes_either (Total i) (Total j) h k less more other = rank_comes p q f (site_node p i) (λ r R. rank_comes p q f (site_node p j) (λ s S.
      let L = level_exists p q f i h in
      let M = level_exists p q f j k in
      let before : LessOr r s (LessOr L.0 M.0 (i < j)) → ⊥ = λ l. less (r, s, L.0, M.0, R, S, L.1, M.1, l) in
      let behind : LessOr s r (LessOr M.0 L.0 (j < i)) → ⊥ = λ l. more (s, r, M.0, L.0, S, R, M.1, L.1, l) in
      let e : r ≡ s = equal_first r s _ _ before behind in
      let d : L.0 ≡ M.0 = equal_first L.0 M.0 (i < j) (j < i) (λ l. before (inr (e, l))) (λ l. behind (inr (sym e, l))) in
      other (ap Total (neither i j (λ l. before (inr (e, inr (d, l)))) (λ l. behind (inr (sym e, inr (sym d, l))))))))

pub by_less : (P : ℕ → Type 0) → ((n : ℕ) → ((m : ℕ) → m < n → P m) → P n) → (n : ℕ) → P n
by_less P step n = step n (below n)
  where
    below : (n m : ℕ) → m < n → P m
    below zero m h = absurd (omega (arith, h))
    below (suc n) m h = step m (λ k l. below n k (omega (arith, h, l)))

-- the same of pairs and of triples, by their first numbers, and where those are equal by the next
pub by_pairs : (P : ℕ → ℕ → Type 0) → ((a b : ℕ) → ((c d : ℕ) → LessOr c a (d < b) → P c d) → P a b) → (a b : ℕ) → P a b
by_pairs P step = by_less (λ a. (b : ℕ) → P a b) (λ a first. by_less (P a) (λ b second. step a b (before a b first second)))
  where
    before : (a b : ℕ) → ((c : ℕ) → c < a → (d : ℕ) → P c d) → ((d : ℕ) → d < b → P a d) → (c d : ℕ) → LessOr c a (d < b) → P c d
    before a b first second c d (inl l) = first c l d
    before a b first second c d (inr (e, l)) = subst (λ z. P z d) (sym e) (second d l)

pub by_triples : (P : ℕ → ℕ → ℕ → Type 0) → ((a b c : ℕ) → ((d e f : ℕ) → LessOr d a (LessOr e b (f < c)) → P d e f) → P a b c) → (a b c : ℕ) → P a b c
by_triples P step = by_less (λ a. (b c : ℕ) → P a b c) (λ a first. by_pairs (P a) (λ b c second. step a b c (before a b c first second)))
  where
    before : (a b c : ℕ) → ((d : ℕ) → d < a → (e f : ℕ) → P d e f) → ((e f : ℕ) → LessOr e b (f < c) → P a e f) → (d e f : ℕ) → LessOr d a (LessOr e b (f < c)) → P d e f
    before a b c first second d e f (inl l) = first d l e f
    before a b c first second d e f (inr (h, l)) = subst (λ z. P z e f) (sym h) (second e f l)
