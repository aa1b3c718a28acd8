-- The walks of a program, one after the other, and size by size.
use Rattle.std.proofs.Common.{◌≡◌, ◌⊎◌, ℕ, ◌+◌, ◌≤◌, ◌<◌, ⊎_elim, List, length, slice_get, sym, ◌∙◌, ap, subst, arith, Some, Option}
use Rattle.std.proofs.lemmas.Option.{slice_get_within}
use Rattle.luo_model.specs.Program.{Program}
use Rattle.luo_engine.specs.inner.Asked.{AskedWalk}
use Rattle.luo_engine.specs.inner.Walks.{walk_at, IsAskedWalk, IsWalkAsked, AreWalks}
use Rattle.luo_engine.proofs.inner.WalkLemmas.{walk_table_is, has_walk}

lt_or_eq : (a b : ℕ) → a < b + 1 → (a < b) ⊎ (a ≡ b)
lt_or_eq a b h = grind arith

some_one : {A : Type 0} (x y : A) → Some x ≡ Some y → x ≡ y
some_one x y e = cc

-- a table that is as it was has been asked as often
pub walk_kept : (p : Program) (n_max : ℕ) (old new : List (Option AskedWalk)) (i s calls : ℕ) → slice_get new i ≡ slice_get old i → IsWalkAsked p n_max old i s calls → IsWalkAsked p n_max new i s calls
walk_kept p n_max old new i s calls e a = λ walk.
    let h = a walk in
    let g : slice_get new i ≡ Some (Some (walk_at old i)) = e ∙ h.there in
    record { there = has_walk new i (walk_at old i) g; asked = subst (IsAskedWalk p i s walk n_max calls) (sym (walk_table_is new i (walk_at old i) g)) h.asked }

module _ (p : Program) (Goes : ℕ → ℕ → Type 0) (n_max : ℕ) (order : List ℕ) where
  -- the walk at place k has answered
  pub walks_more : (single : (j k i : ℕ) → slice_get order j ≡ Some i → slice_get order k ≡ Some i → j ≡ k) (old new : List (Option AskedWalk)) (n k i s : ℕ) → slice_get order k ≡ Some i → ((r : ℕ) → Goes i r → r ≡ s)
      → IsWalkAsked p n_max new i s (n + 1) → ((j : ℕ) → (j ≡ i → ⊥) → slice_get new j ≡ slice_get old j) → AreWalks p Goes n_max order old n k → AreWalks p Goes n_max order new n (k + 1)
  walks_more single old new n k i s place one now others a = record {
    asked = λ j l r h o g. ⊎_elim
        (λ (b : j < k). walk_kept p n_max old new l r (n + 1) (others l (λ e. apart j l o e b)) (a.asked j l r b o g))
        (λ (b : j ≡ k).
        let e : l ≡ i = some_one l i (sym o ∙ ap (slice_get order) b ∙ place) in
        let q : r ≡ s = one r (subst (λ x. Goes x r) e g) in
        subst (λ x. IsWalkAsked p n_max new x r (n + 1)) (sym e) (subst (λ x. IsWalkAsked p n_max new i x (n + 1)) (sym q) now))
        (lt_or_eq j k h);
    to_ask = λ j l r h o g. walk_kept p n_max old new l r n (others l (λ e. later j l o e h)) (a.to_ask j l r (omega (arith, h)) o g);
  }
    where
      apart : (j l : ℕ) → slice_get order j ≡ Some l → l ≡ i → j < k → ⊥
      apart j l o e b = let q = single j k i (o ∙ ap Some e) place in absurd (omega (arith, q, b))

      later : (j l : ℕ) → slice_get order j ≡ Some l → l ≡ i → k + 1 ≤ j → ⊥
      later j l o e b = let q = single j k i (o ∙ ap Some e) place in absurd (omega (arith, q, b))

  -- at place k is no walk
  pub walks_skip : (walks : List (Option AskedWalk)) (n k i : ℕ) → slice_get order k ≡ Some i → ((s : ℕ) → Goes i s → ⊥) → AreWalks p Goes n_max order walks n k → AreWalks p Goes n_max order walks n (k + 1)
  walks_skip walks n k i place other a = record {
    asked = λ j l r h o g. ⊎_elim (λ (b : j < k). a.asked j l r b o g) (λ (b : j ≡ k). absurd (other r (subst (λ x. Goes x r) (some_one l i (sym o ∙ ap (slice_get order) b ∙ place)) g))) (lt_or_eq j k h);
    to_ask = λ j l r h o g. a.to_ask j l r (omega (arith, h)) o g;
  }

  -- the next size
  pub walks_next : (walks : List (Option AskedWalk)) (n : ℕ) → AreWalks p Goes n_max order walks n (length order) → AreWalks p Goes n_max order walks (n + 1) 0
  walks_next walks n a = record {
    asked = λ j l r h o g. absurd (omega (arith, h));
    to_ask = λ j l r h o g. a.asked j l r (slice_get_within order j l o) o g;
  }

  -- before the first size
  pub walks_start : (walks : List (Option AskedWalk)) → ((i s : ℕ) → Goes i s → IsWalkAsked p n_max walks i s 0) → AreWalks p Goes n_max order walks 0 0
  walks_start walks h = record {
    asked = λ j l r b o g. absurd (omega (arith, b));
    to_ask = λ j l r b o g. h l r g;
  }
