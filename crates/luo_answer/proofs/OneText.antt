-- At most one refusal explains why a text gives no structure, and at most one structure is read.
use Rattle.std.proofs.Common.{◌≡◌, ℕ, ◌<◌, ◌≤◌, List, refl, sym, ap, ◌∙◌, arith, ⊎_elim}
use Rattle.std.specs.Prelude.{◌⊎◌}
use Rattle.luo_model.specs.Program.{Program}
use Rattle.luo_model.specs.Invariant.{IsProgram}
use Rattle.luo_model.specs.Tree.{Tree, size_of}
use Rattle.luo_read.specs.declared.answers.StructError.{StructError}
use Rattle.luo_read.specs.declared.answers.StructError.TheVariants.{Long, S1, Deep, S2, S3, NoMemory}
use Rattle.luo_read.specs.Nesting.{IsTooDeep}
use Rattle.luo_read.specs.Reading.{Reads, Refusal}
use Rattle.luo_read.specs.Written.{IsUnreadable}
use Rattle.luo_read.proofs.MemberLemmas.{one_named}

order : (m n : ℕ) → (m ≡ n) ⊎ ((m < n) ⊎ (n < m))
order m n = grind arith

-- a text stops being one at one place
pub unreadable_one : (text : List ℕ) (j k : ℕ) → IsUnreadable text j → IsUnreadable text k → j ≡ k
unreadable_one text j k a b = ⊎_elim (λ e. e) (λ o. absurd (⊎_elim (λ (h : j < k). a.longest k h b.within b.begins) (λ (h : k < j). b.longest j h a.within a.begins) o)) (order j k)

-- and opens too much at one
pub deep_one : (text : List ℕ) (j k : ℕ) → IsTooDeep text j → IsTooDeep text k → j ≡ k
deep_one text j k a b = ⊎_elim (λ e. e) (λ o. absurd (⊎_elim (λ (h : j < k). b.2 j h a.1) (λ (h : k < j). a.2 k h b.1) o)) (order j k)

-- the one at the lesser byte is given
lesser : (text : List ℕ) (j k : ℕ) → IsUnreadable text j → ((i : ℕ) → i < j → IsTooDeep text i → ⊥) → IsTooDeep text k → ((i : ℕ) → i ≤ k → IsUnreadable text i → ⊥) → ⊥
lesser text j k u shallow d readable = ⊎_elim (λ (h : j ≤ k). readable j h u) (λ (h : k < j). shallow k h d) (split j k)
  where
    split : (m n : ℕ) → (m ≤ n) ⊎ (n < m)
    split m n = grind arith

module _ (p : Program) (q : IsProgram p) (x : ℕ) (text : List ℕ) where
  pub refusal_one : (d e : StructError) → Refusal p x text d → Refusal p x text e → d ≡ e
  refusal_one (Long m) (Long n) a b = ap Long (a.1 ∙ sym b.1)
  refusal_one (Long m) (S1 k) a b = absurd (omega (arith, a.0, b.0))
  refusal_one (Long m) (Deep k) a b = absurd (omega (arith, a.0, b.0))
  refusal_one (Long m) S2 a b = absurd (omega (arith, a.0, b.0.not_long))
  refusal_one (Long m) (S3 n) a b = absurd (omega (arith, a.0, b.0.not_long))
  refusal_one (S1 j) (Long n) a b = absurd (omega (arith, a.0, b.0))
  refusal_one (S1 j) (S1 k) a b = ap S1 (unreadable_one text j k a.1 b.1)
  refusal_one (S1 j) (Deep k) a b = absurd (lesser text j k a.1 a.2 b.1 b.2)
  refusal_one (S1 j) S2 a b = absurd (a.1.no_text b.0.is_text)
  refusal_one (S1 j) (S3 n) a b = absurd (a.1.no_text b.0.is_text)
  refusal_one (Deep j) (Long n) a b = absurd (omega (arith, a.0, b.0))
  refusal_one (Deep j) (S1 k) a b = absurd (lesser text k j b.1 b.2 a.1 a.2)
  refusal_one (Deep j) (Deep k) a b = ap Deep (deep_one text j k a.1 b.1)
  refusal_one (Deep j) S2 a b = absurd (b.0.not_deep j a.1)
  refusal_one (Deep j) (S3 n) a b = absurd (b.0.not_deep j a.1)
  refusal_one S2 (Long n) a b = absurd (omega (arith, b.0, a.0.not_long))
  refusal_one S2 (S1 k) a b = absurd (b.1.no_text a.0.is_text)
  refusal_one S2 (Deep k) a b = absurd (a.0.not_deep k b.1)
  refusal_one S2 S2 a b = refl
  refusal_one S2 (S3 n) a b = absurd (a.1 b.1.0 b.1.1)
  refusal_one (S3 m) (Long n) a b = absurd (omega (arith, b.0, a.0.not_long))
  refusal_one (S3 m) (S1 k) a b = absurd (b.1.no_text a.0.is_text)
  refusal_one (S3 m) (Deep k) a b = absurd (a.0.not_deep k b.1)
  refusal_one (S3 m) S2 a b = absurd (b.1 a.1.0 a.1.1)
  refusal_one (S3 m) (S3 n) a b = ap S3 (a.1.2 ∙ ap size_of (one_named p q x text a.0.not_long a.1.0 b.1.0 a.1.1 b.1.1) ∙ sym b.1.2)
  refusal_one NoMemory e a b = absurd a
  refusal_one (Long m) NoMemory a b = absurd b
  refusal_one (S1 j) NoMemory a b = absurd b
  refusal_one (Deep j) NoMemory a b = absurd b
  refusal_one S2 NoMemory a b = absurd b
  refusal_one (S3 m) NoMemory a b = absurd b

  pub reads_one : (t u : Tree) → Reads p x text t → Reads p x text u → t ≡ u
  reads_one t u a b = one_named p q x text a.readable.not_long t u a.named b.named
