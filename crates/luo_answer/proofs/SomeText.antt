-- A text gives a structure, or a refusal says why not.
use Rattle.std.proofs.Common.{◌≡◌, ℕ, zero, suc, ◌+◌, ◌<◌, ◌≤◌, List, [], ◌∷◌, inl, inr, length, take, refl, arith, ⊎_elim}
use Rattle.std.specs.Prelude.{◌⊎◌}
use Rattle.luo_num.specs.declared.limits.TheConstants.{STRUCTURE_TEXT_LIMIT, STRUCTURE_SIZE_LIMIT}
use Rattle.luo_model.specs.Program.{Program}
use Rattle.luo_model.specs.Tree.{Tree, Atom, size_of}
use Rattle.luo_struct.specs.Text.{structure_text}
use Rattle.luo_read.specs.declared.answers.StructError.{StructError}
use Rattle.luo_read.specs.declared.answers.StructError.TheVariants.{Long, S1, Deep, S2, S3}
use Rattle.luo_read.specs.Nesting.{IsTooDeep}
use Rattle.luo_read.specs.Reading.{IsReadable, IsNamed, Reads, Refusal}
use Rattle.luo_read.specs.Written.{IsStructureText, Begins, IsUnreadable}
use Rattle.luo_answer.proofs.OneText.{deep_one}

cases : (m n : ℕ) → (m ≤ n) ⊎ (n < m)
cases m n = grind arith

-- some text of a structure begins with nothing: `a0`
nothing_begins : (text : List ℕ) → Begins (take 0 text)
nothing_begins [] = (structure_text (Atom 0 0), (Atom 0 0, omega arith, refl))
nothing_begins (b ∷ text) = (structure_text (Atom 0 0), (Atom 0 0, omega arith, refl))

-- a text that is none stops being one somewhere
module _ (text : List ℕ) (no_text : IsStructureText text → ⊥) (none : (k : ℕ) → IsUnreadable text k → ⊥) where
  -- no part from this length on begins a text
  down : (d k : ℕ) → k + d ≡ length text + 1 → (j : ℕ) → k ≤ j → j ≤ length text → Begins (take j text) → ⊥
  down zero k e j a b v = absurd (omega (arith, e, a, b))
  down (suc d) k e j a b v =
      let further = down d (k + 1) (omega (arith, e)) in
      ⊎_elim (λ (same : j ≤ k). none j (record { no_text = no_text; within = b; begins = v; longest = λ i c l w. further i (omega (arith, same, c, a)) l w }))
      (λ (more : k < j). further j (omega arith) b v) (cases j k)

  no_stop : ⊥
  no_stop = down (length text + 1) 0 (omega arith) 0 (omega arith) (omega arith) (nothing_begins text)

module _ (p : Program) (x : ℕ) (text : List ℕ) (none : (e : StructError) → Refusal p x text e → ⊥) where
  -- a text within the limit that gives no refusal is readable
  module _ (short : length text ≤ STRUCTURE_TEXT_LIMIT) where
    not_deep : (k : ℕ) → IsTooDeep text k → ⊥
    not_deep k d = none (Deep k) (short, d, λ j l u. none (S1 j) (short, u, λ i m e. absurd (omega (arith, deep_one text i k e d, l, m))))

    readable : (IsReadable text → ⊥) → ⊥
    readable never =
        let no_text : IsStructureText text → ⊥ = λ t. never (record { not_long = short; not_deep = not_deep; is_text = t }) in
        no_stop text no_text (λ k u. none (S1 k) (short, u, λ i l d. not_deep i d))

  pub read_or_refused : ((t : Tree) → Reads p x text t → ⊥) → ⊥
  read_or_refused nothing =
      ⊎_elim
      (λ (short : length text ≤ STRUCTURE_TEXT_LIMIT). readable short (λ r. none S2 (r, λ t named. sized r t named (cases (size_of t) STRUCTURE_SIZE_LIMIT))))
      (λ (long : STRUCTURE_TEXT_LIMIT < length text). none (Long (length text)) (long, refl)) (cases (length text) STRUCTURE_TEXT_LIMIT)
    where
      sized : IsReadable text → (t : Tree) → IsNamed p x text t → ((size_of t ≤ STRUCTURE_SIZE_LIMIT) ⊎ (STRUCTURE_SIZE_LIMIT < size_of t)) → ⊥
      sized r t named (inl small) = nothing t (record { readable = r; named = named; small = small })
      sized r t named (inr large) = none (S3 (size_of t)) (r, (t, named, refl, large))
