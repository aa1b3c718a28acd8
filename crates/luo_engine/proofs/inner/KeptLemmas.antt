-- Counts copied out of the tables, one after another.
use Rattle.std.proofs.Common.{◌≡◌, ℕ, ◌+◌, ◌^◌, ◌≤◌, ⊎_elim, List, [], ◌∷◌, ◌++◌, Some, length, slice_get, refl, sym, ◌∙◌, ap, subst, arith}
use Rattle.std.proofs.lemmas.Option.{slice_get_within}
use Rattle.std.proofs.lemmas.List.{length-append}
use Rattle.luo_finite.proofs.Places.{get_last}
use Rattle.luo_num.specs.declared.TheConstants.{MAX}
use Rattle.luo_model.specs.Program.{Program}
use Rattle.luo_model.specs.Tables.{IsCount}
use Rattle.luo_model.specs.Counted.{AreCounts}
use Rattle.luo_engine.specs.inner.Kept.{IsCountRow, AreCountRows}

longer : {A : Type 0} (xs : List A) (x : A) → length (xs ++ x ∷ []) ≡ length xs + 1
longer xs x = length-append xs (x ∷ [])

pub row_none : (p : Program) (n : ℕ) → IsCountRow p 0 n []
row_none p n = record { wide = refl; right = λ x c e. absurd (omega (arith, slice_get_within [] x c e)); small = λ x c e. absurd (omega (arith, slice_get_within [] x c e)) }

pub row_more : (p : Program) (x n c : ℕ) (row new : List ℕ) → IsCountRow p x n row → new ≡ row ++ c ∷ [] → IsCount p x n c → c ≤ MAX → IsCountRow p (x + 1) n new
row_more p x n c row new r e is small = subst (λ (z : List ℕ). IsCountRow p (x + 1) n z) (sym e) (record {
  wide = longer row c ∙ ap (λ k. k + 1) r.wide;
  right = λ y d g. ⊎_elim (λ h. r.right y d h) (λ h. subst (λ z. IsCount p z n d) (sym (h.0 ∙ r.wide)) (subst (IsCount p x n) h.1 is)) (get_last row c y d g);
  small = λ y d g. ⊎_elim (λ h. r.small y d h) (λ h. subst (λ z. z ≤ MAX) h.1 small) (get_last row c y d g);
})

pub rows_none : (p : Program) (nodes : ℕ) → AreCountRows p nodes 0 []
rows_none p nodes = record { long = refl; each = λ n row e. absurd (omega (arith, slice_get_within [] n row e)) }

pub rows_more : (p : Program) (nodes n : ℕ) (row : List ℕ) (rows new : List (List ℕ)) → AreCountRows p nodes n rows → new ≡ rows ++ row ∷ [] → IsCountRow p nodes n row → AreCountRows p nodes (n + 1) new
rows_more p nodes n row rows new r e is = subst (λ (z : List (List ℕ)). AreCountRows p nodes (n + 1) z) (sym e) (record {
  long = longer rows row ∙ ap (λ k. k + 1) r.long;
  each = λ m other g. ⊎_elim (λ h. r.each m other h) (λ h. subst (λ z. IsCountRow p nodes z other) (sym (h.0 ∙ r.long)) (subst (IsCountRow p nodes n) h.1 is)) (get_last rows row m other g);
})

-- rows of all nodes are counts that can be kept
pub rows_kept : (p : Program) (sizes : ℕ) (rows : List (List ℕ)) → AreCountRows p (length p.nodes) sizes rows → 1 ≤ sizes → sizes ≤ 2 ^ 32 → AreCounts p rows
rows_kept p sizes rows r any few = record {
  some = subst (λ k. 1 ≤ k) (sym r.long) any;
  numbered = subst (λ k. k ≤ 2 ^ 32) (sym r.long) few;
  wide = λ n row e. (r.each n row e).wide;
  right = λ n x c row e g. (r.each n row e).right x c g;
  small = λ n x c row e g. (r.each n row e).small x c g;
}
