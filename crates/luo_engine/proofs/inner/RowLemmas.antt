-- Rows of partial products.
use Rattle.std.proofs.Common.{◌≡◌, ℕ, zero, suc, ◌+◌, ◌<◌, List, [], ◌∷◌, ◌++◌, length, get_or, slice_get, slice_index, drop, map, refl, sym, ◌∙◌, ap, arith, Some, None, Option}
use Rattle.std.proofs.Math.Seq.{drop-cons}
use Rattle.std.proofs.lemmas.List.{length-append}
use Rattle.std.proofs.lemmas.Option.{slice_get-get_or, get_or_from_slice_get, slice_get_within}
use Rattle.luo_num.specs.Mark.{capped}
use Rattle.luo_finite.specs.Range.{unit}
use Rattle.luo_model.specs.declared.program.Universe.{Universe}
use Rattle.luo_counting.specs.Sharing.{products}
use Rattle.luo_recipes.specs.Shares.{inner, tail_of, open_of}
use Rattle.luo_engine.specs.inner.Grid.{row_of, entry_of}
use Rattle.luo_engine.specs.inner.Partial.{AreClosedBelow, AreOpenBefore, closing}
use Rattle.luo_recipes.proofs.ShareLemmas.{shares-same}
use Rattle.luo_engine.proofs.inner.MarkLemmas.{capped-capped, alike-inner, closing-whole}

-- what stands from row r on
pub drop-at : {A : Type 0} (factors : List A) (r : ℕ) (d f : A) → r < length factors → get_or factors r d ≡ f → drop r factors ≡ f ∷ drop (r + 1) factors
drop-at factors r d f h e = drop-cons factors r d h ∙ ap (λ g. g ∷ drop (suc r) factors) e ∙ ap (λ k. f ∷ drop k factors) (more r)
  where
    more : (r : ℕ) → suc r ≡ r + 1
    more r = omega arith

pub open_row : (u : Universe) (counts partials : List (List ℕ)) (factors : List (Option ℕ)) (r n y value : ℕ) (d : Option ℕ) (left right : List ℕ) → AreClosedBelow u counts factors partials n → r < length factors → get_or factors r d ≡ Some y
    → left ≡ row_of counts y → right ≡ row_of partials (r + 1) → value ≡ capped (inner u (slice_index left) (slice_index right) n) → value ≡ capped (open_of u (entry_of counts) (drop r factors) n)
open_row u counts partials factors r n y value d left right b h e l q v =
    let there : slice_get factors r ≡ Some (Some y) = slice_get-get_or factors r d h ∙ ap Some e in
    v
    ∙ alike-inner u (slice_index left) (slice_index right) (entry_of counts y) (tail_of u (entry_of counts) (drop (r + 1) factors)) n
    (λ k _. ap (λ (row : List ℕ). capped (slice_index row k)) l)
    (λ k g. ap (λ (row : List ℕ). capped (slice_index row k)) q ∙ ap capped (b.closed (r + 1) k (b.links r y there).1 g) ∙ capped-capped (tail_of u (entry_of counts) (drop (r + 1) factors) k))
    ∙ ap (λ (fs : List (Option ℕ)). capped (open_of u (entry_of counts) fs n)) (sym (drop-at factors r d (Some y) h e))

pub closed_row : (u : Universe) (counts partials : List (List ℕ)) (factors : List (Option ℕ)) (r n y opened whole value : ℕ) (d : Option ℕ) (left right : List ℕ) → AreOpenBefore u counts factors partials n (r + 1) → r < length factors → get_or factors r d ≡ Some y
    → left ≡ row_of counts y → right ≡ row_of partials (r + 1) → opened ≡ entry_of partials r n → whole ≡ capped (tail_of u (entry_of counts) (drop (r + 1) factors) n)
    → value ≡ capped (closing opened (slice_index left) (slice_index right) n whole) → value ≡ capped (tail_of u (entry_of counts) (drop r factors) n)
closed_row u counts partials factors r n y opened whole value d left right b h e l q o w v =
    let there : slice_get factors r ≡ Some (Some y) = slice_get-get_or factors r d h ∙ ap Some e in
    let T : ℕ → ℕ = tail_of u (entry_of counts) (drop (r + 1) factors) in
    v
    ∙ ap (λ (row : List ℕ). capped (closing opened (slice_index row) (slice_index right) n whole)) l
    ∙ closing-whole u opened whole n (entry_of counts y) (slice_index right) T
    (o ∙ b.open_rows r (omega arith) ∙ ap (λ (fs : List (Option ℕ)). capped (open_of u (entry_of counts) fs n)) (drop-at factors r d (Some y) h e))
    (λ g. ap (λ (row : List ℕ). slice_index row 0) q ∙ b.below.closed (r + 1) 0 (b.below.links r y there).1 g)
    w
    ∙ ap (λ (fs : List (Option ℕ)). capped (tail_of u (entry_of counts) fs n)) (sym (drop-at factors r d (Some y) h e))

-- the row that ends a product
pub end_row : (u : Universe) (counts : ℕ → ℕ → ℕ) (factors : List (Option ℕ)) (r n : ℕ) → slice_get factors r ≡ Some None → tail_of u counts (drop r factors) n ≡ unit n
end_row u counts factors r n e =
    ap (λ (fs : List (Option ℕ)). tail_of u counts fs n) (drop-at factors r None None (slice_get_within factors r None e) (get_or_from_slice_get factors r None None e))

-- the rows of a product hold its partial products
pub tail-product : {X : Type 0} (u : Universe) (counts : ℕ → ℕ → ℕ) (node : X → ℕ) (xs : List X) (rest : List (Option ℕ)) (n : ℕ) → tail_of u counts (map (λ x. Some (node x)) xs ++ (None ∷ rest)) n ≡ products u (map (λ x. counts (node x)) xs) n
tail-product u counts node [] rest n = refl
tail-product u counts node (x ∷ xs) rest n = shares-same u (counts (node x)) (tail_of u counts (map (λ x. Some (node x)) xs ++ (None ∷ rest))) (counts (node x)) (products u (map (λ x. counts (node x)) xs)) n (λ k l. refl) (λ k l. tail-product u counts node xs rest k)

-- behind the factors of a product stands its end
pub end-there : {X B : Type 0} (node : X → B) (xs : List X) (rest factors : List (Option B)) (start : ℕ) → drop start factors ≡ map (λ x. Some (node x)) xs ++ (None ∷ rest) → slice_get factors (start + length xs) ≡ Some None
end-there {X = X} {B = B} node xs rest factors zero e = ap (slice_get factors) (none_more (length xs)) ∙ ap (λ (fs : List (Option B)). slice_get fs (length xs)) e ∙ last xs
  where
    none_more : (k : ℕ) → 0 + k ≡ k
    none_more k = omega arith

    last : (ys : List X) → slice_get (map (λ x. Some (node x)) ys ++ (None ∷ rest)) (length ys) ≡ Some None
    last [] = refl
    last (y ∷ ys) = last ys
end-there node xs rest [] (suc start) e = absurd (omega (arith, ap length e, length-append (map (λ x. Some (node x)) xs) (None ∷ rest)))
end-there node xs rest (f ∷ factors) (suc start) e = ap (slice_get (f ∷ factors)) (more_first start (length xs)) ∙ end-there node xs rest factors start e
  where
    more_first : (a b : ℕ) → suc a + b ≡ suc (a + b)
    more_first a b = omega arith

pub room-there : {X B : Type 0} (node : X → B) (xs : List X) (rest factors : List (Option B)) (start : ℕ) → drop start factors ≡ map (λ x. Some (node x)) xs ++ (None ∷ rest) → start + length xs < length factors
room-there node xs rest factors start e = slice_get_within factors (start + length xs) None (end-there node xs rest factors start e)
