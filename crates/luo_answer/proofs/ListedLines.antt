-- The lines of a listing, from a cursor.
use Rattle.std.proofs.Common.{◌≡◌, ℕ, suc, ◌+◌, ◌-◌, ◌<◌, ◌≤◌, ◌⊎◌, inl, inr, List, [], ◌∷◌, ◌++◌, length, map, min, Result, Ok, Err, IfOk, refl, sym, ap, subst, ◌∙◌, arith, append_assoc, decimal}
use Rattle.std.specs.Prelude.{codes, take, drop}
use Rattle.std.proofs.lemmas.List.{append-nil, drop_all, take_all, take_min, length-drop}
use Rattle.luo_finite.proofs.Falling.{falling_listing}
use Rattle.luo_num.specs.declared.TheConstants.{MAX}
use Rattle.luo_list.specs.Span.{Span, Walk}
use Rattle.luo_list.proofs.WalkLemmas.{walk_stretch, goes_on, goes_to_end}
use Rattle.luo_model.specs.Order.{IsBefore}
use Rattle.luo_model.specs.Program.{Program}
use Rattle.luo_model.specs.Structures.{IsStructure, IsOrderedListing}
use Rattle.luo_model.specs.Tables.{IsCount}
use Rattle.luo_model.specs.Tree.{Tree}
use Rattle.luo_model.specs.View.{Held, plain_of}
use Rattle.luo_struct.specs.declared.structure.Structure.{Structure}
use Rattle.luo_struct.specs.Text.{structure_text}
use Rattle.luo_struct.specs.View.{tree_of}
use Rattle.luo_answer.specs.declared.words.TheConstants.{NUMBER_CAP}
use Rattle.luo_answer.specs.Commands.List.{list_lines, lines_from, IsListText}
use Rattle.luo_answer.specs.Lines.{line}
use Rattle.luo_answer.specs.inner.Listed.{Shows, HasListed}
use Rattle.luo_answer.proofs.ListLemmas.{flipped}

-- a line more
lines_on : (r : ℕ) (ts : List Tree) (t : Tree) → list_lines r (ts ++ t ∷ []) ≡ list_lines r ts ++ line (decimal (r + length ts) ++ codes " " ++ structure_text t)
lines_on r [] t = let e : r ≡ r + 0 = omega arith in append-nil (line (decimal r ++ codes " " ++ structure_text t)) ∙ ap (λ k. line (decimal k ++ codes " " ++ structure_text t)) e
lines_on r (s ∷ ts) t =
    let e : (r + 1) + length ts ≡ r + length (s ∷ ts) = omega arith in
    let first = line (decimal r ++ codes " " ++ structure_text s) in
    ap (λ z. first ++ z) (lines_on (r + 1) ts t ∙ ap (λ k. list_lines (r + 1) ts ++ line (decimal k ++ codes " " ++ structure_text t)) e)
    ∙ sym (append_assoc first (list_lines (r + 1) ts) (line (decimal (r + length (s ∷ ts)) ++ codes " " ++ structure_text t)))

map_on : (ss : List Structure) (s : Structure) → map tree_of (ss ++ s ∷ []) ≡ map tree_of ss ++ tree_of s ∷ []
map_on [] s = refl
map_on (t ∷ ss) s = ap (λ z. tree_of t ∷ z) (map_on ss s)

map_long : (ss : List Structure) → length (map tree_of ss) ≡ length ss
map_long [] = refl
map_long (s ∷ ss) = ap suc (map_long ss)

long_on : (ss : List Structure) (s : Structure) → length (ss ++ s ∷ []) ≡ length ss + 1
long_on [] s = refl
long_on (t ∷ ss) s = let e = long_on ss s in omega (arith, e)

pub none_listed : (first : Span) (start : ℕ) → first.place ≡ start → HasListed first start 0 first []
none_listed first start e = record { shown = []; long = refl; goes = refl; place = omega (arith, e); end = refl; written = refl }

pub one_listed : (first : Span) (start many : ℕ) (now : Span) (text : List ℕ) (next : Span) (more : List ℕ)
    → HasListed first start many now text → Shows now next (start + many) text more → HasListed first start (many + 1) next more
one_listed first start many now text next more h (s, a, e) =
    let place : next.place ≡ now.place + 1 = ap (λ (z : Span). z.place) a.2 in
    let end : next.end ≡ now.end = ap (λ (z : Span). z.end) a.2 in
    record {
      shown = h.shown ++ s ∷ [];
      long = long_on h.shown s ∙ ap (λ n. n + 1) h.long;
      goes = goes_on first h.shown now s next h.goes a;
      place = omega (arith, place, h.place);
      end = end ∙ h.end;
      written =
          let k : length (map tree_of h.shown) ≡ many = map_long h.shown ∙ h.long in
          e ∙ ap (λ z. z ++ line (decimal (start + many) ++ codes " " ++ structure_text (tree_of s))) h.written
          ∙ sym (ap (list_lines start) (map_on h.shown s) ∙ lines_on start (map tree_of h.shown) (tree_of s)
          ∙ ap (λ n. list_lines start (map tree_of h.shown) ++ line (decimal (start + n) ++ codes " " ++ structure_text (tree_of s))) k);
    }

-- a cursor that has shown all walked to its end
pub all_listed : (first : Span) (start many : ℕ) (now : Span) (text : List ℕ) → HasListed first start many now text → start + many ≡ first.end
    → (ss : List Structure) × Walk first ss × (text ≡ list_lines start (map tree_of ss))
all_listed first start many now text h e = (h.shown, goes_to_end first h.shown now h.goes (h.place ∙ e ∙ sym h.end), h.written)

-- and before that some are left
pub some_left : (first : Span) (start many all : ℕ) (now : Span) (text : List ℕ) → HasListed first start many now text → start + all ≡ first.end → many < all → now.place < now.end
some_left first start many all now text h e l = omega (arith, h.place, h.end, e, l)

-- what a count counts has an ordered listing, which is so long
counted_listing : (p : Program) (x n c : ℕ) → IsCount p x n c → (l : List Tree) × IsOrderedListing p x n l × (length l ≡ c)
counted_listing p x n c k =
    let m = falling_listing (λ (s t : Tree). IsBefore t s) flipped (IsStructure p x n) k.exists.0 k.exists.1 in
    (m.0, (m.2, m.1), k.each m.0 m.2)

cases : (m n : ℕ) → (m < n) ⊎ (n ≤ m)
cases m n = grind arith

none_taken : (n : ℕ) → ◌≡◌ {A = List Tree} (take n []) []
none_taken n = take_all n [] (omega arith)

-- the lines from a place on, where the place and how many there are stay within the count
lines_within : (l : List Tree) (s most : ℕ) → list_lines (min s (length l)) (take (min (length l - min s (length l)) most) (drop (min s (length l)) l)) ≡ lines_from s most l
lines_within l s most = by (cases s (length l))
  where
    by : ((s < length l) ⊎ (length l ≤ s)) → list_lines (min s (length l)) (take (min (length l - min s (length l)) most) (drop (min s (length l)) l)) ≡ lines_from s most l
    by (inl h) =
        let first : min s (length l) ≡ s = omega (arith, h) in
        let many : min (length l - s) most ≡ min most (length (drop s l)) = omega (arith, length-drop s l) in
        ap (λ k. list_lines k (take (min (length l - k) most) (drop k l))) first ∙ ap (λ k. list_lines s (take k (drop s l))) many ∙ ap (list_lines s) (take_min most (drop s l))
    by (inr h) =
        let first : min s (length l) ≡ length l = omega (arith, h) in
        let here : drop (length l) l ≡ [] = drop_all (length l) l (omega arith) in
        let past : drop s l ≡ [] = drop_all s l h in
        ap (λ k. list_lines k (take (min (length l - k) most) (drop k l))) first
        ∙ ap (λ z. list_lines (length l) (take (min (length l - length l) most) z)) here
        ∙ ap (list_lines (length l)) (none_taken (min (length l - length l) most))
        ∙ sym (ap (λ z. list_lines s (take most z)) past ∙ ap (list_lines s) (none_taken most))

-- what a cursor shows that goes from a place on, and at most so far, is the listing from there on
pub walk_listed : (h : Held) (x n count start most first many s : ℕ) (c : Span) (ss : List Structure) (text : List ℕ)
    → IsCount (plain_of h) x n count → count ≤ MAX → start ≡ min s NUMBER_CAP → first ≡ min start count → many ≡ min (count - first) most
    → c ≡ record { program = h; node = x; size = n; place = first; end = first + many } → Walk c ss → text ≡ list_lines first (map tree_of ss)
    → IsListText (plain_of h) x n s most text
walk_listed h x n count start most first many s c ss text is small told place more cursor walk shown =
    let m = counted_listing (plain_of h) x n count is in
    let l = m.0 in
    let span : Span = record { program = h; node = x; size = n; place = first; end = first + many } in
    let w : Walk span ss = subst (λ z. Walk z ss) cursor walk in
    let stretch : map tree_of ss ≡ take ((first + many) - first) (drop first l) = walk_stretch span ss l m.1 w in
    let from : first ≡ min s (length l) = omega (arith, small, told, place, m.2) in
    let far : (first + many) - first ≡ min (length l - min s (length l)) most = omega (arith, more, from, m.2) in (
      l,
      m.1,
      shown ∙ ap (list_lines first) (stretch ∙ ap (λ k. take k (drop first l)) far)
          ∙ ap (λ k. list_lines k (take (min (length l - min s (length l)) most) (drop k l))) from ∙ lines_within l s most,
    )

-- the same of what is answered, if anything
pub shown_from : {A E : Type 0} (items : A → List ℕ) (r : Result A E) (h : Held) (x n count start most first many : ℕ) (c : Span)
    → IsCount (plain_of h) x n count → count ≤ MAX → first ≡ min start count → many ≡ min (count - first) most
    → c ≡ record { program = h; node = x; size = n; place = first; end = first + many }
    → IfOk r (λ text. (ss : List Structure) × Walk c ss × (items text ≡ list_lines first (map tree_of ss)))
    → IfOk r (λ text. (s : ℕ) → start ≡ min s NUMBER_CAP → IsListText (plain_of h) x n s most (items text))
shown_from items (Ok text) h x n count start most first many c is small place more cursor (ss, walk, shown) =
    λ s told. walk_listed h x n count start most first many s c ss (items text) is small told place more cursor walk shown
shown_from items (Err e) h x n count start most first many c is small place more cursor k = tt
