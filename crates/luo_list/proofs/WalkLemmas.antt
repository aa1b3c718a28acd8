-- Walks and stretches.
use Rattle.std.proofs.Common.{◌++◌, ◌≡◌, ℕ, zero, suc, ◌+◌, ◌-◌, List, [], ◌∷◌, length, refl, sym, ◌∙◌, ap, subst, arith, get_or, Some, slice_get, map}
use Rattle.std.specs.Prelude.{take, drop}
use Rattle.std.proofs.Math.Seq.{drop-cons}
use Rattle.std.proofs.lemmas.Option.{slice_get_within, get_or_from_slice_get}
use Rattle.luo_model.specs.Tree.{Tree}
use Rattle.luo_model.specs.Order.{IsBefore}
use Rattle.luo_model.specs.Structures.{IsStructure, IsOrderedListing}
use Rattle.luo_model.specs.View.{plain_of}
use Rattle.luo_counting.proofs.Orders.{trees_ordered}
use Rattle.luo_finite.proofs.OrderedPlaces.{at_listed}
use Rattle.luo_struct.specs.declared.structure.Structure.{Structure}
use Rattle.luo_struct.specs.View.{tree_of}
use Rattle.luo_list.specs.Span.{Span, Answers, Goes, HasPassed, StandsAt, Walk}

-- what stands at a place of a list is the first behind those before it
pub first_behind : {A : Type 0} (l : List A) (r : ℕ) (x : A) → slice_get l r ≡ Some x → drop r l ≡ x ∷ drop (r + 1) l
first_behind l r x e =
    let next : suc r ≡ r + 1 = omega arith in
    let split : drop r l ≡ get_or l r x ∷ drop (r + 1) l = subst (λ k. drop r l ≡ get_or l r x ∷ drop k l) next (drop-cons l r x (slice_get_within l r x e)) in
    split ∙ ap (λ y. y ∷ drop (r + 1) l) (get_or_from_slice_get l r x x e)

-- a walk is as long as there are places
pub walk_length : (c : Span) (ss : List Structure) → Walk c ss → c.place + length ss ≡ c.end
walk_length c [] w = omega (arith, w.0)
walk_length c (s ∷ ss) (d, a, w) =
    let v : Walk (record c { place = c.place + 1 }) ss = subst (λ (d : Span). Walk d ss) a.2 w in
    let e = walk_length (record c { place = c.place + 1 }) ss v in
    omega (arith, e)

-- each structure of a walk stands at its place
pub walk_at : (c : Span) (ss : List Structure) → Walk c ss → (i : ℕ) (s : Structure) → slice_get ss i ≡ Some s → StandsAt c (c.place + i) (tree_of s)
walk_at c [] w i s e = absurd (let l = slice_get_within [] i s e in let f : ⊥ = omega (arith, l) in f)
walk_at c (t ∷ ss) (d, a, w) zero s e =
    let r : c.place ≡ c.place + 0 = omega arith in
    let same : t ≡ s = get_or_from_slice_get (t ∷ ss) 0 s t e in
    subst (λ k. StandsAt c k (tree_of s)) r (subst (λ (u : Structure). StandsAt c c.place (tree_of u)) same a.1)
walk_at c (t ∷ ss) (d, a, w) (suc i) s e =
    let r : (c.place + 1) + i ≡ c.place + suc i = omega arith in
    let v : Walk (record c { place = c.place + 1 }) ss = subst (λ (d : Span). Walk d ss) a.2 w in
    subst (λ k. StandsAt c k (tree_of s)) r (walk_at (record c { place = c.place + 1 }) ss v i s e)

-- a walk is a stretch of the ordered listing
pub walk_stretch : (c : Span) (ss : List Structure) (l : List Tree) → IsOrderedListing (plain_of c.program) c.node c.size l → Walk c ss → map tree_of ss ≡ take (c.end - c.place) (drop c.place l)
walk_stretch c [] l o w =
    let e : c.end - c.place ≡ 0 = omega (arith, w.0) in
    subst (λ k. [] ≡ take k (drop c.place l)) (sym e) refl
walk_stretch c (s ∷ ss) l o (d, a, w) =
    let v : Walk (record c { place = c.place + 1 }) ss = subst (λ (d : Span). Walk d ss) a.2 w in
    let rest : map tree_of ss ≡ take (c.end - (c.place + 1)) (drop (c.place + 1) l) = walk_stretch (record c { place = c.place + 1 }) ss l o v in
    let here : slice_get l c.place ≡ Some (tree_of s) = at_listed (IsStructure (plain_of c.program) c.node c.size) IsBefore trees_ordered.one_way l c.place (tree_of s) o.0 o.1 a.1 in
    let more : c.end - c.place ≡ suc (c.end - (c.place + 1)) = omega (arith, a.0) in
    subst (λ k. map tree_of (s ∷ ss) ≡ take k (drop c.place l)) (sym more)
    (subst (λ k. map tree_of (s ∷ ss) ≡ take (suc (c.end - (c.place + 1))) k) (sym (first_behind l c.place (tree_of s) here))
    (ap (λ k. tree_of s ∷ k) rest))

-- one more structure on the way
pub goes_on : (c : Span) (ss : List Structure) (d : Span) (s : Structure) (e : Span) → Goes c ss d → Answers d (Some s) e → Goes c (ss ++ s ∷ []) e
goes_on c [] d s e g a = (e, subst (λ (z : Span). Answers z (Some s) e) g a, refl)
goes_on c (t ∷ ss) d s e (f, b, g) a = (f, b, goes_on f ss d s e g a)

-- a way to the end is a walk
pub goes_to_end : (c : Span) (ss : List Structure) (d : Span) → Goes c ss d → d.place ≡ d.end → Walk c ss
goes_to_end c [] d g e = (subst (λ (z : Span). z.place ≡ z.end) g e, refl)
goes_to_end c (s ∷ ss) d (f, b, g) e = (f, b, goes_to_end f ss d g e)

-- what a cursor has answered has the place before the next one
pub has_passed : (c : Span) (s : Structure) (d : Span) → Answers c (Some s) d → HasPassed d (tree_of s)
has_passed c s d a = subst (λ (e : Span). HasPassed e (tree_of s)) (sym a.2) (c.place, refl, a.1)
