-- The reader's frames as what is open, and its structures as trees.
use Rattle.std.proofs.Common.{◌≡◌, ◌↔◌, Bool, false, IsTrue, ℕ, ◌+◌, ◌≤◌, ◌<◌, List, [], ◌∷◌, ◌++◌, Option, Some, None, map, length, refl, sym, ap, subst, ◌∙◌, arith, length-append}
use Rattle.std.specs.Prelude.{Result, Ok, Err, IfOk, IfErr}
use Rattle.luo_model.specs.Tree.{Tree, from_list}
use Rattle.luo_model.specs.Tree as tree
use Rattle.luo_struct.specs.declared.structure.Structure.{Structure, Inj, Tup, Coll}
use Rattle.luo_struct.specs.View.{tree_of, tree_list}
use Rattle.luo_struct.proofs.MemberLemmas.{failed}
use Rattle.luo_struct.proofs.ViewLemmas.{branch_tree, tuple_tree, collection_tree}
use Rattle.luo_read.specs.declared.reader.Frame.{Frame}
use Rattle.luo_read.specs.declared.reader.Frame.TheVariants as frame
use Rattle.luo_read.specs.declared.reader.Stop.{Stop}
use Rattle.luo_read.specs.declared.reader.Stop.TheVariants as stop
use Rattle.luo_read.specs.declared.reader.Reader.{Reader}
use Rattle.luo_read.specs.Nesting.{Open, Tuple, Collection}
use Rattle.luo_read.specs.inner.Machine.{Behind, Begin, First, State, state, closed, passed, emptied, step}
use Rattle.luo_read.specs.inner.Readers.{open_of, opens_onto, opens_of, state_of, depth, Halts, Goes}

pub opens_snoc : (os : List Open) (fs : List Frame) (f : Frame) → opens_onto os (fs ++ f ∷ []) ≡ open_of f ∷ opens_onto os fs
opens_snoc os [] f = refl
opens_snoc os (g ∷ fs) f = opens_snoc (open_of g ∷ os) fs f

pub opens_pushed : (fs more : List Frame) (f : Frame) → more ≡ fs ++ f ∷ [] → opens_of more ≡ open_of f ∷ opens_of fs
opens_pushed fs more f e = ap opens_of e ∙ opens_snoc [] fs f

opens_long : (os : List Open) (fs : List Frame) → length (opens_onto os fs) ≡ length fs + length os
opens_long os [] = omega arith
opens_long os (f ∷ fs) = omega (arith, opens_long (open_of f ∷ os) fs)

pub depth_frames : (r : Reader) → depth (state_of r) ≡ length r.frames
depth_frames r = omega (arith, opens_long [] r.frames)

pub longer : (more fs : List Frame) (f : Frame) → more ≡ fs ++ f ∷ [] → length more ≡ length fs + 1
longer more fs f e = omega (arith, ap length e, length-append fs (f ∷ []))

-- ---- behind a structure

pub branch_closed : (fs less : List Frame) (number : ℕ) (s inner made : Structure) → fs ≡ less ++ frame.Branch number ∷ [] → made ≡ Inj number inner → inner ≡ s
    → closed (opens_of less) (tree_of made) ≡ closed (opens_of fs) (tree_of s)
branch_closed fs less number s inner made e m i =
    ap (closed (opens_of less)) (branch_tree made number inner inner m refl ∙ ap (λ z. tree.Inj number (tree_of z)) i)
    ∙ ap (λ os. closed os (tree_of s)) (sym (opens_pushed less fs (frame.Branch number) e))

pub tuple_stays : (fs less more : List Frame) (parts : List Structure) (s : Structure) → fs ≡ less ++ frame.Tuple parts ∷ [] → more ≡ less ++ frame.Tuple parts ∷ []
    → state (opens_of more) (Behind (tree_of s)) ≡ closed (opens_of fs) (tree_of s)
tuple_stays fs less more parts s e m =
    ap (λ os. state os (Behind (tree_of s))) (opens_pushed less more (frame.Tuple parts) m) ∙ ap (λ os. closed os (tree_of s)) (sym (opens_pushed less fs (frame.Tuple parts) e))

pub collection_stays : (fs less more : List Frame) (parts : List Structure) (s : Structure) → fs ≡ less ++ frame.Collection parts ∷ [] → more ≡ less ++ frame.Collection parts ∷ []
    → state (opens_of more) (Behind (tree_of s)) ≡ closed (opens_of fs) (tree_of s)
collection_stays fs less more parts s e m =
    ap (λ os. state os (Behind (tree_of s))) (opens_pushed less more (frame.Collection parts) m) ∙ ap (λ os. closed os (tree_of s)) (sym (opens_pushed less fs (frame.Collection parts) e))

-- ---- the parts of a structure

pub parts_snoc : (parts more : List Structure) (s : Structure) → more ≡ parts ++ s ∷ [] → map tree_of more ≡ map tree_of parts ++ tree_of s ∷ []
parts_snoc parts more s e = ap (map tree_of) e ∙ go parts
  where
    go : (parts : List Structure) → map tree_of (parts ++ s ∷ []) ≡ map tree_of parts ++ tree_of s ∷ []
    go [] = refl
    go (p ∷ ps) = ap (λ l. tree_of p ∷ l) (go ps)

pub parts_tree : (parts : List Structure) → tree_list parts ≡ from_list (map tree_of parts)
parts_tree [] = refl
parts_tree (p ∷ ps) = ap (tree.more (tree_of p)) (parts_tree ps)

pub tuple_of : (parts more : List Structure) (s : Structure) → more ≡ parts ++ s ∷ [] → tree_of (Tup more) ≡ tree.Tup (from_list (map tree_of parts ++ tree_of s ∷ []))
tuple_of parts more s e = tuple_tree (Tup more) more more refl refl ∙ ap tree.Tup (parts_tree more ∙ ap from_list (parts_snoc parts more s e))

pub collection_of : (parts more : List Structure) (s : Structure) → more ≡ parts ++ s ∷ [] → tree_of (Coll more) ≡ tree.Coll (from_list (map tree_of parts ++ tree_of s ∷ []))
collection_of parts more s e = collection_tree (Coll more) more more refl refl ∙ ap tree.Coll (parts_tree more ∙ ap from_list (parts_snoc parts more s e))

pub whole_collection : (parts : List Structure) → tree_of (Coll parts) ≡ tree.Coll (from_list (map tree_of parts))
whole_collection parts = collection_tree (Coll parts) parts parts refl refl ∙ ap tree.Coll (parts_tree parts)

-- ---- how a reader goes on

pub goes : (o : Option State) (st : State) (n : ℕ) (r : Result Reader Stop) → o ≡ Some st → n ≤ 1000 → IfOk r (λ x. (state_of x ≡ st) × (length x.frames ≤ n))
    → IfErr r (λ e. e ≡ stop.NoMemory) → Goes o r
goes o st n (Ok x) e l h k = (e ∙ ap Some (sym h.0), omega (arith, h.1, l))
goes o st n (Err x) e l h k = subst (Halts o) (sym k) tt

pub goes_same : (o q : Option State) (r : Result Reader Stop) → o ≡ q → Goes q r → Goes o r
goes_same o q r e h = subst (λ z. Goes z r) (sym e) h

pub opens_few : (fs : List Frame) → length (opens_of fs) ≡ length fs
opens_few fs = omega (arith, opens_long [] fs)

-- ---- the byte behind a structure

module _ (fs : List Frame) (parts : List Structure) (s : Structure) (b : ℕ) (few : length fs < 1000) where
  pub tuple_comma : (more : List Structure) (next : List Frame) → b ≡ 44 → more ≡ parts ++ s ∷ [] → next ≡ fs ++ frame.Tuple more ∷ []
      → (passed (Tuple (map tree_of parts) ∷ opens_of fs) (tree_of s) b ≡ Some (state (opens_of next) Begin)) × (length next ≤ 1000)
  tuple_comma more next e m n = (
    ap (passed (Tuple (map tree_of parts) ∷ opens_of fs) (tree_of s)) e ∙ ap (λ l. Some (state (Tuple l ∷ opens_of fs) Begin)) (sym (parts_snoc parts more s m))
        ∙ ap (λ os. Some (state os Begin)) (sym (opens_pushed fs next (frame.Tuple more) n)),
    omega (arith, few, longer next fs (frame.Tuple more) n),
  )

  pub collection_comma : (more : List Structure) (next : List Frame) → b ≡ 44 → more ≡ parts ++ s ∷ [] → next ≡ fs ++ frame.Collection more ∷ []
      → (passed (Collection (map tree_of parts) ∷ opens_of fs) (tree_of s) b ≡ Some (state (opens_of next) Begin)) × (length next ≤ 1000)
  collection_comma more next e m n = (
    ap (passed (Collection (map tree_of parts) ∷ opens_of fs) (tree_of s)) e ∙ ap (λ l. Some (state (Collection l ∷ opens_of fs) Begin)) (sym (parts_snoc parts more s m))
        ∙ ap (λ os. Some (state os Begin)) (sym (opens_pushed fs next (frame.Collection more) n)),
    omega (arith, few, longer next fs (frame.Collection more) n),
  )

  pub tuple_end : (more : List Structure) (r : Result Reader Stop) → b ≡ 41 → 1 ≤ length parts → more ≡ parts ++ s ∷ []
      → IfOk r (λ x. (state_of x ≡ closed (opens_of fs) (tree_of (Tup more))) × (length x.frames ≤ length fs)) → IfErr r (λ e. e ≡ stop.NoMemory)
      → Goes (passed (Tuple (map tree_of parts) ∷ opens_of fs) (tree_of s) b) r
  tuple_end more r e l m h k =
      goes _ (closed (opens_of fs) (tree_of (Tup more))) (length fs) r
      (ap (passed (Tuple (map tree_of parts) ∷ opens_of fs) (tree_of s)) e ∙ two parts l ∙ ap (λ t. Some (closed (opens_of fs) t)) (sym (tuple_of parts more s m))) (omega (arith, few)) h k
    where
      two : (ps : List Structure) → 1 ≤ length ps → passed (Tuple (map tree_of ps) ∷ opens_of fs) (tree_of s) 41 ≡ Some
          (closed (opens_of fs) (tree.Tup (from_list (map tree_of ps ++ tree_of s ∷ []))))
      two [] l = absurd (omega arith)
      two (p ∷ ps) l = refl

  pub collection_end : (more : List Structure) (r : Result Reader Stop) → b ≡ 93 → more ≡ parts ++ s ∷ []
      → IfOk r (λ x. (state_of x ≡ closed (opens_of fs) (tree_of (Coll more))) × (length x.frames ≤ length fs)) → IfErr r (λ e. e ≡ stop.NoMemory)
      → Goes (passed (Collection (map tree_of parts) ∷ opens_of fs) (tree_of s) b) r
  collection_end more r e m h k =
      goes _ (closed (opens_of fs) (tree_of (Coll more))) (length fs) r
      (ap (passed (Collection (map tree_of parts) ∷ opens_of fs) (tree_of s)) e ∙ ap (λ t. Some (closed (opens_of fs) t)) (sym (collection_of parts more s m))) (omega (arith, few)) h k

-- the byte behind a structure, by what is open innermost
pub passed_top : (fs less : List Frame) (f : Frame) (s : Structure) (b : ℕ) (r : Result Reader Stop) → fs ≡ less ++ f ∷ [] → Goes (passed (open_of f ∷ opens_of less) (tree_of s) b) r
    → Goes (passed (opens_of fs) (tree_of s) b) r
passed_top fs less f s b r e h = goes_same _ _ r (ap (λ os. passed os (tree_of s) b) (opens_pushed less fs f e)) h

pub not_empty : {X : Type 0} (xs : List X) (r : Bool) → (IsTrue r ↔ (xs ≡ [])) → r ≡ false → 1 ≤ length xs
not_empty [] r d e = absurd (failed r d e refl)
not_empty (x ∷ xs) r d e = omega arith

-- ---- the first byte inside the square brackets

pub first_closed : (fs less : List Frame) (parts : List Structure) (b : ℕ) (r : Result Reader Stop) → length fs ≤ 1000 → b ≡ 93 → fs ≡ less ++ frame.Collection parts ∷ []
    → IfOk r (λ x. (state_of x ≡ closed (opens_of less) (tree_of (Coll parts))) × (length x.frames ≤ length less)) → IfErr r (λ e. e ≡ stop.NoMemory)
    → Goes (step (state (opens_of fs) First) b) r
first_closed fs less parts b r few e f h k =
    goes _ (closed (opens_of less) (tree_of (Coll parts))) (length less) r
    (ap (step (state (opens_of fs) First)) e ∙ ap emptied (opens_pushed less fs (frame.Collection parts) f) ∙ ap (λ t. Some (closed (opens_of less) t)) (sym (whole_collection parts)))
    (omega (arith, few, longer fs less (frame.Collection parts) f)) h k

pub first_stuck : (fs less : List Frame) (f : Frame) (b : ℕ) → b ≡ 93 → fs ≡ less ++ f ∷ [] → emptied (open_of f ∷ opens_of less) ≡ None → step (state (opens_of fs) First) b ≡ None
first_stuck fs less f b e p h = ap (step (state (opens_of fs) First)) e ∙ ap emptied (opens_pushed less fs f p) ∙ h

-- ---- where a text ends

pub not_end : (r : Reader) (st : State) → state_of r ≡ st → (length r.frames ≡ 0 → ⊥) → (t : Tree) → st ≡ state [] (Behind t) → ⊥
not_end r st e n t f = n (sym (opens_few r.frames) ∙ ap depth (e ∙ f))

pub few_open : (r : Reader) → length r.frames ≤ 1000 → depth (state_of r) ≤ 1000
few_open r l = omega (arith, l, depth_frames r)

pub still_few : (fs same : List Frame) (r : Bool) → length fs ≤ 1000 → same ≡ fs → (IsTrue r ↔ (length same ≡ 1000)) → r ≡ false → length fs < 1000
still_few fs same r l e d f = below (length fs) l (λ n. failed r d f (ap length e ∙ n))
  where
    below : (n : ℕ) → n ≤ 1000 → (n ≡ 1000 → ⊥) → n < 1000
    below n l h = omega (arith, l, h)
