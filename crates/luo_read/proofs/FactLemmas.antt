-- Short texts, read byte by byte.
use Rattle.std.proofs.Common.{◌≡◌, ℕ, ◌≤◌, ◌<◌, List, [], ◌∷◌, ◌++◌, Some, None, codes, decimal, length, take, get_or, refl, ap, arith, length-append}
use Rattle.std.proofs.lemmas.Fmt.{decimal_digit}
use Rattle.std.proofs.lemmas.List.{length-take-le}
use Rattle.luo_model.specs.Tree.{Tree, Atom, Inj, Tup, Coll, none, more}
use Rattle.luo_read.specs.declared.reader.Stop.TheVariants as stop
use Rattle.luo_read.specs.Written.{IsUnreadable}
use Rattle.luo_read.specs.Nesting.{Open, Branch, Tuple, Collection, open_text}
use Rattle.luo_read.specs.Facts.{TextsStop, TextsNest}
use Rattle.luo_read.specs.inner.Machine.{Stage, Begin, Weight, Label, Behind, State, state, run, step, settled}
use Rattle.luo_read.specs.inner.Readers.{depth}
use Rattle.luo_read.proofs.BackLemmas.{before, stage_text, text_of, read_back}
use Rattle.luo_read.proofs.ReadLemmas.{WithinTo, stops_at, ends_unread}

before_long : (os : List Open) → length os ≤ length (before os)
before_long [] = omega arith
before_long (Branch n ∷ os) = omega (arith, before_long os, length-append (before os) (decimal n ++ 58 ∷ []), length-append (decimal n) (58 ∷ []))
before_long (Tuple ts ∷ os) = omega (arith, before_long os, length-append (before os) (open_text (Tuple ts)))
before_long (Collection ts ∷ os) = omega (arith, before_long os, length-append (before os) (open_text (Collection ts)))

state_long : (s : State) → depth s ≤ length (text_of s)
state_long (state os at) = omega (arith, before_long os, length-append (before os) (stage_text at))

within_short : (text : List ℕ) (n : ℕ) → n ≤ length text → length text ≤ 1000 → WithinTo text n
within_short text n h l k j s e = omega (arith, h, l, j, state_long s, ap length (read_back (take k text) s e).1, length-take-le k text (omega (arith, h, j)))

stops : (text : List ℕ) (at b : ℕ) (s : State) → at < length text → length text ≤ 1000 → b ≡ get_or text at 0 → run (state [] Begin) (take at text) ≡ Some s → depth s ≤ 1000 → step s b ≡ None → IsUnreadable text at
stops text at b s h l byte ran few e = (stops_at text at b s h byte ran (within_short text at (omega (arith, h)) l) few stop.Unreadable e).0

ends : (text : List ℕ) (s : State) → length text ≤ 1000 → run (state [] Begin) text ≡ Some s → ((t : Tree) → settled s ≡ state [] (Behind t) → ⊥) → IsUnreadable text (length text)
ends text s l ran f = (ends_unread text s ran (within_short text (length text) (omega arith) l) stop.Unreadable f).0

open_still : (os : List Open) (at : Stage) (o : Open) (t : Tree) → state (o ∷ os) at ≡ state [] (Behind t) → ⊥
open_still os at o t e = let d : depth (state (o ∷ os) at) ≡ depth (state [] (Behind t)) = ap depth e in omega (arith, d)

begins_still : (t : Tree) → state [] Begin ≡ state [] (Behind t) → ⊥
begins_still t e = cc

pub texts_stop : TextsStop
texts_stop = (
  stops (codes "(a1)") 3 41 (state (Tuple [] ∷ []) (Weight (Some 1))) (omega arith) (omega arith) refl refl (omega arith) refl,
  stops (codes "a007") 2 48 (state [] (Weight (Some 0))) (omega arith) (omega arith) refl refl (omega arith) refl,
  stops (codes "#0") 1 48 (state [] (Label None)) (omega arith) (omega arith) refl refl (omega arith) refl,
  stops (codes "0:a1") 0 48 (state [] Begin) (omega arith) (omega arith) refl refl (omega arith) refl,
  stops (codes "a1234567") 7 55 (state [] (Weight (Some 123456))) (omega arith) (omega arith) refl refl (omega arith) refl,
  ends (codes "(a1,") (state (Tuple (Atom 1 0 ∷ []) ∷ []) Begin) (omega arith) refl (λ t e. open_still [] Begin (Tuple (Atom 1 0 ∷ [])) t e),
  ends (codes "") (state [] Begin) (omega arith) refl begins_still,
)

one : decimal 1 ≡ 49 ∷ []
one = decimal_digit 1 (omega arith)

two : decimal 2 ≡ 50 ∷ []
two = decimal_digit 2 (omega arith)

three : decimal 3 ≡ 51 ∷ []
three = decimal_digit 3 (omega arith)

pub texts_nest : TextsNest
texts_nest = (
  (
    Inj 1 (Tup (more (Atom 2 0) (more (Atom 1 3) none))),
    (omega arith, omega arith, (omega arith, (omega arith, (omega arith, tt)))),
    λ i. one i ++ 58 ∷ (40 ∷ (((97 ∷ two i) ++ (44 ∷ ((35 ∷ three i) ++ []))) ++ 41 ∷ [])),
  ),
  (
    Collection [] ∷ (Tuple (Atom 1 0 ∷ []) ∷ (Branch 2 ∷ [])),
    refl,
    (tt, ((omega arith, tt), ((omega arith, omega arith), tt))),
    λ i. 91 ∷ (40 ∷ (((97 ∷ one i) ++ 44 ∷ []) ++ ((two i ++ 58 ∷ []) ++ []))),
  ),
  (
    Tuple (Atom 1 0 ∷ (Coll none ∷ [])) ∷ (Collection [] ∷ []),
    refl,
    ((omega arith, (tt, tt)), (tt, refl)),
    λ i. 40 ∷ (((97 ∷ one i) ++ (44 ∷ (91 ∷ (93 ∷ (44 ∷ []))))) ++ (91 ∷ [])),
  ),
)
