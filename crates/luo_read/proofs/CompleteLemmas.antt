-- The text of a state begins a text of a structure.
use Rattle.std.proofs.Common.{◌≡◌, ℕ, zero, suc, List, [], ◌∷◌, ◌++◌, Some, None, decimal, length, refl, sym, ap, ◌∙◌, arith, append_assoc, length-append}
use Rattle.std.proofs.lemmas.Fmt.{decimal_digit}
use Rattle.luo_model.specs.Tree.{Tree, Atom, Inj, Tup, Coll, none, more, from_list}
use Rattle.luo_struct.specs.Text.{structure_text}
use Rattle.luo_read.specs.Written.{IsWritten, Begins}
use Rattle.luo_read.specs.Nesting.{Open, Branch, Tuple, Collection, ended}
use Rattle.luo_read.specs.inner.Machine.{Stage, Begin, First, Weight, Label, Number, Behind, State, state}
use Rattle.luo_read.proofs.BackLemmas.{before, stage_text, text_of, AreOpen, IsSound, to_from, each_written, are_written, joined_more}

-- a tree in all that is open, which ends behind it, but that a tuple of one part gets another
abbrev filled : List Open → Tree → Tree
filled [] t = t
filled (Branch n ∷ os) t = filled os (Inj n t)
filled (Tuple [] ∷ os) t = filled os (Tup (more t (more (Atom 0 0) none)))
filled (Tuple (u ∷ us) ∷ os) t = filled os (Tup (from_list ((u ∷ us) ++ t ∷ [])))
filled (Collection ts ∷ os) t = filled os (Coll (from_list (ts ++ t ∷ [])))

abbrev rest_of : List Open → List ℕ
rest_of [] = []
rest_of (Branch n ∷ os) = rest_of os
rest_of (Tuple [] ∷ os) = 44 ∷ (97 ∷ (48 ∷ (41 ∷ rest_of os)))
rest_of (Tuple (u ∷ us) ∷ os) = 41 ∷ rest_of os
rest_of (Collection ts ∷ os) = 93 ∷ rest_of os

nil : (l : List ℕ) → l ++ [] ≡ l
nil [] = refl
nil (x ∷ l) = ap (λ m. x ∷ m) (nil l)

inside : (a b c d e f : List ℕ) → (a ++ (b ++ ((c ++ d) ++ e))) ++ f ≡ ((a ++ (b ++ c)) ++ d) ++ (e ++ f)
inside a b c d e f =
    append_assoc a (b ++ ((c ++ d) ++ e)) f ∙ ap (λ l. a ++ l) (append_assoc b ((c ++ d) ++ e) f ∙ ap (λ l. b ++ l) (append_assoc (c ++ d) e f ∙ append_assoc c d (e ++ f)))
    ∙ sym (append_assoc (a ++ (b ++ c)) d (e ++ f) ∙ append_assoc a (b ++ c) (d ++ (e ++ f)) ∙ ap (λ l. a ++ l) (append_assoc b c (d ++ (e ++ f))))

filled_text : (os : List Open) (t : Tree) → AreOpen os → IsWritten t → IsWritten (filled os t) × (structure_text (filled os t) ≡ (before os ++ structure_text t) ++ rest_of os)
filled_text [] t h w = (w, sym (nil (structure_text t)))
filled_text (Branch n ∷ os) t h w =
    let r = filled_text os (Inj n t) h.1 (h.0.0, h.0.1, w) in (
      r.0,
      r.1 ∙ ap (λ l. l ++ rest_of os) (sym (append_assoc (before os) (decimal n ++ 58 ∷ []) (structure_text t)
          ∙ ap (λ l. before os ++ l) (append_assoc (decimal n) (58 ∷ []) (structure_text t)))),
    )
filled_text (Tuple [] ∷ os) t h w =
    let r = filled_text os (Tup (more t (more (Atom 0 0) none))) h.1 (omega arith, (w, (omega arith, tt))) in (
      r.0,
      r.1 ∙ ap (λ l. (before os ++ 40 ∷ ((structure_text t ++ 44 ∷ (97 ∷ (l ++ []))) ++ 41 ∷ [])) ++ rest_of os) (decimal_digit 0 (omega arith))
          ∙ inside (before os) (40 ∷ []) (structure_text t) (44 ∷ (97 ∷ (48 ∷ []))) (41 ∷ []) (rest_of os)
          ∙ append_assoc (before os ++ 40 ∷ structure_text t) (44 ∷ (97 ∷ (48 ∷ []))) (41 ∷ rest_of os)
          ∙ ap (λ l. l ++ 44 ∷ (97 ∷ (48 ∷ (41 ∷ rest_of os)))) (sym (append_assoc (before os) (40 ∷ []) (structure_text t))),
    )
filled_text (Tuple (u ∷ us) ∷ os) t h w =
    let ts = (u ∷ us) ++ t ∷ [] in
    let r = filled_text os (Tup (from_list ts)) h.1 (omega (arith, ap length (to_from ts), length-append (u ∷ us) (t ∷ [])), are_written ts (each_written (u ∷ us) t h.0 w)) in
    (r.0, r.1 ∙ ap (λ l. (before os ++ 40 ∷ (l ++ 41 ∷ [])) ++ rest_of os) (joined_more (u ∷ us) t) ∙ inside (before os) (40 ∷ []) (ended (u ∷ us)) (structure_text t) (41 ∷ []) (rest_of os))
filled_text (Collection us ∷ os) t h w =
    let ts = us ++ t ∷ [] in
    let r = filled_text os (Coll (from_list ts)) h.1 (are_written ts (each_written us t h.0 w)) in
    (r.0, r.1 ∙ ap (λ l. (before os ++ 91 ∷ (l ++ 93 ∷ [])) ++ rest_of os) (joined_more us t) ∙ inside (before os) (91 ∷ []) (ended us) (structure_text t) (93 ∷ []) (rest_of os))

completed : (os : List Open) (at : Stage) (extra : List ℕ) (t : Tree) → AreOpen os → IsWritten t → stage_text at ++ extra ≡ structure_text t → Begins (before os ++ stage_text at)
completed os at extra t h w e =
    let r = filled_text os t h w in (
      extra ++ rest_of os,
      (
        filled os t,
        r.0,
        r.1 ∙ ap (λ l. (before os ++ l) ++ rest_of os) (sym e) ∙ ap (λ l. l ++ rest_of os) (sym (append_assoc (before os) (stage_text at) extra))
            ∙ append_assoc (before os ++ stage_text at) extra (rest_of os),
      ),
    )

zero_text : 97 ∷ (48 ∷ []) ≡ structure_text (Atom 0 0)
zero_text = ap (λ l. 97 ∷ l) (sym (decimal_digit 0 (omega arith)))

pub state_begins : (s : State) → IsSound s → Begins (text_of s)
state_begins (state os Begin) h = completed os Begin (97 ∷ (48 ∷ [])) (Atom 0 0) h.0 (omega arith) zero_text
state_begins (state os First) h = completed os First (97 ∷ (48 ∷ [])) (Atom 0 0) h.0 (omega arith) zero_text
state_begins (state os (Weight None)) h = completed os (Weight None) (48 ∷ []) (Atom 0 0) h.0 (omega arith) zero_text
state_begins (state os (Weight (Some n))) h = completed os (Weight (Some n)) [] (Atom n 0) h.0 h.1 (nil (97 ∷ decimal n))
state_begins (state os (Label None)) h = completed os (Label None) (49 ∷ []) (Atom 1 1) h.0 (omega arith) (ap (λ l. 35 ∷ l) (sym (decimal_digit 1 (omega arith))))
state_begins (state os (Label (Some zero))) h = absurd (omega (arith, h.1.0))
state_begins (state os (Label (Some (suc n)))) h = completed os (Label (Some (suc n))) [] (Atom 1 (suc n)) h.0 h.1.1 (nil (35 ∷ decimal (suc n)))
state_begins (state os (Number n)) h = completed os (Number n) (58 ∷ (97 ∷ (48 ∷ []))) (Inj n (Atom 0 0)) h.0 (h.1.0, h.1.1, omega arith) (ap (λ l. decimal n ++ 58 ∷ l) zero_text)
state_begins (state os (Behind t)) h = completed os (Behind t) [] t h.0 h.1 (nil (structure_text t))
