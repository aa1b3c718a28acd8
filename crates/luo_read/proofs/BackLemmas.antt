-- The text of a state, by which it was read.
use Rattle.std.proofs.Common.{◌≡◌, ℕ, zero, suc, ◌+◌, ◌-◌, ◌*◌, ◌/◌, ◌%◌, ◌≤◌, ◌<◌, ◌^◌, List, [], ◌∷◌, ◌++◌, Option, Some, None, if◌then◌else◌, Bool, true, false, nat_eq, nat_le, decimal, length, refl, sym, ap, subst, ◌∙◌, arith, append_assoc, length-append}
use Rattle.std.proofs.lemmas.Fmt.{decimal_digit, decimal_step}
use Rattle.std.proofs.lemmas.List.{append-nil}
use Rattle.luo_model.specs.Tree.{Tree, Atom, Inj, Tup, Coll, none, to_list, from_list}
use Rattle.luo_struct.specs.Text.{structure_text, joined, followed}
use Rattle.luo_read.specs.Written.{IsWritten, AreWritten}
use Rattle.luo_read.specs.Nesting.{Open, Branch, Tuple, Collection, ended, open_text, EachWritten, IsOpen}
use Rattle.luo_read.specs.inner.Machine.{Stage, Begin, First, Weight, Label, Number, Behind, State, state, is_digit, longer_number, longer_count, closed, begun, passed, passed_from, tuple_closed, step, run, run_from, weighed, labelled, not_zero, settled, numbered, emptied}
use Rattle.luo_read.proofs.RunLemmas.{stuck}

-- the text before a place, by what is open there, the innermost first
abbrev pub before : List Open → List ℕ
before [] = []
before (o ∷ os) = before os ++ open_text o

abbrev pub stage_text : Stage → List ℕ
stage_text Begin = []
stage_text First = []
stage_text (Weight None) = 97 ∷ []
stage_text (Weight (Some n)) = 97 ∷ decimal n
stage_text (Label None) = 35 ∷ []
stage_text (Label (Some n)) = 35 ∷ decimal n
stage_text (Number n) = decimal n
stage_text (Behind t) = structure_text t

abbrev pub text_of : State → List ℕ
text_of (state os at) = before os ++ stage_text at

abbrev pub AreOpen : List Open → Type 0
AreOpen [] = Unit {0}
AreOpen (o ∷ os) = IsOpen o × AreOpen os

abbrev pub IsFirst : List Open → Type 0
IsFirst (Collection ts ∷ os) = ts ≡ []
IsFirst _ = ⊥

abbrev pub IsStage : List Open → Stage → Type 0
IsStage os Begin = Unit {0}
IsStage os First = IsFirst os
IsStage os (Weight None) = Unit {0}
IsStage os (Weight (Some n)) = n ≤ 999999
IsStage os (Label None) = Unit {0}
IsStage os (Label (Some n)) = (1 ≤ n) × (n ≤ 999999)
IsStage os (Number n) = (1 ≤ n) × (n ≤ 999999)
IsStage os (Behind t) = IsWritten t

abbrev pub IsSound : State → Type 0
IsSound (state os at) = AreOpen os × IsStage os at

-- a state that may be, with this text
abbrev pub IsBack : List ℕ → State → Type 0
IsBack text s = IsSound s × (text_of s ≡ text)

-- ---- lists

three : (a b c d : List ℕ) → ((a ++ b) ++ c) ++ d ≡ a ++ (b ++ (c ++ d))
three a b c d = append_assoc (a ++ b) c d ∙ append_assoc a b (c ++ d)

pub to_from : (ts : List Tree) → to_list (from_list ts) ≡ ts
to_from [] = refl
to_from (t ∷ ts) = ap (λ l. t ∷ l) (to_from ts)

pub each_written : (ts : List Tree) (t : Tree) → EachWritten ts → IsWritten t → EachWritten (ts ++ t ∷ [])
each_written [] t w v = (v, tt)
each_written (u ∷ us) t w v = (w.0, each_written us t w.1 v)

pub are_written : (ts : List Tree) → EachWritten ts → AreWritten (from_list ts)
are_written [] w = tt
are_written (t ∷ ts) w = (w.0, are_written ts w.1)

pub ended_more : (ts : List Tree) (t : Tree) → ended (ts ++ t ∷ []) ≡ ended ts ++ (structure_text t ++ 44 ∷ [])
ended_more [] t = refl
ended_more (u ∷ us) t = ap (λ l. structure_text u ++ 44 ∷ l) (ended_more us t) ∙ sym (append_assoc (structure_text u) (44 ∷ ended us) (structure_text t ++ 44 ∷ []))

followed_more : (ts : List Tree) (t : Tree) → followed (from_list (ts ++ t ∷ [])) ≡ 44 ∷ (ended ts ++ structure_text t)
followed_more [] t = ap (λ l. 44 ∷ l) (append-nil (structure_text t))
followed_more (u ∷ us) t = ap (λ l. 44 ∷ (structure_text u ++ l)) (followed_more us t) ∙ ap (λ l. 44 ∷ l) (sym (append_assoc (structure_text u) (44 ∷ ended us) (structure_text t)))

pub joined_more : (ts : List Tree) (t : Tree) → joined (from_list (ts ++ t ∷ [])) ≡ ended ts ++ structure_text t
joined_more [] t = append-nil (structure_text t)
joined_more (u ∷ us) t = ap (λ l. structure_text u ++ l) (followed_more us t) ∙ sym (append_assoc (structure_text u) (44 ∷ ended us) (structure_text t))

-- ---- behind a structure

pub closed_back : (os : List Open) (t : Tree) → AreOpen os → IsWritten t → IsBack (before os ++ structure_text t) (closed os t)
closed_back [] t h w = ((tt, w), refl)
closed_back (Branch n ∷ os) t h w =
    let r = closed_back os (Inj n t) h.1 (h.0.0, h.0.1, w) in
    (r.0, r.1 ∙ sym (append_assoc (before os) (decimal n ++ 58 ∷ []) (structure_text t) ∙ ap (λ l. before os ++ l) (append_assoc (decimal n) (58 ∷ []) (structure_text t))))
closed_back (Tuple ts ∷ os) t h w = ((h, w), refl)
closed_back (Collection ts ∷ os) t h w = ((h, w), refl)

module _ (P : State → Type 0) where
  reached : (x s : State) → Some x ≡ Some s → P x → P s
  reached x s e p = subst P (same x s e) p
    where
      same : (x s : State) → Some x ≡ Some s → x ≡ s
      same x s e = cc

  chosen : (c : Bool) (x : State) (o : Option State) (s : State) → (if c then Some x else o) ≡ Some s → (c ≡ true → P x) → (c ≡ false → o ≡ Some s → P s) → P s
  chosen true x o s e f g = reached x s e (f refl)
  chosen false x o s e f g = g refl e

  either_way : (c : Bool) (q o : Option State) (s : State) → (if c then q else o) ≡ Some s → (c ≡ true → q ≡ Some s → P s) → (c ≡ false → o ≡ Some s → P s) → P s
  either_way true q o s e f g = f refl e
  either_way false q o s e f g = g refl e

  nowhere : (s : State) → None ≡ Some s → P s
  nowhere s e = absurd (let h : None ≡ Some s = e in cc)

same_byte : (a b : ℕ) → nat_eq a b ≡ true → a ≡ b
same_byte a b e = grind arith

module _ (os : List Open) (t : Tree) (h : AreOpen os) (w : IsWritten t) where
  tuple_back : (ts : List Tree) → EachWritten ts → 1 ≤ length ts → IsBack (((before os ++ 40 ∷ ended ts) ++ structure_text t) ++ 41 ∷ []) (closed os (Tup (from_list (ts ++ t ∷ []))))
  tuple_back ts v l =
      let r = closed_back os (Tup (from_list (ts ++ t ∷ []))) h
      (omega (arith, l, ap length (to_from (ts ++ t ∷ [])), length-append ts (t ∷ [])), are_written (ts ++ t ∷ []) (each_written ts t v w)) in (
        r.0,
        r.1 ∙ ap (λ l. before os ++ 40 ∷ (l ++ 41 ∷ [])) (joined_more ts t) ∙ ap (λ l. before os ++ 40 ∷ l) (append_assoc (ended ts) (structure_text t) (41 ∷ []))
            ∙ sym (three (before os) (40 ∷ ended ts) (structure_text t) (41 ∷ [])),
      )

  collection_back : (ts : List Tree) → EachWritten ts → IsBack (((before os ++ 91 ∷ ended ts) ++ structure_text t) ++ 93 ∷ []) (closed os (Coll (from_list (ts ++ t ∷ []))))
  collection_back ts v =
      let r = closed_back os (Coll (from_list (ts ++ t ∷ []))) h (are_written (ts ++ t ∷ []) (each_written ts t v w)) in (
        r.0,
        r.1 ∙ ap (λ l. before os ++ 91 ∷ (l ++ 93 ∷ [])) (joined_more ts t) ∙ ap (λ l. before os ++ 91 ∷ l) (append_assoc (ended ts) (structure_text t) (93 ∷ []))
            ∙ sym (three (before os) (91 ∷ ended ts) (structure_text t) (93 ∷ [])),
      )

  comma_back : (bracket : ℕ) (ts : List Tree) → (before os ++ bracket ∷ ended (ts ++ t ∷ [])) ++ [] ≡ ((before os ++ bracket ∷ ended ts) ++ structure_text t) ++ 44 ∷ []
  comma_back bracket ts = append-nil (before os ++ bracket ∷ ended (ts ++ t ∷ [])) ∙ ap (λ l. before os ++ bracket ∷ l) (ended_more ts t)
      ∙ sym (three (before os) (bracket ∷ ended ts) (structure_text t) (44 ∷ []))

  tuple_closed_back : (ts : List Tree) (s : State) → EachWritten ts → tuple_closed os ts t ≡ Some s → IsBack (((before os ++ 40 ∷ ended ts) ++ structure_text t) ++ 41 ∷ []) s
  tuple_closed_back [] s v e = nowhere (IsBack (((before os ++ 40 ∷ ended []) ++ structure_text t) ++ 41 ∷ [])) s e
  tuple_closed_back (u ∷ us) s v e = reached (IsBack (((before os ++ 40 ∷ ended (u ∷ us)) ++ structure_text t) ++ 41 ∷ [])) (closed os (Tup (from_list ((u ∷ us) ++ t ∷ [])))) s e
      (tuple_back (u ∷ us) v (omega arith))

pub passed_back : (os : List Open) (t : Tree) (b : ℕ) (s : State) → AreOpen os → IsWritten t → passed os t b ≡ Some s → IsBack ((before os ++ structure_text t) ++ b ∷ []) s
passed_back [] t b s h w e = nowhere (IsBack (structure_text t ++ b ∷ [])) s e
passed_back (Branch n ∷ os) t b s h w e = nowhere (IsBack (((before os ++ (decimal n ++ 58 ∷ [])) ++ structure_text t) ++ b ∷ [])) s e
passed_back (Tuple ts ∷ os) t b s h w e =
    let text : ℕ → List ℕ = λ b. ((before os ++ 40 ∷ ended ts) ++ structure_text t) ++ b ∷ [] in
    chosen (IsBack (text b)) (nat_eq b 44) (state (Tuple (ts ++ t ∷ []) ∷ os) Begin) (if nat_eq b 41 then tuple_closed os ts t else None) s e
    (λ f. (((each_written ts t h.0 w, h.1), tt), comma_back os t h.1 w 40 ts ∙ ap text (sym (same_byte b 44 f))))
    (λ f g. either_way (IsBack (text b)) (nat_eq b 41) (tuple_closed os ts t) None s g
    (λ k q. subst (λ c. IsBack (text c) s) (sym (same_byte b 41 k)) (tuple_closed_back os t h.1 w ts s h.0 q)) (λ k q. nowhere (IsBack (text b)) s q))
passed_back (Collection ts ∷ os) t b s h w e =
    let text : ℕ → List ℕ = λ b. ((before os ++ 91 ∷ ended ts) ++ structure_text t) ++ b ∷ [] in
    chosen (IsBack (text b)) (nat_eq b 44) (state (Collection (ts ++ t ∷ []) ∷ os) Begin) (if nat_eq b 93 then Some (closed os (Coll (from_list (ts ++ t ∷ [])))) else None) s e
    (λ f. (((each_written ts t h.0 w, h.1), tt), comma_back os t h.1 w 91 ts ∙ ap text (sym (same_byte b 44 f))))
    (λ f g. chosen (IsBack (text b)) (nat_eq b 93) (closed os (Coll (from_list (ts ++ t ∷ [])))) None s g
    (λ k. subst (λ c. IsBack (text c) (closed os (Coll (from_list (ts ++ t ∷ []))))) (sym (same_byte b 93 k)) (collection_back os t h.1 w ts h.0)) (λ k q. nowhere (IsBack (text b)) s q))

pub passed_from_back : (x : State) (b : ℕ) (s : State) → IsSound x → passed_from x b ≡ Some s → IsBack (text_of x ++ b ∷ []) s
passed_from_back (state os Begin) b s h e = nowhere (IsBack (text_of (state os Begin) ++ b ∷ [])) s e
passed_from_back (state os First) b s h e = nowhere (IsBack (text_of (state os First) ++ b ∷ [])) s e
passed_from_back (state os (Weight o)) b s h e = nowhere (IsBack (text_of (state os (Weight o)) ++ b ∷ [])) s e
passed_from_back (state os (Label o)) b s h e = nowhere (IsBack (text_of (state os (Label o)) ++ b ∷ [])) s e
passed_from_back (state os (Number n)) b s h e = nowhere (IsBack (text_of (state os (Number n)) ++ b ∷ [])) s e
passed_from_back (state os (Behind t)) b s h e = passed_back os t b s h.0 h.1 e

-- ---- numbers

abbrev digits : Option ℕ → List ℕ
digits None = []
digits (Some n) = decimal n

abbrev UpTo : Option ℕ → Type 0
UpTo None = Unit {0}
UpTo (Some n) = n ≤ 999999

digit_low : (b : ℕ) → is_digit b ≡ true → (48 ≤ b) × (b ≤ 57)
digit_low b e = (low b e, high b e)
  where
    low : (b : ℕ) → is_digit b ≡ true → 48 ≤ b
    low b e = grind arith

    high : (b : ℕ) → is_digit b ≡ true → b ≤ 57
    high b e = grind arith

if_some : (c : Bool) (k n : ℕ) → (if c then Some k else None) ≡ Some n → (c ≡ true) × (k ≡ n)
if_some true k n e = (refl, let h : Some k ≡ Some n = e in cc)
if_some false k n e = absurd (let h : None ≡ Some n = e in cc)

if_if_some : (c d : Bool) (k n : ℕ) → (if c then (if d then Some k else None) else None) ≡ Some n → (c ≡ true) × (d ≡ true) × (k ≡ n)
if_if_some true d k n e = let h = if_some d k n e in (refl, h.0, h.1)
if_if_some false d k n e = absurd (let h : None ≡ Some n = e in cc)

le_low : (a b : ℕ) → nat_le a b ≡ true → a ≤ b
le_low a b e = grind arith

pub longer_back : (o : Option ℕ) (b n : ℕ) → longer_number o b ≡ Some n → (n ≤ 999999) × (decimal n ≡ digits o ++ b ∷ [])
longer_back None b n e =
    let h = if_some (is_digit b) (b - 48) n e in
    let l = digit_low b h.0 in
    (omega (arith, l.0, l.1, h.1), decimal_digit n (omega (arith, l.0, l.1, h.1)) ∙ ap (λ d. d ∷ []) (omega (arith, l.0, l.1, h.1)))
longer_back (Some zero) b n e = absurd (let h : None ≡ Some n = e in cc)
longer_back (Some (suc m)) b n e =
    let h = if_if_some (is_digit b) (nat_le (suc m) 99999) (10 * suc m + (b - 48)) n e in
    let l = digit_low b h.0 in
    let k = le_low (suc m) 99999 h.1 in
    (small m b n l.0 l.1 k h.2, decimal_step n (large m b n l.0 l.1 k h.2) (less m b n l.0 l.1 k h.2) ∙ (λ i. decimal (front m b n l.0 l.1 k h.2 i) ++ (end m b n l.0 l.1 k h.2 i ∷ [])))
  where
    small : (m b n : ℕ) → 48 ≤ b → b ≤ 57 → suc m ≤ 99999 → 10 * suc m + (b - 48) ≡ n → n ≤ 999999
    small m b n l h k e = omega arith

    large : (m b n : ℕ) → 48 ≤ b → b ≤ 57 → suc m ≤ 99999 → 10 * suc m + (b - 48) ≡ n → 10 ≤ n
    large m b n l h k e = omega arith

    less : (m b n : ℕ) → 48 ≤ b → b ≤ 57 → suc m ≤ 99999 → 10 * suc m + (b - 48) ≡ n → n < 2 ^ 64
    less m b n l h k e = omega arith

    front : (m b n : ℕ) → 48 ≤ b → b ≤ 57 → suc m ≤ 99999 → 10 * suc m + (b - 48) ≡ n → n / 10 ≡ suc m
    front m b n l h k e = omega arith

    end : (m b n : ℕ) → 48 ≤ b → b ≤ 57 → suc m ≤ 99999 → 10 * suc m + (b - 48) ≡ n → 48 + n % 10 ≡ b
    end m b n l h k e = omega arith

not_zero_back : (o : Option ℕ) (n : ℕ) → not_zero o ≡ Some n → (1 ≤ n) × (o ≡ Some n)
not_zero_back None n e = absurd (let h : None ≡ Some n = e in cc)
not_zero_back (Some zero) n e = absurd (let h : None ≡ Some n = e in cc)
not_zero_back (Some (suc k)) n e = (positive k n e, e)
  where
    positive : (k n : ℕ) → Some (suc k) ≡ Some n → 1 ≤ n
    positive k n e = let h : suc k ≡ n = cc in omega (arith, h)

pub count_back : (o : Option ℕ) (b n : ℕ) → longer_count o b ≡ Some n → (1 ≤ n) × (n ≤ 999999) × (decimal n ≡ digits o ++ b ∷ [])
count_back o b n e =
    let h = not_zero_back (longer_number o b) n e in
    let r = longer_back o b n h.1 in
    (h.0, r.0, r.1)

-- ---- the first byte of a structure

module _ (os : List Open) (h : AreOpen os) where
  numbered_back : (front : List ℕ) (o : Option ℕ) (b : ℕ) (s : State) → numbered os o ≡ Some s → ((n : ℕ) → o ≡ Some n → (1 ≤ n) × (n ≤ 999999) × (decimal n ≡ front ++ b ∷ []))
      → IsBack (before os ++ (front ++ b ∷ [])) s
  numbered_back front None b s e k = nowhere (IsBack (before os ++ (front ++ b ∷ []))) s e
  numbered_back front (Some n) b s e k =
      let r = k n refl in
      reached (IsBack (before os ++ (front ++ b ∷ []))) (state os (Number n)) s e ((h, (r.0, r.1)), ap (λ l. before os ++ l) r.2)

  pub begun_back : (b : ℕ) (s : State) → begun os b ≡ Some s → IsBack (before os ++ b ∷ []) s
  begun_back b s e =
      let P : State → Type 0 = IsBack (before os ++ b ∷ []) in
      let byte : (x : State) (k : ℕ) → nat_eq b k ≡ true → IsBack (before os ++ k ∷ []) x
      → IsBack (before os ++ b ∷ []) x = λ x k f r. subst (λ c. IsBack (before os ++ c ∷ []) x) (sym (same_byte b k f)) r in
      chosen P (nat_eq b 40) (state (Tuple [] ∷ os) Begin) _ s e
      (λ f. byte (state (Tuple [] ∷ os) Begin) 40 f (((tt, h), tt), append-nil (before os ++ 40 ∷ [])))
      (λ f e1. chosen P (nat_eq b 91) (state (Collection [] ∷ os) First) _ s e1
      (λ f. byte (state (Collection [] ∷ os) First) 91 f (((tt, h), refl), append-nil (before os ++ 91 ∷ [])))
      (λ f e2. chosen P (nat_eq b 97) (state os (Weight None)) _ s e2
      (λ f. byte (state os (Weight None)) 97 f ((h, tt), refl))
      (λ f e3. chosen P (nat_eq b 35) (state os (Label None)) _ s e3
      (λ f. byte (state os (Label None)) 35 f ((h, tt), refl))
      (λ f e4. numbered_back [] (longer_count None b) b s e4 (λ n q. count_back None b n q)))))

-- ---- any byte

back_at : (s : State) (x y : List ℕ) → x ≡ y → IsBack x s → IsBack y s
back_at s x y e r = subst (λ l. IsBack l s) e r

emptied_back : (os : List Open) (s : State) → AreOpen os → IsFirst os → emptied os ≡ Some s → IsBack ((before os ++ []) ++ 93 ∷ []) s
emptied_back [] s h f e = absurd f
emptied_back (Branch n ∷ os) s h f e = absurd f
emptied_back (Tuple ts ∷ os) s h f e = absurd f
emptied_back (Collection [] ∷ os) s h f e =
    let r = closed_back os (Coll none) h.1 tt in
    reached (IsBack (((before os ++ 91 ∷ []) ++ []) ++ 93 ∷ [])) (closed os (Coll none)) s e
    (r.0, r.1 ∙ sym (ap (λ l. l ++ 93 ∷ []) (append-nil (before os ++ 91 ∷ [])) ∙ append_assoc (before os) (91 ∷ []) (93 ∷ [])))
emptied_back (Collection (t ∷ ts) ∷ os) s h f e = absurd (let k : t ∷ ts ≡ [] = f in cc)

module _ (os : List Open) (b : ℕ) (s : State) (h : AreOpen os) where
  weighed_back : (o n : Option ℕ) → IsStage os (Weight o) → longer_number o b ≡ n → weighed os o b n ≡ Some s → IsBack (text_of (state os (Weight o)) ++ b ∷ []) s
  weighed_back None None v f e = nowhere (IsBack (text_of (state os (Weight None)) ++ b ∷ [])) s e
  weighed_back (Some w) None v f e =
      let r = closed_back os (Atom w 0) h v in
      back_at s _ _ (ap (λ l. l ++ b ∷ []) r.1) (passed_from_back (closed os (Atom w 0)) b s r.0 e)
  weighed_back None (Some n) v f e =
      let r = longer_back None b n f in
      reached (IsBack (text_of (state os (Weight None)) ++ b ∷ [])) (state os (Weight (Some n))) s e
      ((h, r.0), ap (λ l. before os ++ 97 ∷ l) r.1 ∙ sym (append_assoc (before os) (97 ∷ []) (b ∷ [])))
  weighed_back (Some w) (Some n) v f e =
      let r = longer_back (Some w) b n f in
      reached (IsBack (text_of (state os (Weight (Some w))) ++ b ∷ [])) (state os (Weight (Some n))) s e
      ((h, r.0), ap (λ l. before os ++ 97 ∷ l) r.1 ∙ sym (append_assoc (before os) (97 ∷ decimal w) (b ∷ [])))

  labelled_back : (o n : Option ℕ) → IsStage os (Label o) → longer_count o b ≡ n → labelled os o b n ≡ Some s → IsBack (text_of (state os (Label o)) ++ b ∷ []) s
  labelled_back None None v f e = nowhere (IsBack (text_of (state os (Label None)) ++ b ∷ [])) s e
  labelled_back (Some zero) None v f e = absurd (omega (arith, v.0))
  labelled_back (Some (suc w)) None v f e =
      let r = closed_back os (Atom 1 (suc w)) h v.1 in
      back_at s _ _ (ap (λ l. l ++ b ∷ []) r.1) (passed_from_back (closed os (Atom 1 (suc w))) b s r.0 e)
  labelled_back None (Some n) v f e =
      let r = count_back None b n f in
      reached (IsBack (text_of (state os (Label None)) ++ b ∷ [])) (state os (Label (Some n))) s e
      ((h, (r.0, r.1)), ap (λ l. before os ++ 35 ∷ l) r.2 ∙ sym (append_assoc (before os) (35 ∷ []) (b ∷ [])))
  labelled_back (Some w) (Some n) v f e =
      let r = count_back (Some w) b n f in
      reached (IsBack (text_of (state os (Label (Some w))) ++ b ∷ [])) (state os (Label (Some n))) s e
      ((h, (r.0, r.1)), ap (λ l. before os ++ 35 ∷ l) r.2 ∙ sym (append_assoc (before os) (35 ∷ decimal w) (b ∷ [])))

pub step_back : (x : State) (b : ℕ) (s : State) → IsSound x → step x b ≡ Some s → IsBack (text_of x ++ b ∷ []) s
step_back (state os Begin) b s h e = back_at s _ _ (ap (λ l. l ++ b ∷ []) (sym (append-nil (before os)))) (begun_back os h.0 b s e)
step_back (state os First) b s h e =
    either_way (IsBack ((before os ++ []) ++ b ∷ [])) (nat_eq b 93) (emptied os) (begun os b) s e
    (λ f g. subst (λ c. IsBack ((before os ++ []) ++ c ∷ []) s) (sym (same_byte b 93 f)) (emptied_back os s h.0 h.1 g))
    (λ f g. back_at s _ _ (ap (λ l. l ++ b ∷ []) (sym (append-nil (before os)))) (begun_back os h.0 b s g))
step_back (state os (Weight o)) b s h e = weighed_back os b s h.0 o (longer_number o b) h.1 refl e
step_back (state os (Label o)) b s h e = labelled_back os b s h.0 o (longer_count o b) h.1 refl e
step_back (state os (Number n)) b s h e =
    chosen (IsBack ((before os ++ decimal n) ++ b ∷ [])) (nat_eq b 58) (state (Branch n ∷ os) Begin) (numbered os (longer_number (Some n) b)) s e
    (λ f. (
      (((h.1.0, h.1.1), h.0), tt),
      append-nil (before os ++ (decimal n ++ 58 ∷ [])) ∙ sym (append_assoc (before os) (decimal n) (58 ∷ []))
          ∙ ap (λ c. (before os ++ decimal n) ++ c ∷ []) (sym (same_byte b 58 f)),
    ))
    (λ f g. back_at s _ _ (sym (append_assoc (before os) (decimal n) (b ∷ [])))
    (numbered_back os h.0 (decimal n) (longer_number (Some n) b) b s g (λ m q. let r = longer_back (Some n) b m q in (positive n b m h.1.0 q, r.0, r.1))))
  where
    positive : (n b m : ℕ) → 1 ≤ n → longer_number (Some n) b ≡ Some m → 1 ≤ m
    positive zero b m l q = absurd (omega arith)
    positive (suc n) b m l q = let r = if_if_some (is_digit b) (nat_le (suc n) 99999) (10 * suc n + (b - 48)) m q in omega (arith, r.2)
step_back (state os (Behind t)) b s h e = passed_back os t b s h.0 h.1 e

run_on : (b : ℕ) (bs : List ℕ) (x s : State) (o : Option State) → IsSound x → step x b ≡ o → run_from o bs ≡ Some s
    → ((y : State) → IsSound y → run y bs ≡ Some s → IsBack (text_of y ++ bs) s) → IsBack (text_of x ++ b ∷ bs) s
run_on b bs x s None h f g next = nowhere (IsBack (text_of x ++ b ∷ bs)) s (sym (stuck bs) ∙ g)
run_on b bs x s (Some y) h f g next =
    let r = step_back x b y h f in
    back_at s _ _ (ap (λ l. l ++ bs) r.1 ∙ append_assoc (text_of x) (b ∷ []) bs) (next y r.0 g)

pub run_back : (bs : List ℕ) (x s : State) → IsSound x → run x bs ≡ Some s → IsBack (text_of x ++ bs) s
run_back [] x s h e = reached (IsBack (text_of x ++ [])) x s e (h, sym (append-nil (text_of x)))
run_back (b ∷ bs) x s h e = run_on b bs x s (step x b) h refl e (λ y i f. run_back bs y s i f)

-- what is read has its text
pub read_back : (bs : List ℕ) (s : State) → run (state [] Begin) bs ≡ Some s → IsBack bs s
read_back bs s e = run_back bs (state [] Begin) s (tt, tt) e

pub settled_back : (x : State) → IsSound x → IsBack (text_of x) (settled x)
settled_back (state os Begin) h = (h, refl)
settled_back (state os First) h = (h, refl)
settled_back (state os (Weight None)) h = (h, refl)
settled_back (state os (Weight (Some w))) h = closed_back os (Atom w 0) h.0 h.1
settled_back (state os (Label None)) h = (h, refl)
settled_back (state os (Label (Some zero))) h = absurd (omega (arith, h.1.0))
settled_back (state os (Label (Some (suc l)))) h = closed_back os (Atom 1 (suc l)) h.0 h.1.1
settled_back (state os (Number n)) h = (h, refl)
settled_back (state os (Behind t)) h = (h, refl)
