-- Where the reader stands behind the text of a structure.
use Rattle.std.proofs.Common.{◌≡◌, ℕ, zero, suc, ◌+◌, ◌-◌, ◌*◌, ◌/◌, ◌%◌, ◌≤◌, ◌<◌, List, [], ◌∷◌, ◌++◌, Option, Some, None, option_and_then, if◌then◌else◌, ◌⊎◌, ⊎_elim, Bool, true, false, nat_eq, nat_le, decimal, refl, sym, ap, subst, ◌∙◌, arith, append_assoc}
use Rattle.std.proofs.lemmas.Fmt.{decimal_digit, decimal_step}
use Rattle.luo_model.specs.Tree.{Tree, Trees, Atom, Inj, Tup, Coll, none, more, to_list, from_list}
use Rattle.luo_struct.specs.Text.{structure_text, followed}
use Rattle.luo_read.specs.Written.{IsWritten, AreWritten, Begins}
use Rattle.luo_read.specs.Nesting.{Open, Branch, Tuple, Collection}
use Rattle.luo_read.specs.inner.Machine.{Stage, Begin, First, Weight, Label, Number, Behind, State, state, is_digit, longer_number, longer_count, closed, begun, passed_from, step, run, run_from, weighed, labelled, not_zero, settled, numbered, emptied, normal, all_normal}

pub run_append : (o : Option State) (xs ys : List ℕ) → run_from o (xs ++ ys) ≡ run_from (run_from o xs) ys
run_append o [] ys = refl
run_append o (b ∷ xs) ys = run_append (option_and_then (λ s. step s b) o) xs ys

digit_is : (d : ℕ) → d < 10 → is_digit (48 + d) ≡ true
digit_is d h = grind arith

closed_steps : (os : List Open) (t : Tree) (b : ℕ) → step (closed os t) b ≡ passed_from (closed os t) b
closed_steps [] t b = refl
closed_steps (Branch number ∷ os) t b = closed_steps os (Inj number t) b
closed_steps (Tuple ts ∷ os) t b = refl
closed_steps (Collection ts ∷ os) t b = refl

-- a number's text is read digit by digit
module _ (os : List Open) (start : Stage) (after : ℕ → Stage) (least : ℕ) (low : least ≤ 1)
    (first : (d : ℕ) → least ≤ d → d < 10 → step (state os start) (48 + d) ≡ Some (state os (after d)))
    (next : (n d : ℕ) → 1 ≤ n → n ≤ 99999 → d < 10 → step (state os (after n)) (48 + d) ≡ Some (state os (after (10 * n + d)))) where
  number_run : (fuel n : ℕ) → n ≤ fuel → least ≤ n → n ≤ 999999 → run (state os start) (decimal n) ≡ Some (state os (after n))
  number_run zero n f l h = subst (λ ds. run (state os start) ds ≡ Some (state os (after n))) (sym (decimal_digit n (omega arith))) (first n l (omega arith))
  number_run (suc fuel) n f l h = ⊎_elim
      (λ (small : n < 10). subst (λ ds. run (state os start) ds ≡ Some (state os (after n))) (sym (decimal_digit n small)) (first n l small))
      (λ (large : 10 ≤ n).
      let front = number_run fuel (n / 10) (omega arith) (omega arith) (omega arith) in
      subst (λ ds. run (state os start) ds ≡ Some (state os (after n))) (sym (decimal_step n large (omega arith)))
      (run_append (Some (state os start)) (decimal (n / 10)) ((48 + n % 10) ∷ [])
      ∙ ap (λ o. run_from o ((48 + n % 10) ∷ [])) front
      ∙ next (n / 10) (n % 10) (omega arith) (omega arith) (omega arith)
      ∙ ap (λ k. Some (state os (after k))) (let e : 10 * (n / 10) + n % 10 ≡ n = omega arith in e)))
      (small_or n)
    where
      small_or : (n : ℕ) → (n < 10) ⊎ (10 ≤ n)
      small_or n = grind arith

-- the steps of a state that stands behind an atom are those of one that stands behind its number
pub settled_steps : (s : State) (b : ℕ) → is_digit b ≡ false → step (settled s) b ≡ step s b
settled_steps (state os Begin) b e = refl
settled_steps (state os First) b e = refl
settled_steps (state os (Weight None)) b e = refl
settled_steps (state os (Weight (Some zero))) b e = closed_steps os (Atom 0 0) b
settled_steps (state os (Weight (Some (suc n)))) b e = closed_steps os (Atom (suc n) 0) b
    ∙ ap (λ t. weighed os (Some (suc n)) b (if t then (if nat_le (suc n) 99999 then Some (10 * suc n + (b - 48)) else None) else None)) (sym e)
settled_steps (state os (Label None)) b e = refl
settled_steps (state os (Label (Some zero))) b e = closed_steps os (Atom 1 0) b
settled_steps (state os (Label (Some (suc n)))) b e = closed_steps os (Atom 1 (suc n)) b
    ∙ ap (λ t. labelled os (Some (suc n)) b (not_zero (if t then (if nat_le (suc n) 99999 then Some (10 * suc n + (b - 48)) else None) else None))) (sym e)
settled_steps (state os (Number n)) b e = refl
settled_steps (state os (Behind t)) b e = refl

le_true : (a b : ℕ) → a ≤ b → nat_le a b ≡ true
le_true a b h = grind arith

eq_false : (a b : ℕ) → (a ≡ b → ⊥) → nat_eq a b ≡ false
eq_false a b h = grind arith

digit_back : (d : ℕ) → 48 + d - 48 ≡ d
digit_back d = omega arith

first_is : (d : ℕ) → d < 10 → longer_number None (48 + d) ≡ Some d
first_is d h = ap (λ t. if t then Some (48 + d - 48) else None) (digit_is d h) ∙ ap Some (digit_back d)

next_is : (n d : ℕ) → 1 ≤ n → n ≤ 99999 → d < 10 → longer_number (Some n) (48 + d) ≡ Some (10 * n + d)
next_is zero d l h k = absurd (omega arith)
next_is (suc n) d l h k =
    ap (λ t. if t then (if nat_le (suc n) 99999 then Some (10 * suc n + (48 + d - 48)) else None) else None) (digit_is d k)
    ∙ ap (λ t. if t then Some (10 * suc n + (48 + d - 48)) else None) (le_true (suc n) 99999 h) ∙ ap (λ e. Some (10 * suc n + e)) (digit_back d)

counts : (k : ℕ) → 1 ≤ k → not_zero (Some k) ≡ Some k
counts zero h = absurd (omega arith)
counts (suc k) h = refl

pub weight_run : (os : List Open) (n : ℕ) → n ≤ 999999 → run (state os (Weight None)) (decimal n) ≡ Some (state os (Weight (Some n)))
weight_run os n h = number_run os (Weight None) (λ k. Weight (Some k)) 0 (omega arith)
    (λ d l k. ap (weighed os None (48 + d)) (first_is d k))
    (λ m d l g k. ap (weighed os (Some m) (48 + d)) (next_is m d l g k)) n n (omega arith) (omega arith) h

pub label_run : (os : List Open) (n : ℕ) → 1 ≤ n → n ≤ 999999 → run (state os (Label None)) (decimal n) ≡ Some (state os (Label (Some n)))
label_run os n l h = number_run os (Label None) (λ k. Label (Some k)) 1 (omega arith)
    (λ d l k. ap (λ o. labelled os None (48 + d) (not_zero o)) (first_is d k) ∙ ap (labelled os None (48 + d)) (counts d l))
    (λ m d l g k. ap (λ o. labelled os (Some m) (48 + d) (not_zero o)) (next_is m d l g k) ∙ ap (labelled os (Some m) (48 + d)) (counts (10 * m + d) (omega arith))) n n (omega arith) l h

chosen : {A : Type 0} (a b c d : Bool) (u v w x y : A) → a ≡ false → b ≡ false → c ≡ false → d ≡ false → (if a then u else (if b then v else (if c then w else (if d then x else y)))) ≡ y
chosen true b c d u v w x y e f g h = absurd (let k : true ≡ false = e in cc)
chosen false true c d u v w x y e f g h = absurd (let k : true ≡ false = f in cc)
chosen false false true d u v w x y e f g h = absurd (let k : true ≡ false = g in cc)
chosen false false false true u v w x y e f g h = absurd (let k : true ≡ false = h in cc)
chosen false false false false u v w x y e f g h = refl

branch_first : (os : List Open) (d : ℕ) → 1 ≤ d → d < 10 → step (state os Begin) (48 + d) ≡ Some (state os (Number d))
branch_first os d l h =
    chosen (nat_eq (48 + d) 40) (nat_eq (48 + d) 91) (nat_eq (48 + d) 97) (nat_eq (48 + d) 35) (Some (state (Tuple [] ∷ os) Begin)) (Some (state (Collection [] ∷ os) First))
    (Some (state os (Weight None))) (Some (state os (Label None))) (numbered os (longer_count None (48 + d)))
    (eq_false (48 + d) 40 (λ e. omega (arith, e))) (eq_false (48 + d) 91 (λ e. omega (arith, e))) (eq_false (48 + d) 97 (λ e. omega (arith, e))) (eq_false (48 + d) 35 (λ e. omega (arith, e)))
    ∙ ap (λ o. numbered os (not_zero o)) (first_is d h) ∙ ap (numbered os) (counts d l)

pub branch_run : (os : List Open) (n : ℕ) → 1 ≤ n → n ≤ 999999 → run (state os Begin) (decimal n) ≡ Some (state os (Number n))
branch_run os n l h = number_run os Begin Number 1 (omega arith) (branch_first os)
    (λ m d l g k. ap (λ t. if t then Some (state (Branch m ∷ os) Begin) else numbered os (longer_number (Some m) (48 + d))) (eq_false (48 + d) 58 (λ e. omega (arith, e)))
    ∙ ap (numbered os) (next_is m d l g k)) n n (omega arith) l h

from_to : (ts : Trees) → from_list (to_list ts) ≡ ts
from_to none = refl
from_to (more t ts) = ap (more t) (from_to ts)

closed_settled : (os : List Open) (t : Tree) → settled (closed os t) ≡ closed os t
closed_settled [] t = refl
closed_settled (Branch number ∷ os) t = closed_settled os (Inj number t)
closed_settled (Tuple ts ∷ os) t = refl
closed_settled (Collection ts ∷ os) t = refl

-- where a text leads to, from a place where a structure begins
pub record Leads (from : State) (text : List ℕ) (there : State) : Type 0 where
  pub at : State
  pub ran : run from text ≡ Some at
  pub stands : settled at ≡ there

-- behind parts, the first of which is u, where those before it are passed
abbrev pub behind_parts : (List Tree → Open) → List Open → List Tree → Tree → List Tree → State
behind_parts open' os done u [] = state (open' done ∷ os) (Behind u)
behind_parts open' os done u (v ∷ vs) = behind_parts open' os (done ++ u ∷ []) v vs

tuple_ends : (os : List Open) (done : List Tree) (u v : Tree) (vs : List Tree) → step (behind_parts Tuple os done u (v ∷ vs)) 41 ≡ Some (closed os (Tup (from_list (done ++ u ∷ (v ∷ vs)))))
tuple_ends os [] u v [] = refl
tuple_ends os (d ∷ done) u v [] = ap (λ l. Some (closed os (Tup (more d (from_list l))))) (append_assoc done (u ∷ []) (v ∷ []))
tuple_ends os done u v (w ∷ vs) = tuple_ends os (done ++ u ∷ []) v w vs ∙ ap (λ l. Some (closed os (Tup (from_list l)))) (append_assoc done (u ∷ []) (v ∷ (w ∷ vs)))

collection_ends : (os : List Open) (done : List Tree) (u : Tree) (vs : List Tree) → step (behind_parts Collection os done u vs) 93 ≡ Some (closed os (Coll (from_list (done ++ u ∷ vs))))
collection_ends os done u [] = refl
collection_ends os done u (v ∷ vs) = collection_ends os (done ++ u ∷ []) v vs ∙ ap (λ l. Some (closed os (Coll (from_list l)))) (append_assoc done (u ∷ []) (v ∷ vs))

pub branch_run_first : (os : List Open) (n : ℕ) → 1 ≤ n → n ≤ 999999 → run (state os First) (decimal n) ≡ Some (state os (Number n))
branch_run_first os n l h = number_run os First Number 1 (omega arith)
    (λ d l k. ap (λ t. if t then emptied os else begun os (48 + d)) (eq_false (48 + d) 93 (λ e. omega (arith, e))) ∙ branch_first os d l k)
    (λ m d l g k. ap (λ t. if t then Some (state (Branch m ∷ os) Begin) else numbered os (longer_number (Some m) (48 + d))) (eq_false (48 + d) 58 (λ e. omega (arith, e)))
    ∙ ap (numbered os) (next_is m d l g k)) n n (omega arith) l h

-- the first component of a collection is read as any structure
pub first_run : (t : Tree) (os : List Open) → IsWritten t → run (state os First) (structure_text t) ≡ run (state os Begin) (structure_text t)
first_run (Atom weight zero) os w = refl
first_run (Atom weight (suc label)) os w = refl
first_run (Inj branch t) os w =
    run_append (Some (state os First)) (decimal branch) (58 ∷ structure_text t)
    ∙ ap (λ o. run_from o (58 ∷ structure_text t)) (branch_run_first os branch w.0 w.1 ∙ sym (branch_run os branch w.0 w.1))
    ∙ sym (run_append (Some (state os Begin)) (decimal branch) (58 ∷ structure_text t))
first_run (Tup ts) os w = refl
first_run (Coll ts) os w = refl

mutual
  pub tree_run : (t : Tree) (os : List Open) → IsWritten t → Leads (state os Begin) (structure_text t) (closed os (normal t))
  tree_run (Atom weight zero) os w = record { at = state os (Weight (Some weight)); ran = weight_run os weight w; stands = refl }
  tree_run (Atom weight (suc label)) os w = record { at = state os (Label (Some (suc label))); ran = label_run os (suc label) (omega arith) w; stands = refl }
  tree_run (Inj branch t) os w =
      let inner = tree_run t (Branch branch ∷ os) w.2 in record {
        at = inner.at;
        ran = run_append (Some (state os Begin)) (decimal branch) (58 ∷ structure_text t) ∙ ap (λ o. run_from o (58 ∷ structure_text t)) (branch_run os branch w.0 w.1) ∙ inner.ran;
        stands = inner.stands;
      }
  tree_run (Tup none) os w = absurd (omega (arith, w.0))
  tree_run (Tup (more t none)) os w = absurd (omega (arith, w.0))
  tree_run (Tup (more t (more u ts))) os w =
      let one = tree_run t (Tuple [] ∷ os) w.1.0 in
      let rest = parts_run (more u ts) Tuple os (λ ds v. refl) (λ ds v. refl) [] (normal t) one.at one.stands w.1.1 in record {
        at = closed os (Tup (all_normal (more t (more u ts))));
        ran = ap (λ l. run (state (Tuple [] ∷ os) Begin) l) (append_assoc (structure_text t) (followed (more u ts)) (41 ∷ []))
            ∙ run_append (Some (state (Tuple [] ∷ os) Begin)) (structure_text t) (followed (more u ts) ++ 41 ∷ []) ∙ ap (λ o. run_from o (followed (more u ts) ++ 41 ∷ [])) one.ran
            ∙ run_append (Some one.at) (followed (more u ts)) (41 ∷ []) ∙ ap (λ o. run_from o (41 ∷ [])) rest.ran
            ∙ sym (settled_steps rest.at 41 refl) ∙ ap (λ s. step s 41) rest.stands ∙ tuple_ends os [] (normal t) (normal u) (to_list (all_normal ts))
            ∙ ap (λ us. Some (closed os (Tup (more (normal t) (more (normal u) us))))) (from_to (all_normal ts));
        stands = closed_settled os (Tup (all_normal (more t (more u ts))));
      }
  tree_run (Coll none) os w = record { at = closed os (Coll none); ran = refl; stands = closed_settled os (Coll none) }
  tree_run (Coll (more t ts)) os w =
      let one = tree_run t (Collection [] ∷ os) w.0 in
      let rest = parts_run ts Collection os (λ ds v. refl) (λ ds v. refl) [] (normal t) one.at one.stands w.1 in record {
        at = closed os (Coll (all_normal (more t ts)));
        ran = ap (λ l. run (state (Collection [] ∷ os) First) l) (append_assoc (structure_text t) (followed ts) (93 ∷ []))
            ∙ run_append (Some (state (Collection [] ∷ os) First)) (structure_text t) (followed ts ++ 93 ∷ [])
            ∙ ap (λ o. run_from o (followed ts ++ 93 ∷ [])) (first_run t (Collection [] ∷ os) w.0 ∙ one.ran)
            ∙ run_append (Some one.at) (followed ts) (93 ∷ []) ∙ ap (λ o. run_from o (93 ∷ [])) rest.ran
            ∙ sym (settled_steps rest.at 93 refl) ∙ ap (λ s. step s 93) rest.stands ∙ collection_ends os [] (normal t) (to_list (all_normal ts))
            ∙ ap (λ us. Some (closed os (Coll (more (normal t) us)))) (from_to (all_normal ts));
        stands = closed_settled os (Coll (all_normal (more t ts)));
      }

  parts_run : (ts : Trees) (open' : List Tree → Open) (os : List Open)
      → ((ds : List Tree) (v : Tree) → step (state (open' ds ∷ os) (Behind v)) 44 ≡ Some (state (open' (ds ++ v ∷ []) ∷ os) Begin))
      → ((ds : List Tree) (v : Tree) → closed (open' ds ∷ os) v ≡ state (open' ds ∷ os) (Behind v))
      → (done : List Tree) (u : Tree) (s : State) → settled s ≡ state (open' done ∷ os) (Behind u) → AreWritten ts → Leads s (followed ts) (behind_parts open' os done u (to_list (all_normal ts)))
  parts_run none open' os comma stays done u s e w = record { at = s; ran = refl; stands = e }
  parts_run (more t ts) open' os comma stays done u s e w =
      let one = tree_run t (open' (done ++ u ∷ []) ∷ os) w.0 in
      let rest = parts_run ts open' os comma stays (done ++ u ∷ []) (normal t) one.at (one.stands ∙ stays (done ++ u ∷ []) (normal t)) w.1 in record {
        at = rest.at;
        ran = ap (λ o. run_from o (structure_text t ++ followed ts)) (sym (settled_steps s 44 refl) ∙ ap (λ z. step z 44) e ∙ comma done u)
            ∙ run_append (Some (state (open' (done ++ u ∷ []) ∷ os) Begin)) (structure_text t) (followed ts) ∙ ap (λ o. run_from o (followed ts)) one.ran ∙ rest.ran;
        stands = rest.stands;
      }

-- a text of a structure is read, and gives the tree but for the weights of labelled atoms
pub text_run : (t : Tree) → IsWritten t → Leads (state [] Begin) (structure_text t) (state [] (Behind (normal t)))
text_run t w = tree_run t [] w

pub stuck : (bs : List ℕ) → run_from None bs ≡ None
stuck [] = refl
stuck (b ∷ bs) = stuck bs

-- so two structures with one text are the same but for these
pub one_normal : (t u : Tree) → IsWritten t → IsWritten u → structure_text t ≡ structure_text u → normal t ≡ normal u
one_normal t u w v e =
    let a = text_run t w in
    let b = text_run u v in
    inside (normal t) (normal u) (sym a.stands ∙ ap settled (some_same a.at b.at (sym a.ran ∙ ap (run (state [] Begin)) e ∙ b.ran)) ∙ b.stands)
  where
    inside : (x y : Tree) → state [] (Behind x) ≡ state [] (Behind y) → x ≡ y
    inside x y f = cc

    some_same : (x y : State) → Some x ≡ Some y → x ≡ y
    some_same x y f = cc

-- and what begins a text of a structure is read
pub begins_run : (text : List ℕ) → Begins text → (s : State) × (run (state [] Begin) text ≡ Some s)
begins_run text h = go (run (state [] Begin) text) refl
  where
    never : (s : State) → None ≡ Some s → ⊥
    never s f = cc

    go : (o : Option State) → run (state [] Begin) text ≡ o → (s : State) × (run (state [] Begin) text ≡ Some s)
    go (Some s) e = (s, e)
    go None e =
        let a = text_run h.1.0 h.1.1 in
        absurd (never a.at (sym (stuck h.0) ∙ sym (ap (λ o. run_from o h.0) e) ∙ sym (run_append (Some (state [] Begin)) text h.0) ∙ ap (run (state [] Begin)) (sym h.1.2) ∙ a.ran))
