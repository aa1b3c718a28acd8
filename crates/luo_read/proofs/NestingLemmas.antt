-- How many are open where a text nests.
use Rattle.std.proofs.Common.{◌≡◌, ℕ, ◌+◌, ◌≤◌, List, [], ◌∷◌, ◌++◌, Option, Some, None, if◌then◌else◌, ◌⊎◌, inl, inr, ⊎_elim, Bool, true, false, nat_eq, decimal, length, refl, sym, ap, subst, ◌∙◌, arith, append_assoc}
use Rattle.std.proofs.lemmas.List.{append-nil}
use Rattle.luo_model.specs.Tree.{Tree, Atom, Inj, Tup, Coll, from_list}
use Rattle.luo_struct.specs.Text.{structure_text}
use Rattle.luo_read.specs.Nesting.{Open, Branch, Tuple, Collection, ended, open_text, opens_text, EachWritten, IsOpen, IsFresh, AreOpened, OpensAt}
use Rattle.luo_read.specs.inner.Machine.{Stage, Begin, First, Weight, Label, Number, Behind, State, state, longer_number, longer_count, closed, begun, passed, passed_from, tuple_closed, step, run, run_from, weighed, labelled, numbered, emptied, normal}
use Rattle.luo_read.specs.inner.Readers.{depth}
use Rattle.luo_read.proofs.RunLemmas.{run_append, settled_steps, tree_run, first_run, branch_run, branch_run_first}
use Rattle.luo_read.proofs.BackLemmas.{before, text_of, AreOpen, IsSound}

-- ---- a text that ends where something opens is run over

ended_run : (ts : List Tree) (open' : List Tree → Open) (os : List Open)
    → ((ds : List Tree) (v : Tree) → step (state (open' ds ∷ os) (Behind v)) 44 ≡ Some (state (open' (ds ++ v ∷ []) ∷ os) Begin))
    → ((ds : List Tree) (v : Tree) → closed (open' ds ∷ os) v ≡ state (open' ds ∷ os) (Behind v))
    → (done : List Tree) → EachWritten ts → (top : List Tree) × (run (state (open' done ∷ os) Begin) (ended ts) ≡ Some (state (open' top ∷ os) Begin))
ended_run [] open' os comma stays done w = (done, refl)
ended_run (t ∷ ts) open' os comma stays done w =
    let one = tree_run t (open' done ∷ os) w.0 in
    let rest = ended_run ts open' os comma stays (done ++ normal t ∷ []) w.1 in (
      rest.0,
      run_append (Some (state (open' done ∷ os) Begin)) (structure_text t) (44 ∷ ended ts) ∙ ap (λ o. run_from o (44 ∷ ended ts)) one.ran
          ∙ ap (λ o. run_from o (ended ts)) (sym (settled_steps one.at 44 refl) ∙ ap (λ z. step z 44) (one.stands ∙ stays done (normal t)) ∙ comma done (normal t)) ∙ rest.1,
    )

abbrev Starts : Stage → Type 0
Starts at = (at ≡ Begin) ⊎ (at ≡ First)

-- something open stands there
record Opened (os : List Open) (text : List ℕ) : Type 0 where
  top : Open
  at : Stage
  starts : Starts at
  ran : run (state os Begin) text ≡ Some (state (top ∷ os) at)

open_run : (o : Open) (os : List Open) → IsOpen o → Opened os (open_text o)
open_run (Branch n) os h = record {
  top = Branch n;
  at = Begin;
  starts = inl refl;
  ran = run_append (Some (state os Begin)) (decimal n) (58 ∷ []) ∙ ap (λ o. run_from o (58 ∷ [])) (branch_run os n h.0 h.1);
}
open_run (Tuple ts) os h =
    let r = ended_run ts Tuple os (λ ds v. refl) (λ ds v. refl) [] h in
    record { top = Tuple r.0; at = Begin; starts = inl refl; ran = r.1 }
open_run (Collection []) os h = record { top = Collection []; at = First; starts = inr refl; ran = refl }
open_run (Collection (t ∷ ts)) os h =
    let r = ended_run (t ∷ ts) Collection os (λ ds v. refl) (λ ds v. refl) [] h in record {
      top = Collection r.0;
      at = Begin;
      starts = inl refl;
      ran = run_append (Some (state (Collection [] ∷ os) First)) (structure_text t) (44 ∷ ended ts) ∙ ap (λ o. run_from o (44 ∷ ended ts)) (first_run t (Collection [] ∷ os) h.0)
          ∙ sym (run_append (Some (state (Collection [] ∷ os) Begin)) (structure_text t) (44 ∷ ended ts)) ∙ r.1;
    }

open_first : (o : Open) (os : List Open) → IsOpen o → run (state os First) (open_text o) ≡ run (state os Begin) (open_text o)
open_first (Branch n) os h =
    run_append (Some (state os First)) (decimal n) (58 ∷ []) ∙ ap (λ o. run_from o (58 ∷ [])) (branch_run_first os n h.0 h.1 ∙ sym (branch_run os n h.0 h.1))
    ∙ sym (run_append (Some (state os Begin)) (decimal n) (58 ∷ []))
open_first (Tuple ts) os h = refl
open_first (Collection ts) os h = refl

begins : (at : Stage) → Starts at → (o : Open) (fs : List Open) → IsOpen o → run (state fs at) (open_text o) ≡ run (state fs Begin) (open_text o)
begins at h o fs a = ⊎_elim (λ (e : at ≡ Begin). ap (λ z. run (state fs z) (open_text o)) e) (λ (e : at ≡ First). ap (λ z. run (state fs z) (open_text o)) e ∙ open_first o fs a) h

pub opens_run : (os fs : List Open) (at : Stage) → Starts at → AreOpened os → (s : State) × (run (state fs at) (opens_text os) ≡ Some s) × (depth s ≡ length fs + length os)
opens_run [] fs at h a = absurd a
opens_run (o ∷ []) fs at h a =
    let r = open_run o fs a.0 in (
      state (r.top ∷ fs) r.at,
      run_append (Some (state fs at)) (open_text o) [] ∙ begins at h o fs a.0 ∙ r.ran,
      omega arith,
    )
opens_run (o ∷ (q ∷ os)) fs at h a =
    let r = open_run o fs a.0 in
    let more = opens_run (q ∷ os) (r.top ∷ fs) r.at r.starts a.1 in (
      more.0,
      run_append (Some (state fs at)) (open_text o) (opens_text (q ∷ os)) ∙ ap (λ z. run_from z (opens_text (q ∷ os))) (begins at h o fs a.0 ∙ r.ran) ∙ more.1,
      omega (arith, more.2),
    )

-- ---- where more are open, the last byte opens something

abbrev pub IsFreshState : State → Type 0
IsFreshState (state (o ∷ os) Begin) = IsFresh o
IsFreshState (state (o ∷ os) First) = IsFresh o
IsFreshState _ = ⊥

-- no more are open, or the innermost is fresh
abbrev pub Opens : ℕ → State → Type 0
Opens n s = (depth s ≤ n) ⊎ IsFreshState s

closed_depth : (os : List Open) (t : Tree) → depth (closed os t) ≤ length os
closed_depth [] t = omega arith
closed_depth (Branch n ∷ os) t = omega (arith, closed_depth os (Inj n t))
closed_depth (Tuple ts ∷ os) t = omega arith
closed_depth (Collection ts ∷ os) t = omega arith

module _ (n : ℕ) where
  is : (x s : State) → Some x ≡ Some s → Opens n x → Opens n s
  is x s e p = subst (Opens n) (let f : x ≡ s = cc in f) p

  picks : (c : Bool) (p q : Option State) (s : State) → (if c then p else q) ≡ Some s → (p ≡ Some s → Opens n s) → (q ≡ Some s → Opens n s) → Opens n s
  picks true p q s e f g = f e
  picks false p q s e f g = g e

  nowhere : (s : State) → None ≡ Some s → Opens n s
  nowhere s e = absurd (let h : None ≡ Some s = e in cc)

  passed_depth : (os : List Open) (t : Tree) (b : ℕ) (s : State) → length os ≤ n → passed os t b ≡ Some s → Opens n s
  passed_depth [] t b s l e = nowhere s e
  passed_depth (Branch k ∷ os) t b s l e = nowhere s e
  passed_depth (Tuple ts ∷ os) t b s l e =
      picks (nat_eq b 44) (Some (state (Tuple (ts ++ t ∷ []) ∷ os) Begin)) _ s e (λ f. is (state (Tuple (ts ++ t ∷ []) ∷ os) Begin) s f (inl (omega (arith, l))))
      (λ f. picks (nat_eq b 41) (tuple_closed os ts t) None s f (ends ts) (λ g. nowhere s g))
    where
      ends : (ts : List Tree) → tuple_closed os ts t ≡ Some s → Opens n s
      ends [] g = nowhere s g
      ends (u ∷ us) g = is (closed os (Tup (from_list ((u ∷ us) ++ t ∷ [])))) s g (inl (omega (arith, l, closed_depth os (Tup (from_list ((u ∷ us) ++ t ∷ []))))))
  passed_depth (Collection ts ∷ os) t b s l e =
      picks (nat_eq b 44) (Some (state (Collection (ts ++ t ∷ []) ∷ os) Begin)) _ s e (λ f. is (state (Collection (ts ++ t ∷ []) ∷ os) Begin) s f (inl (omega (arith, l))))
      (λ f. picks (nat_eq b 93) (Some (closed os (Coll (from_list (ts ++ t ∷ []))))) None s f
      (λ g. is (closed os (Coll (from_list (ts ++ t ∷ [])))) s g (inl (omega (arith, l, closed_depth os (Coll (from_list (ts ++ t ∷ []))))))) (λ g. nowhere s g))

  passed_from_depth : (x : State) (b : ℕ) (s : State) → depth x ≤ n → passed_from x b ≡ Some s → Opens n s
  passed_from_depth (state os Begin) b s l e = nowhere s e
  passed_from_depth (state os First) b s l e = nowhere s e
  passed_from_depth (state os (Weight o)) b s l e = nowhere s e
  passed_from_depth (state os (Label o)) b s l e = nowhere s e
  passed_from_depth (state os (Number k)) b s l e = nowhere s e
  passed_from_depth (state os (Behind t)) b s l e = passed_depth os t b s l e

  numbered_depth : (os : List Open) (o : Option ℕ) (s : State) → length os ≤ n → numbered os o ≡ Some s → Opens n s
  numbered_depth os None s l e = nowhere s e
  numbered_depth os (Some k) s l e = is (state os (Number k)) s e (inl l)

  begun_depth : (os : List Open) (b : ℕ) (s : State) → length os ≤ n → begun os b ≡ Some s → Opens n s
  begun_depth os b s l e =
      picks (nat_eq b 40) (Some (state (Tuple [] ∷ os) Begin)) _ s e (λ f. is (state (Tuple [] ∷ os) Begin) s f (inr refl))
      (λ e1. picks (nat_eq b 91) (Some (state (Collection [] ∷ os) First)) _ s e1 (λ f. is (state (Collection [] ∷ os) First) s f (inr refl))
      (λ e2. picks (nat_eq b 97) (Some (state os (Weight None))) _ s e2 (λ f. is (state os (Weight None)) s f (inl l))
      (λ e3. picks (nat_eq b 35) (Some (state os (Label None))) _ s e3 (λ f. is (state os (Label None)) s f (inl l))
      (λ e4. numbered_depth os (longer_count None b) s l e4))))

  weighed_depth : (os : List Open) (o : Option ℕ) (b : ℕ) (k : Option ℕ) (s : State) → length os ≤ n → weighed os o b k ≡ Some s → Opens n s
  weighed_depth os None b None s l e = nowhere s e
  weighed_depth os (Some w) b None s l e = passed_from_depth (closed os (Atom w 0)) b s (omega (arith, l, closed_depth os (Atom w 0))) e
  weighed_depth os o b (Some k) s l e = is (state os (Weight (Some k))) s e (inl l)

  labelled_depth : (os : List Open) (o : Option ℕ) (b : ℕ) (k : Option ℕ) (s : State) → length os ≤ n → labelled os o b k ≡ Some s → Opens n s
  labelled_depth os None b None s l e = nowhere s e
  labelled_depth os (Some w) b None s l e = passed_from_depth (closed os (Atom 1 w)) b s (omega (arith, l, closed_depth os (Atom 1 w))) e
  labelled_depth os o b (Some k) s l e = is (state os (Label (Some k))) s e (inl l)

  emptied_depth : (os : List Open) (s : State) → length os ≤ n → emptied os ≡ Some s → Opens n s
  emptied_depth [] s l e = nowhere s e
  emptied_depth (Branch k ∷ os) s l e = nowhere s e
  emptied_depth (Tuple ts ∷ os) s l e = nowhere s e
  emptied_depth (Collection ts ∷ os) s l e = is (closed os (Coll (from_list ts))) s e (inl (omega (arith, l, closed_depth os (Coll (from_list ts)))))

  pub step_depth : (x : State) (b : ℕ) (s : State) → depth x ≤ n → step x b ≡ Some s → Opens n s
  step_depth (state os Begin) b s l e = begun_depth os b s l e
  step_depth (state os First) b s l e = picks (nat_eq b 93) (emptied os) (begun os b) s e (λ f. emptied_depth os s l f) (λ f. begun_depth os b s l f)
  step_depth (state os (Weight o)) b s l e = weighed_depth os o b (longer_number o b) s l e
  step_depth (state os (Label o)) b s l e = labelled_depth os o b (longer_count o b) s l e
  step_depth (state os (Number k)) b s l e =
      picks (nat_eq b 58) (Some (state (Branch k ∷ os) Begin)) (numbered os (longer_number (Some k) b)) s e (λ f. is (state (Branch k ∷ os) Begin) s f (inr tt))
      (λ f. numbered_depth os (longer_number (Some k) b) s l f)
  step_depth (state os (Behind t)) b s l e = passed_depth os t b s l e

-- ---- what is open, the outermost first

abbrev turned : List Open → List Open → List Open
turned acc [] = acc
turned acc (o ∷ os) = turned (o ∷ acc) os

turned_text : (os acc : List Open) → opens_text (turned acc os) ≡ before os ++ opens_text acc
turned_text [] acc = refl
turned_text (o ∷ os) acc = turned_text os (o ∷ acc) ∙ sym (append_assoc (before os) (open_text o) (opens_text acc))

turned_long : (os acc : List Open) → length (turned acc os) ≡ length os + length acc
turned_long [] acc = omega arith
turned_long (o ∷ os) acc = omega (arith, turned_long os (o ∷ acc))

turned_opened : (os acc : List Open) → AreOpen os → AreOpened acc → AreOpened (turned acc os)
turned_opened [] acc h a = a
turned_opened (o ∷ os) [] h a = absurd a
turned_opened (o ∷ os) (q ∷ acc) h a = turned_opened os (o ∷ (q ∷ acc)) h.1 (h.0, a)

opens_there : (o : Open) (os : List Open) (text : List ℕ) → AreOpen (o ∷ os) → IsFresh o → before (o ∷ os) ≡ text → OpensAt (length (o ∷ os)) text
opens_there o os text h f e = (
  turned (o ∷ []) os,
  omega (arith, turned_long os (o ∷ [])),
  turned_opened os (o ∷ []) h.1 (h.0, f),
  turned_text os (o ∷ []) ∙ ap (λ l. before os ++ l) (append-nil (open_text o)) ∙ e,
)

-- a state with something fresh stands where that opens
pub fresh_opens : (s : State) (text : List ℕ) → IsSound s → IsFreshState s → text_of s ≡ text → OpensAt (depth s) text
fresh_opens (state [] at) text h f e = none at f
  where
    none : (at : Stage) → IsFreshState (state [] at) → OpensAt 0 text
    none Begin f = absurd f
    none First f = absurd f
    none (Weight o) f = absurd f
    none (Label o) f = absurd f
    none (Number n) f = absurd f
    none (Behind t) f = absurd f
fresh_opens (state (o ∷ os) Begin) text h f e = opens_there o os text h.0 f (sym (append-nil (before (o ∷ os))) ∙ e)
fresh_opens (state (o ∷ os) First) text h f e = opens_there o os text h.0 f (sym (append-nil (before (o ∷ os))) ∙ e)
fresh_opens (state (o ∷ os) (Weight n)) text h f e = absurd f
fresh_opens (state (o ∷ os) (Label n)) text h f e = absurd f
fresh_opens (state (o ∷ os) (Number n)) text h f e = absurd f
fresh_opens (state (o ∷ os) (Behind t)) text h f e = absurd f
