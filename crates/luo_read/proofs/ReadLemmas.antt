-- Where a text stops, and what is read of it.
use Rattle.std.proofs.Common.{◌≡◌, ℕ, zero, suc, ◌+◌, ◌≤◌, ◌<◌, List, [], ◌∷◌, ◌++◌, Some, None, ◌⊎◌, inl, ⊎_elim, length, take, get_or, refl, sym, ap, subst, ◌∙◌, arith, add-one}
use Rattle.std.specs.Prelude.{Result, Ok, Err, IfOk}
use Rattle.std.proofs.lemmas.List.{append-nil, take_all}
use Rattle.luo_model.specs.Tree.{Tree}
use Rattle.luo_read.specs.declared.reader.Stop.{Stop}
use Rattle.luo_read.specs.declared.reader.Stop.TheVariants as stop
use Rattle.luo_read.specs.Written.{IsStructureText, Begins, IsUnreadable}
use Rattle.luo_read.specs.Nesting.{OpensAt, IsTooDeep}
use Rattle.luo_read.specs.inner.Machine.{Begin, Behind, State, state, step, run, run_from, settled, normal}
use Rattle.luo_read.specs.inner.Readers.{depth, Halts, Fails, stopped_as, IsRead, Stops}
use Rattle.luo_read.proofs.RunLemmas.{run_append, text_run, begins_run, stuck}
use Rattle.luo_read.proofs.BackLemmas.{IsBack, text_of, read_back, settled_back}
use Rattle.luo_read.proofs.CompleteLemmas.{state_begins}
use Rattle.luo_read.proofs.NestingLemmas.{opens_run, step_depth, fresh_opens}

pub ok_other : {X Y : Type 0} (r : Result X Y) (P Q : X → Type 0) → ((x : X) → P x → Q x) → IfOk r P → IfOk r Q
ok_other (Ok x) P Q h p = h x p
ok_other (Err e) P Q h p = tt

abbrev start : State
start = state [] Begin

-- up to a place no more are open than the limit
abbrev pub WithinTo : List ℕ → ℕ → Type 0
WithinTo text n = (k : ℕ) → k ≤ n → (s : State) → run start (take k text) ≡ Some s → depth s ≤ 1000

same : (x y : State) → Some x ≡ Some y → x ≡ y
same x y e = cc

never : (x : State) → None ≡ Some x → ⊥
never x e = cc

take_next : (text : List ℕ) (i b : ℕ) → i < length text → b ≡ get_or text i 0 → take (i + 1) text ≡ take i text ++ b ∷ []
take_next text i b l e = rw add-one (go text i l e)
  where
    go : (text : List ℕ) (i : ℕ) → i < length text → b ≡ get_or text i 0 → take (suc i) text ≡ take i text ++ b ∷ []
    go [] i l e = absurd (omega arith)
    go (x ∷ xs) zero l e = ap (λ z. z ∷ []) (sym e)
    go (x ∷ xs) (suc i) l e = ap (λ z. x ∷ z) (go xs i (omega arith) e)

module _ (text : List ℕ) (at b : ℕ) (s : State) (within : at < length text) (byte : b ≡ get_or text at 0) (ran : run start (take at text) ≡ Some s) where
  run_next : run start (take (at + 1) text) ≡ step s b
  run_next = ap (run start) (take_next text at b within byte) ∙ run_append (Some start) (take at text) (b ∷ []) ∙ ap (λ o. run_from o (b ∷ [])) ran

  within_next : (q : State) → step s b ≡ Some q → depth q ≤ 1000 → WithinTo text at → WithinTo text (at + 1)
  within_next q e d w k l z r = ⊎_elim (λ (h : k ≤ at). w k h z r)
      (λ (h : k ≡ at + 1). omega (arith, d, ap depth (same q z (sym e ∙ sym run_next ∙ ap (λ m. run start (take m text)) (sym h) ∙ r)))) (cases k at l)
    where
      cases : (k at : ℕ) → k ≤ at + 1 → (k ≤ at) ⊎ (k ≡ at + 1)
      cases k at l = grind arith

not_deep_before : (text : List ℕ) (n k : ℕ) → WithinTo text n → k + 1 ≤ n → OpensAt 1001 (take (k + 1) text) → ⊥
not_deep_before text n k w l o =
    let r = opens_run o.0 [] Begin (inl refl) o.2 in
    let d = w (k + 1) l r.0 (ap (run start) (sym o.3) ∙ r.1) in
    omega (arith, d, r.2, o.1)

-- ---- a byte that isn't read

module _ (text : List ℕ) (at : ℕ) (s : State) (within : at ≤ length text) (ran : run start (take at text) ≡ Some s) where
  begun_at : Begins (take at text)
  begun_at =
      let r = read_back (take at text) s ran in
      subst Begins r.1 (state_begins s r.0)

  unreadable : (IsStructureText text → ⊥) → ((k : ℕ) → at < k → k ≤ length text → Begins (take k text) → ⊥) → IsUnreadable text at
  unreadable n f = record { no_text = n; within = within; begins = begun_at; longest = f }

text_begins : (text : List ℕ) → IsStructureText text → Begins text
text_begins text h = ([], subst IsStructureText (sym (append-nil text)) h)

take_split : (text : List ℕ) (i k : ℕ) → i ≤ k → k ≤ length text → (rest : List ℕ) × (take k text ≡ take i text ++ rest)
take_split text zero k l h = (take k text, refl)
take_split [] (suc i) zero l h = absurd (omega arith)
take_split [] (suc i) (suc k) l h = absurd (omega arith)
take_split (x ∷ xs) (suc i) zero l h = absurd (omega arith)
take_split (x ∷ xs) (suc i) (suc k) l h = let r = take_split xs i k (omega arith) (omega arith) in (r.0, ap (λ z. x ∷ z) r.1)

module _ (text : List ℕ) (at b : ℕ) (s : State) (inside : at < length text) (byte : b ≡ get_or text at 0) (ran : run start (take at text) ≡ Some s) (w : WithinTo text at) where
  stops_unreadable : step s b ≡ None → Stops text (stopped_as stop.Unreadable at)
  stops_unreadable e = (
    unreadable text at s (omega (arith, inside)) ran
        (λ h. further (length text) (omega (arith, inside)) (omega arith) (subst Begins (sym (take_all (length text) text (omega arith))) (text_begins text h))) further,
    λ k l d. not_deep_before text at k w (omega (arith, l)) d.1,
  )
    where
      further : (k : ℕ) → at < k → k ≤ length text → Begins (take k text) → ⊥
      further k l h g =
          let z = begins_run (take k text) g in
          let p = take_split text (at + 1) k (omega (arith, l)) h in
          never z.0 (sym (stuck p.0) ∙ ap (λ o. run_from o p.0) (sym (run_next text at b s inside byte ran ∙ e)) ∙ sym (run_append (Some start) (take (at + 1) text) p.0)
          ∙ ap (run start) (sym p.1) ∙ z.1)

  stops_deep : depth s ≤ 1000 → (q : State) → step s b ≡ Some q → depth q ≡ 1001 → Stops text (stopped_as stop.Deep at)
  stops_deep d q e n =
      let r = read_back (take (at + 1) text) q (run_next text at b s inside byte ran ∙ e) in
      let o = fresh_opens q (take (at + 1) text) r.0 (⊎_elim (λ (h : depth q ≤ 1000). absurd (omega (arith, h, n))) (λ f. f) (step_depth 1000 s b q d e)) r.1 in (
        (inside, subst (λ m. OpensAt m (take (at + 1) text)) n o, λ k l. not_deep_before text at k w (omega (arith, l))),
        λ k l u. u.longest (at + 1) (omega (arith, l)) (omega (arith, inside)) (subst Begins r.1 (state_begins q r.0)),
      )

  pub stops_at : depth s ≤ 1000 → (e : Stop) → Halts (step s b) e → Stops text (stopped_as e at)
  stops_at d stop.Unreadable h = stops_unreadable h
  stops_at d stop.Deep h = stops_deep d h.0 h.1 h.2
  stops_at d stop.NoMemory h = tt

-- ---- a text that ends

module _ (text : List ℕ) (s : State) (ran : run start text ≡ Some s) (w : WithinTo text (length text)) where
  shallow : (k : ℕ) → IsTooDeep text k → ⊥
  shallow k d = not_deep_before text (length text) k w (omega (arith, d.0)) d.1

  pub ends_unread : (e : Stop) → Fails s e → Stops text (stopped_as e (length text))
  ends_unread stop.Unreadable f = (
    unreadable text (length text) s (omega arith) (ap (run start) (take_all (length text) text (omega arith)) ∙ ran)
        (λ h. let r = text_run h.0 h.1 in f (normal h.0) (ap settled (same s r.at (sym ran ∙ ap (run start) (sym h.2) ∙ r.ran)) ∙ r.stands))
        (λ k l h g. absurd (omega (arith, l, h))),
    λ k l d. shallow k d,
  )
  ends_unread stop.Deep f = absurd f
  ends_unread stop.NoMemory f = tt

  pub ends_read : (t : Tree) → settled s ≡ state [] (Behind t) → IsRead text t
  ends_read t e =
      let r = read_back text s ran in
      let q = settled_back s r.0 in
      let z = subst (λ x. IsBack (text_of s) x) e q in
      let l = text_run t z.0.1 in
      record {
        not_deep = shallow;
        written = z.0.1;
        its_text = z.1 ∙ r.1;
        plain = inside (normal t) t (sym l.stands ∙ ap settled (same l.at s (sym l.ran ∙ ap (run start) (z.1 ∙ r.1) ∙ ran)) ∙ e);
      }
    where
      inside : (x y : Tree) → state [] (Behind x) ≡ state [] (Behind y) → x ≡ y
      inside x y f = cc

-- ---- the loop

pub next_read : (text : List ℕ) (at b : ℕ) (s : State) → at < length text → b ≡ get_or text at 0 → run start (take at text) ≡ Some s → WithinTo text at
    → (q : State) → step s b ≡ Some q → depth q ≤ 1000 → (run start (take (at + 1) text) ≡ Some q) × WithinTo text (at + 1)
next_read text at b s l byte ran w q e d = (run_next text at b s l byte ran ∙ e, within_next text at b s l byte ran q e d w)

pub all_read : (text : List ℕ) (at : ℕ) (s : State) → length text ≤ at → run start (take at text) ≡ Some s → WithinTo text at → (run start text ≡ Some s) × WithinTo text (length text)
all_read text at s l ran w = (ap (run start) (sym (take_all at text l)) ∙ ran, λ k h. w k (omega (arith, l, h)))
