-- Procedures by their names, and what a run shows: at most one, and one where nothing refuses.
use Rattle.std.proofs.Common.{◌≡◌, ℕ, zero, suc, ◌+◌, ◌<◌, List, [], ◌∷◌, ◌++◌, length, map, refl, sym, ap, subst, ◌∙◌, arith, append_assoc, Bool, true, false, Option, None, Some, slice_get, decimal}
use Rattle.std.specs.Prelude.{if◌then◌else◌, Ok, Err}
use Rattle.std.specs.Str.{bytes_eq}
use Rattle.std.proofs.lemmas.List.{append-nil}
use Rattle.std.proofs.lemmas.Slice.Eq.{bytes_eq-Decides}
use Rattle.luo_finite.specs.Listing.{In, NoDouble}
use Rattle.luo_finite.specs.Steps.{IsSingle}
use Rattle.luo_finite.proofs.Doubles.{NoDouble-append_right}
use Rattle.luo_finite.proofs.Membership.{In-map}
use Rattle.luo_finite.proofs.Places.{In_get, get_map, get_map_back, none_some, some_same}
use Rattle.luo_model.specs.declared.program.Proc.{Proc}
use Rattle.luo_model.specs.Founded.{IsFounded}
use Rattle.luo_model.specs.Invariant.{IsProgram}
use Rattle.luo_model.specs.Member.{Member}
use Rattle.luo_model.specs.Program.{Program, Procedure, Result}
use Rattle.luo_model.specs.Tree.{Tree}
use Rattle.luo_model.specs.View.{Held, plain_of, procedure_of}
use Rattle.luo_struct.specs.Text.{structure_text}
use Rattle.luo_struct.specs.declared.structure.Structure.{Structure}
use Rattle.luo_struct.specs.View.{tree_of}
use Rattle.luo_read.specs.declared.answers.StructError.{StructError}
use Rattle.luo_read.specs.Reading as reading
use Rattle.luo_read.specs.Reading.{Reads}
use Rattle.luo_interp.specs.Takes.{Takes, TakesForResult}
use Rattle.luo_interp.specs.Makes.{Makes}
use Rattle.luo_interp.proofs.MakeLaws.{each_makes_one}
use Rattle.luo_answer.specs.Commands.Run.{IsProcedureNamed, node_on, parameter_node, StructureRefusal, structure_of, IsTail, IsRunText}
use Rattle.luo_answer.specs.declared.refusal.Refusal.{Refusal}
use Rattle.luo_answer.specs.Lines.{line}
use Rattle.luo_answer.specs.inner.Found.{place_from, place_of, IsThere, is_result, makes_some, has_result, AddsTail}
use Rattle.luo_answer.specs.inner.Passes.{Passes, RefusedBy}

-- the names of a list without doubles stand at one place each
pub one_place : {A : Type 0} (name : A → List ℕ) (xs : List A) → NoDouble (map name xs) → (f g : ℕ) (x y : A) → slice_get xs f ≡ Some x → slice_get xs g ≡ Some y → name x ≡ name y → f ≡ g
one_place name [] n f g x y a b e = absurd (none_some x a)
one_place name (z ∷ xs) n zero zero x y a b e = refl
one_place name (z ∷ xs) n zero (suc g) x y a b e = absurd (n.0 (subst (λ m. In m (map name xs)) (sym e ∙ ap name (sym (some_same z x a))) (In-map name y xs (In_get xs g y b))))
one_place name (z ∷ xs) n (suc f) zero x y a b e = absurd (n.0 (subst (λ m. In m (map name xs)) (e ∙ ap name (sym (some_same z y b))) (In-map name x xs (In_get xs f x a))))
one_place name (z ∷ xs) n (suc f) (suc g) x y a b e = ap suc (one_place name xs n.1 f g x y a b e)

-- at most one procedure has a name
pub named_single : (p : Program) → IsProgram p → (name : List ℕ) → IsSingle (IsProcedureNamed p name)
named_single p q name f g a b =
    one_place (λ (P : Procedure). P.name) p.procs (NoDouble-append_right (map (λ d. d.name) p.defs) (map (λ (P : Procedure). P.name) p.procs) q.distinct) f g a.0 b.0 a.1 b.1 (a.2 ∙ sym b.2)

-- what is found is a procedure of the name, and nothing is where there is none
found_from : (procs : List Proc) (name : List ℕ) (k f : ℕ) → place_from k procs name ≡ Some f → (i : ℕ) × (P : Proc) × (slice_get procs i ≡ Some P) × (P.name ≡ name) × (f ≡ k + i)
found_from [] name k f e = absurd (none_some f e)
found_from (P ∷ procs) name k f e = by (bytes_eq P.name name) refl e (λ h. found_from procs name (suc k) f h)
  where
    by : (b : Bool) → bytes_eq P.name name ≡ b → (if b then Some k else place_from (suc k) procs name) ≡ Some f
        → (place_from (suc k) procs name ≡ Some f → (i : ℕ) × (Q : Proc) × (slice_get procs i ≡ Some Q) × (Q.name ≡ name) × (f ≡ suc k + i))
        → (i : ℕ) × (Q : Proc) × (slice_get (P ∷ procs) i ≡ Some Q) × (Q.name ≡ name) × (f ≡ k + i)
    by true t h further = (0, P, refl, (bytes_eq-Decides P.name name).0 t, omega (arith, some_same k f h))
    by false t h further = let r = further h in (suc r.0, r.1, r.2, r.3, omega (arith, r.4))

missed_from : (procs : List Proc) (name : List ℕ) (k : ℕ) → place_from k procs name ≡ None → (i : ℕ) (P : Proc) → slice_get procs i ≡ Some P → P.name ≡ name → ⊥
missed_from [] name k e i P h n = none_some P h
missed_from (Q ∷ procs) name k e i P h n = by (bytes_eq Q.name name) refl e i h (λ g j l. missed_from procs name (suc k) g j P l n)
  where
    differ : false ≡ true → ⊥
    differ e = cc

    by : (b : Bool) → bytes_eq Q.name name ≡ b → (if b then Some k else place_from (suc k) procs name) ≡ None → (i : ℕ) → slice_get (Q ∷ procs) i ≡ Some P
        → (place_from (suc k) procs name ≡ None → (j : ℕ) → slice_get procs j ≡ Some P → ⊥) → ⊥
    by true t g i h further = none_some k (sym g)
    by false t g zero h further = differ (sym t ∙ (bytes_eq-Decides Q.name name).1 (ap (λ (z : Proc). z.name) (some_same Q P h) ∙ n))
    by false t g (suc i) h further = further g i h

module _ (h : Held) (procs : List Proc) (e : procs ≡ h.procs) (name : List ℕ) where
  pub place_found : (f : ℕ) → place_of procs name ≡ Some f → IsProcedureNamed (plain_of h) name f
  place_found f found =
      let r = found_from procs name 0 f found in
      (procedure_of r.1, get_map procedure_of h.procs f r.1 (ap (λ (l : List Proc). slice_get l f) (sym e) ∙ ap (slice_get procs) (omega (arith, r.4)) ∙ r.2), r.3)

  pub place_missed : place_of procs name ≡ None → (f : ℕ) → IsProcedureNamed (plain_of h) name f → ⊥
  place_missed missed f n =
      let b = get_map_back procedure_of h.procs f n.0 n.1 in
      missed_from procs name 0 missed f b.0 (ap (λ (l : List Proc). slice_get l f) e ∙ b.1) (ap (λ (z : Procedure). z.name) b.2 ∙ n.2)

-- the node of a procedure that is there is there
pub node_there : (p : Program) → IsProgram p → (f : ℕ) → IsThere p f → parameter_node p f < length p.nodes
node_there p q f t = subst (λ x. x < length p.nodes) (sym (ap node_on t.1)) (q.procedures f t.0 t.1).0.0.0

-- what is read, and why nothing is, of the node and the text that the code has
pub read_passes : (p : Program) (x y : ℕ) (word text : List ℕ) → x ≡ y → word ≡ text → (s : Structure) → Reads p x word (tree_of s) → ((e : StructError) → reading.Refusal p x word e → ⊥) → Passes tree_of (structure_of p y text) (Ok s)
read_passes p x y word text same_node same_text s r none =
    let named : Reads p y text (tree_of s) = subst (λ w. Reads p y w (tree_of s)) same_text (subst (λ n. Reads p n word (tree_of s)) same_node r) in
    record { answers = ((λ a h. none h.0 (subst (λ n. reading.Refusal p n word h.0) (sym same_node) (subst (λ w. reading.Refusal p y w h.0) (sym same_text) h.1))), named) }

pub read_stops : (p : Program) (x y : ℕ) (word text : List ℕ) → x ≡ y → word ≡ text → (r : Refusal) → RefusedBy (StructureRefusal p x word) r → Passes tree_of (structure_of p y text) (Err r)
read_stops p x y word text same_node same_text r h =
    record { answers = subst (λ w. RefusedBy (StructureRefusal p y w) r) same_text (subst (λ n. RefusedBy (StructureRefusal p n word) r) same_node h) }

-- a structure that is read for a procedure is one that it takes
pub taken : (p : Program) (f : ℕ) → IsThere p f → (text : List ℕ) (t : Tree) → Reads p (parameter_node p f) text t → Takes p f t
taken p f there text t r = (there.0, there.1, subst (λ x. Member p x t) (ap node_on there.1) r.named.0.0)

-- what a procedure shows is one
module _ (p : Program) (is : IsProgram p) (founded : IsFounded p) (f : ℕ) (t : Tree) where
  tail_single : (P : Procedure) → slice_get p.procs f ≡ Some P → Member p P.on.node t → (result : Option Result) → P.result ≡ result → IsSingle (IsTail p f t result)
  tail_single P there member None e a b x y = x ∙ sym y
  tail_single P there member (Some result) e a b x y =
      let m = each_makes_one p is founded f P result there e t member in
      x.2 ∙ ap (λ made. line (structure_text made)) (m.4 x.0 x.1 ∙ sym (m.4 y.0 y.1)) ∙ sym y.2

  pub run_text_single : Takes p f t → (q : ℕ) → IsSingle (IsRunText p f t q)
  run_text_single (P, there, member) q a b (x, m, d) (y, n, e) =
      let first : IsTail p f t P.result x = subst (λ (Q : Procedure). IsTail p f t Q.result x) (some_same m.0 P (sym m.1 ∙ there)) m.2 in
      let second : IsTail p f t P.result y = subst (λ (Q : Procedure). IsTail p f t Q.result y) (some_same n.0 P (sym n.1 ∙ there)) n.2 in
      d ∙ ap (λ tail. line (decimal q) ++ tail) (tail_single P there member P.result refl x y first second) ∙ sym e

-- and there is one
pub run_text_comes : (p : Program) → IsProgram p → IsFounded p → (f : ℕ) (t : Tree) → Takes p f t → (q : ℕ) → (bytes : List ℕ) × IsRunText p f t q bytes
run_text_comes p is founded f t (P, there, member) q = let r = by P.result refl in (line (decimal q) ++ r.0, (r.0, (P, there, r.1), refl))
  where
    by : (result : Option Result) → P.result ≡ result → (tail : List ℕ) × IsTail p f t P.result tail
    by None e = ([], subst (λ o. IsTail p f t o []) (sym e) refl)
    by (Some result) e =
        let m = each_makes_one p is founded f P result there e t member in
        (line (structure_text m.0), subst (λ o. IsTail p f t o (line (structure_text m.0))) (sym e) (m.0, m.1, refl))

-- a procedure without a result shows nothing behind its charge
pub no_tail : (p : Program) (f : ℕ) (t : Tree) → Takes p f t → has_result p f ≡ false → (old : List ℕ) → AddsTail p f t old old
no_tail p f t (P, there, member) e old = ([], (P, there, by P.result refl (sym (ap makes_some there) ∙ e)), sym (append-nil old))
  where
    differ : true ≡ false → ⊥
    differ e = cc

    by : (result : Option Result) → P.result ≡ result → is_result P.result ≡ false → IsTail p f t P.result []
    by None is e = subst (λ o. IsTail p f t o []) (sym is) refl
    by (Some result) is e = absurd (differ (sym (ap is_result is) ∙ e))

-- one with a result makes something
pub takes_for_result : (p : Program) (f : ℕ) (t : Tree) → Takes p f t → has_result p f ≡ true → TakesForResult p f t
takes_for_result p f t (P, there, member) e = by P.result refl (sym (ap makes_some there) ∙ e)
  where
    differ : false ≡ true → ⊥
    differ e = cc

    by : (result : Option Result) → P.result ≡ result → is_result P.result ≡ true → TakesForResult p f t
    by None is e = absurd (differ (sym (ap is_result is) ∙ e))
    by (Some result) is e = (P, result, there, is, member)

-- which is shown
pub tail_put : (p : Program) (f : ℕ) (t made : Tree) → TakesForResult p f t → Makes p f t made → (old text new : List ℕ) → text ≡ old ++ structure_text made → new ≡ text ++ 10 ∷ [] → AddsTail p f t old new
tail_put p f t made (P, result, there, is, member) makes old text new e g =
    (line (structure_text made), (P, there, subst (λ o. IsTail p f t o (line (structure_text made))) (sym is) (made, makes, refl)), g ∙ ap (λ z. z ++ 10 ∷ []) e ∙ append_assoc old (structure_text made) (10 ∷ []))
