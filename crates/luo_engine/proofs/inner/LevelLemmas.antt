-- A site has one level.
use Rattle.std.proofs.Common.{◌≡◌, ℕ, zero, suc, List, slice_get, max, Some, sym, ◌∙◌, ap, subst}
use Rattle.luo_finite.proofs.Places.{place_in}
use Rattle.luo_model.specs.Program.{Program, Procedure, Body, Does, Items, no_items, item, Item, Call, Case, Forall}
use Rattle.luo_model.specs.Charges.{Work, of_body, of_call, of_case, of_walk, works_of}
use Rattle.luo_model.specs.Levels.{ItemLevel, ItemsLevel, BodyLevel, LevelWithin, WholeLevel, WorkLevel, IsLevel}
use Rattle.luo_model.specs.Invariant.{IsProgram}
use Rattle.luo_model.proofs.WorkLemmas.{work_at}

some_one : {A : Type 0} (x y : A) → Some x ≡ Some y → x ≡ y
some_one x y e = cc

module _ (R S : ℕ → ℕ → Type 0) (one : (g a b : ℕ) → R g a → S g b → a ≡ b) where
  item_one : (i : Item) (a b : ℕ) → ItemLevel R i a → ItemLevel S i b → a ≡ b
  item_one (Call var callee site) a b h k = h.2 ∙ ap suc (one callee h.0 k.0 h.1 k.1) ∙ sym k.2
  item_one (Case var arms site) a b h k = h ∙ sym k
  item_one (Forall var body body_site site) a b h k = h ∙ sym k

  items_one : (is : Items) (a b : ℕ) → ItemsLevel R is a → ItemsLevel S is b → a ≡ b
  items_one no_items a b h k = h ∙ sym k
  items_one (item i is) a b h k = h.4 ∙ ap (λ z. max z h.1) (item_one i h.0 k.0 h.2 k.2) ∙ ap (λ z. max k.0 z) (items_one is h.1 k.1 h.3 k.3) ∙ sym k.4

  body_one : (body : Body) (a b : ℕ) → BodyLevel R body a → BodyLevel S body b → a ≡ b
  body_one (Does own no_items) a b h k = h ∙ sym k
  body_one (Does own (item i is)) a b h k = h.2 ∙ ap suc (items_one (item i is) h.0 k.0 h.1 k.1) ∙ sym k.2

within_one : (procs : List Procedure) (d e f a b : ℕ) → LevelWithin procs d f a → LevelWithin procs e f b → a ≡ b
within_one procs zero e f a b h k = absurd h
within_one procs (suc d) zero f a b h k = absurd k
within_one procs (suc d) (suc e) f a b h k =
    let same : k.0 ≡ h.0 = some_one k.0 h.0 (sym k.1 ∙ h.1) in
    body_one (LevelWithin procs d) (LevelWithin procs e) (λ g x y. within_one procs d e g x y) h.0.body a b h.2 (subst (λ (P : Procedure). BodyLevel (LevelWithin procs e) P.body b) same k.2)

whole_one : (p : Program) (f a b : ℕ) → WholeLevel p f a → WholeLevel p f b → a ≡ b
whole_one p f a b h k = within_one p.procs h.0 k.0 f a b h.1 k.1

work_one : (p : Program) (work : Work) (a b : ℕ) → WorkLevel p work a → WorkLevel p work b → a ≡ b
work_one p (of_body body) a b h k = body_one (WholeLevel p) (WholeLevel p) (whole_one p) body a b h k
work_one p (of_call callee) a b h k = h.2 ∙ ap suc (whole_one p callee h.0 k.0 h.1 k.1) ∙ sym k.2
work_one p (of_case arms) a b h k = h ∙ sym k
work_one p (of_walk body) a b h k = h ∙ sym k

pub level_one : (p : Program) → IsProgram p → (i a b : ℕ) → IsLevel p i a → IsLevel p i b → a ≡ b
level_one p q i a b h k =
    let u = place_in (i, h.0) (works_of p) h.1 in
    let v = place_in (i, k.0) (works_of p) k.1 in
    let x = work_at p q u.0 (i, h.0) u.1 in
    let y = work_at p q v.0 (i, k.0) v.1 in
    let at : v.0 ≡ u.0 = sym y.2 ∙ x.2 in
    let pair : (i, k.0) ≡ (i, h.0) = some_one (i, k.0) (i, h.0) (sym v.1 ∙ ap (slice_get (works_of p)) at ∙ u.1) in
    work_one p h.0 a b h.2 (subst (λ (w : Work). WorkLevel p w b) (ap (λ (z : ℕ × Work). z.1) pair) k.2)
