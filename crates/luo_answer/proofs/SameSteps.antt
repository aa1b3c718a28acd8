-- Steps that refuse the same, and hand on what goes together.
use Rattle.std.proofs.Common.{◌≡◌, ◌↔◌, ℕ, List, refl, sym, ap, ◌∙◌, inl, inr}
use Rattle.luo_finite.specs.Steps.{◌or_else◌}
use Rattle.luo_answer.specs.Answer.{Answer, Output}
use Rattle.luo_answer.specs.Step.{Step, HasNone, ◌or_makes◌, ◌and_then◌, ends}

-- the same first answers, and rests that agree where there are none
pub same_rest : (first rest other : Answer → Type 0) → ((a : Answer) → rest a ↔ other a) → (a : Answer) → (first or_else rest) a ↔ (first or_else other) a
same_rest first rest other e a = (
  λ s. elim s [ inl x ↦ inl x | inr x ↦ inr (x.0, (e a).0 x.1) ],
  λ s. elim s [ inl x ↦ inl x | inr x ↦ inr (x.0, (e a).1 x.1) ],
)

-- first answers that agree, and rests that do
pub same_else : (first second rest other : Answer → Type 0) → ((a : Answer) → first a ↔ second a) → ((a : Answer) → rest a ↔ other a) → (a : Answer) → (first or_else rest) a ↔ (second or_else other) a
same_else first second rest other f e a = (
  λ s. elim s [ inl x ↦ inl ((f a).0 x) | inr x ↦ inr ((λ b y. x.0 b ((f b).1 y)), (e a).0 x.1) ],
  λ s. elim s [ inl x ↦ inl ((f a).1 x) | inr x ↦ inr ((λ b y. x.0 b ((f b).0 y)), (e a).1 x.1) ],
)

-- two steps refuse the same, and what one hands on goes with something that the other hands on
pub record Match {X Y : Type 0} (Goes : X → Y → Type 0) (s : Step X) (t : Step Y) : Type 0 where
  pub refuses : (a : Answer) → s.refuses a ↔ t.refuses a
  pub forth : (x : X) → s.hands x → (y : Y) × t.hands y × Goes x y
  pub back : (y : Y) → t.hands y → (x : X) × s.hands x × Goes x y

-- a step and itself
pub same_step : {X : Type 0} (s : Step X) → Match (λ x y. x ≡ y) s s
same_step s = record { refuses = λ a. (λ h. h, λ h. h); forth = λ x h. (x, h, refl); back = λ x h. (x, h, refl) }

-- steps that refuse the same, and else make what goes together
pub same_makes : {X Y : Type 0} (Goes : X → Y → Type 0) (refuses other : Answer → Type 0) (made : X → Type 0) (makes : Y → Type 0) → ((a : Answer) → refuses a ↔ other a)
    → (HasNone refuses → (x : X) → made x → (y : Y) × makes y × Goes x y) → (HasNone refuses → (y : Y) → makes y → (x : X) × made x × Goes x y)
    → Match Goes (refuses or_makes made) (other or_makes makes)
same_makes Goes refuses other made makes e f b = record {
  refuses = e;
  forth = λ x h. let k = f h.0 x h.1 in (k.0, ((λ a r. h.0 a ((e a).1 r)), k.1), k.2);
  back = λ y h. let none : HasNone refuses = λ a r. h.0 a ((e a).0 r) in let k = b none y h.1 in (k.0, (none, k.1), k.2);
}

module _ {X Y Z W : Type 0} (Goes : X → Y → Type 0) (After : Z → W → Type 0) (s : Step X) (t : Step Y) (f : X → Step Z) (g : Y → Step W) where
  -- matching steps, and behind them steps that match
  pub same_both : Match Goes s t → ((x : X) (y : Y) → Goes x y → Match After (f x) (g y)) → Match After (s and_then f) (t and_then g)
  unfolding ◌and_then◌
  same_both m n = record {
    refuses = λ a. (
      λ h. elim h [ inl r ↦ inl ((m.refuses a).0 r) | inr k ↦ let y = m.forth k.0 k.1 in inr (y.0, y.1, ((n k.0 y.0 y.2).refuses a).0 k.2) ],
      λ h. elim h [ inl r ↦ inl ((m.refuses a).1 r) | inr k ↦ let x = m.back k.0 k.1 in inr (x.0, x.1, ((n x.0 k.0 x.2).refuses a).1 k.2) ],
    );
    forth = λ z h. let y = m.forth h.0 h.1 in let w = (n h.0 y.0 y.2).forth z h.2 in (w.0, (y.0, y.1, w.1), w.2);
    back = λ w h. let x = m.back h.0 h.1 in let z = (n x.0 h.0 x.2).back w h.2 in (z.0, (x.0, x.1, z.1), z.2);
  }

module _ {X Z W : Type 0} (After : Z → W → Type 0) (s : Step X) (f : X → Step Z) (g : X → Step W) where
  -- one step, and behind what it hands on steps that match
  pub same_first : ((x : X) → s.hands x → Match After (f x) (g x)) → Match After (s and_then f) (s and_then g)
  unfolding ◌and_then◌
  same_first n = record {
    refuses = λ a. (
      λ h. elim h [ inl r ↦ inl r | inr k ↦ inr (k.0, k.1, ((n k.0 k.1).refuses a).0 k.2) ],
      λ h. elim h [ inl r ↦ inl r | inr k ↦ inr (k.0, k.1, ((n k.0 k.1).refuses a).1 k.2) ],
    );
    forth = λ z h. let w = (n h.0 h.1).forth z h.2 in (w.0, (h.0, h.1, w.1), w.2);
    back = λ w h. let z = (n h.0 h.1).back w h.2 in (z.0, (h.0, h.1, z.1), z.2);
  }

-- runs by matching steps have the same answers
pub same_ends : (s t : Step (List ℕ)) → Match (λ x y. x ≡ y) s t → (a : Answer) → ends s a ↔ ends t a
same_ends s t m a = (
  λ h. elim h [ inl r ↦ inl ((m.refuses a).0 r) | inr k ↦ let y = m.forth k.0 k.1 in inr (y.0, y.1, k.2 ∙ ap Output y.2) ],
  λ h. elim h [ inl r ↦ inl ((m.refuses a).1 r) | inr k ↦ let x = m.back k.0 k.1 in inr (x.0, x.1, k.2 ∙ ap Output (sym x.2)) ],
)
