-- Steps of one answer: at most one refusal, at most one thing handed on, never both.
use Rattle.std.proofs.Common.{ℕ, List, sym, ◌∙◌, ap, subst, inl, inr}
use Rattle.luo_finite.specs.Steps.{IsSingle}
use Rattle.luo_answer.specs.declared.status.Status.{Status}
use Rattle.luo_answer.specs.Answer.{Answer, Output}
use Rattle.luo_answer.specs.Step.{Step, HasNone, ◌or_makes◌, ◌and_then◌, RefusedWhere, makes, ends}

pub record IsSole {X : Type 0} (step : Step X) : Type 0 where
  pub refusal : IsSingle step.refuses
  pub hands : IsSingle step.hands
  pub apart : (a : Answer) (x : X) → step.refuses a → step.hands x → ⊥

pub or_makes-sole : {X : Type 0} (refuses : Answer → Type 0) (made : X → Type 0) → IsSingle refuses → (HasNone refuses → IsSingle made) → IsSole (refuses or_makes made)
or_makes-sole refuses made r m = record { refusal = r; hands = λ x y (none, p) (other, q). m none x y p q; apart = λ a x p (none, q). none a p }

module _ {X Y : Type 0} (first : Step X) (second : X → Step Y) where
  one_refusal : IsSole first → ((x : X) → first.hands x → IsSole (second x)) → IsSingle (first and_then second).refuses
  unfolding ◌and_then◌
  one_refusal f s a b (inl p) (inl q) = f.refusal a b p q
  one_refusal f s a b (inl p) (inr (x, h, q)) = absurd (f.apart a x p h)
  one_refusal f s a b (inr (x, h, p)) (inl q) = absurd (f.apart b x q h)
  one_refusal f s a b (inr (x, h, p)) (inr (y, k, q)) = (s x h).refusal a b p (subst (λ z. (second z).refuses b) (sym (f.hands x y h k)) q)

  one_handed : IsSole first → ((x : X) → first.hands x → IsSole (second x)) → IsSingle (first and_then second).hands
  unfolding ◌and_then◌
  one_handed f s a b (x, h, p) (y, k, q) = (s x h).hands a b p (subst (λ z. (second z).hands b) (sym (f.hands x y h k)) q)

  never_both : IsSole first → ((x : X) → first.hands x → IsSole (second x)) → (a : Answer) (y : Y) → (first and_then second).refuses a → (first and_then second).hands y → ⊥
  unfolding ◌and_then◌
  never_both f s a z (inl p) (x, h, q) = f.apart a x p h
  never_both f s a z (inr (x, h, p)) (y, k, q) = (s x h).apart a z p (subst (λ w. (second w).hands z) (sym (f.hands x y h k)) q)

  pub and_then-sole : IsSole first → ((x : X) → first.hands x → IsSole (second x)) → IsSole (first and_then second)
  and_then-sole f s = record { refusal = one_refusal f s; hands = one_handed f s; apart = never_both f s }

pub ends-single : (step : Step (List ℕ)) → IsSole step → IsSingle (ends step)
ends-single step s a b (inl p) (inl q) = s.refusal a b p q
ends-single step s a b (inl p) (inr (x, h, e)) = absurd (s.apart a x p h)
ends-single step s a b (inr (x, h, e)) (inl q) = absurd (s.apart b x q h)
ends-single step s a b (inr (x, h, e)) (inr (y, k, d)) = e ∙ ap Output (s.hands x y h k) ∙ sym d

pub refused-single : (fact : Type 0) (status : Status) (bytes : List ℕ) → IsSingle (RefusedWhere fact status bytes)
refused-single fact status text a b p q = p.1 ∙ sym q.1

pub makes-sole : {X : Type 0} (made : X → Type 0) → IsSingle made → IsSole (makes made)
makes-sole made m = or_makes-sole _ made (λ a b p q. absurd p) (λ none. m)
