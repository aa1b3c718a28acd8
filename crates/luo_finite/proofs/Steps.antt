-- Steps in order: at most one answer, and how an answer passes them.
use Rattle.std.proofs.Common.{sym, subst, inl, inr}
use Rattle.luo_finite.specs.Steps.{◌or_else◌, With, IsSingle}

-- an ordered choice of steps of at most one answer each gives at most one
pub or_else-single : {A : Type 0} (first rest : A → Type 0) → IsSingle first → IsSingle rest → IsSingle (first or_else rest)
or_else-single first rest f r a b (inl p) (inl q) = f a b p q
or_else-single first rest f r a b (inl p) (inr q) = absurd (q.0 a p)
or_else-single first rest f r a b (inr p) (inl q) = absurd (p.0 b q)
or_else-single first rest f r a b (inr p) (inr q) = r a b p.1 q.1

-- what follows from the one thing of a stage is at most one
pub With-single : {X A : Type 0} (stage : X → Type 0) (rest : X → A → Type 0) → IsSingle stage → ((x : X) → IsSingle (rest x)) → IsSingle (With stage rest)
With-single stage rest s r a b (x, p, m) (y, q, n) = r x a b m (subst (λ z. rest z b) (sym (s x y p q)) n)

-- what the first step answers, the whole answers
pub taken : {A : Type 0} (first rest : A → Type 0) (answer : A) → first answer → (first or_else rest) answer
taken first rest answer h = inl h

-- where the first step has no answer, the answers of the whole are those of the rest
pub passed : {A : Type 0} (first rest : A → Type 0) (answer : A) → ((other : A) → first other → ⊥) → rest answer → (first or_else rest) answer
passed first rest answer none h = inr (none, h)

pub passed_back : {A : Type 0} (first rest : A → Type 0) (answer : A) → ((other : A) → first other → ⊥) → (first or_else rest) answer → rest answer
passed_back first rest answer none (inl p) = absurd (none answer p)
passed_back first rest answer none (inr q) = q.1

-- where a stage makes x, what follows from x follows from the stage
pub With-passed : {X A : Type 0} (stage : X → Type 0) (rest : X → A → Type 0) (x : X) (answer : A) → stage x → rest x answer → With stage rest answer
With-passed stage rest x answer s h = (x, s, h)

-- and where it makes nothing else, nothing else follows
pub With-passed_back : {X A : Type 0} (stage : X → Type 0) (rest : X → A → Type 0) (x : X) (answer : A) → IsSingle stage → stage x → With stage rest answer → rest x answer
With-passed_back stage rest x answer one s (y, q, n) = subst (λ z. rest z answer) (one y x q s) n

-- a choice, or what follows from a stage, answers as soon as its parts do
pub or_else-into : {A : Type 0} (first rest more : A → Type 0) (answer : A) → ((a : A) → rest a → more a) → (first or_else rest) answer → (first or_else more) answer
or_else-into first rest more answer h (inl p) = inl p
or_else-into first rest more answer h (inr q) = inr (q.0, h answer q.1)

pub With-into : {X A : Type 0} (stage : X → Type 0) (rest more : X → A → Type 0) (answer : A) → ((x : X) (a : A) → stage x → rest x a → more x a) → With stage rest answer → With stage more answer
With-into stage rest more answer h (x, s, p) = (x, s, h x answer s p)
