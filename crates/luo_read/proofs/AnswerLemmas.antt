-- Of a text there is one answer.
use Rattle.std.proofs.Common.{◌≡◌, ◌↔◌, Bool, true, false, IsTrue, ℕ, ◌≤◌, ◌<◌, List, ◌⊎◌, inl, inr, ⊎_elim, length, refl, sym, ap, subst, ◌∙◌, arith}
use Rattle.std.specs.Prelude.{Result, MatchResult}
use Rattle.std.specs.Result.{IsErrAnd}
use Rattle.std.proofs.lemmas.Result.{err_from_is_err_and}
use Rattle.luo_model.specs.Structures.{IsStructure}
use Rattle.luo_model.specs.Tree.{Tree, size_of}
use Rattle.luo_model.specs.Program.{Program}
use Rattle.luo_struct.proofs.MemberLemmas.{failed}
use Rattle.luo_read.specs.declared.answers.StructError.{StructError}
use Rattle.luo_read.specs.declared.answers.StructError.TheVariants.{Long, S1, Deep, S2, S3, NoMemory}
use Rattle.luo_read.specs.Written.{IsUnreadable}
use Rattle.luo_read.specs.Nesting.{IsTooDeep}
use Rattle.luo_read.specs.Reading.{IsReadable, IsNamed, Reads, Refusal, Refuses, WantsMemory, Answers}
use Rattle.luo_read.specs.inner.Readers.{IsRead, Stops}

pub passed_on : {T : Type 0} (r : Result T StructError) (e : StructError) (P : T → Type 0) (Q : StructError → Type 0) → IsErrAnd r (λ y. y ≡ e) → Q e → MatchResult r P Q
passed_on r e P Q h q = let fault = err_from_is_err_and r h in rw (fault.1, fault.2) q

which : (a b : ℕ) → (a ≡ b) ⊎ ((a < b) ⊎ (b < a))
which a b = grind arith

one_place : (text : List ℕ) (a b : ℕ) → IsUnreadable text a → IsUnreadable text b → a ≡ b
one_place text a b h k = ⊎_elim (λ e. e) (λ o. ⊎_elim (λ l. absurd (h.longest b l k.within k.begins)) (λ l. absurd (k.longest a l h.within h.begins)) o) (which a b)

one_depth : (text : List ℕ) (a b : ℕ) → IsTooDeep text a → IsTooDeep text b → a ≡ b
one_depth text a b h k = ⊎_elim (λ e. e) (λ o. ⊎_elim (λ l. absurd (k.2 a l h.1)) (λ l. absurd (h.2 b l k.1)) o) (which a b)

before_or : (a d : ℕ) → (a ≤ d) ⊎ (d < a)
before_or a d = grind arith

module _ (p : Program) (x : ℕ) (text : List ℕ) where
  apart : (a d : ℕ) → Refusal p x text (S1 a) → Refusal p x text (Deep d) → ⊥
  apart a d h k = ⊎_elim (λ l. k.2 a l h.1) (λ l. h.2 d l k.1) (before_or a d)

  -- so that structures of the node with the text are the same
  abbrev pub OneNamed : Type 0
  OneNamed = length text ≤ 65536 → (t u : Tree) → IsNamed p x text t → IsNamed p x text u → t ≡ u

  -- the errors that come of the text alone
  abbrev pub IsEarly : StructError → Type 0
  IsEarly (Long len) = Unit {0}
  IsEarly (S1 at) = Unit {0}
  IsEarly (Deep at) = Unit {0}
  IsEarly NoMemory = Unit {0}
  IsEarly _ = ⊥

  refuses : (e : StructError) → Refusal p x text e → Refuses p x text e
  refuses (Long len) h = h
  refuses (S1 at) h = h
  refuses (Deep at) h = h
  refuses S2 h = h
  refuses (S3 size) h = h
  refuses NoMemory h = tt

  early_read : (e : StructError) (t : Tree) → IsEarly e → Refuses p x text e → Reads p x text t → WantsMemory e
  early_read (Long len) t i h r = absurd (omega (arith, h.0, r.readable.not_long))
  early_read (S1 at) t i h r = absurd (h.1.no_text r.readable.is_text)
  early_read (Deep at) t i h r = absurd (r.readable.not_deep at h.1)
  early_read S2 t i h r = absurd i
  early_read (S3 size) t i h r = absurd i
  early_read NoMemory t i h r = refl

  early_one : (e f : StructError) → IsEarly f → Refusal p x text e → Refuses p x text f → Answers e f
  early_one NoMemory f i h k = absurd h
  early_one e NoMemory i h k = inr refl
  early_one e S2 i h k = absurd i
  early_one e (S3 size) i h k = absurd i
  early_one (Long a) (Long b) i h k = inl (ap Long (k.1 ∙ sym h.1))
  early_one (Long a) (S1 b) i h k = absurd (omega (arith, h.0, k.0))
  early_one (Long a) (Deep b) i h k = absurd (omega (arith, h.0, k.0))
  early_one (S1 a) (Long b) i h k = absurd (omega (arith, h.0, k.0))
  early_one (S1 a) (S1 b) i h k = inl (ap S1 (one_place text b a k.1 h.1))
  early_one (S1 a) (Deep b) i h k = absurd (apart a b h k)
  early_one (Deep a) (Long b) i h k = absurd (omega (arith, h.0, k.0))
  early_one (Deep a) (S1 b) i h k = absurd (apart b a k h)
  early_one (Deep a) (Deep b) i h k = inl (ap Deep (one_depth text b a k.1 h.1))
  early_one S2 (Long b) i h k = absurd (omega (arith, h.0.not_long, k.0))
  early_one S2 (S1 b) i h k = absurd (k.1.no_text h.0.is_text)
  early_one S2 (Deep b) i h k = absurd (h.0.not_deep b k.1)
  early_one (S3 a) (Long b) i h k = absurd (omega (arith, h.0.not_long, k.0))
  early_one (S3 a) (S1 b) i h k = absurd (k.1.no_text h.0.is_text)
  early_one (S3 a) (Deep b) i h k = absurd (h.0.not_deep b k.1)

  -- ---- at an error of the text alone

  pub early_always : (e : StructError) → IsEarly e → Refuses p x text e → (t : Tree) → Reads p x text t → WantsMemory e
  early_always e i h t r = early_read e t i h r

  pub early_first : (f : StructError) → IsEarly f → Refuses p x text f → (e : StructError) → Refusal p x text e → Answers e f
  early_first f i k e h = early_one e f i h k

  pub stops_early : (e : StructError) → Stops text e → IsEarly e
  stops_early (Long len) h = absurd h
  stops_early (S1 at) h = tt
  stops_early (Deep at) h = tt
  stops_early S2 h = absurd h
  stops_early (S3 size) h = absurd h
  stops_early NoMemory h = tt

  pub stops_refuses : (e : StructError) → length text ≤ 65536 → Stops text e → Refuses p x text e
  stops_refuses (Long len) l h = absurd h
  stops_refuses (S1 at) l h = (l, h.0, h.1)
  stops_refuses (Deep at) l h = (l, h.0, h.1)
  stops_refuses S2 l h = absurd h
  stops_refuses (S3 size) l h = absurd h
  stops_refuses NoMemory l h = tt

  -- ---- where a structure has the text

  abbrev pub Whole : Tree → Type 0
  Whole t = IsStructure p x (size_of t) t

  pub readable : (r : Tree) → length text ≤ 65536 → IsRead text r → IsReadable text
  readable r l h = record { not_long = l; not_deep = h.not_deep; is_text = (r, h.written, h.its_text) }

  pub refuses_s2 : (r : Tree) → length text ≤ 65536 → IsRead text r → (is : Bool) → (IsTrue is ↔ Whole r) → is ≡ false → ((t : Tree) → IsNamed p x text t → t ≡ r) → Refusal p x text S2
  refuses_s2 r l h is d e same = (readable r l h, λ t n. failed is d e (subst Whole (same t n) n.0))

  pub reads_named : (r : Tree) → IsRead text r → (is : Bool) → (IsTrue is ↔ Whole r) → is ≡ true → IsNamed p x text r
  reads_named r h is d e = (d.0 e, h.its_text)

  pub refuses_s3 : (r : Tree) (size : ℕ) → length text ≤ 65536 → IsRead text r → IsNamed p x text r → size ≡ size_of r → 40 < size → Refusal p x text (S3 size)
  refuses_s3 r size l h n e b = (readable r l h, (r, n, e, omega (arith, b, e)))

  pub reads : (r : Tree) (size : ℕ) → length text ≤ 65536 → IsRead text r → IsNamed p x text r → size ≡ size_of r → size ≤ 40 → Reads p x text r
  reads r size l h n e b = record { readable = readable r l h; named = n; small = omega (arith, b, e) }

  -- an error that isn't of the text alone comes with none that is
  late_one : (e f : StructError) → (IsEarly f → ⊥) → Refusal p x text e → Refusal p x text f → IsEarly e → ⊥
  late_one e f n h k i = ⊎_elim (λ (q : e ≡ f). n (subst IsEarly q i)) (λ (q : e ≡ NoMemory). subst (Refusal p x text) q h) (early_one f e i k (refuses e h))

  s2_one : (e : StructError) → Refusal p x text e → Refusal p x text S2 → Answers e S2
  s2_one (S3 size) h k = absurd (k.1 h.1.0 h.1.1)
  s2_one S2 h k = inl refl
  s2_one (Long len) h k = absurd (late_one (Long len) S2 (λ i. i) h k tt)
  s2_one (S1 at) h k = absurd (late_one (S1 at) S2 (λ i. i) h k tt)
  s2_one (Deep at) h k = absurd (late_one (Deep at) S2 (λ i. i) h k tt)
  s2_one NoMemory h k = absurd h

  pub s2_first : Refusal p x text S2 → (e : StructError) → Refusal p x text e → Answers e S2
  s2_first k e h = s2_one e h k

  pub s2_always : Refusal p x text S2 → (t : Tree) → Reads p x text t → WantsMemory S2
  s2_always k t r = absurd (k.1 t r.named)

  module _ (one : OneNamed) where
    s3_one : (e : StructError) (size : ℕ) → Refusal p x text e → Refusal p x text (S3 size) → Answers e (S3 size)
    s3_one (S3 a) size h k = inl (ap S3 (k.1.2 ∙ ap size_of (one k.0.not_long k.1.0 h.1.0 k.1.1 h.1.1) ∙ sym h.1.2))
    s3_one S2 size h k = absurd (h.1 k.1.0 k.1.1)
    s3_one (Long len) size h k = absurd (late_one (Long len) (S3 size) (λ i. i) h k tt)
    s3_one (S1 at) size h k = absurd (late_one (S1 at) (S3 size) (λ i. i) h k tt)
    s3_one (Deep at) size h k = absurd (late_one (Deep at) (S3 size) (λ i. i) h k tt)
    s3_one NoMemory size h k = absurd h

    pub s3_first : (size : ℕ) → Refusal p x text (S3 size) → (e : StructError) → Refusal p x text e → Answers e (S3 size)
    s3_first size k e h = s3_one e size h k

    pub s3_always : (size : ℕ) → Refusal p x text (S3 size) → (t : Tree) → Reads p x text t → WantsMemory (S3 size)
    s3_always size k t r = absurd (omega (arith, r.small, k.1.3, ap size_of (one k.0.not_long k.1.0 t k.1.1 r.named)))

    pub ok_always : (r : Tree) → Reads p x text r → (t : Tree) → Reads p x text t → r ≡ t
    ok_always r h t k = one h.readable.not_long r t h.named k.named

    ok_one : (e : StructError) (r : Tree) → Reads p x text r → Refusal p x text e → ⊥
    ok_one (Long len) r h k = omega (arith, k.0, h.readable.not_long)
    ok_one (S1 at) r h k = k.1.no_text h.readable.is_text
    ok_one (Deep at) r h k = h.readable.not_deep at k.1
    ok_one S2 r h k = k.1 r h.named
    ok_one (S3 size) r h k = omega (arith, h.small, k.1.3, ap size_of (one k.0.not_long k.1.0 r k.1.1 h.named))
    ok_one NoMemory r h k = k

    pub ok_first : (r : Tree) → Reads p x text r → (e : StructError) → Refusal p x text e → ⊥
    ok_first r h e k = ok_one e r h k
