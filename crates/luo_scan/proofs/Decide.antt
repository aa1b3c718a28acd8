-- A text has tokens or a first fault.
use Rattle.std.proofs.Common.{◌≡◌, ◌≢◌, ◌≤◌, ◌+◌, ℕ, zero, suc, List, [], ◌∷◌, ◌++◌, length, take, drop, bytes_eq, refl, ap, sym, ◌∙◌, subst, inl, inr, arith, Option, None, Some}
use Rattle.std.specs.Prelude.{◌⊎◌}
use Rattle.std.specs.List.{AllByRecursion}
use Rattle.std.proofs.Math.Seq.{take-append_seam}
use Rattle.std.proofs.lemmas.Bool.{cases_lt, cases_eq, cases_Bool}
use Rattle.std.proofs.lemmas.List.{length-append, take-append-drop}
use Rattle.std.proofs.lemmas.Slice.Eq.{bytes_eq-Decides}
use Rattle.luo_num.specs.declared.limits.TheConstants.{NAME_LIMIT, NUMBER_LIMIT}
use Rattle.luo_scan.specs.declared.token.Mark.{Mark}
use Rattle.luo_scan.specs.declared.token.TokenKind.{TokenKind}
use Rattle.luo_scan.specs.declared.token.TokenKind.TheVariants as kind
use Rattle.luo_scan.specs.declared.token.Token.{Token}
use Rattle.luo_scan.specs.Bytes.{IsSeparator, IsDigit, IsLetter, IsNameByte}
use Rattle.luo_scan.specs.Prefixes.{Stops}
use Rattle.luo_scan.specs.Spellings.{spelling, sign}
use Rattle.luo_scan.specs.Tokens.{Begins, BeginsNot, IsWithin, TokensFrom, at_end, skipped, taken, LexicalFault, bad_byte, long_name, large_number, FaultFrom, no_piece, name_limit, number_limit, behind_separator, behind_token}
use Rattle.luo_scan.proofs.Exclusions.{word_of, word_of-spelling, mark_of, mark_of-sign}
use Rattle.luo_scan.proofs.Longest.{begins_separator, begins_comment, begins_name, begins_word, begins_zero, begins_number, begins_mark, begins_not}
use Rattle.luo_scan.proofs.OneKind.{piece_some}
use Rattle.luo_scan.proofs.Shapes.{mark_length}

-- it holds or it doesn't
abbrev Decided : Type 0 → Type 0
Decided P = P ⊎ (P → ⊥)

either : (P Q : Type 0) → Decided P → Decided Q → Decided (P ⊎ Q)
either P Q (inl p) q = inl (inl p)
either P Q (inr p) (inl q) = inl (inr q)
either P Q (inr p) (inr q) = inr (λ h. elim h as (λ _. ⊥) [ inl a ↦ p a | inr b ↦ q b ])

within : (low b high : ℕ) → Decided ((low ≤ b) × (b ≤ high))
within low b high =
    elim (cases_lt b low) as (λ _. Decided ((low ≤ b) × (b ≤ high))) [
      | inl l ↦ inr (λ h. omega arith)
      | inr l ↦ elim (cases_lt high b) as (λ _. Decided ((low ≤ b) × (b ≤ high))) [ inl m ↦ inr (λ h. omega arith) | inr m ↦ inl (l, m) ]
    ]

separator_or : (b : ℕ) → Decided (IsSeparator b)
separator_or b = either _ _ (cases_eq b 32) (either _ _ (cases_eq b 9) (either _ _ (cases_eq b 13) (cases_eq b 10)))

letter_or : (b : ℕ) → Decided (IsLetter b)
letter_or b = either _ _ (within 65 b 90) (within 97 b 122)

digit_or : (b : ℕ) → Decided (IsDigit b)
digit_or b = within 48 b 57

name_byte_or : (b : ℕ) → Decided (IsNameByte b)
name_byte_or b = either _ _ (letter_or b) (either _ _ (digit_or b) (cases_eq b 95))

comment_byte_or : (b : ℕ) → Decided (b ≢ 10)
comment_byte_or b = elim (cases_eq b 10) as (λ _. Decided (b ≢ 10)) [ inl e ↦ inr (λ n. n e) | inr n ↦ inl n ]

list_or : (p q : List ℕ) → Decided (p ≡ q)
list_or p q =
    let d = bytes_eq-Decides p q in
    elim (cases_Bool (bytes_eq p q)) as (λ _. Decided (p ≡ q)) [ inl t ↦ inl (d.0 t) | inr f ↦ inr (λ e. let t = d.1 e in cc) ]

-- the longest prefix of a kind
record Cut (P : ℕ → Type 0) (text : List ℕ) : Type 0 where
  prefix : List ℕ
  rest : List ℕ
  whole : prefix ++ rest ≡ text
  all : AllByRecursion P prefix
  stops : Stops P rest

cut_more : (P : ℕ → Type 0) (b : ℕ) (bs : List ℕ) → P b → Cut P bs → Cut P (b ∷ bs)
cut_more P b bs p c = record { prefix = b ∷ c.prefix; rest = c.rest; whole = ap (λ z. b ∷ z) c.whole; all = (p, c.all); stops = c.stops }

cut : (P : ℕ → Type 0) → ((b : ℕ) → Decided (P b)) → (text : List ℕ) → Cut P text
cut P d [] = record { prefix = []; rest = []; whole = refl; all = tt; stops = tt }
cut P d (b ∷ bs) = elim (d b) as (λ _. Cut P (b ∷ bs)) [
  | inl p ↦ cut_more P b bs p (cut P d bs)
  | inr n ↦ record { prefix = []; rest = b ∷ bs; whole = refl; all = tt; stops = n }
]

-- the longest piece of a text
record Piece (text : List ℕ) : Type 0 where
  piece : List ℕ
  rest : List ℕ
  what : Option TokenKind
  begins : Begins text piece rest what

piece_behind : (b : ℕ) (ps rest text : List ℕ) (what : Option TokenKind) → ps ++ rest ≡ text → Begins (b ∷ (ps ++ rest)) (b ∷ ps) rest what → Piece (b ∷ text)
piece_behind b ps rest text what e h =
    record { piece = b ∷ ps; rest = rest; what = what; begins = subst (λ z. Begins (b ∷ z) (b ∷ ps) rest what) e h }

name_or_word : (b : ℕ) (text : List ℕ) → IsLetter b → Piece (b ∷ text)
name_or_word b text l =
    let c = cut IsNameByte name_byte_or text in
    elim (list_or (spelling (word_of (b ∷ c.prefix))) (b ∷ c.prefix)) as (λ _. Piece (b ∷ text)) [
      | inl e ↦ piece_behind b c.prefix c.rest text _ c.whole (begins_word (word_of (b ∷ c.prefix)) b c.prefix c.rest e c.stops)
      | inr n ↦ piece_behind b c.prefix c.rest text _ c.whole (begins_name b c.prefix c.rest l c.all c.stops (λ w e. n (ap spelling (sym (ap word_of e) ∙ word_of-spelling w) ∙ e)))
    ]

number_at : (b : ℕ) (text : List ℕ) → IsDigit b → Piece (b ∷ text)
number_at b text d =
    let c = cut IsDigit digit_or text in
    elim (cases_eq b 48) as (λ _. Piece (b ∷ text)) [
      | inl e ↦ subst (λ z. Piece (z ∷ text)) (sym e) (record { piece = 48 ∷ []; rest = text; what = Some (kind.Number 0); begins = begins_zero text })
      | inr n ↦ piece_behind b c.prefix c.rest text _ c.whole (begins_number b c.prefix c.rest d n c.all c.stops)
    ]

-- a mark that begins a text is its first byte or its first two bytes
sign_prefix : (m : Mark) (b : ℕ) (bs after : List ℕ) → sign m ≡ b ∷ bs → take (length (sign m)) (b ∷ (bs ++ after)) ≡ sign m
sign_prefix m b bs after e = subst (λ z. take (length z) (b ∷ (bs ++ after)) ≡ z) (sym e) (take-append_seam (b ∷ bs) after)

marked : (b : ℕ) (text : List ℕ) (n : ℕ) → sign (mark_of (take (suc n) (b ∷ text))) ≡ take (suc n) (b ∷ text) → Piece (b ∷ text)
marked b text n e = piece_behind b (take n text) (drop n text) text _ (take-append-drop n text) (begins_mark (mark_of (take (suc n) (b ∷ text))) b (take n text) (drop n text) e)

mark_again : (m : Mark) (b : ℕ) (bs after text : List ℕ) (n : ℕ) → sign m ≡ b ∷ bs → text ≡ bs ++ after → length (sign m) ≡ suc n → sign (mark_of (take (suc n) (b ∷ text))) ≡ take (suc n) (b ∷ text)
mark_again m b bs after text n e f l =
    let h : take (suc n) (b ∷ text) ≡ sign m = ap (λ z. take (suc n) (b ∷ z)) f ∙ (ap (λ k. take k (b ∷ (bs ++ after))) (sym l) ∙ sign_prefix m b bs after e) in
    ap (λ z. sign (mark_of z)) h ∙ (ap sign (mark_of-sign m) ∙ sym h)

mark_or : (b : ℕ) (text : List ℕ) → (IsSeparator b → ⊥) → b ≢ 37 → (IsLetter b → ⊥) → (IsDigit b → ⊥) → Piece (b ∷ text) ⊎ BeginsNot (b ∷ text)
mark_or b text s c l d =
    elim (list_or (sign (mark_of (take 1 (b ∷ text)))) (take 1 (b ∷ text))) as (λ _. Piece (b ∷ text) ⊎ BeginsNot (b ∷ text)) [
      | inl e ↦ inl (marked b text 0 e)
      | inr n ↦ elim (list_or (sign (mark_of (take 2 (b ∷ text)))) (take 2 (b ∷ text))) as (λ _. Piece (b ∷ text) ⊎ BeginsNot (b ∷ text)) [
        | inl e ↦ inl (marked b text 1 e)
        | inr k ↦ inr (begins_not b text s c l d (λ m bs after e f. elim (mark_length m) as (λ _. ⊥) [
          | inl h ↦ n (mark_again m b bs after text 0 e f h)
          | inr h ↦ k (mark_again m b bs after text 1 e f h)
        ]))
      ]
    ]

-- a text that is not empty begins with a piece or with none
piece_or : (b : ℕ) (text : List ℕ) → Piece (b ∷ text) ⊎ BeginsNot (b ∷ text)
piece_or b text =
    elim (separator_or b) as (λ _. Piece (b ∷ text) ⊎ BeginsNot (b ∷ text)) [
      | inl s ↦ inl (record { piece = b ∷ []; rest = text; what = None; begins = begins_separator b text s })
      | inr s ↦ elim (cases_eq b 37) as (λ _. Piece (b ∷ text) ⊎ BeginsNot (b ∷ text)) [
        | inl e ↦ inl (comment_at e)
        | inr c ↦ elim (letter_or b) as (λ _. Piece (b ∷ text) ⊎ BeginsNot (b ∷ text)) [
          | inl l ↦ inl (name_or_word b text l)
          | inr l ↦ elim (digit_or b) as (λ _. Piece (b ∷ text) ⊎ BeginsNot (b ∷ text)) [
            | inl d ↦ inl (number_at b text d)
            | inr d ↦ mark_or b text s c l d
          ]
        ]
      ]
    ] where
      comment_at : b ≡ 37 → Piece (b ∷ text)
      comment_at e =
          let c = cut (λ z. z ≢ 10) comment_byte_or text in
          subst (λ z. Piece (z ∷ text)) (sym e) (piece_behind 37 c.prefix c.rest text None c.whole (begins_comment c.prefix c.rest c.all c.stops))

-- tokens or a fault from a byte on
abbrev Answer : ℕ → List ℕ → Type 0
Answer at text = ((ts : List Token) × TokensFrom at text ts) ⊎ ((fault : LexicalFault) × (place : ℕ) × FaultFrom at text fault place)

gap_answer : (at : ℕ) (text piece rest : List ℕ) → Begins text piece rest None → Answer (at + length piece) rest → Answer at text
gap_answer at text piece rest b (inl a) = inl (a.0, skipped piece rest b a.1)
gap_answer at text piece rest b (inr f) = inr (f.0, f.1, behind_separator piece rest b f.2)

token_answer : (at : ℕ) (text piece rest : List ℕ) (k : TokenKind) → Begins text piece rest (Some k) → IsWithin piece k → Answer (at + length piece) rest → Answer at text
token_answer at text piece rest k b w (inl a) = inl (_, taken piece rest k b w a.1)
token_answer at text piece rest k b w (inr f) = inr (f.0, f.1, behind_token piece rest k b w f.2)

-- the piece is within its limit, or it is the first fault
limit_answer : (at : ℕ) (text piece rest : List ℕ) (k : TokenKind) → Begins text piece rest (Some k) → Answer (at + length piece) rest → Answer at text
limit_answer at text piece rest kind.Name b a =
    elim (cases_lt NAME_LIMIT (length piece)) as (λ _. Answer at text) [ inl l ↦ inr (long_name, at, name_limit piece rest b l) | inr l ↦ token_answer at text piece rest kind.Name b l a ]
limit_answer at text piece rest (kind.Number n) b a =
    elim (cases_lt NUMBER_LIMIT n) as (λ _. Answer at text) [ inl l ↦ inr (large_number, at, number_limit piece rest n b l) | inr l ↦ token_answer at text piece rest (kind.Number n) b l a ]
limit_answer at text piece rest (kind.Word w) b a = token_answer at text piece rest (kind.Word w) b tt a
limit_answer at text piece rest (kind.Mark m) b a = token_answer at text piece rest (kind.Mark m) b tt a

kind_answer : (at : ℕ) (text piece rest : List ℕ) (what : Option TokenKind) → Begins text piece rest what → Answer (at + length piece) rest → Answer at text
kind_answer at text piece rest None b a = gap_answer at text piece rest b a
kind_answer at text piece rest (Some k) b a = limit_answer at text piece rest k b a

shorter : (text piece rest : List ℕ) (what : Option TokenKind) (n : ℕ) → Begins text piece rest what → length text ≤ suc n → length rest ≤ n
shorter text [] rest what n b l = absurd (piece_some [] what b.is refl)
shorter text (p ∷ ps) rest what n b l = omega (arith, ap length b.whole, length-append (p ∷ ps) rest)

answer : (n at : ℕ) (text : List ℕ) → length text ≤ n → Answer at text
answer n at [] l = inl ([], at_end)
answer zero at (b ∷ text) l = absurd (omega arith)
answer (suc n) at (b ∷ text) l =
    elim (piece_or b text) as (λ _. Answer at (b ∷ text)) [
      | inl p ↦ kind_answer at (b ∷ text) p.piece p.rest p.what p.begins (answer n (at + length p.piece) p.rest (shorter (b ∷ text) p.piece p.rest p.what n p.begins l))
      | inr none ↦ inr (bad_byte, at, no_piece none)
    ]

pub tokens_or : (text : List ℕ) → ((ts : List Token) × TokensFrom 0 text ts) ⊎ ((fault : LexicalFault) × (place : ℕ) × FaultFrom 0 text fault place)
tokens_or text = answer (length text) 0 text (omega arith)
