-- Texts that are put together, cut into the lexemes of their parts.
use Rattle.std.proofs.Common.{◌≡◌, ◌+◌, ◌-◌, ℕ, zero, suc, List, [], ◌∷◌, ◌++◌, length, take, drop, refl, ap, sym, ◌∙◌, subst, inl, inr, arith, append_assoc, Option, None, Some}
use Rattle.std.proofs.Math.Seq.{take-append_seam, drop-append_seam}
use Rattle.std.proofs.lemmas.List.{drop-drop}
use Rattle.luo_scan.specs.declared.token.Word.{Word}
use Rattle.luo_scan.specs.declared.token.Mark.{Mark}
use Rattle.luo_scan.specs.declared.token.TokenKind.{TokenKind}
use Rattle.luo_scan.specs.declared.token.TokenKind.TheVariants as kind
use Rattle.luo_scan.specs.declared.token.Token.{Token}
use Rattle.luo_scan.specs.Bytes.{IsSeparator, IsNameByte}
use Rattle.luo_scan.specs.Prefixes.{Stops}
use Rattle.luo_scan.specs.Spellings.{spelling, sign}
use Rattle.luo_scan.specs.Laws.{IsFit}
use Rattle.luo_scan.specs.Lexemes.{Lexeme, lexeme, lexemes_from}
use Rattle.luo_scan.specs.Tokens.{IsPiece, Begins, IsWithin, TokensFrom, at_end, skipped, taken, name}
use Rattle.luo_scan.proofs.Longest.{begins_separator, begins_name, begins_word, begins_mark}
use Rattle.luo_print.specs.Layout.{spaces, new_line}

behind : (whole : List ℕ) (at : ℕ) (text piece rest : List ℕ) (what : Option TokenKind) → drop at whole ≡ text → Begins text piece rest what → drop (at + length piece) whole ≡ rest
behind whole at text piece rest what e b =
    sym (drop-drop (length piece) at whole) ∙ (ap (λ z. drop (length piece) z) (e ∙ b.whole) ∙ drop-append_seam piece rest)

bytes_of : (whole : List ℕ) (at : ℕ) (text piece rest : List ℕ) (what : Option TokenKind) → drop at whole ≡ text → Begins text piece rest what → take (at + length piece - at) (drop at whole) ≡ piece
bytes_of whole at text piece rest what e b =
    let n : at + length piece - at ≡ length piece = omega arith in
    ap (λ k. take k (drop at whole)) n ∙ (ap (λ z. take (length piece) z) (e ∙ b.whole) ∙ take-append_seam piece rest)

-- the text has tokens, and these are their lexemes, numbered from any number on
pub record Cut (text : List ℕ) (from : ℕ → List Lexeme) : Type 0 where
  pub cut : (at : ℕ) → (ts : List Token) × TokensFrom at text ts × ((whole : List ℕ) (k : ℕ) → drop at whole ≡ text → lexemes_from k whole ts ≡ from k)

pub cut_end : Cut [] (λ k. [])
cut_end = record { cut = λ at. ([], at_end, λ whole k e. refl) }

pub cut_gap : (b : ℕ) (rest : List ℕ) (from : ℕ → List Lexeme) → IsSeparator b → Cut rest from → Cut (b ∷ rest) from
cut_gap b rest from s c = record {
  cut = λ at.
      let r = c.cut (at + length (b ∷ [])) in
      (r.0, skipped (b ∷ []) rest (begins_separator b rest s) r.1, λ whole k e. r.2 whole k (behind whole at (b ∷ rest) (b ∷ []) rest None e (begins_separator b rest s)));
}

pub cut_token : (text piece rest : List ℕ) (what : TokenKind) (from : ℕ → List Lexeme) → Begins text piece rest (Some what) → IsWithin piece what → Cut rest from → Cut text (λ k. lexeme what piece k ∷ from (k + 1))
cut_token text piece rest what from b w c = record {
  cut = λ at.
      let r = c.cut (at + length piece) in (
        record { kind = what; start = at; end = at + length piece } ∷ r.0,
        taken piece rest what b w r.1,
        λ whole k e.
            let p = bytes_of whole at text piece rest (Some what) e b in
            let q = r.2 whole (k + 1) (behind whole at text piece rest (Some what) e b) in
            ap (λ z. lexeme what z k ∷ lexemes_from (k + 1) whole r.0) p ∙ ap (λ z. lexeme what piece k ∷ z) q,
      );
}

-- what follows doesn't begin with a byte of a name
abbrev pub Quiet : List ℕ → Type 0
Quiet rest = Stops IsNameByte rest

-- anything may follow
abbrev pub Any : List ℕ → Type 0
Any rest = Unit {0}

-- in front of whatever may follow, the lexemes of this text are read so
pub record Reads (C : List ℕ → Type 0) (piece : List ℕ) (P : List Lexeme → List Lexeme → Type 0) : Type 0 where
  pub read : (rest : List ℕ) (more : ℕ → List Lexeme) → C rest → Cut rest more → (from : ℕ → List Lexeme) × Cut (piece ++ rest) from × ((k : ℕ) → (j : ℕ) × P (from k) (more j))

-- one is read, and then the other
abbrev pub Then : (List Lexeme → List Lexeme → Type 0) → (List Lexeme → List Lexeme → Type 0) → List Lexeme → List Lexeme → Type 0
Then P Q from to = (mid : List Lexeme) × P from mid × Q mid to

pub seq : {C D : List ℕ → Type 0} {a b : List ℕ} {P Q : List Lexeme → List Lexeme → Type 0} → Reads C a P → Reads D b Q → ((rest : List ℕ) → D rest → C (b ++ rest)) → Reads D (a ++ b) (Then P Q)
seq {a = a} {b = b} r s h = record {
  read = λ rest more d c.
      let y = s.read rest more d c in
      let x = r.read (b ++ rest) y.0 (h rest d) y.1 in
      (x.0, subst (λ t. Cut t x.0) (sym (append_assoc a b rest)) x.1, λ k. let i = x.2 k in let j = y.2 i.0 in (j.0, (y.0 i.0, i.1, j.1)));
}

-- behind what anything may follow
pub next : {D : List ℕ → Type 0} {a b : List ℕ} {P Q : List Lexeme → List Lexeme → Type 0} → Reads Any a P → Reads D b Q → Reads D (a ++ b) (Then P Q)
next r s = seq r s (λ rest d. tt)

pub read_as : {C : List ℕ → Type 0} {a : List ℕ} {P Q : List Lexeme → List Lexeme → Type 0} → Reads C a P → ((from to : List Lexeme) → P from to → Q from to) → Reads C a Q
read_as r f = record { read = λ rest more q c. let x = r.read rest more q c in (x.0, x.1, λ k. let i = x.2 k in (i.0, f _ _ i.1)) }

pub read_text : {C : List ℕ → Type 0} {a b : List ℕ} {P : List Lexeme → List Lexeme → Type 0} → a ≡ b → Reads C a P → Reads C b P
read_text {C = C} {P = P} e r = subst (λ t. Reads C t P) e r

pub quietly : {a : List ℕ} {P : List Lexeme → List Lexeme → Type 0} → Reads Any a P → Reads Quiet a P
quietly r = record { read = λ rest more q c. r.read rest more tt c }

pub gap_before : {C : List ℕ → Type 0} {a : List ℕ} {P : List Lexeme → List Lexeme → Type 0} (b : ℕ) → IsSeparator b → Reads C a P → Reads C (b ∷ a) P
gap_before {a = a} b s r = record { read = λ rest more q c. let x = r.read rest more q c in (x.0, cut_gap b (a ++ rest) x.0 s x.1, x.2) }

pub gap_behind : {C : List ℕ → Type 0} {a : List ℕ} {P : List Lexeme → List Lexeme → Type 0} (b : ℕ) → IsSeparator b → ((rest : List ℕ) → C (b ∷ rest)) → Reads C a P → Reads Any (a ++ b ∷ []) P
gap_behind {a = a} b s h r = record {
  read = λ rest more q c.
      let x = r.read (b ∷ rest) more (h rest) (cut_gap b rest more s c) in
      (x.0, subst (λ t. Cut t x.0) (sym (append_assoc a (b ∷ []) rest)) x.1, x.2);
}

-- a lexeme of this kind and these bytes comes next
pub data Takes (what : TokenKind) (bytes : List ℕ) : List Lexeme → List Lexeme → Type 0 where
  takes : {at : ℕ} {to : List Lexeme} → Takes what bytes (lexeme what bytes at ∷ to) to

pub token_reads : {C : List ℕ → Type 0} (what : TokenKind) (piece : List ℕ) → ((rest : List ℕ) → C rest → Begins (piece ++ rest) piece rest (Some what)) → IsWithin piece what → Reads C piece (Takes what piece)
token_reads what piece b w = record {
  read = λ rest more q c. ((λ k. lexeme what piece k ∷ more (k + 1)), cut_token (piece ++ rest) piece rest what more (b rest q) w c, λ k. (k + 1, takes));
}

pub mark_reads : (m : Mark) (b : ℕ) (ps : List ℕ) → sign m ≡ b ∷ ps → Reads Any (b ∷ ps) (Takes (kind.Mark m) (b ∷ ps))
mark_reads m b ps e = token_reads (kind.Mark m) (b ∷ ps) (λ rest q. begins_mark m b ps rest e) tt

pub word_reads : (w : Word) (b : ℕ) (ps : List ℕ) → spelling w ≡ b ∷ ps → Reads Quiet (b ∷ ps) (Takes (kind.Word w) (b ∷ ps))
word_reads w b ps e = token_reads (kind.Word w) (b ∷ ps) (λ rest q. begins_word w b ps rest e q) tt

begins_text : (text rest : List ℕ) → IsPiece text (Some kind.Name) → Quiet rest → Begins (text ++ rest) text rest (Some kind.Name)
begins_text text rest (name b bytes l a n) q = begins_name b bytes rest l a q n

pub name_reads : (text : List ℕ) (at : ℕ) → IsFit (lexeme kind.Name text at) → Reads Quiet text (Takes kind.Name text)
name_reads text at f = token_reads kind.Name text (λ rest q. begins_text text rest f.0 q) f.1

-- a space and a line feed are no bytes of a name
pub quiet_space : (rest : List ℕ) → Quiet (32 ∷ rest)
quiet_space rest h = grind arith

pub quiet_line : (rest : List ℕ) → Quiet (10 ∷ rest)
quiet_line rest h = grind arith

space : IsSeparator 32
space = inl refl

-- a space behind
pub spaced : {C : List ℕ → Type 0} {a : List ℕ} {P : List Lexeme → List Lexeme → Type 0} → ((rest : List ℕ) → C (32 ∷ rest)) → Reads C a P → Reads Any (a ++ 32 ∷ []) P
spaced h r = gap_behind 32 space h r

-- a line feed behind
pub lined : {C : List ℕ → Type 0} {a : List ℕ} {P : List Lexeme → List Lexeme → Type 0} → ((rest : List ℕ) → C (10 ∷ rest)) → Reads C a P → Reads Any (a ++ 10 ∷ []) P
lined h r = gap_behind 10 (inr (inr (inr refl))) h r

-- a space before
pub space_before : {C : List ℕ → Type 0} {a : List ℕ} {P : List Lexeme → List Lexeme → Type 0} → Reads C a P → Reads C (32 ∷ a) P
space_before r = gap_before 32 space r

spaces_before : {C : List ℕ → Type 0} {a : List ℕ} {P : List Lexeme → List Lexeme → Type 0} (n : ℕ) → Reads C a P → Reads C (spaces n ++ a) P
spaces_before zero r = r
spaces_before (suc n) r = space_before (spaces_before n r)

-- on a new line
pub line_before : {C : List ℕ → Type 0} {a : List ℕ} {P : List Lexeme → List Lexeme → Type 0} (n : ℕ) → Reads C a P → Reads C (new_line n ++ a) P
line_before n r = gap_before 10 (inr (inr (inr refl))) (spaces_before n r)
