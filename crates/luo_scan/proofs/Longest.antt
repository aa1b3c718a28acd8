-- What begins with a piece of a kind, and goes on with a byte that the kind has not, begins with no longer piece.
use Rattle.std.proofs.Common.{◌≡◌, ◌≢◌, ◌≤◌, ℕ, List, [], ◌∷◌, ◌++◌, length, refl, ap, subst, arith, lit≤, Option, None, Some}
use Rattle.std.specs.List.{AllByRecursion}
use Rattle.luo_scan.specs.declared.token.Word.{Word}
use Rattle.luo_scan.specs.declared.token.Mark.{Mark}
use Rattle.luo_scan.specs.declared.token.TokenKind.{TokenKind}
use Rattle.luo_scan.specs.declared.token.TokenKind.TheVariants as kind
use Rattle.luo_scan.specs.Bytes.{IsSeparator, IsDigit, IsLetter, IsNameByte}
use Rattle.luo_scan.specs.Prefixes.{Stops}
use Rattle.luo_scan.specs.Spellings.{spelling, sign, value_after}
use Rattle.luo_scan.specs.Tokens.{IsPiece, Begins, BeginsNot, separator, comment, name, word, number, mark}
use Rattle.luo_scan.proofs.Prefixes.{prefix_at_most}
use Rattle.luo_scan.proofs.Shapes.{Shape, shape, separates, comments, names, numbers, marks, word_first}
use Rattle.luo_scan.proofs.Exclusions.{behind_separator_byte, behind_percent, behind_letter, behind_digit, behind_mark}

-- each piece that begins with this byte and goes on with these has no more bytes than this prefix
abbrev IsBounded : ℕ → List ℕ → List ℕ → Type 0
IsBounded b ps rest = (qs after : List ℕ) → ps ++ rest ≡ qs ++ after → Shape b qs → length qs ≤ length ps

begins : (b : ℕ) (ps rest : List ℕ) (what : Option TokenKind) → IsPiece (b ∷ ps) what → IsBounded b ps rest → Begins (b ∷ (ps ++ rest)) (b ∷ ps) rest what
begins b ps rest what is bound = record { whole = refl; is = is; longest = longest } where
  longest : (other after : List ℕ) (that : Option TokenKind) → b ∷ (ps ++ rest) ≡ other ++ after → IsPiece other that → length other ≤ length (b ∷ ps)
  longest [] after that e p = omega arith
  longest (q ∷ qs) after that e p =
      let h : q ≡ b = cc in
      let k = bound qs after (cc) (subst (λ z. Shape z qs) h (shape (q ∷ qs) that p)) in
      omega arith

pub begins_separator : (b : ℕ) (rest : List ℕ) → IsSeparator b → Begins (b ∷ rest) (b ∷ []) rest None
begins_separator b rest s =
    begins b [] rest None (separator b s) (λ qs after e h. let k = behind_separator_byte b qs s h in omega (arith, ap length k))

pub begins_comment : (ps rest : List ℕ) → AllByRecursion (λ c. c ≢ 10) ps → Stops (λ c. c ≢ 10) rest → Begins (37 ∷ (ps ++ rest)) (37 ∷ ps) rest None
begins_comment ps rest a s =
    begins 37 ps rest None (comment ps a) (λ qs after e h. prefix_at_most (λ c. c ≢ 10) ps rest qs after e s (behind_percent 37 qs refl h))

pub begins_name : (b : ℕ) (ps rest : List ℕ) → IsLetter b → AllByRecursion IsNameByte ps → Stops IsNameByte rest → ((w : Word) → spelling w ≢ b ∷ ps) → Begins (b ∷ (ps ++ rest)) (b ∷ ps) rest (Some kind.Name)
begins_name b ps rest l a s n =
    begins b ps rest (Some kind.Name) (name b ps l a n) (λ qs after e h. prefix_at_most IsNameByte ps rest qs after e s (behind_letter b qs l h))

pub begins_word : (w : Word) (b : ℕ) (ps rest : List ℕ) → spelling w ≡ b ∷ ps → Stops IsNameByte rest → Begins (b ∷ (ps ++ rest)) (b ∷ ps) rest (Some (kind.Word w))
begins_word w b ps rest f s =
    begins b ps rest (Some (kind.Word w)) (subst (λ z. IsPiece z (Some (kind.Word w))) f (word w))
    (λ qs after e h. prefix_at_most IsNameByte ps rest qs after e s (behind_letter b qs (word_first w b ps f).0 h))

pub begins_zero : (rest : List ℕ) → Begins (48 ∷ rest) (48 ∷ []) rest (Some (kind.Number 0))
begins_zero rest =
    begins 48 [] rest (Some (kind.Number 0)) (number 48 [] (lit≤ tt, lit≤ tt) tt (λ e. refl))
    (λ qs after e h. let k : qs ≡ [] = (behind_digit 48 qs (lit≤ tt, lit≤ tt) h).1 refl in omega (arith, ap length k))

pub begins_number : (d : ℕ) (ds rest : List ℕ) → IsDigit d → d ≢ 48 → AllByRecursion IsDigit ds → Stops IsDigit rest → Begins (d ∷ (ds ++ rest)) (d ∷ ds) rest (Some (kind.Number (value_after 0 (d ∷ ds))))
begins_number d ds rest g n a s =
    begins d ds rest (Some (kind.Number (value_after 0 (d ∷ ds)))) (number d ds g a (λ e. absurd (n e)))
    (λ qs after e h. prefix_at_most IsDigit ds rest qs after e s (behind_digit d qs g h).0)

pub begins_mark : (m : Mark) (b : ℕ) (ps rest : List ℕ) → sign m ≡ b ∷ ps → Begins (b ∷ (ps ++ rest)) (b ∷ ps) rest (Some (kind.Mark m))
begins_mark m b ps rest f =
    begins b ps rest (Some (kind.Mark m)) (subst (λ z. IsPiece z (Some (kind.Mark m))) f (mark m))
    (λ qs after e h. let k = behind_mark m b ps qs f h in omega arith)

-- no mark begins with this byte and goes on as the text does
abbrev pub IsNoMark : ℕ → List ℕ → Type 0
IsNoMark b text = (m : Mark) (bs after : List ℕ) → sign m ≡ b ∷ bs → text ≡ bs ++ after → ⊥

pub begins_not : (b : ℕ) (text : List ℕ) → (IsSeparator b → ⊥) → b ≢ 37 → (IsLetter b → ⊥) → (IsDigit b → ⊥) → IsNoMark b text → BeginsNot (b ∷ text)
begins_not b text s c l d m [] rest what e p = shape [] what p
begins_not b text s c l d m (q ∷ qs) rest what e p =
    let h : q ≡ b = cc in
    elim (subst (λ z. Shape z qs) h (shape (q ∷ qs) what p)) as (λ _. ⊥) [
      | separates t f ↦ s t
      | comments f a ↦ c f
      | names t a ↦ l t
      | numbers t a z ↦ d t
      | marks n f ↦ m n qs rest f (cc)
    ]
