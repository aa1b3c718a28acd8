-- There is at most one outcome.
use Rattle.std.proofs.Common.{◌≡◌, ℕ, ◌+◌, ◌<◌, ◌≤◌, List, ◌∷◌, refl, sym, ap, ◌∙◌, arith, ⊎_elim}
use Rattle.std.specs.Prelude.{◌⊎◌}
use Rattle.luo_finite.specs.Steps.{IsSingle}
use Rattle.luo_finite.proofs.Steps.{or_else-single}
use Rattle.luo_scan.specs.declared.token.Token.{Token}
use Rattle.luo_scan.specs.Lexemes.{lexemes, Lexeme}
use Rattle.luo_scan.specs.Tokens.{Tokens}
use Rattle.luo_scan.proofs.Unique.{one_list, one_fault}
use Rattle.luo_syntax.specs.declared.error.SyntaxError.{SyntaxError}
use Rattle.luo_syntax.specs.declared.error.SyntaxError.TheVariants.{Grammar, Depth, NoMemory}
use Rattle.luo_source.specs.Plain.Source.{Source}
use Rattle.luo_syntax.specs.Viable.{Explains, IsLongestViable, IsFirstDeep}
use Rattle.luo_source.specs.View.{plain_source}
use Rattle.luo_source.proofs.OneProgram.{program_one}
use Rattle.luo_rules.specs.declared.rule.Breach.{Breach}
use Rattle.luo_rules.specs.Counted.{limits_passed}
use Rattle.luo_rules.specs.Whole.{IsCore, breaches}
use Rattle.luo_answer.specs.declared.status.Status.TheVariants.{Refused, Limit}
use Rattle.luo_answer.specs.Answer.{Refusal}
use Rattle.luo_answer.specs.Told.{Told}
use Rattle.luo_answer.specs.Words.{Command, Analyse, Format, Run, Sample, Listing, Audit}
use Rattle.luo_answer.proofs.OneAnswer.{reading-sole, analyse-sole, run-sole, sample-sole, list-sole, audit-sole, asked-sole}
use Rattle.luo_answer.proofs.SoleSteps.{IsSole, or_makes-sole, and_then-sole, makes-sole, ends-single}
use Rattle.luo_top.specs.Commands.Sample.{text_program}
use Rattle.luo_top.specs.Outcome.{Outcome, steps_of}
use Rattle.luo_top.specs.Refusals.{LexicalRefusal, SyntaxRefusal, LimitRefusal, RuleRefusal, WalksRefusal, refusal_of_fault, refusal_of_error, byte_of_token, limit_line, rule_line}
use Rattle.luo_top.specs.Steps.{tokens_of, source_of, core_of, file_source, file_program}
use Rattle.luo_top.proofs.ProgramFacts.{program_is, text_program_is}

-- the first lexical fault is one
lexical-single : (text : List ℕ) → IsSingle (LexicalRefusal text)
lexical-single text a b (f, at, p, e) (g, by, q, h) =
    let same = one_fault 0 0 at by text text f g p q refl refl in
    e ∙ (λ i. refusal_of_fault (same.0 i) (same.1 i)) ∙ sym h

tokens-single : (text : List ℕ) → IsSingle (Tokens text)
tokens-single text ts us p q = one_list 0 0 text text ts us p q refl refl

-- the longest prefix and the first opener too deep are one
longest_one : (ls : List Lexeme) (j k : ℕ) → IsLongestViable ls j → IsLongestViable ls k → j ≡ k
longest_one ls j k a b =
    ⊎_elim (λ (h : j ≤ k). ⊎_elim (λ (g : k ≤ j). omega arith) (λ (g : j < k). absurd (a.longest k g b.within b.viable)) (cases k j))
    (λ (h : k < j). absurd (b.longest j h a.within a.viable)) (cases j k)
  where
    cases : (m n : ℕ) → (m ≤ n) ⊎ (n < m)
    cases m n = grind arith

deep_one : (ls : List Lexeme) (j k : ℕ) → IsFirstDeep ls j → IsFirstDeep ls k → j ≡ k
deep_one ls j k a b =
    ⊎_elim (λ (h : j ≤ k). ⊎_elim (λ (g : k ≤ j). omega arith) (λ (g : j < k). absurd (b.2 (j + 1) (omega arith) a.1)) (cases k j))
    (λ (h : k < j). absurd (a.2 (k + 1) (omega arith) b.1)) (cases j k)
  where
    cases : (m n : ℕ) → (m ≤ n) ⊎ (n < m)
    cases m n = grind arith

explains_one : (ls : List Lexeme) (d e : SyntaxError) → (d ≡ NoMemory → ⊥) → (e ≡ NoMemory → ⊥) → Explains ls d → Explains ls e → d ≡ e
explains_one ls (Grammar j) (Grammar k) m n a b = ap Grammar (longest_one ls j k a.0 b.0)
explains_one ls (Grammar j) (Depth k) m n a b = absurd (a.2 k b)
explains_one ls (Depth j) (Grammar k) m n a b = absurd (b.2 j a)
explains_one ls (Depth j) (Depth k) m n a b = ap Depth (deep_one ls j k a.0 b.0)
explains_one ls (Grammar j) NoMemory m n a b = absurd (n refl)
explains_one ls (Depth j) NoMemory m n a b = absurd (n refl)
explains_one ls NoMemory e m n a b = absurd (m refl)

syntax-single : (text : List ℕ) (ts : List Token) → IsSingle (SyntaxRefusal text ts)
syntax-single text ts a b (d, m, p, e) (c, n, q, h) = e ∙ ap (refusal_of_error text ts) (explains_one (lexemes text ts) d c m n p q) ∙ sym h

-- the first limit and the first breach are one
head_one : {A : Type 0} (l : List A) (x y : A) → ((rest : List A) × (l ≡ x ∷ rest)) → ((rest : List A) × (l ≡ y ∷ rest)) → x ≡ y
head_one {A = A} l x y a b = same x y a.0 b.0 (sym a.1 ∙ b.1)
  where
    same : (x y : A) (xs ys : List A) → x ∷ xs ≡ y ∷ ys → x ≡ y
    same x y xs ys e = cc

limit-single : (s : Source) → IsSingle (LimitRefusal s)
limit-single s a b (x, p, e) (y, q, h) = e ∙ ap (λ w. Refusal Limit (limit_line w)) (head_one (limits_passed s) x y p q) ∙ sym h

rule-single : (text : List ℕ) (ts : List Token) (s : Source) → IsSingle (RuleRefusal text ts s)
rule-single text ts s a b (x, p, e) (y, q, h) =
    e ∙ ap (λ (z : Breach). Refusal Refused (rule_line z.rule (byte_of_token text ts z.token) z.names)) (head_one (breaches s) x y p q) ∙ sym h

walks-single : (s : Source) → IsSingle (WalksRefusal s)
walks-single s a b p q = p.1 ∙ sym q.1

core-single : (s : Source) → IsSingle (IsCore s)
core-single s p q a b = a.1 ∙ sym b.1

tokens-sole : (text : List ℕ) → IsSole (tokens_of text)
tokens-sole text = or_makes-sole _ _ (lexical-single text) (λ none. tokens-single text)

source-sole : (text : List ℕ) (ts : List Token) → IsSole (source_of text ts)
source-sole text ts = or_makes-sole _ _ (syntax-single text ts) (λ none r s d e. sym d.2 ∙ ap plain_source (program_one d.1 e.1) ∙ e.2)

core-sole : (text : List ℕ) (ts : List Token) (s : Source) → IsSole (core_of text ts s)
core-sole text ts s =
    or_makes-sole _ _ (or_else-single _ _ (limit-single s) (or_else-single _ _ (rule-single text ts s) (walks-single s))) (λ none. core-single s)

source_file-sole : (file : List ℕ) (told : Told) → IsSole (file_source file told)
source_file-sole file told = and_then-sole _ _ (reading-sole _ _ file told) (λ text _. and_then-sole _ _ (tokens-sole text) (λ ts _. source-sole text ts))

pub program-sole : (file : List ℕ) (told : Told) → IsSole (file_program file told)
program-sole file told =
    and_then-sole _ _ (reading-sole _ _ file told) (λ text _. and_then-sole _ _ (tokens-sole text) (λ ts _. and_then-sole _ _ (source-sole text ts) (λ s _. core-sole text ts s)))

pub text_program-sole : (text : List ℕ) → IsSole (text_program text)
text_program-sole text = and_then-sole _ _ (tokens-sole text) (λ ts _. and_then-sole _ _ (source-sole text ts) (λ s _. core-sole text ts s))

steps-sole : (c : Command) (told : Told) → IsSole (steps_of c told)
steps-sole (Analyse file n) told = and_then-sole _ _ (program-sole file told) (λ p h. analyse-sole n p (program_is file told p h))
steps-sole (Format file) told = and_then-sole _ _ (source_file-sole file told) (λ s _. makes-sole _ (λ x y p q. p ∙ sym q))
steps-sole (Run file procedure structure) told = and_then-sole _ _ (program-sole file told) (λ p h. run-sole procedure structure p (program_is file told p h))
steps-sole (Sample number n) told = and_then-sole _ _ (text_program-sole _) (λ p h. sample-sole number _ n p (text_program_is _ p h))
steps-sole (Listing file name n start k) told = and_then-sole _ _ (program-sole file told) (λ p h. list-sole name n start k p (program_is file told p h))
steps-sole (Audit file n w) told = and_then-sole _ _ (program-sole file told) (λ p h. audit-sole n w p (program_is file told p h))

-- there is at most one outcome
pub outcome_single : (told : Told) (words : List (List ℕ)) → IsSingle (Outcome told words)
unfolding Outcome
outcome_single told words = ends-single _ (and_then-sole _ _ (asked-sole words) (λ c _. steps-sole c told))
