-- Tokens derive a source, or an error explains why not: of every list of lexemes there is a longest prefix that begins some program.
use Rattle.std.proofs.Common.{◌≡◌, ℕ, zero, suc, ◌+◌, ◌<◌, ◌≤◌, List, [], ◌∷◌, length, take, refl, sym, subst, arith, ⊎_elim}
use Rattle.std.specs.Prelude.{◌⊎◌}
use Rattle.std.proofs.Math.Seq.{take-length}
use Rattle.std.proofs.lemmas.List.{append-nil}
use Rattle.luo_num.specs.declared.limits.TheConstants.{DEPTH_LIMIT}
use Rattle.luo_scan.specs.declared.token.Token.{Token}
use Rattle.luo_scan.specs.declared.token.Word.TheVariants.{KwAnalyze}
use Rattle.luo_scan.specs.declared.token.Mark.TheVariants.{Semicolon}
use Rattle.luo_scan.specs.Lexemes.{lexemes, Lexeme}
use Rattle.luo_scan.specs.Tokens.{Tokens}
use Rattle.luo_scan.proofs.Inside.{lexemes_fit}
use Rattle.luo_syntax.specs.declared.error.SyntaxError.TheVariants.{Grammar, Depth, NoMemory}
use Rattle.luo_source.specs.declared.source.Source.{Source}
use Rattle.luo_source.specs.Grammar.{IsProgram, analyze, last_analysis, no_procs, no_measures, no_types, unlabelled_unsaid}
use Rattle.luo_syntax.specs.SourceOrError.{HasSource, HasError}
use Rattle.luo_syntax.specs.Viable.{AllSpelled, IsViable, IsLongestViable, IsDeep, IsShallow, IsFirstDeep, closed, opened, Explains}
use Rattle.luo_syntax.proofs.Final.{viable_prefix}
use Rattle.luo_syntax.proofs.Spelled.{a_word, a_mark, a_name, word_fit, mark_fit, name_fit}

-- some program begins with nothing: `analyze a;`
none_viable : IsViable []
none_viable =
    (a_word KwAnalyze ∷ a_name ∷ a_mark Semicolon ∷ [], (word_fit KwAnalyze, (name_fit, (mark_fit Semicolon, tt))), _, unlabelled_unsaid (no_types (no_measures (no_procs (last_analysis analyze)))))

take_none : (ls : List Lexeme) → take 0 ls ≡ []
take_none [] = refl
take_none (l ∷ ls) = refl

module _ (ls : List Lexeme) where
  -- there can't but be a longest prefix that begins some program
  module _ (none : (k : ℕ) → IsLongestViable ls k → ⊥) where
    -- from this length on no prefix begins one
    down : (d k : ℕ) → k + d ≡ length ls + 1 → (j : ℕ) → k ≤ j → j ≤ length ls → IsViable (take j ls) → ⊥
    down zero k e j a b v = absurd (omega (arith, e))
    down (suc d) k e j a b v =
        let further = down d (k + 1) (omega (arith, e)) in
        ⊎_elim (λ (same : k ≡ j). none j (record { within = b; viable = v; longest = λ i c w. further i (omega (arith, same)) w }))
        (λ (more : k < j). further j (omega arith) b v) (split k j a)
      where
        split : (m n : ℕ) → m ≤ n → (m ≡ n) ⊎ (m < n)
        split m n h = grind arith

    no_longest : ⊥
    no_longest = down (length ls + 1) 0 (omega arith) 0 (omega arith) (omega arith) (subst IsViable (sym (take_none ls)) none_viable)

  -- where a prefix is too deep, there is a first lexeme with which one is
  module _ (last : ℕ) (within : last ≤ length ls) (deep : IsDeep (take last ls)) where
    -- up to this length no prefix is
    up : (d k : ℕ) → k + d ≡ last → ((j : ℕ) → j ≤ k → IsDeep (take j ls) → ⊥) → (m : ℕ) × IsFirstDeep ls m
    up zero k e before = absurd (before last (omega (arith, e)) deep)
    up (suc d) k e before =
        ⊎_elim (λ (h : IsDeep (take (k + 1) ls)). (k, (omega (arith, e, within), h, before)))
        (λ (h : IsDeep (take (k + 1) ls) → ⊥). up d (k + 1) (omega (arith, e)) (λ j a. ⊎_elim (λ (b : j ≤ k). before j b) (λ (b : j ≡ k + 1). subst (λ z. IsDeep (take z ls) → ⊥) (sym b) h) (split j k a)))
        (either (closed (take (k + 1) ls)) (opened (take (k + 1) ls)))
      where
        either : (m n : ℕ) → (m + DEPTH_LIMIT < n) ⊎ (m + DEPTH_LIMIT < n → ⊥)
        either m n = grind arith

        split : (j k : ℕ) → j ≤ k + 1 → (j ≤ k) ⊎ (j ≡ k + 1)
        split j k h = grind arith

    first_deep : (m : ℕ) × IsFirstDeep ls m
    first_deep = up last 0 (omega arith) (λ j a d. let e : j ≡ 0 = omega (arith, a) in not_empty (subst IsDeep (take_none ls) (subst (λ z. IsDeep (take z ls)) e d)))
      where
        not_empty : IsDeep [] → ⊥
        not_empty d = omega (arith, d)

  -- a program that is too deep is explained by its first lexeme with which it is
  module _ (spelled : AllSpelled ls) (no_depth : (k : ℕ) → Explains ls (Depth k) → ⊥) where
    shallow : (s : Source) → IsProgram ls [] s → IsShallow ls
    shallow s p j within deep =
        let (m, first) = first_deep j within deep in
        let whole : IsViable ls = ([], tt, s, subst (λ z. IsProgram z [] s) (sym (append-nil ls)) p) in
        no_depth m (first, viable_prefix (m + 1) (length ls) ls spelled (omega (arith, first.0)) (subst IsViable (sym (take-length ls)) whole))

pub source_or_error : (text : List ℕ) (ts : List Token) → Tokens text ts → (HasSource text ts → ⊥) → (HasError text ts → ⊥) → ⊥
source_or_error text ts t no_source no_error =
    let no_depth : (k : ℕ) → Explains (lexemes text ts) (Depth k) → ⊥ = λ k d. no_error (Depth k, depth k, d) in
    no_longest (lexemes text ts) (λ k v. no_error (Grammar k, grammar k, (v, (λ s p. no_source (s, p, shallow (lexemes text ts) (lexemes_fit text ts t) no_depth s p)), no_depth)))
  where
    grammar : (k : ℕ) → Grammar k ≡ NoMemory → ⊥
    grammar k e = cc

    depth : (k : ℕ) → Depth k ≡ NoMemory → ⊥
    depth k e = cc

pub never_both : (text : List ℕ) (ts : List Token) → HasSource text ts → HasError text ts → ⊥
never_both text ts (s, d, sh) (Grammar k, n, e) = e.1 s d
never_both text ts (s, d, sh) (Depth k, n, e) = sh (k + 1) (omega (arith, e.0.0)) e.0.1
never_both text ts (s, d, sh) (NoMemory, n, e) = n refl
