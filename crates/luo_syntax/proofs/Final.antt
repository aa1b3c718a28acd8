-- The prefix before the place where reading stops is the longest that begins some program.
use Rattle.std.proofs.Common.{◌≡◌, ℕ, zero, suc, List, [], ◌∷◌, ◌++◌, ◌+◌, ◌-◌, ◌<◌, ◌≤◌, length, take, drop, append_assoc, refl, ap, sym, subst, ◌∙◌, arith}
use Rattle.std.proofs.Math.Seq.{take-append_seam, take-append-add}
use Rattle.std.proofs.lemmas.List.{length-append, length-take, take-append-drop}
use Rattle.luo_scan.specs.Lexemes.{Lexeme}
use Rattle.luo_source.specs.declared.source.Source.{Source}
use Rattle.luo_source.specs.Grammar.{IsProgram}
use Rattle.luo_syntax.specs.Viable.{AllSpelled, IsNoProgram, IsViable, IsLongestViable}
use Rattle.luo_syntax.specs.inner.StopsProgram.{ProgramStops}
use Rattle.luo_syntax.proofs.Prefixes.{BeginAlike, begin}
use Rattle.luo_syntax.proofs.ProgramStuck.{program_stuck, program_no}

-- all before the place begins some program, and with what stands there it begins none
record Stands (from at : List Lexeme) : Type 0 where
  prefix : List Lexeme
  cut : from ≡ prefix ++ at
  goes_on : IsViable prefix
  no_longer : (l : Lexeme) (rest more : List Lexeme) (s : Source) → at ≡ l ∷ rest → IsProgram (prefix ++ l ∷ more) [] s → ⊥

stands : {from at : List Lexeme} → ProgramStops from at → Stands from at
stands s =
    let k = program_stuck s in
    let g = k.goes_on [] tt in
    record {
      prefix = k.prefix.list;
      cut = k.cut ∙ k.prefix.is _;
      goes_on = (g.0, g.1, g.2, subst (λ z. IsProgram z [] g.2) (k.prefix.is g.0) g.3);
      no_longer = λ l rest more t f p. program_no (k.alike (l ∷ more) (subst (λ z. BeginAlike z (l ∷ more)) (sym f) (begin l rest more))) p (k.prefix.is (l ∷ more));
    }

take_past : (prefix rest : List Lexeme) (l : Lexeme) (d : ℕ) → take (length prefix + suc d) (prefix ++ l ∷ rest) ≡ prefix ++ l ∷ take d rest
take_past prefix rest l d = take-append-add prefix (l ∷ rest) (suc d)

pub take_take : (k m : ℕ) (ls : List Lexeme) → k ≤ m → take k (take m ls) ≡ take k ls
take_take zero m ls a = refl
take_take (suc k) zero ls a = absurd (omega (arith, a))
take_take (suc k) (suc m) [] a = refl
take_take (suc k) (suc m) (l ∷ ls) a = ap (λ z. l ∷ z) (take_take k m ls (omega (arith, a)))

pub spelled_prefix : (n : ℕ) (ls : List Lexeme) → AllSpelled ls → AllSpelled (take n ls)
spelled_prefix zero ls s = tt
spelled_prefix (suc n) [] s = tt
spelled_prefix (suc n) (l ∷ ls) (f, s) = (f, spelled_prefix n ls s)

spelled_behind : (n : ℕ) (ls : List Lexeme) → AllSpelled ls → AllSpelled (drop n ls)
spelled_behind zero ls s = s
spelled_behind (suc n) [] s = tt
spelled_behind (suc n) (l ∷ ls) (f, s) = spelled_behind n ls s

both_spelled : (prefix ls : List Lexeme) → AllSpelled prefix → AllSpelled ls → AllSpelled (prefix ++ ls)
both_spelled [] ls r s = s
both_spelled (l ∷ prefix) ls (f, r) s = (f, both_spelled prefix ls r s)

-- a prefix of what begins some program begins some program
pub viable_prefix : (k j : ℕ) (ls : List Lexeme) → AllSpelled ls → k ≤ j → IsViable (take j ls) → IsViable (take k ls)
viable_prefix k j ls spelled a (more, f, s, p) =
    let e : take j ls ≡ take k ls ++ drop k (take j ls) = sym (ap (λ z. z ++ drop k (take j ls)) (sym (take_take k j ls a)) ∙ take-append-drop k (take j ls)) in (
      drop k (take j ls) ++ more,
      both_spelled (drop k (take j ls)) more (spelled_behind k (take j ls) (spelled_prefix j ls spelled)) f,
      s,
      subst (λ z. IsProgram z [] s) (ap (λ z. z ++ more) e ∙ append_assoc (take k ls) (drop k (take j ls)) more) p,
    )

longest_at : (prefix at : List Lexeme) → IsViable prefix → ((l : Lexeme) (rest more : List Lexeme) (s : Source) → at ≡ l ∷ rest → IsProgram (prefix ++ l ∷ more) [] s → ⊥) → IsLongestViable (prefix ++ at) (length prefix)
longest_at prefix [] g n = record {
  within = omega (arith, length-append prefix []);
  viable = subst IsViable (sym (take-append_seam prefix [])) g;
  longest = λ j a b v. omega (arith, length-append prefix [], a, b);
}
longest_at prefix (l ∷ rest) g n = record {
  within = omega (arith, length-append prefix (l ∷ rest));
  viable = subst IsViable (sym (take-append_seam prefix (l ∷ rest))) g;
  longest = λ j a b v.
      let d = j - length prefix - 1 in
      let e : j ≡ length prefix + suc d = omega (arith, a) in
      let w = subst IsViable (ap (λ z. take z (prefix ++ l ∷ rest)) e ∙ take_past prefix rest l d) v in
      n l rest (take d rest ++ w.0) w.2 refl (subst (λ z. IsProgram z [] w.2) (append_assoc prefix (l ∷ take d rest) w.0) w.3);
}

longest_of : (from at : List Lexeme) → Stands from at → IsLongestViable from (length from - length at)
longest_of from at k =
    let e : length k.prefix ≡ length from - length at = omega (arith, ap length k.cut, length-append k.prefix at) in
    subst (IsLongestViable from) e (subst (λ z. IsLongestViable z (length k.prefix)) (sym k.cut) (longest_at k.prefix at k.goes_on k.no_longer))

-- what is longest within a prefix of a list, and ends before it, is longest within the list
pub longest_within : (ls : List Lexeme) (m k : ℕ) → AllSpelled ls → k < m → m ≤ length ls → IsLongestViable (take m ls) k → IsLongestViable ls k
longest_within ls m k spelled a b v = record {
  within = omega (arith, a, b);
  viable = subst IsViable (take_take k m ls (omega (arith, a))) v.viable;
  longest = λ j c d w. v.longest (k + 1) (omega arith) (omega (arith, a, b, length-take m ls)) (subst IsViable (sym (take_take (k + 1) m ls (omega (arith, a)))) (viable_prefix (k + 1) j ls spelled (omega (arith, c)) w));
}

pub longest : (from at : List Lexeme) → ProgramStops from at → IsLongestViable from (length from - length at)
longest from at s = longest_of from at (stands s)

pub stops_within : (from at : List Lexeme) → ProgramStops from at → length at ≤ length from
stops_within from at s = let k = stands s in omega (arith, ap length k.cut, length-append k.prefix at)

pub none_read : (from at : List Lexeme) → ProgramStops from at → IsNoProgram from
none_read from at s t p = program_no s p refl
