-- The words of each command.
use Rattle.std.proofs.Common.{◌≡◌, ℕ, List, [], ◌∷◌, refl, sym, subst, ap, ◌∙◌, Bool, true, false, Option, None, Some}
use Rattle.std.specs.Prelude.{codes, if◌then◌else◌}
use Rattle.std.specs.Option.{option_map, option_and_then}
use Rattle.std.specs.Str.{bytes_eq}
use Rattle.std.proofs.lemmas.Slice.Eq.{bytes_eq-Decides}
use Rattle.luo_finite.proofs.Places.{some_same}
use Rattle.luo_answer.specs.NumberWords.{IsNumberWord}
use Rattle.luo_answer.specs.Words.{Command, Analyse, Format, Run, Sample, number_of, analyse_of, format_of, run_of, sample_of, command_of, Listing, list_of, Audit, audit_of}
use Rattle.luo_answer.proofs.NumberWords.{number_word, word_number}

none_some : {A : Type 0} {x : A} → None ≡ Some x → ⊥
none_some e = cc

-- the words have the form of this command
abbrev pub IsSpelled : Command → List (List ℕ) → Type 0
IsSpelled (Analyse file n) words = (word : List ℕ) × (words ≡ codes "analyse" ∷ file ∷ word ∷ []) × IsNumberWord word n
IsSpelled (Format file) words = words ≡ codes "format" ∷ file ∷ []
IsSpelled (Run file procedure structure) words = words ≡ codes "run" ∷ file ∷ procedure ∷ structure ∷ []
IsSpelled (Sample number n) words = (first : List ℕ) × (second : List ℕ) × (words ≡ codes "sample" ∷ first ∷ second ∷ []) × IsNumberWord first number × IsNumberWord second n
IsSpelled (Listing file name n start count) words =
    (size : List ℕ) × (place : List ℕ) × (most : List ℕ) × (words ≡ codes "list" ∷ file ∷ name ∷ size ∷ place ∷ most ∷ [])
    × IsNumberWord size n × IsNumberWord place start × IsNumberWord most count
IsSpelled (Audit file n w) words =
    (size : List ℕ) × (workers : List ℕ) × (words ≡ codes "audit" ∷ file ∷ size ∷ workers ∷ []) × IsNumberWord size n × IsNumberWord workers w

-- they are given by these words
is_spelled : (words : List (List ℕ)) (c d : Command) → Some d ≡ Some c → IsSpelled d words → IsSpelled c words
is_spelled words c d e h = subst (λ (x : Command). IsSpelled x words) (some_same d c e) h

-- behind a name stands what its form asks for
analyse_rest : (rest : List (List ℕ)) (c : Command) → analyse_of rest ≡ Some c → IsSpelled c (codes "analyse" ∷ rest)
analyse_rest [] c e = absurd (none_some e)
analyse_rest (file ∷ []) c e = absurd (none_some e)
analyse_rest (file ∷ word ∷ other ∷ more) c e = absurd (none_some e)
analyse_rest (file ∷ word ∷ []) c e = by (number_of word) refl e
  where
    by : (o : Option ℕ) → number_of word ≡ o → option_map (Analyse file) o ≡ Some c → IsSpelled c (codes "analyse" ∷ file ∷ word ∷ [])
    by None h k = absurd (none_some k)
    by (Some n) h k = is_spelled _ c (Analyse file n) k (word, refl, word_number word n h)

format_rest : (rest : List (List ℕ)) (c : Command) → format_of rest ≡ Some c → IsSpelled c (codes "format" ∷ rest)
format_rest [] c e = absurd (none_some e)
format_rest (file ∷ []) c e = is_spelled _ c (Format file) e refl
format_rest (file ∷ other ∷ more) c e = absurd (none_some e)

run_rest : (rest : List (List ℕ)) (c : Command) → run_of rest ≡ Some c → IsSpelled c (codes "run" ∷ rest)
run_rest [] c e = absurd (none_some e)
run_rest (file ∷ []) c e = absurd (none_some e)
run_rest (file ∷ procedure ∷ []) c e = absurd (none_some e)
run_rest (file ∷ procedure ∷ structure ∷ []) c e = is_spelled _ c (Run file procedure structure) e refl
run_rest (file ∷ procedure ∷ structure ∷ other ∷ more) c e = absurd (none_some e)

sample_rest : (rest : List (List ℕ)) (c : Command) → sample_of rest ≡ Some c → IsSpelled c (codes "sample" ∷ rest)
sample_rest [] c e = absurd (none_some e)
sample_rest (first ∷ []) c e = absurd (none_some e)
sample_rest (first ∷ second ∷ other ∷ more) c e = absurd (none_some e)
sample_rest (first ∷ second ∷ []) c e = by (number_of first) (number_of second) refl refl e
  where
    by : (o p : Option ℕ) → number_of first ≡ o → number_of second ≡ p → option_and_then (λ k. option_map (Sample k) p) o ≡ Some c → IsSpelled c (codes "sample" ∷ first ∷ second ∷ [])
    by None p h g k = absurd (none_some k)
    by (Some number) None h g k = absurd (none_some k)
    by (Some number) (Some n) h g k = is_spelled _ c (Sample number n) k (first, second, refl, word_number first number h, word_number second n g)

list_rest : (rest : List (List ℕ)) (c : Command) → list_of rest ≡ Some c → IsSpelled c (codes "list" ∷ rest)
list_rest [] c e = absurd (none_some e)
list_rest (file ∷ []) c e = absurd (none_some e)
list_rest (file ∷ name ∷ []) c e = absurd (none_some e)
list_rest (file ∷ name ∷ size ∷ []) c e = absurd (none_some e)
list_rest (file ∷ name ∷ size ∷ place ∷ []) c e = absurd (none_some e)
list_rest (file ∷ name ∷ size ∷ place ∷ most ∷ other ∷ more) c e = absurd (none_some e)
list_rest (file ∷ name ∷ size ∷ place ∷ most ∷ []) c e = by (number_of size) (number_of place) (number_of most) refl refl refl e
  where
    by : (o p q : Option ℕ) → number_of size ≡ o → number_of place ≡ p → number_of most ≡ q
        → option_and_then (λ n. option_and_then (λ start. option_map (Listing file name n start) q) p) o ≡ Some c
        → IsSpelled c (codes "list" ∷ file ∷ name ∷ size ∷ place ∷ most ∷ [])
    by None p q h g i k = absurd (none_some k)
    by (Some n) None q h g i k = absurd (none_some k)
    by (Some n) (Some start) None h g i k = absurd (none_some k)
    by (Some n) (Some start) (Some count) h g i k =
        is_spelled _ c (Listing file name n start count) k (size, place, most, refl, word_number size n h, word_number place start g, word_number most count i)

audit_rest : (rest : List (List ℕ)) (c : Command) → audit_of rest ≡ Some c → IsSpelled c (codes "audit" ∷ rest)
audit_rest [] c e = absurd (none_some e)
audit_rest (file ∷ []) c e = absurd (none_some e)
audit_rest (file ∷ size ∷ []) c e = absurd (none_some e)
audit_rest (file ∷ size ∷ workers ∷ other ∷ more) c e = absurd (none_some e)
audit_rest (file ∷ size ∷ workers ∷ []) c e = by (number_of size) (number_of workers) refl refl e
  where
    by : (o p : Option ℕ) → number_of size ≡ o → number_of workers ≡ p → option_and_then (λ n. option_map (Audit file n) p) o ≡ Some c
        → IsSpelled c (codes "audit" ∷ file ∷ size ∷ workers ∷ [])
    by None p h g k = absurd (none_some k)
    by (Some n) None h g k = absurd (none_some k)
    by (Some n) (Some w) h g k = is_spelled _ c (Audit file n w) k (size, workers, refl, word_number size n h, word_number workers w g)

module _ (name : List ℕ) (rest : List (List ℕ)) (c : Command) where
  -- the name is this one, or one of the others
  this_or : (word : List ℕ) (found other : Option Command) → (found ≡ Some c → IsSpelled c (word ∷ rest)) → (other ≡ Some c → IsSpelled c (name ∷ rest))
      → (if bytes_eq name word then found else other) ≡ Some c → IsSpelled c (name ∷ rest)
  this_or word found other this or e = by (bytes_eq name word) refl e
    where
      by : (b : Bool) → bytes_eq name word ≡ b → (if b then found else other) ≡ Some c → IsSpelled c (name ∷ rest)
      by true h k = subst (λ w. IsSpelled c (w ∷ rest)) (sym ((bytes_eq-Decides name word).0 h)) (this k)
      by false h k = or k

  named : command_of (name ∷ rest) ≡ Some c → IsSpelled c (name ∷ rest)
  named =
      this_or (codes "analyse") (analyse_of rest) _ (analyse_rest rest c) (
      this_or (codes "format") (format_of rest) _ (format_rest rest c) (
      this_or (codes "run") (run_of rest) _ (run_rest rest c) (
      this_or (codes "sample") (sample_of rest) _ (sample_rest rest c) (
      this_or (codes "list") (list_of rest) _ (list_rest rest c) (
      this_or (codes "audit") (audit_of rest) None (audit_rest rest c) (λ e. absurd (none_some e)))))))

-- a command is asked for by the words of its form
pub command_spelled : (words : List (List ℕ)) (c : Command) → command_of words ≡ Some c → IsSpelled c words
command_spelled [] c e = absurd (none_some e)
command_spelled (name ∷ rest) c e = named name rest c e

-- and the words of its form ask for it
pub spelled_command : (words : List (List ℕ)) (c : Command) → IsSpelled c words → command_of words ≡ Some c
spelled_command words (Analyse file n) (word, e, h) = ap command_of e ∙ ap (λ o. option_map (Analyse file) o) (number_word word n h)
spelled_command words (Format file) e = ap command_of e
spelled_command words (Run file procedure structure) e = ap command_of e
spelled_command words (Sample number n) (first, second, e, h, g) =
    ap command_of e ∙ (ap (λ o. option_and_then (λ k. option_map (Sample k) (number_of second)) o) (number_word first number h) ∙ ap (λ o. option_map (Sample number) o) (number_word second n g))
spelled_command words (Listing file name n start count) (size, place, most, e, h, g, k) =
    let s = number_word size n h in
    let l = number_word place start g in
    let m = number_word most count k in
    ap command_of e ∙ (λ z. option_and_then (λ size. option_and_then (λ place. option_map (Listing file name size place) (m z)) (l z)) (s z))
spelled_command words (Audit file n w) (size, workers, e, h, g) =
    ap command_of e ∙ (ap (λ o. option_and_then (λ k. option_map (Audit file k) (number_of workers)) o) (number_word size n h) ∙ ap (λ o. option_map (Audit file n) o) (number_word workers w g))
