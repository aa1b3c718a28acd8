-- Names in a map.
use Rattle.std.proofs.Common.{◌≡◌, ℕ, false, cond, List, [], ◌∷◌, ◌++◌, map, Option, Some, None, is_some, refl, sym, ◌∙◌, ap, Vec, Global}
use Rattle.std.specs.Str.{bytes_eq}
use Rattle.std.specs.Map.{lookup}
use Rattle.std.proofs.lemmas.Cmp.{nat_list_eq_equiv}
use Rattle.std.proofs.lemmas.List.{map-append}
use Rattle.indexmap.specs.IndexMap.{IndexMap, insert_entry}
use Rattle.indexmap.proofs.CallerLemmas.{insert_entry-new}
use Rattle.luo_rules.specs.declared.names.Meaning.{Meaning}
use Rattle.luo_rules.specs.Meanings.{meaning, with_name}

-- a name is looked up by its text
pub meaning-lookup : {K : Type 0} (text_of : K → List ℕ) (text : List ℕ) (es : List (K × Meaning)) → lookup (λ k. bytes_eq text (text_of k)) es ≡ meaning (map (λ e. (text_of e.0, e.1)) es) text
meaning-lookup text_of text [] = refl
meaning-lookup text_of text (e ∷ es) =
    ap (λ b. cond b (Some e.1) (lookup (λ k. bytes_eq text (text_of k)) es)) (nat_list_eq_equiv.symm text (text_of e.0))
    ∙ ap (λ m. cond (bytes_eq (text_of e.0) text) (Some e.1) m) (meaning-lookup text_of text es)

-- names as the code holds them
abbrev pub Known : Type 0 → Type 0
Known S = IndexMap (Vec ℕ Global) Meaning S

abbrev pub names_of : {S : Type 0} → Known S → List (List ℕ × Meaning)
names_of known = map (λ e. (e.0.items, e.1)) known.entries

-- what a look-up finds is the meaning
pub meaning-known : {S : Type 0} (known : Known S) (names : List (List ℕ × Meaning)) (text : List ℕ) → names_of known ≡ names → lookup (λ k. bytes_eq text k.items) known.entries ≡ meaning names text
meaning-known known names text view = meaning-lookup (λ (k : Vec ℕ Global). k.items) text known.entries ∙ ap (λ ns. meaning ns text) view

-- a name with no meaning yet goes behind the others
pub with_name-new : (names : List (List ℕ × Meaning)) (more : List ℕ × Meaning) → meaning names more.0 ≡ None → with_name names more ≡ names ++ more ∷ []
with_name-new names more e = ap (λ m. cond (is_some m) names (names ++ more ∷ [])) e

pub added : {S : Type 0} (old new : Known S) (names : List (List ℕ × Meaning)) (key : Vec ℕ Global) (text : List ℕ) (what : Meaning) → names_of old ≡ names → key.items ≡ text → meaning names text ≡ None → new.entries ≡ insert_entry (λ a b. bytes_eq a.items b.items) old.entries key what → names_of new ≡ with_name names (text, what)
added old new names key text what view same none inserted =
    let absent : lookup (λ k. bytes_eq key.items k.items) old.entries ≡ None = ap (λ t. lookup (λ k. bytes_eq t k.items) old.entries) same ∙ meaning-known old names text view ∙ none in
    let last : new.entries ≡ old.entries ++ (key, what) ∷ [] = inserted ∙ insert_entry-new (λ a b. bytes_eq a.items b.items) old key what absent in
    ap (λ es. map (λ e. (e.0.items, e.1)) es) last
    ∙ map-append (λ e. (e.0.items, e.1)) old.entries ((key, what) ∷ [])
    ∙ ap (λ ns. ns ++ (key.items, what) ∷ []) view
    ∙ ap (λ t. names ++ (t, what) ∷ []) same
    ∙ sym (with_name-new names (text, what) none)

pub not_some : {X : Type 0} (o : Option X) → is_some o ≡ false → o ≡ None
not_some None e = refl
not_some (Some x) e = cc
