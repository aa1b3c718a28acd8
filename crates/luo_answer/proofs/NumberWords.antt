-- The number words of the language: `0`, or a digit from 1 to 9 followed by digits.
use Rattle.std.proofs.Common.{◌≡◌, ℕ, List, [], ◌∷◌, refl, sym, ◌∙◌, Bool, true, false, not, ◌==◌, None, Some}
use Rattle.std.specs.Cmp.{unsigned_Decides}
use Rattle.luo_scan.specs.Spellings.{value_after}
use Rattle.luo_answer.specs.NumberWords.{IsNumberWord}
use Rattle.luo_answer.specs.Words.{are_digits, is_led, number_of}
use Rattle.luo_answer.proofs.Numbers.{digits-all, all-digits}

apart : {A : Type 0} (x : A) (xs : List A) → x ∷ xs ≡ [] → ⊥
apart x xs e = cc

led : (word : List ℕ) (n : ℕ) → IsNumberWord word n → is_led word ≡ true
led [] n h = absurd h
led (d ∷ []) n h = refl
led (d ∷ c ∷ ds) n (a, lead, e) = by (d == 48) (unsigned_Decides d 48).0
  where
    by : (b : Bool) → (b ≡ true → d ≡ 48) → not b ≡ true
    by true f = absurd (apart c ds (lead (f refl)))
    by false f = refl

digits : (word : List ℕ) (n : ℕ) → IsNumberWord word n → (are_digits word ≡ true) × (n ≡ value_after 0 word)
digits [] n h = absurd h
digits (d ∷ ds) n (a, lead, e) = (all-digits (d ∷ ds) a, e)

pub number_word : (word : List ℕ) (n : ℕ) → IsNumberWord word n → number_of word ≡ Some n
number_word word n h = let d = digits word n h in rw (led word n h, d.0, d.1) refl

back : (word : List ℕ) (n : ℕ) (l g : Bool) → is_led word ≡ l → are_digits word ≡ g → number_of word ≡ Some n → IsNumberWord word n
back word n false g led dig e = absurd (none (sym (number_none word led) ∙ e))
  where
    none : None ≡ Some n → ⊥
    none e = cc

    number_none : (w : List ℕ) → is_led w ≡ false → number_of w ≡ None
    number_none w h = rw h refl
back word n true false led dig e = absurd (none (sym (number_none word led dig) ∙ e))
  where
    none : None ≡ Some n → ⊥
    none e = cc

    number_none : (w : List ℕ) → is_led w ≡ true → are_digits w ≡ false → number_of w ≡ None
    number_none w h k = rw (h, k) refl
back [] n true true led dig e = absurd (false_true led)
  where
    false_true : false ≡ true → ⊥
    false_true e = cc
back (d ∷ ds) n true true led dig e = (digits-all (d ∷ ds) dig, lead ds led, value (sym e ∙ number_some (d ∷ ds) led dig))
  where
    number_some : (w : List ℕ) → is_led w ≡ true → are_digits w ≡ true → number_of w ≡ Some (value_after 0 w)
    number_some w h k = rw (h, k) refl

    value : {a b : ℕ} → Some a ≡ Some b → a ≡ b
    value e = cc

    lead : (xs : List ℕ) → is_led (d ∷ xs) ≡ true → d ≡ 48 → xs ≡ []
    lead [] h k = refl
    lead (x ∷ xs) h k = absurd (by (d == 48) ((unsigned_Decides d 48).1 k) h)
      where
        by : (b : Bool) → b ≡ true → not b ≡ true → ⊥
        by true e f = cc
        by false e f = cc

pub word_number : (word : List ℕ) (n : ℕ) → number_of word ≡ Some n → IsNumberWord word n
word_number word n e = back word n (is_led word) (are_digits word) refl refl e
