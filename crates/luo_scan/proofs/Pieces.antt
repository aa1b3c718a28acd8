-- What the first byte of a text and a run of bytes say of the piece that begins it.
use Rattle.std.proofs.Common.{◌≡◌, ◌≢◌, ◌≤◌, ◌<◌, ◌+◌, min, ℕ, zero, suc, List, [], ◌∷◌, ◌++◌, length, take, drop, get_or, refl, ap, sym, ◌∙◌, subst, inl, arith, Option, None, Some}
use Rattle.std.proofs.Math.Seq.{take-append_seam, drop-append_seam}
use Rattle.std.proofs.lemmas.List.{take-append-drop, length-take-le, length-append}
use Rattle.luo_num.specs.declared.limits.TheConstants.{NAME_LIMIT, NUMBER_LIMIT}
use Rattle.luo_scan.specs.declared.token.Word.{Word}
use Rattle.luo_scan.specs.declared.token.Mark.{Mark}
use Rattle.luo_scan.specs.declared.token.TokenKind.{TokenKind}
use Rattle.luo_scan.specs.declared.token.TokenKind.TheVariants as kind
use Rattle.luo_scan.specs.Bytes.{IsSeparator, IsDigit, IsLetter, IsNameByte}
use Rattle.luo_scan.specs.Faults.{IsSome, IsFaulty}
use Rattle.luo_scan.specs.Prefixes.{IsRun}
use Rattle.luo_scan.specs.Spellings.{spelling, sign, value_after}
use Rattle.luo_scan.specs.Tokens.{Begins, bad_byte, long_name, large_number, no_piece, name_limit, number_limit}
use Rattle.luo_scan.proofs.Longest.{begins_separator, begins_comment, begins_name, begins_word, begins_zero, begins_number, begins_mark, begins_not}
use Rattle.luo_scan.proofs.Shapes.{IsMarkLike, mark_like}

-- the first bytes, so many, are the longest piece
pub record IsCut (text : List ℕ) (count : ℕ) (what : Option TokenKind) : Type 0 where
  pub some : IsSome text count
  pub begins : Begins text (take count text) (drop count text) what

joined : (b : ℕ) (t : List ℕ) (m : ℕ) (what : Option TokenKind) → Begins (b ∷ (take m t ++ drop m t)) (b ∷ take m t) (drop m t) what → Begins (b ∷ t) (b ∷ take m t) (drop m t) what
joined b t m what h = subst (λ z. Begins (b ∷ z) (b ∷ take m t) (drop m t) what) (take-append-drop m t) h

pub separator_cut : (text : List ℕ) → 0 < length text → IsSeparator (get_or text 0 0) → IsCut text 1 None
separator_cut [] l s = absurd (omega arith)
separator_cut (b ∷ t) l s = record { some = (omega arith, omega arith); begins = begins_separator b t s }

pub comment_cut : (text : List ℕ) (n : ℕ) → 0 < length text → get_or text 0 0 ≡ 37 → IsRun (λ c. c ≢ 10) text n → IsCut text n None
comment_cut [] n l s r = absurd (omega arith)
comment_cut (b ∷ t) zero l s r = absurd (r.stops (λ e. omega arith))
comment_cut (b ∷ t) (suc m) l s r = record {
  some = (omega arith, r.within);
  begins = joined b t m None (subst (λ z. Begins (z ∷ (take m t ++ drop m t)) (z ∷ take m t) (drop m t) None) (sym s) (begins_comment (take m t) (drop m t) r.all.1 r.stops));
}

pub name_cut : (text : List ℕ) (n : ℕ) → 0 < length text → IsLetter (get_or text 0 0) → IsRun IsNameByte text n → ((w : Word) → spelling w ≢ take n text) → IsCut text n (Some kind.Name)
name_cut [] n l s r w = absurd (omega arith)
name_cut (b ∷ t) zero l s r w = absurd (r.stops (inl s))
name_cut (b ∷ t) (suc m) l s r w = record {
  some = (omega arith, r.within);
  begins = joined b t m (Some kind.Name) (begins_name b (take m t) (drop m t) s r.all.1 r.stops w);
}

pub word_cut : (text : List ℕ) (n : ℕ) (w : Word) → 0 < length text → IsLetter (get_or text 0 0) → IsRun IsNameByte text n → spelling w ≡ take n text → IsCut text n (Some (kind.Word w))
word_cut [] n w l s r e = absurd (omega arith)
word_cut (b ∷ t) zero w l s r e = absurd (r.stops (inl s))
word_cut (b ∷ t) (suc m) w l s r e = record {
  some = (omega arith, r.within);
  begins = joined b t m (Some (kind.Word w)) (begins_word w b (take m t) (drop m t) e r.stops);
}

pub zero_cut : (text : List ℕ) → 0 < length text → get_or text 0 0 ≡ 48 → IsCut text 1 (Some (kind.Number 0))
zero_cut [] l s = absurd (omega arith)
zero_cut (b ∷ t) l s = record {
  some = (omega arith, omega arith);
  begins = subst (λ z. Begins (z ∷ t) (z ∷ []) t (Some (kind.Number 0))) (sym s) (begins_zero t);
}

pub number_cut : (text : List ℕ) (n : ℕ) → 0 < length text → IsDigit (get_or text 0 0) → get_or text 0 0 ≢ 48 → IsRun IsDigit text n → IsCut text n (Some (kind.Number (value_after 0 (take n text))))
number_cut [] n l s z r = absurd (omega arith)
number_cut (b ∷ t) zero l s z r = absurd (r.stops s)
number_cut (b ∷ t) (suc m) l s z r = record {
  some = (omega arith, r.within);
  begins = joined b t m _ (begins_number b (take m t) (drop m t) s z r.all.1 r.stops);
}

mark_prefix : (m : Mark) (p after : List ℕ) → IsMarkLike p → sign m ≡ p → IsCut (p ++ after) (length p) (Some (kind.Mark m))
mark_prefix m [] after h e = absurd h
mark_prefix m (b ∷ ps) after h e = record {
  some = (omega arith, omega (arith, length-append (b ∷ ps) after));
  begins = subst (λ z. Begins (b ∷ (ps ++ after)) z (drop (length (b ∷ ps)) (b ∷ (ps ++ after))) (Some (kind.Mark m))) (sym (take-append_seam (b ∷ ps) after))
      (subst (λ z. Begins (b ∷ (ps ++ after)) (b ∷ ps) z (Some (kind.Mark m))) (sym (drop-append_seam (b ∷ ps) after)) (begins_mark m b ps after e));
}

pub mark_cut : (m : Mark) (text after : List ℕ) → text ≡ sign m ++ after → IsCut text (length (sign m)) (Some (kind.Mark m))
mark_cut m text after e =
    subst (λ z. IsCut z (length (sign m)) (Some (kind.Mark m))) (sym e) (mark_prefix m (sign m) after (mark_like m) refl)

pub no_cut : (text : List ℕ) → 0 < length text → (IsSeparator (get_or text 0 0) → ⊥) → get_or text 0 0 ≢ 37 → (IsLetter (get_or text 0 0) → ⊥) → (IsDigit (get_or text 0 0) → ⊥) → ((m : Mark) (after : List ℕ) → text ≢ sign m ++ after) → IsFaulty text bad_byte
no_cut [] l s c n d m at = absurd (omega arith)
no_cut (b ∷ t) l s c n d m at =
    no_piece (begins_not b t s c n d (λ k bs after e f. m k after (sym (ap (λ z. z ++ after) e ∙ ap (λ z. b ∷ z) (sym f)))))

-- a name that is too long is a fault
pub long_cut : (text : List ℕ) (n : ℕ) → NAME_LIMIT < n → IsCut text n (Some kind.Name) → IsFaulty text long_name
long_cut text n l c at = name_limit (take n text) (drop n text) c.begins (omega (arith, length-take-le n text c.some.1))

pub short_cut : (text : List ℕ) (n : ℕ) → n ≤ NAME_LIMIT → IsCut text n (Some kind.Name) → length (take n text) ≤ NAME_LIMIT
short_cut text n l c = omega (arith, length-take-le n text c.some.1)

pub large_cut : (text : List ℕ) (n : ℕ) (value number : ℕ) → number ≡ min value (NUMBER_LIMIT + 1) → NUMBER_LIMIT < number → IsCut text n (Some (kind.Number value)) → IsFaulty text large_number
large_cut text n value number e l c at = number_limit (take n text) (drop n text) value c.begins (omega arith)

pub exact : (value number : ℕ) → number ≡ min value (NUMBER_LIMIT + 1) → number ≤ NUMBER_LIMIT → value ≡ number
exact value number e l = omega arith
