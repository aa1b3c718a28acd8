-- A text has one list of tokens or one first fault, and not both.
use Rattle.std.proofs.Common.{◌≡◌, ◌≤◌, ◌<◌, ℕ, List, [], ◌∷◌, ◌++◌, length, take, drop, refl, ap, sym, ◌∙◌, subst, arith, Option, None, Some}
use Rattle.std.proofs.Math.Seq.{take-append_seam, drop-append_seam}
use Rattle.luo_num.specs.declared.limits.TheConstants.{NAME_LIMIT, NUMBER_LIMIT}
use Rattle.luo_scan.specs.declared.token.TokenKind.{TokenKind}
use Rattle.luo_scan.specs.declared.token.TokenKind.TheVariants as kind
use Rattle.luo_scan.specs.declared.token.Token.{Token}
use Rattle.luo_scan.specs.Tokens.{IsPiece, Begins, IsWithin, TokensFrom, at_end, skipped, taken, LexicalFault, FaultFrom, no_piece, name_limit, number_limit, behind_separator, behind_token}
use Rattle.luo_scan.proofs.OneKind.{one_kind, piece_some}

-- two pieces are the same, with what follows
pub record Same (p q r s : List ℕ) (k l : Option TokenKind) : Type 0 where
  pub pieces : p ≡ q
  pub rests : r ≡ s
  pub kinds : k ≡ l

prefixes : (p r q s : List ℕ) → p ++ r ≡ q ++ s → length p ≡ length q → (p ≡ q) × (r ≡ s)
prefixes p r q s e l = (
  sym (take-append_seam p r) ∙ (ap (λ z. take (length p) z) e ∙ (ap (λ n. take n (q ++ s)) l ∙ take-append_seam q s)),
  sym (drop-append_seam p r) ∙ (ap (λ z. drop (length p) z) e ∙ (ap (λ n. drop n (q ++ s)) l ∙ drop-append_seam q s)),
)

-- a text begins with one longest piece
pub one_piece : (text other p r q s : List ℕ) (k l : Option TokenKind) → Begins text p r k → Begins other q s l → text ≡ other → Same p q r s k l
one_piece text other p r q s k l a b e =
    let m = a.longest q s l (e ∙ b.whole) b.is in
    let n = b.longest p r k (sym e ∙ a.whole) a.is in
    let l' : length p ≡ length q = omega arith in
    let f = prefixes p r q s (sym a.whole ∙ (e ∙ b.whole)) l' in
    record { pieces = f.0; rests = f.1; kinds = one_kind p k l a.is (subst (λ z. IsPiece z l) (sym f.0) b.is) }

pub begins_some : (text p r : List ℕ) (k : Option TokenKind) → Begins text p r k → text ≡ [] → ⊥
begins_some text [] r k b e = piece_some [] k b.is refl
begins_some text (x ∷ p) r k b e = let h = sym e ∙ b.whole in cc

pub one_list : (at before : ℕ) (text other : List ℕ) (ts us : List Token) → TokensFrom at text ts → TokensFrom before other us → at ≡ before → text ≡ other → ts ≡ us
one_list at before text other ts us at_end at_end e f = refl
one_list at before text other ts us at_end (skipped q s b y) e f = absurd (begins_some other q s None b (sym f))
one_list at before text other ts us at_end (taken q s l b v y) e f = absurd (begins_some other q s (Some l) b (sym f))
one_list at before text other ts us (skipped p r a x) at_end e f = absurd (begins_some text p r None a f)
one_list at before text other ts us (skipped p r a x) (skipped q s b y) e f =
    let o = one_piece text other p r q s None None a b f in
    one_list _ _ r s ts us x y (cc) o.rests
one_list at before text other ts us (skipped p r a x) (taken q s l b v y) e f =
    let o = one_piece text other p r q s None (Some l) a b f in let h = o.kinds in cc
one_list at before text other ts us (taken p r k a w x) at_end e f = absurd (begins_some text p r (Some k) a f)
one_list at before text other ts us (taken p r k a w x) (skipped q s b y) e f =
    let o = one_piece text other p r q s (Some k) None a b f in let h = o.kinds in cc
one_list at before text other ts us (taken p r k a w x) (taken q s l b v y) e f =
    let o = one_piece text other p r q s (Some k) (Some l) a b f in
    let h = o.kinds in
    let i = o.pieces in
    let t = one_list _ _ r s _ _ x y (cc) o.rests in
    cc

too_long : (p q : List ℕ) (k : TokenKind) → Some k ≡ Some kind.Name → p ≡ q → IsWithin p k → NAME_LIMIT < length q → ⊥
too_long p q k e f w l =
    let h : k ≡ kind.Name = cc in
    let i : length p ≤ NAME_LIMIT = subst (λ z. IsWithin p z) h w in
    omega (arith, ap length f)

too_large : (p : List ℕ) (k : TokenKind) (n : ℕ) → Some k ≡ Some (kind.Number n) → IsWithin p k → NUMBER_LIMIT < n → ⊥
too_large p k n e w l =
    let h : k ≡ kind.Number n = cc in
    let i : n ≤ NUMBER_LIMIT = subst (λ z. IsWithin p z) h w in
    omega arith

pub not_both : (at before place : ℕ) (text other : List ℕ) (ts : List Token) (fault : LexicalFault) → TokensFrom at text ts → FaultFrom before other fault place → text ≡ other → ⊥
not_both at before place text other ts fault at_end (no_piece n) f = cc
not_both at before place text other ts fault at_end (name_limit q s b l) f = begins_some other q s (Some kind.Name) b (sym f)
not_both at before place text other ts fault at_end (number_limit q s n b l) f = begins_some other q s (Some (kind.Number n)) b (sym f)
not_both at before place text other ts fault at_end (behind_separator q s b y) f = begins_some other q s None b (sym f)
not_both at before place text other ts fault at_end (behind_token q s l b v y) f = begins_some other q s (Some l) b (sym f)
not_both at before place text other ts fault (skipped p r a x) (no_piece n) f = n p r None (sym f ∙ a.whole) a.is
not_both at before place text other ts fault (skipped p r a x) (name_limit q s b l) f =
    let h = (one_piece text other p r q s None (Some kind.Name) a b f).kinds in cc
not_both at before place text other ts fault (skipped p r a x) (number_limit q s n b l) f =
    let h = (one_piece text other p r q s None (Some (kind.Number n)) a b f).kinds in cc
not_both at before place text other ts fault (skipped p r a x) (behind_separator q s b y) f =
    not_both _ _ place r s ts fault x y (one_piece text other p r q s None None a b f).rests
not_both at before place text other ts fault (skipped p r a x) (behind_token q s l b v y) f =
    let h = (one_piece text other p r q s None (Some l) a b f).kinds in cc
not_both at before place text other ts fault (taken p r k a w x) (no_piece n) f = n p r (Some k) (sym f ∙ a.whole) a.is
not_both at before place text other ts fault (taken p r k a w x) (name_limit q s b l) f =
    let o = one_piece text other p r q s (Some k) (Some kind.Name) a b f in too_long p q k o.kinds o.pieces w l
not_both at before place text other ts fault (taken p r k a w x) (number_limit q s n b l) f =
    let o = one_piece text other p r q s (Some k) (Some (kind.Number n)) a b f in too_large p k n o.kinds w l
not_both at before place text other ts fault (taken p r k a w x) (behind_separator q s b y) f =
    let h = (one_piece text other p r q s (Some k) None a b f).kinds in cc
not_both at before place text other ts fault (taken p r k a w x) (behind_token q s l b v y) f =
    not_both _ _ place r s _ fault x y (one_piece text other p r q s (Some k) (Some l) a b f).rests

pub one_fault : (at before here there : ℕ) (text other : List ℕ) (one two : LexicalFault) → FaultFrom at text one here → FaultFrom before other two there → at ≡ before → text ≡ other → (one ≡ two) × (here ≡ there)
one_fault at before here there text other one two (no_piece n) (no_piece m) e f = (refl, e)
one_fault at before here there text other one two (no_piece n) (name_limit q s b l) e f = absurd (n q s _ (f ∙ b.whole) b.is)
one_fault at before here there text other one two (no_piece n) (number_limit q s k b l) e f = absurd (n q s _ (f ∙ b.whole) b.is)
one_fault at before here there text other one two (no_piece n) (behind_separator q s b y) e f = absurd (n q s _ (f ∙ b.whole) b.is)
one_fault at before here there text other one two (no_piece n) (behind_token q s l b v y) e f = absurd (n q s _ (f ∙ b.whole) b.is)
one_fault at before here there text other one two (name_limit p r a l) (no_piece m) e f = absurd (m p r _ (sym f ∙ a.whole) a.is)
one_fault at before here there text other one two (name_limit p r a l) (name_limit q s b m) e f = (refl, e)
one_fault at before here there text other one two (name_limit p r a l) (number_limit q s n b m) e f =
    let h = (one_piece text other p r q s _ _ a b f).kinds in cc
one_fault at before here there text other one two (name_limit p r a l) (behind_separator q s b y) e f =
    let h = (one_piece text other p r q s _ _ a b f).kinds in cc
one_fault at before here there text other one two (name_limit p r a l) (behind_token q s k b v y) e f =
    let o = one_piece text other p r q s _ _ a b f in absurd (too_long q p k (sym o.kinds) (sym o.pieces) v l)
one_fault at before here there text other one two (number_limit p r n a l) (no_piece m) e f = absurd (m p r _ (sym f ∙ a.whole) a.is)
one_fault at before here there text other one two (number_limit p r n a l) (name_limit q s b m) e f =
    let h = (one_piece text other p r q s _ _ a b f).kinds in cc
one_fault at before here there text other one two (number_limit p r n a l) (number_limit q s k b m) e f = (refl, e)
one_fault at before here there text other one two (number_limit p r n a l) (behind_separator q s b y) e f =
    let h = (one_piece text other p r q s _ _ a b f).kinds in cc
one_fault at before here there text other one two (number_limit p r n a l) (behind_token q s k b v y) e f =
    let o = one_piece text other p r q s _ _ a b f in absurd (too_large q k n (sym o.kinds) v l)
one_fault at before here there text other one two (behind_separator p r a x) (no_piece m) e f = absurd (m p r _ (sym f ∙ a.whole) a.is)
one_fault at before here there text other one two (behind_separator p r a x) (name_limit q s b m) e f =
    let h = (one_piece text other p r q s _ _ a b f).kinds in cc
one_fault at before here there text other one two (behind_separator p r a x) (number_limit q s k b m) e f =
    let h = (one_piece text other p r q s _ _ a b f).kinds in cc
one_fault at before here there text other one two (behind_separator p r a x) (behind_separator q s b y) e f =
    let o = one_piece text other p r q s _ _ a b f in
    let i = o.pieces in
    one_fault _ _ here there r s one two x y (cc) o.rests
one_fault at before here there text other one two (behind_separator p r a x) (behind_token q s k b v y) e f =
    let h = (one_piece text other p r q s _ _ a b f).kinds in cc
one_fault at before here there text other one two (behind_token p r k a w x) (no_piece m) e f = absurd (m p r _ (sym f ∙ a.whole) a.is)
one_fault at before here there text other one two (behind_token p r k a w x) (name_limit q s b m) e f =
    let o = one_piece text other p r q s _ _ a b f in absurd (too_long p q k o.kinds o.pieces w m)
one_fault at before here there text other one two (behind_token p r k a w x) (number_limit q s n b m) e f =
    let o = one_piece text other p r q s _ _ a b f in absurd (too_large p k n o.kinds w m)
one_fault at before here there text other one two (behind_token p r k a w x) (behind_separator q s b y) e f =
    let h = (one_piece text other p r q s _ _ a b f).kinds in cc
one_fault at before here there text other one two (behind_token p r k a w x) (behind_token q s l b v y) e f =
    let o = one_piece text other p r q s _ _ a b f in
    let i = o.pieces in
    one_fault _ _ here there r s one two x y (cc) o.rests
