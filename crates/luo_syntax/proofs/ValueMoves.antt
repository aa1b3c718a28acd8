-- Values that are read are read before other lists too.
use Rattle.std.proofs.Common.{◌≡◌, List, ◌∷◌, refl, ap, subst, ◌∙◌}
use Rattle.luo_scan.specs.declared.token.Word.TheVariants.{KwAtom, KwProduct, KwCase, KwOf, KwEnd}
use Rattle.luo_scan.specs.declared.token.Mark.TheVariants.{Semicolon, Comma, LeftRound, RightRound, Colon}
use Rattle.luo_scan.specs.declared.token.TokenKind.{TokenKind}
use Rattle.luo_scan.specs.declared.token.TokenKind.TheVariants as kind
use Rattle.luo_scan.specs.Lexemes.{Lexeme, lexeme}
use Rattle.luo_source.specs.declared.values.SourceValue.{SourceValue}
use Rattle.luo_source.specs.declared.values.SourceValue.TheVariants.{Given}
use Rattle.luo_source.specs.declared.values.SourceValueArm.{SourceValueArm}
use Rattle.luo_syntax.specs.inner.Next.{next, next_at, Misses}
use Rattle.luo_source.specs.GrammarValues.{IsValue, branch_value, inner_value, IsBranch, branch, IsInner, given, made, free_atom, charged_atom, bracketed, tuple, case_value, AreParts, last_part, more_parts, AreValueArms, last_value_arm, more_value_arms, IsValueArm, one_value_arm}
use Rattle.luo_syntax.specs.inner.StopsValues.{IsNumbered, numbered, InnerEnds, WholeValue, whole_branch, whole_inner, WholeArm, whole_arm}
use Rattle.luo_syntax.proofs.Prefixes.{Prefix, nothing, put, both, Moves, BeginAlike}
use Rattle.luo_syntax.proofs.Nexts.{no_alike}
use Rattle.luo_syntax.proofs.PatternMoves.{pattern_moves}
use Rattle.luo_syntax.proofs.ValueSteps.{branch_of}

mutual
  pub value_moves : {from to : List Lexeme} {v : SourceValue} → IsValue from to v → Moves (λ a b. IsValue a b v) from to
  value_moves (branch_value p) = let m = branch_moves p in record { prefix = m.prefix; cut = m.cut; moves = λ o. branch_value (m.moves o) }
  value_moves (inner_value p) = let m = inner_moves p in record { prefix = m.prefix; cut = m.cut; moves = λ o. inner_value (m.moves o) }

  pub branch_moves : {from to : List Lexeme} {v : SourceValue} → IsBranch from to v → Moves (λ a b. IsBranch a b v) from to
  branch_moves (branch {b} {c} {number = n} {at} {k} p) = let m = inner_moves p in record {
    prefix = put (lexeme (kind.Number n) b at) (put (lexeme (kind.Mark Colon) c k) m.prefix);
    cut = ap (λ z. lexeme (kind.Number n) b at ∷ lexeme (kind.Mark Colon) c k ∷ z) m.cut;
    moves = λ o. branch (m.moves o);
  }

  pub inner_moves : {from to : List Lexeme} {v : SourceValue} → IsInner from to v → Moves (λ a b. IsInner a b v) from to
  inner_moves (given {text} {at}) = record { prefix = put (lexeme kind.Name text at) nothing; cut = refl; moves = λ o. given }
  inner_moves (made {text} {b} {arg} {c} {at} {k} {arg_at} {l}) = record { prefix = put (lexeme kind.Name text at) (put (lexeme (kind.Mark LeftRound) b k) (put (lexeme kind.Name arg arg_at) (put (lexeme (kind.Mark RightRound) c l) nothing))); cut = refl; moves = λ o. made }
  inner_moves (free_atom {b} {at}) = record { prefix = put (lexeme (kind.Word KwAtom) b at) nothing; cut = refl; moves = λ o. free_atom }
  inner_moves (charged_atom {text} {b} {name_at} {at}) = record { prefix = put (lexeme kind.Name text name_at) (put (lexeme (kind.Word KwAtom) b at) nothing); cut = refl; moves = λ o. charged_atom }
  inner_moves (bracketed {b} {c} {k} {l} p) = let m = branch_moves p in record {
    prefix = put (lexeme (kind.Mark LeftRound) b k) (both m.prefix (put (lexeme (kind.Mark RightRound) c l) nothing));
    cut = ap (λ z. lexeme (kind.Mark LeftRound) b k ∷ z) m.cut;
    moves = λ o. bracketed (m.moves _);
  }
  inner_moves (tuple {b} {c} {d} {at} {k} {l} p ps) = let m = value_moves p in let n = parts_moves ps in record {
    prefix = put (lexeme (kind.Word KwProduct) b at) (put (lexeme (kind.Mark LeftRound) c k) (both m.prefix (put (lexeme (kind.Mark Comma) d l) n.prefix)));
    cut = ap (λ z. lexeme (kind.Word KwProduct) b at ∷ lexeme (kind.Mark LeftRound) c k ∷ z) (m.cut ∙ ap (λ z. m.prefix.before (lexeme (kind.Mark Comma) d l ∷ z)) n.cut);
    moves = λ o. tuple (m.moves _) (n.moves o);
  }
  inner_moves (case_value {b} {text} {c} {k} {at} {l} p) = let m = value_arms_moves p in record {
    prefix = put (lexeme (kind.Word KwCase) b k) (put (lexeme kind.Name text at) (put (lexeme (kind.Word KwOf) c l) m.prefix));
    cut = ap (λ z. lexeme (kind.Word KwCase) b k ∷ lexeme kind.Name text at ∷ lexeme (kind.Word KwOf) c l ∷ z) m.cut;
    moves = λ o. case_value (m.moves o);
  }

  pub parts_moves : {from to : List Lexeme} {vs : List SourceValue} → AreParts from to vs → Moves (λ a b. AreParts a b vs) from to
  parts_moves (last_part {b} {k} p) = let m = value_moves p in record { prefix = both m.prefix (put (lexeme (kind.Mark RightRound) b k) nothing); cut = m.cut; moves = λ o. last_part (m.moves _) }
  parts_moves (more_parts {b} {k} p ps) = let m = value_moves p in let n = parts_moves ps in record {
    prefix = both m.prefix (put (lexeme (kind.Mark Comma) b k) n.prefix);
    cut = m.cut ∙ ap (λ z. m.prefix.before (lexeme (kind.Mark Comma) b k ∷ z)) n.cut;
    moves = λ o. more_parts (m.moves _) (n.moves o);
  }

  pub value_arms_moves : {from to : List Lexeme} {arms : List SourceValueArm} → AreValueArms from to arms → Moves (λ a b. AreValueArms a b arms) from to
  value_arms_moves (last_value_arm {b} {k} p) = let m = value_arm_moves p in record { prefix = both m.prefix (put (lexeme (kind.Word KwEnd) b k) nothing); cut = m.cut; moves = λ o. last_value_arm (m.moves _) }
  value_arms_moves (more_value_arms {b} {k} p ps) = let m = value_arm_moves p in let n = value_arms_moves ps in record {
    prefix = both m.prefix (put (lexeme (kind.Mark Semicolon) b k) n.prefix);
    cut = m.cut ∙ ap (λ z. m.prefix.before (lexeme (kind.Mark Semicolon) b k ∷ z)) n.cut;
    moves = λ o. more_value_arms (m.moves _) (n.moves o);
  }

  pub value_arm_moves : {from to : List Lexeme} {arm : SourceValueArm} → IsValueArm from to arm → Moves (λ a b. IsValueArm a b arm) from to
  value_arm_moves (one_value_arm {b} {k} p q) = let m = pattern_moves p in let n = value_moves q in record {
    prefix = both m.prefix (put (lexeme (kind.Mark Colon) b k) n.prefix);
    cut = m.cut ∙ ap (λ z. m.prefix.before (lexeme (kind.Mark Colon) b k ∷ z)) n.cut;
    moves = λ o. one_value_arm (m.moves _) (n.moves o);
  }

pub numbered_moves : {from to : List Lexeme} {v : SourceValue} → IsNumbered from to v → Moves (λ a b. IsNumbered a b v) from to
numbered_moves (numbered {b} {k} p) = let m = inner_moves p in record {
  prefix = put (lexeme (kind.Mark Colon) b k) m.prefix;
  cut = ap (λ z. lexeme (kind.Mark Colon) b k ∷ z) m.cut;
  moves = λ o. numbered (m.moves o);
}

-- a prefix was read whatever follows, and read to its end where what follows begins alike
pub record EndMoves (Is Whole : List Lexeme → List Lexeme → Type 0) (from to : List Lexeme) : Type 0 where
  pub prefix : Prefix
  pub cut : from ≡ prefix.before to
  pub reads : (other : List Lexeme) → Is (prefix.before other) other
  pub moves : (other : List Lexeme) → BeginAlike to other → Whole (prefix.before other) other

-- where a lexeme was missed, what begins as what is left begins as what there was
pub alike_from : {what : TokenKind} {from at other : List Lexeme} → Misses what from at → BeginAlike at other → BeginAlike from other
alike_from {other} m a = subst (λ z. BeginAlike z other) m.0 a

-- a value ends before all lists that begin alike
pub inner_ends_alike : {a b : List Lexeme} (v : SourceValue) → BeginAlike a b → InnerEnds v a → InnerEnds v b
inner_ends_alike (Given name) b e = (no_alike b e.0, no_alike b e.1)
inner_ends_alike other b e = tt

pub whole_moves : {from to : List Lexeme} {v : SourceValue} → WholeValue from to v → EndMoves (λ a b. IsValue a b v) (λ a b. WholeValue a b v) from to
whole_moves (whole_branch {n} {v} (next_at {bytes = b} {at = k}) p e) = let m = numbered_moves p in record {
  prefix = put (lexeme (kind.Number n) b k) m.prefix;
  cut = ap (λ z. lexeme (kind.Number n) b k ∷ z) m.cut;
  reads = λ o. branch_value (branch_of (m.moves o));
  moves = λ o a. whole_branch next_at (m.moves o) (inner_ends_alike v a e);
}
whole_moves (whole_inner {v} p e) = let m = inner_moves p in record {
  prefix = m.prefix;
  cut = m.cut;
  reads = λ o. inner_value (m.moves o);
  moves = λ o a. whole_inner (m.moves o) (inner_ends_alike v a e);
}

pub whole_arm_moves : {from to : List Lexeme} {arm : SourceValueArm} → WholeArm from to arm → EndMoves (λ a b. IsValueArm a b arm) (λ a b. WholeArm a b arm) from to
whole_arm_moves (whole_arm p (next {bytes = b} {at = k}) q) = let m = pattern_moves p in let n = whole_moves q in record {
  prefix = both m.prefix (put (lexeme (kind.Mark Colon) b k) n.prefix);
  cut = m.cut ∙ ap (λ z. m.prefix.before (lexeme (kind.Mark Colon) b k ∷ z)) n.cut;
  reads = λ o. one_value_arm (m.moves _) (n.reads o);
  moves = λ o a. whole_arm (m.moves _) next (n.moves o a);
}
