-- How values are put together.
use Rattle.std.proofs.Common.{◌≡◌, ℕ, None, Some, ◌<◌, List, ◌∷◌, length, sym, subst, ◌∙◌, arith}
use Rattle.luo_scan.specs.declared.token.Word.TheVariants.{KwAtom, KwProduct, KwCase, KwOf}
use Rattle.luo_scan.specs.declared.token.Mark.TheVariants.{Comma, LeftRound, RightRound, Colon}
use Rattle.luo_scan.specs.declared.token.TokenKind.TheVariants as kind
use Rattle.luo_scan.specs.Lexemes.{Lexeme, lexeme}
use Rattle.luo_source.specs.declared.names.Name.{Name}
use Rattle.luo_source.specs.declared.values.SourceValue.{SourceValue}
use Rattle.luo_source.specs.declared.values.SourceValue.TheVariants.{Given, Made, Atom, Tuple, Branch, Case}
use Rattle.luo_source.specs.declared.values.SourceValueArm.{SourceValueArm}
use Rattle.luo_source.specs.Ends.{No, EndsValue}
use Rattle.luo_syntax.specs.inner.Next.{IsNext, next, IsNextAt, next_at, IsName, next_name, NoNumber, Misses, MissesName, MissesNumber}
use Rattle.luo_source.specs.GrammarValues.{IsValue, branch_value, inner_value, IsBranch, branch, IsInner, given, made, free_atom, charged_atom, bracketed, tuple, case_value, AreParts, last_part, more_parts, AreValueArms, last_value_arm, more_value_arms, IsValueArm, one_value_arm}
use Rattle.luo_syntax.specs.inner.StopsPatterns.{behind_name}
use Rattle.luo_syntax.specs.inner.StopsValues.{IsNumbered, numbered, IsBracketed, in_round, IsTuple, parts, IsValueCase, arms_of, IsMade, made_on, InnerEnds, WholeValue, whole_branch, whole_inner, WholeNumbered, whole_numbered, WholeArm, whole_arm, NoInner, ReadsParts, MadeStops, made_name, made_right, ValueStops, no_value, in_number, in_inner, NumberedStops, numbered_colon, numbered_inner, InnerStops, no_inner, begun_inner, BegunStops, inner_bracketed, inner_tuple, inner_case, inner_made, BracketedStops, bracketed_number, bracketed_numbered, bracketed_right, TupleStops, tuple_left, tuple_first, tuple_comma, tuple_more, PartsStop, in_part, past_part, past_parts, ValueCaseStops, value_case_name, value_case_of, value_case_arms, ValueArmsStop, in_value_arm, past_value_arm, past_value_arms, ValueArmStops, arm_pattern, arm_colon, arm_value}
use Rattle.luo_syntax.proofs.Nexts.{next_past}
use Rattle.luo_syntax.proofs.PatternSteps.{pattern_shorter, next_at_past}

pub branch_of : {from to : List Lexeme} {b : List ℕ} {n k : ℕ} {v : SourceValue} → IsNumbered from to v → IsBranch (lexeme (kind.Number n) b k ∷ from) to (Branch n k v)
branch_of (numbered p) = branch p

pub inner_of_bracketed : {from to : List Lexeme} {b : List ℕ} {k : ℕ} {v : SourceValue} → IsBracketed from to v → IsInner (lexeme (kind.Mark LeftRound) b k ∷ from) to v
inner_of_bracketed (in_round p) = bracketed p

pub inner_of_tuple : {from to : List Lexeme} {b : List ℕ} {k : ℕ} {vs : List SourceValue} → IsTuple from to vs → IsInner (lexeme (kind.Word KwProduct) b k ∷ from) to (Tuple vs k)
inner_of_tuple (parts p ps) = tuple p ps

pub inner_of_case : {from to : List Lexeme} {b : List ℕ} {k : ℕ} {v : SourceValue} → IsValueCase from to v → IsInner (lexeme (kind.Word KwCase) b k ∷ from) to v
inner_of_case (arms_of p) = case_value p

pub inner_of_made : {from to : List Lexeme} {text b : List ℕ} {at k : ℕ} {name : Name} → IsMade from to name → IsInner (lexeme kind.Name text at ∷ lexeme (kind.Mark LeftRound) b k ∷ from) to (Made (record { text = text; at = at }) name)
inner_of_made made_on = made

pub whole_is : {from to : List Lexeme} {v : SourceValue} → WholeValue from to v → IsValue from to v
whole_is (whole_branch next_at p e) = branch_value (branch_of p)
whole_is (whole_inner p e) = inner_value p

pub whole_arm_is : {from to : List Lexeme} {arm : SourceValueArm} → WholeArm from to arm → IsValueArm from to arm
whole_arm_is (whole_arm p next q) = one_value_arm p (whole_is q)

mutual
  pub value_shorter : {from to : List Lexeme} {v : SourceValue} → IsValue from to v → length to < length from
  value_shorter (branch_value p) = branch_shorter p
  value_shorter (inner_value p) = inner_shorter p

  pub branch_shorter : {from to : List Lexeme} {v : SourceValue} → IsBranch from to v → length to < length from
  branch_shorter (branch p) = omega (arith, inner_shorter p)

  pub inner_shorter : {from to : List Lexeme} {v : SourceValue} → IsInner from to v → length to < length from
  inner_shorter given = omega arith
  inner_shorter made = omega arith
  inner_shorter free_atom = omega arith
  inner_shorter charged_atom = omega arith
  inner_shorter (bracketed p) = omega (arith, branch_shorter p)
  inner_shorter (tuple p ps) = omega (arith, value_shorter p, parts_shorter ps)
  inner_shorter (case_value p) = omega (arith, value_arms_shorter p)

  pub parts_shorter : {from to : List Lexeme} {vs : List SourceValue} → AreParts from to vs → length to < length from
  parts_shorter (last_part p) = omega (arith, value_shorter p)
  parts_shorter (more_parts p ps) = omega (arith, value_shorter p, parts_shorter ps)

  pub value_arms_shorter : {from to : List Lexeme} {arms : List SourceValueArm} → AreValueArms from to arms → length to < length from
  value_arms_shorter (last_value_arm p) = omega (arith, value_arm_shorter p)
  value_arms_shorter (more_value_arms p ps) = omega (arith, value_arm_shorter p, value_arms_shorter ps)

  pub value_arm_shorter : {from to : List Lexeme} {arm : SourceValueArm} → IsValueArm from to arm → length to < length from
  value_arm_shorter (one_value_arm p q) = omega (arith, pattern_shorter p, value_shorter q)

-- a value
pub whole_of_number : {from mid to : List Lexeme} {n k : ℕ} {v : SourceValue} → IsNextAt (kind.Number n) k from mid → WholeNumbered n k mid to v → WholeValue from to v
whole_of_number f (whole_numbered p e) = whole_branch f p e

pub whole_past_number : {from mid to : List Lexeme} {v : SourceValue} → MissesNumber from mid → IsInner mid to v → InnerEnds v to → WholeValue from to v
whole_past_number {to} {v} m p e = whole_inner (subst (λ z. IsInner z to v) m.0 p) e

pub inner_of_stops : {from at : List Lexeme} → NoNumber from → InnerStops from at → ValueStops from at
inner_of_stops n (no_inner e i) = no_value e n i
inner_of_stops n (begun_inner s) = in_inner s

pub stops_past_number : {from mid at : List Lexeme} → MissesNumber from mid → InnerStops mid at → ValueStops from at
stops_past_number {at} m s = inner_of_stops m.1 (subst (λ z. InnerStops z at) m.0 s)

-- what stands behind the number of a branch
pub reads_numbered : {from mid to : List Lexeme} {v : SourceValue} → IsNext (kind.Mark Colon) from mid → IsInner mid to v → IsNumbered from to v
reads_numbered next p = numbered p

-- a branch in round brackets
pub reads_bracketed : {from mid next to : List Lexeme} {n k : ℕ} {v : SourceValue} → IsNextAt (kind.Number n) k from mid → WholeNumbered n k mid next v → IsNext (kind.Mark RightRound) next to → IsBracketed from to v
reads_bracketed next_at (whole_numbered p e) next = in_round (branch_of p)

pub stops_bracketed : {from mid next at : List Lexeme} {n k : ℕ} {v : SourceValue} → IsNextAt (kind.Number n) k from mid → WholeNumbered n k mid next v → Misses (kind.Mark RightRound) next at → BracketedStops from at
stops_bracketed f (whole_numbered p e) m = bracketed_right f p e m

-- a value without a branch's number
pub reads_inner_bracketed : {from mid to : List Lexeme} {v : SourceValue} → IsNext (kind.Mark LeftRound) from mid → IsBracketed mid to v → IsInner from to v
reads_inner_bracketed next p = inner_of_bracketed p

pub reads_inner_tuple : {from mid to : List Lexeme} {k : ℕ} {vs : List SourceValue} → IsNextAt (kind.Word KwProduct) k from mid → IsTuple mid to vs → IsInner from to (Tuple vs k)
reads_inner_tuple next_at p = inner_of_tuple p

pub reads_inner_case : {from mid to : List Lexeme} {v : SourceValue} → IsNext (kind.Word KwCase) from mid → IsValueCase mid to v → IsInner from to v
reads_inner_case next p = inner_of_case p

pub reads_atom : {from to : List Lexeme} {k : ℕ} → IsNextAt (kind.Word KwAtom) k from to → IsInner from to (Atom None k)
reads_atom next_at = free_atom

pub ends_bracketed : {from to : List Lexeme} {v : SourceValue} → IsBracketed from to v → InnerEnds v to
ends_bracketed (in_round (branch p)) = tt

pub ends_case : {from to : List Lexeme} {v : SourceValue} → IsValueCase from to v → InnerEnds v to
ends_case (arms_of p) = tt

pub inner_misses : {from a b c d at : List Lexeme} → Misses (kind.Word KwAtom) from a → Misses (kind.Mark LeftRound) a b → Misses (kind.Word KwProduct) b c → Misses (kind.Word KwCase) c d → MissesName d at → InnerStops from at
inner_misses m n o p q = no_inner (q.0 ∙ p.0 ∙ o.0 ∙ n.0 ∙ m.0) (m.1, subst (No _) m.0 n.1, subst (No _) (n.0 ∙ m.0) o.1, subst (No _) (o.0 ∙ n.0 ∙ m.0) p.1, subst (No _) (p.0 ∙ o.0 ∙ n.0 ∙ m.0) q.1)

-- what begins with a name
pub reads_from_name : {from mid to : List Lexeme} {name : Name} {v : SourceValue} → IsName from mid name → IsInner (behind_name name mid) to v → IsInner from to v
reads_from_name next_name p = p

pub stops_from_name : {from mid at : List Lexeme} {name : Name} → IsName from mid name → InnerStops (behind_name name mid) at → InnerStops from at
stops_from_name next_name s = s

pub reads_given : {to : List Lexeme} {name : Name} → IsInner (behind_name name to) to (Given name)
reads_given = given

pub reads_charged : {from to : List Lexeme} {k : ℕ} {name : Name} → IsNextAt (kind.Word KwAtom) k from to → IsInner (behind_name name from) to (Atom (Some name) k)
reads_charged next_at = charged_atom

pub reads_made : {from mid to : List Lexeme} {name arg : Name} → IsNext (kind.Mark LeftRound) from mid → IsMade mid to arg → IsInner (behind_name name from) to (Made name arg)
reads_made next p = inner_of_made p

pub stops_made : {from mid at : List Lexeme} {name : Name} → IsNext (kind.Mark LeftRound) from mid → MadeStops mid at → InnerStops (behind_name name from) at
stops_made p s = begun_inner (inner_made next_name p s)

pub ends_given : {from mid to : List Lexeme} → Misses (kind.Mark LeftRound) from mid → Misses (kind.Word KwAtom) mid to → EndsValue to
ends_given m n = (subst (No _) (sym (n.0 ∙ m.0)) m.1, subst (No _) (sym n.0) n.1)

pub reads_argument : {from mid to : List Lexeme} {name : Name} → IsName from mid name → IsNext (kind.Mark RightRound) mid to → IsMade from to name
reads_argument next_name next = made_on

-- a tuple
pub reads_tuple : {from mid next rest to : List Lexeme} {v : SourceValue} {vs : List SourceValue} → IsNext (kind.Mark LeftRound) from mid → IsValue mid next v → IsNext (kind.Mark Comma) next rest → ReadsParts rest to v vs → IsTuple from to vs
reads_tuple {from} {to} next p next (us, e, q) = subst (λ z. IsTuple from to z) (sym e) (parts p q)

-- a case
pub reads_value_case : {from mid next to : List Lexeme} {name : Name} {arms : List SourceValueArm} → IsName from mid name → IsNext (kind.Word KwOf) mid next → AreValueArms next to arms → IsValueCase from to (Case name arms)
reads_value_case next_name next p = arms_of p

-- a numbered value is what its number says
pub whole_boxed : {from to : List Lexeme} {n k : ℕ} {v w : SourceValue} → IsNumbered from to v → InnerEnds v to → w ≡ v → WholeNumbered n k from to (Branch n k w)
whole_boxed {from} {to} {n} {k} p e f = subst (λ z. WholeNumbered n k from to (Branch n k z)) (sym f) (whole_numbered p e)

pub numbered_shorter : {n k : ℕ} {from to : List Lexeme} {v : SourceValue} → WholeNumbered n k from to v → length to < length from
numbered_shorter (whole_numbered (numbered p) e) = omega (arith, inner_shorter p)

pub whole_shorter : {from to : List Lexeme} {v : SourceValue} → WholeValue from to v → length to < length from
whole_shorter p = value_shorter (whole_is p)

pub whole_arm_shorter : {from to : List Lexeme} {arm : SourceValueArm} → WholeArm from to arm → length to < length from
whole_arm_shorter p = value_arm_shorter (whole_arm_is p)

pub ruleset value_steps = (whole_is, whole_of_number, whole_past_number, stops_past_number, reads_numbered, reads_bracketed, stops_bracketed, reads_inner_bracketed, reads_inner_tuple, reads_inner_case, reads_atom, ends_bracketed, ends_case, inner_misses, reads_from_name, stops_from_name, reads_given, reads_charged, reads_made, stops_made, ends_given, reads_argument, reads_tuple, reads_value_case, whole_boxed, in_number, numbered_colon, numbered_inner, begun_inner, inner_bracketed, inner_tuple, inner_case, bracketed_number, bracketed_numbered, tuple_left, tuple_first, tuple_comma, tuple_more, value_case_name, value_case_of, value_case_arms, arm_pattern, arm_colon, arm_value, whole_arm, made_name, made_right, next_past, next_at_past)
