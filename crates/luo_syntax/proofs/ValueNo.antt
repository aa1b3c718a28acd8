-- What stops isn't read, and a value that is read to its end is the only one.
use Rattle.std.proofs.Common.{◌≡◌, ℕ, List, ◌∷◌, sym}
use Rattle.luo_scan.specs.declared.token.Word.TheVariants.{KwOf}
use Rattle.luo_scan.specs.declared.token.Mark.TheVariants.{Comma, LeftRound, RightRound}
use Rattle.luo_scan.specs.declared.token.TokenKind.TheVariants as kind
use Rattle.luo_scan.specs.Lexemes.{Lexeme, lexeme}
use Rattle.luo_source.specs.declared.values.SourceValue.{SourceValue}
use Rattle.luo_source.specs.declared.values.SourceValue.TheVariants.{Branch}
use Rattle.luo_source.specs.declared.values.SourceValueArm.{SourceValueArm}
use Rattle.luo_source.specs.Ends.{EndsValue}
use Rattle.luo_syntax.specs.inner.Next.{next, IsNextAt, next_at, next_name, NoNumber}
use Rattle.luo_source.specs.GrammarValues.{IsValue, branch_value, inner_value, IsBranch, branch, IsInner, given, made, free_atom, charged_atom, bracketed, tuple, case_value, AreParts, last_part, more_parts, AreValueArms, last_value_arm, more_value_arms, IsValueArm, one_value_arm}
use Rattle.luo_syntax.specs.inner.StopsValues.{IsNumbered, numbered, InnerEnds, WholeValue, whole_branch, whole_inner, WholeArm, whole_arm, NoInner, MadeStops, made_name, made_right, ValueStops, no_value, in_number, in_inner, NumberedStops, numbered_colon, numbered_inner, InnerStops, no_inner, begun_inner, BegunStops, inner_bracketed, inner_tuple, inner_case, inner_made, BracketedStops, bracketed_number, bracketed_numbered, bracketed_right, TupleStops, tuple_left, tuple_first, tuple_comma, tuple_more, PartsStop, in_part, past_part, past_parts, ValueCaseStops, value_case_name, value_case_of, value_case_arms, ValueArmsStop, in_value_arm, past_value_arm, past_value_arms, ValueArmStops, arm_pattern, arm_colon, arm_value}
use Rattle.luo_source.proofs.Behind.{behind}
use Rattle.luo_source.proofs.OneStatements.{pattern_one}
use Rattle.luo_source.proofs.OneValues.{value_one, branch_one, parts_one, value_arms_one, value_arm_one, branch_not_inner}
use Rattle.luo_syntax.proofs.PatternMoves.{pattern_no, pattern_meets}

pub inner_meets : {from from' to to' : List Lexeme} {v w : SourceValue} → IsInner from to v → InnerEnds v to → IsInner from' to' w → EndsValue to' → from ≡ from' → (to ≡ to') × (v ≡ w)
inner_meets given m given n e = (cc, cc)
inner_meets given m made n e = absurd (m.0 _ _ _ (behind e))
inner_meets given m charged_atom n e = absurd (m.1 _ _ _ (behind e))
inner_meets made m given n e = absurd (n.0 _ _ _ (sym (behind e)))
inner_meets made m made n e = (cc, cc)
inner_meets free_atom m free_atom n e = (cc, cc)
inner_meets charged_atom m given n e = absurd (n.1 _ _ _ (sym (behind e)))
inner_meets charged_atom m charged_atom n e = (cc, cc)
inner_meets (bracketed p) m (bracketed q) n e =
    let inside = branch_one p q (cc) (λ bytes at rest f. cc, λ bytes at rest f. cc) (λ bytes at rest f. cc, λ bytes at rest f. cc) in (cc, cc)
inner_meets (tuple p ps) m (tuple q qs) n e =
    let first = value_one p q (cc) (λ bytes at rest f. cc, λ bytes at rest f. cc) (λ bytes at rest f. cc, λ bytes at rest f. cc) in
    let rest = parts_one ps qs (cc) in
    (rest.0, cc)
inner_meets (case_value p) m (case_value q) n e = let rest = value_arms_one p q (cc) in (rest.0, cc)
inner_meets p m q n e = cc

-- a number begins a branch
pub number_not_inner : {from from' mid to' : List Lexeme} {n k : ℕ} {v : SourceValue} → IsNextAt (kind.Number n) k from mid → IsInner from' to' v → from ≡ from' → ⊥
number_not_inner next_at given e = cc
number_not_inner next_at made e = cc
number_not_inner next_at free_atom e = cc
number_not_inner next_at charged_atom e = cc
number_not_inner next_at (bracketed q) e = cc
number_not_inner next_at (tuple q qs) e = cc
number_not_inner next_at (case_value q) e = cc

pub branch_meets : {from from' mid to to' : List Lexeme} {n k : ℕ} {v w : SourceValue} → IsNextAt (kind.Number n) k from mid → IsNumbered mid to v → InnerEnds v to → IsBranch from' to' w → EndsValue to' → from ≡ from' → (to ≡ to') × (Branch n k v ≡ w)
branch_meets next_at (numbered p) m (branch q) n e = let rest = inner_meets p m q n (behind (behind e)) in (rest.0, cc)

-- a value that is read to its end is the only one that ends where no value is gone on with
pub value_meets : {from from' to to' : List Lexeme} {v w : SourceValue} → WholeValue from to v → IsValue from' to' w → EndsValue to' → from ≡ from' → (to ≡ to') × (v ≡ w)
value_meets (whole_branch f p m) (branch_value q) n e = branch_meets f p m q n e
value_meets (whole_branch f p m) (inner_value q) n e = absurd (number_not_inner f q e)
value_meets (whole_inner p m) (branch_value q) n e = absurd (branch_not_inner q p (sym e))
value_meets (whole_inner p m) (inner_value q) n e = inner_meets p m q n e

pub value_arm_meets : {from from' to to' : List Lexeme} {s t : SourceValueArm} → WholeArm from to s → IsValueArm from' to' t → EndsValue to' → from ≡ from' → (to ≡ to') × (s ≡ t)
value_arm_meets (whole_arm p next v) (one_value_arm q w) n e =
    let first = pattern_one p q e (λ bytes at rest f. cc, λ bytes at rest f. cc) (λ bytes at rest f. cc, λ bytes at rest f. cc) in
    let rest = value_meets v w n (behind first.0) in
    (rest.0, cc)

-- where nothing of a value comes, there is none
pub inner_begins : {from from' to : List Lexeme} {v : SourceValue} → NoInner from → IsInner from' to v → from ≡ from' → ⊥
inner_begins n given e = n.4 _ _ _ e
inner_begins n made e = n.4 _ _ _ e
inner_begins n free_atom e = n.0 _ _ _ e
inner_begins n charged_atom e = n.4 _ _ _ e
inner_begins n (bracketed q) e = n.1 _ _ _ e
inner_begins n (tuple q qs) e = n.2 _ _ _ e
inner_begins n (case_value q) e = n.3 _ _ _ e

pub branch_begins : {from from' to : List Lexeme} {v : SourceValue} → NoNumber from → IsBranch from' to v → from ≡ from' → ⊥
branch_begins n (branch q) e = n _ _ _ _ e

-- a list that begins so
pub made_no : {from to at : List Lexeme} {text b : List ℕ} {k l : ℕ} → MadeStops from at → from ≡ lexeme kind.Name text k ∷ lexeme (kind.Mark RightRound) b l ∷ to → ⊥
made_no (made_name m) e = m.1 _ _ _ e
made_no (made_right next_name m) e = m.1 _ _ _ (behind e)

mutual
  pub value_no : {from from' at to : List Lexeme} {v : SourceValue} → ValueStops from at → IsValue from' to v → from ≡ from' → EndsValue to → ⊥
  value_no (no_value f n i) (branch_value q) e m = branch_begins n q e
  value_no (no_value f n i) (inner_value q) e m = inner_begins i q e
  value_no (in_number f s) (branch_value q) e m = branch_no f s q e m
  value_no (in_number f s) (inner_value q) e m = number_not_inner f q e
  value_no (in_inner s) (branch_value q) e m = begun_not_branch s q e
  value_no (in_inner s) (inner_value q) e m = begun_no s q e m

  branch_no : {from from' mid at to : List Lexeme} {n k : ℕ} {v : SourceValue} → IsNextAt (kind.Number n) k from mid → NumberedStops mid at → IsBranch from' to v → from ≡ from' → EndsValue to → ⊥
  branch_no next_at (numbered_colon f) (branch q) e m = f.1 _ _ _ (behind e)
  branch_no next_at (numbered_inner next s) (branch q) e m = inner_no s q (behind (behind e)) m

  pub inner_no : {from from' at to : List Lexeme} {v : SourceValue} → InnerStops from at → IsInner from' to v → from ≡ from' → EndsValue to → ⊥
  inner_no (no_inner f i) q e m = inner_begins i q e
  inner_no (begun_inner s) q e m = begun_no s q e m

  begun_not_branch : {from from' at to : List Lexeme} {v : SourceValue} → BegunStops from at → IsBranch from' to v → from ≡ from' → ⊥
  begun_not_branch (inner_bracketed next s) (branch q) e = cc
  begun_not_branch (inner_tuple next_at s) (branch q) e = cc
  begun_not_branch (inner_case next s) (branch q) e = cc
  begun_not_branch (inner_made next_name f s) (branch q) e = cc

  begun_no : {from from' at to : List Lexeme} {v : SourceValue} → BegunStops from at → IsInner from' to v → from ≡ from' → EndsValue to → ⊥
  begun_no (inner_bracketed next s) (bracketed q) e m = bracketed_no s q (behind e)
  begun_no (inner_bracketed next s) q e m = cc
  begun_no (inner_tuple next_at s) (tuple q qs) e m = tuple_no s q qs (behind e)
  begun_no (inner_tuple next_at s) q e m = cc
  begun_no (inner_case next s) (case_value q) e m = value_case_no s q (behind e)
  begun_no (inner_case next s) q e m = cc
  begun_no (inner_made next_name next s) given e m = m.0 _ _ _ (sym (behind e))
  begun_no (inner_made next_name next s) made e m = made_no s (behind (behind e))
  begun_no (inner_made next_name next s) q e m = cc

  bracketed_no : {from from' at to : List Lexeme} {b : List ℕ} {k : ℕ} {v : SourceValue} → BracketedStops from at → IsBranch from' (lexeme (kind.Mark RightRound) b k ∷ to) v → from ≡ from' → ⊥
  bracketed_no (bracketed_number m) (branch q) e = m.1 _ _ _ _ e
  bracketed_no (bracketed_numbered f s) q e = branch_no f s q e (λ bytes at rest g. cc, λ bytes at rest g. cc)
  bracketed_no (bracketed_right f p m r) q e = r.1 _ _ _ (branch_meets f p m q (λ bytes at rest g. cc, λ bytes at rest g. cc) e).0

  tuple_no : {from from' mid at to : List Lexeme} {b c : List ℕ} {k l : ℕ} {v : SourceValue} {vs : List SourceValue} → TupleStops from at → IsValue from' (lexeme (kind.Mark Comma) c l ∷ mid) v → AreParts mid to vs → from ≡ lexeme (kind.Mark LeftRound) b k ∷ from' → ⊥
  tuple_no (tuple_left m) q qs e = m.1 _ _ _ e
  tuple_no (tuple_first next s) q qs e = value_no s q (behind e) (λ bytes at rest g. cc, λ bytes at rest g. cc)
  tuple_no (tuple_comma next p m) q qs e = m.1 _ _ _ (value_meets p q (λ bytes at rest g. cc, λ bytes at rest g. cc) (behind e)).0
  tuple_no (tuple_more next p next s) q qs e =
      let first = value_one p q (behind e) (λ bytes at rest g. cc, λ bytes at rest g. cc) (λ bytes at rest g. cc, λ bytes at rest g. cc) in
      parts_no s qs (behind first.0)

  pub parts_no : {from from' at to : List Lexeme} {vs : List SourceValue} → PartsStop from at → AreParts from' to vs → from ≡ from' → ⊥
  parts_no (in_part s) (last_part q) e = value_no s q e (λ bytes at rest g. cc, λ bytes at rest g. cc)
  parts_no (in_part s) (more_parts q qs) e = value_no s q e (λ bytes at rest g. cc, λ bytes at rest g. cc)
  parts_no (past_part p r m) (last_part q) e = r _ _ _ (value_meets p q (λ bytes at rest g. cc, λ bytes at rest g. cc) e).0
  parts_no (past_part p r m) (more_parts q qs) e = m.1 _ _ _ (value_meets p q (λ bytes at rest g. cc, λ bytes at rest g. cc) e).0
  parts_no (past_parts p next s) (last_part q) e =
      let first = value_one p q e (λ bytes at rest g. cc, λ bytes at rest g. cc) (λ bytes at rest g. cc, λ bytes at rest g. cc) in cc
  parts_no (past_parts p next s) (more_parts q qs) e =
      let first = value_one p q e (λ bytes at rest g. cc, λ bytes at rest g. cc) (λ bytes at rest g. cc, λ bytes at rest g. cc) in
      parts_no s qs (behind first.0)

  value_case_no : {from from' at to : List Lexeme} {text b : List ℕ} {k l : ℕ} {arms : List SourceValueArm} → ValueCaseStops from at → AreValueArms from' to arms → from ≡ lexeme kind.Name text k ∷ lexeme (kind.Word KwOf) b l ∷ from' → ⊥
  value_case_no (value_case_name m) q e = m.1 _ _ _ e
  value_case_no (value_case_of next_name m) q e = m.1 _ _ _ (behind e)
  value_case_no (value_case_arms next_name next s) q e = value_arms_no s q (behind (behind e))

  pub value_arms_no : {from from' at to : List Lexeme} {arms : List SourceValueArm} → ValueArmsStop from at → AreValueArms from' to arms → from ≡ from' → ⊥
  value_arms_no (in_value_arm s) (last_value_arm q) e = value_arm_no s q e (λ bytes at rest g. cc, λ bytes at rest g. cc)
  value_arms_no (in_value_arm s) (more_value_arms q qs) e = value_arm_no s q e (λ bytes at rest g. cc, λ bytes at rest g. cc)
  value_arms_no (past_value_arm p r m) (last_value_arm q) e = r _ _ _ (value_arm_meets p q (λ bytes at rest g. cc, λ bytes at rest g. cc) e).0
  value_arms_no (past_value_arm p r m) (more_value_arms q qs) e = m.1 _ _ _ (value_arm_meets p q (λ bytes at rest g. cc, λ bytes at rest g. cc) e).0
  value_arms_no (past_value_arms p next s) (last_value_arm q) e =
      let first = value_arm_one p q e (λ bytes at rest g. cc, λ bytes at rest g. cc) (λ bytes at rest g. cc, λ bytes at rest g. cc) in cc
  value_arms_no (past_value_arms p next s) (more_value_arms q qs) e =
      let first = value_arm_one p q e (λ bytes at rest g. cc, λ bytes at rest g. cc) (λ bytes at rest g. cc, λ bytes at rest g. cc) in
      value_arms_no s qs (behind first.0)

  value_arm_no : {from from' at to : List Lexeme} {arm : SourceValueArm} → ValueArmStops from at → IsValueArm from' to arm → from ≡ from' → EndsValue to → ⊥
  value_arm_no (arm_pattern s) (one_value_arm q w) e m = pattern_no s q e (λ bytes at rest g. cc, λ bytes at rest g. cc)
  value_arm_no (arm_colon p n f) (one_value_arm q w) e m = f.1 _ _ _ (pattern_meets p n q (λ bytes at rest g. cc, λ bytes at rest g. cc) e).0
  value_arm_no (arm_value p next s) (one_value_arm q w) e m =
      let first = pattern_one p q e (λ bytes at rest g. cc, λ bytes at rest g. cc) (λ bytes at rest g. cc, λ bytes at rest g. cc) in
      value_no s w (behind first.0) m
