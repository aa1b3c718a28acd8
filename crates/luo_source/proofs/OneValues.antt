-- Values are read in one way.
use Rattle.std.proofs.Common.{◌≡◌, List, sym}
use Rattle.luo_scan.specs.Lexemes.{Lexeme}
use Rattle.luo_source.specs.declared.values.SourceValue.{SourceValue}
use Rattle.luo_source.specs.declared.values.SourceValueArm.{SourceValueArm}
use Rattle.luo_source.specs.Ends.{EndsValue}
use Rattle.luo_source.specs.GrammarValues.{IsValue, branch_value, inner_value, IsBranch, branch, IsInner, given, made, free_atom, charged_atom, bracketed, tuple, case_value, AreParts, last_part, more_parts, AreValueArms, last_value_arm, more_value_arms, IsValueArm, one_value_arm}
use Rattle.luo_source.proofs.Behind.{behind}
use Rattle.luo_source.proofs.OneStatements.{pattern_one}

-- a branch begins with a number, and what is inside with none
pub branch_not_inner : {from from' to to' : List Lexeme} {v w : SourceValue} → IsBranch from to v → IsInner from' to' w → from ≡ from' → ⊥
branch_not_inner (branch p) given e = cc
branch_not_inner (branch p) made e = cc
branch_not_inner (branch p) free_atom e = cc
branch_not_inner (branch p) charged_atom e = cc
branch_not_inner (branch p) (bracketed q) e = cc
branch_not_inner (branch p) (tuple q qs) e = cc
branch_not_inner (branch p) (case_value q) e = cc

mutual
  pub value_one : {from from' to to' : List Lexeme} {v w : SourceValue} → IsValue from to v → IsValue from' to' w → from ≡ from' → EndsValue to → EndsValue to' → (to ≡ to') × (v ≡ w)
  value_one (branch_value p) (branch_value q) e m n = branch_one p q e m n
  value_one (branch_value p) (inner_value q) e m n = absurd (branch_not_inner p q e)
  value_one (inner_value p) (branch_value q) e m n = absurd (branch_not_inner q p (sym e))
  value_one (inner_value p) (inner_value q) e m n = inner_one p q e m n

  pub branch_one : {from from' to to' : List Lexeme} {v w : SourceValue} → IsBranch from to v → IsBranch from' to' w → from ≡ from' → EndsValue to → EndsValue to' → (to ≡ to') × (v ≡ w)
  branch_one (branch p) (branch q) e m n = let rest = inner_one p q (cc) m n in (rest.0, cc)

  pub inner_one : {from from' to to' : List Lexeme} {v w : SourceValue} → IsInner from to v → IsInner from' to' w → from ≡ from' → EndsValue to → EndsValue to' → (to ≡ to') × (v ≡ w)
  inner_one given given e m n = (cc, cc)
  inner_one given made e m n = absurd (m.0 _ _ _ (behind e))
  inner_one given charged_atom e m n = absurd (m.1 _ _ _ (behind e))
  inner_one made given e m n = absurd (n.0 _ _ _ (sym (behind e)))
  inner_one made made e m n = (cc, cc)
  inner_one free_atom free_atom e m n = (cc, cc)
  inner_one charged_atom given e m n = absurd (n.1 _ _ _ (sym (behind e)))
  inner_one charged_atom charged_atom e m n = (cc, cc)
  inner_one (bracketed p) (bracketed q) e m n =
      let inside = branch_one p q (cc) (λ bytes at rest f. cc, λ bytes at rest f. cc) (λ bytes at rest f. cc, λ bytes at rest f. cc) in (cc, cc)
  inner_one (tuple p ps) (tuple q qs) e m n =
      let first = value_one p q (cc) (λ bytes at rest f. cc, λ bytes at rest f. cc) (λ bytes at rest f. cc, λ bytes at rest f. cc) in
      let rest = parts_one ps qs (cc) in
      (rest.0, cc)
  inner_one (case_value p) (case_value q) e m n = let rest = value_arms_one p q (cc) in (rest.0, cc)
  inner_one p q e m n = cc

  pub parts_one : {from from' to to' : List Lexeme} {vs ws : List SourceValue} → AreParts from to vs → AreParts from' to' ws → from ≡ from' → (to ≡ to') × (vs ≡ ws)
  parts_one (last_part p) (last_part q) e =
      let first = value_one p q e (λ bytes at rest f. cc, λ bytes at rest f. cc) (λ bytes at rest f. cc, λ bytes at rest f. cc) in (cc, cc)
  parts_one (last_part p) (more_parts q qs) e =
      let first = value_one p q e (λ bytes at rest f. cc, λ bytes at rest f. cc) (λ bytes at rest f. cc, λ bytes at rest f. cc) in cc
  parts_one (more_parts p ps) (last_part q) e =
      let first = value_one p q e (λ bytes at rest f. cc, λ bytes at rest f. cc) (λ bytes at rest f. cc, λ bytes at rest f. cc) in cc
  parts_one (more_parts p ps) (more_parts q qs) e =
      let first = value_one p q e (λ bytes at rest f. cc, λ bytes at rest f. cc) (λ bytes at rest f. cc, λ bytes at rest f. cc) in
      let rest = parts_one ps qs (cc) in
      (rest.0, cc)

  pub value_arms_one : {from from' to to' : List Lexeme} {s t : List SourceValueArm} → AreValueArms from to s → AreValueArms from' to' t → from ≡ from' → (to ≡ to') × (s ≡ t)
  value_arms_one (last_value_arm p) (last_value_arm q) e =
      let first = value_arm_one p q e (λ bytes at rest f. cc, λ bytes at rest f. cc) (λ bytes at rest f. cc, λ bytes at rest f. cc) in (cc, cc)
  value_arms_one (last_value_arm p) (more_value_arms q qs) e =
      let first = value_arm_one p q e (λ bytes at rest f. cc, λ bytes at rest f. cc) (λ bytes at rest f. cc, λ bytes at rest f. cc) in cc
  value_arms_one (more_value_arms p ps) (last_value_arm q) e =
      let first = value_arm_one p q e (λ bytes at rest f. cc, λ bytes at rest f. cc) (λ bytes at rest f. cc, λ bytes at rest f. cc) in cc
  value_arms_one (more_value_arms p ps) (more_value_arms q qs) e =
      let first = value_arm_one p q e (λ bytes at rest f. cc, λ bytes at rest f. cc) (λ bytes at rest f. cc, λ bytes at rest f. cc) in
      let rest = value_arms_one ps qs (cc) in
      (rest.0, cc)

  pub value_arm_one : {from from' to to' : List Lexeme} {s t : SourceValueArm} → IsValueArm from to s → IsValueArm from' to' t → from ≡ from' → EndsValue to → EndsValue to' → (to ≡ to') × (s ≡ t)
  value_arm_one (one_value_arm p ps) (one_value_arm q qs) e m n =
      let first = pattern_one p q e (λ bytes at rest f. cc, λ bytes at rest f. cc) (λ bytes at rest f. cc, λ bytes at rest f. cc) in
      let rest = value_one ps qs (cc) m n in
      (rest.0, cc)
