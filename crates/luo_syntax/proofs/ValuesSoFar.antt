-- Parts and arms that are read one by one.
use Rattle.std.proofs.Common.{◌≡◌, ◌<◌, ◌≤◌, List, [], ◌∷◌, ◌++◌, length, append_assoc, ap, sym, subst, ◌∙◌, arith}
use Rattle.luo_scan.specs.declared.token.Word.TheVariants.{KwEnd}
use Rattle.luo_scan.specs.declared.token.Mark.TheVariants.{Semicolon, Comma, RightRound}
use Rattle.luo_scan.specs.declared.token.TokenKind.TheVariants as kind
use Rattle.luo_scan.specs.Lexemes.{Lexeme}
use Rattle.luo_source.specs.declared.values.SourceValue.{SourceValue}
use Rattle.luo_source.specs.declared.values.SourceValueArm.{SourceValueArm}
use Rattle.luo_syntax.specs.inner.Next.{IsNext, next, Misses}
use Rattle.luo_source.specs.GrammarValues.{IsValue, AreParts, last_part, more_parts, AreValueArms, last_value_arm, more_value_arms, IsValueArm}
use Rattle.luo_syntax.specs.inner.StopsValues.{WholeValue, WholeArm, ReadsParts, ValueStops, PartsStop, in_part, past_part, past_parts, ValueArmStops, ValueArmsStop, in_value_arm, past_value_arm, past_value_arms}
use Rattle.luo_syntax.proofs.Nexts.{misses_past, next_past, next_shorter}
use Rattle.luo_syntax.proofs.ValueSteps.{whole_is, whole_arm_is, value_shorter, value_arm_shorter}

-- what is read from here on is read from the start on behind what there is
pub record PartsSoFar (start at : List Lexeme) (first : SourceValue) (vs : List SourceValue) : Type 0 where
  pub reads : (to : List Lexeme) (us : List SourceValue) → AreParts at to us → (ws : List SourceValue) × (vs ++ us ≡ first ∷ ws) × AreParts start to ws
  pub stops : (to : List Lexeme) → PartsStop at to → PartsStop start to
  pub no_longer : length at ≤ length start

pub one_part_so_far : {start : List Lexeme} {first : SourceValue} {vs : List SourceValue} → vs ≡ [] ++ first ∷ [] → PartsSoFar start start first vs
one_part_so_far e = record { reads = λ to us p. (us, ap (λ z. z ++ us) e, p); stops = λ to s. s; no_longer = omega arith }

reads_last : {at next to : List Lexeme} {v : SourceValue} → IsValue at next v → IsNext (kind.Mark RightRound) next to → AreParts at to (v ∷ [])
reads_last p next = last_part p

reads_more : {at next mid to : List Lexeme} {v : SourceValue} {vs : List SourceValue} → IsValue at next v → IsNext (kind.Mark Comma) next mid → AreParts mid to vs → AreParts at to (v ∷ vs)
reads_more p next ps = more_parts p ps

pub parts_end : {start at next to : List Lexeme} {first v : SourceValue} {vs vs' : List SourceValue} → PartsSoFar start at first vs → WholeValue at next v → IsNext (kind.Mark RightRound) next to → vs' ≡ vs ++ v ∷ [] → ReadsParts start to first vs'
parts_end {to} {v} so p q e = let (ws, g, r) = so.reads to (v ∷ []) (reads_last (whole_is p) q) in (ws, e ∙ g, r)

pub parts_more : {start at next past mid : List Lexeme} {first v : SourceValue} {vs vs' : List SourceValue} → PartsSoFar start at first vs → WholeValue at next v → Misses (kind.Mark RightRound) next past → IsNext (kind.Mark Comma) past mid → vs' ≡ vs ++ v ∷ [] → PartsSoFar start mid first vs'
parts_more {v} {vs} so p m n e = let q = next_past m n in record {
  reads = λ to us ps. let (ws, g, r) = so.reads to (v ∷ us) (reads_more (whole_is p) q ps) in (ws, ap (λ z. z ++ us) e ∙ append_assoc vs (v ∷ []) us ∙ g, r);
  stops = λ to s. so.stops to (past_parts (whole_is p) q s);
  no_longer = omega (arith, so.no_longer, value_shorter (whole_is p), next_shorter q);
}

pub parts_stop_in : {start at to : List Lexeme} {first : SourceValue} {vs : List SourceValue} → PartsSoFar start at first vs → ValueStops at to → PartsStop start to
parts_stop_in {to} so s = so.stops to (in_part s)

pub parts_stop : {start at next past to : List Lexeme} {first v : SourceValue} {vs : List SourceValue} → PartsSoFar start at first vs → WholeValue at next v → Misses (kind.Mark RightRound) next past → Misses (kind.Mark Comma) past to → PartsStop start to
parts_stop {to} so p m n = so.stops to (past_part p m.1 (misses_past m n))

-- what is read from here on is read from the start on behind what there is
pub record ArmsSoFar (start at : List Lexeme) (arms : List SourceValueArm) : Type 0 where
  pub reads : (to : List Lexeme) (more : List SourceValueArm) → AreValueArms at to more → AreValueArms start to (arms ++ more)
  pub stops : (to : List Lexeme) → ValueArmsStop at to → ValueArmsStop start to
  pub no_longer : length at ≤ length start

pub no_arms_so_far : {start : List Lexeme} → ArmsSoFar start start []
no_arms_so_far = record { reads = λ to more p. p; stops = λ to s. s; no_longer = omega arith }

reads_last_arm : {at next to : List Lexeme} {arm : SourceValueArm} → IsValueArm at next arm → IsNext (kind.Word KwEnd) next to → AreValueArms at to (arm ∷ [])
reads_last_arm p next = last_value_arm p

reads_more_arms : {at next mid to : List Lexeme} {arm : SourceValueArm} {arms : List SourceValueArm} → IsValueArm at next arm → IsNext (kind.Mark Semicolon) next mid → AreValueArms mid to arms → AreValueArms at to (arm ∷ arms)
reads_more_arms p next ps = more_value_arms p ps

pub arms_end : {start at next to : List Lexeme} {arm : SourceValueArm} {arms arms' : List SourceValueArm} → ArmsSoFar start at arms → WholeArm at next arm → IsNext (kind.Word KwEnd) next to → arms' ≡ arms ++ arm ∷ [] → AreValueArms start to arms'
arms_end {start} {to} so p q e = subst (AreValueArms start to) (sym e) (so.reads to _ (reads_last_arm (whole_arm_is p) q))

pub arms_more : {start at next past mid : List Lexeme} {arm : SourceValueArm} {arms arms' : List SourceValueArm} → ArmsSoFar start at arms → WholeArm at next arm → Misses (kind.Word KwEnd) next past → IsNext (kind.Mark Semicolon) past mid → arms' ≡ arms ++ arm ∷ [] → ArmsSoFar start mid arms'
arms_more {start} {arm} {arms} so p m n e = let q = next_past m n in record {
  reads = λ to more r. subst (AreValueArms start to) (sym (ap (λ z. z ++ more) e ∙ append_assoc arms (arm ∷ []) more)) (so.reads to (arm ∷ more) (reads_more_arms (whole_arm_is p) q r));
  stops = λ to s. so.stops to (past_value_arms (whole_arm_is p) q s);
  no_longer = omega (arith, so.no_longer, value_arm_shorter (whole_arm_is p), next_shorter q);
}

pub arms_stop_in : {start at to : List Lexeme} {arms : List SourceValueArm} → ArmsSoFar start at arms → ValueArmStops at to → ValueArmsStop start to
arms_stop_in {to} so s = so.stops to (in_value_arm s)

pub arms_stop : {start at next past to : List Lexeme} {arm : SourceValueArm} {arms : List SourceValueArm} → ArmsSoFar start at arms → WholeArm at next arm → Misses (kind.Word KwEnd) next past → Misses (kind.Mark Semicolon) past to → ValueArmsStop start to
arms_stop {to} so p m n = so.stops to (past_value_arm p m.1 (misses_past m n))

pub arms_smaller : {at next past mid : List Lexeme} {arm : SourceValueArm} → WholeArm at next arm → Misses (kind.Word KwEnd) next past → IsNext (kind.Mark Semicolon) past mid → length mid < length at
arms_smaller p m n = omega (arith, value_arm_shorter (whole_arm_is p), next_shorter (next_past m n))
