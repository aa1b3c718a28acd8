-- What statements charge and the sites that they take are bounded by their number.
use Rattle.std.proofs.Common.{ℕ, suc, ◌+◌, ◌*◌, ◌≤◌, Some, arith}
use Rattle.luo_num.specs.declared.limits.TheConstants.{NUMBER_LIMIT}
use Rattle.luo_source.specs.Plain.Statements.{Stmt, Skip, Charge, Call, Block, Case, Forall, Stmts, no_stmts, a_stmt, SourceArms, no_source_arms, a_source_arm}
use Rattle.luo_rules.specs.declared.setting.Setting.{Setting}
use Rattle.luo_value_types.specs.inner.Room.{HasMeasuresWithin, HasRoom}
use Rattle.luo_value_types.proofs.ValueRoom.{charge_within}
use Rattle.luo_rules.specs.Counted.{stmt_statements, stmts_statements, arms_statements}
use Rattle.luo_rules.specs.StatementCore.{stmt_own, stmts_own, stmt_sites, stmts_sites, arms_sites}

mutual
  pub own-within : (s : Setting) (stmt : Stmt) → HasMeasuresWithin s → stmt_own s stmt ≤ stmt_statements stmt * NUMBER_LIMIT
  own-within s Skip within = omega arith
  own-within s (Charge measure) within = omega (arith, charge_within s (Some measure) within)
  own-within s (Call callee arg) within = omega arith
  own-within s (Block stmts) within = owns-within s stmts within
  own-within s (Case var arms) within = omega arith
  own-within s (Forall var source body) within = omega arith

  pub owns-within : (s : Setting) (row : Stmts) → HasMeasuresWithin s → stmts_own s row ≤ stmts_statements row * NUMBER_LIMIT
  owns-within s no_stmts within = omega arith
  owns-within s (a_stmt stmt rest) within = omega (arith, own-within s stmt within, owns-within s rest within)

mutual
  pub sites-within : (stmt : Stmt) → stmt_sites stmt ≤ 2 * stmt_statements stmt
  sites-within Skip = omega arith
  sites-within (Charge measure) = omega arith
  sites-within (Call callee arg) = omega arith
  sites-within (Block stmts) = list_sites-within stmts
  sites-within (Case var arms) = omega (arith, arm_sites-within arms)
  sites-within (Forall var source body) = omega (arith, sites-within body)

  pub list_sites-within : (row : Stmts) → stmts_sites row ≤ 2 * stmts_statements row
  list_sites-within no_stmts = omega arith
  list_sites-within (a_stmt stmt rest) = omega (arith, sites-within stmt, list_sites-within rest)

  pub arm_sites-within : (row : SourceArms) → arms_sites row ≤ 2 * arms_statements row
  arm_sites-within no_source_arms = omega arith
  arm_sites-within (a_source_arm pattern body rest) = omega (arith, sites-within body, arm_sites-within rest)

-- room for the first of several
pub room-first : (one rest own next : ℕ) → HasRoom (one + rest) own next → HasRoom one own next
room-first one rest own next room = record { charges = omega (arith, room.charges); sites = omega (arith, room.sites) }

-- room for the rest
pub room-rest : (one rest own next more taken : ℕ) → HasRoom (one + rest) own next → more ≤ one * NUMBER_LIMIT → taken ≤ 2 * one → HasRoom rest (own + more) (next + taken)
room-rest one rest own next more taken room m t = record { charges = omega (arith, room.charges, m); sites = omega (arith, room.sites, t) }

-- room inside a case or a walk, whose scopes charge by themselves
pub room-inside : (inside own next : ℕ) → HasRoom (suc inside) own next → HasRoom inside 0 next
room-inside inside own next room = record { charges = omega (arith, room.charges); sites = omega (arith, room.sites) }
