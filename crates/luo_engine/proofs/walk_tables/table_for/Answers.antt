use Rattle.std.proofs.Common.{◌≡◌, ◌∙◌, sym, ap, refl, ℕ, List, length, slice_get, Some, arith}
use Rattle.std.proofs.lemmas.Option.{slice_get_read}
use Rattle.luo_finite.proofs.Places.{some_same}
use Rattle.luo_engine.specs.declared.tasks.Task.{Task}
use Rattle.luo_engine.specs.declared.tasks.Scope.{Scope}
use Rattle.luo_engine.specs.declared.tasks.Task.TheVariants.{Walk, Scopes}
use Rattle.luo_engine.proofs.WalkTables.{site_of_task, table_ready}
use Rattle.luo_engine.proofs.walk_tables.table_for.Goals as goal

never : (zs : List Scope) (c b : ℕ) → Scopes zs ≡ Walk c b → ⊥
never zs c b e = absurd (cc)

pub node_of-requires : goal.node_of-requires
node_of-requires c = site_of_task c.args.plan.now c.args.sites.now c.requires.fixed c.args.tables.now c.requires.tables c.args.i c.requires.there

pub walk_of-requires : goal.walk_of-requires
walk_of-requires c =
    let at : slice_get c.args.sites.now.tasks c.args.i ≡ Some (Walk c.in-Walk.collection c.in-Walk.body) = ap (λ (ts : List Task). slice_get ts c.args.i) (sym c.as_slice.ensures) ∙ slice_get_read c.as_slice.result.now _ c.args.i c.index-as_slice-i.result refl (omega (arith, c.requires.there, ap (λ (ts : List Task). length ts) c.as_slice.ensures)) c.index-as_slice-i.is ∙ ap Some c.in-Walk.is in
    record { there = table_ready c.args.plan.now c.args.sites.now c.requires.fixed c.args.tables.now c.requires.tables c.args.i c.in-Walk.collection c.in-Walk.body c.node_of.result at c.node_of.ensures.node }

pub returns-in-Scopes : goal.returns-in-Scopes
returns-in-Scopes c collection body w =
    let at : slice_get c.args.sites.now.tasks c.args.i ≡ Some (Scopes c.in-Scopes.scopes) = ap (λ (ts : List Task). slice_get ts c.args.i) (sym c.as_slice.ensures) ∙ slice_get_read c.as_slice.result.now _ c.args.i c.index-as_slice-i.result refl (omega (arith, c.requires.there, ap (λ (ts : List Task). length ts) c.as_slice.ensures)) c.index-as_slice-i.is ∙ ap Some c.in-Scopes.is in
    absurd (never c.in-Scopes.scopes collection body (some_same (Scopes c.in-Scopes.scopes) (Walk collection body) (sym at ∙ w)))
