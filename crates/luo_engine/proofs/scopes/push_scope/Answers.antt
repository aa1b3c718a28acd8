use Rattle.std.proofs.Common.{◌∙◌, refl}
use Rattle.luo_model.specs.View.{plain_of}
use Rattle.luo_engine.proofs.PushLemmas.{push_nothing, push_whole, push_some, push_none}
use Rattle.luo_engine.proofs.scopes.push_scope.Goals.{in-Nothing, in-Whole+in_ok-sites-in-Whole, in-Parts+then-arity-gt0+in_ok-push_factors-in-Parts, in-Parts+else-arity-gt0}
use Rattle.luo_engine.proofs.scopes.push_scope.Goals as goal

pub returns : goal.returns
returns c = elim c.match-bind.branch [
  | in-Nothing w ↦ push_nothing (plain_of c.args.program.now) c.args.starts.now c.args.links.now c.match-bind.links c.push.new.self c.args.y c.len-start.result c.match-bind.arity c.args.bind c.args.body.now c.match-bind.sites c.len-start.ensures c.in_ok-push.ensures.ok w.in-Nothing.is (w.sites-is ∙ c.new-sites.ensures) w.arity-is w.links-is
  | in-Whole+in_ok-sites-in-Whole w ↦ push_whole (plain_of c.args.program.now) c.args.starts.now c.args.links.now c.match-bind.links c.push.new.self c.args.y c.len-start.result c.match-bind.arity c.args.bind c.args.body.now c.match-bind.sites c.len-start.ensures c.in_ok-push.ensures.ok c.as_slice-items.result.now w.in-Whole.is (w.sites-is ∙ w.in_ok-sites-in-Whole.ensures) c.as_slice-items.ensures w.arity-is w.links-is
  | in-Parts+then-arity-gt0+in_ok-push_factors-in-Parts w ↦ push_some (plain_of c.args.program.now) c.args.starts.now c.args.links.now c.match-bind.links c.push.new.self c.args.y c.len-start.result c.match-bind.arity c.args.bind c.args.body.now c.match-bind.sites c.len-start.ensures c.in_ok-push.ensures.ok _ w.parts_at-parts.result.now c.as_slice-items.result.now _ w.in-Parts.is (w.sites-is ∙ c.new-sites.ensures) w.parts_at-parts.ensures c.as_slice-items.ensures refl w.arity-is (w.links-is ∙ w.in_ok-push_factors-in-Parts.ensures)
  | in-Parts+else-arity-gt0 w ↦ push_none (plain_of c.args.program.now) c.args.starts.now c.args.links.now c.match-bind.links c.push.new.self c.args.y c.len-start.result c.match-bind.arity c.args.bind c.args.body.now c.match-bind.sites c.len-start.ensures c.in_ok-push.ensures.ok _ w.parts_at-parts.result.now w.in-Parts.is (w.sites-is ∙ c.new-sites.ensures) w.parts_at-parts.ensures w.arity-is w.if-arity-gt0.false w.links-is
]
