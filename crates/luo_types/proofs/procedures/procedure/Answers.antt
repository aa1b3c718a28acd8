use Rattle.luo_source.specs.View.{proc_def_of}
use Rattle.luo_types.proofs.ProceduresSoFar.{whole-site}
use Rattle.luo_types.proofs.procedures.procedure.Goals as goal

pub take_site-requires : goal.take_site-requires
take_site-requires c = whole-site c.args.context.now.setting.now (proc_def_of c.args.proc.now) c.args.next.now c.body.new.next c.requires.room c.in_ok-body.ensures.ok.numbered
