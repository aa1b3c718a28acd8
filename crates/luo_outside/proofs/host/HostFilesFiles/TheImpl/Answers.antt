use Rattle.std.proofs.Common.{refl}
use Rattle.std.proofs.lemmas.Result.{on_err_weaker}
use Rattle.luo_outside.proofs.Untold.{on_ok_always, untold_read}
use Rattle.luo_outside.proofs.host.HostFilesFiles.TheImpl.Goals as goal

pub find-tells : goal.find-tells
find-tells g c = record { named = λ n. refl; found = c.ensures.found; left = on_ok_always c.result refl; faults = c.ensures.faults; cause = c.ensures.cause }

pub read-tells : goal.read-tells
read-tells g c =
    record {
      bound = c.ensures.bound;
      bytes = untold_read c.result _;
      named = λ n. refl;
      found = λ n. c.ensures.found;
      faults = c.ensures.faults;
      cause = on_err_weaker c.result (λ rose n is. rose) c.ensures.cause;
    }
