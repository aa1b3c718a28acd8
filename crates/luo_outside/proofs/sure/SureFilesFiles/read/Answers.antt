use Rattle.std.proofs.Common.{arith, ◌≡◌, ◌++◌, take, drop, length, ◌∙◌, take_at}
use Rattle.std.proofs.lemmas.Grind.{common_steps}
use Rattle.luo_outside.proofs.Content.{text_prefix}
use Rattle.luo_outside.proofs.sure.SureFilesFiles.read.Goals as goal

pub returns-clause-bytes : goal.returns-clause-bytes
returns-clause-bytes c =
    let got : length c.copy_from_slice.new.self ≡ c.min-count.result = grind (arith, common_steps) in
    let moved : take c.min-count.result (c.copy_from_slice.new.self ++ drop c.min-count.result c.args.buf.now) ≡ take c.min-count.result c.rest_of-rest.result.now =
    take_at c.copy_from_slice.new.self (drop c.min-count.result c.args.buf.now) c.min-count.result got ∙ c.copy_from_slice.ensures.after in
    let end : c.min-count.result ≡ 0 → length c.rest_of-rest.result.now ≡ 0 = λ z. grind arith in
    let both = text_prefix c.args.self.now.text c.args.self.now.done c.min-count.result c.rest_of-rest.result.now _ (rw (← c.as_slice.ensures) c.rest_of-rest.ensures.rest) moved end in
    (both.0, λ z _. both.1 z)
