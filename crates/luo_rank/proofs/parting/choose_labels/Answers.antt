use Rattle.std.proofs.Common.{refl, sym, subst, ◌≡◌, length, drop, arith}
use Rattle.luo_finite.specs.Places.{IsChoice}
use Rattle.luo_rank.proofs.PartLemmas.{written_over}
use Rattle.luo_rank.proofs.parting.choose_labels.Goals as goal

pub part_from-requires-clause-chosen : goal.part_from-requires-clause-chosen
part_from-requires-clause-chosen c =
    let k = c.subset_at.ensures.there in
    let e : c.as_slice.result.now ≡ c.subset_at.new.out = written_over c.subset_at.new.out (drop (length c.subset_at.new.out) c.in_ok-chosen.chosen.items) c.as_slice.result.now c.in_ok-chosen.chosen.len (omega (arith, k.1, c.in_ok-chosen.ensures.len)) c.as_slice.ensures.value in
    subst (λ C. IsChoice c.args.labels.now (length C) C) (sym e) (k.0, refl, k.2)
