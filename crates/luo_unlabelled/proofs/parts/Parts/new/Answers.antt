use Rattle.std.proofs.Common.{◌+◌, ◌*◌, ℕ, List, slice_index, replicate, length, arith, ap, refl, ◌∙◌}
use Rattle.std.proofs.lemmas.List.{length-replicate}
use Rattle.luo_unlabelled.specs.inner.Planes.{last_of}
use Rattle.luo_unlabelled.proofs.PartCalls.{empty_plane, plane_long, nothing_from, one_at}
use Rattle.luo_unlabelled.proofs.parts.Parts.new.Goals as goal

pub invariant_of-result : goal.invariant_of-result
invariant_of-result c = record {
  parts = c.requires.parts;
  bounds = c.requires.bounds;
  reached = omega arith;
  sizes = ap length c.in_ok-comp.ensures ∙ length-replicate c.wide.result 0 ∙ c.wide.ensures;
  ways_long = ap length c.in_ok-ways.ensures ∙ length-replicate c.wide-2.result 0 ∙ c.wide-2.ensures;
  rows = ap length c.in_ok-cells.ensures ∙ plane_long c.deep.result c.wide-3.result (last_of c.args.high c.args.n_max + 1) (c.args.n_max + 1) c.deep.ensures c.wide-3.ensures;
  none_empty = nothing_from c.in_ok-comp.comp.items c.wide.result c.in_ok-comp.ensures;
  known = λ h. absurd (omega (arith, h));
  holds = λ k m hk hm. ap (λ (l : List ℕ). slice_index l (k * (c.args.n_max + 1) + m)) c.in_ok-cells.ensures
      ∙ empty_plane c.args.kind (slice_index c.in_ok-comp.comp.items) (replicate (c.deep.result * c.wide-3.result) 0) (last_of c.args.high c.args.n_max + 1) (c.args.n_max + 1) (c.deep.result * c.wide-3.result) refl (one_at c.deep.result c.wide-3.result (omega (arith, c.deep.ensures)) (omega (arith, c.wide-3.ensures))) k m hk hm;
}
