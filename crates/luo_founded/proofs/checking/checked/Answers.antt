use Rattle.std.proofs.Common.{ℕ, List, MatchOption, length, subst, ap, ◌∙◌}
use Rattle.luo_model.specs.View.{Held, plain_of}
use Rattle.luo_model.specs.Invariant.{IsProgram}
use Rattle.luo_founded.specs.inner.Graph.{Edge}
use Rattle.luo_founded.proofs.FoundLemmas.{breaks_w1, all_inhabited, breaks_w2, all_solid, named_step, no_step_circle, none_w1, edges_within, no_edge_circle, ranked}
use Rattle.luo_finite.specs.Walk.{OnCircle, IsNamedCircle}
use Rattle.luo_model.specs.Founded.{SameSize, OwnCall}
use Rattle.luo_founded.proofs.checking.checked.Goals as goal

-- the answer of the search for a circle
abbrev Circle : List (List ℕ) → List ℕ → Type 0
Circle edges chain = (x : ℕ) × IsNamedCircle (Edge edges) x chain

abbrev NoCircle : List (List ℕ) → Type 0
NoCircle edges = (x : ℕ) → OnCircle (Edge edges) x → ⊥

pub returns-in-Some-clause-ranks : goal.returns-in-Some-clause-ranks
returns-in-Some-clause-ranks c = breaks_w1 (plain_of c.args.program.now) c.in_ok-inhabited.inhabited c.as_slice.result.now c.in-Some.node c.in_ok-inhabited.ensures c.as_slice.ensures c.in-Some.ensures

pub returns-in-Some-first_empty-clause-ranks : goal.returns-in-Some-first_empty-clause-ranks
returns-in-Some-first_empty-clause-ranks c = (
  none_w1 (plain_of c.args.program.now) (all_inhabited (plain_of c.args.program.now) c.in_ok-inhabited.inhabited c.as_slice.result.now c.in_ok-inhabited.ensures c.as_slice.ensures c.in_default.ensures),
  breaks_w2 (plain_of c.args.program.now) c.as_slice-2.result.now c.in_ok-zero.zero c.as_slice-3.result.now c.in-Some-first_empty.node (c.as_slice-2.ensures ∙ ap (λ (h : Held). h.nodes) c.program.view_is) c.in_ok-zero.ensures c.as_slice-3.ensures c.in-Some-first_empty.ensures,
)

pub returns-in-Some-2-clause-ranks : goal.returns-in-Some-2-clause-ranks
returns-in-Some-2-clause-ranks c = (
  none_w1 (plain_of c.args.program.now) (all_inhabited (plain_of c.args.program.now) c.in_ok-inhabited.inhabited c.as_slice.result.now c.in_ok-inhabited.ensures c.as_slice.ensures c.in_default.ensures),
  all_solid (plain_of c.args.program.now) c.as_slice-2.result.now c.in_ok-zero.zero c.as_slice-3.result.now (c.as_slice-2.ensures ∙ ap (λ (h : Held). h.nodes) c.program.view_is) c.in_ok-zero.ensures c.as_slice-3.ensures c.in_default-first_empty.ensures,
  named_step (SameSize (plain_of c.args.program.now)) (length c.args.program.now.nodes) c.in_ok-edges.edges c.as_slice-5.result.now c.in_ok-edges.ensures c.as_slice-5.ensures c.in-Some-2.chain
      (subst (λ o. MatchOption o (NoCircle c.as_slice-5.result.now) (Circle c.as_slice-5.result.now)) c.in-Some-2.is c.in_ok-chain.ensures),
)

pub returns-in-Some-3-clause-ranks : goal.returns-in-Some-3-clause-ranks
returns-in-Some-3-clause-ranks c = (
  none_w1 (plain_of c.args.program.now) (all_inhabited (plain_of c.args.program.now) c.in_ok-inhabited.inhabited c.as_slice.result.now c.in_ok-inhabited.ensures c.as_slice.ensures c.in_default.ensures),
  all_solid (plain_of c.args.program.now) c.as_slice-2.result.now c.in_ok-zero.zero c.as_slice-3.result.now (c.as_slice-2.ensures ∙ ap (λ (h : Held). h.nodes) c.program.view_is) c.in_ok-zero.ensures c.as_slice-3.ensures c.in_default-first_empty.ensures,
  no_step_circle (SameSize (plain_of c.args.program.now)) (length c.args.program.now.nodes) c.in_ok-edges.edges c.as_slice-5.result.now c.in_ok-edges.ensures c.as_slice-5.ensures
      (subst (λ o. MatchOption o (NoCircle c.as_slice-5.result.now) (Circle c.as_slice-5.result.now)) c.in_default-2.is c.in_ok-chain.ensures),
  named_step (OwnCall (plain_of c.args.program.now)) (length c.args.program.now.procs) c.in_ok-calls.calls c.as_slice-6.result.now c.in_ok-calls.ensures c.as_slice-6.ensures c.in-Some-3.chain
      (subst (λ o. MatchOption o (NoCircle c.as_slice-6.result.now) (Circle c.as_slice-6.result.now)) c.in-Some-3.is c.in_ok-chain-2.ensures),
)

pub longest-requires-clause-within : goal.longest-requires-clause-within
longest-requires-clause-within c = edges_within c.args.program.now c.in_ok-edges.edges c.as_slice-7.result.now c.in_ok-edges.ensures c.as_slice-7.ensures

pub longest-requires-clause-no_circle : goal.longest-requires-clause-no_circle
longest-requires-clause-no_circle c = no_edge_circle c.args.program.now c.in_ok-edges.edges c.as_slice-7.result.now c.in_ok-edges.ensures c.as_slice-7.ensures
    (no_step_circle (SameSize (plain_of c.args.program.now)) (length c.args.program.now.nodes) c.in_ok-edges.edges c.as_slice-5.result.now c.in_ok-edges.ensures c.as_slice-5.ensures
    (subst (λ o. MatchOption o (NoCircle c.as_slice-5.result.now) (Circle c.as_slice-5.result.now)) c.in_default-2.is c.in_ok-chain.ensures))

pub invariant_of-result : goal.invariant_of-result
invariant_of-result c = ranked c.args.program.now c.in_ok-edges.edges c.as_slice-7.result.now c.in_ok-edges.ensures c.as_slice-7.ensures (subst (λ (h : Held). IsProgram (plain_of h)) c.program.view_is c.program.invariant) (record {
  inhabited = all_inhabited (plain_of c.args.program.now) c.in_ok-inhabited.inhabited c.as_slice.result.now c.in_ok-inhabited.ensures c.as_slice.ensures c.in_default.ensures;
  solid = all_solid (plain_of c.args.program.now) c.as_slice-2.result.now c.in_ok-zero.zero c.as_slice-3.result.now (c.as_slice-2.ensures ∙ ap (λ (h : Held). h.nodes) c.program.view_is) c.in_ok-zero.ensures c.as_slice-3.ensures c.in_default-first_empty.ensures;
  no_circle = no_step_circle (SameSize (plain_of c.args.program.now)) (length c.args.program.now.nodes) c.in_ok-edges.edges c.as_slice-5.result.now c.in_ok-edges.ensures c.as_slice-5.ensures
      (subst (λ o. MatchOption o (NoCircle c.as_slice-5.result.now) (Circle c.as_slice-5.result.now)) c.in_default-2.is c.in_ok-chain.ensures);
  no_endless = no_step_circle (OwnCall (plain_of c.args.program.now)) (length c.args.program.now.procs) c.in_ok-calls.calls c.as_slice-6.result.now c.in_ok-calls.ensures c.as_slice-6.ensures
      (subst (λ o. MatchOption o (NoCircle c.as_slice-6.result.now) (Circle c.as_slice-6.result.now)) c.in_default-3.is c.in_ok-chain-2.ensures);
}) c.in_ok-node_ranks.node_ranks c.in_ok-wholes.wholes c.as_slice-8.result.now c.in_ok-site_levels.site_levels c.in_ok-least_sizes.least_sizes c.in_ok-node_ranks.ensures c.in_ok-wholes.ensures.right c.as_slice-8.ensures c.in_ok-site_levels.ensures c.in_ok-least_sizes.ensures

pub returns-clause-founded : goal.returns-clause-founded
returns-clause-founded c = record {
  inhabited = all_inhabited (plain_of c.args.program.now) c.in_ok-inhabited.inhabited c.as_slice.result.now c.in_ok-inhabited.ensures c.as_slice.ensures c.in_default.ensures;
  solid = all_solid (plain_of c.args.program.now) c.as_slice-2.result.now c.in_ok-zero.zero c.as_slice-3.result.now (c.as_slice-2.ensures ∙ ap (λ (h : Held). h.nodes) c.program.view_is) c.in_ok-zero.ensures c.as_slice-3.ensures c.in_default-first_empty.ensures;
  no_circle = no_step_circle (SameSize (plain_of c.args.program.now)) (length c.args.program.now.nodes) c.in_ok-edges.edges c.as_slice-5.result.now c.in_ok-edges.ensures c.as_slice-5.ensures
      (subst (λ o. MatchOption o (NoCircle c.as_slice-5.result.now) (Circle c.as_slice-5.result.now)) c.in_default-2.is c.in_ok-chain.ensures);
  no_endless = no_step_circle (OwnCall (plain_of c.args.program.now)) (length c.args.program.now.procs) c.in_ok-calls.calls c.as_slice-6.result.now c.in_ok-calls.ensures c.as_slice-6.ensures
      (subst (λ o. MatchOption o (NoCircle c.as_slice-6.result.now) (Circle c.as_slice-6.result.now)) c.in_default-3.is c.in_ok-chain-2.ensures);
}

pub least_sizes-requires : goal.least_sizes-requires
least_sizes-requires c = record {
  inhabited = all_inhabited (plain_of c.args.program.now) c.in_ok-inhabited.inhabited c.as_slice.result.now c.in_ok-inhabited.ensures c.as_slice.ensures c.in_default.ensures;
  solid = all_solid (plain_of c.args.program.now) c.as_slice-2.result.now c.in_ok-zero.zero c.as_slice-3.result.now (c.as_slice-2.ensures ∙ ap (λ (h : Held). h.nodes) c.program.view_is) c.in_ok-zero.ensures c.as_slice-3.ensures c.in_default-first_empty.ensures;
  no_circle = no_step_circle (SameSize (plain_of c.args.program.now)) (length c.args.program.now.nodes) c.in_ok-edges.edges c.as_slice-5.result.now c.in_ok-edges.ensures c.as_slice-5.ensures
      (subst (λ o. MatchOption o (NoCircle c.as_slice-5.result.now) (Circle c.as_slice-5.result.now)) c.in_default-2.is c.in_ok-chain.ensures);
  no_endless = no_step_circle (OwnCall (plain_of c.args.program.now)) (length c.args.program.now.procs) c.in_ok-calls.calls c.as_slice-6.result.now c.in_ok-calls.ensures c.as_slice-6.ensures
      (subst (λ o. MatchOption o (NoCircle c.as_slice-6.result.now) (Circle c.as_slice-6.result.now)) c.in_default-3.is c.in_ok-chain-2.ensures);
}

pub wholes-requires : goal.wholes-requires
wholes-requires c = record {
  no_circle = no_step_circle (OwnCall (plain_of c.args.program.now)) (length c.args.program.now.procs) c.in_ok-calls.calls c.as_slice-6.result.now c.in_ok-calls.ensures c.as_slice-6.ensures
      (subst (λ o. MatchOption o (NoCircle c.as_slice-6.result.now) (Circle c.as_slice-6.result.now)) c.in_default-3.is c.in_ok-chain-2.ensures);
}
