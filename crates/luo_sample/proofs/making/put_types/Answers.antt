use Rattle.std.proofs.Common.{refl, ◌≡◌, ◌++◌, ℕ, ap, ◌∙◌, subst, arith}
use Rattle.rand_pcg.specs.Lcg.{Lcg}
use Rattle.luo_sample.specs.Text.{numbered, type_line}
use Rattle.luo_sample.specs.Number.{choice_at, choice_of, behind}
use Rattle.luo_sample.proofs.Joined.{none_yet, line_more, choices_more}
use Rattle.luo_sample.proofs.making.put_types.Goals as goal

pub loop-i-preserved : goal.loop-i-preserved
loop-i-preserved c =
    let g : Lcg = c.args.words.now in
    let chosen = c.next_choice-choice.ensures.value ∙ ap choice_of c.loop-i.invariant.1 in (
      line_more (λ i. type_line c.args.universe i (choice_at g i)) c.loop-i.i c.args.text.now.items c.loop-i.invariant.0 (c.in_ok-put_type_line.ensures ∙ ap (λ d. c.loop-i.text.items ++ type_line c.args.universe c.loop-i.i d) chosen),
      c.next_choice-choice.ensures.rest ∙ (ap (λ h. behind (behind (behind (behind h)))) c.loop-i.invariant.1 ∙ choices_more c.loop-i.i g),
    )

pub returns : goal.returns
returns c =
    let last : c.loop-i.i ≡ 20 = omega (arith, c.loop-i-test.false, c.loop-i.auto.i-end) in
    subst (λ (n : ℕ). c.loop-i.text.items ≡ c.args.text.now.items ++ numbered (λ i. type_line c.args.universe i (choice_at c.args.words.now i)) 0 n) last c.loop-i.invariant.0

pub loop-i-init : goal.loop-i-init
loop-i-init c = (none_yet (λ i. type_line c.args.universe i (choice_at c.args.words.now i)) c.args.text.now.items, refl)
