use Rattle.std.proofs.Common.{sym, ◌∙◌, ap, subst, refl}
use Rattle.luo_model.specs.declared.program.Shape.TheVariants as shape
use Rattle.luo_places.specs.Tails.{behind_some, tail_of}
use Rattle.luo_rank.specs.inner.Lookup.{IsLedTail}
use Rattle.luo_rank.proofs.PartLemmas.{set_led, cycle_led, led_cycle, other_led, default_led, less_one, one_less_of}
use Rattle.luo_rank.proofs.tables.Tables.is_led.Goals as goal

pub returns-in-Set : goal.returns-in-Set
returns-in-Set c =
    let is = sym c.shape.ensures ∙ c.in-Coll.is ∙ ap (λ k. shape.Coll k c.in-Coll.part c.in-Coll.low c.in-Coll.high) c.in-Set.is in
    ((λ h. subst (λ v. IsLedTail (behind_some (tail_of v) c.args.f)) (sym is) (set_led c.in-Coll.part.node c.in-Coll.low c.in-Coll.high c.args.f)), λ h. refl)

pub returns-in-Cycle : goal.returns-in-Cycle
returns-in-Cycle c =
    let is = sym c.shape.ensures ∙ c.in-Coll.is ∙ ap (λ k. shape.Coll k c.in-Coll.part c.in-Coll.low c.in-Coll.high) c.in-Cycle.is in (
      (λ h. subst (λ v. IsLedTail (behind_some (tail_of v) c.args.f)) (sym is) (cycle_led c.in-Coll.part.node c.in-Coll.low c.in-Coll.high c.args.f (less_one c.args.f h))),
      λ h. one_less_of c.args.f (led_cycle c.in-Coll.part.node c.in-Coll.low c.in-Coll.high c.args.f (subst (λ v. IsLedTail (behind_some (tail_of v) c.args.f)) is h)),
    )

pub returns-in_default-kind : goal.returns-in_default-kind
returns-in_default-kind c =
    let is = sym c.shape.ensures ∙ c.in-Coll.is in (
      (λ h. absurd (cc)),
      λ h. absurd (other_led c.in-Coll.kind c.in-Coll.part.node c.in-Coll.low c.in-Coll.high c.args.f c.in_default-kind.not-Set c.in_default-kind.not-Cycle (subst (λ v. IsLedTail (behind_some (tail_of v) c.args.f)) is h)),
    )

pub returns-in_default : goal.returns-in_default
returns-in_default c = (
  (λ h. absurd (cc)),
  λ h. absurd (default_led c.shape.result.now _ c.args.f c.shape.ensures (λ kind part low high e. c.in_default.not-Coll kind part low high e) h),
)
