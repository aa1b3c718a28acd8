-- What some small procedures charge.
use Rattle.std.proofs.Common.{ℕ, zero, suc, [], ◌∷◌, refl, sym, subst}
use Rattle.luo_model.specs.Tree.{Tree, Inj, Coll}
use Rattle.luo_model.specs.Program.{Program}
use Rattle.luo_model.specs.Charges.{BodyCharges, ChargesWithin, Charges}
use Rattle.luo_model.specs.Examples.{two, point, choosing, walking, looping}
use Rattle.luo_model.specs.FactsCharges.{ChargesOnly, CasesTakeTheirArm, CopiesAreChargedEach, EndlessCallsChargeNothing}
use Rattle.luo_model.proofs.ChargeLemmas.{some_one, charges_one}

only : (p : Program) (f : ℕ) (s : Tree) (q : ℕ) → Charges p f s q → ChargesOnly p f s q
only p f s q h = (h, λ other k. charges_one p f s other q k h)

first_arm : Charges choosing 0 (Inj 1 (point 0)) 3
first_arm = (1, (_, refl, (3, (3, 0, (_, refl, (0, refl, refl)), refl, refl), refl)))

second_arm : Charges choosing 0 (Inj 2 (point 0)) 5
second_arm = (1, (_, refl, (5, (5, 0, (_, refl, (0, refl, refl)), refl, refl), refl)))

pub cases_take_their_arm : CasesTakeTheirArm
cases_take_their_arm = (only choosing 0 (Inj 1 (point 0)) 3 first_arm, only choosing 0 (Inj 2 (point 0)) 5 second_arm)

both_copies : Charges walking 0 (Coll (two (point 0) (point 0))) 2
both_copies = (1, (_, refl, (2, (2, 0, (_, refl, (1, 1, (0, refl, refl), (1, 0, (0, refl, refl), refl, refl), refl)), refl, refl), refl)))

pub copies_are_charged_each : CopiesAreChargedEach
copies_are_charged_each = only walking 0 (Coll (two (point 0) (point 0))) 2 both_copies

endless : (depth : ℕ) (s : Tree) (q : ℕ) → ChargesWithin looping.procs depth 0 s q → ⊥
endless zero s q h = h
endless (suc depth) s q h =
    let k = subst (λ P. BodyCharges (ChargesWithin looping.procs depth) P.body (s ∷ []) q) (sym (some_one _ h.0 h.1)) h.2 in
    endless depth k.1.2.0 k.1.0 k.1.2.2

pub endless_calls_charge_nothing : EndlessCallsChargeNothing
endless_calls_charge_nothing s q h = endless h.0 s q h.1
