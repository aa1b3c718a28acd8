use Rattle.std.proofs.Common.{◌≡◌, sym, ◌∙◌, true, false}
use Rattle.luo_model.specs.View.{plain_of}
use Rattle.luo_rank.specs.inner.Lookup.{tail_at}
use Rattle.luo_stepper.proofs.PlaceLemmas.{place_plain, place_led, led_asked}
use Rattle.luo_stepper.proofs.labels.place_of.Goals as goal

pub returns-then-not-is_led-clause-head : goal.returns-then-not-is_led-clause-head
returns-then-not-is_led-clause-head c =
    (place_plain c.args.tables.now.program.universe (tail_at (plain_of c.args.tables.now.program) c.args.x c.args.f) c.args.labels.now c.args.n c.args.size c.args.own.now c.subset_rank.result (sym c.universe.ensures ∙ c.in-Labelled.is)
    c.requires.room.labels c.requires.room.own (λ d. let q : false ≡ true = sym c.if-not-is_led.true ∙ c.is_led.ensures.1 d in cc) c.subset_rank.ensures).0

pub returns-then-not-is_led-clause-small : goal.returns-then-not-is_led-clause-small
returns-then-not-is_led-clause-small c =
    (place_plain c.args.tables.now.program.universe (tail_at (plain_of c.args.tables.now.program) c.args.x c.args.f) c.args.labels.now c.args.n c.args.size c.args.own.now c.subset_rank.result (sym c.universe.ensures ∙ c.in-Labelled.is)
    c.requires.room.labels c.requires.room.own (λ d. let q : false ≡ true = sym c.if-not-is_led.true ∙ c.is_led.ensures.1 d in cc) c.subset_rank.ensures).1

pub subset_rank-requires-in-Some-Some-clause-part :
    goal.subset_rank-requires-in-Some-Some-clause-part
subset_rank-requires-in-Some-Some-clause-part c =
    led_asked c.args.tables.now.program.universe (tail_at (plain_of c.args.tables.now.program) c.args.x c.args.f) c.args.labels.now c.in-Some-Some.others.now c.args.own.now c.in-Some-Some.more.now c.in-Some-Some.field-0-0-0.now
    c.in-Some-Some.field-0-0-1.now c.args.n c.args.size (sym c.universe.ensures ∙ c.in-Labelled.is) c.in-Some-Some.ensures.cases.0 c.in-Some-Some.ensures'.cases.0 c.requires.room.labels c.requires.room.own (c.is_led.ensures.0 c.if-not-is_led.false)

pub returns-in-Some-Some-clause-head : goal.returns-in-Some-Some-clause-head
returns-in-Some-Some-clause-head c =
    (place_led c.args.tables.now.program.universe (tail_at (plain_of c.args.tables.now.program) c.args.x c.args.f) c.args.labels.now c.in-Some-Some.others.now c.args.own.now c.in-Some-Some.more.now c.in-Some-Some.field-0-0-0.now
    c.in-Some-Some.field-0-0-1.now c.args.n c.args.size c.subset_rank-in-Some-Some.result (sym c.universe.ensures ∙ c.in-Labelled.is) c.in-Some-Some.ensures.cases.0 c.in-Some-Some.ensures'.cases.0 c.requires.room.labels c.requires.room.own
    (c.is_led.ensures.0 c.if-not-is_led.false) c.subset_rank-in-Some-Some.ensures).0

pub returns-in-Some-Some-clause-small : goal.returns-in-Some-Some-clause-small
returns-in-Some-Some-clause-small c =
    (place_led c.args.tables.now.program.universe (tail_at (plain_of c.args.tables.now.program) c.args.x c.args.f) c.args.labels.now c.in-Some-Some.others.now c.args.own.now c.in-Some-Some.more.now c.in-Some-Some.field-0-0-0.now
    c.in-Some-Some.field-0-0-1.now c.args.n c.args.size c.subset_rank-in-Some-Some.result (sym c.universe.ensures ∙ c.in-Labelled.is) c.in-Some-Some.ensures.cases.0 c.in-Some-Some.ensures'.cases.0 c.requires.room.labels c.requires.room.own
    (c.is_led.ensures.0 c.if-not-is_led.false) c.subset_rank-in-Some-Some.ensures).1
