use Rattle.std.proofs.Common.{sym, ap, ◌≡◌, ◌∙◌, ◌-◌, ◌++◌, ◌∷◌, [], true, false, Ok, Err, IfOk, Result}
use Rattle.luo_model.specs.View.{plain_of}
use Rattle.luo_rank.specs.inner.Lookup.{tail_at, ArePartLabels, ArePlaced}
use Rattle.luo_rank.proofs.PartLemmas.{plain_parts, led_parts, led_room_size}
use Rattle.luo_rank.proofs.parting.part_labels.Goals as goal

if_ok_into : {A E : Type 0} (r : Result A E) (P Q : A → Type 0) → ((a : A) → P a → Q a) → IfOk r P → IfOk r Q
if_ok_into (Ok a) P Q f h = f a h
if_ok_into (Err e) P Q f h = h

pub returns-in_ok-push-in-Some : goal.returns-in_ok-push-in-Some
returns-in_ok-push-in-Some c =
    let tail = tail_at (plain_of c.args.tables.now.program) c.args.x c.args.f in
    let u = c.args.tables.now.program.universe in
    let labelled = sym c.universe.ensures ∙ c.in-Labelled.is in
    let led = c.is_led.ensures.0 c.if-is_led.true in
    if_ok_into c.choose_labels.result (λ parted. ArePlaced c.in-Some.others.now (c.args.size - 1) c.args.place c.push.new.self parted.first parted.rest) (λ parted. ArePartLabels u tail c.args.labels.now c.args.n c.args.size c.args.place parted.first parted.rest)
    (λ parted p. led_parts u tail c.args.labels.now c.in-Some.others.now c.in-Some.least.now c.args.n c.args.size c.args.place c.push.new.self parted.first parted.rest labelled c.requires.room led c.in-Some.ensures.cases.0 (led_room_size u tail c.args.n c.args.size c.args.place labelled led c.requires.ways)
    (c.in_ok-push-in-Some.ensures.ok ∙ ap (λ v. v ++ c.in-Some.least.now ∷ []) c.new-first.ensures) p) c.choose_labels.ensures

pub returns-else-is_led : goal.returns-else-is_led
returns-else-is_led c =
    let tail = tail_at (plain_of c.args.tables.now.program) c.args.x c.args.f in
    let u = c.args.tables.now.program.universe in
    let labelled = sym c.universe.ensures ∙ c.in-Labelled.is in
    if_ok_into c.choose_labels-else-is_led.result (λ parted. ArePlaced c.args.labels.now c.args.size c.args.place c.new-first.result parted.first parted.rest) (λ parted. ArePartLabels u tail c.args.labels.now c.args.n c.args.size c.args.place parted.first parted.rest)
    (λ parted p. plain_parts u tail c.args.labels.now c.args.n c.args.size c.args.place c.new-first.result parted.first parted.rest labelled c.requires.room (λ d. let q : false ≡ true = sym c.if-is_led.false ∙ c.is_led.ensures.1 d in cc) c.new-first.ensures p) c.choose_labels-else-is_led.ensures
