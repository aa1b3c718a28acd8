use Rattle.std.proofs.Common.{◌≡◌, ◌++◌, List, ℕ, [], length, sym, ◌∙◌, ap, arith}
use Rattle.luo_stepper.specs.inner.Stepping.{IsSplit}
use Rattle.luo_stepper.proofs.LabelLaws.{merge_first, merge_other, merge_alone, merge_rest, merge_none, one_more, nil_right, empty_list}
use Rattle.luo_stepper.proofs.SizeLemmas.{on_ok_into}
use Rattle.luo_stepper.proofs.labels.+merge.Goals as goal

pub merge-requires : goal.merge-requires
merge-requires t c =
    let w = merge_first c.requires.split.0 c.args.first.now c.args.rest.now c.in-Some-Some.more.now c.in-Some-Some.others.now c.in-Some-Some.label.now c.in-Some-Some.other.now c.requires.split.1 c.in-Some-Some.ensures.cases.0 c.in-Some-Some.ensures'.cases.0 c.if-label-other.true in
    (omega (arith, c.decreases, ap length c.in-Some-Some.ensures.cases.0), (w.0, w.2))

pub merge-requires-else-label-other : goal.merge-requires-else-label-other
merge-requires-else-label-other t c =
    let w = merge_other c.requires.split.0 c.args.first.now c.args.rest.now c.in-Some-Some.more.now c.in-Some-Some.others.now c.in-Some-Some.label.now c.in-Some-Some.other.now c.requires.split.1 c.in-Some-Some.ensures.cases.0 c.in-Some-Some.ensures'.cases.0 (λ h. omega (arith, h, c.if-label-other.false)) in
    (omega (arith, c.decreases, ap length c.in-Some-Some.ensures'.cases.0), (w.0, w.2))

pub merge-requires-in-Some-None : goal.merge-requires-in-Some-None
merge-requires-in-Some-None t c =
    let w = merge_alone c.requires.split.0 c.args.first.now c.args.rest.now c.in-Some-None.more.now c.in-Some-None.label.now c.requires.split.1 c.in-Some-None.ensures.cases.0 (empty_list c.args.rest.now c.in-Some-None.ensures'.cases) in
    (omega (arith, c.decreases, ap length c.in-Some-None.ensures.cases.0), (w.0, w.2))

pub merge-requires-in-None-Some : goal.merge-requires-in-None-Some
merge-requires-in-None-Some t c =
    let w = merge_rest c.requires.split.0 c.args.first.now c.args.rest.now c.in-None-Some.others.now c.in-None-Some.other.now c.requires.split.1 (empty_list c.args.first.now c.in-None-Some.ensures.cases) c.in-None-Some.ensures'.cases.0 in
    (omega (arith, c.decreases, ap length c.in-None-Some.ensures'.cases.0), (w.0, w.2))

pub returns-in_ok-push-in-Some-Some : goal.returns-in_ok-push-in-Some-Some
returns-in_ok-push-in-Some-Some t c =
    on_ok_into c.merge.result ((L : List ℕ) → IsSplit L c.in-Some-Some.more.now c.args.rest.now → c.merge.new.out ≡ c.push.new.self ++ L) ((L : List ℕ) → IsSplit L c.args.first.now c.args.rest.now → c.merge.new.out ≡ c.args.out.now ++ L)
    (λ m L s. let w = merge_first L c.args.first.now c.args.rest.now c.in-Some-Some.more.now c.in-Some-Some.others.now c.in-Some-Some.label.now c.in-Some-Some.other.now s c.in-Some-Some.ensures.cases.0 c.in-Some-Some.ensures'.cases.0 c.if-label-other.true in
    one_more c.args.out.now c.push.new.self c.merge.new.out L w.0 c.in-Some-Some.label.now c.in_ok-push-in-Some-Some.ensures.ok w.1 (m w.0 w.2)) c.merge.ensures

pub returns-in_ok-push-in-Some-Some-2 : goal.returns-in_ok-push-in-Some-Some-2
returns-in_ok-push-in-Some-Some-2 t c =
    on_ok_into c.merge-else-label-other.result ((L : List ℕ) → IsSplit L c.args.first.now c.in-Some-Some.others.now → c.merge-else-label-other.new.out ≡ c.push-else-label-other.new.self ++ L)
    ((L : List ℕ) → IsSplit L c.args.first.now c.args.rest.now → c.merge-else-label-other.new.out ≡ c.args.out.now ++ L)
    (λ m L s. let w = merge_other L c.args.first.now c.args.rest.now c.in-Some-Some.more.now c.in-Some-Some.others.now c.in-Some-Some.label.now c.in-Some-Some.other.now s c.in-Some-Some.ensures.cases.0 c.in-Some-Some.ensures'.cases.0 (λ h. omega (arith, h, c.if-label-other.false)) in
    one_more c.args.out.now c.push-else-label-other.new.self c.merge-else-label-other.new.out L w.0 c.in-Some-Some.other.now c.in_ok-push-in-Some-Some-2.ensures.ok w.1 (m w.0 w.2)) c.merge-else-label-other.ensures

pub returns-in_ok-push-in-Some-None : goal.returns-in_ok-push-in-Some-None
returns-in_ok-push-in-Some-None t c =
    on_ok_into c.merge-in-Some-None.result ((L : List ℕ) → IsSplit L c.in-Some-None.more.now c.args.rest.now → c.merge-in-Some-None.new.out ≡ c.push-in-Some-None.new.self ++ L) ((L : List ℕ) → IsSplit L c.args.first.now c.args.rest.now → c.merge-in-Some-None.new.out ≡ c.args.out.now ++ L)
    (λ m L s. let w = merge_alone L c.args.first.now c.args.rest.now c.in-Some-None.more.now c.in-Some-None.label.now s c.in-Some-None.ensures.cases.0 (empty_list c.args.rest.now c.in-Some-None.ensures'.cases) in
    one_more c.args.out.now c.push-in-Some-None.new.self c.merge-in-Some-None.new.out L w.0 c.in-Some-None.label.now c.in_ok-push-in-Some-None.ensures.ok w.1 (m w.0 w.2)) c.merge-in-Some-None.ensures

pub returns-in_ok-push-in-None-Some : goal.returns-in_ok-push-in-None-Some
returns-in_ok-push-in-None-Some t c =
    on_ok_into c.merge-in-None-Some.result ((L : List ℕ) → IsSplit L c.args.first.now c.in-None-Some.others.now → c.merge-in-None-Some.new.out ≡ c.push-in-None-Some.new.self ++ L) ((L : List ℕ) → IsSplit L c.args.first.now c.args.rest.now → c.merge-in-None-Some.new.out ≡ c.args.out.now ++ L)
    (λ m L s. let w = merge_rest L c.args.first.now c.args.rest.now c.in-None-Some.others.now c.in-None-Some.other.now s (empty_list c.args.first.now c.in-None-Some.ensures.cases) c.in-None-Some.ensures'.cases.0 in
    one_more c.args.out.now c.push-in-None-Some.new.self c.merge-in-None-Some.new.out L w.0 c.in-None-Some.other.now c.in_ok-push-in-None-Some.ensures.ok w.1 (m w.0 w.2)) c.merge-in-None-Some.ensures

pub returns-in-None-None : goal.returns-in-None-None
returns-in-None-None t c = λ L s.
    let e : L ≡ [] = merge_none L c.args.first.now c.args.rest.now s (empty_list c.args.first.now c.in-None-None.ensures.cases) (empty_list c.args.rest.now c.in-None-None.ensures'.cases) in
    nil_right c.args.out.now ∙ ap (λ v. c.args.out.now ++ v) (sym e)
