-- One more size of a run.
use Rattle.std.proofs.Common.{◌≡◌, ◌⊎◌, ℕ, ◌+◌, ◌≤◌, ◌<◌, ⊎_elim, Bool, true, false, Option, List, length, sym, ◌∙◌, subst, arith}
use Rattle.luo_num.specs.declared.limits.TheConstants.{SIZE_LIMIT}
use Rattle.std.proofs.lemmas.Option.{slice_get_within}
use Rattle.luo_num.specs.declared.TheConstants.{MAX}
use Rattle.luo_finite.proofs.Sums.{Counts-unique}
use Rattle.luo_model.specs.Structures.{IsStructure}
use Rattle.luo_model.specs.View.{plain_of}
use Rattle.luo_model.specs.Tables.{IsCount}
use Rattle.luo_engine.specs.inner.Grid.{entry_of, Reaches, SameShape, IsTable, AreZero}
use Rattle.luo_engine.specs.inner.Partial.{IsClosed, AreClosedBelow, AreClosedFrom}
use Rattle.luo_engine.specs.inner.Filled.{IsRight, AreCounted, AreKept}
use Rattle.luo_engine.specs.inner.Plan.{Planned, IsPlan}
use Rattle.luo_engine.specs.inner.Asked.{Asked}
use Rattle.luo_engine.specs.inner.Collections.{AreCollections, AreUnasked}
use Rattle.luo_engine.specs.inner.Running.{IsCounting, IsGoing}
use Rattle.luo_engine.proofs.inner.CollectionLemmas.{collections_next, collections_start}

less_or_eq : (a b : ℕ) → a < b + 1 → (a < b) ⊎ (a ≡ b)
less_or_eq a b h = grind arith

pub reach_same : (last : ℕ) (old new : List (List ℕ)) → SameShape old new → Reaches last old → Reaches last new
reach_same last old new s r y h = omega (arith, r y (omega (arith, h, s.wide)), s.long y)

pub reach_less : (n last : ℕ) (table : List (List ℕ)) → n ≤ last → Reaches last table → Reaches n table
reach_less n last table h r y l = omega (arith, r y l, h)

-- a run that goes on may fill its next size
module _ (plan : Planned) (counts : List (List ℕ)) (tables : List (Option Asked)) (partials : List (List ℕ)) (last filled : ℕ) (stopped : Bool) (run : IsCounting plan counts tables partials last filled stopped) (go : stopped ≡ false) (room : filled ≤ last) where
  pub counted_next : AreCounted (plain_of plan.program) plan.order counts filled 0
  counted_next = record {
    wide = run.wide;
    reach = reach_less filled last counts room run.counts_reach;
    below = run.right;
    done = λ j x h e. absurd (omega (arith, h));
    waiting = λ j x h e. (run.going go).ahead x filled (omega arith);
    ahead = λ x m h. (run.going go).ahead x m (omega (arith, h));
  }

  pub closed_next : AreClosedBelow plan.program.universe counts plan.factors partials filled
  closed_next = record {
    links = λ r y e. let k = run.plan_is.laid.links r y e in (omega (arith, k.0, run.wide), k.1);
    wide = (run.going go).wide;
    counts_reach = reach_less filled last counts room run.counts_reach;
    partials_reach = reach_less filled last partials room run.partials_reach;
    closed = (run.going go).closed;
  }

-- the counts of one more size are known
module _ (plan : Planned) (old counts : List (List ℕ)) (before tables : List (Option Asked)) (first partials : List (List ℕ)) (last filled : ℕ) (stopped : Bool) (run : IsCounting plan old before first last filled stopped) (room : filled ≤ last)
    (c : AreCounted (plain_of plan.program) plan.order counts filled (length plan.order)) (closed : AreClosedFrom plan.program.universe counts plan.factors partials filled 0) (s : SameShape old counts) (b : SameShape first partials)
    (asked : AreCollections (plain_of plan.program) plan.reach plan.order tables filled (length plan.order)) where
  pub right_now : (x m : ℕ) → x < length plan.program.nodes → m < filled + 1 → IsRight (plain_of plan.program) counts x m
  right_now x m h l =
      ⊎_elim (λ (g : m < filled). c.below x m h g)
      (λ (q : m ≡ filled). let at = run.plan_is.ordered.complete x h in subst (IsRight (plain_of plan.program) counts x) (sym q) (c.done at.0 x (slice_get_within plan.order at.0 x at.1) at.1)) (less_or_eq m filled l)

  going_now : IsGoing plan counts tables partials (filled + 1)
  going_now = record {
    ahead = λ x m l. c.ahead x m (omega (arith, l));
    asked = collections_next (plain_of plan.program) plan.reach plan.order tables filled asked;
    wide = closed.before.below.wide;
    closed = λ r m h l. ⊎_elim (λ (g : m < filled). closed.before.below.closed r m h g) (λ (q : m ≡ filled). subst (IsClosed plan.program.universe counts plan.factors partials r) (sym q) (closed.closed_rows r (omega arith) h)) (less_or_eq m filled l);
  }

  pub counting_more : IsCounting plan counts tables partials last (filled + 1) stopped
  counting_more = record {
    plan_is = run.plan_is;
    reach = run.reach;
    wide = c.wide;
    counts_reach = reach_same last old counts s run.counts_reach;
    partials_reach = reach_same last first partials b run.partials_reach;
    within = omega (arith, room);
    small = run.small;
    right = right_now;
    going = λ _. going_now;
  }

  pub count_within : (x m v : ℕ) → x < length plan.program.nodes → m < filled + 1 → IsCount (plain_of plan.program) x m v → v ≤ MAX
  count_within x m v h l e = let r = right_now x m h l in omega (arith, Counts-unique (IsStructure (plain_of plan.program) x m) (entry_of counts x m) v r.0 e, r.1)

-- after an overflow the sizes that were filled stay
pub counting_stops : (plan : Planned) (old counts : List (List ℕ)) (before tables : List (Option Asked)) (first partials : List (List ℕ)) (last filled : ℕ) (stopped : Bool) → IsCounting plan old before first last filled stopped
    → AreKept (plain_of plan.program) counts filled → SameShape old counts → SameShape first partials → IsCounting plan counts tables partials last filled true
counting_stops plan old counts before tables first partials last filled stopped run kept s b = record {
  plan_is = run.plan_is;
  reach = run.reach;
  wide = kept.wide;
  counts_reach = reach_same last old counts s run.counts_reach;
  partials_reach = reach_same last first partials b run.partials_reach;
  within = run.within;
  small = run.small;
  right = kept.below;
  going = λ e. absurd (cc);
}

pub reach_all : (last sizes rows : ℕ) (table : List (List ℕ)) → sizes ≡ last + 1 → IsTable rows sizes table → Reaches last table
reach_all last sizes rows table e t x h = omega (arith, e, t.long x (omega (arith, h, t.wide)))

-- a run begins with tables of zeros
pub counting_starts : (plan : Planned) (counts : List (List ℕ)) (tables : List (Option Asked)) (partials : List (List ℕ)) (last sizes nodes rows : ℕ) → IsPlan plan → plan.reach ≡ last → last ≤ SIZE_LIMIT → sizes ≡ last + 1
    → nodes ≡ length plan.program.nodes → rows ≡ length plan.factors → IsTable nodes sizes counts → AreZero counts → IsTable rows sizes partials
    → AreUnasked (plain_of plan.program) plan.reach tables (length plan.program.nodes) → IsCounting plan counts tables partials last 0 false
counting_starts plan counts tables partials last sizes nodes rows is reach small s a b c cz q u = record {
  plan_is = is;
  reach = reach;
  wide = c.wide ∙ a;
  counts_reach = reach_all last sizes nodes counts s c;
  partials_reach = reach_all last sizes rows partials s q;
  within = omega arith;
  small = small;
  right = λ x m h g. absurd (omega (arith, g));
  going = λ _. record {
    ahead = λ x m h. cz x m;
    asked = collections_start (plain_of plan.program) plan.reach plan.order tables is.ordered.there u;
    wide = q.wide ∙ b;
    closed = λ r m h g. absurd (omega (arith, g));
  };
}
