-- One more size of the totals of a run.
use Rattle.std.proofs.Common.{◌≡◌, ◌⊎◌, ℕ, ◌+◌, ◌≤◌, ◌<◌, ⊎_elim, Bool, true, false, Option, List, [], ◌∷◌, length, drop, sum_by, refl, sym, ◌∙◌, ap, subst, arith, Some, None}
use Rattle.std.proofs.lemmas.Option.{slice_get_within}
use Rattle.luo_num.specs.declared.TheConstants.{MAX}
use Rattle.luo_num.specs.Mark.{capped}
use Rattle.luo_model.specs.declared.program.Universe.{Universe}
use Rattle.luo_model.specs.Program.{Program}
use Rattle.luo_model.specs.View.{plain_of}
use Rattle.luo_model.specs.Tables.{IsTotal}
use Rattle.luo_model.specs.Invariant.{IsProgram}
use Rattle.luo_model.proofs.TableLemmas.{totals_are_single}
use Rattle.luo_model.proofs.WorkLemmas.{sites_are_apart}
use Rattle.luo_counting.specs.Sharing.{shares}
use Rattle.luo_engine.specs.declared.points.Link.{Link}
use Rattle.luo_engine.specs.declared.tasks.Sites.{Sites}
use Rattle.luo_engine.specs.inner.Grid.{entry_of, SameShape, SameOthers, IsTable, AreZero}
use Rattle.luo_recipes.specs.Shares.{tail_of}
use Rattle.luo_engine.specs.inner.Partial.{AreClosedFrom}
use Rattle.luo_engine.specs.inner.Points.{point_of, IsClosedPoint, ArePointsBelow, ArePointsClosed}
use Rattle.luo_engine.specs.inner.Filled.{IsRightOf}
use Rattle.luo_engine.specs.inner.Plan.{Planned}
use Rattle.luo_engine.specs.inner.Asked.{AskedWalk}
use Rattle.luo_engine.specs.inner.Laid.{AreSites, AreTotalled}
use Rattle.luo_engine.specs.inner.Totals.{AreWalked}
use Rattle.luo_engine.specs.inner.Totalling.{IsTotalling}
use Rattle.luo_recipes.proofs.ShareLemmas.{shares-same}
use Rattle.luo_engine.proofs.inner.EntryLemmas.{sum_by-same}
use Rattle.luo_engine.proofs.inner.FillLemmas.{tail-same}
use Rattle.luo_engine.proofs.inner.RunLemmas.{reach_same, reach_less, reach_all}

less_or_eq : (a b : ℕ) → a < b + 1 → (a < b) ⊎ (a ≡ b)
less_or_eq a b h = grind arith

-- charged rows read no further than their size
point-same : (u : Universe) (f g T : ℕ → ℕ → ℕ) (factors : List (Option ℕ)) (links : List (Option Link)) (n : ℕ) → ((y k : ℕ) → k ≤ n → f y k ≡ g y k) → point_of u f T factors links n ≡ point_of u g T factors links n
point-same u f g T factors [] n h = refl
point-same u f g T factors (None ∷ links) n h = refl
point-same u f g T factors (Some l ∷ links) n h =
    let P : ℕ → ℕ = tail_of u f (drop l.behind factors) in
    let Q : ℕ → ℕ = tail_of u g (drop l.behind factors) in
    let a : sum_by (λ s. shares u (T s) P n) l.sites ≡ sum_by (λ s. shares u (T s) Q n) l.sites =
    sum_by-same (λ s. shares u (T s) P n) (λ s. shares u (T s) Q n) l.sites (λ s j. shares-same u (T s) P (T s) Q n (λ k m. refl) (λ k m. tail-same u f g (drop l.behind factors) k (λ y i q. h y i (omega arith)))) in
    let b : shares u (f l.node) (point_of u f T factors links) n ≡ shares u (g l.node) (point_of u g T factors links) n =
    shares-same u (f l.node) (point_of u f T factors links) (g l.node) (point_of u g T factors links) n (h l.node) (λ k m. point-same u f g T factors links k (λ y i q. h y i (omega arith))) in
    omega (arith, a, b)

-- the walks have answered for one more size
walked_next : (p : Program) (n_max : ℕ) (s : Sites) (walks : List (Option AskedWalk)) (n : ℕ) → AreWalked p n_max s walks n (length s.order) → AreWalked p n_max s walks (n + 1) 0
walked_next p n_max s walks n a = record {
  asked = λ j i c b h o t. absurd (omega (arith, h));
  to_ask = λ j i c b h o t. a.asked j i c b (slice_get_within s.order j i o) o t;
}

-- a run that goes on may fill its next size
module _ (plan : Planned) (sites : Sites) (old totals : List (List ℕ)) (walks : List (Option AskedWalk)) (points : List (List ℕ)) (last filled : ℕ) (stopped : Bool) (run : IsTotalling plan sites old totals walks points last filled stopped) (go : stopped ≡ false) (room : filled ≤ last) where
  pub totalled_next : AreTotalled (plain_of plan.program) sites.order totals filled 0
  totalled_next = record {
    wide = run.wide;
    reach = reach_less filled last totals room run.totals_reach;
    below = run.right;
    done = λ j x h e. absurd (omega (arith, h));
    waiting = λ j x h e. (run.going go).ahead x filled (omega arith);
    ahead = λ x m h. (run.going go).ahead x m (omega (arith, h));
  }

  pub points_below : (counts partials : List (List ℕ)) → length counts ≡ length plan.program.nodes → SameOthers filled old counts → AreClosedFrom plan.program.universe counts plan.factors partials filled 0 → ArePointsBelow plan.program.universe counts totals plan.factors partials sites.links points filled
  points_below counts partials wide others closed =
      let g = run.going go in
      record {
        products = closed;
        links_there = λ r l e.
            let a = run.sites_are.linked r l e in
            record { node = omega (arith, a.node, wide); behind = a.behind; next = a.next; sites = λ i j. omega (arith, a.sites_there i j, run.wide) };
        wide = g.wide;
        totals_reach = reach_less filled last totals room run.totals_reach;
        points_reach = reach_less filled last points room run.points_reach;
        closed = λ r m h l. g.closed r m h l ∙ ap capped (point-same plan.program.universe (entry_of old) (entry_of counts) (entry_of totals) plan.factors (drop r sites.links) m (λ y k q. sym (others y k (λ e. absurd (omega (arith, e, q, l))))));
      }

-- the totals of one more size are known
module _ (plan : Planned) (sites : Sites) (old counts partials totals new : List (List ℕ)) (before walks : List (Option AskedWalk)) (points ends : List (List ℕ)) (last filled : ℕ) (stopped : Bool) (run : IsTotalling plan sites old totals before points last filled stopped)
    (t : AreTotalled (plain_of plan.program) sites.order new filled (length sites.order)) (p : ArePointsClosed plan.program.universe counts new plan.factors partials sites.links ends filled 0) (s : SameShape totals new) (b : SameShape points ends)
    (asked : AreWalked (plain_of plan.program) plan.reach sites walks filled (length sites.order)) where
  pub total_right : (i m : ℕ) → i < length plan.program.sites → m < filled + 1 → IsRightOf (IsTotal (plain_of plan.program)) new i m
  total_right i m h l =
      ⊎_elim (λ (g : m < filled). t.below i m h g)
      (λ (q : m ≡ filled). let at = run.sites_are.ordered.complete i h in subst (IsRightOf (IsTotal (plain_of plan.program)) new i) (sym q) (t.done at.0 i (slice_get_within sites.order at.0 i at.1) at.1)) (less_or_eq m filled l)

  pub totalling_more : IsTotalling plan sites counts new walks ends last (filled + 1) stopped
  totalling_more = record {
    sites_are = run.sites_are;
    wide = t.wide;
    totals_reach = reach_same last totals new s run.totals_reach;
    points_reach = reach_same last points ends b run.points_reach;
    right = total_right;
    going = λ _. record {
      ahead = λ i m l. t.ahead i m (omega (arith, l));
      asked = walked_next (plain_of plan.program) plan.reach sites walks filled asked;
      wide = p.before.below.wide;
      closed = λ r m h l. ⊎_elim (λ (g : m < filled). p.before.below.closed r m h g) (λ (q : m ≡ filled). subst (IsClosedPoint plan.program.universe counts new plan.factors sites.links ends r) (sym q) (p.closed_rows r (omega arith) h)) (less_or_eq m filled l);
    };
  }

-- after an overflow the sizes that were filled stay
pub totalling_stops : (plan : Planned) (sites : Sites) (old counts totals new : List (List ℕ)) (before walks : List (Option AskedWalk)) (points ends : List (List ℕ)) (last filled : ℕ) (stopped : Bool) → IsTotalling plan sites old totals before points last filled stopped
    → ((i m : ℕ) → i < length plan.program.sites → m < filled → IsRightOf (IsTotal (plain_of plan.program)) new i m) → SameShape totals new → SameShape points ends → IsTotalling plan sites counts new walks ends last filled true
totalling_stops plan sites old counts totals new before walks points ends last filled stopped run kept s b = record {
  sites_are = run.sites_are;
  wide = s.wide ∙ run.wide;
  totals_reach = reach_same last totals new s run.totals_reach;
  points_reach = reach_same last points ends b run.points_reach;
  right = kept;
  going = λ e. absurd (cc);
}

-- a run begins with tables of zeros
pub totalling_starts : (plan : Planned) (sites : Sites) (counts totals : List (List ℕ)) (walks : List (Option AskedWalk)) (points : List (List ℕ)) (last sizes width rows : ℕ) → AreSites (plain_of plan.program) plan.factors sites → sizes ≡ last + 1
    → width ≡ length plan.program.sites → rows ≡ length sites.links → IsTable width sizes totals → AreZero totals → IsTable rows sizes points → AreWalked (plain_of plan.program) plan.reach sites walks 0 0 → IsTotalling plan sites counts totals walks points last 0 false
totalling_starts plan sites counts totals walks points last sizes width rows is s a b t tz p asked = record {
  sites_are = is;
  wide = t.wide ∙ a;
  totals_reach = reach_all last sizes width totals s t;
  points_reach = reach_all last sizes rows points s p;
  right = λ i m h g. absurd (omega (arith, g));
  going = λ _. record { ahead = λ i m h. tz i m; asked = asked; wide = p.wide ∙ b; closed = λ r m h g. absurd (omega (arith, g)) };
}

-- a total that is right doesn't overflow
pub total_within : (p : Program) → IsProgram p → (totals : List (List ℕ)) (bound : ℕ) → ((i m : ℕ) → i < length p.sites → m < bound → IsRightOf (IsTotal p) totals i m) → (i m v : ℕ) → i < length p.sites → m < bound → IsTotal p i m v → v ≤ MAX
total_within p q totals bound right i m v h l e = let r = right i m h l in omega (arith, totals_are_single p (sites_are_apart p q) i m (entry_of totals i m) v r.0 e, r.1)
