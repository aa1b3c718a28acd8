-- A walk at a site of a plan's program.
use Rattle.std.proofs.Common.{◌≡◌, ℕ, ◌+◌, ◌≤◌, ◌<◌, inl, ⊎_elim, List, [], length, take, refl, sym, ◌∙◌, ap, subst, arith, Option}
use Rattle.std.proofs.lemmas.Option.{slice_get_within}
use Rattle.luo_num.specs.Mark.{capped}
use Rattle.luo_num.specs.declared.TheConstants.{MAX}
use Rattle.luo_finite.specs.Listing.{In}
use Rattle.luo_model.specs.declared.program.Part.{Part}
use Rattle.luo_model.specs.declared.program.Kind.{Kind}
use Rattle.luo_model.specs.declared.program.Shape.{Shape}
use Rattle.luo_model.specs.declared.program.Shape.TheVariants.{Coll, Union}
use Rattle.luo_model.specs.Program.{Program, shape_of, site_node}
use Rattle.luo_model.specs.View.{plain_of}
use Rattle.luo_model.specs.Member.{IsWithin}
use Rattle.luo_model.specs.Invariant.{inner_parts}
use Rattle.luo_model.specs.Tables.{IsTotal}
use Rattle.luo_model.proofs.NodeLemmas.{node_at_place}
use Rattle.luo_engine.specs.inner.Grid.{row_of, entry_of}
use Rattle.luo_engine.specs.inner.Filled.{IsRightOf, AreCounted, NumbersTo}
use Rattle.luo_engine.specs.inner.Plan.{Planned, IsPlan}
use Rattle.luo_engine.specs.inner.Asked.{Asked, AskedWalk, GoesWithAs, KeepsCounts, total_asked}
use Rattle.luo_engine.specs.inner.Collections.{table_at, HasAsked, AreCollections}
use Rattle.luo_engine.specs.inner.Walks.{IsWalk, walk_at, HasAskedWalk, IsWalkAsked, HasAnswered, AllowsOne, HasTotals}
use Rattle.luo_engine.proofs.inner.CollectingLemmas.{parts_there}
use Rattle.luo_engine.proofs.inner.WalkLemmas as walking

-- a collection is at a node of the program
pub coll_there : (p : Program) (x low : ℕ) (kind : Kind) (part : Part) (high : Option ℕ) → shape_of p x ≡ Coll kind part low high → x < length p.nodes
coll_there p x low kind part high s = ⊎_elim (λ n. slice_get_within p.nodes x n.0 n.1) (λ o. absurd (never (sym o ∙ s))) (node_at_place p x)
  where
    never : Union [] ≡ Coll kind part low high → ⊥
    never e = absurd (cc)

-- its table, once all of a size have answered
pub table_there : (plan : Planned) (is : IsPlan plan) (tables : List (Option Asked)) (n x low : ℕ) (kind : Kind) (part : Part) (high : Option ℕ) → shape_of (plain_of plan.program) x ≡ Coll kind part low high
    → AreCollections (plain_of plan.program) plan.reach plan.order tables n (length plan.order) → HasAsked (plain_of plan.program) plan.reach tables x low kind part high (n + 1)
table_there plan is tables n x low kind part high s are =
    let at = is.ordered.complete x (coll_there (plain_of plan.program) x low kind part high s) in
    are.asked at.0 x low kind part high (slice_get_within plan.order at.0 x at.1) at.1 s

module _ (plan : Planned) (is : IsPlan plan) (counts totals : List (List ℕ)) (tables : List (Option Asked)) (walks : List (Option AskedWalk)) (i s n x low : ℕ) (kind : Kind) (part : Part) (high : Option ℕ) (at : x ≡ site_node (plain_of plan.program) i)
    (shape : shape_of (plain_of plan.program) x ≡ Coll kind part low high) (counted : AreCounted (plain_of plan.program) plan.order counts n (length plan.order)) where
  pub component_row : part.node < length counts
  component_row =
      let t = parts_there (plain_of plan.program) is.proper x (coll_there (plain_of plan.program) x low kind part high shape) part (subst (λ (s : Shape). In part (inner_parts s)) (sym shape) (inl refl)) in
      omega (arith, t, counted.wide)

  pub component_reaches : n < length (row_of counts part.node)
  component_reaches = counted.reach part.node component_row

  module _ (are : AreCollections (plain_of plan.program) plan.reach plan.order tables n (length plan.order)) (has : HasTotals (plain_of plan.program) totals s n)
      (one : AllowsOne (shape_of (plain_of plan.program) (site_node (plain_of plan.program) i)) → IsRightOf (IsTotal (plain_of plan.program)) totals s n) (asks : IsWalkAsked (plain_of plan.program) plan.reach walks i s n) (reached : n ≤ plan.reach)
      (here : ℕ) (alone_one : IsWithin low high 1 → here ≡ entry_of totals s n) (alone : (IsWithin low high 1 → ⊥) → here ≡ 0)
      (row comp body_row body : List ℕ) (is_row : row ≡ row_of counts part.node) (is_front : comp ≡ take n row) (is_body_row : body_row ≡ row_of totals s) (is_body_front : body ≡ take n body_row)
      (c : Asked) (is_c : c ≡ table_at tables x) (walk : IsWalk (plain_of plan.program) i s) where
    same : Coll walk.kind walk.part walk.low walk.high ≡ Coll kind part low high
    same = sym walk.shape ∙ ap (shape_of (plain_of plan.program)) (sym at) ∙ shape

    same_part : part ≡ walk.part
    same_part = let e = same in cc

    same_low : low ≡ walk.low
    same_low = let e = same in cc

    same_high : high ≡ walk.high
    same_high = let e = same in cc

    within : IsWithin walk.low walk.high 1 → IsWithin low high 1
    within w = subst (λ h. IsWithin low h 1) (sym same_high) (subst (λ l. IsWithin l walk.high 1) (sym same_low) w)

    within_walk : IsWithin low high 1 → IsWithin walk.low walk.high 1
    within_walk w = subst (λ h. IsWithin walk.low h 1) same_high (subst (λ l. IsWithin l high 1) same_low w)

    table : HasAsked (plain_of plan.program) plan.reach tables (site_node (plain_of plan.program) i) walk.low walk.kind walk.part walk.high (n + 1)
    table = table_there plan is tables n (site_node (plain_of plan.program) i) walk.low walk.kind walk.part walk.high walk.shape are

    part_there : walk.part.node < length counts
    part_there = subst (λ (z : Part). z.node < length counts) same_part component_row

    table_is : c ≡ table_at tables (site_node (plain_of plan.program) i)
    table_is = is_c ∙ ap (table_at tables) at

    pub comp_long : length comp ≡ n
    comp_long =
        walking.comp_long (plain_of plan.program) is.proper is.founded i s walk n plan.reach reached tables table walks (asks walk) counts totals
        (counted.reach walk.part.node part_there) (λ m h. counted.below walk.part.node m (omega (arith, part_there, counted.wide)) h) has.reach has.below (λ w. one (subst AllowsOne (sym walk.shape) w))
        here (λ w. alone_one (within w)) (λ w. alone (λ v. w (within_walk v))) comp body (is_front ∙ ap (take n) is_row ∙ ap (λ (z : Part). take n (row_of counts z.node)) same_part) (is_body_front ∙ ap (take n) is_body_row)

    pub goes_with : GoesWithAs c (walk_at walks i) comp body here
    goes_with = subst (λ z. GoesWithAs z (walk_at walks i) comp body here) (sym table_is)
        (walking.goes_with (plain_of plan.program) is.proper is.founded i s walk n plan.reach reached tables table walks (asks walk) counts totals
        (counted.reach walk.part.node part_there) (λ m h. counted.below walk.part.node m (omega (arith, part_there, counted.wide)) h) has.reach has.below (λ w. one (subst AllowsOne (sym walk.shape) w))
        here (λ w. alone_one (within w)) (λ w. alone (λ v. w (within_walk v))) comp body (is_front ∙ ap (take n) is_row ∙ ap (λ (z : Part). take n (row_of counts z.node)) same_part) (is_body_front ∙ ap (take n) is_body_row))

    pub number_is : (value : ℕ) → value ≡ capped (total_asked c body here) → NumbersTo (IsTotal (plain_of plan.program)) i n value
    number_is value v =
        walking.number_is (plain_of plan.program) is.proper is.founded i s walk n plan.reach reached tables table walks (asks walk) counts totals
        (counted.reach walk.part.node part_there) (λ m h. counted.below walk.part.node m (omega (arith, part_there, counted.wide)) h) has.reach has.below (λ w. one (subst AllowsOne (sym walk.shape) w))
        here (λ w. alone_one (within w)) (λ w. alone (λ v. w (within_walk v))) comp body (is_front ∙ ap (take n) is_row ∙ ap (λ (z : Part). take n (row_of counts z.node)) same_part) (is_body_front ∙ ap (take n) is_body_row)
        value (v ∙ ap (λ z. capped (total_asked z body here)) table_is)

    pub next : (new : List (Option AskedWalk)) (value : ℕ) → HasAnswered c walks new i comp body here value → value ≤ MAX → HasAskedWalk (plain_of plan.program) plan.reach new i s walk (n + 1)
    next new value a small =
        walking.asked_next (plain_of plan.program) is.proper is.founded i s walk n plan.reach reached tables table walks (asks walk) counts totals
        (counted.reach walk.part.node part_there) (λ m h. counted.below walk.part.node m (omega (arith, part_there, counted.wide)) h) has.reach has.below (λ w. one (subst AllowsOne (sym walk.shape) w))
        here (λ w. alone_one (within w)) (λ w. alone (λ v. w (within_walk v))) comp body (is_front ∙ ap (take n) is_row ∙ ap (λ (z : Part). take n (row_of counts z.node)) same_part) (is_body_front ∙ ap (take n) is_body_row)
        new value a.now a.there small (subst (λ z. KeepsCounts z comp a.now.counts) table_is a.counts) a.sums
