use Rattle.std.proofs.Common.{arith, refl, sym, ◌∙◌, ap, subst, ◌<◌, ◌≡◌, ◌+◌, ◌-◌, length, List, [], ◌∷◌, ◌++◌, slice_index_or, Ok, Err, IfOk, Result, true, false}
use Rattle.luo_finite.proofs.Membership.{In-at}
use Rattle.luo_model.specs.declared.program.Shape.TheVariants as shape
use Rattle.luo_model.specs.Tree.{Atom, Inj, more, none}
use Rattle.luo_model.specs.View.{plain_of}
use Rattle.luo_counting.specs.Sharing.{IsRoom}
use Rattle.luo_struct.specs.declared.structure.Structure.{Structure}
use Rattle.luo_struct.specs.View.{tree_of, tree_list}
use Rattle.luo_rank.specs.inner.Lookup.{work, rank_in, entry_of, IsUnder, tail_at, behind, Tailed, StandsAt, no_part}
use Rattle.luo_rank.proofs.LookupLemmas.{atom_place}
use Rattle.luo_rank.proofs.StepLemmas.{few_left, next_stands, step_falls, step_under, step_rank, step_tailed, end_tailed, top_under, product_asked, collection_asked, product_whole, collection_whole, union_there, union_sum, union_place, union_falls, union_few}
use Rattle.luo_rank.proofs.lookup.+lookup.Goals as goal

list_behind : (xs : List Structure) (s : Structure) → tree_list (xs ++ s ∷ []) ≡ behind (tree_list xs) (more (tree_of s) none)
list_behind [] s = refl
list_behind (x ∷ xs) s = ap (more (tree_of x)) (list_behind xs s)

if_ok_into : {A E : Type 0} (r : Result A E) (P Q : A → Type 0) → ((a : A) → P a → Q a) → IfOk r P → IfOk r Q
if_ok_into (Ok a) P Q f h = f a h
if_ok_into (Err e) P Q f h = h

pub row_at-structure_at-requires : goal.row_at-structure_at-requires
row_at-structure_at-requires t c =
    let left = c.goes_on.ensures.left c.if-goes_on.true in
    let first = c.first_of-first.ensures.first in
    let f = c.first_of-first.result in
    let falls = step_falls c.args.tables.now c.requires.tables.base c.args.x c.args.f c.args.n c.args.rank f.size f.labels f.place f.back c.args.top c.args.labels.now c.in_ok-parted.parted.first c.in_ok-parted.parted.rest c.requires.stands c.requires.room c.requires.size left first c.in_ok-parted.ensures c.requires.under in
    let less = subst (λ y. work (plain_of c.args.tables.now.program) (rank_in c.args.tables.now.ranks) y f.size < work (plain_of c.args.tables.now.program) (rank_in c.args.tables.now.ranks) c.args.x c.args.top) (sym c.first_node-node.ensures.first) falls in
    let few = few_left c.args.tables.now c.requires.tables.base c.args.x c.args.f c.args.n c.requires.stands in (
      omega (arith, c.decreases, less, few),
      (
        c.requires.tables,
        (
          c.first_node-node.ensures.there,
          (
            subst (λ ls. IsRoom c.args.tables.now.program.universe ls f.size) (sym c.as_slice.ensures) c.in_ok-parted.ensures.first,
            (omega (arith, first.sizes, c.requires.size), subst (λ y. f.place < entry_of c.args.tables.now.counts y f.size) (sym c.first_node-node.ensures.first) first.first),
          ),
        ),
      ),
    )

pub row_at-overflow_add-f : goal.row_at-overflow_add-f
row_at-overflow_add-f t c = omega (arith, few_left c.args.tables.now c.requires.tables.base c.args.x c.args.f c.args.n c.requires.stands)

pub row_at-row_at-requires : goal.row_at-row_at-requires
row_at-row_at-requires t c =
    let left = c.goes_on.ensures.left c.if-goes_on.true in
    let first = c.first_of-first.ensures.first in
    let f = c.first_of-first.result in
    let few = few_left c.args.tables.now c.requires.tables.base c.args.x c.args.f c.args.n c.requires.stands in
    let same = c.as_slice-then-goes_on.ensures in
    let under = step_under c.args.tables.now c.requires.tables.base c.args.x c.args.f c.args.n c.args.rank f.size f.labels f.place f.back c.args.top c.args.labels.now c.in_ok-parted.parted.first c.in_ok-parted.parted.rest c.requires.stands c.requires.room c.requires.size left first c.in_ok-parted.ensures c.requires.under in (
      omega (arith, c.decreases, few),
      (
        c.requires.tables,
        (
          c.requires.node,
          (
            next_stands c.args.tables.now c.requires.tables.base c.args.x c.args.f c.args.n f.size f.place c.requires.stands left first.sizes first.first,
            (
              subst (λ ls. IsRoom c.args.tables.now.program.universe ls (c.args.n - f.size)) (sym same) c.in_ok-parted.ensures.rest,
              (
                omega (arith, c.requires.size),
                (
                  step_rank c.args.tables.now c.requires.tables.base c.args.x c.args.f c.args.n c.args.rank f.size f.labels f.place f.back c.args.top c.args.labels.now c.in_ok-parted.parted.first c.in_ok-parted.parted.rest c.requires.stands c.requires.room c.requires.size left first c.in_ok-parted.ensures,
                  (
                    c.first_of-first.ensures.small,
                    subst (λ ls. IsUnder (plain_of c.args.tables.now.program) (rank_in c.args.tables.now.ranks) (work (plain_of c.args.tables.now.program) (rank_in c.args.tables.now.ranks) c.args.x c.args.top) (tail_at (plain_of c.args.tables.now.program) c.args.x (c.args.f + 1)) ls (c.args.n - f.size) f.back) (sym same) under,
                  ),
                ),
              ),
            ),
          ),
        ),
      ),
    )

pub row_at-returns-in_ok-row_at : goal.row_at-returns-in_ok-row_at
row_at-returns-in_ok-row_at t c =
    let left = c.goes_on.ensures.left c.if-goes_on.true in
    let first = c.first_of-first.ensures.first in
    let f = c.first_of-first.result in
    step_tailed c.args.tables.now c.requires.tables.base c.args.x c.args.f c.args.n c.args.rank f.size f.labels f.place f.back c.args.top c.args.labels.now c.in_ok-parted.parted.first c.in_ok-parted.parted.rest c.requires.stands c.requires.room c.requires.size left first c.in_ok-parted.ensures
    c.first_node-node.result (tree_of c.in_ok-part.part) (tree_list c.args.out.now) (tree_list c.push.new.self) (tree_list c.row_at.new.out) c.first_node-node.ensures.first
    (subst (λ ls. StandsAt c.args.tables.now c.first_node-node.result ls f.size f.place (tree_of c.in_ok-part.part)) c.as_slice.ensures c.in_ok-part.ensures)
    (ap tree_list c.in_ok-push.ensures.ok ∙ list_behind c.args.out.now c.in_ok-part.part)
    (subst (λ ls. Tailed (plain_of c.args.tables.now.program) c.args.x (c.args.f + 1) ls (c.args.n - f.size) f.back (tree_list c.push.new.self) (tree_list c.row_at.new.out)) c.as_slice-then-goes_on.ensures c.in_ok-row_at.ensures)

pub row_at-returns-else-goes_on : goal.row_at-returns-else-goes_on
row_at-returns-else-goes_on t c =
    end_tailed c.args.tables.now c.requires.tables.base c.args.x c.args.f c.args.n c.args.rank c.args.labels.now (tree_list c.args.out.now) c.requires.room c.requires.size (c.goes_on.ensures.ends (λ e. let q : false ≡ true = sym c.if-goes_on.false ∙ e in cc)) c.requires.rank

pub structure_at-branch_of-found-requires-clause-there : goal.structure_at-branch_of-found-requires-clause-there
structure_at-branch_of-found-requires-clause-there t c =
    union_there c.args.tables.now c.requires.tables.base c.args.node c.args.n c.args.rank c.args.labels.now c.requires.node c.requires.room c.requires.size c.as_slice-parts.result.now (sym c.shape.ensures ∙ c.in-Union.is ∙ ap shape.Union (sym c.as_slice-parts.ensures))

pub structure_at-branch_of-found-requires-clause-rank : goal.structure_at-branch_of-found-requires-clause-rank
structure_at-branch_of-found-requires-clause-rank t c =
    subst (λ m. c.args.rank < m) (union_sum c.args.tables.now c.requires.tables.base c.args.node c.args.n c.args.rank c.args.labels.now c.requires.node c.requires.room c.requires.size c.as_slice-parts.result.now (sym c.shape.ensures ∙ c.in-Union.is ∙ ap shape.Union (sym c.as_slice-parts.ensures))) c.requires.rank

pub structure_at-structure_at-requires : goal.structure_at-structure_at-requires
structure_at-structure_at-requires t c =
    let is = sym c.shape.ensures ∙ c.in-Union.is ∙ ap shape.Union (sym c.as_slice-parts.ensures) in
    let g = c.branch_of-found.result.group in
    let less = union_falls c.args.tables.now c.requires.tables.base c.args.node c.args.n c.args.rank c.args.labels.now c.requires.node c.requires.room c.requires.size c.as_slice-parts.result.now is g c.branch_of-found.ensures.there in
    let there = union_there c.args.tables.now c.requires.tables.base c.args.node c.args.n c.args.rank c.args.labels.now c.requires.node c.requires.room c.requires.size c.as_slice-parts.result.now is (slice_index_or c.as_slice-parts.result.now g no_part) (In-at c.as_slice-parts.result.now g no_part c.branch_of-found.ensures.there) in
    (omega (arith, c.decreases, less), (c.requires.tables, (there, (c.requires.room, (c.requires.size, c.branch_of-found.ensures.inside)))))

pub structure_at-inject-requires : goal.structure_at-inject-requires
structure_at-inject-requires t c =
    omega (arith, c.branch_of-found.ensures.there, union_few c.args.tables.now c.requires.tables.base c.args.node c.args.n c.args.rank c.args.labels.now c.requires.node c.requires.room c.requires.size c.as_slice-parts.result.now (sym c.shape.ensures ∙ c.in-Union.is ∙ ap shape.Union (sym c.as_slice-parts.ensures)))

pub structure_at-row_at-requires : goal.structure_at-row_at-requires
structure_at-row_at-requires t c =
    let asked = product_asked c.args.tables.now c.requires.tables.base c.args.node c.args.n c.args.rank c.args.labels.now c.requires.node c.requires.room c.requires.size c.in-Product.parts (sym c.shape.ensures ∙ c.in-Product.is) c.requires.rank in
    let under = top_under c.args.tables.now c.requires.tables.base c.args.node c.args.n c.args.rank c.args.labels.now c.requires.node c.requires.room c.requires.size in
    (omega (arith, c.decreases), (c.requires.tables, (c.requires.node, (asked.0, (c.requires.room, (c.requires.size, (asked.1, (asked.2, under))))))))

pub structure_at-row_at-requires-in-Coll : goal.structure_at-row_at-requires-in-Coll
structure_at-row_at-requires-in-Coll t c =
    let asked = collection_asked c.args.tables.now c.requires.tables.base c.args.node c.args.n c.args.rank c.args.labels.now c.requires.node c.requires.room c.requires.size c.in-Coll.kind c.in-Coll.part c.in-Coll.low c.in-Coll.high (sym c.shape.ensures ∙ c.in-Coll.is) c.requires.rank in
    let under = top_under c.args.tables.now c.requires.tables.base c.args.node c.args.n c.args.rank c.args.labels.now c.requires.node c.requires.room c.requires.size in
    (omega (arith, c.decreases), (c.requires.tables, (c.requires.node, (asked.0, (c.requires.room, (c.requires.size, (asked.1, (asked.2, under))))))))

pub structure_at-returns-in-Atom : goal.structure_at-returns-in-Atom
structure_at-returns-in-Atom t c =
    subst (λ l. StandsAt c.args.tables.now c.args.node c.args.labels.now c.args.n c.args.rank (Atom c.in-Atom.weight l)) (sym c.label.ensures)
    (atom_place (plain_of c.args.tables.now.program) (length c.args.tables.now.program.nodes) c.args.tables.now.last (entry_of c.args.tables.now.counts) c.requires.tables.base.numbers c.args.node c.in-Atom.weight c.args.n c.args.rank c.args.labels.now (sym c.shape.ensures ∙ c.in-Atom.is) c.requires.node c.requires.size c.requires.room c.requires.rank)

pub structure_at-returns-in_ok-inner-in-Union : goal.structure_at-returns-in_ok-inner-in-Union
structure_at-returns-in_ok-inner-in-Union t c =
    let is = sym c.shape.ensures ∙ c.in-Union.is ∙ ap shape.Union (sym c.as_slice-parts.ensures) in
    let g = c.branch_of-found.result.group in
    if_ok_into c.inject.result (λ s. tree_of s ≡ Inj (g + 1) (tree_of c.in_ok-inner-in-Union.inner)) (λ s. StandsAt c.args.tables.now c.args.node c.args.labels.now c.args.n c.args.rank (tree_of s))
    (λ s e. subst (StandsAt c.args.tables.now c.args.node c.args.labels.now c.args.n c.args.rank) (sym e)
    (union_place c.args.tables.now c.requires.tables.base c.args.node c.args.n c.args.rank c.args.labels.now c.requires.node c.requires.room c.requires.size c.as_slice-parts.result.now is g c.branch_of-found.result.rest (tree_of c.in_ok-inner-in-Union.inner) c.branch_of-found.ensures c.in_ok-inner-in-Union.ensures)) c.inject.ensures

pub structure_at-returns-in_ok-row_at-in-Product : goal.structure_at-returns-in_ok-row_at-in-Product
structure_at-returns-in_ok-row_at-in-Product t c =
    product_whole c.args.tables.now c.requires.tables.base c.args.node c.args.n c.args.rank c.args.labels.now c.requires.node c.requires.room c.requires.size c.in-Product.parts (tree_list c.new-out.result) (tree_list c.row_at.new.out) (tree_of c.tuple.result)
    (sym c.shape.ensures ∙ c.in-Product.is) (ap tree_list c.new-out.ensures) c.in_ok-row_at-in-Product.ensures c.tuple.ensures

pub structure_at-returns-in_ok-row_at-in-Coll : goal.structure_at-returns-in_ok-row_at-in-Coll
structure_at-returns-in_ok-row_at-in-Coll t c =
    collection_whole c.args.tables.now c.requires.tables.base c.args.node c.args.n c.args.rank c.args.labels.now c.requires.node c.requires.room c.requires.size c.in-Coll.kind c.in-Coll.part c.in-Coll.low c.in-Coll.high (tree_list c.new-out-in-Coll.result) (tree_list c.row_at-in-Coll.new.out) (tree_of c.collection.result)
    (sym c.shape.ensures ∙ c.in-Coll.is) (ap tree_list c.new-out-in-Coll.ensures) c.in_ok-row_at-in-Coll.ensures c.collection.ensures
