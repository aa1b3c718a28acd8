-- How the neighbours of a collection stand.
use Rattle.std.specs.Prelude.{◌<◌}
use Rattle.luo_model.specs.declared.program.Kind.{Kind}
use Rattle.luo_model.specs.declared.program.Kind.TheVariants.{Sequence, Set, Cycle, Multiset, Powerset}
use Rattle.luo_model.specs.Tree.{Tree, Trees, none, more, least_label}
use Rattle.luo_model.specs.Order.{IsBefore, IsNotBefore}

-- a component and the one after it, where a cycle's are looked at by themselves
abbrev pub StandBeside : Kind → Tree → Tree → Type 0
StandBeside Sequence s t = Unit {0}
StandBeside Set s t = least_label s < least_label t
StandBeside Cycle s t = Unit {0}
StandBeside Multiset s t = IsNotBefore s t
StandBeside Powerset s t = IsBefore t s

abbrev pub EachStandsBeside : Kind → Trees → Type 0
EachStandsBeside kind none = Unit {0}
EachStandsBeside kind (more s none) = Unit {0}
EachStandsBeside kind (more s (more t ts)) =
    StandBeside kind s t × EachStandsBeside kind (more t ts)
