-- Structures whose numbers a machine holds.
use Rattle.std.specs.Prelude.{◌<◌, ◌^◌, ◌-◌, length}
use Rattle.luo_model.specs.Tree.{Tree, Trees, size_of, sizes_of, labels_of, all_labels_of}

-- the size, and how many labels there are, are below the last number of `u64`
abbrev pub IsSmall : Tree → Type 0
IsSmall t = (size_of t < 2 ^ 64 - 1) × (length (labels_of t) < 2 ^ 64 - 1)

abbrev pub AreSmall : Trees → Type 0
AreSmall ts = (sizes_of ts < 2 ^ 64 - 1) × (length (all_labels_of ts) < 2 ^ 64 - 1)
