-- The rows of factors of a program's products.
use Rattle.std.specs.Prelude.{◌≡◌, ℕ, ◌+◌, ◌<◌, ◌^◌, List, length, slice_index}
use Rattle.luo_model.specs.declared.program.Part.{Part}
use Rattle.luo_model.specs.declared.program.Shape.TheVariants.{Product}
use Rattle.luo_model.specs.Program.{Program, shape_of}

-- there is room for the numbers of the rows of each product
abbrev pub HaveRoom : Program → List ℕ → Type 0
HaveRoom p starts =
    (length starts ≡ length p.nodes)
    × ((x : ℕ) (parts : List Part) → shape_of p x ≡ Product parts
    → slice_index starts x + length parts < 2 ^ 32)
