-- What an arm stands for, as plain data.
use Rattle.luo_model.specs.Scopes.Stands as plain
use Rattle.luo_value_types.specs.declared.stands.Stand.{Stand}
use Rattle.luo_value_types.specs.declared.stands.Stand.TheVariants.{Inside, Itself}

abbrev pub stand_of : Stand → plain.Stand
stand_of (Inside part) = plain.inside part
stand_of (Itself part) = plain.itself part
