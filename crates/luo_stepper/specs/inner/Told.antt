-- What the next room is.
use Rattle.std.specs.Prelude.{ℕ, List, Option, Some, None}
use Rattle.luo_rank.specs.inner.Lookup.{Looked}
use Rattle.luo_stepper.specs.declared.rooms.Room.{Room}
use Rattle.luo_stepper.specs.inner.Stepping.{IsNextRoom, IsLastRoom}

abbrev pub RoomTold : Looked → ℕ → ℕ → List ℕ → ℕ → ℕ → List ℕ → Option Room → Type 0
RoomTold t x f L n i C None = IsLastRoom t x f L n i C
RoomTold t x f L n i C (Some room) = IsNextRoom t x f L n i C room.size room.first room.rest
