-- A sink in memory.
use Rattle.std.specs.Prelude.{◌≡◌, ℕ, List}
use Rattle.luo_outside.specs.declared.mem_sink.MemSink.{MemSink}

-- the bytes that it took
abbrev pub taken_bytes : MemSink → List ℕ
taken_bytes s = s.taken.items

-- a call changed neither the longest piece nor the failing calls nor the room
abbrev pub SameGiven : MemSink → MemSink → Type 0
SameGiven old new = (new.most ≡ old.most) × (new.fails ≡ old.fails) × (new.room ≡ old.room)
