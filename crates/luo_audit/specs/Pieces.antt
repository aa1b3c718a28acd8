-- A list cut into pieces for workers, and what each piece sums to.
use Rattle.std.specs.Prelude.{ℕ, zero, suc, ◌+◌, ◌-◌, ◌*◌, ◌/◌, ◌%◌, min, List, [], ◌∷◌, length, take, drop, sum}

-- the place where piece i begins, of so many elements among so many workers: the first pieces are
-- one longer
abbrev pub start : ℕ → ℕ → ℕ → ℕ
start count workers i = i * (count / workers) + min i (count % workers)

-- the sum of what stands from one place on, up to another
abbrev pub sum_between : List ℕ → ℕ → ℕ → ℕ
sum_between xs from to = sum (take (to - from) (drop from xs))

-- the sum of piece i
abbrev pub piece_sum : List ℕ → ℕ → ℕ → ℕ
piece_sum xs workers i =
    sum_between xs (start (length xs) workers i) (start (length xs) workers (i + 1))

-- the sums of so many pieces, from piece i on
abbrev pub piece_sums_from : List ℕ → ℕ → ℕ → ℕ → List ℕ
piece_sums_from xs workers i zero = []
piece_sums_from xs workers i (suc n) = piece_sum xs workers i ∷ piece_sums_from xs workers (suc i) n

-- the sums of all pieces, in order
unfoldable pub piece_sums : List ℕ → ℕ → List ℕ
piece_sums xs workers = piece_sums_from xs workers 0 workers
