-- What is said where a limit is passed.
use Rattle.std.specs.Prelude.{◌≡◌, ℕ, ◌-◌, ◌^◌, List, [], ◌∷◌, ◌++◌, codes, decimal}
use Rattle.luo_num.specs.declared.TheConstants.{MAX}
use Rattle.luo_num.specs.declared.limits.TheConstants.{TEXT_LIMIT, TEXT_LIMIT_LINE, NAME_LIMIT, NAME_LIMIT_HEAD, NUMBER_LIMIT, NUMBER_LIMIT_HEAD, DEPTH_LIMIT, DEPTH_LIMIT_HEAD, DEFINITION_LIMIT, DEFINITION_LIMIT_LINE, NODE_LIMIT, NODE_LIMIT_LINE, PART_LIMIT, PART_LIMIT_LINE, BOUND_LIMIT, BOUND_LIMIT_LINE, MULTISET_LIMIT, MULTISET_LIMIT_LINE, PROCEDURE_LIMIT, PROCEDURE_LIMIT_LINE, STATEMENT_LIMIT, STATEMENT_LIMIT_LINE, ANALYSIS_LIMIT, ANALYSIS_LIMIT_LINE, WALK_LIMIT, WALK_LIMIT_LINE, SIZE_LIMIT, SIZE_LIMIT_LINE, STRUCTURE_TEXT_LIMIT, STRUCTURE_TEXT_LIMIT_LINE, NESTING_LIMIT, NESTING_LIMIT_HEAD}
use Rattle.luo_num.specs.declared.limits.TheConstants.{STRUCTURE_SIZE_LIMIT, LIST_SIZE_LIMIT, LIST_SIZE_LIMIT_LINE, COUNT_LIMIT, COUNT_LIMIT_LINE, WORKER_LIMIT, WORKER_LIMIT_LINE, WALKED_LIMIT, WALKED_LIMIT_LINE, SAMPLE_LIMIT, SAMPLE_LIMIT_LINE}

-- the name of a limit and its number
abbrev pub limit_message : List ℕ → ℕ → List ℕ
limit_message name most = codes "limit: " ++ name ++ codes " " ++ decimal most

-- what stands before the place of what passes a limit
abbrev pub HeadsSayLimits : Type 0
HeadsSayLimits =
    (NAME_LIMIT_HEAD.now ≡ limit_message (codes "name") NAME_LIMIT)
    × (NUMBER_LIMIT_HEAD.now ≡ limit_message (codes "number") NUMBER_LIMIT)
    × (DEPTH_LIMIT_HEAD.now ≡ limit_message (codes "depth") DEPTH_LIMIT)
    × (NESTING_LIMIT_HEAD.now ≡ limit_message (codes "nesting") NESTING_LIMIT)

-- the line of a limit whose place is not named
abbrev pub LinesSayLimits : Type 0
LinesSayLimits =
    (TEXT_LIMIT_LINE.now ≡ limit_message (codes "bytes") TEXT_LIMIT ++ 10 ∷ [])
    × (DEFINITION_LIMIT_LINE.now ≡ limit_message (codes "definitions") DEFINITION_LIMIT ++ 10 ∷ [])
    × (NODE_LIMIT_LINE.now ≡ limit_message (codes "nodes") NODE_LIMIT ++ 10 ∷ [])
    × (PART_LIMIT_LINE.now ≡ limit_message (codes "parts") PART_LIMIT ++ 10 ∷ [])
    × (BOUND_LIMIT_LINE.now ≡ limit_message (codes "bounds") BOUND_LIMIT ++ 10 ∷ [])
    × (MULTISET_LIMIT_LINE.now ≡ limit_message (codes "multisets") MULTISET_LIMIT ++ 10 ∷ [])
    × (PROCEDURE_LIMIT_LINE.now ≡ limit_message (codes "procedures") PROCEDURE_LIMIT ++ 10 ∷ [])
    × (STATEMENT_LIMIT_LINE.now ≡ limit_message (codes "statements") STATEMENT_LIMIT ++ 10 ∷ [])
    × (ANALYSIS_LIMIT_LINE.now ≡ limit_message (codes "analyses") ANALYSIS_LIMIT ++ 10 ∷ [])
    × (WALK_LIMIT_LINE.now ≡ limit_message (codes "walks") WALK_LIMIT ++ 10 ∷ [])
    × (SIZE_LIMIT_LINE.now ≡ limit_message (codes "size") SIZE_LIMIT ++ 10 ∷ [])
    × (STRUCTURE_TEXT_LIMIT_LINE.now ≡ limit_message (codes "text") STRUCTURE_TEXT_LIMIT ++ 10 ∷ [])
    × (LIST_SIZE_LIMIT_LINE.now ≡ limit_message (codes "size") LIST_SIZE_LIMIT ++ 10 ∷ [])
    × (COUNT_LIMIT_LINE.now ≡ limit_message (codes "count") COUNT_LIMIT ++ 10 ∷ [])
    × (WORKER_LIMIT_LINE.now ≡ limit_message (codes "workers") WORKER_LIMIT ++ 10 ∷ [])
    × (WALKED_LIMIT_LINE.now ≡ limit_message (codes "structures") WALKED_LIMIT ++ 10 ∷ [])
    × (SAMPLE_LIMIT_LINE.now ≡ limit_message (codes "number") SAMPLE_LIMIT ++ 10 ∷ [])

-- the greatest number of a table, and the limits of a text and of what is counted in its source
abbrev pub TextLimitsAre : Type 0
TextLimitsAre =
    (MAX ≡ 2 ^ 127 - 1) × (TEXT_LIMIT ≡ 65536) × (NAME_LIMIT ≡ 32) × (NUMBER_LIMIT ≡ 10 ^ 35)
    × (DEPTH_LIMIT ≡ 32) × (DEFINITION_LIMIT ≡ 64) × (NODE_LIMIT ≡ 128) × (PART_LIMIT ≡ 64)
    × (BOUND_LIMIT ≡ 100) × (MULTISET_LIMIT ≡ 32) × (PROCEDURE_LIMIT ≡ 64)
    × (STATEMENT_LIMIT ≡ 1024) × (ANALYSIS_LIMIT ≡ 16) × (WALK_LIMIT ≡ 32)

-- the limits of words
abbrev pub WordLimitsAre : Type 0
WordLimitsAre =
    (SIZE_LIMIT ≡ 160) × (STRUCTURE_TEXT_LIMIT ≡ 65536) × (NESTING_LIMIT ≡ 1000)
    × (STRUCTURE_SIZE_LIMIT ≡ 40) × (LIST_SIZE_LIMIT ≡ 40) × (COUNT_LIMIT ≡ 100000)
    × (WORKER_LIMIT ≡ 16) × (WALKED_LIMIT ≡ 4000000) × (SAMPLE_LIMIT ≡ 2 ^ 64 - 1)
