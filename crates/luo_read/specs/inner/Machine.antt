-- How far a text is read, byte by byte.
use Rattle.std.specs.Prelude.{ℕ, zero, suc, ◌+◌, ◌-◌, ◌*◌, List, [], ◌∷◌, ◌++◌, Option, Some, None, option_and_then, Bool, if◌then◌else◌, nat_eq, nat_le}
use Rattle.luo_model.specs.Tree.{Tree, Trees, Atom, Inj, Tup, Coll, none, more, from_list}
use Rattle.luo_read.specs.Nesting.{Open, Branch, Tuple, Collection}

-- what the last bytes belong to: nothing, where a structure begins or may begin as the first of a
-- collection; a number; or a structure that isn't inside a branch
pub data Stage : Type 0 where
  Begin First : Stage
  Weight Label : Option ℕ → Stage
  Number : ℕ → Stage
  Behind : Tree → Stage

-- what is open, the innermost first
pub data State : Type 0 where
  state : List Open → Stage → State

abbrev pub is_digit : ℕ → Bool
is_digit b = if nat_le 48 b then nat_le b 57 else nat_le 1 0

-- a digit more after a number, without a leading zero and within six digits
abbrev pub longer_number : Option ℕ → ℕ → Option ℕ
longer_number None b = if is_digit b then Some (b - 48) else None
longer_number (Some zero) b = None
longer_number (Some (suc n)) b =
    if is_digit b then (if nat_le (suc n) 99999 then Some
    (10 * suc n + (b - 48)) else None) else None

-- and the same for a number that is at least 1
abbrev pub not_zero : Option ℕ → Option ℕ
not_zero None = None
not_zero (Some zero) = None
not_zero (Some (suc n)) = Some (suc n)

abbrev pub longer_count : Option ℕ → ℕ → Option ℕ
longer_count o b = not_zero (longer_number o b)

-- inside all branches that are open innermost
abbrev pub closed : List Open → Tree → State
closed [] t = state [] (Behind t)
closed (Branch number ∷ os) t = closed os (Inj number t)
closed (Tuple ts ∷ os) t = state (Tuple ts ∷ os) (Behind t)
closed (Collection ts ∷ os) t = state (Collection ts ∷ os) (Behind t)

abbrev pub numbered : List Open → Option ℕ → Option State
numbered os None = None
numbered os (Some number) = Some (state os (Number number))

-- the first byte of a structure
abbrev pub begun : List Open → ℕ → Option State
begun os b =
    if nat_eq b 40 then Some (state (Tuple [] ∷ os) Begin)
    else (if nat_eq b 91 then Some (state (Collection [] ∷ os) First)
    else (if nat_eq b 97 then Some
    (state os (Weight None)) else (if nat_eq b 35 then Some (state os (Label None)) else numbered os
    (longer_count None b))))

-- a tuple of at least two parts
abbrev pub tuple_closed : List Open → List Tree → Tree → Option State
tuple_closed os [] t = None
tuple_closed os (u ∷ us) t = Some (closed os (Tup (from_list ((u ∷ us) ++ t ∷ []))))

-- the byte after a structure
abbrev pub passed : List Open → Tree → ℕ → Option State
passed [] t b = None
passed (Branch number ∷ os) t b = None
passed (Tuple ts ∷ os) t b =
    if nat_eq b 44 then Some
    (state (Tuple (ts ++ t ∷ [])
    ∷ os) Begin) else (if nat_eq b 41 then tuple_closed os ts t else None)
passed (Collection ts ∷ os) t b =
    if nat_eq b 44 then Some
    (state (Collection (ts ++ t ∷ []) ∷ os) Begin) else (if nat_eq b 93 then Some
    (closed os (Coll (from_list (ts ++ t ∷ [])))) else None)

-- the same, of a state that comes after a structure
abbrev pub passed_from : State → ℕ → Option State
passed_from (state os (Behind t)) b = passed os t b
passed_from _ b = None

abbrev pub weight_passed : List Open → Option ℕ → ℕ → Option State
weight_passed os None b = None
weight_passed os (Some weight) b = passed_from (closed os (Atom weight 0)) b

abbrev pub label_passed : List Open → Option ℕ → ℕ → Option State
label_passed os None b = None
label_passed os (Some label) b = passed_from (closed os (Atom 1 label)) b

abbrev pub weighed : List Open → Option ℕ → ℕ → Option ℕ → Option State
weighed os o b None = weight_passed os o b
weighed os o b (Some number) = Some (state os (Weight (Some number)))

abbrev pub labelled : List Open → Option ℕ → ℕ → Option ℕ → Option State
labelled os o b None = label_passed os o b
labelled os o b (Some number) = Some (state os (Label (Some number)))

abbrev pub emptied : List Open → Option State
emptied (Collection ts ∷ os) = Some (closed os (Coll (from_list ts)))
emptied _ = None

-- one byte further, where that goes
abbrev pub step : State → ℕ → Option State
step (state os Begin) b = begun os b
step (state os First) b = if nat_eq b 93 then emptied os else begun os b
step (state os (Weight o)) b = weighed os o b (longer_number o b)
step (state os (Label o)) b = labelled os o b (longer_count o b)
step (state os (Number number)) b =
    if nat_eq b 58 then Some (state (Branch number ∷ os) Begin) else numbered os
    (longer_number (Some number) b)
step (state os (Behind t)) b = passed os t b

-- and all of a text further
abbrev pub run_from : Option State → List ℕ → Option State
run_from o [] = o
run_from o (b ∷ bs) = run_from (option_and_then (λ s. step s b) o) bs

abbrev pub run : State → List ℕ → Option State
run s bs = run_from (Some s) bs

-- an atom whose number is read comes after it
abbrev pub settled : State → State
settled (state os (Weight (Some weight))) = closed os (Atom weight 0)
settled (state os (Label (Some label))) = closed os (Atom 1 label)
settled s = s

-- the tree that is read of the text of a tree: a label says nothing of the weight
abbrev mutual
  pub normal : Tree → Tree
  normal (Atom weight zero) = Atom weight 0
  normal (Atom weight (suc label)) = Atom 1 (suc label)
  normal (Inj branch t) = Inj branch (normal t)
  normal (Tup ts) = Tup (all_normal ts)
  normal (Coll ts) = Coll (all_normal ts)

  pub all_normal : Trees → Trees
  all_normal none = none
  all_normal (more t ts) = more (normal t) (all_normal ts)
