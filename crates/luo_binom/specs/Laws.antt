-- What binomials and places of choices have to give.
use Rattle.std.specs.Prelude.{◌≡◌, ℕ, suc, ◌+◌, ◌*◌, ◌<◌, ◌≤◌, List, length}
use Rattle.luo_num.specs.declared.TheConstants.{MAX}
use Rattle.luo_finite.specs.Listing.{Pairwise, Counts}
use Rattle.luo_finite.specs.Binomial.{choose}
use Rattle.luo_finite.specs.Places.{IsPlace, IsChoice, Lexical}

-- each number is below those after it
abbrev pub Rises : List ℕ → Type 0
Rises labels = Pairwise (λ x y. x < y) labels

-- of a rising list of n labels there are as many choices of k as the binomial says
abbrev pub ChoicesAreCounted : Type 0
ChoicesAreCounted = (L : List ℕ) (k : ℕ) → Rises L → Counts (IsChoice L k) (choose (length L) k)

-- a choice has one place, a place one choice, and the places are those below the number of choices
abbrev pub PlacesAreInverse : Type 0
PlacesAreInverse =
    (L : List ℕ) (k : ℕ)
    → ((r s : ℕ) (C : List ℕ) → IsPlace (IsChoice L k) Lexical r C
    → IsPlace (IsChoice L k) Lexical s C → r ≡ s)
    × ((r : ℕ) (C D : List ℕ) → IsPlace (IsChoice L k) Lexical r C
    → IsPlace (IsChoice L k) Lexical r D → C ≡ D)
    × (Rises L → (r : ℕ) (C : List ℕ) → IsPlace (IsChoice L k) Lexical r C
    → r < choose (length L) k)
    × (Rises L → (r : ℕ) → r < choose (length L) k
    → (C : List ℕ) × IsPlace (IsChoice L k) Lexical r C)

-- C(a, j + 1) (j + 1) = C(a, j) (a - j), and as many are left out as taken
abbrev pub BinomialsStep : Type 0
BinomialsStep =
    ((m j : ℕ) → suc j * choose (m + j) (suc j) ≡ m * choose (m + j) j)
    × ((m j : ℕ) → choose (m + j) j ≡ choose (m + j) m)

-- no binomial of up to 130 things overflows, and of 131 things one does
abbrev pub FewAreWithin : Type 0
FewAreWithin =
    ((n k : ℕ) → n ≤ 130 → choose n k ≤ MAX)
    × (choose 130 65 ≡ 95067625827960698145584333020095113100) × (MAX < choose 131 65)
