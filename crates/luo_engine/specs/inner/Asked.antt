-- What tables of collections, and of charges over them, were made for and given, whatever their
-- kind.
use Rattle.std.specs.Prelude.{◌≡◌, ℕ, zero, suc, ◌≤◌, ◌<◌, Bool, false, List, [], ◌∷◌, ◌++◌, length, slice_index, take, Option, None, IfSome, nat_lt}
use Rattle.luo_num.specs.declared.limits.TheConstants.{BOUND_LIMIT, SIZE_LIMIT}
use Rattle.luo_num.specs.declared.TheConstants.{MAX}
use Rattle.luo_model.specs.declared.program.Universe.{Universe}
use Rattle.luo_model.specs.declared.program.Universe.TheVariants.{Unlabelled, Labelled}
use Rattle.luo_model.specs.declared.program.Kind.{Kind}
use Rattle.luo_model.specs.declared.program.Kind.TheVariants.{Multiset, Powerset}
use Rattle.luo_model.specs.Member.{IsWithin}
use Rattle.luo_counting.specs.Items.{Suits}
use Rattle.luo_counting.specs.Numbers.{coll_count, coll_total}
use Rattle.luo_labelled.specs.Calls as labelled
use Rattle.luo_unlabelled.specs.Calls as unlabelled

-- the tables that count collections: chains are labelled, lines are sequences, and what has parts
-- is a multiset or a powerset, with or without bounds
pub data Form : Type 0 where
  of_chain : Form
  of_line : Form
  of_parts : Form
  of_unbounded : Form

-- without a greatest number of components, and with a least one of at most 2, a row by size alone
-- serves
abbrev pub parts_form : ℕ → Option ℕ → Form
parts_form zero None = of_unbounded
parts_form (suc zero) None = of_unbounded
parts_form (suc (suc zero)) None = of_unbounded
parts_form _ _ = of_parts

abbrev pub form_of : Universe → Kind → ℕ → Option ℕ → Form
form_of Labelled kind low high = of_chain
form_of Unlabelled Multiset low high = parts_form low high
form_of Unlabelled Powerset low high = parts_form low high
form_of Unlabelled _ low high = of_line

-- what a table was made for, the numbers that its calls were given, one for each size from 0 on,
-- and whether the last call answered with a mark
pub record Asked : Type 0 where
  pub form : Form
  pub universe : Universe
  pub kind : Kind
  pub low : ℕ
  pub high : Option ℕ
  pub n_max : ℕ
  pub given : List ℕ
  pub over : Bool

-- before the first call
abbrev pub unasked : Universe → Kind → ℕ → Option ℕ → ℕ → Asked
unasked u k l h n =
    record {
      form = form_of u k l h;
      universe = u;
      kind = k;
      low = l;
      high = h;
      n_max = n;
      given = [];
      over = false;
    }

-- what is seen in a table of labelled collections, and in one of unlabelled ones
abbrev pub of_labelled : labelled.Calls → Asked
of_labelled c =
    record {
      form = of_chain;
      universe = Labelled;
      kind = c.kind;
      low = c.low;
      high = c.high;
      n_max = c.n_max;
      given = c.given;
      over = c.over;
    }

abbrev pub of_unlabelled : Form → unlabelled.Calls → Asked
of_unlabelled f c =
    record {
      form = f;
      universe = Unlabelled;
      kind = c.kind;
      low = c.low;
      high = c.high;
      n_max = c.n_max;
      given = c.given;
      over = c.over;
    }

-- the universe has this kind, and the bounds and the greatest size are allowed
pub record AreBounds (universe : Universe) (kind : Kind) (low : ℕ) (high : Option ℕ)
    (n_max : ℕ) : Type 0 where
  pub suits : Suits universe kind low
  pub low_within : low ≤ BOUND_LIMIT
  pub high_within : IfSome high (λ most. (low ≤ most) × (most ≤ BOUND_LIMIT))
  pub n_max_within : n_max ≤ SIZE_LIMIT

-- the numbers of all sizes: those below, and that of the size at hand
abbrev pub numbers : List ℕ → ℕ → ℕ → ℕ
numbers below here = slice_index (below ++ here ∷ [])

-- the numbers of a call for the next size go on from those of the calls before, of which none
-- answered with a mark; the last of them, and that of the size at hand, count only where one
-- component is within the bounds
pub record GoesOnAs (c : Asked) (below : List ℕ) (here : ℕ) : Type 0 where
  pub going : c.over ≡ false
  pub reached : length c.given ≤ c.n_max
  pub sizes : length below ≡ length c.given
  pub none_empty : slice_index below 0 ≡ 0
  pub small : (m : ℕ) → slice_index below m ≤ MAX
  pub here_small : here ≤ MAX
  pub here_empty : length below ≡ 0 → here ≡ 0
  pub here_alone : (IsWithin c.low c.high 1 → ⊥) → here ≡ 0
  pub agree : (m : ℕ) → suc m < length below → slice_index below m ≡ slice_index c.given m
  pub last_agrees : (m : ℕ) → suc m ≡ length below → IsWithin c.low c.high 1
      → slice_index below m ≡ slice_index c.given m

-- the number of collections of the next size
abbrev pub number_asked : Asked → List ℕ → ℕ → ℕ
number_asked c below here =
    coll_count c.universe c.kind (numbers below here) c.low c.high (length below)

-- after a call that was given these numbers, and answered the value
abbrev pub asked_more : Asked → List ℕ → ℕ → ℕ → Asked
asked_more c below here value =
    record {
      form = c.form;
      universe = c.universe;
      kind = c.kind;
      low = c.low;
      high = c.high;
      n_max = c.n_max;
      given = below ++ here ∷ [];
      over = nat_lt MAX value;
    }

-- what a table of charges was given: numbers of components, and the sums of the charges over them
pub record AskedWalk : Type 0 where
  pub counts : List ℕ
  pub sums : Asked

-- before the first call
abbrev pub unasked_walk : Asked → AskedWalk
unasked_walk c =
    record {
      counts = [];
      sums = record {
        form = c.form;
        universe = c.universe;
        kind = c.kind;
        low = c.low;
        high = c.high;
        n_max = c.n_max;
        given = [];
        over = false;
      };
    }

abbrev pub of_labelled_walk : labelled.WalkCalls → AskedWalk
of_labelled_walk w = record { counts = w.counts; sums = of_labelled w.sums }

abbrev pub of_unlabelled_walk : Form → unlabelled.Walk → AskedWalk
of_unlabelled_walk f w = record { counts = w.comp; sums = of_unlabelled f w.calls }

-- the table is for the same collections as the walk, has answered for the walk's next size and none
-- larger, and both go on from the calls before
pub record GoesWithAs (c : Asked) (w : AskedWalk) (comp body : List ℕ) (here : ℕ) : Type 0 where
  pub form : c.form ≡ w.sums.form
  pub kind : c.kind ≡ w.sums.kind
  pub low : c.low ≡ w.sums.low
  pub high : c.high ≡ w.sums.high
  pub n_max : c.n_max ≡ w.sums.n_max
  pub going : c.over ≡ false
  pub counted : length c.given ≡ suc (length body)
  pub given : comp ≡ take (length body) c.given
  pub small : (m : ℕ) → slice_index comp m ≤ MAX
  pub agree : (m : ℕ) → suc m < length comp → slice_index comp m ≡ slice_index w.counts m
  pub last_agrees : c.form ≡ of_chain → (m : ℕ) → suc m ≡ length comp → IsWithin c.low c.high 1
      → slice_index comp m ≡ slice_index w.counts m
  pub next : GoesOnAs w.sums body here
  pub idle : (m : ℕ) → slice_index c.given m ≡ 0 → numbers body here m ≡ 0

-- the sum of the charges over all collections of the next size
abbrev pub total_asked : Asked → List ℕ → ℕ → ℕ
total_asked c body here =
    coll_total c.universe c.kind (slice_index c.given) (numbers body here) c.low c.high
    (length body)

-- the walk has been given numbers of components as far as it keeps them: a chain's walk keeps those
-- of the size at hand as well
pub record KeepsCounts (c : Asked) (comp counts : List ℕ) : Type 0 where
  pub below : (m : ℕ) → m < length comp → slice_index counts m ≡ slice_index comp m
  pub last : c.form ≡ of_chain
      → slice_index counts (length comp) ≡ slice_index c.given (length comp)
