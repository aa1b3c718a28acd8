-- From one call to the next, over rows by size alone.
use Rattle.std.proofs.Common.{◌≡◌, ℕ, zero, suc, ◌+◌, ◌*◌, ◌-◌, ◌≤◌, ◌<◌, List, ◌∷◌, ◌++◌, [], Option, None, length, take, slice_index, refl, sym, ◌∙◌, ap, subst, arith}
use Rattle.std.proofs.lemmas.List.{get_or-take}
use Rattle.luo_num.specs.Mark.{capped}
use Rattle.luo_num.specs.declared.TheConstants.{MAX}
use Rattle.luo_model.specs.declared.program.Universe.TheVariants.{Unlabelled}
use Rattle.luo_model.specs.declared.program.Kind.{Kind}
use Rattle.luo_model.specs.Member.{IsWithin}
use Rattle.luo_counting.specs.Numbers.{chosen, coll_count, coll_total}
use Rattle.luo_unlabelled.specs.Calls.{Calls, IsOfParts, numbers, total_of}
use Rattle.luo_unlabelled.specs.inner.Planes.{AreWays}
use Rattle.luo_unlabelled.specs.inner.Sizes.{sized, sized_totals, from_cells, HoldsSizes, count_any, IsUnbounded, IsUnboundedWalk}
use Rattle.luo_unlabelled.proofs.CallLemmas.{number_below, number_here, starts, none_empty}
use Rattle.luo_unlabelled.proofs.PartCalls.{kept_first}
use Rattle.luo_unlabelled.proofs.WalkCalls.{calls_by, below_at}
use Rattle.luo_unlabelled.proofs.SizeSteps.{stepped-marked}
use Rattle.luo_unlabelled.proofs.SizeNumbers.{sized-same, totals-same, number_by_row, total_by_row}

-- one component is not within the bounds where two are the least
pub two_alone : (t : Calls) (low here : ℕ) → None ≡ t.high → low ≡ t.low → ((IsWithin t.low t.high 1 → ⊥) → here ≡ 0) → low ≡ 2 → here ≡ 0
two_alone t low here eh el h q = h (λ w. past (subst (λ (x : Option ℕ). IsWithin t.low x 1) (sym eh) w))
  where
    past : t.low ≤ 1 → ⊥
    past l = omega (arith, l, el, q)

-- the row holds of the numbers now what it held of those before
pub row_next : (kind : Kind) (old new below cells : List ℕ) (here wide : ℕ) → ((m : ℕ) → suc m < length below → slice_index below m ≡ slice_index old m) → take (length below + 1) new ≡ below ++ here ∷ [] → slice_index old 0 ≡ 0 → slice_index new 0 ≡ 0
    → HoldsSizes wide (sized kind (slice_index old) (length below - 3)) cells → HoldsSizes wide (sized kind (slice_index new) (length below - 3)) cells
row_next kind old new below cells here wide f e z y h m hm =
    h m hm ∙ ap capped (sized-same kind (slice_index old) (slice_index new) (length below - 3) m (λ i l. kept_first old new below here (length below - 3) i f e z y refl l))

-- the answer for the empty collection, and for one component alone
pub number_first : (kind : Kind) (a : ℕ → ℕ) (low n r : ℕ) → IsOfParts kind → low ≤ 2 → (low ≡ 2 → a n ≡ 0) → n ≡ 0 → r ≡ 1 - low → r ≡ capped (coll_count Unlabelled kind a low None n)
number_first kind a low n r p l z e q =
    q ∙ (let t : 1 - low ≡ capped (count_any low kind a (a 0) 0) = omega arith in t) ∙ ap capped (sym (number_by_row kind a low 0 p l (λ t. ap a (sym e) ∙ z t))) ∙ ap (λ x. capped (coll_count Unlabelled kind a low None x)) (sym e)

pub number_second : (kind : Kind) (a : ℕ → ℕ) (low n r : ℕ) → IsOfParts kind → low ≤ 2 → (low ≡ 2 → a n ≡ 0) → n ≡ 1 → a n ≤ MAX → r ≡ a 1 → r ≡ capped (coll_count Unlabelled kind a low None n)
number_second kind a low n r p l z e b q =
    q ∙ (let t : a 1 ≡ capped (0 + a 1) = omega (arith, b, ap a e) in t) ∙ ap capped (sym (number_by_row kind a low 1 p l (λ t. ap a (sym e) ∙ z t))) ∙ ap (λ x. capped (coll_count Unlabelled kind a low None x)) (sym e)

-- and from a row
pub number_later : (kind : Kind) (a : ℕ → ℕ) (ways cells : List ℕ) (low n wide t r here : ℕ) → IsOfParts kind → low ≤ 2 → (low ≡ 2 → a n ≡ 0) → 2 ≤ n → n < wide → AreWays kind (a (n - 1)) (n - 1) wide ways → HoldsSizes wide (sized kind a (n - 2)) cells → here ≡ a n → t ≡ capped (from_cells ways cells (n - 1) n) → r ≡ capped (t + here)
    → r ≡ capped (coll_count Unlabelled kind a low None n)
number_later kind a ways cells low zero wide t r here p l z two hn w h eh et er = absurd (omega (arith, two))
number_later kind a ways cells low (suc zero) wide t r here p l z two hn w h eh et er = absurd (omega (arith, two))
number_later kind a ways cells low (suc (suc n)) wide t r here p l z two hn w h eh et er =
    let d : suc (suc n) - 1 ≡ suc n = omega arith in
    let s : capped (from_cells ways cells (suc n) (suc (suc n))) ≡ capped (sized kind a (suc n) (suc (suc n))) =
    stepped-marked (slice_index ways) (chosen kind (a (suc n))) (slice_index cells) (sized kind a n) (suc n) (suc (suc n)) (λ j b. subst (λ x. AreWays kind (a x) x wide ways) d w j (omega (arith, b, hn))) (λ x b. h x (omega (arith, b, hn)) ∙ ap (λ y. capped (sized kind a y x)) (let q : suc (suc n) - 2 ≡ n = omega arith in q)) in
    let u : t ≡ capped (sized kind a (suc n) (suc (suc n))) = et ∙ ap (λ x. capped (from_cells ways cells x (suc (suc n)))) d ∙ s in
    joined t here (sized kind a (suc n) (suc (suc n))) (a (suc (suc n))) r u eh er ∙ ap capped (sym (number_by_row kind a low (suc (suc n)) p l z))
  where
    joined : (x y s o r : ℕ) → x ≡ capped s → y ≡ o → r ≡ capped (x + y) → r ≡ capped (s + o)
    joined x y s o r e f q = omega (arith, e, f, q)

-- a table's ways and row serve a walk that was given the same numbers
pub ways_serve_row : (kind kind' : Kind) (low n_max calls n wide : ℕ) (kept ways cells given comp row : List ℕ) → IsUnbounded kind low n_max calls kept ways cells → kind ≡ kind' → wide ≡ n_max + 1 → take calls kept ≡ given → length given ≡ suc n → comp ≡ take n given → row ≡ ways → 2 ≤ n
    → AreWays kind' (slice_index comp (n - 1)) (n - 1) wide row
ways_serve_row kind kind' low n_max calls n wide kept ways cells given comp row p ek ew eg l ec er two j b =
    let c : calls ≡ suc n = calls_by calls n_max n kept given eg l p.reached p.sizes in
    let d : calls - 2 ≡ n - 1 = omega (arith, c) in
    ap (λ (g : List ℕ). slice_index g j) er ∙ p.known (omega (arith, c, two)) j (omega (arith, b, ew, ap (λ x. j * x) d)) ∙ ap (λ x. capped (chosen kind (slice_index kept x) j)) d
    ∙ ap (λ x. capped (chosen kind x j)) (below_at calls n (n - 1) kept given comp eg l ec (omega (arith, two))) ∙ ap (λ (x : Kind). capped (chosen x (slice_index comp (n - 1)) j)) ek

pub row_serves : (kind kind' : Kind) (low n_max calls n wide : ℕ) (kept ways cells given comp row : List ℕ) → IsUnbounded kind low n_max calls kept ways cells → kind ≡ kind' → wide ≡ n_max + 1 → take calls kept ≡ given → length given ≡ suc n → comp ≡ take n given → row ≡ cells
    → HoldsSizes wide (sized kind' (slice_index comp) (n - 2)) row
row_serves kind kind' low n_max calls n wide kept ways cells given comp row p ek ew eg l ec er m hm =
    let c : calls ≡ suc n = calls_by calls n_max n kept given eg l p.reached p.sizes in
    ap (λ (g : List ℕ). slice_index g m) er ∙ p.holds m (omega (arith, hm, ew)) ∙ ap (λ x. capped (sized kind (slice_index kept) x m)) (let q : calls - 3 ≡ n - 2 = omega (arith, c) in q) ∙ ap capped (sized-same kind (slice_index kept) (slice_index comp) (n - 2) m each)
    ∙ ap (λ (x : Kind). capped (sized x (slice_index comp) (n - 2) m)) ek
  where
    each : (i : ℕ) → i ≤ n - 2 → slice_index kept i ≡ slice_index comp i
    each zero b = p.none_empty ∙ sym (starts n kept given comp calls p.none_empty eg l ec)
    each (suc i) b = below_at calls n (suc i) kept given comp eg l ec (omega (arith, b))

pub totals_held : (kind : Kind) (a b c d : ℕ → ℕ) (cells : List ℕ) (wide e f : ℕ) → e ≡ f → ((i : ℕ) → i ≤ e → a i ≡ c i) → ((i : ℕ) → i ≤ e → b i ≡ d i) → HoldsSizes wide (sized_totals kind a b e) cells → HoldsSizes wide (sized_totals kind c d f) cells
totals_held kind a b c d cells wide e f q h g t m hm = t m hm ∙ ap capped (totals-same kind a b c d e m h g) ∙ ap (λ x. capped (sized_totals kind c d x m)) q

-- the charges are those of the call's numbers
pub row_total : (t : Calls) (kind : Kind) (comp body : List ℕ) (here v : ℕ) → IsOfParts t.kind → t.low ≤ 2 → (t.low ≡ 2 → here ≡ 0) → t.high ≡ None → kind ≡ t.kind → length t.given ≡ suc (length body) → comp ≡ take (length body) t.given → slice_index t.given 0 ≡ 0 → slice_index comp 0 ≡ 0 → slice_index body 0 ≡ 0 → (length body ≡ 0 → here ≡ 0)
    → ((m : ℕ) → slice_index t.given m ≡ 0 → numbers body here m ≡ 0) → v ≡ capped (sized_totals kind (slice_index comp) (slice_index body) (length body - 1) (length body) + here) → v ≡ capped (total_of t body here)
row_total t kind comp body here v p any few eh ek l ec z y u o idle e =
    e ∙ ap (λ (x : Kind). capped (sized_totals x (slice_index comp) (slice_index body) (length body - 1) (length body) + here)) ek
    ∙ ap (λ x. capped (x + here)) (totals-same t.kind (slice_index comp) (slice_index body) (slice_index t.given) (numbers body here) (length body - 1) (length body) first second)
    ∙ ap (λ x. capped (sized_totals t.kind (slice_index t.given) (numbers body here) (length body - 1) (length body) + x)) (sym (number_here body here))
    ∙ ap capped (sym (total_by_row t.kind (slice_index t.given) (numbers body here) t.low (length body) p any (none_empty body here u o) (idle (length body)) (λ q. number_here body here ∙ few q)))
    ∙ ap (λ (x : Option ℕ). capped (coll_total Unlabelled t.kind (slice_index t.given) (numbers body here) t.low x (length body))) (sym eh)
  where
    first : (i : ℕ) → i ≤ length body - 1 → slice_index comp i ≡ slice_index t.given i
    first zero b = y ∙ sym z
    first (suc i) b = ap (λ (g : List ℕ). slice_index g (suc i)) ec ∙ get_or-take (length body) t.given (suc i) 0 (omega (arith, b))

    second : (i : ℕ) → i ≤ length body - 1 → slice_index body i ≡ numbers body here i
    second zero b = u ∙ sym (none_empty body here u o)
    second (suc i) b = sym (number_below body here (suc i) (omega (arith, b)))

-- where there are no components, nothing is charged
pub idle_below : (given comp body : List ℕ) (here : ℕ) → comp ≡ take (length body) given → ((m : ℕ) → slice_index given m ≡ 0 → numbers body here m ≡ 0) → (m : ℕ) → m < length body → slice_index comp m ≡ 0 → slice_index body m ≡ 0
idle_below given comp body here ec idle m l z = sym (number_below body here m l) ∙ idle m (sym (get_or-take (length body) given m 0 l) ∙ ap (λ (g : List ℕ). slice_index g m) (sym ec) ∙ z)

-- the table after a call
pub next_row_walk : (kind : Kind) (low n_max calls n wide : ℕ) (comp body charges cells kept sums news put ncomp nbody ncharges ncells : List ℕ) → IsUnboundedWalk kind low n_max calls comp body charges cells → calls ≡ n → n ≤ n_max
    → ncomp ≡ kept → nbody ≡ sums → ncharges ≡ news → ncells ≡ put → length kept ≡ length comp → length sums ≡ length body → length news ≡ length charges → length put ≡ length cells → slice_index kept 0 ≡ 0 → slice_index sums 0 ≡ 0
    → wide ≡ n_max + 1 → HoldsSizes wide (sized_totals kind (slice_index kept) (slice_index sums) (n + 1 - 2)) put → IsUnboundedWalk kind low n_max (calls + 1) ncomp nbody ncharges ncells
next_row_walk kind low n_max calls n wide comp body charges cells kept sums news put ncomp nbody ncharges ncells w ec r e f g h a b c d z y ew t = record {
  parts = w.parts;
  bounds = w.bounds;
  any = w.any;
  reached = omega (arith, ec, r);
  sizes = ap length e ∙ a ∙ w.sizes;
  sums = ap length f ∙ b ∙ w.sums;
  charges_long = ap length g ∙ c ∙ w.charges_long;
  row = ap length h ∙ d ∙ w.row;
  none_empty = ap (λ (l : List ℕ). slice_index l 0) e ∙ z;
  none_charged = ap (λ (l : List ℕ). slice_index l 0) f ∙ y;
  holds = λ m hm. ap (λ (l : List ℕ). slice_index l m) h ∙ t m (omega (arith, hm, ew))
      ∙ ap (λ (l : List ℕ). capped (sized_totals kind (slice_index l) (slice_index sums) (n + 1 - 2) m)) (sym e) ∙ ap (λ (l : List ℕ). capped (sized_totals kind (slice_index ncomp) (slice_index l) (n + 1 - 2) m)) (sym f)
      ∙ ap (λ x. capped (sized_totals kind (slice_index ncomp) (slice_index nbody) x m)) (let q : n + 1 - 2 ≡ calls + 1 - 2 = omega (arith, ec) in q);
}
