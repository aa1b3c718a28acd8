-- Lists of expressions of the code, as plain data.
use Rattle.std.proofs.Common.{◌≡◌, ℕ, zero, suc, ◌+◌, ◌<◌, ◌≤◌, List, [], ◌∷◌, ◌++◌, length, take, get_or, refl, sym, ap, ◌∙◌, arith, add-one, Option, Some, slice_get, Bool, true, false, ◌||◌}
use Rattle.std.proofs.lemmas.List.{take_all}
use Rattle.luo_equation.specs.declared.equation.Expr.{Expr, Sum, Prod, Coll, Point}
use Rattle.luo_equation.specs.Expr as made
use Rattle.luo_equation.specs.Expr.{Exprs, no_exprs, expr}
use Rattle.luo_equation.specs.View.{expr_of, expr_list}
use Rattle.luo_equation.proofs.ViewLemmas.{sum_view, product_view, coll_view, point_view}
use Rattle.luo_model.specs.declared.program.Kind.{Kind}
use Rattle.luo_system.specs.Plain.{join_exprs, terms_of, factors_of, opened, as_sum, sum_of, as_product, is_zero, has_zero, unless_zero, closed_product, product_of, walk_of}
use Rattle.luo_system.specs.System.{exprs_of}

pub join_list : (xs ys : List Expr) → expr_list (xs ++ ys) ≡ join_exprs (expr_list xs) (expr_list ys)
join_list [] ys = refl
join_list (x ∷ xs) ys = ap (λ l. expr (expr_of x) l) (join_list xs ys)

pub join_none : (es : Exprs) → join_exprs es no_exprs ≡ es
join_none no_exprs = refl
join_none (expr e es) = ap (λ l. expr e l) (join_none es)

pub join_assoc : (es fs gs : Exprs) → join_exprs (join_exprs es fs) gs ≡ join_exprs es (join_exprs fs gs)
join_assoc no_exprs fs gs = refl
join_assoc (expr e es) fs gs = ap (λ l. expr e l) (join_assoc es fs gs)

-- ---- one more at the end
pub pushed : (xs new : List Expr) (e : Expr) → new ≡ xs ++ e ∷ [] → expr_list new ≡ join_exprs (expr_list xs) (expr (expr_of e) no_exprs)
pushed xs new e n = ap expr_list n ∙ join_list xs (e ∷ [])

pub appended : (xs more new : List Expr) → new ≡ xs ++ more → expr_list new ≡ join_exprs (expr_list xs) (expr_list more)
appended xs more new n = ap expr_list n ∙ join_list xs more

module _ (open' : made.Expr → Exprs) (old new : List Expr) (e : Expr) where
  -- an expression that stays as it is
  pub one_put : (f : Expr) → e ≡ f → open' (expr_of f) ≡ expr (expr_of f) no_exprs → expr_list new ≡ join_exprs (expr_list old) (expr (expr_of f) no_exprs)
      → expr_list new ≡ join_exprs (expr_list old) (open' (expr_of e))
  one_put f is stays n = n ∙ ap (λ l. join_exprs (expr_list old) l) (sym stays ∙ ap (λ g. open' (expr_of g)) (sym is))

  -- one that is left out
  pub none_put : (f : Expr) → e ≡ f → open' (expr_of f) ≡ no_exprs → new ≡ old → expr_list new ≡ join_exprs (expr_list old) (open' (expr_of e))
  none_put f is goes n = ap expr_list n ∙ sym (join_none (expr_list old)) ∙ ap (λ l. join_exprs (expr_list old) l) (sym goes ∙ ap (λ g. open' (expr_of g)) (sym is))

  -- one that is opened
  pub all_put : (f : Expr) (more : List Expr) → e ≡ f → open' (expr_of f) ≡ expr_list more → expr_list new ≡ join_exprs (expr_list old) (expr_list more)
      → expr_list new ≡ join_exprs (expr_list old) (open' (expr_of e))
  all_put f more is opens n = n ∙ ap (λ l. join_exprs (expr_list old) l) (sym opens ∙ ap (λ g. open' (expr_of g)) (sym is))

pub some_term : (c : ℕ) → (c ≡ 0 → ⊥) → terms_of (made.Number c) ≡ expr (made.Number c) no_exprs
some_term zero h = absurd (h refl)
some_term (suc c) h = refl

pub some_factor : (c : ℕ) → (c ≡ 1 → ⊥) → factors_of (made.Number c) ≡ expr (made.Number c) no_exprs
some_factor zero h = refl
some_factor (suc zero) h = absurd (h refl)
some_factor (suc (suc c)) h = refl

pub no_term : (c : ℕ) → c ≡ 0 → terms_of (made.Number c) ≡ no_exprs
no_term c e = ap (λ k. terms_of (made.Number k)) e

pub no_factor : (c : ℕ) → c ≡ 1 → factors_of (made.Number c) ≡ no_exprs
no_factor c e = ap (λ k. factors_of (made.Number k)) e

-- ---- a factor 0
has_or : (b c : Bool) → b ≡ true → b || c ≡ true
has_or b c e = ap (λ d. d || c) e

pub void_at : (xs : List Expr) (i : ℕ) (x : Expr) → i < length xs → x ≡ get_or xs i x → is_zero (expr_of x) ≡ true → true ≡ has_zero (expr_list xs)
void_at [] i x h e z = absurd (omega (arith, h))
void_at (y ∷ xs) zero x h e z = sym (has_or (is_zero (expr_of y)) (has_zero (expr_list xs)) (sym (ap (λ g. is_zero (expr_of g)) e) ∙ z))
void_at (y ∷ xs) (suc i) x h e z = or_has (is_zero (expr_of y)) (has_zero (expr_list xs)) (void_at xs i x (omega (arith, h)) e z)
  where
    or_has : (b c : Bool) → true ≡ c → true ≡ b || c
    or_has true c e = refl
    or_has false c e = e

void-more : (xs : List Expr) (i : ℕ) (x : Expr) → i < length xs → x ≡ get_or xs i x → is_zero (expr_of x) ≡ false → has_zero (expr_list (take i xs)) ≡ false
    → has_zero (expr_list (take (suc i) xs)) ≡ false
void-more [] i x h e z n = refl
void-more (y ∷ xs) zero x h e z n = ap (λ d. d || false) (sym (ap (λ g. is_zero (expr_of g)) e) ∙ z)
void-more (y ∷ xs) (suc i) x h e z n =
    let both = neither (is_zero (expr_of y)) (has_zero (expr_list (take i xs))) n in
    ap (λ d. d || has_zero (expr_list (take (suc i) xs))) both.0 ∙ void-more xs i x (omega (arith, h)) e z both.1
  where
    neither : (b c : Bool) → b || c ≡ false → (b ≡ false) × (c ≡ false)
    neither true c e = absurd (cc)
    neither false c e = (refl, e)

pub void_more : (xs : List Expr) (i : ℕ) (x : Expr) → i < length xs → x ≡ get_or xs i x → is_zero (expr_of x) ≡ false → has_zero (expr_list (take i xs)) ≡ false
    → has_zero (expr_list (take (i + 1) xs)) ≡ false
void_more xs i x h e z n = rw add-one (void-more xs i x h e z n)

-- ---- a sum and a product of several
pub sum_made : (xs : List Expr) → (length xs ≡ 1 → ⊥) → (xs ≡ [] → ⊥) → expr_of (Sum xs) ≡ as_sum (expr_list xs)
sum_made [] a b = absurd (b refl)
sum_made (x ∷ []) a b = absurd (a (omega arith))
sum_made (x ∷ (y ∷ xs)) a b = sum_view (x ∷ (y ∷ xs))

pub product_made : (xs : List Expr) → has_zero (expr_list xs) ≡ false → (length xs ≡ 1 → ⊥) → (xs ≡ [] → ⊥) → expr_of (Prod xs) ≡ closed_product (expr_list xs)
product_made [] z a b = absurd (b refl)
product_made (x ∷ []) z a b = absurd (a (omega arith))
product_made (x ∷ (y ∷ xs)) z a b = product_view (x ∷ (y ∷ xs)) ∙ ap (λ d. unless_zero d (as_product (expr_list (x ∷ (y ∷ xs))))) (sym z)

pub one_sum : (xs : List Expr) (e : Expr) → length xs ≡ 1 → slice_get xs 0 ≡ Some e → expr_of e ≡ as_sum (expr_list xs)
one_sum [] e l g = absurd (omega (arith, l))
one_sum (x ∷ []) e l g = ap expr_of (sym (option_one x e g))
  where
    option_one : (x e : Expr) → Some x ≡ Some e → x ≡ e
    option_one x e h = cc
one_sum (x ∷ (y ∷ xs)) e l g = absurd (omega (arith, l))

pub one_product : (xs : List Expr) (e : Expr) → has_zero (expr_list xs) ≡ false → length xs ≡ 1 → slice_get xs 0 ≡ Some e → expr_of e ≡ closed_product (expr_list xs)
one_product [] e z l g = absurd (omega (arith, l))
one_product (x ∷ []) e z l g = ap expr_of (sym (option_one x e g)) ∙ ap (λ d. unless_zero d (expr_of x)) (sym z)
  where
    option_one : (x e : Expr) → Some x ≡ Some e → x ≡ e
    option_one x e h = cc
one_product (x ∷ (y ∷ xs)) e z l g = absurd (omega (arith, l))

pub void_product : (es : Exprs) → has_zero es ≡ true → made.Number 0 ≡ closed_product es
void_product es z = ap (λ d. unless_zero d (as_product es)) (sym z)

pub full_product : (xs : List Expr) → xs ≡ [] → made.Number 1 ≡ closed_product (expr_list xs)
full_product xs e = ap (λ l. closed_product (expr_list l)) (sym e)

-- ---- lists, element by element
pub exprs-behind : {X : Type 0} (g : X → made.Expr) (xs : List X) (x : X) → exprs_of g (xs ++ x ∷ []) ≡ join_exprs (exprs_of g xs) (expr (g x) no_exprs)
exprs-behind g [] x = refl
exprs-behind g (y ∷ xs) x = ap (λ l. expr (g y) l) (exprs-behind g xs x)

pub read_again : {X : Type 0} (xs : List X) (i : ℕ) (d : X) → i < length xs → get_or xs i d ≡ get_or xs i (get_or xs i d)
read_again [] i d h = absurd (omega (arith, h))
read_again (x ∷ xs) zero d h = refl
read_again (x ∷ xs) (suc i) d h = read_again xs i d (omega (arith, h))

exprs-take : {X : Type 0} (g : X → made.Expr) (xs : List X) (i : ℕ) (x : X) → i < length xs → x ≡ get_or xs i x
    → exprs_of g (take (suc i) xs) ≡ join_exprs (exprs_of g (take i xs)) (expr (g x) no_exprs)
exprs-take g [] i x h e = absurd (omega (arith, h))
exprs-take g (y ∷ xs) zero x h e = ap (λ z. expr (g z) no_exprs) (sym e)
exprs-take g (y ∷ xs) (suc i) x h e = ap (λ l. expr (g y) l) (exprs-take g xs i x (omega (arith, h)) e)

pub opened-join : (open' : made.Expr → Exprs) (es fs : Exprs) → opened open' (join_exprs es fs) ≡ join_exprs (opened open' es) (opened open' fs)
opened-join open' no_exprs fs = refl
opened-join open' (expr e es) fs = ap (λ l. join_exprs (open' e) l) (opened-join open' es fs) ∙ sym (join_assoc (open' e) (opened open' es) (opened open' fs))

module _ (open' : made.Expr → Exprs) where
  -- behind what is there, one more is put
  pub put_behind : (es : Exprs) (e g : made.Expr) (more old now new : Exprs) → more ≡ join_exprs es (expr g no_exprs) → e ≡ g
      → new ≡ join_exprs now (open' e) → now ≡ join_exprs old (opened open' es) → new ≡ join_exprs old (opened open' more)
  put_behind es e g more old now new m same n h =
      n ∙ ap (λ f. join_exprs now (open' f)) same ∙ ap (λ l. join_exprs l (open' g)) h ∙ join_assoc old (opened open' es) (open' g)
      ∙ ap (λ l. join_exprs old l) (ap (λ l. join_exprs (opened open' es) l) (sym (join_none (open' g))) ∙ sym (opened-join open' es (expr g no_exprs)) ∙ ap (opened open') (sym m))

  module _ {X : Type 0} (g : X → made.Expr) (xs : List X) where
    pub put_next : (i : ℕ) (x : X) (e : made.Expr) (old now new : Exprs) → i < length xs → x ≡ get_or xs i x → e ≡ g x
        → new ≡ join_exprs now (open' e) → now ≡ join_exprs old (opened open' (exprs_of g (take i xs))) → new ≡ join_exprs old (opened open' (exprs_of g (take (i + 1) xs)))
    put_next i x e old now new l at same n h = rw add-one (put_behind (exprs_of g (take i xs)) e (g x) (exprs_of g (take (suc i) xs)) old now new (exprs-take g xs i x l at) same n h)

    -- an element that was read with a default
    pub put_read : (d : X) (i : ℕ) (e : made.Expr) (old now new : Exprs) → i < length xs → e ≡ g (get_or xs i d)
        → new ≡ join_exprs now (open' e) → now ≡ join_exprs old (opened open' (exprs_of g (take i xs))) → new ≡ join_exprs old (opened open' (exprs_of g (take (i + 1) xs)))
    put_read d i e old now new l same n h = put_next i (get_or xs i d) e old now new l (read_again xs i d l) same n h

    pub put_start : (es : Exprs) → es ≡ join_exprs es (opened open' (exprs_of g (take 0 xs)))
    put_start es = sym (join_none es)

    pub put_end : (i : ℕ) (old now : Exprs) → length xs ≤ i → now ≡ join_exprs old (opened open' (exprs_of g (take i xs))) → now ≡ join_exprs old (opened open' (exprs_of g xs))
    put_end i old now l h = h ∙ ap (λ ys. join_exprs old (opened open' (exprs_of g ys))) (take_all i xs l)

-- ---- what stays as it is among terms and among factors
pub product_term : (fs : List Expr) → terms_of (expr_of (Prod fs)) ≡ expr (expr_of (Prod fs)) no_exprs
product_term fs = ap terms_of (product_view fs) ∙ ap (λ g. expr g no_exprs) (sym (product_view fs))

pub sum_factor : (es : List Expr) → factors_of (expr_of (Sum es)) ≡ expr (expr_of (Sum es)) no_exprs
sum_factor es = ap factors_of (sum_view es) ∙ ap (λ g. expr g no_exprs) (sym (sum_view es))

module _ (kind : Kind) (inner : Expr) (low : ℕ) (high : Option ℕ) where
  pub coll_term : terms_of (expr_of (Coll kind inner low high)) ≡ expr (expr_of (Coll kind inner low high)) no_exprs
  coll_term = ap terms_of (coll_view kind inner low high) ∙ ap (λ g. expr g no_exprs) (sym (coll_view kind inner low high))

  pub coll_factor : factors_of (expr_of (Coll kind inner low high)) ≡ expr (expr_of (Coll kind inner low high)) no_exprs
  coll_factor = ap factors_of (coll_view kind inner low high) ∙ ap (λ g. expr g no_exprs) (sym (coll_view kind inner low high))

  pub point_term : (body : Expr) → terms_of (expr_of (Point kind inner low high body)) ≡ expr (expr_of (Point kind inner low high body)) no_exprs
  point_term body = ap terms_of (point_view kind inner low high body) ∙ ap (λ g. expr g no_exprs) (sym (point_view kind inner low high body))

  pub point_factor : (body : Expr) → factors_of (expr_of (Point kind inner low high body)) ≡ expr (expr_of (Point kind inner low high body)) no_exprs
  point_factor body = ap factors_of (point_view kind inner low high body) ∙ ap (λ g. expr g no_exprs) (sym (point_view kind inner low high body))

-- ---- walks
module _ (kind : Kind) (inner : Expr) where
  pub no_walk : (low : ℕ) (high : Option ℕ) (marked : Expr) → is_zero (expr_of marked) ≡ true → made.Number 0 ≡ walk_of kind (expr_of inner) low high (expr_of marked)
  unfolding walk_of
  no_walk low high marked z = ap (λ b. unless_zero b (made.Point kind (expr_of inner) low high (expr_of marked))) (sym z)

  pub some_walk : (boxed : Expr) (low : ℕ) (high : Option ℕ) (marked other : Expr) → is_zero (expr_of marked) ≡ false → boxed ≡ inner → other ≡ marked
      → expr_of (Point kind boxed low high other) ≡ walk_of kind (expr_of inner) low high (expr_of marked)
  unfolding walk_of
  some_walk boxed low high marked other z b o =
      point_view kind boxed low high other ∙ ap (λ e. made.Point kind (expr_of e) low high (expr_of other)) b ∙ ap (λ e. made.Point kind (expr_of inner) low high (expr_of e)) o
      ∙ ap (λ c. unless_zero c (made.Point kind (expr_of inner) low high (expr_of marked))) (sym z)

-- ---- the ends of loops
pub sum_done : (es terms : Exprs) (e : made.Expr) → terms ≡ opened terms_of es → e ≡ as_sum terms → e ≡ sum_of es
unfolding sum_of
sum_done es terms e h n = n ∙ ap as_sum h

pub product_done : (es factors : Exprs) (e : made.Expr) → factors ≡ opened factors_of es → e ≡ closed_product factors → e ≡ product_of es
unfolding product_of
product_done es factors e h n = n ∙ ap closed_product h

pub sum_end : {X : Type 0} (g : X → made.Expr) (xs : List X) (i : ℕ) (now : Exprs) (e : made.Expr) → length xs ≤ i → now ≡ opened terms_of (exprs_of g (take i xs)) → e ≡ as_sum now
    → e ≡ sum_of (exprs_of g xs)
sum_end g xs i now e l h n = sum_done (exprs_of g xs) now e (put_end terms_of g xs i no_exprs now l h) n

pub product_end : {X : Type 0} (g : X → made.Expr) (xs : List X) (i : ℕ) (now : Exprs) (e : made.Expr) → length xs ≤ i → now ≡ opened factors_of (exprs_of g (take i xs))
    → e ≡ closed_product now → e ≡ product_of (exprs_of g xs)
product_end g xs i now e l h n = product_done (exprs_of g xs) now e (put_end factors_of g xs i no_exprs now l h) n
