-- A scope put behind others.
use Rattle.std.proofs.Common.{◌≡◌, ◌⊎◌, inl, inr, ⊎_elim, min, get_or, ℕ, zero, suc, ◌+◌, ◌≤◌, ◌<◌, List, [], ◌∷◌, ◌++◌, length, map, slice_index, refl, sym, ◌∙◌, ap, subst, arith, None, Option, append_assoc}
use Rattle.std.proofs.lemmas.List.{append-nil}
use Rattle.luo_model.specs.declared.body.Bind.{Bind}
use Rattle.luo_model.specs.declared.body.Bind.TheVariants.{Nothing, Whole, Parts}
use Rattle.luo_model.specs.declared.body.Body.{Body}
use Rattle.luo_model.specs.declared.body.Item.{Item}
use Rattle.luo_model.specs.declared.program.Part.{Part}
use Rattle.luo_model.specs.declared.program.Shape.{Shape}
use Rattle.luo_model.specs.declared.program.Shape.TheVariants as shape
use Rattle.luo_model.specs.Program.{Program, Items, shape_of}
use Rattle.luo_model.specs.Scopes.Stands.{factors}
use Rattle.luo_model.specs.Lists.{arm_list}
use Rattle.luo_model.specs.declared.body.Arm.{Arm}
use Rattle.luo_model.specs.View.{body_of, item_list}
use Rattle.luo_engine.specs.declared.points.Link.{Link}
use Rattle.luo_engine.specs.declared.tasks.Scope.{Scope}
use Rattle.luo_recipes.specs.Tasks.{FactorSites, sites_on, factors_from, scope_of, scopes_of}
use Rattle.luo_recipes.specs.Tasks as plain
use Rattle.luo_engine.specs.inner.Laying.{links_from, rows_of_scope, rows_of_scopes, placed_scope, placed_scopes, product_parts, IsPushed, ArePushed}

same_scope : (own y start arity : ℕ) (sites : List ℕ) (a b c d : ℕ) (l : List ℕ) → own ≡ a → y ≡ b → sites ≡ l → start ≡ c → arity ≡ d
    → ◌≡◌ {A = Scope} (record { own = own; node = y; sites = sites; start = start; arity = arity }) (record { own = a; node = b; sites = l; start = c; arity = d })
same_scope own y start arity sites a b c d l e f g h i = λ t. record { own = e t; node = f t; sites = g t; start = h t; arity = i t }

pushed : (starts : List ℕ) (old mid new : List (Option Link)) (S : plain.Scope) (own y start arity : ℕ) (sites : List ℕ) → own ≡ S.own → y ≡ S.node → sites ≡ S.sites → start ≡ length old → arity ≡ length S.parts
    → mid ≡ old ++ links_from (slice_index starts S.node) S.parts → new ≡ mid ++ None ∷ [] → IsPushed starts old new (record { own = own; node = y; sites = sites; start = start; arity = arity }) S
pushed starts old mid new S own y start arity sites e f g h i m n = record {
  is = same_scope own y start arity sites S.own S.node (length old) (length S.parts) S.sites e f g h i;
  rows = n ∙ ap (λ l. l ++ None ∷ []) m ∙ append_assoc old (links_from (slice_index starts S.node) S.parts) (None ∷ []);
}

factors_length : (is : Items) (j : ℕ) (ys : List Part) → length (factors_from is j ys) ≡ length ys
factors_length is j [] = refl
factors_length is j (y ∷ ys) = omega (arith, factors_length is (suc j) ys)

factors_are : (s : Shape) → factors s ≡ product_parts s
factors_are (shape.Atom w) = refl
factors_are (shape.Union parts) = refl
factors_are (shape.Product parts) = refl
factors_are (shape.Coll kind part low high) = refl

module _ (p : Program) (starts : List ℕ) (old mid new : List (Option Link)) (y start arity : ℕ) (bind : Bind) (body : Body) (sites : List ℕ) (begins : start ≡ length old) (last : new ≡ mid ++ None ∷ []) where
  abbrev pub Goal : Type 0
  Goal = IsPushed starts old new (record { own = body.own; node = y; sites = sites; start = start; arity = arity }) (scope_of p y bind (body_of body))

  pub push_nothing : bind ≡ Nothing → sites ≡ [] → arity ≡ 0 → mid ≡ old → Goal
  push_nothing b s a m =
      subst (λ (z : Bind). IsPushed starts old new (record { own = body.own; node = y; sites = sites; start = start; arity = arity }) (scope_of p y z (body_of body))) (sym b)
      (pushed starts old mid new (scope_of p y Nothing (body_of body)) body.own y start arity sites refl refl s begins a (m ∙ sym (append-nil old)) last)

  pub push_whole : (items : List Item) → bind ≡ Whole → sites ≡ sites_on 0 (item_list items) → items ≡ body.items → arity ≡ 0 → mid ≡ old → Goal
  push_whole items b s i a m =
      subst (λ (z : Bind). IsPushed starts old new (record { own = body.own; node = y; sites = sites; start = start; arity = arity }) (scope_of p y z (body_of body))) (sym b)
      (pushed starts old mid new (scope_of p y Whole (body_of body)) body.own y start arity sites refl refl (s ∙ ap (λ (l : List Item). sites_on 0 (item_list l)) i) begins a (m ∙ sym (append-nil old)) last)

  -- the parts of a product are bound
  push_bound : (k : ℕ) (parts : List Part) → bind ≡ Parts k → sites ≡ [] → parts ≡ product_parts (shape_of p y) → arity ≡ length parts
      → mid ≡ old ++ links_from (slice_index starts y) (factors_from (item_list body.items) 0 parts) → Goal
  push_bound k parts b s e a m =
      let same : parts ≡ factors (shape_of p y) = e ∙ sym (factors_are (shape_of p y)) in
      subst (λ (z : Bind). IsPushed starts old new (record { own = body.own; node = y; sites = sites; start = start; arity = arity }) (scope_of p y z (body_of body))) (sym b)
      (pushed starts old mid new (scope_of p y (Parts k) (body_of body)) body.own y start arity sites refl refl s begins
      (a ∙ ap length same ∙ sym (factors_length (item_list body.items) 0 (factors (shape_of p y))))
      (m ∙ ap (λ (ys : List Part). old ++ links_from (slice_index starts y) (factors_from (item_list body.items) 0 ys)) same) last)

  pub push_some : (k : ℕ) (parts : List Part) (items : List Item) (from : ℕ) → bind ≡ Parts k → sites ≡ [] → parts ≡ product_parts (shape_of p y) → items ≡ body.items → from ≡ slice_index starts y → arity ≡ length parts
      → mid ≡ old ++ links_from from (factors_from (item_list items) 0 parts) → Goal
  push_some k parts items from b s e i f a m =
      push_bound k parts b s e a
      (m ∙ ap (λ n. old ++ links_from n (factors_from (item_list items) 0 parts)) f
      ∙ ap (λ (l : List Item). old ++ links_from (slice_index starts y) (factors_from (item_list l) 0 parts)) i)

  pub push_none : (k : ℕ) (parts : List Part) → bind ≡ Parts k → sites ≡ [] → parts ≡ product_parts (shape_of p y) → arity ≡ length parts → length parts ≤ 0 → mid ≡ old → Goal
  push_none k [] b s e a z m = push_bound k [] b s e a (m ∙ sym (append-nil old))
  push_none k (part ∷ parts) b s e a z m = absurd (omega (arith, z))

-- ---- scopes one behind another

rows_both : (starts : List ℕ) (Ss Rs : List plain.Scope) → rows_of_scopes starts (Ss ++ Rs) ≡ rows_of_scopes starts Ss ++ rows_of_scopes starts Rs
rows_both starts [] Rs = refl
rows_both starts (S ∷ Ss) Rs = ap (λ l. rows_of_scope starts S ++ l) (rows_both starts Ss Rs) ∙ sym (append_assoc (rows_of_scope starts S) (rows_of_scopes starts Ss) (rows_of_scopes starts Rs))

placed_both : (starts : List ℕ) (links : List (Option Link)) (Ss Rs : List plain.Scope) → placed_scopes starts links (Ss ++ Rs) ≡ placed_scopes starts links Ss ++ placed_scopes starts (links ++ rows_of_scopes starts Ss) Rs
placed_both starts links [] Rs = ap (λ (l : List (Option Link)). placed_scopes starts l Rs) (sym (append-nil links))
placed_both starts links (S ∷ Ss) Rs =
    ap (λ l. placed_scope (length links) S ∷ l)
    (placed_both starts (links ++ rows_of_scope starts S) Ss Rs
    ∙ ap (λ (l : List (Option Link)). placed_scopes starts (links ++ rows_of_scope starts S) Ss ++ placed_scopes starts l Rs) (append_assoc links (rows_of_scope starts S) (rows_of_scopes starts Ss)))

-- the scopes of the first arms on the first branches
abbrev pub first_scopes : Program → List Arm → List Part → ℕ → List plain.Scope
first_scopes p arms parts zero = []
first_scopes p (a ∷ arms) (part ∷ parts) (suc k) = scope_of p part.node a.bind (body_of a.body) ∷ first_scopes p arms parts k
first_scopes p _ _ (suc k) = []

abbrev pub PushedSoFar : Program → List ℕ → List (Option Link) → List (Option Link) → List Scope → List Arm → List Part → ℕ → Type 0
PushedSoFar p starts old now scopes arms parts b = ArePushed starts old now scopes (first_scopes p arms parts b)

-- one more at the end
first_more : (p : Program) (arms : List Arm) (parts : List Part) (b : ℕ) (da : Arm) (dp : Part) → b < length arms → b < length parts
    → first_scopes p arms parts (suc b) ≡ first_scopes p arms parts b ++ scope_of p (get_or parts b dp).node (get_or arms b da).bind (body_of (get_or arms b da).body) ∷ []
first_more p [] parts b da dp h g = absurd (omega arith)
first_more p (a ∷ arms) [] b da dp h g = absurd (omega arith)
first_more p (a ∷ arms) (part ∷ parts) zero da dp h g = none_first (scope_of p part.node a.bind (body_of a.body)) arms parts
  where
    none_first : (S : plain.Scope) (arms : List Arm) (parts : List Part) → S ∷ first_scopes p arms parts 0 ≡ S ∷ []
    none_first S arms parts = refl
first_more p (a ∷ arms) (part ∷ parts) (suc b) da dp h g = ap (λ l. scope_of p part.node a.bind (body_of a.body) ∷ l) (first_more p arms parts b da dp (omega arith) (omega arith))

pub pushed_more : (p : Program) (starts : List ℕ) (old mid new : List (Option Link)) (zs more : List Scope) (Z : Scope) (Ss : List plain.Scope) (S : plain.Scope) → ArePushed starts old mid zs Ss → IsPushed starts mid new Z S → more ≡ zs ++ Z ∷ [] → ArePushed starts old new more (Ss ++ S ∷ [])
pushed_more p starts old mid new zs more Z Ss S a s e = record {
  are = e ∙ ap (λ l. l ++ Z ∷ []) a.are ∙ ap (λ z. placed_scopes starts old Ss ++ z ∷ []) (s.is ∙ ap (λ (l : List (Option Link)). placed_scope (length l) S) a.rows) ∙ sym (placed_both starts old Ss (S ∷ []));
  rows = s.rows ∙ ap (λ l. l ++ rows_of_scope starts S) a.rows ∙ append_assoc old (rows_of_scopes starts Ss) (rows_of_scope starts S)
      ∙ ap (λ l. old ++ (rows_of_scopes starts Ss ++ l)) (sym (append-nil (rows_of_scope starts S))) ∙ ap (λ l. old ++ l) (sym (rows_both starts Ss (S ∷ [])));
}

pub union_more : (p : Program) (starts : List ℕ) (old mid new : List (Option Link)) (zs more : List Scope) (Z : Scope) (arms : List Arm) (parts : List Part) (b : ℕ) (arm : Arm) (dp : Part) → arm ≡ get_or arms b arm → b < length arms → b < length parts
    → PushedSoFar p starts old mid zs arms parts b → IsPushed starts mid new Z (scope_of p (get_or parts b dp).node arm.bind (body_of arm.body)) → more ≡ zs ++ Z ∷ [] → PushedSoFar p starts old new more arms parts (b + 1)
union_more p starts old mid new zs more Z arms parts b arm dp at h g a s e =
    let s2 : IsPushed starts mid new Z (scope_of p (get_or parts b dp).node (get_or arms b arm).bind (body_of (get_or arms b arm).body)) = subst (λ (x : Arm). IsPushed starts mid new Z (scope_of p (get_or parts b dp).node x.bind (body_of x.body))) at s in
    subst (ArePushed starts old new more) (sym (first_more p arms parts b arm dp h g) ∙ ap (first_scopes p arms parts) (one_more b)) (pushed_more p starts old mid new zs more Z (first_scopes p arms parts b) (scope_of p (get_or parts b dp).node (get_or arms b arm).bind (body_of (get_or arms b arm).body)) a s2 e)
  where
    one_more : (b : ℕ) → suc b ≡ b + 1
    one_more b = omega arith

all_scopes : (p : Program) (arms : List Arm) (parts : List Part) (b : ℕ) → length arms ≤ b ⊎ length parts ≤ b → first_scopes p arms parts b ≡ scopes_of p (map (λ (part : Part). part.node) parts) (arm_list arms)
all_scopes p arms [] zero h = refl
all_scopes p arms [] (suc b) h = none_here arms
  where
    none_here : (arms : List Arm) → first_scopes p arms [] (suc b) ≡ []
    none_here [] = refl
    none_here (a ∷ arms) = refl
all_scopes p [] (part ∷ parts) zero h = refl
all_scopes p [] (part ∷ parts) (suc b) h = refl
all_scopes p (a ∷ arms) (part ∷ parts) zero h = ⊎_elim (λ g. absurd (omega (arith, g))) (λ g. absurd (omega (arith, g))) h
all_scopes p (a ∷ arms) (part ∷ parts) (suc b) h = ap (λ l. scope_of p part.node a.bind (body_of a.body) ∷ l) (all_scopes p arms parts b (⊎_elim (λ g. inl (omega (arith, g))) (λ g. inr (omega (arith, g))) h))

at_end : (a b c k : ℕ) → c ≡ min a b → c ≤ k → b ≤ k ⊎ a ≤ k
at_end a b c k e h = grind arith

pub union_end : (p : Program) (starts : List ℕ) (old now : List (Option Link)) (zs : List Scope) (arms : List Arm) (parts : List Part) (width b : ℕ) → width ≡ min (length parts) (length arms) → width ≤ b → PushedSoFar p starts old now zs arms parts b
    → ArePushed starts old now zs (scopes_of p (map (λ (part : Part). part.node) parts) (arm_list arms))
union_end p starts old now zs arms parts width b w h a = subst (ArePushed starts old now zs) (all_scopes p arms parts b (at_end (length parts) (length arms) width b w h)) a

pub none_pushed : (p : Program) (starts : List ℕ) (links now : List (Option Link)) (zs : List Scope) (arms : List Arm) (parts : List Part) → now ≡ links → zs ≡ [] → PushedSoFar p starts links now zs arms parts 0
none_pushed p starts links now zs arms parts e z = record { are = z; rows = e ∙ sym (append-nil links) }

pub one_pushed : (p : Program) (starts : List ℕ) (old new : List (Option Link)) (zs more : List Scope) (Z : Scope) (S : plain.Scope) → zs ≡ [] → more ≡ zs ++ Z ∷ [] → IsPushed starts old new Z S → ArePushed starts old new more (S ∷ [])
one_pushed p starts old new zs more Z S z e s = record {
  are = e ∙ ap (λ l. l ++ Z ∷ []) z ∙ ap (λ y. y ∷ []) s.is;
  rows = s.rows ∙ ap (λ l. old ++ l) (sym (append-nil (rows_of_scope starts S)));
}
