-- Loops over items, arms and procedures of the code, and the levels of their sites.
use Rattle.std.proofs.Common.{◌≡◌, ℕ, ◌+◌, ◌<◌, ◌≤◌, List, [], ◌∷◌, ◌++◌, map, flat_map, max, false, true, length, drop, get_or, refl, sym, ◌∙◌, ap, append_assoc, arith}
use Rattle.std.proofs.lemmas.List.{map-append, append-nil, drop_all, drop_more}
use Rattle.luo_model.specs.declared.body.Arm.{Arm}
use Rattle.luo_model.specs.declared.body.Body.{Body}
use Rattle.luo_model.specs.declared.body.Item.{Item, Case, Forall}
use Rattle.luo_model.specs.declared.program.Proc.{Proc}
use Rattle.luo_model.specs.Program as plain
use Rattle.luo_model.specs.Charges.{Work, of_body, of_case, of_walk, works_of_item, works_of_items, works_of_arms, works_of_body, works_of_procedure, works_of}
use Rattle.luo_model.specs.Lists.{arm_list}
use Rattle.luo_model.specs.View.{Held, plain_of, procedure_of, item_of, item_list, body_of}
use Rattle.luo_model.proofs.ViewLemmas.{case_item, walk_item}
use Rattle.luo_founded.specs.inner.Wholes.{item_level, items_level, body_level, work_level, levels_of, levels_of_body}

at_element : {A : Type 0} (xs : List A) (i : ℕ) (x : A) → i < length xs → x ≡ get_or xs i x → drop i xs ≡ x ∷ drop (i + 1) xs
at_element xs i x h e = drop_more xs i x h ∙ ap (λ y. y ∷ drop (i + 1) xs) (sym e)

pub not_true : false ≡ true → ⊥
not_true e = cc

max_assoc : (a b c : ℕ) → max (max a b) c ≡ max a (max b c)
max_assoc a b c = grind arith

max_zero : (a : ℕ) → max 0 a ≡ a
max_zero a = grind arith

max_none : (a : ℕ) → max a 0 ≡ a
max_none a = grind arith

-- the greatest so far and that of what is left are the greatest of all
abbrev pub TopSoFar : List ℕ → List Item → ℕ → ℕ → Type 0
TopSoFar wholes items i most = max most (items_level wholes (item_list (drop i items))) ≡ items_level wholes (item_list items)

module _ (wholes : List ℕ) (items : List Item) where
  pub top_start : TopSoFar wholes items 0 0
  top_start = max_zero (items_level wholes (item_list items))

  pub top_next : (i : ℕ) (item : Item) (most level new : ℕ) → i < length items → item ≡ get_or items i item → level ≡ item_level wholes (item_of item) → new ≡ max most level → TopSoFar wholes items i most → TopSoFar wholes items (i + 1) new
  top_next i item most level new l at e is h =
      let rest : ℕ = items_level wholes (item_list (drop (i + 1) items)) in
      let left : items_level wholes (item_list (drop i items)) ≡ max (item_level wholes (item_of item)) rest = ap (λ xs. items_level wholes (item_list xs)) (at_element items i item l at) in
      ap (λ m. max m rest) (is ∙ ap (max most) e) ∙ max_assoc most (item_level wholes (item_of item)) rest ∙ sym (ap (max most) left) ∙ h

  pub top_end : (i most : ℕ) → length items ≤ i → TopSoFar wholes items i most → most ≡ items_level wholes (item_list items)
  top_end i most l h = sym (max_none most) ∙ sym (ap (λ xs. max most (items_level wholes (item_list xs))) (drop_all i items l)) ∙ h

pub level_of_none : (wholes : List ℕ) (body : Body) → body.items ≡ [] → 0 ≡ body_level wholes (body_of body)
level_of_none wholes body e = sym (ap (λ is. body_level wholes (plain.Does body.own (item_list is))) e)

pub level_of_some : (wholes : List ℕ) (body : Body) (items : List Item) (n : ℕ) → items ≡ body.items → (body.items ≡ [] → ⊥) → n ≡ items_level wholes (item_list items) → n + 1 ≡ body_level wholes (body_of body)
level_of_some wholes body [] n e h is = absurd (h (sym e))
level_of_some wholes body (i ∷ items) n e h is = omega (arith, is, ap (λ is. body_level wholes (plain.Does body.own (item_list is))) e)

-- what was there, with what is left to be put behind it, is all behind what was there at first
abbrev pub PutSoFar : {A : Type 0} → (A → List ℕ) → List A → ℕ → List ℕ → List ℕ → Type 0
PutSoFar f xs i old now = now ++ flat_map f (drop i xs) ≡ old ++ flat_map f xs

module _ {A : Type 0} (f : A → List ℕ) (xs : List A) (old : List ℕ) where
  put_next : (i : ℕ) (x : A) (now new : List ℕ) → i < length xs → x ≡ get_or xs i x → new ≡ now ++ f x → PutSoFar f xs i old now → PutSoFar f xs (i + 1) old new
  put_next i x now new l at is h =
      ap (λ ys. ys ++ flat_map f (drop (i + 1) xs)) is ∙ append_assoc now (f x) (flat_map f (drop (i + 1) xs)) ∙ sym (ap (λ ys. now ++ flat_map f ys) (at_element xs i x l at)) ∙ h

  put_end : (i : ℕ) (now : List ℕ) → length xs ≤ i → PutSoFar f xs i old now → now ≡ old ++ flat_map f xs
  put_end i now l h = sym (append-nil now) ∙ sym (ap (λ ys. now ++ flat_map f ys) (drop_all i xs l)) ∙ h

module _ (wholes : List ℕ) where
  -- what an item, an arm and a procedure put
  abbrev pub of_item : Item → List ℕ
  of_item item = levels_of wholes (works_of_item (item_of item))

  abbrev pub of_arm : Arm → List ℕ
  of_arm arm = levels_of wholes (works_of_body (body_of arm.body))

  abbrev pub of_procedure : Proc → List ℕ
  of_procedure P = levels_of_body wholes (body_of P.body)

  both : (xs ys : List (ℕ × Work)) → levels_of wholes (xs ++ ys) ≡ levels_of wholes xs ++ levels_of wholes ys
  both xs ys = map-append (λ (w : ℕ × Work). work_level wholes w.1) xs ys

  items_put : (items : List Item) → flat_map of_item items ≡ levels_of wholes (works_of_items (item_list items))
  items_put [] = refl
  items_put (i ∷ items) = ap (λ l. of_item i ++ l) (items_put items) ∙ sym (both (works_of_item (item_of i)) (works_of_items (item_list items)))

  arms_put : (arms : List Arm) → flat_map of_arm arms ≡ levels_of wholes (works_of_arms (arm_list arms))
  arms_put [] = refl
  arms_put (a ∷ arms) = ap (λ l. of_arm a ++ l) (arms_put arms) ∙ sym (both (works_of_body (body_of a.body)) (works_of_arms (arm_list arms)))

  procs_put : (procs : List Proc) → flat_map of_procedure procs ≡ levels_of wholes (flat_map works_of_procedure (map procedure_of procs))
  procs_put [] = refl
  procs_put (P ∷ procs) =
      ap (λ l. of_procedure P ++ l) (procs_put procs)
      ∙ ap (λ l. l ++ levels_of wholes (flat_map works_of_procedure (map procedure_of procs))) (sym (both (works_of_body (body_of P.body)) ((P.site, of_body (body_of P.body)) ∷ [])))
      ∙ sym (both (works_of_procedure (procedure_of P)) (flat_map works_of_procedure (map procedure_of procs)))

  -- the loops
  pub items_next : (items : List Item) (old : List ℕ) (i : ℕ) (item : Item) (now new : List ℕ) → i < length items → item ≡ get_or items i item → new ≡ now ++ of_item item → PutSoFar of_item items i old now → PutSoFar of_item items (i + 1) old new
  items_next items old = put_next of_item items old

  pub items_end : (items : List Item) (old : List ℕ) (i : ℕ) (now : List ℕ) → length items ≤ i → PutSoFar of_item items i old now → now ≡ old ++ levels_of wholes (works_of_items (item_list items))
  items_end items old i now l h = put_end of_item items old i now l h ∙ ap (λ ys. old ++ ys) (items_put items)

  pub arms_next : (arms : List Arm) (old : List ℕ) (i : ℕ) (arm : Arm) (items : List Item) (now new : List ℕ) → i < length arms → arm ≡ get_or arms i arm → items ≡ arm.body.items → new ≡ now ++ levels_of wholes (works_of_items (item_list items))
      → PutSoFar of_arm arms i old now → PutSoFar of_arm arms (i + 1) old new
  arms_next arms old i arm items now new l at e is h = put_next of_arm arms old i arm now new l at (is ∙ ap (λ is. now ++ levels_of wholes (works_of_items (item_list is))) e) h

  pub arms_end : (arms : List Arm) (old : List ℕ) (i : ℕ) (now : List ℕ) → length arms ≤ i → PutSoFar of_arm arms i old now → now ≡ old ++ levels_of wholes (works_of_arms (arm_list arms))
  arms_end arms old i now l h = put_end of_arm arms old i now l h ∙ ap (λ ys. old ++ ys) (arms_put arms)

  pub procs_next : (procs : List Proc) (i : ℕ) (P : Proc) (now new : List ℕ) → i < length procs → P ≡ get_or procs i P → new ≡ now ++ of_procedure P → PutSoFar of_procedure procs i [] now → PutSoFar of_procedure procs (i + 1) [] new
  procs_next procs = put_next of_procedure procs []

  pub procs_end : (p : Held) (procs : List Proc) (i : ℕ) (now : List ℕ) → procs ≡ p.procs → length procs ≤ i → PutSoFar of_procedure procs i [] now → now ≡ levels_of wholes (works_of (plain_of p))
  procs_end p procs i now e l h = put_end of_procedure procs [] i now l h ∙ ap (flat_map of_procedure) e ∙ procs_put p.procs

  -- a body, a case and a walk
  pub body_put : (body : Body) (items : List Item) (old mid new : List ℕ) (level : ℕ) → items ≡ body.items → mid ≡ old ++ levels_of wholes (works_of_items (item_list items)) → level ≡ body_level wholes (body_of body) → new ≡ mid ++ level ∷ []
      → new ≡ old ++ levels_of_body wholes (body_of body)
  body_put body items old mid new level e m v n =
      n ∙ ap (λ k. mid ++ k ∷ []) v ∙ ap (λ l. l ++ body_level wholes (body_of body) ∷ []) (m ∙ ap (λ is. old ++ levels_of wholes (works_of_items (item_list is))) e)
      ∙ append_assoc old (levels_of wholes (works_of_body (body_of body))) (body_level wholes (body_of body) ∷ [])

  pub case_put : (item : Item) (var : ℕ) (arms slice : List Arm) (site : ℕ) (old mid new : List ℕ) → item ≡ Case var arms site → slice ≡ arms → mid ≡ old ++ levels_of wholes (works_of_arms (arm_list slice)) → new ≡ mid ++ 0 ∷ []
      → new ≡ old ++ levels_of wholes (works_of_item (item_of item))
  case_put item var arms slice site old mid new e s m n =
      n ∙ ap (λ l. l ++ 0 ∷ []) (m ∙ ap (λ rest. old ++ levels_of wholes (works_of_arms (arm_list rest))) s)
      ∙ append_assoc old (levels_of wholes (works_of_arms (arm_list arms))) (0 ∷ [])
      ∙ ap (λ l. old ++ l) (sym (both (works_of_arms (arm_list arms)) ((site, of_case (arm_list arms)) ∷ [])) ∙ sym (ap (λ i. levels_of wholes (works_of_item i)) (ap item_of e ∙ case_item var arms site)))

  pub walk_put : (item : Item) (var : ℕ) (body : Body) (body_site site : ℕ) (old mid new : List ℕ) → item ≡ Forall var body body_site site → mid ≡ old ++ levels_of_body wholes (body_of body) → new ≡ mid ++ 0 ∷ []
      → new ≡ old ++ levels_of wholes (works_of_item (item_of item))
  walk_put item var body body_site site old mid new e m n =
      n ∙ ap (λ l. l ++ 0 ∷ []) m
      ∙ append_assoc old (levels_of_body wholes (body_of body)) (0 ∷ [])
      ∙ ap (λ l. old ++ l)
      (append_assoc (levels_of wholes (works_of_body (body_of body))) (body_level wholes (body_of body) ∷ []) (0 ∷ [])
      ∙ sym (both (works_of_body (body_of body)) ((body_site, of_body (body_of body)) ∷ ((site, of_walk (body_of body)) ∷ [])))
      ∙ sym (ap (λ i. levels_of wholes (works_of_item i)) (ap item_of e ∙ walk_item var body body_site site)))

-- one round over procedures
pub wholes_next : (wholes : List ℕ) (procs : List Proc) (i : ℕ) (P : Proc) (now new : List ℕ) (level : ℕ) → i < length procs → P ≡ get_or procs i P → level ≡ body_level wholes (body_of P.body) → new ≡ now ++ level ∷ []
    → PutSoFar (λ (P : Proc). body_level wholes (body_of P.body) ∷ []) procs i [] now → PutSoFar (λ (P : Proc). body_level wholes (body_of P.body) ∷ []) procs (i + 1) [] new
wholes_next wholes procs i P now new level l at e is h = put_next (λ (P : Proc). body_level wholes (body_of P.body) ∷ []) procs [] i P now new l at (is ∙ ap (λ k. now ++ k ∷ []) e) h

pub wholes_end : (wholes : List ℕ) (procs : List Proc) (i : ℕ) (now : List ℕ) → length procs ≤ i → PutSoFar (λ (P : Proc). body_level wholes (body_of P.body) ∷ []) procs i [] now → now ≡ map (λ (P : Proc). body_level wholes (body_of P.body)) procs
wholes_end wholes procs i now l h = put_end (λ (P : Proc). body_level wholes (body_of P.body) ∷ []) procs [] i now l h ∙ ones procs
  where
    ones : (procs : List Proc) → flat_map (λ (P : Proc). body_level wholes (body_of P.body) ∷ []) procs ≡ map (λ (P : Proc). body_level wholes (body_of P.body)) procs
    ones [] = refl
    ones (P ∷ procs) = ap (λ l. body_level wholes (body_of P.body) ∷ l) (ones procs)
