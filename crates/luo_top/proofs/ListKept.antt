-- A listing from the type on by the core form of a source is that by the source as it is written, step by step.
use Rattle.std.proofs.Common.{◌≡◌, ◌↔◌, ◌+◌, ◌≤◌, ◌<◌, ◌⊎◌, inl, inr, ℕ, List, refl, sym, ap, subst, ◌∙◌, arith, Some, slice_get}
use Rattle.std.specs.Bool.{⊤}
use Rattle.luo_finite.proofs.Listings.{Lists-iff}
use Rattle.luo_num.specs.declared.TheConstants.{MAX}
use Rattle.luo_model.specs.declared.program.Def.{Def}
use Rattle.luo_model.specs.declared.table.Entry.TheVariants.{Count, Total}
use Rattle.luo_model.specs.declared.table.Fill.TheVariants.{Counts, All}
use Rattle.luo_model.specs.Founded.{IsFounded}
use Rattle.luo_model.specs.Member.{Member}
use Rattle.luo_model.specs.Structures.{IsStructure}
use Rattle.luo_model.specs.Tree.{Tree}
use Rattle.luo_engine.specs.Entries.{NoneOver, IsThere, IsNumber}
use Rattle.luo_source.specs.declared.names.Name.{Name}
use Rattle.luo_source.specs.Plain.Source.{Source}
use Rattle.luo_source.specs.Plain.Types.{Named}
use Rattle.luo_rules.specs.declared.names.Meaning.TheVariants as mean
use Rattle.luo_rules.specs.Checks.{IsSource, IsChecked}
use Rattle.luo_rules.specs.Definitions.{Definition, definitions, first_node, names_of}
use Rattle.luo_rules.specs.Meanings.{meaning}
use Rattle.luo_rules.specs.Whole.{core}
use Rattle.luo_rules.proofs.CleanSource.{Clean}
use Rattle.luo_rules.proofs.Lists.{some_same}
use Rattle.luo_rules.proofs.NodeLists.{def_at, def_back, def_get}
use Rattle.luo_meaning.specs.Rows.{IsStructureOf}
use Rattle.luo_meaning.proofs.Named.{named_type, type_named}
use Rattle.luo_meaning.proofs.NamesMean.{names_mean}
use Rattle.luo_meaning.proofs.OverKept.{counts_kept}
use Rattle.luo_meaning.proofs.RowsKept.{clean_source, definition_kept}
use Rattle.luo_answer.specs.Answer.{Answer}
use Rattle.luo_answer.specs.Commands.List.{IsTypeNamed, type_of, counted, IsListText, listed, list_of}
use Rattle.luo_answer.specs.Overflows.{OverflowRefusal}
use Rattle.luo_answer.specs.Step.{◌and_then◌}
use Rattle.luo_answer.specs.Steps.{list_sized, tables}
use Rattle.luo_answer.proofs.SameSteps.{Match, same_makes, same_both, same_first}
use Rattle.luo_top.specs.AsWritten.List.{IsTypeName, defined_type, IsListTextOf, listed_of, list_by}
use Rattle.luo_top.specs.AsWritten.Steps.{HasCountOver, CountOverflowOf, counts}
use Rattle.luo_top.proofs.OverflowKept.{overflow_kept}

no_totals : Counts ≡ All → ⊥
no_totals e = cc

cases : (m n : ℕ) → (m ≤ n) ⊎ (n < m)
cases m n = grind arith

module _ (source : Source) (is : IsSource source) (checked : IsChecked source (core source)) (founded : IsFounded (core source)) where
  c : Clean source
  c = clean_source source is checked.1.0

  -- the node of a type that is defined under a name
  abbrev At : ℕ → Name → Type 0
  At x name = (i : ℕ) × (d : Def) × (slice_get (core source).defs i ≡ Some d) × (d.name ≡ name.text) × (d.whole.node ≡ x)

  named_there : (text : List ℕ) (x : ℕ) → IsTypeNamed (core source) text x → (name : Name) × IsTypeName source text name × At x name
  named_there text x (i, d, e, same, node) =
      let names = names_of source in
      let defs = definitions source in
      let b = def_back names defs 0 defs i d e in
      let own = (c.all.each i b.0 b.1).own_name in
      let means : meaning names text ≡ Some (mean.Definition i) = ap (meaning names) (sym same ∙ ap (λ (z : Def). z.name) b.2) ∙ own in
      let t = type_named source c text i b.0 means b.1 in
      (t.2.0, (t.0, t.1, t.2.1, t.2.2), (i, d, e, same ∙ sym t.2.2, node))

  there_named : (text : List ℕ) (name : Name) → IsTypeName source text name → (x : ℕ) × IsTypeNamed (core source) text x × At x name
  there_named text name (d, there, in_names, same) =
      let names = names_of source in
      let defs = definitions source in
      let n = named_type source c text d.body (d, there, (name, in_names, same), refl) in
      let k = core_at n.i n.d n.is in
      let called : k.0.name ≡ text = k.2 ∙ meant_name n.i n.d n.is text n.means in
      (k.0.whole.node, (n.i, k.0, k.1, called, refl), (n.i, k.0, k.1, called ∙ sym same, refl))
    where
      core_at : (i : ℕ) (d : Definition) → slice_get (definitions source) i ≡ Some d → (v : Def) × (slice_get (core source).defs i ≡ Some v) × (v.name ≡ d.name.text)
      core_at i d e =
          let names = names_of source in
          let defs = definitions source in
          (def_at names defs (0 + first_node defs i) d, def_get names defs 0 defs i d e, refl)

      -- the name of a definition is the text that means it
      meant_name : (i : ℕ) (d : Definition) → slice_get (definitions source) i ≡ Some d → (text : List ℕ) → meaning (names_of source) text ≡ Some (mean.Definition i) → d.name.text ≡ text
      meant_name i d e text m = let n = names_mean source text (mean.Definition i) m in ap (λ (z : Definition). z.name.text) (some_same d n.0 (sym e ∙ n.1)) ∙ n.2

  type_same : (text : List ℕ) → Match At (type_of (core source) text) (defined_type source text)
  type_same text = same_makes At _ _ (IsTypeNamed (core source) text) (IsTypeName source text)
      (λ a. (
        λ h. ((λ name n. let g = there_named text name n in h.0 g.0 g.1), h.1),
        λ h. ((λ x n. let g = named_there text x n in h.0 g.0 g.1), h.1),
      ))
      (λ none x n. named_there text x n) (λ none name n. there_named text name n)

  module _ (n : ℕ) where
    over_counts : (v m : ℕ) (x : ℕ) → m ≤ n → MAX < v → IsThere (core source) (Count x) → IsNumber (core source) (Count x) m v → HasCountOver source MAX n
    over_counts v m x within over there number = (m, v, within, over, (counts_kept source is checked.1.0 m v).0 (x, there, number))

    overflow_same : (a : Answer) → OverflowRefusal (core source) Counts n a ↔ CountOverflowOf source n a
    overflow_same a = overflow_kept source is checked founded Counts n a

    none_over : ((m : ℕ) → m ≤ n → NoneOver (core source) Counts m) → HasCountOver source MAX n → ⊥
    none_over none (m, v, l, over, number) = let k = (counts_kept source is checked.1.0 m v).1 number in let f : ⊥ = omega (arith, over, none m l (Count k.0) v k.1 tt k.2) in f

    each_below : (HasCountOver source MAX n → ⊥) → (m : ℕ) → m ≤ n → NoneOver (core source) Counts m
    each_below none m l (Count x) v there had number = below (cases v MAX)
      where
        below : ((v ≤ MAX) ⊎ (MAX < v)) → v ≤ MAX
        below (inl k) = k
        below (inr over) = absurd (none (over_counts v m x l over there number))
    each_below none m l (Total i) v there had number = absurd (no_totals had)

    pub counts_same : Match (λ _ _. ⊤) (tables Counts (core source) n) (counts source n)
    counts_same = same_makes (λ _ _. ⊤) _ _ _ _ overflow_same (λ none _ h. (tt, none_over h, tt)) (λ none _ h. (tt, each_below h, tt))

  module _ (x : ℕ) (name : Name) (at : At x name) where
    structures_same : (n : ℕ) (t : Tree) → IsStructure (core source) x n t ↔ IsStructureOf source (Named name) n t
    structures_same n t =
        let kept = definition_kept source c at.0 at.1 name at.2 at.3 t in (
          λ h. (kept.0 (subst (λ y. Member (core source) y t) (sym at.4) h.0), h.1, h.2),
          λ h. (subst (λ y. Member (core source) y t) at.4 (kept.1 h.0), h.1, h.2),
        )

    text_same : (n start k : ℕ) → Match (λ a b. a ≡ b) (listed (core source) x n start k) (listed_of source name n start k)
    text_same n start k = same_makes (λ a b. a ≡ b) _ _ (IsListText (core source) x n start k) (IsListTextOf source name n start k) (λ a. (λ h. h, λ h. h))
        (λ none bytes h. (bytes, (h.0, (Lists-iff _ _ h.0 (λ t. (structures_same n t).0) (λ t. (structures_same n t).1) h.1.0, h.1.1), h.2), refl))
        (λ none bytes h. (bytes, (h.0, (Lists-iff _ _ h.0 (λ t. (structures_same n t).1) (λ t. (structures_same n t).0) h.1.0, h.1.1), h.2), refl))

    on_same : (n start k : ℕ) → Match (λ a b. a ≡ b) (list_of (core source) n start k x) (list_by source n start k name)
    on_same n start k = same_first (λ a b. a ≡ b) (list_sized n) _ _ (λ size _. same_first (λ a b. a ≡ b) (counted k) _ _ (λ count _.
        same_both (λ _ _. ⊤) (λ a b. a ≡ b) (tables Counts (core source) size) (counts source size) _ _ (counts_same size) (λ _ _ _. text_same size start count)))

  pub list_rest_same : (text : List ℕ) (n start k : ℕ) → Match (λ a b. a ≡ b) (type_of (core source) text and_then list_of (core source) n start k) (defined_type source text and_then list_by source n start k)
  list_rest_same text n start k =
      same_both At (λ a b. a ≡ b) (type_of (core source) text) (defined_type source text) (list_of (core source) n start k) (list_by source n start k) (type_same text) (λ x name at. on_same x name at n start k)
