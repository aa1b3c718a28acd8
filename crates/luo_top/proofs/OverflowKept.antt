-- The first overflow, and what is said of it, by the core form of a source and by the source as it is written.
use Rattle.std.proofs.Common.{◌≡◌, ◌↔◌, ℕ, List, ◌++◌, Option, sym, ap, ◌∙◌, inl, inr}
use Rattle.std.specs.Prelude.{codes, decimal}
use Rattle.luo_model.specs.declared.program.Def.{Def}
use Rattle.luo_model.specs.declared.program.Node.{Node}
use Rattle.luo_model.specs.declared.program.Site.{Site}
use Rattle.luo_model.specs.declared.table.Entry.{Entry}
use Rattle.luo_model.specs.declared.table.Entry.TheVariants.{Count, Total}
use Rattle.luo_model.specs.declared.table.Fill.{Fill}
use Rattle.luo_model.specs.Program.{Procedure}
use Rattle.luo_model.specs.Founded.{IsFounded}
use Rattle.luo_engine.specs.Entries as entries
use Rattle.luo_engine.specs.Entries.{IsThere, IsNumber}
use Rattle.luo_source.specs.Plain.Source.{Source}
use Rattle.luo_rules.specs.Checks.{IsSource, IsChecked}
use Rattle.luo_rules.specs.Whole.{core}
use Rattle.luo_rules.proofs.CleanSource.{Clean}
use Rattle.luo_meaning.specs.Entries as written
use Rattle.luo_meaning.specs.Entries.{IsEntryText, IsNumberOf}
use Rattle.luo_meaning.proofs.ConstructPlaces.{node_is, construct_there}
use Rattle.luo_meaning.proofs.EntriesKept.{count_kept, total_kept, level_kept, node_rank, site_rank, node_name_kept, site_name_kept}
use Rattle.luo_meaning.proofs.RowsKept.{clean_source}
use Rattle.luo_meaning.proofs.SitePlaces.{site_is, site_there}
use Rattle.luo_answer.specs.declared.status.Status.TheVariants.{Overflow}
use Rattle.luo_answer.specs.Answer.{Answer, Refusal}
use Rattle.luo_answer.specs.Names.{name_of_definition, name_of_node, name_of_procedure, name_of_site}
use Rattle.luo_answer.specs.Overflows.{entry_text, OverflowRefusal}
use Rattle.luo_answer.specs.Lines.{line}
use Rattle.luo_top.specs.AsWritten.Overflows.{OverflowRefusalOf}

module _ (source : Source) (is : IsSource source) (checked : IsChecked source (core source)) where
  c : Clean source
  c = clean_source source is checked.1.0

  pub number_same : (entry : Entry) (n v : ℕ) → (IsThere (core source) entry × IsNumber (core source) entry n v) ↔ IsNumberOf source entry n v
  number_same (Count x) n v = count_kept source is checked x n v
  number_same (Total i) n v = total_kept source is checked i n v

  has_same : (fill : Fill) (entry : Entry) → entries.Has fill entry ↔ written.Has fill entry
  has_same fill (Count x) = (λ h. h, λ h. h)
  has_same fill (Total i) = (λ h. h, λ h. h)

  -- an entry that is there has a text, and no other
  entry_called : (entry : Entry) → IsThere (core source) entry → IsEntryText source entry (entry_text (core source) entry)
  entry_called (Count x) l =
      let k = construct_there source c x l in
      let n = node_is source c x k.0 k.1 in
      let named : entry_text (core source) (Count x) ≡ codes "count of " ++ written.place_text n.def.name n.node.place =
      ap (λ (o : Option Node). codes "count of " ++ name_of_node (core source) o) n.there ∙ ap (λ (o : Option Def). codes "count of " ++ name_of_definition o ++ codes "." ++ decimal n.node.place) n.owner in
      (node_name_kept source is checked x (entry_text (core source) (Count x))).0 (n.node, n.def, n.there, n.owner, named)
  entry_called (Total i) l =
      let k = site_there source is checked i l in
      let n = site_is source is checked i k.0 k.1 in
      let named : entry_text (core source) (Total i) ≡ codes "total of " ++ written.place_text n.P.name n.site.place =
      ap (λ (o : Option Site). codes "total of " ++ name_of_site (core source) o) n.there ∙ ap (λ (o : Option Procedure). codes "total of " ++ name_of_procedure o ++ codes "." ++ decimal n.site.place) n.caller in
      (site_name_kept source is checked i (entry_text (core source) (Total i))).0 (n.site, n.P, n.there, n.caller, named)

  called_entry : (entry : Entry) (text : List ℕ) → IsEntryText source entry text → text ≡ entry_text (core source) entry
  called_entry (Count x) text h =
      let (node, d, there, owner, e) = (node_name_kept source is checked x text).1 h in
      e ∙ sym (ap (λ (o : Option Node). codes "count of " ++ name_of_node (core source) o) there ∙ ap (λ (o : Option Def). codes "count of " ++ name_of_definition o ++ codes "." ++ decimal node.place) owner)
  called_entry (Total i) text h =
      let (site, P, there, caller, e) = (site_name_kept source is checked i text).1 h in
      e ∙ sym (ap (λ (o : Option Site). codes "total of " ++ name_of_site (core source) o) there ∙ ap (λ (o : Option Procedure). codes "total of " ++ name_of_procedure o ++ codes "." ++ decimal site.place) caller)

  module _ (f : IsFounded (core source)) where
    precedes_forth : (a b : Entry) → IsThere (core source) a → IsThere (core source) b → entries.Precedes (core source) a b → written.Precedes source a b
    precedes_forth (Count x) (Count y) l m (r, q, one, two, less) = (r, q, (node_rank source is checked f x r).0 (l, one), (node_rank source is checked f y q).0 (m, two), less)
    precedes_forth (Count x) (Total j) l m h = tt
    precedes_forth (Total i) (Count y) l m h = absurd h
    precedes_forth (Total i) (Total j) l m (r, q, a, b, one, two, three, four, less) =
        (r, q, a, b, (site_rank source is checked f i r).0 (l, one), (site_rank source is checked f j q).0 (m, two), (level_kept source is checked i a).0 (l, three), (level_kept source is checked j b).0 (m, four), less)

    precedes_back : (a b : Entry) → written.Precedes source a b → entries.Precedes (core source) a b
    precedes_back (Count x) (Count y) (r, q, one, two, less) = (r, q, ((node_rank source is checked f x r).1 one).1, ((node_rank source is checked f y q).1 two).1, less)
    precedes_back (Count x) (Total j) h = tt
    precedes_back (Total i) (Count y) h = absurd h
    precedes_back (Total i) (Total j) (r, q, a, b, one, two, three, four, less) =
        (r, q, a, b, ((site_rank source is checked f i r).1 one).1, ((site_rank source is checked f j q).1 two).1, ((level_kept source is checked i a).1 three).1, ((level_kept source is checked j b).1 four).1, less)

    first_forth : (last : ℕ) (fill : Fill) (entry : Entry) (n : ℕ) → entries.IsFirstOver (core source) last fill entry n → written.IsFirstOver source last fill entry n
    first_forth last fill entry n h = record {
      had = (has_same fill entry).0 h.had;
      within = h.within;
      over = (h.over.0, (number_same entry n h.over.0).0 (h.there, h.over.1), h.over.2);
      earlier = λ other m v had before number.
          let k = (number_same other m v).1 number in
          h.earlier other m v k.0 ((has_same fill other).1 had) (elim before [ inl l ↦ inl l | inr e ↦ inr (e.0, precedes_back other entry e.1) ]) k.1;
    }

    first_back : (last : ℕ) (fill : Fill) (entry : Entry) (n : ℕ) → written.IsFirstOver source last fill entry n → entries.IsFirstOver (core source) last fill entry n
    first_back last fill entry n h =
        let own = (number_same entry n h.over.0).1 h.over.1 in
        record {
          there = own.0;
          had = (has_same fill entry).1 h.had;
          within = h.within;
          over = (h.over.0, own.1, h.over.2);
          earlier = λ other m v there had before number.
              h.earlier other m v ((has_same fill other).0 had) (elim before [ inl l ↦ inl l | inr e ↦ inr (e.0, precedes_forth other entry there own.0 e.1) ]) ((number_same other m v).0 (there, number));
        }

    -- the refusals are the same
    pub overflow_kept : (fill : Fill) (last : ℕ) (a : Answer) → OverflowRefusal (core source) fill last a ↔ OverflowRefusalOf source fill last a
    overflow_kept fill last a = (
      λ (entry, n, first, e). let k = first_forth last fill entry n first in (entry, n, entry_text (core source) entry, k, entry_called entry (there entry n k), e),
      λ (entry, n, text, first, called, e).
          (entry, n, first_back last fill entry n first, e ∙ ap (λ (t : List ℕ). Refusal Overflow (line (codes "overflow: " ++ t ++ codes " at size " ++ decimal n))) (called_entry entry text called)),
    )
      where
        there : (entry : Entry) (n : ℕ) → written.IsFirstOver source last fill entry n → IsThere (core source) entry
        there entry n k = ((number_same entry n k.over.0).1 k.over.1).0
