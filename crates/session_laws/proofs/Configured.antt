-- Only links of a configured mapping say that their foreign key is written late, where no declared collection does.
use Rattle.std.proofs.Common.{◌≡◌, ◌<◌, ◌≤◌, inl, inr, ⊎_elim, ℕ, ◌+◌, Bool, true, false, not, ◌&&◌, List, [], ◌∷◌, length, ap, sym, refl, subst, Option, None, Some, ◌∙◌, arith}
use Rattle.std.specs.Prelude.{slice_get}
use Rattle.std.specs.List.{AllByRecursion, list_all}
use Rattle.std.proofs.lemmas.Bool.{and_parts, cases_lt}
use Rattle.base_core.specs.declared.ids.ClassId.{ClassId}
use Rattle.schema_core.specs.Declaration.{IsDeclared}
use Rattle.class_types.specs.declared.declared.ClassSpec.{ClassSpec}
use Rattle.class_types.specs.declared.declared.RelationSpec.{RelationSpec}
use Rattle.class_types.specs.declared.mapped.Relation.{Relation}
use Rattle.class_layouts.specs.Hierarchy.{line_of, relations_in}
use Rattle.class_mapping.specs.Lines.{AreLines}
use Rattle.class_mapping.specs.Mapped.{IsValidMapping, Mapped}
use Rattle.class_mapping.specs.Plain.{is_plain_root}
use Rattle.class_mapping.specs.PlainClass.{ArePlain, IsPlainClass}
use Rattle.class_mapping.specs.Related.{AreRelated}
use Rattle.class_mapping.proofs.Having.{Has, all_from, all_of, true_false}
use Rattle.class_mapping.proofs.LineLemmas.{all_at}
use Rattle.class_mapping.proofs.Lists.{and_both}
use Rattle.class_mapping.proofs.PlainLemmas.{plain_parts}
use Rattle.class_mapping.proofs.RelatedLemmas.{Came, came, list_for, side_from}
use Rattle.session_laws.specs.Projects.{PostsAreLinks}
use Rattle.session_laws.specs.Graphs.{IsWellMapped}
use Rattle.session_laws.specs.Configured.{HasLateLinks, has_late_links, is_late_by_link}

link_of : (post many : Bool) → not (post && many) ≡ true → post ≡ true → many ≡ false
link_of true true h e = absurd cc
link_of true false h e = refl
link_of false many h e = absurd cc

declared_late : (specs : List ClassSpec) (n : ℕ) (found : Option ClassSpec) → slice_get specs n ≡ found → list_all has_late_links specs ≡ true
    → (relation : RelationSpec) → Has (relations_in found) relation → is_late_by_link relation ≡ true
declared_late specs n None at all relation has = absurd has
declared_late specs n (Some spec) at all relation has = all_of is_late_by_link spec.relations relation (all_at has_late_links specs n spec all at) has

module _ (mapped : Mapped) (lined : length mapped.classes.lines ≡ length mapped.classes.specs) (lines : AreLines mapped.schema.tables mapped.classes) (late : HasLateLinks mapped) where
  came_late : (line : List ClassId) (relation : Relation) → Came mapped line relation → relation.post_update ≡ true → relation.many ≡ false
  came_late line relation (inl found) post =
      let from = side_from mapped lined lines found.0 found.1 in
      let one = declared_late mapped.classes.specs found.0.class.0 (slice_get mapped.classes.specs found.0.class.0) refl late found.0.spec from.spec in
      ap (λ (own : Relation). own.many) (sym found.3) ∙ link_of found.0.spec.post_update found.0.spec.many one (ap (λ (own : Relation). own.post_update) found.3 ∙ post)
  came_late line relation (inr found) post = absurd (true_false relation.post_update post (sym (ap (λ (back : Relation). back.post_update) found.4)))

  pub posts_are_links : PostsAreLinks mapped
  posts_are_links class less =
      subst (AllByRecursion (λ (relation : Relation). relation.post_update ≡ true → relation.many ≡ false)) (sym (list_for mapped lined lines class less))
      (all_from (λ (relation : Relation). relation.post_update ≡ true → relation.many ≡ false) _
      (λ relation has. came_late (line_of mapped.classes class.0) relation (came mapped lined lines (line_of mapped.classes class.0) relation has)))

-- plain roots have no collection
pub plain_late : (specs : List ClassSpec) → list_all is_plain_root specs ≡ true → list_all has_late_links specs ≡ true
plain_late [] all = refl
plain_late (spec ∷ specs) all =
    let parts = and_parts (is_plain_root spec) (list_all is_plain_root specs) all in
    and_both (has_late_links spec) (list_all has_late_links specs) (ap (list_all is_late_by_link) (plain_parts spec parts.0).relations) (plain_late specs parts.1)

-- what holds of the classes of lower numbers and of the next one holds of those up to it
pub plain_next : (mapped : Mapped) (n : ℕ) → (ArePlain mapped → (class : ClassId) → class.0 < n → IsPlainClass mapped class) → (ArePlain mapped → IsPlainClass mapped (record { 0 = n }))
    → ArePlain mapped → (class : ClassId) → class.0 < n + 1 → IsPlainClass mapped class
plain_next mapped n before now all class less =
    ⊎_elim
    (λ (inside : class.0 < n). before all class inside)
    (λ (behind : n ≤ class.0). let same : n ≡ class.0 = omega (arith, behind, less) in subst (λ (k : ℕ). IsPlainClass mapped (record { 0 = k })) same (now all))
    (cases_lt class.0 n)

-- ---- the mapping is as it is asked

pub well_mapped : (mapped : Mapped) → length mapped.classes.lines ≡ length mapped.classes.specs → AreLines mapped.schema.tables mapped.classes → IsValidMapping mapped → AreRelated mapped
    → IsDeclared mapped.schema.tables mapped.schema.resolved → HasLateLinks mapped → IsWellMapped mapped
well_mapped mapped lined lines valid related declared late = record {
  lined = lined;
  lines = lines;
  valid = valid;
  related = related;
  declared = declared;
  posts = posts_are_links mapped lined lines late;
}
