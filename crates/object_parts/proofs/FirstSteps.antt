-- Objects that are kept where each comes first.
use Rattle.std.proofs.Common.{◌≡◌, ℕ, Bool, true, false, ◌||◌, ◌==◌, List, [], ◌∷◌, ◌++◌, Result, Ok, Err, OnOk, if◌then◌else◌, sym, ap, ◌∙◌}
use Rattle.std.proofs.Math.Bool.{or-false, or_comm}
use Rattle.std.specs.BTreeSet.{BTreeSet, contains}
use Rattle.std.specs.Ordering.{nat_cmp}
use Rattle.std.proofs.lemmas.List.Folds.{list_any-append}
use Rattle.base_core.specs.declared.ids.ObjId.{ObjId}
use Rattle.object_arena.specs.Graph.{is_among}
use Rattle.object_parts.specs.Lists.{HasSeen, with_first}

-- one that was seen goes nowhere
pub seen_first : (seen : BTreeSet ℕ) (kept : List ObjId) (object : ObjId) (b : Bool) → HasSeen seen kept → b ≡ contains nat_cmp seen object.0 → b ≡ true → kept ≡ with_first kept object
seen_first seen kept object b has asked so = sym (ap (λ (c : Bool). if c then kept else (kept ++ object ∷ [])) (sym (has.same object) ∙ sym asked ∙ so))

-- one that was not goes behind the others
pub new_first : {E : Type 0} (seen : BTreeSet ℕ) (kept new : List ObjId) (object : ObjId) (b : Bool) (r : Result (Unit {0}) E) → HasSeen seen kept → b ≡ contains nat_cmp seen object.0 → b ≡ false → OnOk r (new ≡ kept ++ object ∷ [])
    → OnOk r (new ≡ with_first kept object)
new_first seen kept new object b (Ok u) has asked so pushed =
    pushed ∙ sym (ap (λ (c : Bool). if c then kept else (kept ++ object ∷ [])) (sym (has.same object) ∙ sym asked ∙ so))
new_first seen kept new object b (Err e) has asked so pushed = tt

-- the set has the number of one more then
pub seen_more : {E : Type 0} (seen more : BTreeSet ℕ) (kept new : List ObjId) (object : ObjId) (r : Result (Unit {0}) E) → HasSeen seen kept
    → ((other : ObjId) → contains nat_cmp more other.0 ≡ (object.0 == other.0 || contains nat_cmp seen other.0)) → OnOk r (new ≡ kept ++ object ∷ []) → OnOk r (HasSeen more new)
seen_more seen more kept new object (Ok u) has entered pushed = record {
  same = λ other.
      let is : ObjId → Bool = λ one. one.0 == other.0 in
      entered other ∙ ap (λ (b : Bool). object.0 == other.0 || b) (has.same other)
      ∙ or_comm (object.0 == other.0) (is_among kept other)
      ∙ ap (λ (b : Bool). is_among kept other || b) (sym (or-false (object.0 == other.0)))
      ∙ sym (list_any-append is kept (object ∷ [])) ∙ ap (λ (xs : List ObjId). is_among xs other) (sym pushed);
}
seen_more seen more kept new object (Err e) has entered pushed = tt
