-- The object and place of a link go into a set.
use Rattle.std.proofs.Common.{◌≡◌, ℕ, Bool, true, false, cond, ◌&&◌, ◌||◌, ◌==◌, sym, refl, ap, ◌∙◌}
use Rattle.std.specs.BTreeMap.{is_at}
use Rattle.std.specs.BTreeSet.{BTreeSet, contains}
use Rattle.std.specs.Cmp.{unsigned_ties}
use Rattle.std.specs.Ordering.{is_eq, nat_cmp}
use Rattle.base_core.proofs.Tests.{then_equal}
use Rattle.object_rows.specs.Numbers.{link_cmp}

put_or : (b was : Bool) → cond b true was ≡ (b || was)
put_or true was = refl
put_or false was = refl

link_same : (one other : ℕ × ℕ) → is_at (link_cmp one) other ≡ (one.0 == other.0 && one.1 == other.1)
link_same one other =
    sym (then_equal (nat_cmp one.0 other.0) (nat_cmp one.1 other.1)) ∙ ap (λ (b : Bool). b && is_eq (nat_cmp one.1 other.1)) (sym (unsigned_ties one.0 other.0)) ∙ ap (λ (b : Bool). (one.0 == other.0) && b) (sym (unsigned_ties one.1 other.1))

pub put_link : (old new : BTreeSet (ℕ × ℕ)) (link other : ℕ × ℕ) → contains link_cmp new other ≡ cond (is_at (link_cmp link) other) true (contains link_cmp old other)
    → contains link_cmp new other ≡ ((link.0 == other.0 && link.1 == other.1) || contains link_cmp old other)
put_link old new link other is = is ∙ put_or (is_at (link_cmp link) other) (contains link_cmp old other) ∙ ap (λ (b : Bool). b || contains link_cmp old other) (link_same link other)
