-- Pairs of sides that name each other, the foreign keys that serve them, and the names that they give.
use Rattle.std.specs.Prelude.{ℕ, Bool, true, false, not, ◌&&◌, ◌||◌, List, find, count_by, nat_lt, ◌==◌, Option, None, Some, is_some, is_none, if◌then◌else◌}
use Rattle.std.specs.List.{enumerate_from, list_any}
use Rattle.base_core.specs.declared.ids.ClassId.{ClassId}
use Rattle.schema_core.specs.declared.table.TableSpec.{TableSpec}
use Rattle.schema_core.specs.Catalog.{same_name}
use Rattle.class_types.specs.declared.declared.Cascade.{Cascade}
use Rattle.class_layouts.specs.declared.classes.Classes.{Classes}
use Rattle.class_layouts.specs.declared.layout.Layout.{Layout}
use Rattle.class_layouts.specs.Hierarchy.{has_class, line_of}
use Rattle.class_layouts.specs.Faults.{cascade_or_default, default_cascade}
use Rattle.class_blocks.specs.declared.side.Side.{Side}
use Rattle.class_blocks.specs.Sides as blocks
pub use Rattle.class_blocks.specs.Sides.{is_class}
use Rattle.class_sides.specs.Keys.{TableKey, allows, names_of, same_key}

-- a side has no secondary table
abbrev pub is_plain : Side → Bool
is_plain side = is_none side.spec.secondary

-- ---- NoJoin and TwoJoins

-- the class stands in the line of the target
abbrev pub is_of_target : Classes → Option ClassId → ClassId → Bool
is_of_target classes target class = blocks.is_of_target classes.lines target class

-- the partner that the one names is the other
abbrev pub leads_to : Classes → Side → Side → Bool
leads_to classes one other = blocks.leads_to classes.lines one other

abbrev pub names_each_other : Classes → Side → Side → Bool
names_each_other classes one other = blocks.names_each_other classes.lines one other

-- the declared relationship that a side and it name each other
abbrev pub mutual_of : Classes → List Side → Side → Option Side
mutual_of classes sides side = find (names_each_other classes side) sides

abbrev pub fits_mutual : List TableSpec → Option Side → TableKey → Bool
fits_mutual tables None key = true
fits_mutual tables (Some partner) key = allows partner.spec.using (names_of tables key)

-- a foreign key that can serve the side is the one that its partner names too
abbrev pub fits : List TableSpec → Classes → List Side → Side → TableKey → Bool
fits tables classes sides side key = fits_mutual tables (mutual_of classes sides side) key

abbrev pub lacks_join : List TableSpec → Classes → List Side → Side → Bool
lacks_join tables classes sides side = is_plain side && not (list_any (fits tables classes sides side) side.candidates)

abbrev pub has_two_joins : List TableSpec → Classes → List Side → Side → Bool
has_two_joins tables classes sides side = is_plain side && nat_lt 1 (count_by (fits tables classes sides side) side.candidates)

-- ---- Overlap

-- the foreign key behind a side without a secondary table
abbrev pub join_of : List TableSpec → Classes → List Side → Side → Option TableKey
join_of tables classes sides side = find (fits tables classes sides side) side.candidates

abbrev pub is_served_by : List TableSpec → Classes → List Side → Option TableKey → Side → Bool
is_served_by tables classes sides None side = false
is_served_by tables classes sides (Some key) side = list_any (λ found. same_key found key && fits tables classes sides side found) side.candidates

abbrev pub same_secondary : Option (List ℕ) → Option (List ℕ) → Bool
same_secondary None None = true
same_secondary (Some one) (Some other) = same_name one other
same_secondary one other = false

-- the other one is served by the same foreign key, or by the same secondary table
abbrev pub shares : List TableSpec → Classes → List Side → Side → Side → Bool
shares tables classes sides one other =
    same_secondary one.spec.secondary other.spec.secondary
    && (is_some one.spec.secondary || is_served_by tables classes sides (join_of tables classes sides one) other)

-- two that are no pair are served by one key or one secondary table
abbrev pub overlaps : List TableSpec → Classes → List Side → Side → Side → Bool
overlaps tables classes sides later one = not (names_each_other classes one later) && shares tables classes sides one later

-- ---- PartnerDiffers

abbrev pub differ : Bool → Bool → Bool
differ true other = not other
differ false other = other

-- two collections over a secondary table, or a collection and a link
abbrev pub is_opposite : Side → Side → Bool
is_opposite one other = if is_plain one then differ one.spec.many other.spec.many else one.spec.many && other.spec.many

-- the other one is the partner that a side names: declared in the block of the target, it names the side back, over the same secondary table, and is of the opposite form
abbrev pub is_partner : Side → Side → Bool
is_partner one other =
    is_class one.target other.class && same_name other.spec.name one.spec.partner
    && not other.spec.backref && same_name other.spec.partner one.spec.name
    && is_class other.target one.class
    && same_secondary one.spec.secondary other.spec.secondary && is_opposite one other

abbrev pub same_side : Side → Side → Bool
same_side one other = (one.class.0 == other.class.0) && same_name one.spec.name other.spec.name

-- the target of a side stands in the line
abbrev pub is_target_in : Option ClassId → List ClassId → Bool
is_target_in None line = false
is_target_in (Some target) line = has_class line target.0

-- the other one gives its name, or makes a backref of the name, in a class of the line
abbrev pub gives_name : List ClassId → Side → Side → Bool
gives_name line side other =
    (has_class line other.class.0 && same_name other.spec.name side.spec.partner)
    || (other.spec.backref && is_target_in other.target line && same_name other.spec.partner side.spec.partner && not (same_side side other))

-- the name of a side's backref is taken in a class that is the target or extends it
abbrev pub is_taken_in : Classes → List Side → Side → ℕ × Layout → Bool
is_taken_in classes sides side placed =
    let line = line_of classes placed.0 in
    is_target_in side.target line
    && (list_any (λ attribute. same_name attribute.name side.spec.partner) placed.1.attributes || list_any (gives_name line side) sides)

-- the backref's name is taken, or no relationship is the partner
abbrev pub differs : Classes → List Layout → List Side → Side → Bool
differs classes layouts sides side =
    if side.spec.backref then list_any (is_taken_in classes sides side) (enumerate_from 0 layouts)
    else not (list_any (is_partner side) sides)

-- ---- the flags of a pair

abbrev pub cascade_of : Option Side → Cascade
cascade_of None = default_cascade
cascade_of (Some side) = cascade_or_default side.spec.cascade

-- the flags of the many side of a pair; a backref has the default ones
abbrev pub many_cascade : List Side → Side → Cascade
many_cascade sides side =
    if side.spec.many then cascade_or_default side.spec.cascade
    else if side.spec.backref then default_cascade
    else cascade_of (find (is_partner side) sides)
