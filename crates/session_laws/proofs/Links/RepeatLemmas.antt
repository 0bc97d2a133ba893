-- No collection repeats a member that it did not repeat before.
use Rattle.std.proofs.Common.{◌≡◌, Bool, true, false, not, ◌&&◌, Option, None, Some, is_some, ap, ◌∙◌, if◌then◌else◌}
use Rattle.std.specs.Option.{option_map}
use Rattle.base_core.specs.declared.ids.ObjId.{ObjId}
use Rattle.base_core.specs.declared.ids.RelNo.{RelNo}
use Rattle.object_arena.specs.declared.object.Link.{Link}
use Rattle.object_arena.specs.declared.object.Link.TheVariants.{One}
use Rattle.relations.specs.Mirror.{has_member, leads_elsewhere, link_at, loaded_to}
use Rattle.object_parts.specs.Sides.{joined_by, left_by}
use Rattle.session_laws.specs.Links.Links.{AppendRepeatsNone, Before, RemoveRepeatsNone, SetRepeatsNone, is_link, is_link_of_end, leads_already, link_after_set, link_back, link_let_go, link_loaded, link_moved, link_paired, link_unpaired, old_parent_of, parent_left, relation_in, repeats_member}
use Rattle.session_laws.proofs.Links.CollectionLemmas.{joined_once, left_once, loaded_once, one_once}
use Rattle.session_laws.proofs.Links.MemberLemmas.{append_tells, remove_tells}
use Rattle.session_laws.proofs.Links.SetLemmas.{set_tells}

-- ---- no member twice

moved_once : (own joins leaves : Bool) (parent : Option ObjId) (child : ObjId) (link : Option Link) → repeats_member link ≡ false
    → repeats_member (if own then option_map (λ link. One parent true) link else if joins then option_map (λ link. joined_by link child) link else if leaves then option_map (λ link. left_by link child) link else link) ≡ false
moved_once true joins leaves parent child link h = one_once link parent
moved_once false true leaves parent child link h = joined_once link child h
moved_once false false true parent child link h = left_once link child h
moved_once false false false parent child link h = h

loads_once : (own : Bool) (parent : Option ObjId) (link : Option Link) → repeats_member link ≡ false → repeats_member (if own then option_map (loaded_to parent) link else link) ≡ false
loads_once true parent link h = loaded_once link parent
loads_once false parent link h = h

set_once : (before : Before) (parent : Option ObjId) (other : ObjId) (next : RelNo) → repeats_member (link_at before.graph other next) ≡ false → repeats_member (link_after_set before parent other next) ≡ false
set_once before parent other next h = by (leads_already before parent)
  where
    by : (b : Bool) → repeats_member (if b then link_loaded before parent other next (link_at before.graph other next) else link_moved before parent other next (link_at before.graph other next)) ≡ false
    by true = loads_once (is_link before.object before.place other next) parent (link_at before.graph other next) h
    by false =
        moved_once (is_link before.object before.place other next) (is_link_of_end parent (relation_in before).partner other next)
        (is_link_of_end (parent_left before (old_parent_of before)) (relation_in before).partner other next) parent before.object (link_at before.graph other next) h

pub set_repeats_none : SetRepeatsNone
set_repeats_none before parent after is object place made h =
    ap (λ (link : Option Link). repeats_member link) (set_tells before parent after is object place made) ∙ set_once before parent object place h

paired_once : (first second : Bool) (owner member : ObjId) (link : Option Link) → repeats_member link ≡ false
    → repeats_member (if first then option_map (λ link. joined_by link owner) link else if second then option_map (λ link. joined_by link member) link else link) ≡ false
paired_once true second owner member link h = joined_once link owner h
paired_once false true owner member link h = joined_once link member h
paired_once false false owner member link h = h

pub append_repeats_none : AppendRepeatsNone
append_repeats_none before member after is object place made h =
    ap (λ (link : Option Link). repeats_member link) (append_tells before member after is object place made)
    ∙ by (has_member before.graph before.object before.place member) (is_some (relation_in before).far)
  where
    by : (there far : Bool) → repeats_member (if there then link_at before.graph object place
        else if far then link_paired before member object place (link_at before.graph object place)
        else link_after_set (link_back before member) (Some before.object) object place) ≡ false
    by true far = h
    by false true =
        paired_once (is_link member (relation_in before).partner object place) (is_link before.object before.place object place) before.object member (link_at before.graph object place) h
    by false false = set_once (link_back before member) (Some before.object) object place h

unpaired_once : (first second : Bool) (owner member : ObjId) (link : Option Link) → repeats_member link ≡ false
    → repeats_member (if first then option_map (λ link. left_by link owner) link else if second then option_map (λ link. left_by link member) link else link) ≡ false
unpaired_once true second owner member link h = left_once link owner h
unpaired_once false true owner member link h = left_once link member h
unpaired_once false false owner member link h = h

let_go_once : (first second : Bool) (member : ObjId) (link : Option Link) → repeats_member link ≡ false
    → repeats_member (if first then option_map (λ link. One None true) link else if second then option_map (λ link. left_by link member) link else link) ≡ false
let_go_once true second member link h = one_once link None
let_go_once false true member link h = left_once link member h
let_go_once false false member link h = h

pub remove_repeats_none : RemoveRepeatsNone
remove_repeats_none before member after is object place made h =
    ap (λ (link : Option Link). repeats_member link) (remove_tells before member after is object place made) ∙ by (is_some (relation_in before).far)
  where
    by : (far : Bool) → repeats_member (if far then link_unpaired before member object place (link_at before.graph object place) else link_let_go before member object place (link_at before.graph object place)) ≡ false
    by true =
        unpaired_once (is_link member (relation_in before).partner object place) (is_link before.object before.place object place) before.object member (link_at before.graph object place) h
    by false =
        let_go_once (not (leads_elsewhere (link_at before.graph member (relation_in before).partner) before.object) && is_link member (relation_in before).partner object place)
        (is_link before.object before.place object place) member (link_at before.graph object place) h
