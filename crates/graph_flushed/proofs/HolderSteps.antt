-- New objects that are entered under their keys, from the last on.
use Rattle.std.proofs.Common.{◌≡◌, ℕ, ◌+◌, ◌-◌, ◌<◌, ◌≤◌, Bool, true, false, cond, List, [], length, get_or, drop, Option, None, Some, refl, sym, ap, ◌∙◌, arith}
use Rattle.std.specs.Prelude.{slice_get}
use Rattle.std.specs.List.{position_from, zip}
use Rattle.std.specs.Option.{option_map}
use Rattle.std.proofs.lemmas.Slice.Zip.{get_or-zip, length-zip}
use Rattle.base_core.specs.declared.ids.ClassId.{ClassId}
use Rattle.base_core.specs.declared.ids.ObjId.{ObjId}
use Rattle.base_core.specs.declared.value.Value.{Value}
use Rattle.object_arena.specs.Entries.{Keyed, entry_in, entry_of}
use Rattle.object_arena.specs.Graph.{no_class_id}
use Rattle.object_arena.specs.Identity.{id_of_place}
use Rattle.object_rows.proofs.PlaceSteps.{found_first, found_from, none_behind}
use Rattle.graph_flushed.specs.Keys.{Keys, is_given}
use Rattle.graph_flushed.specs.Ready.{AreHolders, IsEntered}

-- the new object that has a key under a root, of those from a place on the first
abbrev pub holder_from : Keys → List ClassId → ClassId → List Value → ℕ → Option ObjId
holder_from keys roots root key place = option_map id_of_place (position_from (is_given root key) place (drop place (zip keys roots)))

abbrev pub AreEntered : List Keyed → Keys → List ClassId → ℕ → Type 0
AreEntered maps keys roots place = (root : ClassId) (key : List Value) → entry_of maps root key ≡ holder_from keys roots root key place

pub none_entered : (maps : List Keyed) (keys : Keys) (roots : List ClassId) → maps ≡ [] → AreEntered maps keys roots (length keys - 0)
none_entered maps keys roots none =
    λ root key.
    ap (λ (ms : List Keyed). entry_in (slice_get ms root.0) key) none
    ∙ sym (ap (option_map id_of_place) (none_behind (is_given root key) (zip keys roots) (length keys - 0) (omega (arith, length-zip keys roots))))

chosen : (b : Bool) (n : ℕ) (found : Option ℕ) → cond b (Some (id_of_place n)) (option_map id_of_place found) ≡ option_map id_of_place (cond b (Some n) found)
chosen true n found = refl
chosen false n found = refl

pub one_entered : (old new : List Keyed) (keys : Keys) (roots : List ClassId) (behind n : ℕ) (own : Option (List Value)) → length roots ≡ length keys → n + 1 + behind ≡ length keys → own ≡ get_or keys n None
    → IsEntered old new own (get_or roots (n + 1 - 1) no_class_id) (id_of_place n) → AreEntered old keys roots (length keys - behind) → AreEntered new keys roots (length keys - (behind + 1))
one_entered old new keys roots behind n own rooted h at step so_far =
    λ root key.
    let test = is_given root key in
    let all = zip keys roots in
    let before : length keys - behind ≡ n + 1 = omega (arith, h) in
    let after : n ≡ length keys - (behind + 1) = omega (arith, h) in
    let place : n + 1 - 1 ≡ n = omega arith in
    let less : n < length keys = omega (arith, h) in
    let long : n < length roots = omega (arith, h, rooted) in
    let inside : n < length all = omega (arith, length-zip keys roots, less, long) in
    let item : test (own, get_or roots (n + 1 - 1) no_class_id) ≡ test (get_or all n (None, no_class_id)) =
    ap (λ (k : Option (List Value)). test (k, get_or roots (n + 1 - 1) no_class_id)) at
    ∙ ap (λ (p : ℕ). test (get_or keys n None, get_or roots p no_class_id)) place
    ∙ ap test (sym (get_or-zip keys roots n (None, no_class_id) less long)) in
    step root key
    ∙ ap (cond (test (own, get_or roots (n + 1 - 1) no_class_id)) (Some (id_of_place n))) (so_far root key ∙ ap (λ (p : ℕ). holder_from keys roots root key p) before)
    ∙ ap (λ (b : Bool). cond b (Some (id_of_place n)) (holder_from keys roots root key (n + 1))) item
    ∙ chosen (test (get_or all n (None, no_class_id))) n (position_from test (n + 1) (drop (n + 1) all))
    ∙ ap (option_map id_of_place) (sym (found_from test all n (None, no_class_id) inside))
    ∙ ap (λ (p : ℕ). holder_from keys roots root key p) after

pub all_entered : (maps : List Keyed) (keys : Keys) (roots : List ClassId) (behind : ℕ) → length keys ≤ behind → AreEntered maps keys roots (length keys - behind) → AreHolders maps keys roots
all_entered maps keys roots behind ended so_far =
    λ root key.
    let none : length keys - behind ≡ 0 = omega (arith, ended) in
    so_far root key
    ∙ ap (λ (p : ℕ). holder_from keys roots root key p) none
    ∙ ap (option_map id_of_place) (found_first (is_given root key) (zip keys roots))
