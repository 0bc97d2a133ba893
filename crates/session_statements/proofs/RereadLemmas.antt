-- Objects of a table that are to be read again, and which of them come to differ.
use Rattle.std.proofs.Common.{◌≡◌, Bool, true, false, not, ◌&&◌, ◌==◌, List, [], ◌∷◌, map, Option, None, Some, refl, sym, ap, ◌∙◌}
use Rattle.std.specs.Prelude.{is_none}
use Rattle.std.specs.List.{list_all, list_any}
use Rattle.std.proofs.lemmas.Bool.{and_parts}
use Rattle.base_core.specs.declared.ids.ObjId.{ObjId}
use Rattle.base_core.specs.declared.ids.TableId.{TableId}
use Rattle.base_core.specs.declared.value.Value.{Value}
use Rattle.class_mapping.specs.Mapped.{Mapped, tables_of}
use Rattle.object_arena.specs.declared.object.Cell.{Cell}
use Rattle.object_arena.specs.declared.object.Link.{Link}
use Rattle.object_arena.specs.declared.object.Link.TheVariants.{Unset, Unloaded, One, Many}
use Rattle.object_arena.specs.declared.object.Object.{Object}
use Rattle.object_arena.specs.Graph.{expired_cell, expired_object, is_persistent}
use Rattle.object_records.specs.Same.{same_object}
use Rattle.object_records.proofs.Differing.{differs_as}
use Rattle.object_records.proofs.Exact.{object_itself}
use Rattle.session_statements.specs.Rewriting.{are_none, expired_if, is_cell_expired, is_expired, is_link_unloaded, is_reread}

-- ---- cells and links of which nothing is known

cell_by_parts : (value base : Option Value) → (is_none value && is_none base) ≡ true → expired_cell ≡ record { value = value; base = base }
cell_by_parts None None h = refl
cell_by_parts None (Some base) h = absurd cc
cell_by_parts (Some value) base h = absurd cc

cells_stay : (cells : List Cell) → list_all is_cell_expired cells ≡ true → cells ≡ map (λ cell. expired_cell) cells
cells_stay [] h = refl
cells_stay (cell ∷ cells) h =
    let both = and_parts (is_cell_expired cell) (list_all is_cell_expired cells) h in
    ap (λ (c : Cell). c ∷ cells) (sym (cell_by_parts cell.value cell.base both.0)) ∙ ap (λ (cs : List Cell). expired_cell ∷ cs) (cells_stay cells both.1)

no_changes : (added removed : List ObjId) → are_none added removed ≡ true → Unloaded added removed ≡ Unloaded [] []
no_changes [] [] h = refl
no_changes [] (r ∷ removed) h = absurd cc
no_changes (a ∷ added) removed h = absurd cc

link_is : (link : Link) → is_link_unloaded link ≡ true → link ≡ Unloaded [] []
link_is Unset h = absurd cc
link_is (Unloaded added removed) h = no_changes added removed h
link_is (One end is_set) h = absurd cc
link_is (Many members base) h = absurd cc

links_stay : (links : List Link) → list_all is_link_unloaded links ≡ true → links ≡ map (λ link. Unloaded [] []) links
links_stay [] h = refl
links_stay (link ∷ links) h =
    let both = and_parts (is_link_unloaded link) (list_all is_link_unloaded links) h in
    ap (λ (l : Link). l ∷ links) (link_is link both.0) ∙ ap (λ (ls : List Link). Unloaded [] [] ∷ ls) (links_stay links both.1)

cells_all : (cells : List Cell) → list_all is_cell_expired (map (λ cell. expired_cell) cells) ≡ true
cells_all [] = refl
cells_all (cell ∷ cells) = cells_all cells

links_all : (links : List Link) → list_all is_link_unloaded (map (λ link. Unloaded [] []) links) ≡ true
links_all [] = refl
links_all (link ∷ links) = links_all links

not_true : (b : Bool) → not b ≡ true → b ≡ false
not_true true h = absurd cc
not_true false h = refl

expired_stays : (o : Object) → is_expired o ≡ true → o ≡ expired_object o
expired_stays o h =
    let orphan = and_parts (not o.orphan) (list_all is_cell_expired o.cells && list_all is_link_unloaded o.links) h in
    let parts = and_parts (list_all is_cell_expired o.cells) (list_all is_link_unloaded o.links) orphan.1 in
    ap (λ (b : Bool). record o { orphan = b }) (not_true o.orphan orphan.0)
    ∙ ap (λ (cells : List Cell). record o { orphan = false; cells = cells }) (cells_stay o.cells parts.0)
    ∙ ap (λ (links : List Link). record o { orphan = false; cells = map (λ cell. expired_cell) o.cells; links = links }) (links_stay o.links parts.1)

all_expired : (a b : Bool) → a ≡ true → b ≡ true → (a && b) ≡ true
all_expired a b p q = ap (λ (x : Bool). x && b) p ∙ q

expired_whole : (o : Object) → is_expired (expired_object o) ≡ true
expired_whole o = all_expired (list_all is_cell_expired (expired_object o).cells) (list_all is_link_unloaded (expired_object o).links) (cells_all o.cells) (links_all o.links)

-- an object that is to be read again comes to differ, unless nothing is known of it
pub differs_read : (o : Object) (is_read nothing : Bool) → is_read ≡ true → nothing ≡ is_expired o → not nothing ≡ not (same_object o (expired_if is_read o))
differs_read o is_read nothing is known =
    ap not known ∙ differs_as o (expired_object o) (is_expired o) (expired_stays o) (λ same. ap is_expired same ∙ expired_whole o)
    ∙ ap (λ (b : Bool). not (same_object o (expired_if b o))) (sym is)

-- and any other stays
pub stays_unread : (o : Object) (is_read : Bool) → is_read ≡ false → false ≡ not (same_object o (expired_if is_read o))
stays_unread o is_read is = ap not (sym (object_itself o)) ∙ ap (λ (b : Bool). not (same_object o (expired_if b o))) (sym is)

pub ruleset differences = (differs_read, stays_unread)

-- ---- an object that is to be read again

-- it is persistent
pub read_persists : (mapped : Mapped) (table : TableId) (o : Object) → is_reread mapped table o ≡ true → is_persistent o.state ≡ true
read_persists mapped table o is = (and_parts (is_persistent o.state) (list_any (λ own. own.0 == table.0) (tables_of mapped o.class)) is).0
