-- Cells and links that success leaves as they are.
use Rattle.std.proofs.Common.{◌≡◌, ℕ, ◌+◌, ◌<◌, ◌≤◌, Bool, List, ◌∷◌, length, map, get_or, drop, Option, None, Some, sym, ap, ◌∙◌}
use Rattle.std.specs.Prelude.{IsTrue}
use Rattle.std.specs.List.{enumerate_from}
use Rattle.std.specs.Ordering.{is_eq}
use Rattle.std.specs.Cmp.{Equal-is}
use Rattle.std.proofs.lemmas.List.{drop_all}
use Rattle.std.proofs.lemmas.Simd.{map-map}
use Rattle.base_core.specs.declared.ids.ObjId.{ObjId}
use Rattle.base_core.specs.declared.value.Value.{Value}
use Rattle.base_core.specs.Order.{value_cmp}
use Rattle.base_core.proofs.Exact.{exact_value}
use Rattle.class_layouts.proofs.Steps.{left_at, numbered_at}
use Rattle.object_arena.specs.declared.object.Cell.{Cell}
use Rattle.object_arena.specs.declared.object.Link.{Link}
use Rattle.object_rows.specs.declared.prepared.Prepared.{Prepared}
use Rattle.object_rows.specs.Seen.{is_cleared}
use Rattle.graph_flushed.specs.Flushed.{held_or, kept_cell, kept_link, kept_links, prepared_link}

-- ---- items that a change leaves as they are, one after another

-- those from a place on stay
abbrev pub StayFrom : {X : Type 0} → (ℕ × X → X) → List X → ℕ → Type 0
StayFrom change xs place = map change (enumerate_from place (drop place xs)) ≡ drop place xs

pub stay_more : {X P : Type 0} (change : ℕ × X → X) (xs : List X) (i : ℕ) (d : X) → i < length xs → change (i, get_or xs i d) ≡ get_or xs i d → (StayFrom change xs i → P) → StayFrom change xs (i + 1) → P
stay_more change xs i d less same before after =
    before
    (ap (λ placed. map change placed) (numbered_at xs i d less)
    ∙ ap (λ it. it ∷ map change (enumerate_from (i + 1) (drop (i + 1) xs))) same
    ∙ ap (λ items. get_or xs i d ∷ items) after
    ∙ sym (left_at xs i d less))

pub stay_all : {X P : Type 0} (change : ℕ × X → X) (xs : List X) (i : ℕ) → length xs ≤ i → (StayFrom change xs i → P) → P
stay_all change xs i ended before = before (ap (λ items. map change (enumerate_from i items)) (drop_all i xs ended) ∙ sym (drop_all i xs ended))

-- ---- cells

-- values that tie in the order are one
pub one_value : (value known : Value) (same : Bool) → same ≡ is_eq (value_cmp value known) → IsTrue same → Some known ≡ Some value
one_value value known same is holds = ap (λ (v : Value). Some v) (sym (exact_value value known ((Equal-is (value_cmp value known)).0 (sym is ∙ holds))))

pub expired_kept : (cell : Cell) → cell.value ≡ None → kept_cell cell ≡ cell
expired_kept cell is = ap (λ (o : Option Value). held_or o cell) is

pub held_kept : (cell : Cell) (value : Value) → cell.value ≡ Some value → cell.base ≡ Some value → kept_cell cell ≡ cell
held_kept cell value is base =
    ap (λ (o : Option Value). held_or o cell) is
    ∙ ap (λ (o : Option Value). let it : Cell = record { value = o; base = Some value } in it) (sym is)
    ∙ ap (λ (o : Option Value). let it : Cell = record { value = cell.value; base = o } in it) (sym base)

pub ruleset values = (one_value, expired_kept, held_kept)

-- ---- links

-- each link is left as it is
pub links_stay : (prepared : Prepared) (object : ObjId) (links : List Link)
    → map (λ (placed : ℕ × Link). kept_link (prepared_link (is_cleared prepared object (record { 0 = placed.0 })) placed.1)) (enumerate_from 0 links) ≡ links → kept_links prepared object links ≡ links
links_stay prepared object links same = map-map kept_link (λ (placed : ℕ × Link). prepared_link (is_cleared prepared object (record { 0 = placed.0 })) placed.1) (enumerate_from 0 links) ∙ same
