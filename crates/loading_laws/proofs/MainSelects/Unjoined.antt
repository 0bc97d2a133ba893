-- A query without joined options: its main select, and its load.
use Rattle.std.proofs.Common.{◌≡◌, ℕ, ◌-◌, suc, Bool, List, [], ◌∷◌, ◌++◌, length, map, fold, Option, None, Some, Result, Ok, Err, refl, ap, ◌∙◌, arith}
use Rattle.std.specs.Option.{option_map}
use Rattle.std.proofs.lemmas.List.{map-append}
use Rattle.base_core.specs.declared.ids.ClassId.{ClassId}
use Rattle.base_core.specs.declared.ids.ObjId.{ObjId}
use Rattle.base_core.specs.declared.ids.RelNo.{RelNo}
use Rattle.base_core.specs.declared.value.Value.{Value}
use Rattle.base_core.specs.declared.refusal.Refusal.{Refusal}
use Rattle.expr_types.specs.declared.expr.Expr.{Expr}
use Rattle.expr_types.specs.declared.select.ObjectQuery.{ObjectQuery}
use Rattle.expr_types.specs.declared.select.Select.{Select}
use Rattle.class_mapping.specs.Mapped.{Mapped}
use Rattle.object_arena.specs.Graph.{Graph}
use Rattle.keeper_core.specs.Beside.{on_own, quiet_run}
use Rattle.keeper_core.specs.Programs.{Run, ◌>>=◌, continue_from, each, give, with_events_before}
use Rattle.load_filling.specs.Rows.{row_object}
use Rattle.load_rows.specs.Loading.{Loading, take_row, taken_as}
use Rattle.load_calls.specs.Reading.{World, read}
use Rattle.load_calls.specs.Collections.{take_next, take_rows}
use Rattle.object_parts.specs.Lists.{firsts}
use Rattle.load_queries.specs.Queries.{load_select, take_objects}
use Rattle.main_selects.specs.MainSelect.{main_select, with_joined, with_shifted}
use Rattle.main_selects.specs.Shifted.{shifted}
use Rattle.joined_rows.specs.Parts.{parts_of}
use Rattle.object_parts.specs.declared.answers.Taken.{Taken}
use Rattle.joined_rows.specs.Taking.{take_joined, take_members, take_one, take_owner, taken_with}
use Rattle.load_queries.specs.Joined.{fill_options, fill_owners, fill_taken, load_joined, take_answers}
use Rattle.load_queries.specs.Selectin.{load_objects, load_query, with_options}
use Rattle.loading_laws.proofs.Wide.Levels.{unshifted}
use Rattle.loading_laws.proofs.MainSelects.Rows.{row_same}

-- ---- its select

filter_stays : (own more : ℕ) (filter : Option Expr) → more ≡ 0 → option_map (shifted own more) filter ≡ filter
filter_stays own more None none = refl
filter_stays own more (Some e) none = ap (λ (n : ℕ). let one : Option Expr = Some (shifted own n e) in one) none ∙ ap Some (unshifted own e)

order_stays : (own more : ℕ) (order : List (Expr × Bool)) → more ≡ 0 → map (λ key. (shifted own more key.0, key.1)) order ≡ order
order_stays own more [] none = refl
order_stays own more (key ∷ order) none =
    ap (λ (e : Expr). let keys : List (Expr × Bool) = (e, key.1) ∷ map (λ (key : Expr × Bool). (shifted own more key.0, key.1)) order in keys) (ap (λ (n : ℕ). shifted own n key.0) none ∙ unshifted own key.0)
    ∙ ap (λ (keys : List (Expr × Bool)). key ∷ keys) (order_stays own more order none)

none_more : (s : Select) → with_shifted s s ≡ s
none_more s =
    let none : length s.joins - length s.joins ≡ 0 = omega arith in
    ap (λ (filter : Option Expr). record s { filter = filter; order = map (λ (key : Expr × Bool). (shifted (suc (length s.joins)) (length s.joins - length s.joins) key.0, key.1)) s.order })
    (filter_stays (suc (length s.joins)) (length s.joins - length s.joins) s.filter none)
    ∙ ap (λ (order : List (Expr × Bool)). record s { order = order }) (order_stays (suc (length s.joins)) (length s.joins - length s.joins) s.order none)

pub own_select : (mapped : Mapped) (query : ObjectQuery) → query.joined ≡ [] → main_select mapped query ≡ query.select
unfolding main_select
own_select mapped query none = ap (λ (places : List RelNo). with_shifted query.select (fold (with_joined mapped query.class) query.select places)) none ∙ none_more query.select

-- ---- its rows

-- what the joined load makes of the object of a row
abbrev joined_on : Mapped → ClassId → List Value → List (List Value) → List Taken → Run Loading ObjId → Run Loading (List ObjId)
joined_on mapped class row rows taken run =
    let owned : Run Loading Taken = continue_from run.events run.after run.answer (λ owner. (take_members mapped [] row >>= λ members. give (taken_with owner members))) in
    let more : Run Loading (List Taken) = continue_from owned.events owned.after owned.answer (λ one. give (taken ++ one ∷ [])) in
    let all : Run Loading (List Taken) = continue_from more.events more.after more.answer (λ taken. each (take_one mapped class []) taken rows) in
    continue_from all.events all.after all.answer (fill_taken mapped class [])

-- what the plain load makes of it
abbrev plain_on : Mapped → ClassId → List (List Value) → List ObjId → Run Loading ObjId → Run Loading (List ObjId)
plain_on mapped class rows objects run =
    let more : Run Loading (List ObjId) = continue_from run.events run.after run.answer (λ object. give (objects ++ object ∷ [])) in
    let all : Run Loading (List ObjId) = continue_from more.events more.after more.answer (λ objects. each (take_next mapped class) objects rows) in
    continue_from all.events all.after all.answer (λ objects. give (firsts objects))

abbrev Goes : Mapped → ClassId → List (List Value) → Type 0
Goes mapped class rows =
    (taken : List Taken) (objects : List ObjId) (own : Loading) → map (λ one. one.owner) taken ≡ objects
    → (each (take_one mapped class []) taken rows >>= fill_taken mapped class []) own ≡ (each (take_next mapped class) objects rows >>= λ objects. give (firsts objects)) own

-- no row is left
all_taken : (mapped : Mapped) (class : ClassId) → Goes mapped class []
unfolding each ◌>>=◌ give fill_owners fill_options
all_taken mapped class taken objects own are = ap (λ (xs : List ObjId). let run : Run Loading (List ObjId) = record { events = []; answer = Ok (firsts xs); after = own } in run) are

row_on : (mapped : Mapped) (class : ClassId) (row : List Value) (rows : List (List Value)) → Goes mapped class rows → (taken : List Taken) (objects : List ObjId) (own : Loading) → map (λ one. one.owner) taken ≡ objects
    → (found : Result (ObjId × Graph) Refusal) → joined_on mapped class row rows taken (taken_as mapped class row own found) ≡ plain_on mapped class rows objects (taken_as mapped class row own found)
unfolding each ◌>>=◌ give take_members
row_on mapped class row rows later taken objects own are (Err e) = refl
row_on mapped class row rows later taken objects own are (Ok found) =
    later (taken ++ taken_with found.0 [] ∷ []) (objects ++ found.0 ∷ []) (taken_as mapped class row own (Ok found)).after
    (map-append (λ (one : Taken). one.owner) taken (taken_with found.0 [] ∷ []) ∙ ap (λ (xs : List ObjId). xs ++ found.0 ∷ []) are)

row_more : (mapped : Mapped) (class : ClassId) (row : List Value) (rows : List (List Value)) → Goes mapped class rows → Goes mapped class (row ∷ rows)
unfolding each ◌>>=◌ take_owner take_row
row_more mapped class row rows later taken objects own are =
    ap (joined_on mapped class row rows taken) (row_same mapped class row own) ∙ row_on mapped class row rows later taken objects own are (row_object mapped class row own.graph)

goes : (mapped : Mapped) (class : ClassId) (rows : List (List Value)) → Goes mapped class rows
goes mapped class [] = all_taken mapped class
goes mapped class (row ∷ rows) = row_more mapped class row rows (goes mapped class rows)

answers_same : (mapped : Mapped) (class : ClassId) (rows : List (List Value)) (own : Loading) → take_answers mapped class [] rows own ≡ take_objects mapped class rows own
unfolding take_answers take_joined take_rows
answers_same mapped class rows own = goes mapped class rows [] [] own refl

-- ---- its load

-- programs that go on alike after the same one
alike_after : {W A B : Type 0} (m : W → Run W A) (f g : A → W → Run W B) (w : W) → ((a : A) (now : W) → f a now ≡ g a now) → (m >>= f) w ≡ (m >>= g) w
unfolding ◌>>=◌
alike_after {W = W} {A = A} {B = B} m f g w alike = by (m w).answer
  where
    by : (answer : Result A Refusal) → continue_from (m w).events (m w).after answer f ≡ continue_from (m w).events (m w).after answer g
    by (Ok a) = ap (with_events_before (m w).events) (alike a (m w).after)
    by (Err e) = refl

own_same : {A : Type 0} (f g : Loading → Run Loading A) (w : World) → f w.own ≡ g w.own → on_own f w ≡ on_own g w
unfolding on_own
own_same f g w same = ap (quiet_run w.store) same

pub plain_load : (mapped : Mapped) (query : ObjectQuery) (world : World) → query.joined ≡ [] → load_joined mapped query world ≡ load_select mapped query world
unfolding load_joined load_select parts_of
plain_load mapped query world none =
    ap (λ (s : Select). (read mapped.schema s >>= λ rows. on_own (take_answers mapped query.class (parts_of mapped query.class query.joined) rows)) world) (own_select mapped query none)
    ∙ alike_after (read mapped.schema query.select) (λ rows. on_own (take_answers mapped query.class (parts_of mapped query.class query.joined) rows)) (λ rows. on_own (take_objects mapped query.class rows)) world
    (λ rows now. own_same (take_answers mapped query.class (parts_of mapped query.class query.joined) rows) (take_objects mapped query.class rows) now
    (ap (λ (places : List RelNo). take_answers mapped query.class (parts_of mapped query.class places) rows now.own) none ∙ answers_same mapped query.class rows now.own))

-- with the further options behind it
pub plain_query : (mapped : Mapped) (query : ObjectQuery) (world : World) → query.joined ≡ [] → load_query mapped query world ≡ load_objects mapped query world
unfolding load_query load_objects ◌>>=◌
plain_query mapped query world none =
    ap (λ (run : Run World (List ObjId)). continue_from run.events run.after run.answer (with_options mapped query)) (plain_load mapped query world none)
