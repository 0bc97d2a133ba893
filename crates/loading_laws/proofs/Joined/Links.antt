-- The links of joined options are filled, one option and one owner after the other: what an owner's link at one place holds in the end.
use Rattle.std.proofs.Common.{◌≡◌, ◌⊎◌, inl, inr, ℕ, suc, ◌+◌, ◌==◌, Bool, true, false, ◌&&◌, ◌||◌, List, [], ◌∷◌, length, Option, None, Some, refl, sym, ap, subst, ◌∙◌, arith}
use Rattle.std.specs.Prelude.{slice_get, slice_index_or, slice_set}
use Rattle.std.specs.List.{AllByRecursion, enumerate_from, list_any}
use Rattle.std.proofs.lemmas.Bool.{eqb-false, eqb-true}
use Rattle.std.proofs.lemmas.List.{get_or-set_other, length-set}
use Rattle.base_core.specs.declared.ids.ClassId.{ClassId}
use Rattle.base_core.specs.declared.ids.ObjId.{ObjId}
use Rattle.base_core.specs.declared.ids.RelNo.{RelNo}
use Rattle.base_core.proofs.Tests.{or_false}
use Rattle.class_mapping.specs.Mapped.{Mapped}
use Rattle.keeper_core.specs.Programs.{each, give}
use Rattle.object_arena.specs.declared.object.Link.{Link}
use Rattle.object_arena.specs.declared.object.Link.TheVariants.{Unset, Unloaded, One, Many}
use Rattle.object_arena.specs.declared.object.Object.{Object}
use Rattle.object_arena.specs.Graph.{Graph, IsLink, IsObject, is_among, no_object, object_at, place_of, with_link}
use Rattle.load_rows.specs.Loading.{Loading}
use Rattle.load_rows.specs.Links.{collection_filled, collection_of, end_filled, end_of, in_key_order, link_at, with_loaded}
use Rattle.load_batches.specs.Batches.{is_unloaded}
use Rattle.joined_rows.specs.declared.parts.Part.{Part}
use Rattle.object_parts.specs.declared.answers.Taken.{Taken}
use Rattle.load_queries.specs.Joined.{fill_option, fill_options, fill_owner, given_to, is_many, link_filled}
use Rattle.loading_laws.specs.Strategies.Filled.{Goes}
use Rattle.loading_laws.specs.Strategies.Standing.{Stays}
use Rattle.loading_laws.proofs.Strategies.Batch.{or_assoc, or_true, stays_loaded}
use Rattle.loading_laws.proofs.Strategies.Finding.{Same, same_link, same_same, same_then}
use Rattle.loading_laws.proofs.Strategies.Goes.{change_to, given, parted}
use Rattle.loading_laws.proofs.Strategies.Standing.{made_later, set_related, stays_same, stays_then}

-- ---- one link

-- what a link is filled with, if it is unloaded
abbrev link_of : Bool → List ObjId → Graph → Link → Option Link
link_of true given graph link = collection_of (in_key_order graph given) link
link_of false given graph link = end_of (slice_get given 0) link

filled_is : (many : Bool) (owner : ObjId) (place : RelNo) (given : List ObjId) (own : Loading) → link_filled many owner place given own ≡ with_loaded owner place (link_of many given own.graph (link_at own.graph owner place)) own
unfolding collection_filled end_filled
filled_is true owner place given own = refl
filled_is false owner place given own = refl

-- a loaded link stays
loaded_stays : (many : Bool) (given : List ObjId) (graph : Graph) (link : Link) → is_unloaded link ≡ false → link_of many given graph link ≡ None
loaded_stays many given graph (Unloaded added removed) h = absurd cc
loaded_stays true given graph Unset h = refl
loaded_stays true given graph (One end changed) h = refl
loaded_stays true given graph (Many members base) h = refl
loaded_stays false given graph Unset h = refl
loaded_stays false given graph (One end changed) h = refl
loaded_stays false given graph (Many members base) h = refl

same_loaded : (owner : ObjId) (place : RelNo) (link : Option Link) (own : Loading) → Same own.graph (with_loaded owner place link own).graph
same_loaded owner place None own = same_same own.graph
same_loaded owner place (Some link) own = same_link own.graph owner place link

-- an object has as many links as before
held_still : (owner other : ObjId) (place at : RelNo) (link : Option Link) (own : Loading) → IsLink own.graph owner place → IsLink (with_loaded other at link own).graph owner place
held_still owner other place at None own held = held
held_still owner other place at (Some link) own held =
    let new : Object = record (object_at own.graph other) { links = slice_set (object_at own.graph other).links at.0 link } in
    let long : length (object_at (with_link own.graph other at link) owner).links ≡ length (object_at own.graph owner).links =
    set_related (λ (x y : Object). length y.links ≡ length x.links) own.graph.objects (place_of other) (place_of owner) new no_object (λ x. refl) (length-set (object_at own.graph other).links at.0 link) in
    omega (arith, long, held)

-- another link is filled
apart_by : (owner other : ObjId) (place at : RelNo) (link : Link) (graph : Graph) (b c : Bool) → (at.0 == place.0) ≡ b → (other.0 == owner.0) ≡ c → (b && c) ≡ false → IsObject graph owner → IsObject graph other
    → link_at (with_link graph other at link) owner place ≡ link_at graph owner place
apart_by owner other place at link graph true true same one apart made there = absurd cc
apart_by owner other place at link graph true false same one apart made there =
    let new : Object = record (object_at graph other) { links = slice_set (object_at graph other).links at.0 link } in
    let no : other.0 ≡ owner.0 → ⊥ = eqb-false other.0 owner.0 one in
    ap (λ (o : Object). slice_index_or o.links place.0 Unset) (get_or-set_other graph.objects (place_of other) (place_of owner) new no_object (λ e. no (omega (arith, e, made.0, there.0))))
apart_by owner other place at link graph false c same one apart made there =
    let new : Object = record (object_at graph other) { links = slice_set (object_at graph other).links at.0 link } in
    set_related (λ (x y : Object). slice_index_or y.links place.0 Unset ≡ slice_index_or x.links place.0 Unset) graph.objects (place_of other) (place_of owner) new no_object (λ x. refl)
    (get_or-set_other (object_at graph other).links at.0 place.0 link Unset (λ e. eqb-false at.0 place.0 same (sym e)))

apart_loaded : (owner other : ObjId) (place at : RelNo) (link : Option Link) (own : Loading) → ((at.0 == place.0) && (other.0 == owner.0)) ≡ false → IsObject own.graph owner → IsObject own.graph other
    → link_at (with_loaded other at link own).graph owner place ≡ link_at own.graph owner place
apart_loaded owner other place at None own apart made there = refl
apart_loaded owner other place at (Some link) own apart made there = apart_by owner other place at link own.graph (at.0 == place.0) (other.0 == owner.0) refl refl apart made there

-- ---- what all links leave

pub record LeavesObjects (old new : Graph) : Type 0 where
  pub stays : Stays old new
  pub same : Same old new

module _ (mapped : Mapped) (class : ClassId) (taken : List Taken) where
  one_leaves : (many : Bool) (owner : ObjId) (place : RelNo) (given : List ObjId) (own now : Loading) → link_filled many owner place given own ≡ now → LeavesObjects own.graph now.graph
  one_leaves many owner place given own now is =
      let link : Option Link = link_of many given own.graph (link_at own.graph owner place) in
      subst (λ (u : Loading). LeavesObjects own.graph u.graph) (sym (filled_is many owner place given own) ∙ is) (record { stays = stays_loaded owner place link own; same = same_loaded owner place link own })

  leaves_then : (a b c : Graph) → LeavesObjects a b → LeavesObjects b c → LeavesObjects a c
  leaves_then a b c p q = record { stays = stays_then a b c p.stays q.stays; same = same_then a b c p.same q.same }

  leaves_none : (u : Unit {0}) (own now : Loading) → Goes (give u) own tt now → LeavesObjects own.graph now.graph
  leaves_none u own now g =
      let end = given u tt own now g in subst (λ (v : Loading). LeavesObjects own.graph v.graph) end.1 (record { stays = stays_same own.graph; same = same_same own.graph })

  owners_leave : (option : ℕ × Part) (owners : List ObjId) (u : Unit {0}) (own now : Loading) → Goes (each (fill_owner mapped class taken option) u owners) own tt now → LeavesObjects own.graph now.graph
  unfolding each
  owners_leave option [] u own now g = leaves_none u own now g
  owners_leave option (owner ∷ owners) u own now g =
      let one = parted (fill_owner mapped class taken option owner u) (λ (v : Unit {0}). each (fill_owner mapped class taken option) v owners) own tt now g in
      let is = change_to (link_filled (is_many mapped class option.1.place) owner option.1.place (given_to option.0 taken owner)) own one.value one.between one.first in
      leaves_then own.graph one.between.graph now.graph (one_leaves (is_many mapped class option.1.place) owner option.1.place (given_to option.0 taken owner) own one.between is) (owners_leave option owners one.value one.between now one.second)

  options_leave : (owners : List ObjId) (options : List (ℕ × Part)) (u : Unit {0}) (own now : Loading) → Goes (each (fill_option mapped class taken owners) u options) own tt now → LeavesObjects own.graph now.graph
  unfolding each fill_option
  options_leave owners [] u own now g = leaves_none u own now g
  options_leave owners (option ∷ options) u own now g =
      let one = parted (fill_option mapped class taken owners option u) (λ (v : Unit {0}). each (fill_option mapped class taken owners) v options) own tt now g in
      leaves_then own.graph one.between.graph now.graph (owners_leave option owners tt own one.between (record { answer = one.first.answer; leaves = one.first.leaves }))
      (options_leave owners options one.value one.between now one.second)

  -- who is found stays, whatever links are filled
  pub all_leave : (parts : List Part) (owners : List ObjId) (own now : Loading) → Goes (fill_options mapped class parts taken owners) own tt now → LeavesObjects own.graph now.graph
  unfolding fill_options
  all_leave parts owners own now g = options_leave owners (enumerate_from 0 parts) tt own now (record { answer = g.answer; leaves = g.leaves })

-- ---- an owner's link at a place

or_more : (sure b x rest : Bool) → ((sure || (b && x)) || (b && rest)) ≡ (sure || (b && (x || rest)))
or_more true b x rest = refl
or_more false false x rest = refl
or_more false true x rest = refl

and_false : (b : Bool) → (b && false) ≡ false
and_false true = refl
and_false false = refl

and_true : (b : Bool) → (b && true) ≡ b
and_true true = refl
and_true false = refl

module _ (mapped : Mapped) (class : ClassId) (taken : List Taken) (owner : ObjId) (place : RelNo) (old : Link) (start : Graph) (made : IsObject start owner) (P : Graph → Link → Type 0)
    (later : (before after : Graph) (link : Link) → Stays before after → P before link → P after link) (loaded : (graph : Graph) (link : Link) → P graph link → is_unloaded link ≡ false) where
  -- the link waits still, or it is filled; surely where it is known to be
  abbrev Waits : Bool → Graph → Type 0
  Waits true graph = P graph (link_at graph owner place)
  Waits false graph = (link_at graph owner place ≡ old) ⊎ P graph (link_at graph owner place)

  carried : (sure : Bool) (before after : Graph) → Stays before after → link_at after owner place ≡ link_at before owner place → Waits sure before → Waits sure after
  carried true before after stays same filled = subst (P after) (sym same) (later before after (link_at before owner place) stays filled)
  carried false before after stays same (inl waits) = inl (same ∙ waits)
  carried false before after stays same (inr filled) = inr (subst (P after) (sym same) (later before after (link_at before owner place) stays filled))

  pub record At (sure : Bool) (graph : Graph) : Type 0 where
    pub stays : Stays start graph
    pub same : Same start graph
    pub held : IsLink graph owner place
    pub stand : Waits sure graph

  -- what a link is filled with stands there
  abbrev pub Fills : ℕ → Type 0
  Fills number =
      (own : Loading) → Stays start own.graph → Same start own.graph → IsLink own.graph owner place → link_at own.graph owner place ≡ old
      → P (link_filled (is_many mapped class place) owner place (given_to number taken owner) own).graph (link_at (link_filled (is_many mapped class place) owner place (given_to number taken owner) own).graph owner place)

  moved : (sure now : Bool) (many : Bool) (other : ObjId) (at : RelNo) (given : List ObjId) (own : Loading) → At sure own.graph → Waits now (link_filled many other at given own).graph → At now (link_filled many other at given own).graph
  moved sure now many other at given own here stand =
      let link : Option Link = link_of many given own.graph (link_at own.graph other at) in
      record {
        stays = subst (λ (u : Loading). Stays start u.graph) (sym (filled_is many other at given own)) (stays_then start own.graph (with_loaded other at link own).graph here.stays (stays_loaded other at link own));
        same = subst (λ (u : Loading). Same start u.graph) (sym (filled_is many other at given own)) (same_then start own.graph (with_loaded other at link own).graph here.same (same_loaded other at link own));
        held = subst (λ (u : Loading). IsLink u.graph owner place) (sym (filled_is many other at given own)) (held_still owner other place at link own here.held);
        stand = stand;
      }

  other_filled : (sure : Bool) (many : Bool) (other : ObjId) (at : RelNo) (given : List ObjId) (own : Loading) → ((at.0 == place.0) && (other.0 == owner.0)) ≡ false → IsObject start other → At sure own.graph → At sure (link_filled many other at given own).graph
  other_filled sure many other at given own apart there here =
      let link : Option Link = link_of many given own.graph (link_at own.graph other at) in
      moved sure sure many other at given own here
      (subst (λ (u : Loading). Waits sure u.graph) (sym (filled_is many other at given own))
      (carried sure own.graph (with_loaded other at link own).graph (stays_loaded other at link own)
      (apart_loaded owner other place at link own apart (made_later start own.graph owner here.stays made) (made_later start own.graph other here.stays there)) here.stand))

  own_again : (sure : Bool) (many : Bool) (given : List ObjId) (own : Loading) → At sure own.graph → P own.graph (link_at own.graph owner place) → At true (link_filled many owner place given own).graph
  own_again sure many given own here filled =
      let still : link_filled many owner place given own ≡ own =
      filled_is many owner place given own ∙ ap (λ (link : Option Link). with_loaded owner place link own) (loaded_stays many given own.graph (link_at own.graph owner place) (loaded own.graph (link_at own.graph owner place) filled)) in
      subst (λ (u : Loading). At true u.graph) (sym still) (record { stays = here.stays; same = here.same; held = here.held; stand = filled })

  own_either : (number : ℕ) (own : Loading) → Fills number → At false own.graph → ((link_at own.graph owner place ≡ old) ⊎ P own.graph (link_at own.graph owner place))
      → At true (link_filled (is_many mapped class place) owner place (given_to number taken owner) own).graph
  own_either number own fills here (inl waits) =
      moved false true (is_many mapped class place) owner place (given_to number taken owner) own here (fills own here.stays here.same here.held waits)
  own_either number own fills here (inr filled) = own_again false (is_many mapped class place) (given_to number taken owner) own here filled

  own_filled : (sure : Bool) (number : ℕ) (own : Loading) → Fills number → At sure own.graph → At true (link_filled (is_many mapped class place) owner place (given_to number taken owner) own).graph
  own_filled true number own fills here = own_again true (is_many mapped class place) (given_to number taken owner) own here here.stand
  own_filled false number own fills here = own_either number own fills here here.stand

  -- ---- one owner after the other

  owner_step : (sure b c : Bool) (number : ℕ) (part : Part) (other : ObjId) (own : Loading) → (part.place.0 == place.0) ≡ b → (other.0 == owner.0) ≡ c → (part.place ≡ place → Fills number) → IsObject start other → At sure own.graph
      → At (sure || (b && c)) (link_filled (is_many mapped class part.place) other part.place (given_to number taken other) own).graph
  owner_step sure true true number part other own at_place is_owner fills there here =
      let at : place ≡ part.place = ap (λ (n : ℕ). let r : RelNo = record { 0 = n } in r) (sym (eqb-true part.place.0 place.0 at_place)) in
      let one : owner ≡ other = ap (λ (n : ℕ). let o : ObjId = record { 0 = n } in o) (sym (eqb-true other.0 owner.0 is_owner)) in
      let done : At true (link_filled (is_many mapped class place) owner place (given_to number taken owner) own).graph = own_filled sure number own (fills (sym at)) here in
      subst (λ (t : Bool). At t (link_filled (is_many mapped class part.place) other part.place (given_to number taken other) own).graph) (sym (or_true sure))
      (subst (λ (o : ObjId). At true (link_filled (is_many mapped class part.place) o part.place (given_to number taken o) own).graph) one
      (subst (λ (p : RelNo). At true (link_filled (is_many mapped class p) owner p (given_to number taken owner) own).graph) at done))
  owner_step sure true false number part other own at_place is_owner fills there here =
      subst (λ (t : Bool). At t (link_filled (is_many mapped class part.place) other part.place (given_to number taken other) own).graph) (sym (or_false sure))
      (other_filled sure (is_many mapped class part.place) other part.place (given_to number taken other) own (ap (λ (t : Bool). t && (other.0 == owner.0)) at_place ∙ is_owner) there here)
  owner_step sure false c number part other own at_place is_owner fills there here =
      subst (λ (t : Bool). At t (link_filled (is_many mapped class part.place) other part.place (given_to number taken other) own).graph) (sym (or_false sure))
      (other_filled sure (is_many mapped class part.place) other part.place (given_to number taken other) own (ap (λ (t : Bool). t && (other.0 == owner.0)) at_place) there here)

  owners_go : (number : ℕ) (part : Part) (sure : Bool) (owners : List ObjId) (u : Unit {0}) (own now : Loading) → (part.place ≡ place → Fills number) → AllByRecursion (IsObject start) owners → At sure own.graph
      → Goes (each (fill_owner mapped class taken (number, part)) u owners) own tt now → At (sure || ((part.place.0 == place.0) && is_among owners owner)) now.graph
  unfolding each
  owners_go number part sure [] u own now fills all here g =
      let end = given u tt own now g in
      subst (λ (t : Bool). At t now.graph) (sym (ap (λ (t : Bool). sure || t) (and_false (part.place.0 == place.0)) ∙ or_false sure)) (subst (λ (v : Loading). At sure v.graph) end.1 here)
  owners_go number part sure (other ∷ owners) u own now fills all here g =
      let one = parted (fill_owner mapped class taken (number, part) other u) (λ (v : Unit {0}). each (fill_owner mapped class taken (number, part)) v owners) own tt now g in
      let is = change_to (link_filled (is_many mapped class part.place) other part.place (given_to number taken other)) own one.value one.between one.first in
      let step = subst (λ (v : Loading). At (sure || ((part.place.0 == place.0) && (other.0 == owner.0))) v.graph) is
      (owner_step sure (part.place.0 == place.0) (other.0 == owner.0) number part other own refl refl fills all.0 here) in
      subst (λ (t : Bool). At t now.graph) (or_more sure (part.place.0 == place.0) (other.0 == owner.0) (is_among owners owner))
      (owners_go number part (sure || ((part.place.0 == place.0) && (other.0 == owner.0))) owners one.value one.between now fills all.1 step one.second)

  -- ---- one option after the other

  module _ (owners : List ObjId) (all : AllByRecursion (IsObject start) owners) (among : is_among owners owner ≡ true) where
    abbrev pub stands_at : Part → Bool
    stands_at part = part.place.0 == place.0

    abbrev FillsFrom : ℕ → List Part → Type 0
    FillsFrom first parts = (i : ℕ) (part : Part) → slice_get parts i ≡ Some part → part.place ≡ place → Fills (first + i)

    options_go : (first : ℕ) (parts : List Part) (sure : Bool) (u : Unit {0}) (own now : Loading) → FillsFrom first parts → At sure own.graph → Goes (each (fill_option mapped class taken owners) u (enumerate_from first parts)) own tt now
        → At (sure || list_any stands_at parts) now.graph
    unfolding each fill_option
    options_go first [] sure u own now fills here g =
        let end = given u tt own now g in subst (λ (t : Bool). At t now.graph) (sym (or_false sure)) (subst (λ (v : Loading). At sure v.graph) end.1 here)
    options_go first (part ∷ parts) sure u own now fills here g =
        let one = parted (fill_option mapped class taken owners (first, part) u) (λ (v : Unit {0}). each (fill_option mapped class taken owners) v (enumerate_from (first + 1) parts)) own tt now g in
        let start_at : first + 0 ≡ first = omega arith in
        let own_fills : part.place ≡ place → Fills first = λ same. subst Fills start_at (fills 0 part refl same) in
        let step = owners_go first part sure owners tt own one.between own_fills all here (record { answer = one.first.answer; leaves = one.first.leaves }) in
        let sure_now : (sure || ((part.place.0 == place.0) && is_among owners owner)) ≡ (sure || (part.place.0 == place.0)) =
        ap (λ (t : Bool). sure || ((part.place.0 == place.0) && t)) among ∙ ap (λ (t : Bool). sure || t) (and_true (part.place.0 == place.0)) in
        let mid : At (sure || (part.place.0 == place.0)) one.between.graph = subst (λ (t : Bool). At t one.between.graph) sure_now step in
        let more : FillsFrom (first + 1) parts = λ i other at same. let next : first + suc i ≡ first + 1 + i = omega arith in subst Fills next (fills (suc i) other at same) in
        subst (λ (t : Bool). At t now.graph) (or_assoc sure (part.place.0 == place.0) (list_any stands_at parts)) (options_go (first + 1) parts (sure || (part.place.0 == place.0)) one.value one.between now more mid one.second)

    -- the options' links of owners are filled, and one of the options stands at the place
    pub options_filled : (parts : List Part) (own now : Loading) → ((i : ℕ) (part : Part) → slice_get parts i ≡ Some part → part.place ≡ place → Fills i) → list_any stands_at parts ≡ true → own.graph ≡ start → IsLink start owner place
        → link_at start owner place ≡ old → Goes (fill_options mapped class parts taken owners) own tt now → At true now.graph
    unfolding fill_options
    options_filled parts own now fills some is held waits g =
        let began : At false own.graph =
        subst (At false) (sym is) (record { stays = stays_same start; same = same_same start; held = held; stand = inl waits }) in
        subst (λ (t : Bool). At t now.graph) some
        (options_go 0 parts false tt own now (λ i part at same. let first : i ≡ 0 + i = omega arith in subst Fills first (fills i part at same)) began (record { answer = g.answer; leaves = g.leaves }))
