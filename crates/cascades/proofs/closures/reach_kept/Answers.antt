use Rattle.std.proofs.Common.{◌≡◌, ◌+◌, ◌-◌, ◌<◌, ◌≤◌, ◌∷◌, ◌++◌, [], ◌∙◌, ℕ, List, length, map, refl, sym, ap, subst, arith}
use Rattle.std.specs.Ordering.{nat_cmp}
use Rattle.std.specs.List.Sorted.{IsStrictlySortedBy}
use Rattle.base_core.specs.declared.ids.ObjId.{ObjId}
use Rattle.cascades.specs.Closures.{linked_objects}
use Rattle.cascades.specs.Reaching.{IsReach}
use Rattle.cascades.specs.Walks.{Comes, id_of_number, is_in}
use Rattle.std.proofs.lemmas.List.{length-append}
use Rattle.cascades.proofs.ClosureLemmas.{empty_of, if_ok, kept_ended, none, reached_few, reached_made, taken_reached, walk_began, walk_more, walk_taken}
use Rattle.cascades.proofs.closures.reach_kept.Goals as goal

pub come_to_all-requires : goal.come_to_all-requires
unfolding IsStrictlySortedBy
come_to_all-requires c = subst (λ (ks : List ℕ). IsStrictlySortedBy nat_cmp ks) (sym c.new-walk.ensures.reached) tt

pub loop-next-init : goal.loop-next-init
loop-next-init c = (
  walk_began c.args.flag c.args.mapping.now c.args.arena.now c.args.starts.now (is_in []) (is_in c.come_to_all.new.self.reached.keys) c.come_to_all.new.self.waiting.items (λ number. refl)
      (subst (λ ks. Comes (is_in ks) (is_in c.come_to_all.new.self.reached.keys) [] c.come_to_all.new.self.waiting.items c.args.starts.now) c.new-walk.ensures.reached
      (subst (λ ws. Comes (is_in c.new-walk.result.reached.keys) (is_in c.come_to_all.new.self.reached.keys) ws c.come_to_all.new.self.waiting.items c.args.starts.now) c.new-walk.ensures.waiting c.in_ok-come_to_all.ensures.ok)),
  c.in_ok-come_to_all.ensures.ascending,
)

pub add_linked-requires-clause-object : goal.add_linked-requires-clause-object
add_linked-requires-clause-object c =
    reached_made c.args.flag c.args.mapping.now c.args.arena.now c.args.starts.now none (is_in c.loop-next.walk.reached.keys) c.loop-next.walk.waiting.items c.in-Some.next.0 c.requires.fit c.requires.starts c.loop-next.invariant.0
    (taken_reached c.args.flag c.args.mapping.now c.args.arena.now c.args.starts.now (is_in c.loop-next.walk.reached.keys) c.loop-next.walk.waiting.items c.pop.new.self.items c.in-Some.next c.in-Some.ensures.items c.loop-next.invariant.0)

pub loop-next-preserved : goal.loop-next-preserved
loop-next-preserved c =
    let followed = subst (λ ends. Comes (is_in c.loop-next.walk.reached.keys) (is_in c.come_to_all-in-Some.new.self.reached.keys) c.pop.new.self.items c.come_to_all-in-Some.new.self.waiting.items ends)
    (c.as_slice.ensures ∙ c.in_ok-add_linked.ensures ∙ ap (λ (xs : List ObjId). xs ++ linked_objects c.args.flag c.args.mapping.now c.args.arena.now c.in-Some.next) c.clear.ensures) c.in_ok-come_to_all-2.ensures.ok in (
      walk_more c.args.flag c.args.mapping.now c.args.arena.now c.args.starts.now (is_in c.loop-next.walk.reached.keys) (is_in c.come_to_all-in-Some.new.self.reached.keys) c.pop.new.self.items c.come_to_all-in-Some.new.self.waiting.items c.in-Some.next
          (taken_reached c.args.flag c.args.mapping.now c.args.arena.now c.args.starts.now (is_in c.loop-next.walk.reached.keys) c.loop-next.walk.waiting.items c.pop.new.self.items c.in-Some.next c.in-Some.ensures.items c.loop-next.invariant.0)
          (walk_taken c.args.flag c.args.mapping.now c.args.arena.now c.args.starts.now (is_in c.loop-next.walk.reached.keys) c.loop-next.walk.waiting.items c.pop.new.self.items c.in-Some.next c.in-Some.ensures.items c.loop-next.invariant.0)
          followed,
      c.in_ok-come_to_all-2.ensures.ascending,
    )

pub loop-next-smaller : goal.loop-next-smaller
loop-next-smaller c =
    let taken : length c.loop-next.walk.waiting.items ≡ length c.pop.new.self.items + 1 =
    ap (λ (xs : List ObjId). length xs) c.in-Some.ensures.items ∙ length-append c.pop.new.self.items (c.in-Some.next ∷ []) in
    let few : length c.come_to_all-in-Some.new.self.reached.keys ≤ length c.args.arena.now.objects + 1 =
    reached_few c.args.flag c.args.mapping.now c.args.arena.now c.args.starts.now none c.come_to_all-in-Some.new.self.reached.keys c.come_to_all-in-Some.new.self.waiting.items c.requires.fit c.requires.starts
    c.in_ok-come_to_all-2.ensures.ascending (loop-next-preserved c).0 in
    let before : length c.loop-next.walk.reached.keys ≤ length c.args.arena.now.objects + 1 =
    reached_few c.args.flag c.args.mapping.now c.args.arena.now c.args.starts.now none c.loop-next.walk.reached.keys c.loop-next.walk.waiting.items c.requires.fit c.requires.starts
    c.loop-next.invariant.1 c.loop-next.invariant.0 in
    let smaller : (length c.args.arena.now.objects + 1 - length c.come_to_all-in-Some.new.self.reached.keys) + length c.come_to_all-in-Some.new.self.waiting.items
    < (length c.args.arena.now.objects + 1 - length c.loop-next.walk.reached.keys) + length c.loop-next.walk.waiting.items = omega (arith, c.in_ok-come_to_all-2.ensures.count, taken, few, before) in
    smaller

pub returns : goal.returns
returns c =
    let nothing : length c.loop-next.walk.waiting.items ≡ 0 = omega (arith, c.loop-next.walk.waiting.ok, c.in_default.ensures.cases.0) in
    if_ok (λ (set : List ObjId). set ≡ map id_of_number c.loop-next.walk.reached.keys) (IsReach c.args.flag c.args.mapping.now c.args.arena.now c.args.starts.now) c.into_set.result
    (λ set is. kept_ended c.args.flag c.args.mapping.now c.args.arena.now c.args.starts.now c.loop-next.walk.reached.keys c.loop-next.walk.waiting.items set c.requires.fit c.requires.starts c.loop-next.invariant.1
    (empty_of c.loop-next.walk.waiting.items nothing) is c.loop-next.invariant.0)
    c.into_set.ensures
