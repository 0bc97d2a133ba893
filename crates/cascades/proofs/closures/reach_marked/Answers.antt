use Rattle.std.proofs.Common.{◌≡◌, ◌+◌, [], ◌++◌, ◌∙◌, Bool, List, false, length, replicate, ap, subst, arith}
use Rattle.std.proofs.lemmas.List.{length-replicate}
use Rattle.base_core.specs.declared.ids.ObjId.{ObjId}
use Rattle.cascades.specs.Closures.{linked_objects}
use Rattle.cascades.specs.Reaching.{IsReach}
use Rattle.cascades.specs.Walks.{Comes, is_marked, marked_from}
use Rattle.cascades.proofs.ClosureLemmas.{empty_of, ends_within, if_ok, marks_ended, none, none_marked, reached_made, starts_within, taken_reached, walk_began, walk_more, walk_taken}
use Rattle.cascades.proofs.closures.reach_marked.Goals as goal

pub come_to_all-requires : goal.come_to_all-requires
come_to_all-requires c =
    let long : length c.in_ok-walk.walk.marks.items ≡ c.count.result + 1 = ap (λ (ms : List Bool). length ms) c.in_ok-walk.ensures.marks ∙ length-replicate (c.count.result + 1) false in
    starts_within c.args.arena.now c.args.starts.now c.in_ok-walk.walk.marks.items (omega (arith, long, c.count.ensures.count)) c.requires.starts

pub loop-next-init : goal.loop-next-init
loop-next-init c =
    let start = c.in_ok-walk.walk.marks.items in
    let long : length start ≡ c.count.result + 1 = ap (λ (ms : List Bool). length ms) c.in_ok-walk.ensures.marks ∙ length-replicate (c.count.result + 1) false in (
      walk_began c.args.flag c.args.mapping.now c.args.arena.now c.args.starts.now (is_marked (replicate (c.count.result + 1) false)) (is_marked c.come_to_all.new.self.marks.items) c.come_to_all.new.self.waiting.items (none_marked (c.count.result + 1))
          (subst (λ ms. Comes (is_marked ms) (is_marked c.come_to_all.new.self.marks.items) [] c.come_to_all.new.self.waiting.items c.args.starts.now) c.in_ok-walk.ensures.marks
          (subst (λ ws. Comes (is_marked start) (is_marked c.come_to_all.new.self.marks.items) ws c.come_to_all.new.self.waiting.items c.args.starts.now) c.in_ok-walk.ensures.waiting c.in_ok-come_to_all.ensures.ok)),
      omega (arith, c.in_ok-come_to_all.ensures.long, long, c.count.ensures.count),
    )

pub add_linked-requires-clause-object : goal.add_linked-requires-clause-object
add_linked-requires-clause-object c =
    reached_made c.args.flag c.args.mapping.now c.args.arena.now c.args.starts.now none (is_marked c.loop-next.walk.marks.items) c.loop-next.walk.waiting.items c.in-Some.next.0 c.requires.fit c.requires.starts c.loop-next.invariant.0
    (taken_reached c.args.flag c.args.mapping.now c.args.arena.now c.args.starts.now (is_marked c.loop-next.walk.marks.items) c.loop-next.walk.waiting.items c.pop.new.self.items c.in-Some.next c.in-Some.ensures.items c.loop-next.invariant.0)

pub come_to_all-requires-in-Some : goal.come_to_all-requires-in-Some
come_to_all-requires-in-Some c =
    let ends : List ObjId = linked_objects c.args.flag c.args.mapping.now c.args.arena.now c.in-Some.next in
    ends_within c.args.flag c.args.mapping.now c.args.arena.now c.in-Some.next c.as_slice.result.now c.loop-next.walk.marks.items c.requires.fit
    (reached_made c.args.flag c.args.mapping.now c.args.arena.now c.args.starts.now none (is_marked c.loop-next.walk.marks.items) c.loop-next.walk.waiting.items c.in-Some.next.0 c.requires.fit c.requires.starts c.loop-next.invariant.0
    (taken_reached c.args.flag c.args.mapping.now c.args.arena.now c.args.starts.now (is_marked c.loop-next.walk.marks.items) c.loop-next.walk.waiting.items c.pop.new.self.items c.in-Some.next c.in-Some.ensures.items c.loop-next.invariant.0))
    (c.as_slice.ensures ∙ c.in_ok-add_linked.ensures ∙ ap (λ (xs : List ObjId). xs ++ ends) c.clear.ensures) c.loop-next.invariant.1

pub loop-next-preserved : goal.loop-next-preserved
loop-next-preserved c =
    let ends : List ObjId = linked_objects c.args.flag c.args.mapping.now c.args.arena.now c.in-Some.next in (
      walk_more c.args.flag c.args.mapping.now c.args.arena.now c.args.starts.now (is_marked c.loop-next.walk.marks.items) (is_marked c.come_to_all-in-Some.new.self.marks.items) c.pop.new.self.items c.come_to_all-in-Some.new.self.waiting.items c.in-Some.next
          (taken_reached c.args.flag c.args.mapping.now c.args.arena.now c.args.starts.now (is_marked c.loop-next.walk.marks.items) c.loop-next.walk.waiting.items c.pop.new.self.items c.in-Some.next c.in-Some.ensures.items c.loop-next.invariant.0)
          (walk_taken c.args.flag c.args.mapping.now c.args.arena.now c.args.starts.now (is_marked c.loop-next.walk.marks.items) c.loop-next.walk.waiting.items c.pop.new.self.items c.in-Some.next c.in-Some.ensures.items c.loop-next.invariant.0)
          (subst (λ (es : List ObjId). Comes (is_marked c.loop-next.walk.marks.items) (is_marked c.come_to_all-in-Some.new.self.marks.items) c.pop.new.self.items c.come_to_all-in-Some.new.self.waiting.items es)
          (c.as_slice.ensures ∙ c.in_ok-add_linked.ensures ∙ ap (λ (xs : List ObjId). xs ++ ends) c.clear.ensures) c.in_ok-come_to_all-2.ensures.ok),
      c.in_ok-come_to_all-2.ensures.long ∙ c.loop-next.invariant.1,
    )

pub returns : goal.returns
returns c =
    let nothing : length c.loop-next.walk.waiting.items ≡ 0 = omega (arith, c.loop-next.walk.waiting.ok, c.in_default.ensures.cases.0) in
    if_ok (λ (set : List ObjId). set ≡ marked_from 0 c.loop-next.walk.marks.items) (IsReach c.args.flag c.args.mapping.now c.args.arena.now c.args.starts.now) c.into_set.result
    (λ set is. marks_ended c.args.flag c.args.mapping.now c.args.arena.now c.args.starts.now c.loop-next.walk.marks.items c.loop-next.walk.waiting.items set c.requires.fit c.requires.starts
    (empty_of c.loop-next.walk.waiting.items nothing) is c.loop-next.invariant.0)
    c.into_set.ensures
