use Rattle.std.proofs.Common.{◌≡◌, ◌+◌, ◌<◌, ◌≤◌, ◌++◌, ◌∷◌, [], ◌∙◌, List, length, Some, ap, refl, subst, sym, arith}
use Rattle.std.proofs.lemmas.List.{length-append}
use Rattle.object_arena.specs.Graph.{Graph, object_at}
use Rattle.object_arena.specs.Identity.{id_of_place}
use Rattle.object_records.specs.declared.kept.Held.{Held}
use Rattle.object_records.specs.Kept.{CanHoldAll, given_back, holding}
use Rattle.object_records.proofs.KeptSteps.{given_last, given_none, last_holds, rest_hold}
use Rattle.object_records.proofs.kept.give_back.Goals as goal

pub loop-held-init : goal.loop-held-init
loop-held-init c = (
  ap (λ (kept : List Held). given_back kept c.args.arena.now) c.into_vec-left.ensures,
  subst (λ (kept : List Held). CanHoldAll kept c.args.arena.now) (sym c.into_vec-left.ensures) c.requires,
  refl,
)

pub give_at-requires-clause-place : goal.give_at-requires-clause-place
give_at-requires-clause-place c =
    let can : CanHoldAll (c.pop.new.self.items ++ c.in-Some.held ∷ []) c.loop-held.arena = subst (λ (kept : List Held). CanHoldAll kept c.loop-held.arena) c.in-Some.ensures.items c.loop-held.invariant.1 in
    let within : length (c.pop.new.self.items ++ c.in-Some.held ∷ []) ≤ length c.loop-held.arena.objects = can.long in
    omega (arith, within, length-append c.pop.new.self.items (c.in-Some.held ∷ []), c.len.ensures)

pub give_at-requires-clause-holds : goal.give_at-requires-clause-holds
give_at-requires-clause-holds c =
    let can : CanHoldAll (c.pop.new.self.items ++ c.in-Some.held ∷ []) c.loop-held.arena = subst (λ (kept : List Held). CanHoldAll kept c.loop-held.arena) c.in-Some.ensures.items c.loop-held.invariant.1 in
    last_holds c.pop.new.self.items c.in-Some.held c.loop-held.arena (id_of_place c.len.result) (omega (arith, c.len.ensures)) can

pub loop-held-preserved : goal.loop-held-preserved
loop-held-preserved c =
    let can : CanHoldAll (c.pop.new.self.items ++ c.in-Some.held ∷ []) c.loop-held.arena = subst (λ (kept : List Held). CanHoldAll kept c.loop-held.arena) c.in-Some.ensures.items c.loop-held.invariant.1 in
    let within : length (c.pop.new.self.items ++ c.in-Some.held ∷ []) ≤ length c.loop-held.arena.objects = can.long in
    let less : length c.pop.new.self.items < length c.loop-held.arena.objects = omega (arith, within, length-append c.pop.new.self.items (c.in-Some.held ∷ [])) in (
      given_last c.pop.new.self.items c.in-Some.held c.loop-held.arena c.give_at.new.arena (id_of_place c.len.result) (omega (arith, c.len.ensures)) less c.give_at.ensures.given
          ∙ ap (λ (kept : List Held). given_back kept c.loop-held.arena) (sym c.in-Some.ensures.items) ∙ c.loop-held.invariant.0,
      rest_hold c.pop.new.self.items c.in-Some.held c.loop-held.arena c.give_at.new.arena (id_of_place c.len.result) (holding (Some c.in-Some.held) (object_at c.loop-held.arena (id_of_place c.len.result))) (omega (arith, c.len.ensures)) c.give_at.ensures.given can,
      c.give_at.ensures.classes ∙ c.loop-held.invariant.2,
    )

pub returns-clause-back : goal.returns-clause-back
returns-clause-back c =
    let nothing : length c.loop-held.left.items ≡ 0 = omega (arith, c.loop-held.left.ok, c.in_default.ensures.cases.0) in
    sym (given_none c.loop-held.left.items c.loop-held.arena nothing) ∙ c.loop-held.invariant.0
