use Rattle.std.proofs.Common.{Bool, ℕ, ◌<◌, ◌≤◌, ◌∙◌, ◌+◌, length, refl, ap, subst}
use Rattle.base_core.specs.declared.ids.ObjId.{ObjId}
use Rattle.object_arena.specs.Graph.{object_at, with_object}
use Rattle.object_arena.proofs.ClassLemmas.{classes_long}
use Rattle.object_arena.proofs.KeepLemmas.{keeps_then}
use Rattle.object_arena.proofs.TurnLemmas.{placed_all, placed_more}
use Rattle.savepoints.specs.Scopes.{expired_where, read_again}
use Rattle.savepoints.proofs.restoring.expire_touched.Goals as goal

pub loop-number-preserved : goal.loop-number-preserved
loop-number-preserved c =
    let object : ObjId = record { 0 = c.loop-number.number + 1 } in
    let less : c.loop-number.number < length c.args.arena.now.objects = subst (λ (n : ℕ). c.loop-number.number < n) c.count-number-end.ensures.count c.loop-number-test.true in (
      placed_more (read_again c.args.depth c.args.traces.now) c.args.arena.now c.loop-number.arena c.expire_where.new.arena c.loop-number.number (c.loop-number.number + 1) less c.loop-number.invariant.0 refl
          (c.expire_where.ensures.expired ∙ ap (λ (b : Bool). with_object c.loop-number.arena object (expired_where b (object_at c.loop-number.arena object))) c.is_read_again-touched.ensures),
      classes_long c.loop-number.arena c.expire_where.new.arena c.expire_where.ensures.keeps.classes ∙ c.loop-number.invariant.1,
      keeps_then c.args.arena.now c.loop-number.arena c.expire_where.new.arena c.loop-number.invariant.2 c.expire_where.ensures.keeps,
    )

pub returns-clause-expired : goal.returns-clause-expired
returns-clause-expired c =
    placed_all (read_again c.args.depth c.args.traces.now) c.args.arena.now c.loop-number.arena c.loop-number.number
    (subst (λ (n : ℕ). n ≤ c.loop-number.number) c.count-number-end.ensures.count c.loop-number-test.false) c.loop-number.invariant.0
