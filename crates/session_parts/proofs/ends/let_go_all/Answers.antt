use Rattle.std.proofs.Common.{ℕ, ◌<◌, ◌∙◌, ◌+◌, length, refl, subst}
use Rattle.object_arena.proofs.ClassLemmas.{classes_long}
use Rattle.object_arena.proofs.KeepLemmas.{keeps_then}
use Rattle.object_arena.proofs.TurnLemmas.{changed_more}
use Rattle.session_parts.specs.Ends.{object_left}
use Rattle.session_parts.proofs.ends.let_go_all.Goals as goal

pub loop-number-preserved : goal.loop-number-preserved
loop-number-preserved c =
    let less : c.loop-number.number < length c.args.arena.now.objects = subst (λ (n : ℕ). c.loop-number.number < n) c.count-number-end.ensures.count c.loop-number-test.true in (
      changed_more object_left c.args.arena.now c.loop-number.arena c.let_go.new.arena c.loop-number.number (c.loop-number.number + 1) less c.loop-number.invariant.1 c.loop-number.invariant.0 refl c.let_go.ensures.left,
      classes_long c.loop-number.arena c.let_go.new.arena c.let_go.ensures.keeps.classes ∙ c.loop-number.invariant.1,
      keeps_then c.args.arena.now c.loop-number.arena c.let_go.new.arena c.loop-number.invariant.2 c.let_go.ensures.keeps,
    )
