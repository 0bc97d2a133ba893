use Rattle.std.proofs.Common.{[], ◌∷◌, ◌++◌, ap, ◌∙◌}
use Rattle.std.specs.Option.{unwrap_or}
use Rattle.load_batches.proofs.GroupSteps.{member_more}
use Rattle.load_batches.proofs.groups.add_member.Goals as goal

pub returns : goal.returns
returns c =
    member_more c.args.groups.now c.remove.new.self c.insert.new.self c.args.member.now c.in_ok-copied.field-0 c.push.new.self c.in_ok-copied.ensures c.remove.ensures.updates.0 c.in_ok-insert.ensures.updates.0
    (c.in_ok-push.ensures.ok ∙ ap (λ objects. objects ++ c.args.member.now.object ∷ []) (c.objects_of-objects.ensures ∙ ap (λ found. unwrap_or found []) c.remove.ensures.value))
