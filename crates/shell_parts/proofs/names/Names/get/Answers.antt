use Rattle.std.proofs.Common.{map, ap, ◌∙◌}
use Rattle.shell_parts.specs.Bindings.{bound_to, by_bytes}
use Rattle.shell_parts.proofs.BindingLemmas.{entry_found}
use Rattle.shell_parts.proofs.names.Names.get.Goals as goal

-- the map finds the name by its bytes
pub returns : goal.returns
returns c = c.get-2.ensures.value
    ∙ entry_found c.self.inside.bound.entries c.get.result.now
    ∙ ap (bound_to (map by_bytes c.self.inside.bound.entries)) c.get.ensures
    ∙ ap (λ names. bound_to names c.args.name.now) c.self.view_is
