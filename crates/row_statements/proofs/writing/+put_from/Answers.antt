-- The rows behind the first are noted behind it.
use Rattle.std.proofs.Common.{◌≡◌, ◌∷◌, rules}
use Rattle.row_statements.proofs.Noting.{notes_behind}
use Rattle.row_statements.proofs.writing.+put_from.Goals as goal

pub returns-clause-noted : goal.returns-clause-noted
returns-clause-noted t c =
    let is : c.args.new.now ≡ c.in-Some.row.now ∷ c.in-Some.more.now = search rules in
    notes_behind c.args.store.now c.put_entry.new.store c.put_from.new.store c.args.new.now c.in-Some.more.now c.in-Some.row.now c.put_from.result is c.put_entry.ensures.scopes c.in_ok-put_entry.ensures.noted c.put_from.ensures.noted
