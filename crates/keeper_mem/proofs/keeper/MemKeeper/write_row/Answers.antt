-- Where memory runs out after the statement was done, the tables at the transaction's start are as before it.
use Rattle.std.proofs.Common.{◌≡◌, ◌<◌, length, rules, subst, sym}
use Rattle.table_store.specs.Written.{given_up}
use Rattle.keeper_mem.specs.Kept.{Kept}
use Rattle.keeper_mem.proofs.Stored.{same_start}
use Rattle.keeper_mem.proofs.keeper.MemKeeper.write_row.Goals as goal

pub returns-in_default-clause-step : goal.returns-in_default-clause-step
returns-in_default-clause-step c =
    let inside : 0 < length c.self.inside.store.seen.scopes = subst (λ (k : Kept). 0 < length k.store.scopes) (sym c.self.view_is) c.requires.inside in
    let same : given_up c.write.new.store.seen ≡ given_up c.self.inside.store.seen = same_start c.self.inside.store.seen c.write.new.store.seen inside c.in-Ok.ensures.step.1 in
    search rules
