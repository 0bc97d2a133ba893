use Rattle.table_laws.specs.Legality.{IsLegalStore}
use Rattle.table_laws.proofs.Telling.{ran_kept}
use Rattle.table_laws.proofs.told.what_ran_leaves_legal.Goals as goal

pub returns : goal.returns
returns g c = λ store_of schema tell view m old new told result keeps is legal own did.
    ran_kept (λ w. IsLegalStore schema (store_of w)) tell view m old new told result keeps is legal own did
