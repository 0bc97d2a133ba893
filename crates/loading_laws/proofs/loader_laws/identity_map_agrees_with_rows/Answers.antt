use Rattle.loading_laws.proofs.Loaders.OwnRows.{map_agrees}
use Rattle.loading_laws.proofs.loader_laws.identity_map_agrees_with_rows.Goals as goal

pub returns : goal.returns
returns c = λ mapped class key object all w stage over less rows own found present. map_agrees mapped class key object all w stage over less rows own found present
