use Rattle.loading_laws.proofs.Members.Paired.{batch_paired}
use Rattle.loading_laws.proofs.member_laws.batch_is_paired.Goals as goal

pub returns : goal.returns
returns c = λ mapped relation far tables all rows keys key paired keyed among answered. batch_paired mapped relation far tables all paired keys key rows keyed among answered
