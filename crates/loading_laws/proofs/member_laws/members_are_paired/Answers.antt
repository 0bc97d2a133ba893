use Rattle.loading_laws.proofs.Members.Paired.{members_paired}
use Rattle.loading_laws.proofs.member_laws.members_are_paired.Goals as goal

pub returns : goal.returns
returns c = λ mapped relation far tables all rows key paired keyed answered. members_paired mapped relation far tables all paired key rows keyed answered
