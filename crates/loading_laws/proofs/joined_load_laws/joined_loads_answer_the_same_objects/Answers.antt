use Rattle.loading_laws.proofs.Joined.Objects.{answer_alike}
use Rattle.loading_laws.proofs.joined_load_laws.joined_loads_answer_the_same_objects.Goals as goal

pub returns : goal.returns
returns c = λ mapped query plain joined objects answered w first after joining g h. answer_alike mapped query plain joined objects answered w first after joining g h
