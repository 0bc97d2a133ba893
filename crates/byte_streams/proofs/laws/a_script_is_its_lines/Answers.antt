use Rattle.byte_streams.proofs.Scripts.{of_its_lines}
use Rattle.byte_streams.proofs.laws.a_script_is_its_lines.Goals as goal

pub returns : goal.returns
returns c = of_its_lines
