use Rattle.sframe_format.proofs.Parsing.{one_parsed}
use Rattle.sframe_format.proofs.laws.parsed_headers_are_one.Goals as goal

pub returns : goal.returns
returns c = λ h r s a b. one_parsed h r s a b
