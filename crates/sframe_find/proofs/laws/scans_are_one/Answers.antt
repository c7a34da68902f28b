use Rattle.sframe_find.proofs.Searching.{one_scan}
use Rattle.sframe_find.proofs.laws.scans_are_one.Goals as goal

pub returns : goal.returns
returns c = λ frames a x y p q. one_scan frames a x y p q
