use Rattle.sframe_order.proofs.ValidAgain.{read_in_order}
use Rattle.sframe_order.proofs.laws.sorted_is_read_in_order.Goals as goal

pub returns : goal.returns
returns c = λ s t rs used bytes valid sorted. read_in_order s t rs used bytes valid sorted
