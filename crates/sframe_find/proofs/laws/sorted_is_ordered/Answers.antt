use Rattle.sframe_format.specs.Contribution.{read_ones, functions}
use Rattle.sframe_find.proofs.Sorted.{sorted_ordered}
use Rattle.sframe_find.proofs.laws.sorted_is_ordered.Goals as goal

pub returns : goal.returns
returns c = λ s t rs used base bytes valid sorted. sorted_ordered (functions (read_ones s rs)) t used base (c.sorted_is_read_in_order.ensures s t rs used bytes valid sorted).1
