use Rattle.derivation.proofs.Browsing.{checked}
use Rattle.derivation.proofs.laws.indexes_are_checked.Goals as goal

pub returns : goal.returns
returns c = checked c.objects_are_one.ensures c.sizes_are_one.ensures c.layout_is_checked.ensures
