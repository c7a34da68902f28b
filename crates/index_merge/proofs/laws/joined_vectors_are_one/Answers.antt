use Rattle.index_merge.proofs.Causes.{one_vector}
use Rattle.index_merge.proofs.laws.joined_vectors_are_one.Goals as goal

pub returns : goal.returns
returns c = one_vector c.words_are_one.ensures
