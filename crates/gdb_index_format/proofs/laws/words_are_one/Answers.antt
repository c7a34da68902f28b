use Rattle.gdb_index_format.proofs.WordLists.{one_list_of_words}
use Rattle.gdb_index_format.proofs.laws.words_are_one.Goals as goal

pub returns : goal.returns
returns c = one_list_of_words
