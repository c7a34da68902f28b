use Rattle.std.proofs.Common.{sym}
use Rattle.gdb_index.proofs.Reading.{length_words_in}
use Rattle.gdb_index.proofs.vector.CuVector.len.Goals as goal

pub returns : goal.returns
returns c = rw (← c.self.view_is) (sym (length_words_in c.self.inside.bytes.now))
