use Rattle.std.proofs.Common.{arith, sym}
use Rattle.std.proofs.lemmas.Option.{slice_get_past}
use Rattle.gdb_index.specs.Vector.{words_in}
use Rattle.gdb_index.proofs.Reading.{slice_get-words_in, length_words_in}
use Rattle.gdb_index.proofs.vector.CuVector.get.Goals as goal

pub returns-then-index-count : goal.returns-then-index-count
returns-then-index-count c =
    rw (← c.self.view_is) (slice_get-words_in c.self.inside.bytes.now c.args.index c.read_u32.result (omega (arith, length_words_in c.self.inside.bytes.now)) c.read_u32.ensures)

pub returns-else-index-count : goal.returns-else-index-count
returns-else-index-count c = rw (← c.self.view_is) (sym (slice_get_past (words_in c.self.inside.bytes.now) c.args.index (omega (arith, length_words_in c.self.inside.bytes.now))))
