use Rattle.elf_words.proofs.ZeroByteLemmas.{is_position}
use Rattle.elf_words.proofs.zero_byte.first_zero.Goals as goal

pub returns-clause-value : goal.returns-clause-value
returns-clause-value c = is_position c.args.bytes.now c.memchr.result c.memchr.ensures
