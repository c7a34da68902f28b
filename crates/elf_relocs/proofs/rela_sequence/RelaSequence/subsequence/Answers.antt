use Rattle.std.proofs.Common.{rules, ◌≡◌, ◌∙◌}
use Rattle.elf_format.specs.Class.{rela_size}
use Rattle.elf_format.specs.Rela.{rela_values}
use Rattle.elf_relocs.proofs.Spans.{entries_end, span_entries}
use Rattle.elf_relocs.proofs.rela_sequence.RelaSequence.subsequence.Goals as goal

pub bytes_of_span-requires-clause-within : goal.bytes_of_span-requires-clause-within
bytes_of_span-requires-clause-within g c =
    let size : c.SIZE.result ≡ rela_size g.C.ElfClass.class = c.SIZE.ensures ∙ search rules in
    rw size (entries_end (rela_values g.C.ElfClass.class) (rela_size g.C.ElfClass.class) c.args.span.stop c.args.self.now.bytes.now c.requires.within)

pub returns : goal.returns
returns g c =
    let size : c.SIZE.result ≡ rela_size g.C.ElfClass.class = c.SIZE.ensures ∙ search rules in
    let value = rw size at c.bytes_of_span.ensures.value in
    let length = rw size at c.bytes_of_span.ensures.length in
    rw c.new.ensures
    (span_entries (rela_values g.C.ElfClass.class) (rela_size g.C.ElfClass.class) c.args.span.start c.args.span.stop c.args.self.now.bytes.now c.bytes_of_span.result.now
    (search rules) c.requires.order
    (entries_end (rela_values g.C.ElfClass.class) (rela_size g.C.ElfClass.class) c.args.span.stop c.args.self.now.bytes.now c.requires.within)
    value length)
