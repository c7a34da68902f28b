use Rattle.std.proofs.Common.{rules, ◌≡◌}
use Rattle.elf_format.specs.Class.{rela_size}
use Rattle.elf_format.specs.Rela.{rela_values}
use Rattle.elf_relocs.proofs.Spans.{entry_at}
use Rattle.elf_relocs.proofs.rela_sequence.RelaSequence.get.Goals as goal

pub returns : goal.returns
returns g c =
    let size : g.C.Rela.Record.SIZE ≡ rela_size g.C.ElfClass.class = search rules in
    entry_at g.C.Rela.Record.contents (rela_values g.C.ElfClass.class) _ _ c.args.self.now.bytes.now c.args.index c.in_ok-get.field-0 c.new.result.values _ _ c.whole-records.ensures size c.get.ensures c.in_ok-get.was c.new.ensures
