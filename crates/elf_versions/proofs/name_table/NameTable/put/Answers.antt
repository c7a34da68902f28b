use Rattle.std.proofs.Common.{◌+◌, arith}
use Rattle.elf_versions.proofs.NameLemmas.{put_shown}
use Rattle.elf_versions.proofs.name_table.NameTable.put.Goals as goal

pub returns : goal.returns
returns c =
    let old = c.self.inside.names in
    rw (← c.self.view_is, c.in_ok-grow.ensures.items) (put_shown (λ b. b.now) old.items c.args.index (c.args.index + 1) old.len c.args.name (omega arith) (omega (arith, old.ok)))
