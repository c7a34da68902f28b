use Rattle.std.proofs.Common.{refl}
use Rattle.elf_format.specs.Fault.{has_symbols}
use Rattle.elf_sections.proofs.symbol.are_symbols_well_formed.Goals as goal

pub loop-header-init : goal.loop-header-init
unfolding has_symbols
loop-header-init g c = rw (c.into_iter-header-iterator.ensures.into_iter_gives, c.iter-header-items.ensures.same, c.requires) refl
