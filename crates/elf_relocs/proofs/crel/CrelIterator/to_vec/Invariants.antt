use Rattle.std.proofs.Common.{◌≡◌, ◌++◌, List, map, Ok}
use Rattle.elf_format.specs.declared.crel.Crel.{Crel}
use Rattle.elf_format.specs.Chain.{◌>>=◌}
use Rattle.elf_format.specs.Crel.{all_ok}
use Rattle.elf_relocs.proofs.crel.CrelIterator.to_vec.Given as goal

abbrev pub invariant-loop-item : goal.invariant-loop-item
invariant-loop-item g l = (all_ok l.item-iterator.items >>= λ (rest : List Crel). Ok (map (λ x. x.values) l.list.items ++ rest)) ≡ all_ok l.fn.self.items
