use Rattle.std.proofs.Common.{◌≡◌, ◌++◌, drop, take, map}
use Rattle.std.specs.List.{AllByRecursion}
use Rattle.elf_format.specs.Crel.{IsCrel, record_forms, list_form}
use Rattle.elf_relocs.proofs.encode.encode_crel.Given as goal

abbrev pub invariant-loop-relocation : goal.invariant-loop-relocation
invariant-loop-relocation g l =
    (l.out.items ++ record_forms l.last (map (λ x. x.values) (drop l.relocation-index l.list)) ≡ list_form (map (λ x. x.values) l.list))
    × AllByRecursion IsCrel (map (λ x. x.values) (take l.relocation-index l.list))
