use Rattle.std.proofs.Common.{◌≡◌, ℕ, ◌+◌, ◌*◌, ◌/◌, ◌%◌, ◌<◌, ◌≤◌, List, length, arith}
use Rattle.elf_format.specs.Bytes.{get}
use Rattle.elf_format.specs.Class.{Class, class32, class64, rela_size, r_info, symbol_unit}
use Rattle.elf_setters.specs.Put.{with_field, symbol_limit}
use Rattle.elf_setters.proofs.PutLemmas.{get_it_with_field}
use Rattle.elf_setters.proofs.laws.info_is_read_again.Goals as goal

halves : (class : Class) (symbol relocation_type : ℕ) (bytes : List ℕ) → rela_size class ≤ length bytes → symbol < symbol_limit class → relocation_type < symbol_unit class
    → (get (r_info class) (with_field (r_info class) (symbol * symbol_unit class + relocation_type) bytes) / symbol_unit class ≡ symbol)
    × (get (r_info class) (with_field (r_info class) (symbol * symbol_unit class + relocation_type) bytes) % symbol_unit class ≡ relocation_type)
halves class32 symbol relocation_type bytes room low small =
    let read = get_it_with_field (r_info class32) (symbol * symbol_unit class32 + relocation_type) bytes (omega arith) (omega arith) in
    (omega (arith, read), omega (arith, read))
halves class64 symbol relocation_type bytes room low small =
    let read = get_it_with_field (r_info class64) (symbol * symbol_unit class64 + relocation_type) bytes (omega arith) (omega arith) in
    (omega (arith, read), omega (arith, read))

pub returns : goal.returns
returns c = λ class symbol relocation_type bytes room low small. halves class symbol relocation_type bytes room low small
