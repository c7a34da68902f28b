-- The elements of a CU vector, which follow one another, four bytes each.
use Rattle.std.specs.Prelude.{ℕ, ◌*◌, ◌/◌, List, map, length}
use Rattle.std.specs.List.{range_with_len}
use Rattle.elf_format.specs.Bytes.{u32_at}

unfoldable pub words_in : List ℕ → List ℕ
words_in bytes = map (λ k. u32_at bytes (4 * k)) (range_with_len 0 (length bytes / 4))
