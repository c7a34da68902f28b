-- The constant pool (GDB manual, "Index Section Format"): the CU vectors of all names, then the names,
-- each with a zero byte, both in the order of the names.
use Rattle.std.specs.Prelude.{ℕ, ◌+◌, ◌*◌, List, length, take}
use Rattle.std.specs.List.{sum_by}
use Rattle.gdb_index_format.specs.Named.{Named}

abbrev pub vector_len : Named → ℕ
vector_len n = 4 + 4 * length n.words

abbrev pub name_len : Named → ℕ
name_len n = length n.name + 1

abbrev pub vectors_len : List Named → ℕ
vectors_len ns = sum_by vector_len ns

abbrev pub names_len : List Named → ℕ
names_len ns = sum_by name_len ns

-- the offsets of the CU vector and of the bytes of name i, from the start of the pool
abbrev pub vector_offset : List Named → ℕ → ℕ
vector_offset ns i = vectors_len (take i ns)

abbrev pub name_offset : List Named → ℕ → ℕ
name_offset ns i = vectors_len ns + names_len (take i ns)
