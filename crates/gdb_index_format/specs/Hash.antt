-- The hash of a name, and the elements of its CU vector (GDB manual, "Index Section Format": the symbol table's
-- hash function, and the CU vector).
use Rattle.std.specs.Prelude.{ℕ, ◌+◌, ◌-◌, ◌*◌, ◌/◌, ◌%◌, List}
use Rattle.std.specs.List.{fold}
use Rattle.std.specs.Char.{to_ascii_lowercase}

-- each byte, with A to Z taken as a to z, joins the hash of the bytes before it
abbrev pub hash_step : ℕ → ℕ → ℕ
hash_step hash byte = (hash * 67 + to_ascii_lowercase byte + 4294967296 - 113) % 4294967296

abbrev pub name_hash : List ℕ → ℕ
name_hash name = fold hash_step 0 name

-- The element of a unit's index and a flag byte: bits 0 to 23 are the index, bits 28 to 30 the symbol kind (bits 4
-- to 6 of the flag), bit 31 the static bit (bit 7 of the flag).
abbrev pub element_of : ℕ → ℕ → ℕ
element_of unit flag = unit + flag / 16 % 8 * 268435456 + flag / 128 % 2 * 2147483648
