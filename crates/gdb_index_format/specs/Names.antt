-- The sets of names of `.debug_gnu_pubnames` and `.debug_gnu_pubtypes`: the layout of DWARF's lookup by name
-- (DWARF 4, 6.1.1 and 7.19; the two formats of DWARF 5, 7.4), with a flag byte before each name, of which the
-- GDB manual, "Index Section Format", gives the bits.
use Rattle.std.specs.Prelude.{◌≡◌, ◌≢◌, ◌⊎◌, ℕ, ◌+◌, ◌*◌, ◌^◌, ◌<◌, List, [], ◌∷◌, ◌++◌, length, replicate}
use Rattle.std.specs.Int.{w16, w32, w64, to_le_bytes}
use Rattle.std.specs.List.{All}
use Rattle.gdb_index_format.specs.declared.dwarf_format.DwarfFormat.{DwarfFormat}
use Rattle.gdb_index_format.specs.declared.dwarf_format.DwarfFormat.TheVariants.{Dwarf32, Dwarf64}

-- a published name and its flag byte
pub record Entry : Type 0 where
  pub name : List ℕ
  pub flag : ℕ

-- the names of one unit, which is named by its offset in `.debug_info`
pub record NameSet : Type 0 where
  pub unit : ℕ
  pub entries : List Entry

-- numbers of four bytes, or of eight
abbrev pub width : DwarfFormat → ℕ
width Dwarf32 = 4
width Dwarf64 = 8

abbrev pub number : DwarfFormat → ℕ → List ℕ
number Dwarf32 n = to_le_bytes w32 n
number Dwarf64 n = to_le_bytes w64 n

abbrev pub limit : DwarfFormat → ℕ
limit Dwarf32 = 2 ^ 32
limit Dwarf64 = 2 ^ 64

-- an initial length; 0xfffffff0 to 0xfffffffe are no lengths
abbrev pub initial_length : DwarfFormat → ℕ → List ℕ
initial_length Dwarf32 n = to_le_bytes w32 n
initial_length Dwarf64 n = 255 ∷ 255 ∷ 255 ∷ 255 ∷ to_le_bytes w64 n

abbrev pub length_limit : DwarfFormat → ℕ
length_limit Dwarf32 = 4294967280
length_limit Dwarf64 = 2 ^ 64

-- An offset of 0, or the end, closes the entries of a set. What follows an offset of 0 is skipped.
abbrev pub IsClosed : DwarfFormat → List ℕ → Type 0
IsClosed format bytes = (bytes ≡ []) ⊎ ((skipped : List ℕ) × (bytes ≡ replicate (width format) 0 ++ skipped))

-- One entry, with what follows it: an offset that is not 0, a flag byte, and a name with a zero byte after it.
pub record IsEntry (format : DwarfFormat) (bytes : List ℕ) (e : Entry) (rest : List ℕ) : Type 0 where
  pub offset : ℕ
  pub some : 0 < offset
  pub fits : offset < limit format
  pub clean : All (λ c. c ≢ 0) e.name
  pub bytes_are : bytes ≡ number format offset ++ (e.flag ∷ (e.name ++ 0 ∷ rest))

-- the entries that the last part of a set spells
abbrev pub IsEntries : DwarfFormat → List ℕ → List Entry → Type 0
IsEntries format bytes [] = IsClosed format bytes
IsEntries format bytes (e ∷ es) = (rest : List ℕ) × IsEntry format bytes e rest × IsEntries format rest es

-- The bytes of one set: an initial length, and so many bytes: version 2, the unit's offset and length, entries.
pub record IsSet (bytes : List ℕ) (set : NameSet) : Type 0 where
  pub format : DwarfFormat
  pub unit_len : ℕ
  pub last : List ℕ
  pub unit_fits : set.unit < limit format
  pub len_fits : unit_len < limit format
  pub entries : IsEntries format last set.entries
  pub fits : 2 + 2 * width format + length last < length_limit format
  pub bytes_are : bytes ≡ initial_length format (2 + 2 * width format + length last) ++ to_le_bytes w16 2 ++ number format set.unit ++ number format unit_len ++ last

-- The bytes are these sets, one after another.
abbrev pub IsSetList : List ℕ → List NameSet → Type 0
IsSetList bytes [] = bytes ≡ []
IsSetList bytes (s ∷ ss) = (front : List ℕ) × (rest : List ℕ) × (bytes ≡ front ++ rest) × IsSet front s × IsSetList rest ss

-- Bytes are at most one list of sets.
abbrev pub SetsAreOne : Type 0
SetsAreOne = (b : List ℕ) (ss ts : List NameSet) → IsSetList b ss → IsSetList b ts → ss ≡ ts
