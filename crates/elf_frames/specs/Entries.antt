-- The entries of `.eh_frame` (Linux Standard Base, The .eh_frame Section): common information entries (CIEs) and frame
-- description entries (FDEs), one after another. An entry begins with the length of what follows this field.
use Rattle.std.specs.Prelude.{◌≡◌, ◌≢◌, ◌⊎◌, ℕ, ◌+◌, ◌<◌, ◌≤◌, Bool, ◌==◌, nat_lt, if◌then◌else◌, List, [], ◌∷◌, length, drop}
use Rattle.std.specs.Str.{bytes_eq}
use Rattle.elf_format.specs.Bytes.{get, bytes_at}
use Rattle.elf_format.specs.Table.{eh_frame_entry_prefix_size, ehp_length, ehp_cie_id}

-- an entry: the offset of its first byte, and its size in bytes, the length field included
pub record FrameEntry : Type 0 where
  pub offset : ℕ
  pub size : ℕ

-- the offset after its last byte
abbrev pub entry_end : FrameEntry → ℕ
entry_end e = e.offset + e.size

-- the first two fields at an offset
abbrev pub prefix_at : List ℕ → ℕ → List ℕ
prefix_at bytes at = bytes_at bytes at eh_frame_entry_prefix_size

-- the first: the number of bytes of the entry after this field
abbrev pub length_at : List ℕ → ℕ → ℕ
length_at bytes at = get ehp_length (prefix_at bytes at)

-- the second: 0 for a CIE, and the CIE pointer of an FDE
abbrev pub id_at : List ℕ → ℕ → ℕ
id_at bytes at = get ehp_cie_id (prefix_at bytes at)

-- whether an entry is a CIE
abbrev pub is_cie : List ℕ → FrameEntry → Bool
is_cie bytes e = id_at bytes e.offset == 0

-- eight bytes are left at an offset, and the length there is not 0
pub record Begins (bytes : List ℕ) (at : ℕ) : Type 0 where
  pub room : at + 8 ≤ length bytes
  pub some : length_at bytes at ≢ 0

-- the entry at an offset: as many bytes as its length says, and all of them in the data
pub record IsEntryAt (bytes : List ℕ) (at : ℕ) (e : FrameEntry) : Type 0 where
  pub begins : Begins bytes at
  pub offset : e.offset ≡ at
  pub size : e.size ≡ 4 + length_at bytes at
  pub within : at + e.size ≤ length bytes

-- These entries follow one another, from one offset to another.
abbrev pub Tile : List ℕ → ℕ → List FrameEntry → ℕ → Type 0
Tile bytes at [] stop = at ≡ stop
Tile bytes at (e ∷ es) stop = IsEntryAt bytes at e × Tile bytes (at + e.size) es stop

-- No entry begins at an offset: fewer than eight bytes are left, or the length there is 0. What follows a length of 0 does
-- not count.
abbrev pub IsEnd : List ℕ → ℕ → Type 0
IsEnd bytes at = (length bytes < at + 8) ⊎ ((at + 8 ≤ length bytes) × (length_at bytes at ≡ 0))

-- four zero bytes, which end the entries
abbrev pub is_terminator : List ℕ → Bool
is_terminator bytes = bytes_eq bytes (0 ∷ 0 ∷ 0 ∷ 0 ∷ [])

-- how many of the fewer than eight last bytes are no entry: a terminator does not count
abbrev pub rest_size : List ℕ → ℕ
rest_size bytes = if is_terminator bytes then 0 else length bytes

-- how many bytes are no entry, where no entry begins at an offset
abbrev pub rest_at : List ℕ → ℕ → ℕ
rest_at bytes at = if nat_lt (length bytes) (at + 8) then rest_size (drop at bytes) else 0
