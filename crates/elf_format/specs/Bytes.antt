-- Bytes of a file, whatever its format: little-endian numbers at an offset, strings at an offset, and whole
-- records one after another. A byte past the end counts as 0. A rule that needs the bytes of a number says so
-- by the length.
use Rattle.std.specs.Prelude.{ℕ, zero, suc, ◌+◌, ◌*◌, ◌/◌, ◌%◌, ◌^◌, Bool, ◌==◌, List, [], ◌∷◌, length, take, drop, slice_index, Option, option_map, position}

-- f 0 + f 1 + .. + f (count - 1)
abbrev pub sum_below : (ℕ → ℕ) → ℕ → ℕ
sum_below f zero = 0
sum_below f (suc count) = sum_below f count + f count

-- The little-endian number in the `width` bytes at an offset (System V gABI, Data Representation).
unfoldable pub le : List ℕ → ℕ → ℕ → ℕ
le bytes at width = sum_below (λ i. slice_index bytes (at + i) * 256 ^ i) width

-- the number in the two bytes at an offset
abbrev pub u16_at : List ℕ → ℕ → ℕ
u16_at bytes at = le bytes at 2

-- the number in the four bytes at an offset
abbrev pub u32_at : List ℕ → ℕ → ℕ
u32_at bytes at = le bytes at 4

-- the number in the eight bytes at an offset
abbrev pub u64_at : List ℕ → ℕ → ℕ
u64_at bytes at = le bytes at 8

-- a field of a record: its offset and its width in bytes
pub record Field : Type 0 where
  pub at : ℕ
  pub width : ℕ

abbrev pub field_at : ℕ → ℕ → Field
field_at at width = record { at = at; width = width }

-- the number in a field of a record
abbrev pub get : Field → List ℕ → ℕ
get field bytes = le bytes field.at field.width

-- `size` bytes at an offset
abbrev pub bytes_at : List ℕ → ℕ → ℕ → List ℕ
bytes_at bytes at size = take size (drop at bytes)

-- the bytes at an offset up to the first zero byte, where there is one (gABI, String Table)
unfoldable pub string_at : List ℕ → ℕ → Option (List ℕ)
string_at bytes at = let tail = drop at bytes in option_map (λ n. take n tail) (position (λ b. b == 0) tail)

-- `count` records of one size, one after another from the first byte on
abbrev pub records : ℕ → ℕ → List ℕ → List (List ℕ)
records size zero bytes = []
records size (suc count) bytes = take size bytes ∷ records size count (drop size bytes)

-- the bytes are whole records of one size and nothing else
abbrev pub is_whole : ℕ → List ℕ → Bool
is_whole size bytes = length bytes % size == 0

-- the whole records in some bytes
abbrev pub whole_records : ℕ → List ℕ → List (List ℕ)
whole_records size bytes = records size (length bytes / size) bytes
