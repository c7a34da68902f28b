-- What a setter does: it writes a little-endian number into a field of a record and leaves all other bytes.
use Rattle.std.specs.Prelude.{ℕ, ℤ, pos, negsuc, ◌≡◌, ◌+◌, ◌-◌, ◌*◌, ◌/◌, ◌%◌, ◌^◌, ◌<◌, ◌≤◌, List, ◌++◌, take, drop, Result, MatchResult}
use Rattle.std.specs.Int.{Width, w32, w64, cast_unsigned, bytes_low_first}
use Rattle.std.specs.Int.RustNames.{FitsSigned}
use Rattle.elf_format.specs.Bytes.{Field}
use Rattle.elf_format.specs.Class.{Class, class32, class64}
use Rattle.elf_words.specs.declared.word.Field.{Field as FieldName}
use Rattle.elf_words.specs.declared.word.FieldError.{FieldError}
use Rattle.elf_words.specs.declared.word.FieldError.TheVariants.{DoesNotFit, Negative}

-- the bytes of a record with this number in a field
unfoldable pub with_field : Field → ℕ → List ℕ → List ℕ
with_field field value bytes = take field.at bytes ++ bytes_low_first 0 field.width value ++ drop (field.at + field.width) bytes

-- A number is written into a field; or it is above the range of the field, and nothing changes.
abbrev pub IsPut : Field → FieldName → ℕ → List ℕ → List ℕ → Result Unit FieldError → Type 0
IsPut field name value old new result = MatchResult result
    (λ _. (value < 2 ^ (8 * field.width)) × (new ≡ with_field field value old))
    (λ e. (2 ^ (8 * field.width) ≤ value) × (e ≡ DoesNotFit name value) × (new ≡ old))

-- the width of an address
abbrev pub word_of : Class → Width
word_of class32 = w32
word_of class64 = w64

-- the error for a signed number that does not fit a field: n above its range, or -(n + 1) below it
abbrev pub IsOutside : Field → FieldName → ℤ → FieldError → Type 0
IsOutside field name (pos n) e = (2 ^ (8 * field.width - 1) ≤ n) × (e ≡ DoesNotFit name n)
IsOutside field name (negsuc n) e = (2 ^ (8 * field.width - 1) ≤ n) × (e ≡ Negative name (negsuc n))

-- A signed number is written in two's complement into a field as wide as an address; or it is out of the range of
-- the field, and nothing changes.
abbrev pub IsSignedPut : Class → Field → FieldName → ℤ → List ℕ → List ℕ → Result Unit FieldError → Type 0
IsSignedPut class field name value old new result = MatchResult result
    (λ _. FitsSigned (word_of class) value × (new ≡ with_field field (cast_unsigned (word_of class) value) old))
    (λ e. IsOutside field name value e × (new ≡ old))

-- the limit of the symbol indexes of r_info
abbrev pub symbol_limit : Class → ℕ
symbol_limit class32 = 2 ^ 24
symbol_limit class64 = 2 ^ 32

-- st_info of a binding and a type: the low four bits of each
abbrev pub binding_and_type : ℕ → ℕ → ℕ
binding_and_type binding type = binding % 16 * 16 + type % 16

-- st_other with this visibility in its low two bits
abbrev pub with_visibility : ℕ → ℕ → ℕ
with_visibility visibility other = other / 4 * 4 + visibility % 4
