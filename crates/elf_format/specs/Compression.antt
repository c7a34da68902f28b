-- The size and the alignment of a section's data (gABI, Section Compression): those of the compression header where the
-- section is compressed, else those of the section header.
use Rattle.std.specs.Prelude.{ℕ, nat_lt, if◌then◌else◌, List, length, Option, Some, None, Result, Ok, Err}
use Rattle.elf_format.specs.declared.error.ElfError.{ElfError}
use Rattle.elf_format.specs.declared.error.ElfError.TheVariants.{SectionData, Compressed}
use Rattle.elf_format.specs.Bytes.{Field, get}
use Rattle.elf_format.specs.Class.{Class, sh_flags, sh_size, sh_addralign, compression_header_size, ch_size, ch_addralign}
use Rattle.elf_format.specs.Flags.{has_flag, shf_compressed}
use Rattle.elf_format.specs.Section.{section_bytes}

-- a field of the compression header that begins a section's bytes
abbrev pub compressed_field : Class → Field → Option (List ℕ) → Result ℕ ElfError
compressed_field c field None = Err SectionData
compressed_field c field (Some bytes) = if nat_lt (length bytes) (compression_header_size c) then Err Compressed else Ok (get field bytes)

-- a field of the section header, or where the section is compressed the field of its compression header
abbrev pub field_of_data : Class → Field → Field → List ℕ → List ℕ → Result ℕ ElfError
field_of_data c plain compressed file header =
    if has_flag (get (sh_flags c) header) shf_compressed then compressed_field c compressed (section_bytes c file header)
    else Ok (get plain header)

-- the size in bytes of a section's data once it is not compressed
abbrev pub data_size : Class → List ℕ → List ℕ → Result ℕ ElfError
data_size c file header = field_of_data c (sh_size c) (ch_size c) file header

-- the alignment of a section's data
abbrev pub data_alignment : Class → List ℕ → List ℕ → Result ℕ ElfError
data_alignment c file header = field_of_data c (sh_addralign c) (ch_addralign c) file header
