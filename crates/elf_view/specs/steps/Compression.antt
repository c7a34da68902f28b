-- The compression header, whole.
use Rattle.std.specs.Prelude.{ℕ, nat_lt, if◌then◌else◌, List, length, take, Option, Some, None, Result, Ok, Err}
use Rattle.elf_format.specs.declared.error.ElfError.{ElfError}
use Rattle.elf_format.specs.declared.error.ElfError.TheVariants.{SectionData, Compressed}
use Rattle.elf_format.specs.Class.{Class, compression_header_size}

-- the compression header that begins a section's bytes
abbrev pub compression_header : Class → Option (List ℕ) → Result (List ℕ) ElfError
compression_header c None = Err SectionData
compression_header c (Some bytes) = if nat_lt (length bytes) (compression_header_size c) then Err Compressed else Ok (take (compression_header_size c) bytes)
