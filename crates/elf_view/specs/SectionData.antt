-- The bytes of a section that is not compressed (gABI, Sections: SHF_COMPRESSED), and its name as it is shown.
use Rattle.std.specs.Prelude.{ℕ, if◌then◌else◌, List, ◌++◌, codes, decimal, Option, Some, None, is_none}
use Rattle.elf_format.specs.declared.error.ElfError.{ElfError}
use Rattle.elf_format.specs.declared.error.ElfError.TheVariants.{SectionData, Compressed}
use Rattle.elf_format.specs.Bytes.{get}
use Rattle.elf_format.specs.Class.{Class, sh_flags}
use Rattle.elf_format.specs.Section.{section_bytes}
use Rattle.elf_format.specs.Flags.{has_flag, shf_compressed}

-- a section's bytes, where they are within the file and not compressed
abbrev pub plain_bytes : Class → List ℕ → List ℕ → Option (List ℕ)
plain_bytes c file header = if has_flag (get (sh_flags c) header) shf_compressed then None else section_bytes c file header

-- why a section's bytes are not returned
abbrev pub data_fault : Class → List ℕ → List ℕ → Option ElfError
data_fault c file header =
    if is_none (section_bytes c file header) then Some SectionData
    else if has_flag (get (sh_flags c) header) shf_compressed then Some Compressed
    else None

-- the name of the section at an index as it is shown: `<index N>` where it is unreadable
abbrev pub display_name : ℕ → Option (List ℕ) → List ℕ
display_name index None = codes "<index " ++ decimal index ++ codes ">"
display_name index (Some name) = name
