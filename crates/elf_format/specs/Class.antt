-- The two classes of ELF files: the size of each record, and the offsets of its fields (gABI: ELF Header,
-- Sections, Symbol Table, Relocation, Program Header, Dynamic Section, Section Compression).
use Rattle.std.specs.Prelude.{ℕ, ◌^◌, ℤ}
use Rattle.std.specs.Int.{w32, w64, cast_signed}
use Rattle.elf_format.specs.Bytes.{Field, field_at}
use Rattle.elf_format.specs.FileHeader.{elfclass32, elfclass64}

pub data Class : Type 0 where
  class32 : Class
  class64 : Class

-- the byte of e_ident that names the class
abbrev pub class_byte : Class → ℕ
class_byte class32 = elfclass32
class_byte class64 = elfclass64

-- a field as wide as an address: its offset in ELFCLASS32 and in ELFCLASS64
abbrev pub word_at : Class → ℕ → ℕ → Field
word_at class32 at32 at64 = field_at at32 4
word_at class64 at32 at64 = field_at at64 8

-- a field of one width in both classes: its offset in ELFCLASS32, in ELFCLASS64, and its width
abbrev pub fixed_at : Class → ℕ → ℕ → ℕ → Field
fixed_at class32 at32 at64 width = field_at at32 width
fixed_at class64 at32 at64 width = field_at at64 width

-- the file header

abbrev pub file_header_size : Class → ℕ
file_header_size class32 = 52
file_header_size class64 = 64

abbrev pub e_type : Class → Field
e_type c = fixed_at c 16 16 2

abbrev pub e_machine : Class → Field
e_machine c = fixed_at c 18 18 2

abbrev pub e_version : Class → Field
e_version c = fixed_at c 20 20 4

abbrev pub e_entry : Class → Field
e_entry c = word_at c 24 24

abbrev pub e_phoff : Class → Field
e_phoff c = word_at c 28 32

abbrev pub e_shoff : Class → Field
e_shoff c = word_at c 32 40

abbrev pub e_flags : Class → Field
e_flags c = fixed_at c 36 48 4

abbrev pub e_ehsize : Class → Field
e_ehsize c = fixed_at c 40 52 2

abbrev pub e_phentsize : Class → Field
e_phentsize c = fixed_at c 42 54 2

abbrev pub e_phnum : Class → Field
e_phnum c = fixed_at c 44 56 2

abbrev pub e_shentsize : Class → Field
e_shentsize c = fixed_at c 46 58 2

abbrev pub e_shnum : Class → Field
e_shnum c = fixed_at c 48 60 2

abbrev pub e_shstrndx : Class → Field
e_shstrndx c = fixed_at c 50 62 2

-- a section header

abbrev pub section_header_size : Class → ℕ
section_header_size class32 = 40
section_header_size class64 = 64

abbrev pub sh_name : Class → Field
sh_name c = fixed_at c 0 0 4

abbrev pub sh_type : Class → Field
sh_type c = fixed_at c 4 4 4

abbrev pub sh_flags : Class → Field
sh_flags c = word_at c 8 8

abbrev pub sh_addr : Class → Field
sh_addr c = word_at c 12 16

abbrev pub sh_offset : Class → Field
sh_offset c = word_at c 16 24

abbrev pub sh_size : Class → Field
sh_size c = word_at c 20 32

abbrev pub sh_link : Class → Field
sh_link c = fixed_at c 24 40 4

abbrev pub sh_info : Class → Field
sh_info c = fixed_at c 28 44 4

abbrev pub sh_addralign : Class → Field
sh_addralign c = word_at c 32 48

abbrev pub sh_entsize : Class → Field
sh_entsize c = word_at c 36 56

-- a symbol table entry

abbrev pub symbol_size : Class → ℕ
symbol_size class32 = 16
symbol_size class64 = 24

abbrev pub st_name : Class → Field
st_name c = fixed_at c 0 0 4

abbrev pub st_info : Class → Field
st_info c = fixed_at c 12 4 1

abbrev pub st_other : Class → Field
st_other c = fixed_at c 13 5 1

abbrev pub st_shndx : Class → Field
st_shndx c = fixed_at c 14 6 2

abbrev pub st_value : Class → Field
st_value c = word_at c 4 8

abbrev pub st_size : Class → Field
st_size c = word_at c 8 16

-- a RELA record

abbrev pub rela_size : Class → ℕ
rela_size class32 = 12
rela_size class64 = 24

abbrev pub r_offset : Class → Field
r_offset c = word_at c 0 0

abbrev pub r_info : Class → Field
r_info c = word_at c 4 8

abbrev pub r_addend : Class → Field
r_addend c = word_at c 8 16

-- r_info is the symbol index times this number, plus the relocation type
abbrev pub symbol_unit : Class → ℕ
symbol_unit class32 = 2 ^ 8
symbol_unit class64 = 2 ^ 32

-- the signed number of an addend or a tag
abbrev pub signed_word : Class → ℕ → ℤ
signed_word class32 n = cast_signed w32 n
signed_word class64 n = cast_signed w64 n

-- a program header

abbrev pub program_header_size : Class → ℕ
program_header_size class32 = 32
program_header_size class64 = 56

abbrev pub p_type : Class → Field
p_type c = fixed_at c 0 0 4

abbrev pub p_flags : Class → Field
p_flags c = fixed_at c 24 4 4

abbrev pub p_offset : Class → Field
p_offset c = word_at c 4 8

abbrev pub p_vaddr : Class → Field
p_vaddr c = word_at c 8 16

abbrev pub p_paddr : Class → Field
p_paddr c = word_at c 12 24

abbrev pub p_filesz : Class → Field
p_filesz c = word_at c 16 32

abbrev pub p_memsz : Class → Field
p_memsz c = word_at c 20 40

abbrev pub p_align : Class → Field
p_align c = word_at c 28 48

-- an entry of the dynamic section; its tag is signed

abbrev pub dyn_size : Class → ℕ
dyn_size class32 = 8
dyn_size class64 = 16

abbrev pub d_tag : Class → Field
d_tag c = word_at c 0 0

abbrev pub d_value : Class → Field
d_value c = word_at c 4 8

-- a relative relocation

abbrev pub relr_size : Class → ℕ
relr_size class32 = 4
relr_size class64 = 8

abbrev pub r_value : Class → Field
r_value c = word_at c 0 0

-- a compression header

abbrev pub compression_header_size : Class → ℕ
compression_header_size class32 = 12
compression_header_size class64 = 24

abbrev pub ch_type : Class → Field
ch_type c = fixed_at c 0 0 4

abbrev pub ch_size : Class → Field
ch_size c = word_at c 4 8

abbrev pub ch_addralign : Class → Field
ch_addralign c = word_at c 8 16
