-- What a symbol table entry says of its symbol (gABI, Symbol Table), over the bytes of the entry.
use Rattle.std.specs.Prelude.{ℕ, ◌/◌, ◌%◌, ◌^◌, ◌==◌, ◌||◌, ◌&&◌, Bool, List, max, nat_lt}
use Rattle.std.specs.Int.{is_power_of_two}
use Rattle.elf_format.specs.Bytes.{get}
use Rattle.elf_format.specs.Class.{Class, st_info, st_other, st_shndx, st_value, st_size}
use Rattle.elf_words.specs.Align.{next_like}

-- STB_LOCAL, STB_WEAK and STB_GNU_UNIQUE
abbrev pub stb_local : ℕ
stb_local = 0

abbrev pub stb_weak : ℕ
stb_weak = 2

abbrev pub stb_gnu_unique : ℕ
stb_gnu_unique = 10

-- the symbol types
abbrev pub stt_notype : ℕ
stt_notype = 0

abbrev pub stt_object : ℕ
stt_object = 1

abbrev pub stt_func : ℕ
stt_func = 2

abbrev pub stt_section : ℕ
stt_section = 3

abbrev pub stt_file : ℕ
stt_file = 4

abbrev pub stt_common : ℕ
stt_common = 5

abbrev pub stt_tls : ℕ
stt_tls = 6

abbrev pub stt_gnu_ifunc : ℕ
stt_gnu_ifunc = 10

-- the visibilities
abbrev pub stv_default : ℕ
stv_default = 0

abbrev pub stv_hidden : ℕ
stv_hidden = 2

abbrev pub stv_protected : ℕ
stv_protected = 3

-- the special section indexes of a symbol that is absolute, and of one that is common
abbrev pub shn_abs : ℕ
shn_abs = 0xfff1

abbrev pub shn_common : ℕ
shn_common = 0xfff2

-- the binding and the type of st_info
abbrev pub symbol_binding : Class → List ℕ → ℕ
symbol_binding class entry = get (st_info class) entry / 16

abbrev pub symbol_type : Class → List ℕ → ℕ
symbol_type class entry = get (st_info class) entry % 16

-- the visibility of st_other
abbrev pub symbol_visibility : Class → List ℕ → ℕ
symbol_visibility class entry = get (st_other class) entry % 4

-- whether a number is 0 or a power of two, as an alignment has to be
abbrev pub is_alignment : ℕ → Bool
is_alignment value = value == 0 || is_power_of_two value

-- the size of a common symbol, rounded up to its alignment
abbrev pub common_size : Class → List ℕ → ℕ
common_size class entry = next_like (max 1 (get (st_value class) entry)) 0 (get (st_size class) entry)

-- whether a symbol is common, and its alignment and its size can be given
abbrev pub is_common_symbol : Class → List ℕ → Bool
is_common_symbol class entry = get (st_shndx class) entry == shn_common && (is_alignment (get (st_value class) entry) && nat_lt (common_size class entry) (2 ^ 64))
