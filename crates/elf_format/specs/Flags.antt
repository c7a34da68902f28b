-- Flags, each of one bit, and the section flags (gABI, Section Attribute Flags; GNU extensions).
use Rattle.std.specs.Prelude.{ℕ, Bool, not, ◌==◌}
use Rattle.std.specs.Int.Bits.{bit_and}

-- whether a flag is set
abbrev pub has_flag : ℕ → ℕ → Bool
has_flag flags flag = not (bit_and flags flag == 0)

abbrev pub shf_write : ℕ
shf_write = 1

abbrev pub shf_alloc : ℕ
shf_alloc = 2

abbrev pub shf_execinstr : ℕ
shf_execinstr = 4

abbrev pub shf_merge : ℕ
shf_merge = 0x10

abbrev pub shf_strings : ℕ
shf_strings = 0x20

abbrev pub shf_group : ℕ
shf_group = 0x200

abbrev pub shf_tls : ℕ
shf_tls = 0x400

abbrev pub shf_compressed : ℕ
shf_compressed = 0x800

abbrev pub shf_gnu_retain : ℕ
shf_gnu_retain = 0x200000

abbrev pub shf_exclude : ℕ
shf_exclude = 0x80000000
