-- The numbers of a file header (gABI, ELF Header: e_ident, e_type, e_machine).
use Rattle.std.specs.Prelude.{ℕ, List, [], ◌∷◌}

-- the class bytes
abbrev pub elfclass32 : ℕ
elfclass32 = 1

abbrev pub elfclass64 : ℕ
elfclass64 = 2

-- little endian
abbrev pub elfdata2lsb : ℕ
elfdata2lsb = 1

-- the version of the format
abbrev pub ev_current : ℕ
ev_current = 1

-- the types of a relocatable and of a shared file
abbrev pub et_rel : ℕ
et_rel = 1

abbrev pub et_dyn : ℕ
et_dyn = 3

-- the machines
abbrev pub em_ppc64 : ℕ
em_ppc64 = 21

abbrev pub em_x86_64 : ℕ
em_x86_64 = 62

abbrev pub em_aarch64 : ℕ
em_aarch64 = 183

abbrev pub em_riscv : ℕ
em_riscv = 243

abbrev pub em_loongarch : ℕ
em_loongarch = 258

-- the first four bytes: 0x7f E L F
abbrev pub elf_magic : List ℕ
elf_magic = 0x7f ∷ 0x45 ∷ 0x4c ∷ 0x46 ∷ []
