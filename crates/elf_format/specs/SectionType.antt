-- The section types (gABI, Sections, sh_type; GNU symbol versioning; RISC-V ELF psABI; CREL).
use Rattle.std.specs.Prelude.{ℕ}

abbrev pub sht_null : ℕ
sht_null = 0

abbrev pub sht_progbits : ℕ
sht_progbits = 1

abbrev pub sht_symtab : ℕ
sht_symtab = 2

abbrev pub sht_strtab : ℕ
sht_strtab = 3

-- relocations with addends
abbrev pub sht_rela : ℕ
sht_rela = 4

abbrev pub sht_dynamic : ℕ
sht_dynamic = 6

abbrev pub sht_note : ℕ
sht_note = 7

-- no bytes in the file
abbrev pub sht_nobits : ℕ
sht_nobits = 8

-- relocations without addends
abbrev pub sht_rel : ℕ
sht_rel = 9

abbrev pub sht_dynsym : ℕ
sht_dynsym = 11

abbrev pub sht_group : ℕ
sht_group = 17

abbrev pub sht_symtab_shndx : ℕ
sht_symtab_shndx = 18

-- relocations in the compact form
abbrev pub sht_crel : ℕ
sht_crel = 0x40000014

-- GNU symbol versioning
abbrev pub sht_gnu_verdef : ℕ
sht_gnu_verdef = 0x6ffffffd

abbrev pub sht_gnu_verneed : ℕ
sht_gnu_verneed = 0x6ffffffe

abbrev pub sht_gnu_versym : ℕ
sht_gnu_versym = 0x6fffffff

-- RISC-V
abbrev pub sht_riscv_attributes : ℕ
sht_riscv_attributes = 0x70000003
