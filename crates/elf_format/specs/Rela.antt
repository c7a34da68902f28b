-- Lists of RELA records (gABI, Relocation).
use Rattle.std.specs.Prelude.{ℕ, zero, suc, ◌/◌, ◌%◌, if◌then◌else◌, List, map, Option, Some, None}
use Rattle.elf_format.specs.declared.crel.Crel.{Crel}
use Rattle.elf_format.specs.Bytes.{get, is_whole, whole_records}
use Rattle.elf_format.specs.Class.{Class, rela_size, r_offset, r_info, r_addend, symbol_unit, signed_word}

-- the relocation of a RELA record
unfoldable pub rela_values : Class → List ℕ → Crel
rela_values c rela = record {
  offset = get (r_offset c) rela;
  symbol = get (r_info c) rela / symbol_unit c;
  kind = get (r_info c) rela % symbol_unit c;
  addend = signed_word c (get (r_addend c) rela);
}

-- the relocations, where the bytes are whole records
unfoldable pub rela_list : Class → List ℕ → Option (List Crel)
rela_list c bytes = if is_whole (rela_size c) bytes then Some (map (rela_values c) (whole_records (rela_size c) bytes)) else None

-- symbol index 0 means no symbol
abbrev pub symbol_of : ℕ → Option ℕ
symbol_of zero = None
symbol_of (suc n) = Some (suc n)

-- the relocations of the whole records in some bytes
abbrev pub rela_entries : Class → List ℕ → List Crel
rela_entries c bytes = map (rela_values c) (whole_records (rela_size c) bytes)
