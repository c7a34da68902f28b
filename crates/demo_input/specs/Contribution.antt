-- The SFrame contribution with a number, of one function (SFrame 2).
use Rattle.std.specs.Prelude.{ℕ, ◌+◌, ◌-◌, ◌*◌, ◌/◌, ◌%◌, List, [], ◌∷◌, ◌++◌, pos, negsuc}
use Rattle.std.specs.Int.{w32, to_le_bytes}
use Rattle.elf_format.specs.Example.{bytes_of_number}
use Rattle.sframe_format.specs.declared.header.Header.{Header}
use Rattle.sframe_format.specs.Fields.{header_bytes}
use Rattle.sframe_format.specs.Numbers.{sframe_magic, sframe_version}

-- The header: one FDE, one FRE of three bytes, and no flag. The ABI is that of x86-64, whose return address is 8 bytes below the CFA.
abbrev pub one_function_header : Header
one_function_header = record {
  magic = sframe_magic;
  version = sframe_version;
  flags = 0;
  abi_arch = 3;
  cfa_fixed_fp_offset = pos 0;
  cfa_fixed_ra_offset = negsuc 7;
  aux_len = 0;
  num_fdes = 1;
  num_fres = 1;
  fre_len = 3;
  fde_start_offset = 0;
  fre_start_offset = 20;
}

-- the contribution of a function with these bytes of its start, of 16 bytes of code, and with these bytes of its FRE
abbrev pub contribution_with : List ℕ → List ℕ → List ℕ
contribution_with start fre = header_bytes one_function_header ++ start ++ bytes_of_number 4 16 ++ bytes_of_number 4 0 ++ bytes_of_number 4 1 ++ bytes_of_number 4 0 ++ fre

-- of so many contributions, the start of the function of one: the starts descend
abbrev pub numbered_start : ℕ → ℕ → ℕ
numbered_start count number = 4096 + 16 * (count - 1 - number)

-- the bytes of its FRE tell the number
abbrev pub numbered_fre : ℕ → List ℕ
numbered_fre number = number % 256 ∷ number / 256 ∷ 238 ∷ []

-- of so many contributions, the one with a number
unfoldable pub numbered_contribution : ℕ → ℕ → List ℕ
numbered_contribution count number = contribution_with (to_le_bytes w32 (numbered_start count number)) (numbered_fre number)
