-- The contributions of ranges: headers, FDEs and FREs (SFrame 2).
use Rattle.std.specs.Prelude.{ℕ, ℤ, pos, ◌+ℤ◌, ◌+◌, ◌-◌, ◌*◌, Bool, not, ◌&&◌, ◌==◌, nat_lt, nat_le, List, length, map, filter, take_while, find, fold, min, Option, if◌then◌else◌, slice_range}
use Rattle.std.specs.List.{flat_map, range_with_len}
use Rattle.std.specs.Option.{option_map}
use Rattle.sframe_format.specs.declared.header.Header.{Header}
use Rattle.elf_format.specs.declared.index.Span.{Span}
use Rattle.elf_format.specs.Bytes.{u32_at}
use Rattle.elf_format.specs.Flags.{has_flag}
use Rattle.sframe_format.specs.Fields.{i32_at, header_of}
use Rattle.sframe_format.specs.Numbers.{sframe_magic, sframe_version, sframe_header_size, fde_size, sframe_f_fde_func_start_pcrel}

-- the bytes of a range of at least 28 bytes, and their offset in the section
pub record Contribution : Type 0 where
  pub offset : ℕ
  pub bytes : List ℕ

abbrev pub contribution_at : List ℕ → Span → Contribution
contribution_at s r = record { offset = r.start; bytes = slice_range s r.start r.stop }

abbrev pub is_contribution : Span → Bool
is_contribution r = nat_le sframe_header_size (r.stop - r.start)

abbrev pub contributions : List ℕ → List Span → List Contribution
contributions s rs = map (contribution_at s) (filter is_contribution rs)

abbrev pub header : Contribution → Header
header c = header_of c.bytes

-- the right magic, and a version other than 2
abbrev pub is_other_version : Contribution → Bool
is_other_version c = ((header c).magic == sframe_magic) && not ((header c).version == sframe_version)

-- the contributions before the first of another version
abbrev pub read_ones : List ℕ → List Span → List Contribution
read_ones s rs = take_while (λ c. not (is_other_version c)) (contributions s rs)

-- the first version other than 2
abbrev pub other_version : List ℕ → List Span → Option ℕ
other_version s rs = option_map (λ c. (header c).version) (find is_other_version (contributions s rs))

-- the offsets of the first FDE and of the first FRE, from the start of the contribution
abbrev pub fdes_start : Contribution → ℕ
fdes_start c = sframe_header_size + (header c).aux_len + (header c).fde_start_offset

abbrev pub fres_start : Contribution → ℕ
fres_start c = sframe_header_size + (header c).aux_len + (header c).fre_start_offset

-- the offset of FDE d, from the start of the contribution
abbrev pub fde_at : Contribution → ℕ → ℕ
fde_at c d = fdes_start c + fde_size * d

-- What a start value counts from, in bytes from the start of the section: the offset of its field, where the flag
-- says so, else 0.
abbrev pub origin : ℕ → ℕ → ℕ
origin flags offset = if has_flag flags sframe_f_fde_func_start_pcrel then offset else 0

abbrev pub row_offset : Contribution → ℕ → ℕ
row_offset c d = u32_at c.bytes (fde_at c d + 8)

abbrev pub row_offsets : Contribution → List ℕ
row_offsets c = map (row_offset c) (range_with_len 0 (header c).num_fdes)

-- the least of these numbers above o, or the end where there is none
abbrev pub next_above : List ℕ → ℕ → ℕ → ℕ
next_above offsets end o = fold min end (filter (nat_lt o) offsets)

-- A function: its start from the base of the section; of its FDE the size field and what follows the row offset; and
-- its FREs.
pub record Function : Type 0 where
  pub start : ℤ
  pub size : List ℕ
  pub info : List ℕ
  pub fres : List ℕ

abbrev pub function_at : Contribution → ℕ → Function
function_at c d =
    let at = fde_at c d in
    let o = row_offset c d in
    record {
      start = pos (origin (header c).flags (c.offset + at)) +ℤ i32_at c.bytes at;
      size = slice_range c.bytes (at + 4) (at + 8);
      info = slice_range c.bytes (at + 12) (at + fde_size);
      fres = slice_range c.bytes (fres_start c + o) (fres_start c + next_above (row_offsets c) (length c.bytes - fres_start c) o);
    }

abbrev pub functions_of : Contribution → List Function
functions_of c = map (function_at c) (range_with_len 0 (header c).num_fdes)

abbrev pub functions : List Contribution → List Function
functions cs = flat_map functions_of cs
