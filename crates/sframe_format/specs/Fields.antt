-- The 28 bytes of a header (SFrame 2, SFrame Header), and the signed numbers of an FDE.
use Rattle.std.specs.Prelude.{◌≡◌, ◌≢◌, ℕ, ℤ, Result, Ok, Err, List, [], ◌∷◌, ◌++◌, slice_index}
use Rattle.std.specs.Int.{w8, w16, w32, to_le_bytes, cast_signed, cast_unsigned}
use Rattle.elf_format.specs.Bytes.{u16_at, u32_at}
use Rattle.sframe_format.specs.Numbers.{sframe_magic, sframe_version}
use Rattle.sframe_format.specs.declared.header.Header.{Header}
use Rattle.sframe_format.specs.declared.header.SframeError.{SframeError}
use Rattle.sframe_format.specs.declared.header.SframeError.TheVariants.{BadMagicBytes, UnsupportedVersion}

-- the signed number in the four bytes at an offset
abbrev pub i32_at : List ℕ → ℕ → ℤ
i32_at bytes at = cast_signed w32 (u32_at bytes at)

-- the bytes of a signed number
abbrev pub i32_bytes : ℤ → List ℕ
i32_bytes z = to_le_bytes w32 (cast_unsigned w32 z)

-- the header in the first 28 bytes
abbrev pub header_of : List ℕ → Header
header_of bytes = record {
  magic = u16_at bytes 0;
  version = slice_index bytes 2;
  flags = slice_index bytes 3;
  abi_arch = slice_index bytes 4;
  cfa_fixed_fp_offset = cast_signed w8 (slice_index bytes 5);
  cfa_fixed_ra_offset = cast_signed w8 (slice_index bytes 6);
  aux_len = slice_index bytes 7;
  num_fdes = u32_at bytes 8;
  num_fres = u32_at bytes 12;
  fre_len = u32_at bytes 16;
  fde_start_offset = u32_at bytes 20;
  fre_start_offset = u32_at bytes 24;
}

-- the 28 bytes of a header
abbrev pub header_bytes : Header → List ℕ
header_bytes h =
    to_le_bytes w16 h.magic
    ++ (h.version ∷ h.flags ∷ h.abi_arch ∷ cast_unsigned w8 h.cfa_fixed_fp_offset ∷ cast_unsigned w8 h.cfa_fixed_ra_offset ∷ h.aux_len ∷ [])
    ++ to_le_bytes w32 h.num_fdes
    ++ to_le_bytes w32 h.num_fres
    ++ to_le_bytes w32 h.fre_len
    ++ to_le_bytes w32 h.fde_start_offset
    ++ to_le_bytes w32 h.fre_start_offset

-- the result of parsing a header of these fields
abbrev pub IsParsedHeader : Header → Result Header SframeError → Type 0
IsParsedHeader h (Ok parsed) = (parsed ≡ h) × (h.magic ≡ sframe_magic) × (h.version ≡ sframe_version)
IsParsedHeader h (Err (BadMagicBytes value)) = (value ≡ h.magic) × (h.magic ≢ sframe_magic)
IsParsedHeader h (Err (UnsupportedVersion value)) = (value ≡ h.version) × (h.magic ≡ sframe_magic) × (h.version ≢ sframe_version)

-- the fields of a header have one result
abbrev pub ParsedHeadersAreOne : Type 0
ParsedHeadersAreOne = (h : Header) (r s : Result Header SframeError) → IsParsedHeader h r → IsParsedHeader h s → r ≡ s
