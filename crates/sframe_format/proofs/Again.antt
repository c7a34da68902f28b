-- A header is read back.
use Rattle.std.proofs.Common.{◌≡◌, ℕ, ◌<◌, ◌^◌, ◌++◌, List, refl, FitsSigned, ◌∙◌}
use Rattle.std.specs.Int.{w8}
use Rattle.std.proofs.lemmas.Nat.{from_le_bytes-to_le_bytes_2, from_le_bytes-to_le_bytes_4}
use Rattle.std.proofs.lemmas.Int.{to_z-of_z}
use Rattle.elf_format.proofs.NumberLemmas.{u16_is_read, u32_is_read}
use Rattle.sframe_format.specs.declared.header.Header.{Header}
use Rattle.sframe_format.specs.Fields.{header_of, header_bytes}
use Rattle.sframe_format.proofs.Headers.{same_header}

-- what has a spelling
pub record HeaderFits (h : Header) : Type 0 where
  pub magic : h.magic < 2 ^ 16
  pub fp : FitsSigned w8 h.cfa_fixed_fp_offset
  pub ra : FitsSigned w8 h.cfa_fixed_ra_offset
  pub fdes : h.num_fdes < 2 ^ 32
  pub fres : h.num_fres < 2 ^ 32
  pub len : h.fre_len < 2 ^ 32
  pub fde_start : h.fde_start_offset < 2 ^ 32
  pub fre_start : h.fre_start_offset < 2 ^ 32

-- a header is read back, whatever follows
pub header_of-header_bytes : (h : Header) (rest : List ℕ) → HeaderFits h → header_of (header_bytes h ++ rest) ≡ h
header_of-header_bytes h rest fits =
    let b : List ℕ = header_bytes h ++ rest in
    same_header (u16_is_read b 0 ∙ from_le_bytes-to_le_bytes_2 h.magic fits.magic) refl refl refl (to_z-of_z w8 h.cfa_fixed_fp_offset fits.fp) (to_z-of_z w8 h.cfa_fixed_ra_offset fits.ra) refl
    (u32_is_read b 8 ∙ from_le_bytes-to_le_bytes_4 h.num_fdes fits.fdes)
    (u32_is_read b 12 ∙ from_le_bytes-to_le_bytes_4 h.num_fres fits.fres)
    (u32_is_read b 16 ∙ from_le_bytes-to_le_bytes_4 h.fre_len fits.len)
    (u32_is_read b 20 ∙ from_le_bytes-to_le_bytes_4 h.fde_start_offset fits.fde_start)
    (u32_is_read b 24 ∙ from_le_bytes-to_le_bytes_4 h.fre_start_offset fits.fre_start)
