-- Small sections and their entries.
use Rattle.std.proofs.Common.{◌≡◌, inl, inr, ℕ, ◌+◌, ◌<◌, ◌≤◌, List, [], ◌∷◌, length, None, refl, sym, arith}
use Rattle.elf_format.specs.Bytes.{le}
use Rattle.elf_format.specs.declared.crel.Crel.{Crel}
use Rattle.elf_frames.specs.FrameExample.{cie_and_fde, section_with, lists_of_example, cie_of_example}
use Rattle.std.specs.List.{filter_map}
use Rattle.elf_frames.specs.Entries.{Begins, IsEntryAt, IsEnd, length_at}
use Rattle.elf_frames.specs.Frames.{Frame}
use Rattle.elf_frames.specs.Taken.{first_lacking, cie_of, frame_of}
use Rattle.elf_frames.specs.Split.{IsSplit}

pub begins : (bytes : List ℕ) (at n len : ℕ) → length bytes ≡ len → length_at bytes at ≡ n → 0 < n → at + 8 ≤ len → Begins bytes at
begins bytes at n len is read some room = record { room = omega (arith, is); some = λ zero. absurd (omega (arith, read, zero)) }

pub is_entry : (bytes : List ℕ) (at n len : ℕ) → length bytes ≡ len → length_at bytes at ≡ n → 0 < n → at + 8 ≤ len → at + (4 + n) ≤ len → IsEntryAt bytes at (record { offset = at; size = 4 + n })
is_entry bytes at n len is read some room within = record {
  begins = begins bytes at n len is read some room;
  offset = refl;
  size = omega (arith, read);
  within = omega (arith, is);
}

pub short : (bytes : List ℕ) (at len : ℕ) → length bytes ≡ len → len < at + 8 → IsEnd bytes at
short bytes at len is h = inl (omega (arith, is))

pub zero_length : (bytes : List ℕ) (at len : ℕ) → length bytes ≡ len → at + 8 ≤ len → length_at bytes at ≡ 0 → IsEnd bytes at
zero_length bytes at len is h read = inr (omega (arith, is), read)

-- the CIE and the FDE of the example, with any relocations
pub is_cie_at : IsEntryAt cie_and_fde 0 (record { offset = 0; size = 8 })
unfolding le
is_cie_at = is_entry cie_and_fde 0 4 24 refl refl (omega arith) (omega arith) (omega arith)

pub is_fde_at : IsEntryAt cie_and_fde 8 (record { offset = 8; size = 16 })
unfolding le
is_fde_at = is_entry cie_and_fde 8 12 24 refl refl (omega arith) (omega arith) (omega arith)

pub splits : (rs : List Crel) (fs : List Frame) → first_lacking (section_with cie_and_fde rs) (record { offset = 0; size = 8 }) ≡ None
    → first_lacking (section_with cie_and_fde rs) (record { offset = 8; size = 16 }) ≡ None
    → filter_map (frame_of (section_with cie_and_fde rs)) (record { offset = 0; size = 8 } ∷ record { offset = 8; size = 16 } ∷ []) ≡ fs
    → filter_map (cie_of (section_with cie_and_fde rs)) (record { offset = 0; size = 8 } ∷ record { offset = 8; size = 16 } ∷ []) ≡ cie_of_example ∷ []
    → IsSplit (section_with cie_and_fde rs) (lists_of_example fs)
splits rs fs first second frames cies = record {
  entries = record { offset = 0; size = 8 } ∷ record { offset = 8; size = 16 } ∷ [];
  stop = 24;
  are_entries = record { tile = (is_cie_at, (is_fde_at, refl)); symbols = (first, (second, tt)) };
  is_end = short cie_and_fde 24 24 refl (omega arith);
  cies = sym cies;
  frames = sym frames;
  rest = refl;
}
