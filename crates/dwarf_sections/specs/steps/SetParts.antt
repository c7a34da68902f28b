-- What a reader of sets finds at the front of bytes. Only private contracts cite this.
use Rattle.std.specs.Prelude.{◌≡◌, ℕ, ◌+◌, ◌*◌, ◌<◌, List, ◌++◌, length, Option, Some, None}
use Rattle.std.specs.Int.{w16, to_le_bytes}
use denote.Ref.{Bor}
use Rattle.gdb_index_format.specs.declared.dwarf_format.DwarfFormat.{DwarfFormat}
use Rattle.gdb_index_format.specs.Names.{NameSet, width, limit, number, initial_length, length_limit, IsSet}
use Rattle.dwarf_sections.specs.Sets.{set_in}
use Rattle.dwarf_sections.specs.declared.sets.Length.{Length}
use Rattle.dwarf_sections.specs.declared.sets.SetHead.{SetHead}
use Rattle.dwarf_sections.specs.declared.sets.SetAndRest.{SetAndRest}

-- an initial length at the front, or none
abbrev pub LengthAt : List ℕ → Option Length → Type 0
LengthAt bytes None = (format : DwarfFormat) (n : ℕ) (rest : List ℕ) → n < length_limit format → bytes ≡ initial_length format n ++ rest → ⊥
LengthAt bytes (Some l) = (l.len < length_limit l.format) × (bytes ≡ initial_length l.format l.len ++ l.rest.now)

-- the bytes after the initial length of a set
abbrev pub body : DwarfFormat → ℕ → ℕ → List ℕ → List ℕ
body format unit unit_len last = to_le_bytes w16 2 ++ (number format unit ++ (number format unit_len ++ last))

abbrev pub BodyAt : DwarfFormat → List ℕ → Option (ℕ × Bor (List ℕ)) → Type 0
BodyAt format bytes None = (unit unit_len : ℕ) (last : List ℕ) → unit < limit format → unit_len < limit format → bytes ≡ body format unit unit_len last → ⊥
BodyAt format bytes (Some p) = (unit_len : ℕ) × (p.0 < limit format) × (unit_len < limit format) × (bytes ≡ body format p.0 unit_len p.1.now)

-- no set stands at the front
abbrev pub NoSet : List ℕ → Type 0
NoSet bytes = (front rest : List ℕ) (s : NameSet) → bytes ≡ front ++ rest → IsSet front s → ⊥

-- a set but for the entries that its last bytes hold
pub record IsHead (bytes : List ℕ) (h : SetHead) : Type 0 where
  pub unit_len : ℕ
  pub unit_fits : h.unit < limit h.format
  pub len_fits : unit_len < limit h.format
  pub fits : 2 + 2 * width h.format + length h.last.now < length_limit h.format
  pub bytes_are : bytes ≡ initial_length h.format (2 + 2 * width h.format + length h.last.now) ++ (body h.format h.unit unit_len h.last.now ++ h.rest.now)

abbrev pub HeadAt : List ℕ → Option SetHead → Type 0
HeadAt bytes None = NoSet bytes
HeadAt bytes (Some h) = IsHead bytes h

abbrev pub FoundSet : List ℕ → SetAndRest → Type 0
FoundSet bytes s = (front : List ℕ) × (bytes ≡ front ++ s.rest.now) × IsSet front (set_in s.set)
