-- What a reader of entries finds at the front of bytes. Only private contracts cite this.
use Rattle.std.specs.Prelude.{◌≡◌, ◌≢◌, ℕ, ◌<◌, List, ◌∷◌, ◌++◌, length, Option, Some, None}
use Rattle.std.specs.List.{All}
use denote.Ref.{Bor}
use Rattle.gdb_index_format.specs.declared.dwarf_format.DwarfFormat.{DwarfFormat}
use Rattle.gdb_index_format.specs.Names.{Entry, width, limit, number, IsClosed, IsEntry}
use Rattle.dwarf_sections.specs.declared.entries.NameEntry.{NameEntry}

abbrev pub seen_entry : NameEntry → Entry
seen_entry e = record { name = e.name.now; flag = e.flag }

-- a number and the bytes after it, where the bytes have so many
abbrev pub NumberAt : DwarfFormat → List ℕ → Option (ℕ × Bor (List ℕ)) → Type 0
NumberAt format bytes None = length bytes < width format
NumberAt format bytes (Some p) = (p.0 < limit format) × (bytes ≡ number format p.0 ++ p.1.now)

-- the bytes before the first zero byte and after it, where there is one
abbrev pub SplitsName : List ℕ → Option (Bor (List ℕ) × Bor (List ℕ)) → Type 0
SplitsName bytes None = All (λ c. c ≢ 0) bytes
SplitsName bytes (Some p) = All (λ c. c ≢ 0) p.0.now × (bytes ≡ p.0.now ++ 0 ∷ p.1.now)

abbrev pub FoundEntry : DwarfFormat → List ℕ → Option NameEntry → Type 0
FoundEntry format bytes None = IsClosed format bytes
FoundEntry format bytes (Some e) = IsEntry format bytes (seen_entry e) e.rest.now

-- neither an entry nor the end of the entries
pub record NoEntry (format : DwarfFormat) (bytes : List ℕ) : Type 0 where
  pub not_closed : IsClosed format bytes → ⊥
  pub no_entry : (e : Entry) (rest : List ℕ) → IsEntry format bytes e rest → ⊥
