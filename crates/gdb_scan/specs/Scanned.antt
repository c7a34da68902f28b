-- What the scan of an object says of its bytes.
use Rattle.std.specs.Prelude.{◌≡◌, ℕ, ◌*◌, ◌≤◌, cond, List, length, Option, None, Some}
use Rattle.elf_format.specs.Class.{Class}
use Rattle.elf_format.specs.Section.{sections}
use Rattle.gdb_index_format.specs.declared.placement.Placement.{Placement}
use Rattle.gdb_index_format.specs.Published.{Object}
use Rattle.gdb_index_format.specs.Objects.{IsObjectOf, first_compressed}
use Rattle.gdb_index_format.specs.Placed.{has_unit}
use Rattle.gdb_scan.specs.PlacedIn.{placed_in}
use Rattle.gdb_scan.specs.Scan.{ObjectScan, IsScanOf, placed_in_scan}

-- an object with a unit has room for its section headers, of at least 40 bytes each
abbrev pub HasHeaderRoom : Class → List ℕ → Option ObjectScan → Type 0
HasHeaderRoom c file None = Unit {0}
HasHeaderRoom c file (Some s) = 40 * length (sections c file) ≤ length file

-- None of the sections that are read is compressed, and the scan has what the object holds.
pub record ScansObject (c : Class) (file : List ℕ) (object : ℕ) (ps : List Placement) (scan : Option ObjectScan) : Type 0 where
  pub held : Object
  pub is_object : IsObjectOf c file held
  pub plain : first_compressed c file ≡ None
  pub is_scan : IsScanOf held scan
  pub placed : placed_in_scan scan ≡ cond (has_unit held.units) (placed_in c file object ps) 0
  pub room : HasHeaderRoom c file scan
