-- An object has one scan, or is not scanned for one cause.
use Rattle.std.specs.Prelude.{◌≡◌, ◌≢◌, ℕ, List, Option}
use Rattle.elf_format.specs.declared.error.ElfError.{ElfError}
use Rattle.elf_format.specs.Class.{Class}
use Rattle.gdb_index_format.specs.declared.placement.Placement.{Placement}
use Rattle.gdb_scan.specs.declared.error.GdbError.{GdbError}
use Rattle.gdb_scan.specs.declared.error.GdbError.TheVariants.{NoMemory}
use Rattle.gdb_scan.specs.declared.map_error.MapError.{MapError}
use Rattle.gdb_scan.specs.declared.map_error.MapError.TheVariants as maps
use Rattle.gdb_scan.specs.Cause.{IsScanCause}
use Rattle.gdb_scan.specs.MapCause.{IsMapCause}
use Rattle.gdb_scan.specs.Scan.{ObjectScan}
use Rattle.gdb_scan.specs.Scanned.{ScansObject}

-- an object has one scan
abbrev pub HasOneScan : Type 0
HasOneScan = (c : Class) (file : List ℕ) (object : ℕ) (ps : List Placement) (s t : Option ObjectScan) → ScansObject c file object ps s → ScansObject c file object ps t → s ≡ t

-- an object is not scanned for one cause
abbrev pub HasOneScanCause : Type 0
HasOneScanCause = (c : Class) (object : ℕ) (file : List ℕ) (e f : GdbError) → IsScanCause c object file e → IsScanCause c object file f → e ≢ NoMemory → f ≢ NoMemory → e ≡ f

-- the units of sections are not found for one cause
abbrev pub HasOneMapCause : Type 0
HasOneMapCause = (fault : Option ElfError) (e f : MapError) → IsMapCause fault e → IsMapCause fault f → e ≢ maps.NoMemory → f ≢ maps.NoMemory → e ≡ f
