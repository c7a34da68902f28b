-- Each relation has one value, and an index is refused for one cause.
use Rattle.std.specs.Prelude.{◌≡◌, ◌≢◌, ℕ, List, Option}
use Rattle.elf_format.specs.declared.error.ElfError.{ElfError}
use Rattle.elf_view.specs.Parsed.{Parsed}
use Rattle.gdb_index.specs.Scan.{Scan}
use Rattle.gdb_index_format.specs.declared.name_words.NameWords.{NameWords}
use Rattle.gdb_index_format.specs.declared.placement.Placement.{Placement}
use Rattle.gdb_index_format.specs.declared.unit.CuBoundary.{CuBoundary}
use Rattle.gdb_index_format.specs.Named.{all_named, HasFewSteps}
use Rattle.gdb_index_format.specs.Objects.{AreObjectsOf}
use Rattle.gdb_index_format.specs.Published.{Object, published, pool_names}
use Rattle.gdb_scan.specs.declared.error.GdbError.{GdbError}
use Rattle.gdb_scan.specs.declared.error.GdbError.TheVariants.{NoMemory}
use Rattle.gdb_scan.specs.Scan.{ObjectScan}
use Rattle.gdb_tables.specs.Addresses.{IsAddressCause}
use Rattle.gdb_tables.specs.Files.{file_bytes, ScansObjects, IsFilesCause}
use Rattle.gdb_tables.specs.Index.{IsIndexOf, AreRelocated, IsBuildCause}
use Rattle.gdb_tables.specs.Merged.{IsMergeOf, IsMergeCause}
use Rattle.gdb_tables.specs.Sized.{SizesIndex, IsIndexable, IsSizeCause}

-- files and placements have one list of scans
abbrev pub HasOneScanEach : Type 0
HasOneScanEach = (files : List (List ℕ)) (ps : List Placement) (ss ts : List (Option ObjectScan)) → ScansObjects files ps ss → ScansObjects files ps ts → ss ≡ ts

-- scans have one merge
abbrev pub HasOneMerge : Type 0
HasOneMerge = (ss : List (Option ObjectScan)) (m n : Scan) → IsMergeOf ss m → IsMergeOf ss n → m ≡ n

-- objects and placements have one size of an index, and one scan
abbrev pub HasOneSize : Type 0
HasOneSize = (version : ℕ) (files : List (List ℕ)) (ps : List Placement) (n m : ℕ) (s t : Option Scan) → SizesIndex version files ps n s → SizesIndex version files ps m t → (n ≡ m) × (s ≡ t)

-- objects and placements have one index; it lists one list of units, and one list of names with their CU vectors goes with it
abbrev pub HasOneIndex : Type 0
HasOneIndex = (version : ℕ) (parsed : List Parsed) (placements : List Placement) (us vs : List CuBoundary) (ns ms : List NameWords) (b d : List ℕ) → IsIndexOf version parsed placements us ns b → IsIndexOf version parsed placements vs ms d → (us ≡ vs) × (all_named ns ≡ all_named ms) × (b ≡ d)

-- the probes of an index of objects take few steps, by the pool order of its names
abbrev pub IndexHasFewSteps : Type 0
IndexHasFewSteps = (version : ℕ) (parsed : List Parsed) (placements : List Placement) (us : List CuBoundary) (ns : List NameWords) (b : List ℕ) (os : List Object) → IsIndexOf version parsed placements us ns b → AreObjectsOf (file_bytes parsed) os → HasFewSteps b (pool_names (published os))

-- objects are not scanned for one cause
abbrev pub HasOneFilesCause : Type 0
HasOneFilesCause = (files : List (List ℕ)) (e f : GdbError) → IsFilesCause files e → IsFilesCause files f → e ≢ NoMemory → f ≢ NoMemory → e ≡ f

-- an index has no size for one cause
abbrev pub HasOneSizeCause : Type 0
HasOneSizeCause = (version : ℕ) (files : List (List ℕ)) (ps : List Placement) (e f : GdbError) → IsSizeCause version files ps e → IsSizeCause version files ps f → e ≢ NoMemory → f ≢ NoMemory → e ≡ f

-- where it has a size that offsets of four bytes can hold, there is no cause but `NoMemory`
abbrev pub IndexableHasNoCause : Type 0
IndexableHasNoCause = (version : ℕ) (files : List (List ℕ)) (ps : List Placement) (e : GdbError) → IsIndexable version files ps → IsSizeCause version files ps e → e ≡ NoMemory

-- an index is not built for one cause
abbrev pub HasOneBuildCause : Type 0
HasOneBuildCause = (version : ℕ) (parsed : List Parsed) (ps : List Placement) (e f : GdbError) → IsBuildCause version parsed ps e → IsBuildCause version parsed ps f → e ≢ NoMemory → f ≢ NoMemory → e ≡ f

-- where it has such a size, and the relocations are read, there is no cause but `NoMemory`
abbrev pub RelocatedHasNoCause : Type 0
RelocatedHasNoCause = (version : ℕ) (parsed : List Parsed) (ps : List Placement) (e : GdbError) → IsIndexable version (file_bytes parsed) ps → AreRelocated parsed → IsBuildCause version parsed ps e → e ≡ NoMemory

-- scans are not merged for one cause
abbrev pub HasOneMergeCause : Type 0
HasOneMergeCause = (ss : List (Option ObjectScan)) (e f : GdbError) → IsMergeCause ss e → IsMergeCause ss f → e ≢ NoMemory → f ≢ NoMemory → e ≡ f

-- address entries are not made for one cause
abbrev pub HasOneAddressCause : Type 0
HasOneAddressCause = (fault : Option (ℕ × ElfError)) (e f : GdbError) → IsAddressCause fault e → IsAddressCause fault f → e ≢ NoMemory → f ≢ NoMemory → e ≡ f
