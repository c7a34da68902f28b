-- The index of objects: its units, its names and its bytes; and why objects have none.
use Rattle.std.specs.Prelude.{◌≡◌, ℕ, ◌<◌, List, [], ◌∷◌, length, None, IsSortedByKey}
use Rattle.std.specs.Cmp.Lexicographic.{slice_cmp}
use Rattle.std.specs.List.{All}
use Rattle.std.specs.Ordering.{nat_cmp}
use Rattle.elf_view.specs.Parsed.{Parsed}
use Rattle.gdb_index_format.specs.declared.unit.CuBoundary.{CuBoundary}
use Rattle.gdb_index_format.specs.declared.placement.AddressEntry.{AddressEntry}
use Rattle.gdb_index_format.specs.declared.placement.Placement.{Placement}
use Rattle.gdb_index_format.specs.declared.name_words.NameWords.{NameWords}
use Rattle.gdb_index_format.specs.Named.{all_named, AreNamesOf, AreDistinct, AnswersAll, HasFewSteps}
use Rattle.gdb_index_format.specs.Objects.{AreObjectsOf, AreUnitsOf}
use Rattle.gdb_index_format.specs.Placed.{placed}
use Rattle.gdb_index_format.specs.Published.{Object, Pair, published, pool_names, units_of_all, unit_lists}
use Rattle.gdb_index_format.specs.Size.{IsSize, counts_of}
use Rattle.gdb_index_format.specs.Units.{index_units}
use Rattle.gdb_index.specs.Scan.{Scan}
use Rattle.gdb_index.specs.Layout.{IsLayoutOf}
use Rattle.gdb_scan.specs.declared.error.GdbError.{GdbError}
use Rattle.gdb_tables.specs.Addresses.{addresses, first_relocation_fault, IsAddressCause}
use Rattle.gdb_tables.specs.Files.{file_bytes}
use Rattle.gdb_tables.specs.Sized.{IsScanOfAll, IsIndexable, IsSizeCause}

-- the published names, each once and in ascending byte order, with their CU vectors
pub record ListsNames (ps : List Pair) (list : List NameWords) : Type 0 where
  pub names : AreNamesOf ps (all_named list)
  pub distinct : AreDistinct (all_named list)
  pub ascending : IsSortedByKey (λ n. n.name.now) (slice_cmp nat_cmp) list

-- The parts of an index stand one after another: header, CU list, no types CU list, these address entries, the symbol
-- hash table, in version 9 a shortcut table of zeros, the CU vectors and the names in pool order, and zeros at the end. Each
-- address entry names one of the units. Without a unit the index has no bytes.
abbrev pub IsLaidOut : ℕ → List Object → ℕ → List AddressEntry → List CuBoundary → List ℕ → Type 0
IsLaidOut version os count entries [] index = index ≡ []
IsLaidOut version os count entries (u ∷ us) index = (scan : Scan) × IsScanOfAll os count scan × All (λ a. a.unit < length scan.units) entries × IsLayoutOf version scan entries index

-- The index of files, whose sections have these placements. It lists the units that the objects hold, in input order. For
-- every byte string its probe finds the CU vector of the name where some unit publishes it, and else Absent, within few
-- steps: name i in pool order within i + 1.
pub record IsIndexOf (version : ℕ) (parsed : List Parsed) (placements : List Placement) (units : List CuBoundary) (names : List NameWords) (index : List ℕ) : Type 0 where
  pub objects : List Object
  pub held : AreObjectsOf (file_bytes parsed) objects
  pub units_are : units ≡ units_of_all objects
  pub listed : index_units index ≡ units_of_all objects
  pub answers : AnswersAll index (published objects)
  pub steps : HasFewSteps index (pool_names (published objects))
  pub names_are : ListsNames (published objects) names
  pub size : IsSize version (counts_of objects (length (placed (file_bytes parsed) (unit_lists objects) placements))) (length index)
  pub laid_out : IsLaidOut version objects (length (placed (file_bytes parsed) (unit_lists objects) placements)) (addresses parsed (unit_lists objects) placements) units index

-- in each of these objects that has two units or more, the relocations of its units are read
abbrev pub AreRelocated : List Parsed → Type 0
AreRelocated parsed = (uss : List (List CuBoundary)) → AreUnitsOf (file_bytes parsed) uss → first_relocation_fault parsed uss ≡ None

-- Why objects have no index: it has no size; or it has a size, and the relocations of an object have a fault. `NoMemory`
-- needs no cause.
pub data IsBuildCause (version : ℕ) (parsed : List Parsed) (ps : List Placement) (e : GdbError) : Type 0 where
  in_size : IsSizeCause version (file_bytes parsed) ps e → IsBuildCause version parsed ps e
  in_relocations : IsIndexable version (file_bytes parsed) ps → (uss : List (List CuBoundary)) → AreUnitsOf (file_bytes parsed) uss → IsAddressCause (first_relocation_fault parsed uss) e → IsBuildCause version parsed ps e
