-- Laws over the definitions.
use Rattle.std.specs.Prelude.{◌≡◌, ◌↔◌, ℕ, ◌^◌, ◌<◌, List, length, None}
use Rattle.std.specs.List.{All}
use Rattle.gdb_index_format.specs.declared.placement.AddressEntry.{AddressEntry}
use Rattle.gdb_index_format.specs.declared.version.IndexVersion.{IndexVersion}
use Rattle.gdb_index_format.specs.Named.{Named}
use Rattle.gdb_index_format.specs.Version.{version_number}
use Rattle.gdb_index.specs.Scan.{Scan, IsWellFormedScan}
use Rattle.gdb_index.specs.Layout.{IsLayoutOf}
use Rattle.index_browser.specs.Fault.{browse_fault}
use Rattle.index_browser.specs.Areas.{AreAddresses, ListsAddresses}
use Rattle.index_browser.specs.Checked.{IsChecked, IsWellFormedIndex}
use Rattle.index_browser.specs.NameList.{IsNameListOf}

-- an index can be browsed exactly where no test fails
abbrev pub CheckedHasNoFault : Type 0
CheckedHasNoFault = (b : List ℕ) → IsChecked b ↔ (browse_fault b ≡ None)

-- an index has one list of names
abbrev pub NameListsAreOne : Type 0
NameListsAreOne = (b : List ℕ) (ns ms : List Named) → IsNameListOf b ns → IsNameListOf b ms → ns ≡ ms

-- The bytes of a laid-out index of either version can be browsed, where its address entries name units of the scan.
abbrev pub LayoutIsChecked : Type 0
LayoutIsChecked = (version : IndexVersion) (s : Scan) (addresses : List AddressEntry) (b : List ℕ) → length b < 2 ^ 32 → IsWellFormedScan s → All (λ a. a.unit < length s.units) addresses → IsLayoutOf (version_number version) s addresses b → IsChecked b

-- A laid-out index of either version has that version, and lists its address entries, where their numbers fit their fields.
abbrev pub LayoutListsAddresses : Type 0
LayoutListsAddresses = (version : IndexVersion) (s : Scan) (addresses : List AddressEntry) (b : List ℕ) → length b < 2 ^ 32 → IsWellFormedScan s → AreAddresses addresses → IsLayoutOf (version_number version) s addresses b → ListsAddresses b (version_number version) addresses

-- What an index that can be browsed lists and finds is well formed.
abbrev pub CheckedIsWellFormed : Type 0
CheckedIsWellFormed = (b : List ℕ) → IsChecked b → IsWellFormedIndex b
