-- Laws over the definitions.
use Rattle.std.specs.Prelude.{◌≡◌, ℕ, ◌^◌, ◌<◌, List, map, length}
use Rattle.std.specs.Char.{to_ascii_lowercase}
use Rattle.std.specs.Int.{IsPowerOfTwo}
use Rattle.gdb_index_format.specs.declared.placement.AddressEntry.{AddressEntry}
use Rattle.gdb_index_format.specs.Hash.{name_hash}
use Rattle.gdb_index_format.specs.Slots.{IsSlotCount}
use Rattle.gdb_index_format.specs.declared.version.IndexVersion.{IndexVersion}
use Rattle.gdb_index_format.specs.Version.{version_number}
use Rattle.gdb_index.specs.Answers.{AnswersFor}
use Rattle.gdb_index.specs.Scan.{Scan, IsWellFormedScan}
use Rattle.gdb_index.specs.Layout.{IsLayoutOf}

abbrev pub HashIgnoresCase : Type 0
HashIgnoresCase = (m n : List ℕ) → map to_ascii_lowercase m ≡ map to_ascii_lowercase n → name_hash m ≡ name_hash n

abbrev pub SlotsExceedNames : Type 0
SlotsExceedNames = (names slots : ℕ) → 0 < names → IsSlotCount names slots → IsPowerOfTwo slots × (names < slots)

abbrev pub IndexesAreOne : Type 0
IndexesAreOne = (version : ℕ) (s : Scan) (addresses : List AddressEntry) (b c : List ℕ) → IsLayoutOf version s addresses b → IsLayoutOf version s addresses c → length b ≡ length c → b ≡ c

-- the bytes of a laid-out index of either version answer for the names of its scan
abbrev pub LayoutAnswers : Type 0
LayoutAnswers = (version : IndexVersion) (s : Scan) (addresses : List AddressEntry) (b : List ℕ) → length b < 2 ^ 32 → IsWellFormedScan s → IsLayoutOf (version_number version) s addresses b → AnswersFor b s.names
