-- An index is refused for one cause, and only where there is one.
use Rattle.std.proofs.Common.{◌≡◌, ◌≢◌, ◌⊎◌, ℕ, List, Option, Some, None, refl, ap, sym, ◌∙◌, subst}
use Rattle.std.specs.Prelude.{unwrap_or}
use Rattle.elf_format.specs.declared.error.ElfError.{ElfError}
use Rattle.elf_view.specs.Parsed.{Parsed}
use Rattle.gdb_index.specs.Scan.{Scan}
use Rattle.gdb_index_format.specs.declared.placement.Placement.{Placement}
use Rattle.gdb_index_format.specs.declared.unit.CuBoundary.{CuBoundary}
use Rattle.gdb_index_format.specs.Objects.{AreUnitsOf}
use Rattle.gdb_index_format.specs.Published.{unit_lists}
use Rattle.gdb_index_format.proofs.ObjectLists.{one_unit_lists, units_of_objects}
use Rattle.gdb_scan.specs.declared.error.GdbError.{GdbError}
use Rattle.gdb_scan.specs.declared.error.GdbError.TheVariants.{BadElf, CompressedSection, BadUnit, BadPubnames, TooManyUnits, IndexTooLarge, NoMemory}
use Rattle.gdb_scan.specs.Cause.{IsOnlyMemory}
use Rattle.gdb_scan.proofs.OneCause.{told, memory_is}
use Rattle.gdb_tables.specs.Addresses.{first_relocation_fault, IsAddressCause}
use Rattle.gdb_tables.specs.Files.{file_bytes}
use Rattle.gdb_tables.specs.Index.{AreRelocated, IsBuildCause, in_size, in_relocations}
use Rattle.gdb_tables.specs.Laws.{HasOneBuildCause, RelocatedHasNoCause}
use Rattle.gdb_tables.specs.Sized.{SizesIndex, IsIndexable}
use Rattle.gdb_tables.proofs.OneCause.{one_size_cause, no_size_cause, only_size_memory}

-- a cause other than `NoMemory` is the fault of an object
IsElf : Option (ℕ × ElfError) → GdbError → Type 0
IsElf fault e = (i : ℕ) × (kind : ElfError) × (e ≡ BadElf i kind) × (fault ≡ Some (i, kind))

address_is : (fault : Option (ℕ × ElfError)) (e : GdbError) → IsAddressCause fault e → e ≢ NoMemory → IsElf fault e
unfolding IsElf
address_is fault (BadElf i kind) p some = (i, kind, refl, p)
address_is fault (CompressedSection i s) p some = absurd p
address_is fault (BadUnit i offset kind) p some = absurd p
address_is fault (BadPubnames i s) p some = absurd p
address_is fault (TooManyUnits n) p some = absurd p
address_is fault (IndexTooLarge n) p some = absurd p
address_is fault NoMemory p some = absurd (some refl)

same_elf : (p q : ℕ) (k l : ElfError) → ◌≡◌ {A = Option (ℕ × ElfError)} (Some (p, k)) (Some (q, l)) → BadElf p k ≡ BadElf q l
same_elf p q k l same = ap (λ (found : Option (ℕ × ElfError)). BadElf (unwrap_or found (p, k)).0 (unwrap_or found (p, k)).1) same

pub one_address : (fault : Option (ℕ × ElfError)) (e f : GdbError) → IsAddressCause fault e → IsAddressCause fault f → e ≢ NoMemory → f ≢ NoMemory → e ≡ f
unfolding IsElf
one_address fault e f p q a b =
    let left = address_is fault e p a in
    let right = address_is fault f q b in
    left.2 ∙ same_elf left.0 right.0 left.1 right.1 (sym left.3 ∙ right.3) ∙ sym right.2

no_fault : {X : Type 0} (found : Option X) (x : X) → found ≡ None → found ≡ Some x → ⊥
no_fault found x none some = cc

no_address : (fault : Option (ℕ × ElfError)) (e : GdbError) → fault ≡ None → IsAddressCause fault e → IsOnlyMemory e
no_address fault (BadElf i kind) none p = absurd (no_fault fault (i, kind) none p)
no_address fault (CompressedSection i s) none p = p
no_address fault (BadUnit i offset kind) none p = p
no_address fault (BadPubnames i s) none p = p
no_address fault (TooManyUnits n) none p = p
no_address fault (IndexTooLarge n) none p = p
no_address fault NoMemory none p = tt

pub one_build_cause : HasOneBuildCause
one_build_cause version parsed ps e f (in_size p) (in_size q) a b = one_size_cause version (file_bytes parsed) ps e f p q a b
one_build_cause version parsed ps e f (in_size p) (in_relocations index uss held q) a b = absurd (a (no_size_cause version (file_bytes parsed) ps e index p))
one_build_cause version parsed ps e f (in_relocations index uss held p) (in_size q) a b = absurd (b (no_size_cause version (file_bytes parsed) ps f index q))
one_build_cause version parsed ps e f (in_relocations index uss held p) (in_relocations other vss there q) a b =
    let same : vss ≡ uss = one_unit_lists (file_bytes parsed) vss uss there held in
    one_address (first_relocation_fault parsed uss) e f p (subst (λ (l : List (List CuBoundary)). IsAddressCause (first_relocation_fault parsed l) f) same q) a b

pub only_build_memory : (version : ℕ) (parsed : List Parsed) (ps : List Placement) (e : GdbError) → IsIndexable version (file_bytes parsed) ps → AreRelocated parsed → IsBuildCause version parsed ps e → IsOnlyMemory e
only_build_memory version parsed ps e index relocated (in_size p) = only_size_memory version (file_bytes parsed) ps e index p
only_build_memory version parsed ps e index relocated (in_relocations other uss held p) = no_address (first_relocation_fault parsed uss) e (relocated uss held) p

pub no_build_cause : RelocatedHasNoCause
no_build_cause version parsed ps e index relocated cause = memory_is e (only_build_memory version parsed ps e index relocated cause)

pub told_build : (version : ℕ) (parsed : List Parsed) (ps : List Placement) (f e : GdbError) → IsBuildCause version parsed ps f → IsBuildCause version parsed ps e → e ≢ NoMemory → (f ≡ e) ⊎ (f ≡ NoMemory)
told_build version parsed ps f e found cause some = told (IsBuildCause version parsed ps) f e (one_build_cause version parsed ps) found cause some

-- the cause of the address area is one of the index
pub address_cause : (version : ℕ) (parsed : List Parsed) (ps : List Placement) (size : ℕ) (scan : Option Scan) (e : GdbError) → IsIndexable version (file_bytes parsed) ps → SizesIndex version (file_bytes parsed) ps size scan → ((uss : List (List CuBoundary)) → AreUnitsOf (file_bytes parsed) uss → IsAddressCause (first_relocation_fault parsed uss) e) → IsBuildCause version parsed ps e
address_cause version parsed ps size scan e index sized cause =
    let uss = unit_lists sized.objects in
    let held : AreUnitsOf (file_bytes parsed) uss = units_of_objects (file_bytes parsed) sized.objects sized.held in
    in_relocations index uss held (cause uss held)
