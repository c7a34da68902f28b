-- The units and the sets of names that the bytes of an object hold.
use Rattle.std.specs.Prelude.{◌≡◌, ℕ, Bool, false, ◌||◌, ◌&&◌, ◌==◌, List, [], ◌∷◌, ◌++◌, Option, Some, None, option_map, option_and_then, unwrap_or, find, slice_get, codes}
use Rattle.std.specs.List.{filter, enumerate_from}
use Rattle.elf_format.specs.Bytes.{get}
use Rattle.elf_format.specs.Class.{Class, class64, sh_flags}
use Rattle.elf_format.specs.Fault.{class_of}
use Rattle.elf_format.specs.Flags.{has_flag, shf_compressed}
use Rattle.elf_format.specs.Section.{sections, section_bytes, section_name, section_of_name, is_name}
use Rattle.gdb_index_format.specs.declared.unit.CuBoundary.{CuBoundary}
use Rattle.gdb_index_format.specs.Units.{IsUnitList}
use Rattle.gdb_index_format.specs.Names.{NameSet, IsSetList}
use Rattle.gdb_index_format.specs.Published.{Object, unit_lists}

-- the class of an object: the one that its bytes name. Bytes that name none are no object, and count as of ELFCLASS64
unfoldable pub class_in : List ℕ → Class
class_in file = unwrap_or (class_of file) class64

-- bytes that name a class are of that class
abbrev pub ClassIsTheNamed : Type 0
ClassIsTheNamed = (c : Class) (file : List ℕ) → class_of file ≡ Some c → class_in file ≡ c

-- the section that holds an object's units: the first of its name
abbrev pub info_section : Class → List ℕ → Option ℕ
info_section c file = section_of_name c file (codes ".debug_info")

abbrev pub bytes_of_section : Class → List ℕ → Option ℕ → Option (List ℕ)
bytes_of_section c file None = Some []
bytes_of_section c file (Some index) = option_and_then (section_bytes c file) (slice_get (sections c file) index)

-- its bytes, where the object holds them: none where it has no such section
abbrev pub info_bytes : Class → List ℕ → Option (List ℕ)
info_bytes c file = bytes_of_section c file (info_section c file)

-- Bytes that are there, and tiled by these units.
pub record AreUnitsIn (held : Option (List ℕ)) (us : List CuBoundary) : Type 0 where
  pub bytes : List ℕ
  pub there : held ≡ Some bytes
  pub list : IsUnitList bytes us

-- the units of an object
abbrev pub IsUnitsOf : Class → List ℕ → List CuBoundary → Type 0
IsUnitsOf c file us = AreUnitsIn (info_bytes c file) us

-- whether a section holds sets of names
abbrev pub is_pubnames_section : Class → List ℕ → List ℕ → Bool
is_pubnames_section c file header =
    is_name (codes ".debug_gnu_pubnames") (section_name c file header) || is_name (codes ".debug_gnu_pubtypes") (section_name c file header)

-- the pubnames sections in section order, each by its index and its header
abbrev pub pubnames_sections : Class → List ℕ → List (ℕ × List ℕ)
pubnames_sections c file = filter (λ s. is_pubnames_section c file s.1) (enumerate_from 0 (sections c file))

-- Bytes that are there, and a list of these sets.
pub record AreSetsIn (held : Option (List ℕ)) (ss : List NameSet) : Type 0 where
  pub bytes : List ℕ
  pub there : held ≡ Some bytes
  pub list : IsSetList bytes ss

-- the sets of some sections, one section after another
abbrev pub AreSetsOfSections : Class → List ℕ → List (ℕ × List ℕ) → List NameSet → Type 0
AreSetsOfSections c file [] ss = ss ≡ []
AreSetsOfSections c file (s ∷ more) ss =
    (front : List NameSet) × (rest : List NameSet) × (ss ≡ front ++ rest) × AreSetsIn (section_bytes c file s.1) front × AreSetsOfSections c file more rest

-- the sets of all pubnames sections of an object
abbrev pub IsSetsOf : Class → List ℕ → List NameSet → Type 0
IsSetsOf c file ss = AreSetsOfSections c file (pubnames_sections c file) ss

-- the sets that count: where there is no unit, no pubnames section is read
abbrev pub AreSetsBeside : Class → List ℕ → List CuBoundary → List NameSet → Type 0
AreSetsBeside c file [] ss = ss ≡ []
AreSetsBeside c file (u ∷ us) ss = IsSetsOf c file ss

-- the units of each of some objects, of either class
abbrev pub AreUnitsOf : List (List ℕ) → List (List CuBoundary) → Type 0
AreUnitsOf [] [] = Unit {0}
AreUnitsOf [] (us ∷ uss) = ⊥
AreUnitsOf (file ∷ files) [] = ⊥
AreUnitsOf (file ∷ files) (us ∷ uss) = IsUnitsOf (class_in file) file us × AreUnitsOf files uss

-- What an object holds.
pub record IsObjectOf (c : Class) (file : List ℕ) (o : Object) : Type 0 where
  pub units : IsUnitsOf c file o.units
  pub sets : AreSetsBeside c file o.units o.sets

-- what each of some objects holds, of either class
abbrev pub AreObjectsOf : List (List ℕ) → List Object → Type 0
AreObjectsOf [] [] = Unit {0}
AreObjectsOf [] (o ∷ os) = ⊥
AreObjectsOf (file ∷ files) [] = ⊥
AreObjectsOf (file ∷ files) (o ∷ os) = IsObjectOf (class_in file) file o × AreObjectsOf files os

-- An object holds one list of units and one list of sets, and so do several objects; their units are those of the
-- objects.
pub record ObjectsAreOne : Type 0 where
  pub one_object : (c : Class) (file : List ℕ) (o p : Object) → IsObjectOf c file o → IsObjectOf c file p → o ≡ p
  pub one_list : (files : List (List ℕ)) (os ps : List Object) → AreObjectsOf files os → AreObjectsOf files ps → os ≡ ps
  pub one_units : (files : List (List ℕ)) (uss vss : List (List CuBoundary)) → AreUnitsOf files uss → AreUnitsOf files vss → uss ≡ vss
  pub units : (files : List (List ℕ)) (os : List Object) → AreObjectsOf files os → AreUnitsOf files (unit_lists os)

abbrev pub is_index : ℕ → Option ℕ → Bool
is_index index None = false
is_index index (Some found) = index == found

-- whether a section's bytes are read: the first `.debug_info`, and the pubnames sections
abbrev pub is_read : Class → List ℕ → ℕ × List ℕ → Bool
is_read c file s = is_index s.0 (info_section c file) || is_pubnames_section c file s.1

-- the lowest section of those that are read whose bytes are compressed
abbrev pub first_compressed : Class → List ℕ → Option ℕ
first_compressed c file =
    option_map (λ s. s.0) (find (λ s. is_read c file s && has_flag (get (sh_flags c) s.1) shf_compressed) (enumerate_from 0 (sections c file)))
