-- The names of versions, by the chains of version records and the strings that these are linked to (GNU symbol
-- versioning; LSB, Symbol Versioning).
use Rattle.std.specs.Prelude.{ℕ, ◌+◌, ◌^◌, min, Bool, ◌==◌, nat_le, if◌then◌else◌, List, [], ◌∷◌, ◌++◌, map, codes, Option, Some, None, option_map, Result, Ok, Err}
use Rattle.std.specs.List.{flat_map, range_with_len}
use Rattle.std.specs.Option.{ok_or}
use Rattle.elf_format.specs.declared.error.ElfError.{ElfError}
use Rattle.elf_format.specs.declared.error.ElfError.TheVariants.{VersionTable}
use Rattle.elf_format.specs.Bytes.{get, string_at}
use Rattle.elf_format.specs.Chain.{◌>>=◌, each_ok}
use Rattle.elf_format.specs.Symbol.{last_that}
use Rattle.elf_format.specs.Table.{vd_ndx, vda_name, vna_other, vna_name}
use Rattle.elf_format.specs.Version.{version_index, is_hidden_version}
use Rattle.elf_format.specs.VersionChain.{Headed}

-- a version index and a name
abbrev pub IndexedName : Type 0
IndexedName = ℕ × List ℕ

-- the name of an index: that of the last pair with it
abbrev pub name_of_index : ℕ → List IndexedName → Option (List ℕ)
name_of_index index names = option_map (λ p. p.1) (last_that (λ p. p.0 == index) names)

-- why the names of the version definitions are not returned: a record or a name is malformed, or an index is above
-- the number of definitions
pub data VersionFault : Type 0 where
  malformed : VersionFault
  bad_index : ℕ → VersionFault

-- the string of the first record of a definition's chain
abbrev pub first_name : List ℕ → List (Result (List ℕ) ElfError) → Option (List ℕ)
first_name strings [] = None
first_name strings (Err e ∷ items) = None
first_name strings (Ok verdaux ∷ items) = string_at strings (get vda_name verdaux)

-- a definition's index, which is at most `last`, and its first name
abbrev pub with_index : ℕ → ℕ → Option (List ℕ) → Result IndexedName VersionFault
with_index last index None = Err malformed
with_index last index (Some name) = if nat_le index last then Ok (index, name) else Err (bad_index index)

abbrev pub defined_version : ℕ → List ℕ → Result Headed ElfError → Result IndexedName VersionFault
defined_version last strings (Err e) = Err malformed
defined_version last strings (Ok definition) = with_index last (get vd_ndx definition.head) (first_name strings definition.items)

-- the indexes and first names of all definitions
unfoldable pub defined_versions : ℕ → List ℕ → List (Result Headed ElfError) → Result (List IndexedName) VersionFault
defined_versions last strings definitions = each_ok (defined_version last strings) definitions

-- how many indexes there are from 0 to the number of definitions, within 16 bits
abbrev pub version_index_count : ℕ → ℕ
version_index_count definitions = min (definitions + 1) (2 ^ 16)

-- the name of each index, from 0 on
abbrev pub names_by_index : ℕ → List IndexedName → List (Option (List ℕ))
names_by_index count names = map (λ index. name_of_index index names) (range_with_len 0 count)

-- the names of the version definitions by their indexes, of which `last` is the highest
unfoldable pub version_names : ℕ → List ℕ → List (Result Headed ElfError) → Result (List (Option (List ℕ))) VersionFault
version_names last strings definitions = defined_versions last strings definitions >>= (λ names. Ok (names_by_index (version_index_count last) names))

-- a needed version's index (vna_other) and its name
abbrev pub needed_version : List ℕ → Result (List ℕ) ElfError → Result IndexedName VersionFault
needed_version strings (Err e) = Err malformed
needed_version strings (Ok vernaux) = ok_or (option_map (λ name. (get vna_other vernaux, name)) (string_at strings (get vna_name vernaux))) malformed

-- the versions needed from one file
abbrev pub needed_from : List ℕ → Result Headed ElfError → Result (List IndexedName) VersionFault
needed_from strings (Err e) = Err malformed
needed_from strings (Ok need) = each_ok (needed_version strings) need.items

-- the indexes and names of all needed versions
unfoldable pub needed_versions : List ℕ → List (Result Headed ElfError) → Result (List IndexedName) VersionFault
needed_versions strings needs = each_ok (needed_from strings) needs >>= (λ lists. Ok (flat_map (λ l. l) lists))

-- the name of the version that each symbol needs, by the symbols' version records (Versym)
unfoldable pub needed_names : List (List ℕ) → List ℕ → List (Result Headed ElfError) → Result (List (Option (List ℕ))) VersionFault
needed_names versyms strings needs = needed_versions strings needs >>= (λ names. Ok (map (λ versym. name_of_index (version_index versym) names) versyms))

-- a name that was looked for and found, if it is readable
abbrev pub readable : Option (List ℕ) → Result (Option (List ℕ)) ElfError
readable None = Err VersionTable
readable (Some name) = Ok (Some name)

-- the first name of a definition, or what follows where the definition has no name record
abbrev pub name_or : List ℕ → List (Result (List ℕ) ElfError) → Result (Option (List ℕ)) ElfError → Result (Option (List ℕ)) ElfError
name_or strings [] after = after
name_or strings (Err e ∷ items) after = Err e
name_or strings (Ok verdaux ∷ items) after = readable (string_at strings (get vda_name verdaux))

-- the name of the first definition of an index that has a name record; a malformed record before it is an error
abbrev pub definition_name : List ℕ → ℕ → List (Result Headed ElfError) → Result (Option (List ℕ)) ElfError
definition_name strings index [] = Ok None
definition_name strings index (Err e ∷ definitions) = Err e
definition_name strings index (Ok definition ∷ definitions) =
    if get vd_ndx definition.head == index then name_or strings definition.items (definition_name strings index definitions)
    else definition_name strings index definitions

-- the name of the first version of an index in one file's chain, or what follows where there is none
abbrev pub needed_name_or : List ℕ → ℕ → List (Result (List ℕ) ElfError) → Result (Option (List ℕ)) ElfError → Result (Option (List ℕ)) ElfError
needed_name_or strings index [] after = after
needed_name_or strings index (Err e ∷ items) after = Err e
needed_name_or strings index (Ok vernaux ∷ items) after =
    if get vna_other vernaux == index then readable (string_at strings (get vna_name vernaux))
    else needed_name_or strings index items after

-- the name of the first needed version of an index; a malformed record before it is an error
abbrev pub needed_name : List ℕ → ℕ → List (Result Headed ElfError) → Result (Option (List ℕ)) ElfError
needed_name strings index [] = Ok None
needed_name strings index (Err e ∷ needs) = Err e
needed_name strings index (Ok need ∷ needs) = needed_name_or strings index need.items (needed_name strings index needs)

-- the name of a version that was looked for in one list and, where that has none, in another
abbrev pub name_in_either : Result (Option (List ℕ)) ElfError → Result (Option (List ℕ)) ElfError → Option (List ℕ)
name_in_either (Err e) other = None
name_in_either (Ok (Some name)) other = Some name
name_in_either (Ok None) (Err e) = None
name_in_either (Ok None) (Ok found) = found

-- `@` before the name of a hidden version, `@@` before that of one which is not
abbrev pub version_mark : Bool → List ℕ
version_mark is_hidden = if is_hidden then codes "@" else codes "@@"

-- the text of a symbol's version, by its record (Versym): the name is looked for in the definitions, then in the needs
abbrev pub version_text : (ℕ → Option (List ℕ)) → Option (List ℕ) → Option (List ℕ)
version_text name None = None
version_text name (Some versym) = option_map (λ found. version_mark (is_hidden_version versym) ++ found) (name (version_index versym))
