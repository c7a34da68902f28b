-- What the arguments of `tables` ask for:
-- `tables MACHINE LAYOUT [--sframe FILE] [--index VERSION] [OBJECT ...]`, with at most 65,536 objects. Indexes of arguments count from 0.
use Rattle.std.specs.Prelude.{◌≡◌, ℕ, ◌+◌, ◌<◌, ◌≤◌, ◌⊎◌, List, [], ◌∷◌, length, codes, if◌then◌else◌, nat_le, Option, Some, None, Result, Ok, Err, IsSome, option_map, unwrap_or}
use Rattle.elf_format.specs.declared.architecture.Architecture.{Architecture}
use Rattle.elf_format.specs.declared.architecture.Architecture.TheVariants.{X86_64, AArch64, RiscV64, LoongArch64, Ppc64}
use Rattle.gdb_index_format.specs.declared.version.IndexVersion.{IndexVersion}
use Rattle.gdb_index_format.specs.declared.version.IndexVersion.TheVariants.{V8, V9}
use Rattle.program_text.specs.declared.tables.TablesCommand.{TablesCommand}
use Rattle.program_text.specs.Arguments.{arguments_of, is_word}

-- the command `tables`: the machine, the names of its files, and the version of the index, where one is given
pub record Tables : Type 0 where
  pub machine : Architecture
  pub layout : List ℕ
  pub sframe : Option (List ℕ)
  pub version : Option IndexVersion
  pub objects : List (List ℕ)

-- the argument that names a machine
abbrev pub machine_name : Architecture → List ℕ
machine_name X86_64 = codes "x86_64"
machine_name AArch64 = codes "aarch64"
machine_name RiscV64 = codes "riscv64"
machine_name LoongArch64 = codes "loongarch64"
machine_name Ppc64 = codes "ppc64"

-- the machine that an argument names
abbrev pub machine_of : List ℕ → Option Architecture
machine_of word =
    if is_word word (machine_name X86_64) then Some X86_64
    else if is_word word (machine_name AArch64) then Some AArch64
    else if is_word word (machine_name RiscV64) then Some RiscV64
    else if is_word word (machine_name LoongArch64) then Some LoongArch64
    else if is_word word (machine_name Ppc64) then Some Ppc64
    else None

-- how many objects a command may name
abbrev pub object_limit : ℕ
object_limit = 65536

-- the version of the index where none is given
abbrev pub usual_version : IndexVersion
usual_version = V9

-- the version of the index of a command
abbrev pub version_of : Tables → IndexVersion
version_of tables = unwrap_or tables.version usual_version

-- the version that an argument names
abbrev pub version_named : List ℕ → Option IndexVersion
version_named word =
    if is_word word (codes "8") then Some V8
    else if is_word word (codes "9") then Some V9
    else None

-- how many arguments an option takes: its name and its value, where it is given
abbrev pub option_len : {A : Type 0} → Option A → ℕ
option_len None = 0
option_len (Some value) = 2

-- the index of the first argument that names an object
abbrev pub first_object : Option (List ℕ) → Option IndexVersion → ℕ
first_object sframe version = 3 + option_len sframe + option_len version

-- a command with these objects, or the index of the first object too many
abbrev pub with_objects : Architecture → List ℕ → Option (List ℕ) → Option IndexVersion → List (List ℕ) → Result Tables ℕ
with_objects machine layout sframe version objects =
    if nat_le (length objects) object_limit
    then Ok (record { machine = machine; layout = layout; sframe = sframe; version = version; objects = objects })
    else Err (first_object sframe version + object_limit)

-- the arguments after a version, where it is one
abbrev pub with_version : Architecture → List ℕ → Option (List ℕ) → Option IndexVersion → List (List ℕ) → Result Tables ℕ
with_version machine layout sframe None objects = Err (4 + option_len sframe)
with_version machine layout sframe (Some version) objects = with_objects machine layout sframe (Some version) objects

-- the arguments after `--index`
abbrev pub after_index : Architecture → List ℕ → Option (List ℕ) → List (List ℕ) → Result Tables ℕ
after_index machine layout sframe [] = Err (4 + option_len sframe)
after_index machine layout sframe (version ∷ objects) = with_version machine layout sframe (version_named version) objects

-- the arguments after the layout and, where it is given, the file of SFrame bytes: the first of them alone may be `--index`
abbrev pub after_files : Architecture → List ℕ → Option (List ℕ) → List (List ℕ) → Result Tables ℕ
after_files machine layout sframe [] = with_objects machine layout sframe None []
after_files machine layout sframe (word ∷ arguments) =
    if is_word word (codes "--index") then after_index machine layout sframe arguments else with_objects machine layout sframe None (word ∷ arguments)

-- the arguments after `--sframe`
abbrev pub after_option : Architecture → List ℕ → List (List ℕ) → Result Tables ℕ
after_option machine layout [] = Err 4
after_option machine layout (file ∷ arguments) = after_files machine layout (Some file) arguments

-- the arguments after the layout: the fourth argument alone may be `--sframe`
abbrev pub after_layout : Architecture → List ℕ → List (List ℕ) → Result Tables ℕ
after_layout machine layout [] = with_objects machine layout None None []
after_layout machine layout (word ∷ arguments) =
    if is_word word (codes "--sframe") then after_option machine layout arguments else after_files machine layout None (word ∷ arguments)

-- the arguments after the machine
abbrev pub after_machine : Option Architecture → List (List ℕ) → Result Tables ℕ
after_machine None arguments = Err 1
after_machine (Some machine) [] = Err 2
after_machine (Some machine) (layout ∷ arguments) = after_layout machine layout arguments

-- the arguments after `tables`
abbrev pub after_tables : List (List ℕ) → Result Tables ℕ
after_tables [] = Err 1
after_tables (machine ∷ arguments) = after_machine (machine_of machine) arguments

-- the argument at this index names a file of the command
abbrev pub NamesTablesFile : Tables → ℕ → Type 0
NamesTablesFile tables index =
    (index ≡ 2) ⊎ (((index ≡ 4) × IsSome tables.sframe) ⊎ ((first_object tables.sframe tables.version ≤ index) × (index < first_object tables.sframe tables.version + length tables.objects)))

-- a command as it was read
abbrev pub tables_of : TablesCommand → Tables
tables_of command =
    record { machine = command.machine; layout = command.layout.now; sframe = option_map (λ file. file.now) command.sframe; version = command.version; objects = arguments_of command.objects.now }
