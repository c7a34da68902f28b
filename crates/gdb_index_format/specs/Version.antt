-- What depends on the version of an index (GDB manual, "Index Section Format"). Every other rule of the
-- format is the same for all versions.
use Rattle.std.specs.Prelude.{ℕ, Bool, ◌==◌, ◌||◌, List, [], ◌∷◌, if◌then◌else◌}
use Rattle.gdb_index_format.specs.declared.version.IndexVersion.{IndexVersion}
use Rattle.gdb_index_format.specs.declared.version.IndexVersion.TheVariants.{V8, V9}

-- the number of a version, as the header has it
abbrev pub version_number : IndexVersion → ℕ
version_number V8 = 8
version_number V9 = 9

-- the versions that are written and read
abbrev pub is_known : ℕ → Bool
is_known version = (version == 8) || (version == 9)

-- how many bytes the header has: in version 8 the version and five offsets, and then six
unfoldable pub header_len : ℕ → ℕ
header_len version = if version == 8 then 24 else 28

-- the offset of the header's field that holds the offset of the constant pool: its last
unfoldable pub pool_field : ℕ → ℕ
pool_field version = if version == 8 then 20 else 24

-- the header's field for the offset of the shortcut table, which version 8 does not have
unfoldable pub shortcut_fields : ℕ → ℕ → List ℕ
shortcut_fields version offset = if version == 8 then [] else offset ∷ []

-- how many bytes the shortcut table has: version 8 has none
unfoldable pub shortcut_len : ℕ → ℕ
shortcut_len version = if version == 8 then 0 else 8
