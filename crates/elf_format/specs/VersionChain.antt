-- Chains of version records (GNU symbol versioning; LSB, Symbol Versioning): version definitions (Verdef), each with a
-- chain of names (Verdaux), and files from which versions are needed (Verneed), each with a chain of those versions
-- (Vernaux).
use Rattle.std.specs.Prelude.{ℕ, zero, suc, ◌+◌, ◌==◌, nat_lt, if◌then◌else◌, List, [], ◌∷◌, length, map, Result, Ok, Err}
use Rattle.elf_format.specs.declared.error.ElfError.{ElfError}
use Rattle.elf_format.specs.declared.error.ElfError.TheVariants.{VersionTable}
use Rattle.elf_format.specs.Bytes.{Field, bytes_at, get}
use Rattle.elf_format.specs.Chain.{on_ok}
use Rattle.elf_format.specs.Table.{verdef_size, vd_cnt, vd_aux, vd_next, verdaux_size, vda_next, verneed_size, vn_cnt, vn_aux, vn_next, vernaux_size, vna_next}

-- the records of a chain: their size, and the field that has the distance in bytes from a record to the next
pub record ChainForm : Type 0 where
  pub size : ℕ
  pub next : Field

abbrev pub chain_form : ℕ → Field → ChainForm
chain_form size next = record { size = size; next = next }

-- the names of a version definition
abbrev pub verdaux_form : ChainForm
verdaux_form = chain_form verdaux_size vda_next

-- the versions needed from a file
abbrev pub vernaux_form : ChainForm
vernaux_form = chain_form vernaux_size vna_next

-- the record at an offset
abbrev pub record_at : ChainForm → List ℕ → ℕ → List ℕ
record_at form bytes at = bytes_at bytes at form.size

-- the distance from the record at an offset to the next, 0 for the last
abbrev pub next_of : ChainForm → List ℕ → ℕ → ℕ
next_of form bytes at = get form.next (record_at form bytes at)

-- The offsets of the records of a chain: at most `count`, the first at an offset. A record that is not whole in the
-- bytes is an error, and the last item.
abbrev pub offsets_from : ChainForm → List ℕ → ℕ → ℕ → List (Result ℕ ElfError)
offsets_from form bytes zero at = []
offsets_from form bytes (suc count) at =
    if nat_lt (length bytes) (at + form.size) then Err VersionTable ∷ []
    else if next_of form bytes at == 0 then Ok at ∷ []
    else Ok at ∷ offsets_from form bytes count (at + next_of form bytes at)

-- the records of a chain
abbrev pub records_from : ChainForm → List ℕ → ℕ → ℕ → List (Result (List ℕ) ElfError)
records_from form bytes count at = map (on_ok (record_at form bytes)) (offsets_from form bytes count at)

-- records of a chain, each of which begins a chain of its own: how both go on, and the fields that have the most records
-- of that chain and the distance in bytes to its first
pub record HeadForm : Type 0 where
  pub outer : ChainForm
  pub inner : ChainForm
  pub count : Field
  pub first : Field

-- a version definition and its names
abbrev pub definition_form : HeadForm
definition_form = record { outer = chain_form verdef_size vd_next; inner = verdaux_form; count = vd_cnt; first = vd_aux }

-- a file and the versions needed from it
abbrev pub need_form : HeadForm
need_form = record { outer = chain_form verneed_size vn_next; inner = vernaux_form; count = vn_cnt; first = vn_aux }

-- a record, and the records of the chain that it begins
pub record Headed : Type 0 where
  pub head : List ℕ
  pub items : List (Result (List ℕ) ElfError)

-- the record at an offset, with its chain
abbrev pub headed_at : HeadForm → List ℕ → ℕ → Headed
headed_at form bytes at =
    let head = record_at form.outer bytes at in
    record { head = head; items = records_from form.inner bytes (get form.count head) (at + get form.first head) }

-- the records of a chain, each with its own
abbrev pub headed_from : HeadForm → List ℕ → ℕ → ℕ → List (Result Headed ElfError)
headed_from form bytes count at = map (on_ok (headed_at form bytes)) (offsets_from form.outer bytes count at)
