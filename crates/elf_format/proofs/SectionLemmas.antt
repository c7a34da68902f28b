-- The sections of a file, by the count of them.
use Rattle.std.proofs.Common.{◌≡◌, ℕ, Bool, true, false, List, [], length, drop, Option, Some, None, refl, arith}
use Rattle.std.specs.Prelude.{slice_get, unwrap_or, option_and_then, cond, ◌==◌}
use Rattle.elf_format.specs.Class.{Class, section_header_size}
use Rattle.elf_format.specs.Section.{table_offset, sections, section_count, name_table, name_table_index}
use Rattle.elf_format.specs.Bytes.{string_at}
use Rattle.std.proofs.Math.Seq.{drop-nil}
use Rattle.elf_format.proofs.RecordLemmas.{length_records, no_record_at}

pub length_sections : (c : Class) (file : List ℕ) → length (sections c file) ≡ section_count c file
unfolding sections
length_sections c file = length_records _ _ _

either : (b : Bool) → unwrap_or {T = List ℕ} (cond b (Some []) None) [] ≡ []
either true = refl
either false = refl

-- where there are no sections, no bytes hold their names
pub no_names : (c : Class) (file : List ℕ) → section_count c file ≡ 0 → unwrap_or (name_table c file) [] ≡ []
unfolding sections name_table
no_names c file none =
    let nothing : slice_get (sections c file) (name_table_index c file) ≡ None = no_record_at (section_header_size c) (section_count c file) (name_table_index c file) (drop (table_offset c file) file) (omega arith) in
    rw nothing (either (name_table_index c file == 0))

-- where no bytes hold names, no name can be read
pub string_in_table : (table : Option (List ℕ)) (at : ℕ) → string_at (unwrap_or table []) at ≡ option_and_then (λ names. string_at names at) table
unfolding string_at
string_in_table None at = rw drop-nil refl
string_in_table (Some names) at = refl
