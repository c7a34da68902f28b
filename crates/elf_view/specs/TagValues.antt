-- What the dynamic section says of a library (gABI, Dynamic Section; GNU symbol versioning).
use Rattle.std.specs.Prelude.{ℕ, Bool, if◌then◌else◌, List, Option, Some, None, option_copied, unwrap_or}
use Rattle.elf_format.specs.Class.{Class}
use Rattle.elf_format.specs.Dynamic.{dt_verdefnum, dynamic_entries, last_value, own_name}
use Rattle.elf_format.specs.Symbol.{symbol_strings}
use Rattle.elf_view.specs.declared.dynamic.DynamicTagValues.{DynamicTagValues}

-- the number of version definitions, and the library's own name, if it has one
pub record TagValues : Type 0 where
  pub verdefnum : ℕ
  pub soname : Option (List ℕ)

abbrev pub shown_values : DynamicTagValues → TagValues
shown_values v = record { verdefnum = v.verdefnum; soname = option_copied v.soname }

-- what entries say, by the strings of the symbol table
abbrev pub values_in : Class → List ℕ → List (List ℕ) → TagValues
values_in c strings entries = record { verdefnum = unwrap_or (last_value c dt_verdefnum entries) 0; soname = own_name c strings entries }

-- what entries say, nothing where they are malformed
abbrev pub values_of_entries : Class → List ℕ → Option (List (List ℕ)) → TagValues
values_of_entries c strings None = record { verdefnum = 0; soname = None }
values_of_entries c strings (Some entries) = values_in c strings entries

-- what a dynamic file says
abbrev pub tag_values : Class → Bool → List ℕ → Option TagValues
tag_values c is_dynamic file = if is_dynamic then Some (values_of_entries c (symbol_strings c is_dynamic file) (dynamic_entries c file)) else None
