-- The definitions compute.
use Rattle.std.proofs.Common.{refl}
use lib.Utf8.{encode}
use Rattle.std.specs.Str.{chars, is_utf8}
use Rattle.elf_format.specs.SymbolName.{versioned_name, part_text, name_text}
use Rattle.elf_format.proofs.version_examples.symbol_names_are_split.Goals as goal

pub returns : goal.returns
unfolding encode chars is_utf8 versioned_name part_text name_text
returns c = record { hidden = refl; default_version = refl; plain = refl; empty_version = refl; three = refl; text = refl; not_utf8 = refl }
