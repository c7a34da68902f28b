-- The definitions compute.
use Rattle.std.proofs.Common.{refl}
use Rattle.elf_format.specs.Bytes.{le, string_at}
use Rattle.elf_format.proofs.version_examples.version_texts_have_their_mark.Goals as goal

pub returns : goal.returns
unfolding le string_at
returns c = record { default_version = refl; hidden = refl; needed = refl; unknown = refl; passed_over = refl; cut_chain = refl; before_cut = refl }
