use Rattle.gdb_index_format.specs.Version.{version_number}
use Rattle.gdb_index.proofs.Versions.{number_is_known}
use Rattle.gdb_index.proofs.Indexes.{answers}
use Rattle.gdb_index.proofs.laws.layout_answers.Goals as goal

pub returns : goal.returns
returns c = λ version s addresses b small sound is. answers (version_number version) b s addresses (number_is_known version) small sound is
