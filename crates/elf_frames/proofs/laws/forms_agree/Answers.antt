use Rattle.elf_frames.proofs.OneSplit.{forms_agree}
use Rattle.elf_frames.proofs.laws.forms_agree.Goals as goal

pub returns : goal.returns
returns c = forms_agree
