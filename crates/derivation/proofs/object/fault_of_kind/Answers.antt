use Rattle.elf_view.specs.AnyFile.{parsed}
use Rattle.derivation.proofs.ByClass.{type_is, machine_is, other_type, other_machine, no_fault}
use Rattle.derivation.proofs.object.fault_of_kind.Goals as goal

pub returns-then-file_type-ne-ET_REL : goal.returns-then-file_type-ne-ET_REL
returns-then-file_type-ne-ET_REL c =
    other_type (parsed c.args.file.now).bytes c.args.expected _ (type_is (parsed c.args.file.now).bytes _ c.file_type.ensures) c.if-file_type-ne-ET_REL.true

pub returns-then-machine : goal.returns-then-machine
returns-then-machine c =
    other_machine (parsed c.args.file.now).bytes c.args.expected c.arch.result _ _ _ (type_is (parsed c.args.file.now).bytes _ c.file_type.ensures) (machine_is (parsed c.args.file.now).bytes _ c.arch.ensures) c.if-file_type-ne-ET_REL.false
    c.machine.ensures c.machine-2.ensures c.if-machine.true

pub returns : goal.returns
returns c =
    no_fault (parsed c.args.file.now).bytes c.args.expected c.arch.result _ _ _ (type_is (parsed c.args.file.now).bytes _ c.file_type.ensures) (machine_is (parsed c.args.file.now).bytes _ c.arch.ensures) c.if-file_type-ne-ET_REL.false
    c.machine.ensures c.machine-2.ensures c.if-machine.false
