use Rattle.std.proofs.Common.{[], false, arith}
use Rattle.elf_frames.specs.declared.frame.CieAtOffset.{CieAtOffset}
use Rattle.elf_frames.proofs.Linked.{cies_fit}
use Rattle.elf_frames.proofs.frame_sizes.sum_of_cies.Goals as goal

pub overflow_add-sum : goal.overflow_add-sum
overflow_add-sum c =
    let d : CieAtOffset = record { offset = 0; bytes = record { ref_ptr = (0, 0); now = [] }; eligible_for_deduplication = false } in
    omega (arith, cies_fit c.args.cies.now c.loop-cie.cie-index d (omega arith), c.requires, c.loop-cie.invariant)
