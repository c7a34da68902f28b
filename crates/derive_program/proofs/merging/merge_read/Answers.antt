use Rattle.std.proofs.Common.{refl}
use Rattle.program_text.specs.Merge.{merge_of}
use Rattle.derive_program.proofs.ReplyLemmas.{merged_answer, refused_answer}
use Rattle.derive_program.proofs.merging.merge_read.Goals as goal

pub returns-in-Ok-merge_indexes-clause-answer : goal.returns-in-Ok-merge_indexes-clause-answer
returns-in-Ok-merge_indexes-clause-answer g c =
    merged_answer (merge_of c.args.command.now) c.args.first.now c.args.second.now c.in-Ok.index c.in-Ok-check_index.index c.in-Ok-merge_indexes.merged.items c.deref.result.now _ c.put_merged.result
    c.in-Ok.ensures.bytes c.in-Ok-check_index.ensures.bytes (c.in-Ok.ensures.checked.0 refl) (c.in-Ok-check_index.ensures.checked.0 refl) c.in-Ok-merge_indexes.ensures.mergeable c.in-Ok-merge_indexes.ensures.merged
    c.deref.ensures.value c.put_merged.ensures.answer

pub returns-in-Err-merge_indexes-clause-answer : goal.returns-in-Err-merge_indexes-clause-answer
returns-in-Err-merge_indexes-clause-answer g c =
    refused_answer (merge_of c.args.command.now) c.args.first.now c.args.second.now c.in-Ok.index c.in-Ok-check_index.index c.in-Err-merge_indexes.error _ c.from.result
    c.in-Ok.ensures.bytes c.in-Ok-check_index.ensures.bytes (c.in-Ok.ensures.checked.0 refl) (c.in-Ok-check_index.ensures.checked.0 refl) c.in-Err-merge_indexes.ensures.cause (record { written = refl; puts = refl }) c.from.ensures
