use Rattle.derive_program.proofs.ReplyLemmas.{one_reply, one_known_reply}
use Rattle.derive_program.proofs.laws.replies_are_one.Goals as goal

pub returns-clause-of_bytes : goal.returns-clause-of_bytes
returns-clause-of_bytes c = one_reply c.find_causes_are_one.ensures c.ordered_has_no_cause.ensures c.scans_are_one.ensures c.checked_has_no_fault.ensures c.name_lists_are_one.ensures c.merged_sizes_are_one.ensures c.merge_causes_are_one.ensures c.mergeable_has_no_cause.ensures

pub returns-clause-of_arguments : goal.returns-clause-of_arguments
returns-clause-of_arguments c =
    one_known_reply (one_reply c.find_causes_are_one.ensures c.ordered_has_no_cause.ensures c.scans_are_one.ensures c.checked_has_no_fault.ensures c.name_lists_are_one.ensures c.merged_sizes_are_one.ensures c.merge_causes_are_one.ensures c.mergeable_has_no_cause.ensures) c.name_lists_are_one.ensures
