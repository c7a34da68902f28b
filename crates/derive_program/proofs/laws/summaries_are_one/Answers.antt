use Rattle.derive_program.proofs.ShownLemmas.{one_summary, have_number}
use Rattle.derive_program.proofs.laws.summaries_are_one.Goals as goal

pub returns-clause-one : goal.returns-clause-one
returns-clause-one c = one_summary c.built_indexes_are_one.ensures c.sorted_in_one_way.ensures.one

pub returns-clause-number : goal.returns-clause-number
returns-clause-number c = have_number c.objects_are_one.ensures c.demo_holds_numbered_objects.ensures
