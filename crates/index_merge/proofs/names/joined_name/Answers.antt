use Rattle.std.proofs.Common.{ℕ, List, subst}
use Rattle.gdb_index_format.specs.Named.{named}
use Rattle.index_merge.specs.Joined.{moved_element}
use Rattle.index_merge.specs.steps.Merging.{IsOrderedName}
use Rattle.index_merge.proofs.Pushing.{both_pushed, element_stays}
use Rattle.index_merge.proofs.names.joined_name.Goals as goal

pub returns : goal.returns
returns c =
    let words = both_pushed (moved_element 0) (moved_element c.args.units) c.args.first.now.vector c.args.second.now.vector c.in_ok-words.words.items c.push_elements.new.words.items c.push_elements-2.new.words.items element_stays
    c.in_ok-words.ensures.items c.in_ok-push_elements.ensures c.in_ok-push_elements-2.ensures in
    subst (λ (ws : List ℕ). IsOrderedName (record { name = c.args.first.now.name.now; words = ws }) (named c.in_ok-named.named)) words c.in_ok-named.ensures
