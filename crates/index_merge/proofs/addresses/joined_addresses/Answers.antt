use Rattle.std.proofs.Common.{ap, ◌∙◌, ◌++◌, map}
use Rattle.index_browser.specs.Areas.{index_addresses}
use Rattle.index_merge.specs.Merged.{moved_address}
use Rattle.index_merge.proofs.Pushing.{both_pushed, address_stays}
use Rattle.index_merge.proofs.addresses.joined_addresses.Goals as goal

pub returns-clause-entries : goal.returns-clause-entries
returns-clause-entries c =
    both_pushed (moved_address 0) (moved_address c.args.units) (index_addresses c.args.first.now) (index_addresses c.args.second.now) c.in_ok-entries.entries.items c.push_addresses.new.entries.items c.push_addresses-2.new.entries.items address_stays
    c.in_ok-entries.ensures.items c.in_ok-push_addresses.ensures.entries c.in_ok-push_addresses-2.ensures.entries
    ∙ ap (λ n. index_addresses c.args.first.now ++ map (moved_address n) (index_addresses c.args.second.now)) c.requires.units
