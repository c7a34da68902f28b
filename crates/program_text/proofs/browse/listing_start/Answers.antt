use Rattle.std.proofs.Common.{[], ◌∷◌, length, map}
use Rattle.std.specs.Prelude.{codes}
use Rattle.program_text.specs.Browse.{address_line}
use Rattle.program_text.specs.Report.{fields, unit_lines}
use Rattle.program_text.proofs.ListingLemmas.{two_lists}
use Rattle.program_text.proofs.browse.listing_start.Goals as goal

pub returns : goal.returns
returns c =
    let units = c.args.units.now in
    let addresses = c.args.addresses.now in
    two_lists (fields (codes "units") (length units ∷ [])) (fields (codes "addresses") (length addresses ∷ [])) (fields (codes "names") (c.args.names ∷ [])) (unit_lines 0 units) (map address_line addresses)
    _ _ _ _ _ _ c.in_ok-out.ensures.items c.in_ok-push_fields.ensures.ok c.in_ok-push_units.ensures.ok c.in_ok-push_fields-2.ensures.ok c.in_ok-push_addresses.ensures.ok c.in_ok-push_fields-3.ensures.ok
