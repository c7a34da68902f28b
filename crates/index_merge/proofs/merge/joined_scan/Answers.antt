use Rattle.gdb_index_format.specs.Named.{all_named}
use Rattle.index_merge.proofs.Results.{parts_of}
use Rattle.index_merge.proofs.merge.joined_scan.Goals as goal

pub from_parts-requires : goal.from_parts-requires
from_parts-requires c =
    parts_of c.args.first.now c.args.second.now (all_named c.in_ok-names.names.items) (c.checked_is_well_formed.ensures c.args.first.now c.bytes-first.ensures.checked) (c.checked_is_well_formed.ensures c.args.second.now c.bytes-second.ensures.checked)
    c.requires.few (c.in_ok-names.ensures {u = tt}) c.in_ok-all_units.all_units.items c.args.offset c.args.placed (c.in_ok-all_units.ensures {u = tt}) c.requires.placed
