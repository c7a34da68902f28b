use Rattle.std.proofs.Common.{◌≡◌, sym, ap, subst, ◌∙◌, rules}
use Rattle.gdb_index_format.specs.Named.{all_named, ListsPublished}
use Rattle.gdb_index.specs.Answers.{words_under}
use Rattle.gdb_index.specs.Hashed.{hashes_of}
use Rattle.gdb_index.specs.Scan.{IsWellFormedScan}
use Rattle.gdb_index.specs.FromParts.{pairs_of_names}
use Rattle.gdb_index.proofs.PartsIndexed.{well_formed_parts, same_size, words_in_order}
use Rattle.gdb_index.proofs.PartsPublished.{published_parts}
use Rattle.gdb_index.proofs.scan_result.GdbIndexScanResult.from_parts.Goals as goal

pub invariant_of-result : goal.invariant_of-result
invariant_of-result c =
    let well : IsWellFormedScan (record { units = c.args.units.items; names = all_named c.in_ok-names.names.items; placed = c.args.placed; unit_counts = c.push.new.self.items }) =
    well_formed_parts c.args.units.items (all_named c.args.names.items) (all_named c.in_ok-names.names.items) c.args.placed c.push.new.self.items c.requires (search rules) c.in_ok-names.ensures (search rules) in
    let hashed : c.in_ok-hashes.hashes.items ≡ hashes_of (all_named c.in_ok-names.names.items) = c.in_ok-hashes.ensures ∙ ap (λ ns. hashes_of (all_named ns)) c.deref-2.ensures.value in
    (well, hashed)

pub returns-clause-published : goal.returns-clause-published
returns-clause-published c = subst (ListsPublished (pairs_of_names (all_named c.args.names.items))) (sym c.in_ok-names.ensures) (published_parts c.args.units.items (all_named c.args.names.items) c.args.placed c.requires)

pub returns-clause-words : goal.returns-clause-words
returns-clause-words c = λ name. ap (words_under name) c.in_ok-names.ensures ∙ words_in_order name (all_named c.args.names.items)

pub returns-clause-size : goal.returns-clause-size
returns-clause-size c = same_size c.args.units.items (all_named c.args.names.items) (all_named c.in_ok-names.names.items) c.args.placed c.push.new.self.items c.in_ok-names.ensures

pub returns-clause-well_formed : goal.returns-clause-well_formed
returns-clause-well_formed c = well_formed_parts c.args.units.items (all_named c.args.names.items) (all_named c.in_ok-names.names.items) c.args.placed c.push.new.self.items c.requires (search rules) c.in_ok-names.ensures (search rules)
