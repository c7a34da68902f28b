use Rattle.std.proofs.Common.{List, ℕ, length, sym, ap, subst, arith, IsPermutation}
use Rattle.std.proofs.lemmas.List.{length-map}
use Rattle.std.proofs.lemmas.List.Sorted.{IsPermutation-map, length_permutation}
use Rattle.gdb_index_format.specs.Named.{Named}
use Rattle.index_browser.specs.declared.names.NameEntry.{NameEntry}
use Rattle.index_browser.specs.Checked.{PassesTests}
use Rattle.index_browser.specs.NameList.{all_listed, listed_name, IsNameListWith}
use Rattle.index_browser.specs.steps.Listing.{slot_named, all_slots_named}
use Rattle.index_browser.proofs.Headers.{few_slots}
use Rattle.index_browser.proofs.NameOrders.{names_listed, slots_in_order, listed_none}
use Rattle.index_browser.proofs.check.CheckedIndex.names_with_prefix.Goals as goal

pub returns-in_default-clause-names : goal.returns-in_default-clause-names
returns-in_default-clause-names c = subst (λ (xs : List NameEntry). IsNameListWith c.args.self.now c.args.prefix.now (all_listed xs)) (sym c.new.ensures.items) (listed_none c.args.self.now c.args.prefix.now c.in_default.ensures)

pub returns-clause-names : goal.returns-clause-names
returns-clause-names c =
    let b = c.bytes.result.now in
    let prefix = c.args.prefix.now in
    let old = c.in_ok-names.names.items in
    let new = c.sort_by_name.new.names.items in
    let passes = subst PassesTests (sym c.bytes.ensures.bytes) c.in-Some.ensures.1 in
    let same = subst (λ (ns : List Named). IsPermutation ns (all_slots_named new)) c.in_ok-names.ensures.names (IsPermutation-map slot_named old new c.sort_by_name.ensures.same) in
    subst (λ (x : List ℕ). IsNameListWith x prefix (all_listed c.in_ok-entries.entries.items)) c.bytes.ensures.bytes
    (subst (λ (ns : List Named). IsNameListWith b prefix ns) (sym c.in_ok-entries.ensures)
    (names_listed b prefix passes (all_slots_named new) same (slots_in_order new c.sort_by_name.ensures.sorted)))

pub returns-clause-few : goal.returns-clause-few
returns-clause-few c =
    let old = c.in_ok-names.names.items in
    let new = c.sort_by_name.new.names.items in
    let entries = c.in_ok-entries.entries.items in
    omega (
      arith,
      length-map entries listed_name,
      ap (λ (ns : List Named). length ns) c.in_ok-entries.ensures,
      length-map new slot_named,
      length_permutation old new c.sort_by_name.ensures.same,
      c.in_ok-names.ensures.few,
      few_slots c.args.self.now c.in-Some.parts c.in-Some.ensures.0,
    )
