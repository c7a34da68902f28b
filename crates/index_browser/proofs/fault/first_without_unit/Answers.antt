use Rattle.std.proofs.Common.{ℕ, ◌+◌, ◌*◌, length, ap, sym, ◌∙◌, arith}
use Rattle.std.specs.Prelude.{not}
use Rattle.std.proofs.lemmas.Bool.{lt-ltb, le-ltb}
use Rattle.index_browser.specs.Areas.{index_addresses}
use Rattle.index_browser.specs.steps.Offsets.{address_from}
use Rattle.index_browser.proofs.AreaLists.{address_within}
use Rattle.index_browser.proofs.Walks.{without_unit, entries_begin, position_kept, position_found, position_over}
use Rattle.index_browser.proofs.fault.first_without_unit.Goals as goal

pub loop-number-init : goal.loop-number-init
loop-number-init c = entries_begin c.args.index.now c.args.areas.now c.args.units c.requires.format c.requires.areas

pub overflow_mul-number : goal.overflow_mul-number
overflow_mul-number c = omega (arith, address_within c.args.index.now c.args.areas.now c.loop-number.number c.requires.format c.requires.areas (omega (arith, c.count_addresses-count.ensures, c.loop-number-test.true)), c.requires.areas.low)

pub overflow_add-areas : goal.overflow_add-areas
overflow_add-areas c = omega (arith, address_within c.args.index.now c.args.areas.now c.loop-number.number c.requires.format c.requires.areas (omega (arith, c.count_addresses-count.ensures, c.loop-number-test.true)), c.requires.areas.low)

pub read_address-entry-requires : goal.read_address-entry-requires
read_address-entry-requires c = omega (arith, address_within c.args.index.now c.args.areas.now c.loop-number.number c.requires.format c.requires.areas (omega (arith, c.count_addresses-count.ensures, c.loop-number-test.true)), c.requires.areas.within)

pub loop-number-preserved : goal.loop-number-preserved
loop-number-preserved c =
    position_kept (without_unit c.args.units) (λ (k : ℕ). address_from c.args.index.now (c.args.areas.now.addresses + 20 * k)) c.loop-number.number (length (index_addresses c.args.index.now)) _ c.loop-number.invariant (omega (arith, c.count_addresses-count.ensures, c.loop-number-test.true))
    (ap (without_unit c.args.units) (sym c.read_address-entry.ensures) ∙ ap not (lt-ltb _ _ c.if-entry-units.false))

pub returns-then-entry-units : goal.returns-then-entry-units
returns-then-entry-units c =
    position_found (without_unit c.args.units) (λ (k : ℕ). address_from c.args.index.now (c.args.areas.now.addresses + 20 * k)) c.loop-number.number (length (index_addresses c.args.index.now)) _ c.loop-number.invariant (omega (arith, c.count_addresses-count.ensures, c.loop-number-test.true))
    (ap (without_unit c.args.units) (sym c.read_address-entry.ensures) ∙ ap not (le-ltb _ _ c.if-entry-units.true))

pub returns : goal.returns
returns c =
    position_over (without_unit c.args.units) (λ (k : ℕ). address_from c.args.index.now (c.args.areas.now.addresses + 20 * k)) c.loop-number.number (length (index_addresses c.args.index.now)) _ c.loop-number.invariant (omega (arith, c.count_addresses-count.ensures, c.loop-number-test.false))
