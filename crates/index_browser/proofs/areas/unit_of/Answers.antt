use Rattle.std.proofs.Common.{arith, Some, ap, ◌∙◌}
use Rattle.gdb_index_format.specs.declared.unit.CuBoundary.{CuBoundary}
use Rattle.index_browser.proofs.AreaLists.{unit_within, unit_is}
use Rattle.index_browser.proofs.areas.unit_of.Goals as goal

pub overflow_mul-at : goal.overflow_mul-at
overflow_mul-at c = omega (arith, unit_within c.args.index.now c.args.areas.now c.args.number c.requires.format c.requires.areas (omega (arith, c.count_units.ensures)), c.requires.areas.second, c.requires.areas.third, c.requires.areas.within, c.requires.areas.low)

pub overflow_add-at : goal.overflow_add-at
overflow_add-at c = omega (arith, unit_within c.args.index.now c.args.areas.now c.args.number c.requires.format c.requires.areas (omega (arith, c.count_units.ensures)), c.requires.areas.second, c.requires.areas.third, c.requires.areas.within, c.requires.areas.low)

pub read_unit-requires : goal.read_unit-requires
read_unit-requires c = omega (arith, unit_within c.args.index.now c.args.areas.now c.args.number c.requires.format c.requires.areas (omega (arith, c.count_units.ensures)), c.requires.areas.second, c.requires.areas.third, c.requires.areas.within, c.requires.areas.low)

pub returns : goal.returns
returns c = ap (λ (x : CuBoundary). Some x) c.read_unit.ensures ∙ unit_is c.args.index.now c.args.areas.now c.args.number c.requires.format c.requires.areas (omega (arith, c.count_units.ensures))
