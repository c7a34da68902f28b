use Rattle.std.proofs.Common.{◌+◌, ◌^◌, ◌<◌, length, take, get_or, refl, arith}
use Rattle.std.proofs.lemmas.List.{length-take-le}
use Rattle.std.proofs.lemmas.List.Elements.{All-more}
use Rattle.gdb_index_format.specs.declared.unit.CuBoundary.{CuBoundary}
use Rattle.gdb_index.specs.Layout.{unit_bytes}
use Rattle.gdb_index.proofs.Lengths.{length-units}
use Rattle.gdb_index.proofs.Extending.{Extends-item}
use Rattle.gdb_index.proofs.writing.append_units.Goals as goal

pub loop-unit-preserved : goal.loop-unit-preserved
loop-unit-preserved c =
    let units = c.args.units.now in
    let i = c.loop-unit.unit-index in
    let d : CuBoundary = record { offset = 0; length = 0 } in
    let less : i < length units = c.loop-unit-test.true in
    record {
      extends = Extends-item unit_bytes _ _ _ _ c.loop-unit.offset units i d (get_or units i d) less refl c.loop-unit.invariant.extends c.loop-unit.invariant.end c.append_unit-offset.ensures.extends;
      end = omega (arith, c.append_unit-offset.ensures.end, c.loop-unit.invariant.offset_is, length-units (take (i + 1) units), length-take-le (i + 1) units (omega (arith, less)));
      fit = All-more (λ (u : CuBoundary). (u.offset < 2 ^ 64) × (u.length < 2 ^ 64)) units i d less c.loop-unit.invariant.fit c.append_unit-offset.ensures.fits;
      offset_is = omega (arith, c.append_unit-offset.ensures.end, c.loop-unit.invariant.offset_is);
    }
