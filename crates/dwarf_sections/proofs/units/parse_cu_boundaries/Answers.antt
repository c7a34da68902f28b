use Rattle.std.proofs.Common.{rules, arith, IfErr}
use Rattle.std.proofs.lemmas.Grind.{common_steps}
use Rattle.gdb_index_format.proofs.UnitLists.{four_at_least}
use Rattle.dwarf_sections.specs.UnitCause.{IsUnitListCause}
use Rattle.dwarf_sections.proofs.UnitReading.{no_refusal}
use Rattle.dwarf_sections.proofs.units.parse_cu_boundaries.Goals as goal

pub loop-at-smaller : goal.loop-at-smaller
loop-at-smaller c = omega (arith, c.in_ok-length.ensures.ok, c.in_ok-length.ensures.within, four_at_least c.args.bytes.now c.loop-at.at)

pub returns-in_err-length-clause-complete : goal.returns-in_err-length-clause-complete
returns-in_err-length-clause-complete c = λ us list.
    let cause : IfErr c.from_residual.result (IsUnitListCause c.args.bytes.now) = first_of (search rules, grind (arith, common_steps)) in
    no_refusal c.args.bytes.now us c.from_residual.result list cause
