use Rattle.std.proofs.Common.{◌∙◌, arith}
use Rattle.dwarf_sections.proofs.SetReading.{read_narrow, read_wide}
use Rattle.dwarf_sections.proofs.entries.number_of.Goals as goal

pub returns-in_ok-front-in-Dwarf32 : goal.returns-in_ok-front-in-Dwarf32
returns-in_ok-front-in-Dwarf32 c =
    let cut = (c.in_ok-front-in-Dwarf32.ensures {u = tt}).cases in
    read_narrow c.args.format c.args.bytes.now c.in_ok-front-in-Dwarf32.rest.now c.in_ok-front-in-Dwarf32.front.now c.from.result c.in-Dwarf32.is (λ i. omega (arith, c.type_inv.bytes i)) (omega arith) cut.0 (omega (arith, cut.2)) (c.from.ensures ∙ c.from_le_bytes.ensures) cut.1

pub returns-in_ok-front-in-Dwarf64 : goal.returns-in_ok-front-in-Dwarf64
returns-in_ok-front-in-Dwarf64 c =
    let cut = (c.in_ok-front-in-Dwarf64.ensures {u = tt}).cases in
    read_wide c.args.format c.args.bytes.now c.in_ok-front-in-Dwarf64.rest.now c.in_ok-front-in-Dwarf64.front.now c.from_le_bytes-in-Dwarf64.result c.in-Dwarf64.is (λ i. omega (arith, c.type_inv.bytes i)) (omega arith) cut.0 (omega (arith, cut.2)) c.from_le_bytes-in-Dwarf64.ensures cut.1
