use Rattle.std.proofs.Common.{refl, arith, rules}
use Rattle.hex.specs.Hex.{encode_with}
use Rattle.program_text.proofs.RowLemmas.{digits_stored}
use Rattle.program_text.proofs.report.push_row.Goals as goal

pub bytes-init : goal.bytes-init
unfolding encode_with
bytes-init c = record { digits = refl; size = refl }

pub bytes-preserved : goal.bytes-preserved
bytes-preserved c = record {
  digits = digits_stored c.bytes.room c.args.row.now c.bytes.i _ _ (omega (arith, c.bytes.invariant.size)) (omega arith) c.digit.ensures c.digit-in-bytes.ensures c.bytes.invariant.digits;
  size = search rules;
}
