use Rattle.std.proofs.Common.{◌≡◌, ◌*◌, take, length}
use Rattle.hex.specs.Hex.{encode_lower}
use Rattle.program_text.proofs.report.push_row.Given as goal

abbrev pub invariant-bytes : goal.invariant-bytes
invariant-bytes l = record {
  digits : take (2 * l.i) l.room ≡ encode_lower (take l.i l.row);
  size : length l.room ≡ 64;
}
