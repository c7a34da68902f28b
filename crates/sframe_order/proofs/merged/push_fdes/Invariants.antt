use Rattle.std.proofs.Common.{◌≡◌, ℕ, pos, true, ◌+◌, ◌*◌, ◌<◌, ◌++◌, take, get_or, vec_len}
use Rattle.sframe_format.specs.Merged.{start_fields, fres_len}
use Rattle.sframe_format.specs.Valid.{fits_i32}
use Rattle.sframe_order.specs.steps.View.{views}
use Rattle.sframe_order.proofs.Placed.{fdes_to}
use Rattle.sframe_order.proofs.merged.push_fdes.Given as goal

abbrev pub invariant-loop-j : goal.invariant-loop-j
invariant-loop-j l = record {
  written : l.bytes.items ≡ l.fn.bytes.items ++ fdes_to l.flags l.first (views l.functions) l.j;
  len : vec_len l.bytes ≡ vec_len l.fn.bytes + 20 * l.j;
  before : l.before ≡ fres_len (take l.j (views l.functions));
  fit : (k : ℕ) → k < l.j → fits_i32 (get_or (start_fields l.flags l.first (views l.functions)) k (pos 0)) ≡ true;
}
