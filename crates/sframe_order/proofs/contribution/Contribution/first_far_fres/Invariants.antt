use Rattle.std.proofs.Common.{ℕ, ◌<◌, ◌-◌, length}
use Rattle.sframe_format.specs.Contribution.{row_offset, fres_start}
use Rattle.sframe_order.specs.Reader.{contribution_view}
use Rattle.sframe_order.proofs.contribution.Contribution.first_far_fres.Given as goal

abbrev pub invariant-loop-d : goal.invariant-loop-d
invariant-loop-d l = (k : ℕ) → k < l.d → row_offset (contribution_view l.self) k < length l.self.bytes.now - fres_start (contribution_view l.self)
