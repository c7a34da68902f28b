use Rattle.std.proofs.Common.{length, sym, ap, ◌∙◌}
use Rattle.sframe_order.specs.Reader.{contribution_view}
use Rattle.sframe_find.specs.Frames.{Frames}
use Rattle.sframe_find.proofs.Functions.{function_count}
use Rattle.sframe_find.proofs.frames.OrderedFrames.count.Goals as goal

pub returns-clause-value : goal.returns-clause-value
returns-clause-value c =
    c.num_fdes.ensures ∙ sym (function_count (contribution_view c.self.inside.contribution)) ∙ ap (λ (x : Frames). length x.functions) c.self.view_is
