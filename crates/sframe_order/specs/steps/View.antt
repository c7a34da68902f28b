-- Lists of contributions and functions of the code as the definitions of the format see them. Only private contracts
-- cite this.
use Rattle.std.specs.Prelude.{◌<◌, ◌^◌, List, length, map, slice_range}
use Rattle.std.specs.List.{All}
use Rattle.sframe_format.specs.Contribution as format
use Rattle.sframe_order.specs.declared.contribution.Contribution.{Contribution}
use Rattle.sframe_order.specs.declared.function.Function.{Function}
use Rattle.sframe_order.specs.Reader.{contribution_view}

abbrev pub contributions_view : List Contribution → List format.Contribution
contributions_view cs = map contribution_view cs

-- each contribution is below 2^32 bytes
abbrev pub AreShort : List format.Contribution → Type 0
AreShort cs = All (λ (c : format.Contribution). length c.bytes < 2 ^ 32) cs

abbrev pub view : Function → format.Function
view f = record { start = f.start; size = slice_range f.fde.now 4 8; info = slice_range f.fde.now 12 20; fres = f.fres.now }

abbrev pub views : List Function → List format.Function
views fs = map view fs
