use Rattle.std.proofs.Common.{rules}
use Rattle.sframe_format.proofs.Again.{HeaderFits, header_of-header_bytes}
use Rattle.sframe_format.proofs.header.written_then_read.Goals as goal

pub returns : goal.returns
returns c =
    let fits : HeaderFits c.args.header = record { magic = search rules; fp = search rules; ra = search rules; fdes = search rules; fres = search rules; len = search rules; fde_start = search rules; fre_start = search rules } in
    λ rest. header_of-header_bytes c.args.header rest fits
