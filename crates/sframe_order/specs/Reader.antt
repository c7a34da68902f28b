-- A contribution of the code, as the definitions of the format see it.
use Rattle.sframe_format.specs.Contribution as format
use Rattle.sframe_order.specs.declared.contribution.Contribution.{Contribution}

abbrev pub contribution_view : Contribution → format.Contribution
contribution_view c = record { offset = c.offset; bytes = c.bytes.now }
