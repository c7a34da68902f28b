use Rattle.std.proofs.Common.{◌<◌, ◌∙◌, length, arith}
use Rattle.gdb_index.proofs.NamePrefixes.{short_is_padded, long_is_padded, padded_bytes}
use Rattle.gdb_index.proofs.name_order.first_bytes.Goals as goal

pub returns-in-Some-clause-first : goal.returns-in-Some-clause-first
returns-in-Some-clause-first c = c.in-Some.ensures.cases.same ∙ long_is_padded 32 c.args.name.now c.in-Some.ensures.cases.enough

pub returns-in-Some-clause-bytes : goal.returns-in-Some-clause-bytes
returns-in-Some-clause-bytes c = padded_bytes 32 c.args.name.now (λ k. omega (arith, c.type_inv.name k))

pub returns-clause-first : goal.returns-clause-first
returns-clause-first c =
    let short : length c.args.name.now < 32 = c.in_default.ensures.cases in
    rw c.copy_from_slice.ensures.after (short_is_padded 32 c.args.name.now (omega (arith, short)))

pub returns-clause-bytes : goal.returns-clause-bytes
returns-clause-bytes c = padded_bytes 32 c.args.name.now (λ k. omega (arith, c.type_inv.name k))
