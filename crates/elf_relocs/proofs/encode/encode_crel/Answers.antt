use Rattle.std.proofs.Common.{◌<◌, ◌^◌, length, arith}
use Rattle.std.proofs.lemmas.Grind.{common_steps}
use Rattle.elf_format.specs.Crel.{IsCrel}
use Rattle.elf_relocs.proofs.Fits.{entry_more, decoded}
use Rattle.elf_relocs.proofs.encode.encode_crel.Goals as goal

pub loop-relocation-preserved : goal.loop-relocation-preserved
loop-relocation-preserved g c = (
  grind (arith, common_steps),
  entry_more IsCrel (λ x. x.values) c.args.list.now c.loop-relocation.relocation-index _ c.entry-entry.result c.loop-relocation-test.true c.loop-relocation.invariant.1 c.entry-entry.ensures.value c.entry-entry.ensures.fits,
)

pub returns-clause-decoded : goal.returns-clause-decoded
returns-clause-decoded g c =
    let small : length c.args.list.now < 2 ^ 61 = omega arith in
    decoded (λ x. x.values) c.args.list.now c.loop-relocation.relocation-index c.loop-relocation.out.items c.loop-relocation.last small c.loop-relocation-test.false c.loop-relocation.invariant.0 c.loop-relocation.invariant.1
