use Rattle.std.proofs.Common.{◌≡◌, ◌+◌, ◌*◌, None, false, not, eqb, ltb, length, refl, sym, arith}
use Rattle.std.proofs.lemmas.Bool.Decides.{nat_tests}
use Rattle.sframe_format.specs.Contribution.{header, fdes_start, fres_start}
use Rattle.sframe_order.specs.Reader.{contribution_view}
use Rattle.sframe_order.proofs.Answering.{sound_from}
use Rattle.sframe_order.proofs.contribution.Contribution.fault.Goals as goal

pub returns-in-None-clause-well_formed : goal.returns-in-None-clause-well_formed
returns-in-None-clause-well_formed c =
    let v = contribution_view c.args.self.now in
    let magic : not (eqb (header v).magic 0xdee2) ≡ false = grind (arith, nat_tests, c.header-header.ensures, c.if-header.false) in
    let fdes : ltb (length v.bytes) (fdes_start v + 20 * (header v).num_fdes) ≡ false = grind (arith, nat_tests, c.fdes_start.ensures.value, c.num_fdes.ensures, c.if-self-fdes_start.false) in
    let fres : ltb (length v.bytes) (fres_start v) ≡ false = grind (arith, nat_tests, c.fres_start.ensures.value, c.if-self-fres_start.false) in
    sound_from v false false false None magic fdes fres (sym c.in-None.ensures) refl
