use Rattle.std.proofs.Common.{◌≡◌, true, List, sym, subst, ap, ◌∙◌, refl, arith}
use Rattle.elf_format.specs.Flags.{has_flag}
use Rattle.sframe_format.specs.declared.header.Header.{Header}
use Rattle.sframe_format.specs.Contribution.{Function}
use Rattle.sframe_format.specs.Fields.{header_of}
use Rattle.sframe_find.specs.Frames.{Frames}
use Rattle.sframe_find.specs.Ordered.{HasHeader, AddressesAscend, IsFirstDescent}
use Rattle.sframe_find.proofs.Whole.{whole_fault, whole_functions, flag_set}
use Rattle.sframe_find.proofs.check.check.Goals as goal

pub returns-in-Some-first_descent-clause-cause : goal.returns-in-Some-first_descent-clause-cause
returns-in-Some-first_descent-clause-cause c =
    let s = c.args.section.now in
    let has : HasHeader s = record { long = omega arith; parsed = (refl, c.in-Ok.ensures.1, c.in-Ok.ensures.2) } in
    let flag : has_flag (header_of s).flags 1 ≡ true = sym (ap (λ (h : Header). has_flag h.flags 1) c.in-Ok.ensures.0) ∙ flag_set _ c.if-header-eq0.false in
    (has, flag, whole_fault s has ∙ c.in_default.ensures.fault, subst (λ (fs : List Function). IsFirstDescent c.args.base fs c.in-Some-first_descent.index) (sym (whole_functions s has)) c.in-Some-first_descent.ensures)

pub returns-clause-ordered : goal.returns-clause-ordered
returns-clause-ordered c =
    let s = c.args.section.now in
    let has : HasHeader s = record { long = omega arith; parsed = (refl, c.in-Ok.ensures.1, c.in-Ok.ensures.2) } in
    let flag : has_flag (header_of s).flags 1 ≡ true = sym (ap (λ (h : Header). has_flag h.flags 1) c.in-Ok.ensures.0) ∙ flag_set _ c.if-header-eq0.false in
    record {
      header = has;
      flag = flag;
      fault = whole_fault s has ∙ c.in_default.ensures.fault;
      ascends = subst (AddressesAscend c.args.base) (sym (whole_functions s has)) c.in_default-first_descent.ensures;
    }

pub returns-clause-frames : goal.returns-clause-frames
returns-clause-frames c =
    let s = c.args.section.now in
    let has : HasHeader s = record { long = omega arith; parsed = (refl, c.in-Ok.ensures.1, c.in-Ok.ensures.2) } in
    c.new.ensures ∙ ap (λ (fs : List Function). let x : Frames = record { functions = fs; base = c.args.base } in x) (sym (whole_functions s has))
