use Rattle.std.proofs.Common.{◌≡◌}
use Rattle.std.specs.Prelude.{map}
use Rattle.std.specs.Result.{result_err}
use Rattle.elf_format.specs.Bytes.{le}
use Rattle.elf_format.specs.Chain.{each_ok}
use Rattle.elf_format.specs.Group.{member_of}
use Rattle.elf_view.proofs.group.check_members.Given as goal

abbrev pub invariant-loop-member : goal.invariant-loop-member
invariant-loop-member g l =
    result_err (each_ok (member_of g.H.SectionHeaderFields.class l.bytes l.group) (map (λ word. le word 0 4) l.members))
    ≡ result_err (each_ok (member_of g.H.SectionHeaderFields.class l.bytes l.group) (map (λ word. le word 0 4) l.member-iterator))
