use Rattle.std.proofs.Common.{◌%◌}
use Rattle.std.proofs.Math.Nat.{mod-lt}
use Rattle.elf_words.proofs.AlignmentLemmas.{least_here, least_next, rest_here, rest_next}
use Rattle.elf_words.proofs.alignment.Alignment.align_modulo.Goals as goal

pub returns-then-rest-wanted-clause-congruent : goal.returns-then-rest-wanted-clause-congruent
returns-then-rest-wanted-clause-congruent c = rw (← c.self.view_is) (rest_here c.self.inside.value c.args.value (c.args.like % c.self.inside.value) (mod-lt c.args.like c.self.invariant.0) c.if-rest-wanted.true)

pub returns-then-rest-wanted-clause-least : goal.returns-then-rest-wanted-clause-least
returns-then-rest-wanted-clause-least c = rw (← c.self.view_is) (λ m h e. least_here c.self.inside.value c.args.value m (c.args.like % c.self.inside.value) c.self.invariant.0 h e c.if-rest-wanted.true)

pub returns-else-rest-wanted-clause-congruent : goal.returns-else-rest-wanted-clause-congruent
returns-else-rest-wanted-clause-congruent c = rw (← c.self.view_is) (rest_next c.self.inside.value c.args.value (c.args.like % c.self.inside.value) (mod-lt c.args.like c.self.invariant.0) c.if-rest-wanted.false)

pub returns-else-rest-wanted-clause-least : goal.returns-else-rest-wanted-clause-least
returns-else-rest-wanted-clause-least c = rw (← c.self.view_is) (λ m h e. least_next c.self.inside.value c.args.value m (c.args.like % c.self.inside.value) c.self.invariant.0 h e c.if-rest-wanted.false)
