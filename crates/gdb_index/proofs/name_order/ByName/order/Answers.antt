use Rattle.std.proofs.Common.{◌∙◌}
use Rattle.gdb_index.specs.declared.name_order.ByName.{ByName}
use Rattle.gdb_index.proofs.NamePrefixes.{HasPrefix, by_first, by_second, by_third, by_fourth}
use Rattle.gdb_index.proofs.name_order.ByName.order.Goals as goal

prefix_of : {T : Type 0} (n : ByName T) → HasPrefix n.name.now n.first n.second n.third n.fourth
prefix_of n = record { first = n.first_is; second = n.second_is; third = n.third_is; fourth = n.fourth_is; bytes = n.bytes }

pub returns-then-self-other : goal.returns-then-self-other
returns-then-self-other g c = c.cmp.ensures ∙ by_first _ _ _ _ _ _ _ _ _ _ (prefix_of c.args.self.now) (prefix_of c.args.other.now) c.if-self-other.true

pub returns-then-self-other-2 : goal.returns-then-self-other-2
returns-then-self-other-2 g c = c.cmp-then-self-other-2.ensures ∙ by_second _ _ _ _ _ _ _ _ _ _ (prefix_of c.args.self.now) (prefix_of c.args.other.now) c.if-self-other.false c.if-self-other-2.true

pub returns-then-self-other-3 : goal.returns-then-self-other-3
returns-then-self-other-3 g c = c.cmp-then-self-other-3.ensures ∙ by_third _ _ _ _ _ _ _ _ _ _ (prefix_of c.args.self.now) (prefix_of c.args.other.now) c.if-self-other.false c.if-self-other-2.false c.if-self-other-3.true

pub returns-then-self-other-4 : goal.returns-then-self-other-4
returns-then-self-other-4 g c = c.cmp-then-self-other-4.ensures ∙ by_fourth _ _ _ _ _ _ _ _ _ _ (prefix_of c.args.self.now) (prefix_of c.args.other.now) c.if-self-other.false c.if-self-other-2.false c.if-self-other-3.false c.if-self-other-4.true
