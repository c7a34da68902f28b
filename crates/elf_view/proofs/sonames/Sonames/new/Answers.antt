use Rattle.std.specs.Vec.Iter.{into_iter_items}
use Rattle.elf_view.proofs.SonameLemmas.{inserted}
use Rattle.elf_view.proofs.sonames.Sonames.new.Goals as goal

pub loop-name-preserved : goal.loop-name-preserved
loop-name-preserved c =
    λ name. inserted (λ n. n.now) c.loop-name.known.keys c.insert.new.self.keys (into_iter_items c.loop-name.name-iterator) (into_iter_items c.next.new.self) c.in-Some.name name _
    (c.in_ok-insert.ensures.updates.0 (record { ref_ptr = (0, 0); now = name })) c.in-Some.ensures.steps.0 (c.loop-name.invariant name)
