use Rattle.std.proofs.Common.{◌≡◌, ℕ, List, ◌||◌, map}
use Rattle.std.specs.Vec.Iter.{into_iter_items}
use Rattle.elf_view.specs.Sonames.{is_one_of}
use Rattle.elf_view.proofs.sonames.Sonames.new.Given as goal

abbrev pub invariant-loop-name : goal.invariant-loop-name
invariant-loop-name l =
    (name : List ℕ) → (is_one_of (map (λ n. n.now) l.known.keys) name || is_one_of (map (λ n. n.now) (into_iter_items l.name-iterator)) name) ≡ is_one_of (map (λ n. n.now) l.fn.names.items) name
