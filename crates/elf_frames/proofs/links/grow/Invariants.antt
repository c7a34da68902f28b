use Rattle.std.proofs.Common.{◌≡◌, ℕ, ◌-◌, ◌≤◌, vec_len}
use Rattle.elf_frames.specs.Shown.{last_in}
use Rattle.elf_frames.proofs.links.grow.Given as goal

abbrev pub invariant-loop-last : goal.invariant-loop-last
invariant-loop-last l = record {
  same : (section : ℕ) → last_in l.last.items section ≡ last_in l.fn.last.items section;
  longer : vec_len l.fn.last ≤ vec_len l.last;
}

abbrev pub decreases-loop-last : goal.decreases-loop-last
decreases-loop-last l = l.count - vec_len l.last
