use Rattle.std.proofs.Common.{◌≡◌, ◌+◌, ◌^◌, ◌<◌, take}
use Rattle.std.specs.List.{sum_by}
use Rattle.elf_frames.proofs.eh_frames.EhFrames.total_bytes.Given as goal

abbrev pub invariant-loop-frame : goal.invariant-loop-frame
invariant-loop-frame g l = record {
  summed : l.sum ≡ l.initial.sum + sum_by (λ f. f.frame_size) (take l.frame-index l.frames);
  fits : l.initial.sum + sum_by (λ f. f.frame_size) l.frames < 2 ^ 64;
}
