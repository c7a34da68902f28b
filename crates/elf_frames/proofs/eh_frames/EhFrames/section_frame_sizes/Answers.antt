use Rattle.std.proofs.Common.{length, ap, ◌∙◌, arith}
use Rattle.std.specs.List.{sum_by}
use Rattle.std.proofs.lemmas.List.Sums.{sum_by-cons}
use Rattle.elf_frames.specs.steps.Kept.{size_at}
use Rattle.elf_frames.proofs.ChainSums.{counts_none, frame_count_within, frame_bytes_within}
use Rattle.elf_frames.proofs.eh_frames.EhFrames.section_frame_sizes.Goals as goal

pub loop-index-init : goal.loop-index-init
loop-index-init g c = counts_none c.args.self.now.frames c.args.section.0 _ (c.into_iter-index-iterator.ensures.into_iter_gives ∙ c.chain-index-items.ensures)

pub overflow_add-num_frames : goal.overflow_add-num_frames
overflow_add-num_frames g c =
    omega (arith, c.loop-index.invariant.counted, ap length c.in-Some.ensures.steps, frame_count_within c.args.self.now.frames c.args.section.0, c.size_of-eh_frame_size.ensures.few)

pub overflow_add-eh_frame_size : goal.overflow_add-eh_frame_size
overflow_add-eh_frame_size g c =
    let fs = c.args.self.now.frames in
    omega (arith, c.loop-index.invariant.summed, ap (sum_by (size_at fs)) c.in-Some.ensures.steps, sum_by-cons (size_at fs) c.in-Some.index.0 c.next.new.self, frame_bytes_within c.args.section.0 fs, c.size_of-eh_frame_size.ensures.kept, c.size_of-eh_frame_size.ensures.value)
