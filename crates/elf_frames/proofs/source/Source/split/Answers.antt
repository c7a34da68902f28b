use Rattle.std.proofs.Common.{◌^◌, ◌<◌, ◌≤◌, length, arith, rules}
use Rattle.std.proofs.lemmas.Option.{MatchOption-at_some, MatchOption-at_none}
use Rattle.elf_frames.specs.Entries.{IsEnd}
use Rattle.elf_frames.specs.Frames.{total_size}
use Rattle.elf_frames.specs.steps.EntryAt.{IsFound}
use Rattle.elf_frames.specs.steps.Kept.{kept_lists}
use Rattle.elf_frames.specs.steps.Source.{source_input}
use Rattle.elf_frames.proofs.Sizes.{split_is_within}
use Rattle.elf_frames.proofs.Taking.{found_within, reach_start, reach_entry, reach_split}
use Rattle.elf_frames.proofs.source.Source.split.Goals as goal

pub entries-init : goal.entries-init
entries-init g c = record {
  within = omega arith;
  reached = reach_start g.C.ElfClass.class (source_input g.C.ElfClass.class c.args.self.now) c.in_ok-parts.parts c.in_ok-parts.ensures.linked (omega (arith, c.in_ok-parts.ensures.sections)) c.in_ok-parts.ensures.cies c.in_ok-parts.ensures.frames;
}

pub entries-preserved : goal.entries-preserved
entries-preserved g c =
    let input = source_input g.C.ElfClass.class c.args.self.now in
    let found = MatchOption-at_some (IsEnd input.bytes c.entries.offset) (IsFound input.bytes c.entries.offset) c.in-Ok-Some.entry c.in-Ok-Some.field-0-is c.in-Ok-Some.ensures.found in
    record {
      within = found_within input.bytes c.entries.offset c.in-Ok-Some.entry found;
      reached = reach_entry g.C.ElfClass.class input c.entries.parts c.take_entry.new.parts c.entries.offset c.entries.taken c.in-Ok-Some.entry c.in-Ok.stop c.entries.invariant.reached found c.in-Ok.ensures.takes c.in-Ok.ensures.relocations;
    }

pub of_parts-requires-clause-fits : goal.of_parts-requires-clause-fits
of_parts-requires-clause-fits g c =
    let input = source_input g.C.ElfClass.class c.args.self.now in
    let bound : length c.args.self.now.bytes.now < 2 ^ 64 = search rules in
    let end = MatchOption-at_none (IsEnd input.bytes c.entries.offset) (IsFound input.bytes c.entries.offset) c.in-Ok-None.field-0-is c.in-Ok-None.ensures.found in
    let lists = kept_lists g.C.ElfClass.class c.entries.parts.cies.items c.entries.parts.links c.rest_of.result in
    let within : total_size lists ≤ length input.bytes = split_is_within input lists (reach_split g.C.ElfClass.class input c.entries.parts c.entries.offset c.entries.taken c.rest_of.result c.entries.invariant.reached end c.rest_of.ensures) in
    omega (arith, bound, within)
