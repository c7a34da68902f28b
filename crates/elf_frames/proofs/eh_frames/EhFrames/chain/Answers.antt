use Rattle.elf_frames.proofs.Chaining.{chain_whole, last_among}
use Rattle.elf_frames.proofs.eh_frames.EhFrames.chain.Goals as goal

pub invariant_of-result : goal.invariant_of-result
invariant_of-result g c = last_among c.args.self.now.frames c.args.section.0 _ c.last.ensures

pub returns : goal.returns
returns g c = chain_whole c.args.self.now.frames c.args.section.0 _ c.last.ensures
