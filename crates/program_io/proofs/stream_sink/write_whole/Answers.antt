use Rattle.std.proofs.Common.{◌++◌, take}
use Rattle.std.proofs.lemmas.List.{take_rest}
use Rattle.std.proofs.KnownBytes.{Appends-trans}
use Rattle.program_io.proofs.Writing.{one_piece, prefix_then, prefix_kept}
use Rattle.program_io.proofs.stream_sink.write_whole.Goals as goal

pub returns-in-Ok-eq0-clause-prefix : goal.returns-in-Ok-eq0-clause-prefix
returns-in-Ok-eq0-clause-prefix g c =
    prefix_then _ _ _ c.args.bytes.now c.pieces.invariant.done c.pieces.rest.now _ c.pieces.invariant.parts c.pieces.invariant.wrote c.in-Ok-eq0.ensures.bytes

pub pieces-preserved : goal.pieces-preserved
pieces-preserved g c =
    let more = Appends-trans _ _ _ _ _ c.pieces.invariant.wrote c.in-Ok.ensures.bytes in
    let all = one_piece c.args.bytes.now c.pieces.invariant.done c.pieces.rest.now c.in-Ok.count c.pieces.invariant.parts in
    record {
      done = c.pieces.invariant.done ++ take c.in-Ok.count c.pieces.rest.now;
      parts = rw take_rest all;
      wrote = more;
    }

pub returns-in-Err-clause-prefix : goal.returns-in-Err-clause-prefix
returns-in-Err-clause-prefix g c =
    prefix_kept _ _ _ c.args.bytes.now c.pieces.invariant.done c.pieces.rest.now c.pieces.invariant.parts c.pieces.invariant.wrote c.in-Err.ensures.bytes

pub returns-in-Ok-flush-clause-prefix : goal.returns-in-Ok-flush-clause-prefix
returns-in-Ok-flush-clause-prefix g c =
    prefix_kept _ _ _ c.args.bytes.now c.pieces.invariant.done c.pieces.rest.now c.pieces.invariant.parts c.pieces.invariant.wrote c.flush.ensures.bytes

pub returns-in-Err-flush-clause-prefix : goal.returns-in-Err-flush-clause-prefix
returns-in-Err-flush-clause-prefix g c =
    prefix_kept _ _ _ c.args.bytes.now c.pieces.invariant.done c.pieces.rest.now c.pieces.invariant.parts c.pieces.invariant.wrote c.flush.ensures.bytes
