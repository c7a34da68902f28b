use Rattle.std.proofs.Common.{◌≡◌, ◌≤◌, ◌+◌, ◌-◌, take, drop, vec_len}
use Rattle.std.specs.Io.KnownBytes.{Consumes}
use Rattle.program_io.specs.Counting.{RoseBy}
use Rattle.program_io.proofs.disk_files.append_rest.Given as goal

abbrev pub invariant-pieces : goal.invariant-pieces
invariant-pieces g l = record {
  within : l.got ≤ l.limit;
  grown : vec_len l.out ≡ vec_len l.initial.out + l.got;
  kept : take (vec_len l.initial.out) l.out.items ≡ l.initial.out.items;
  took : RoseBy l.got l.initial.taken l.taken;
  consumed : Consumes (g.R.Read.remaining l.initial.reader) (g.R.Read.remaining l.reader) (drop (vec_len l.initial.out) l.out.items);
  later : l.initial.taken ≤ l.taken;
}

abbrev pub decreases-pieces : goal.decreases-pieces
decreases-pieces g l = l.limit - l.got
