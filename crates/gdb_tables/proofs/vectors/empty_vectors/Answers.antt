use Rattle.std.proofs.Common.{refl}
use Rattle.std.proofs.lemmas.Map.Iter.{rest_more}
use Rattle.gdb_index_format.specs.declared.name_words.NameWords.{NameWords}
use Rattle.gdb_tables.proofs.Vectoring.{empty_step, hash_step}
use Rattle.gdb_tables.proofs.vectors.empty_vectors.Goals as goal

pub loop-key-preserved : goal.loop-key-preserved
loop-key-preserved c =
    let v : NameWords = record { name = c.in-Some.key.name; words = c.in_ok-words.words } in
    let taken = rest_more (λ x. x) c.loop-key.key-iterator c.next.new.self c.next.result c.in-Some.key c.in-Some.is c.next.ensures.steps in
    record {
      hashed = hash_step c.loop-key.hashes.items c.push.new.self.items c.in-Some.key c.loop-key.key-iterator c.next.new.self _ taken c.in_ok-push.ensures.items c.loop-key.invariant.hashed;
      left = empty_step c.loop-key.list.items c.push-in-loop-key.new.self.items v c.in-Some.key c.loop-key.key-iterator c.next.new.self _ taken c.in_ok-push-2.ensures.items refl c.in_ok-words.ensures.items c.loop-key.invariant.left;
    }
