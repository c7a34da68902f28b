use Rattle.std.proofs.Common.{◌∙◌, arith}
use Rattle.std.proofs.lemmas.List.{length-replicate}
use Rattle.std.specs.List.{range_with_len}
use Rattle.elf_format.specs.VersionName.{defined_version, version_index_count}
use Rattle.elf_versions.proofs.NameLemmas.{length_put}
use Rattle.elf_versions.proofs.DefinedLemmas.{definitions_start, name_step, definitions_end}
use Rattle.elf_versions.proofs.defined.VersionNames.new.Goals as goal

pub loop-definition-init : goal.loop-definition-init
loop-definition-init c = record {
  left = definitions_start c.args.last c.args.strings.now c.args.definitions c.into_iter-definition-iterator.result c.in_ok-names.names c.index_count.result (cc) c.in_ok-names.ensures;
  len = rw c.in_ok-names.ensures (length-replicate _ _ ∙ c.index_count.ensures);
}

pub loop-definition-preserved : goal.loop-definition-preserved
loop-definition-preserved c = record {
  left = name_step (defined_version c.args.last c.args.strings.now) (λ i. i) (range_with_len 0 (version_index_count c.args.last)) c.loop-definition.names c.put.new.self _ c.next.new.self c.loop-definition.definition-iterator _ _ _
      c.in-Some.ensures.steps c.in_ok-named.ensures.value c.in_ok-put.ensures c.loop-definition.invariant.left;
  len = rw c.in_ok-put.ensures (length_put _ _ _ (omega (arith, c.in_ok-named.ensures.bound, c.loop-definition.invariant.len)) ∙ c.loop-definition.invariant.len);
}

pub returns : goal.returns
returns c = definitions_end c.args.last c.args.strings.now c.loop-definition.definition-iterator c.loop-definition.names _ c.in-None.ensures.steps.0 c.loop-definition.invariant.len c.loop-definition.invariant.left
