use Rattle.std.proofs.Common.{◌≡◌, ℕ, ◌<◌, List, length, get_or, take, sym, ap, subst, ◌∙◌, arith}
use Rattle.std.specs.List.{All}
use Rattle.std.specs.List.Sorted.{IsNonDecreasing}
use Rattle.std.proofs.lemmas.Grind.{common_steps}
use Rattle.std.proofs.lemmas.List.{get_or-map, length-map}
use Rattle.gdb_index_format.specs.declared.name_words.NameWords.{NameWords}
use Rattle.gdb_index_format.specs.Named.{Named, all_named, named as named_of}
use Rattle.gdb_index.specs.Scan.{HaveSmallWords}
use Rattle.gdb_index.proofs.scan_result.read_elements.Goals as goal

sorted_at : (names : List NameWords) (k : ℕ) (item : NameWords) → All (λ n. IsNonDecreasing n.words) (all_named names) → k < length names → item ≡ get_or names k item → IsNonDecreasing item.words.items
sorted_at names k item h l is =
    subst (λ (n : Named). IsNonDecreasing n.words) (get_or-map named_of names k item (named_of item) l ∙ ap named_of (sym is)) (h k (named_of item) (omega (arith, l, length-map names named_of)))

pub read_last-requires : goal.read_last-requires
read_last-requires c = subst IsNonDecreasing (sym c.deref.ensures.value) (sorted_at c.args.names.now c.loop-named.named-index c.named-item.result c.requires c.loop-named-test.true c.named-item.is)

pub returns : goal.returns
returns c =
    let all : take c.loop-named.named-index c.args.names.now ≡ c.args.names.now = grind (arith, common_steps) in
    subst (λ (ns : List NameWords). HaveSmallWords (all_named ns)) all c.loop-named.invariant
