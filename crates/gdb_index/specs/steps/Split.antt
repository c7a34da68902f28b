-- Private steps: only private contracts cite this module.
-- Names split by bucket.
use Rattle.std.specs.Prelude.{List, map}
use Rattle.std.specs.List.{range_with_len}
use Rattle.std.specs.Prelude.{Vec}
use Rattle.std.specs.declared.alloc.Global.{Global}
use Rattle.gdb_index_format.specs.declared.name_words.NameWords.{NameWords}
use Rattle.gdb_index_format.specs.Named.{Named, all_named}
use Rattle.gdb_index.specs.FromParts.{named_in_bucket}

-- the names of each list
abbrev pub lists_named : List (Vec NameWords Global) → List (List Named)
lists_named lists = map (λ l. all_named l.items) lists

-- the names of each bucket, from bucket 0 on
unfoldable pub split_by_bucket : List Named → List (List Named)
split_by_bucket ns = map (λ b. named_in_bucket b ns) (range_with_len 0 32)
