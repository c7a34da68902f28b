-- Private steps: only private contracts cite this module.
-- Names with elements of their CU vectors, distributed over one list a bucket.
use Rattle.std.specs.Prelude.{◌≡◌, ℕ, ◌<◌, List, [], ◌∷◌, ◌++◌, map, set, get_or, Vec, Option}
use Rattle.std.specs.List.{range_with_len}
use Rattle.std.specs.declared.alloc.Global.{Global}
use Rattle.gdb_index_format.specs.Published.{bucket}
use Rattle.gdb_scan.specs.declared.mark.Mark.{Mark}
use Rattle.gdb_scan.specs.Buckets.{of_bucket}
use Rattle.gdb_scan.specs.Groups.{groups}
use Rattle.gdb_scan.specs.Scan.{ObjectScan}
use Rattle.gdb_tables.specs.declared.element.NamedElement.{NamedElement}
use Rattle.gdb_tables.specs.Scans.{mark_word, words_from}

abbrev pub element_shown : NamedElement → List ℕ × ℕ
element_shown e = (e.name.now, e.element)

abbrev pub elements_shown : List NamedElement → List (List ℕ × ℕ)
elements_shown es = map element_shown es

abbrev pub lists_shown : List (Vec NamedElement Global) → List (List (List ℕ × ℕ))
lists_shown lists = map (λ l. elements_shown l.items) lists

-- names with the elements of their marks, where the object's first unit has the number `first`
abbrev pub words_of_marks : ℕ → List (List ℕ × Mark) → List (List ℕ × ℕ)
words_of_marks first ms = map (λ m. (m.0, mark_word first m.1)) ms

-- the lists after some pairs joined, each last in the list of its bucket
abbrev pub with_pairs : List (List (List ℕ × ℕ)) → List (List ℕ × ℕ) → List (List (List ℕ × ℕ))
with_pairs lists [] = lists
with_pairs lists (p ∷ ps) = with_pairs (set lists (bucket p.0) (get_or lists (bucket p.0) [] ++ p ∷ [])) ps

-- the pairs of each bucket, from bucket 0 on
unfoldable pub split_pairs : List (List ℕ × ℕ) → List (List (List ℕ × ℕ))
split_pairs ps = map (λ b. of_bucket b ps) (range_with_len 0 32)

-- What scans publish, by bucket: each list has the names of a bucket and their elements, in the order that the scans have.
pub record AreDistributed (ss : List (Option ObjectScan)) (lists : List (List (List ℕ × ℕ))) : Type 0 where
  pub pairs : List (List ℕ × ℕ)
  pub split : lists ≡ split_pairs pairs
  pub same : (b : ℕ) → b < 32 → groups (of_bucket b pairs) ≡ groups (of_bucket b (words_from 0 ss))
