-- Names with their values, by bucket.
use Rattle.std.specs.Prelude.{ℕ, ◌==◌, List}
use Rattle.std.specs.List.{filter, flat_map, range_with_len}
use Rattle.gdb_index_format.specs.Published.{bucket}

module _ {X : Type 0} where
  -- those whose names have a bucket, in their order
  abbrev pub of_bucket : ℕ → List (List ℕ × X) → List (List ℕ × X)
  of_bucket b gs = filter (λ g. bucket g.0 == b) gs

  -- in ascending order of bucket, and within one bucket in their order
  abbrev pub in_buckets : List (List ℕ × X) → List (List ℕ × X)
  in_buckets gs = flat_map (λ b. of_bucket b gs) (range_with_len 0 32)
