-- Names put into pool order, bucket by bucket.
use Rattle.std.proofs.Common.{◌≡◌, ℕ, ◌<◌, List, [], ◌∷◌, ◌++◌, length, map, get_or, set, sym, refl, ap, ◌∙◌, arith, inl, inr}
use Rattle.std.specs.Prelude.{◌==◌}
use Rattle.std.specs.List.{flat_map, range_with_len}
use Rattle.std.proofs.lemmas.Bool.{cases_eq, cond-true, cond-false, eq-eqb, ne_eqb}
use Rattle.std.proofs.lemmas.List.{append-nil, length-set, get_or-set_same, get_or-set_other}
use Rattle.std.proofs.lemmas.List.Elements.{filter-append}
use Rattle.std.proofs.lemmas.List.FromFn.{fill_by_all, length-map-range_with_len, get_or-map-range_with_len}
use Rattle.gdb_index_format.specs.Named.{Named}
use Rattle.gdb_index_format.specs.Published.{bucket}
use Rattle.gdb_index.specs.FromParts.{named_in_bucket, in_pool_order}
use Rattle.gdb_index.specs.steps.Split.{split_by_bucket}

-- the names of a bucket after one more name of it, or of another
joins : (ns : List Named) (n : Named) (b : ℕ) → bucket n.name ≡ b → named_in_bucket b (ns ++ n ∷ []) ≡ named_in_bucket b ns ++ n ∷ []
joins ns n b is = filter-append (λ (m : Named). bucket m.name == b) ns (n ∷ []) ∙ ap (λ l. named_in_bucket b ns ++ l) (cond-true (bucket n.name == b) (n ∷ []) [] (eq-eqb (bucket n.name) b is))

passes : (ns : List Named) (n : Named) (b : ℕ) → (bucket n.name ≡ b → ⊥) → named_in_bucket b (ns ++ n ∷ []) ≡ named_in_bucket b ns
passes ns n b differs = filter-append (λ (m : Named). bucket m.name == b) ns (n ∷ []) ∙ ap (λ l. named_in_bucket b ns ++ l) (cond-false (bucket n.name == b) (n ∷ []) [] (ne_eqb (bucket n.name) b differs)) ∙ append-nil (named_in_bucket b ns)

pub split_here : (ns : List Named) (b : ℕ) → b < 32 → get_or (split_by_bucket ns) b [] ≡ named_in_bucket b ns
unfolding split_by_bucket
split_here ns b less = get_or-map-range_with_len (λ b. named_in_bucket b ns) 0 32 b b [] less (omega arith)

pub split_len : (ns : List Named) → length (split_by_bucket ns) ≡ 32
unfolding split_by_bucket
split_len ns = length-map-range_with_len (λ b. named_in_bucket b ns) 0 32

-- one more name stands last in its bucket
pub split_more : (ns : List Named) (n : Named) (at : ℕ) → bucket n.name ≡ at → at < 32 → set (split_by_bucket ns) at (named_in_bucket at ns ++ n ∷ []) ≡ split_by_bucket (ns ++ n ∷ [])
unfolding split_by_bucket
split_more ns n at is less = fill_by_all (λ b. named_in_bucket b (ns ++ n ∷ [])) (set (split_by_bucket ns) at (named_in_bucket at ns ++ n ∷ [])) 32 [] (length-set (split_by_bucket ns) at (named_in_bucket at ns ++ n ∷ []) ∙ split_len ns) each where
  each : (k : ℕ) → k < 32 → get_or (set (split_by_bucket ns) at (named_in_bucket at ns ++ n ∷ [])) k [] ≡ named_in_bucket k (ns ++ n ∷ [])
  each k l =
      elim (cases_eq k at) [
        | inl here ↦
            ap (λ j. get_or (set (split_by_bucket ns) at (named_in_bucket at ns ++ n ∷ [])) j []) here
            ∙ get_or-set_same (split_by_bucket ns) at (named_in_bucket at ns ++ n ∷ []) [] (omega (arith, less, split_len ns))
            ∙ sym (joins ns n at is)
            ∙ ap (λ b. named_in_bucket b (ns ++ n ∷ [])) (sym here)
        | inr other ↦
            get_or-set_other (split_by_bucket ns) at k (named_in_bucket at ns ++ n ∷ []) [] other
            ∙ split_here ns k l
            ∙ sym (passes ns n k (λ e. other (sym e ∙ is)))
      ]

-- the lists of all buckets, one after another
pub joined_buckets : (ns : List Named) → flat_map (λ l. l) (split_by_bucket ns) ≡ in_pool_order ns
unfolding split_by_bucket in_pool_order
joined_buckets ns = all (range_with_len 0 32) where
  all : (bs : List ℕ) → flat_map (λ l. l) (map (λ b. named_in_bucket b ns) bs) ≡ flat_map (λ b. named_in_bucket b ns) bs
  all [] = refl
  all (b ∷ bs) = ap (λ l. named_in_bucket b ns ++ l) (all bs)
