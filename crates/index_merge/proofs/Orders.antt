-- Names in byte order: two ascending lists are merged in one.
use Rattle.std.proofs.Common.{◌≡◌, ℕ, zero, suc, ◌<◌, List, [], ◌∷◌, length, map, get_or, refl, sym, ap, subst, ◌∙◌, arith}
use Rattle.std.specs.declared.cmp.Ordering.{Ordering}
use Rattle.std.specs.declared.cmp.Ordering.TheVariants.{Less, Equal, Greater}
use Rattle.std.specs.Cmp.Lexicographic.{slice_cmp}
use Rattle.std.specs.Ordering.{nat_cmp, ordering_reverse}
use Rattle.std.specs.List.{AllByRecursion}
use Rattle.std.specs.List.Sorted.{IsStrictlySortedBy}
use Rattle.std.proofs.lemmas.Cmp.{nat_list_cmp_total, tied_itself}
use Rattle.std.proofs.lemmas.Map.Lookups.{exact_bytes}
use Rattle.gdb_index_format.specs.Named.{Named, names_in, AreDistinct}
use Rattle.index_merge.specs.steps.Merging.{moved_name, joined_name, by_order, merged_from, merged_lists}

abbrev pub order_of : List ℕ → List ℕ → Ordering
order_of p q = slice_cmp nat_cmp p q

-- a name is below all names of a list
abbrev pub Below : List ℕ → List Named → Type 0
Below q [] = Unit {0}
Below q (n ∷ ns) = (order_of q n.name ≡ Less) × Below q ns

-- each name of a list is below those after it
abbrev pub Rises : List Named → Type 0
Rises [] = Unit {0}
Rises (n ∷ ns) = Below n.name ns × Rises ns

below_of : (q : List ℕ) (ns : List Named) → AllByRecursion (λ y. slice_cmp nat_cmp q y ≡ Less) (names_in ns) → Below q ns
below_of q [] all = tt
below_of q (n ∷ ns) all = (all.0, below_of q ns all.1)

pub rises_of : (ns : List Named) → IsStrictlySortedBy (slice_cmp nat_cmp) (names_in ns) → Rises ns
unfolding IsStrictlySortedBy
rises_of [] sorted = tt
rises_of (n ∷ ns) sorted = (below_of n.name ns sorted.0, rises_of ns sorted.1)

-- ---- the order

pub not_itself : (p q : List ℕ) → order_of p q ≡ Less → p ≡ q → ⊥
not_itself p q less same = let tie : order_of p q ≡ Equal = ap (λ x. order_of x q) same ∙ tied_itself nat_list_cmp_total q in let clash : Less ≡ Equal = sym less ∙ tie in cc

pub turned : (p q : List ℕ) → order_of p q ≡ Greater → order_of q p ≡ Less
turned p q greater = nat_list_cmp_total.antisymm q p ∙ ap ordering_reverse greater

pub same_names : (p q : List ℕ) → order_of p q ≡ Equal → p ≡ q
same_names p q equal = exact_bytes p q equal

pub below_more : (p q : List ℕ) (ns : List Named) → order_of p q ≡ Less → Below q ns → Below p ns
below_more p q [] less below = tt
below_more p q (n ∷ ns) less below = (nat_list_cmp_total.trans p q n.name less below.0, below_more p q ns less below.1)

pub below_at : (q : List ℕ) (ns : List Named) (i : ℕ) (d : Named) → Below q ns → i < length ns → order_of q (get_or ns i d).name ≡ Less
below_at q [] i d below l = absurd (omega (arith, l))
below_at q (n ∷ ns) zero d below l = below.0
below_at q (n ∷ ns) (suc i) d below l = below_at q ns i d below.1 (omega (arith, l))

-- ---- cases of an order

pub in_each : {X : Type 0} (P : X → Type 0) (o : Ordering) (x y z : X) → P x → P y → P z → P (by_order o x y z)
in_each P Less x y z px py pz = px
in_each P Equal x y z px py pz = py
in_each P Greater x y z px py pz = pz

pub in_its : {X : Type 0} (P : X → Type 0) (o : Ordering) (x y z : X) → (o ≡ Less → P x) → (o ≡ Equal → P y) → (o ≡ Greater → P z) → P (by_order o x y z)
in_its P Less x y z px py pz = px refl
in_its P Equal x y z px py pz = py refl
in_its P Greater x y z px py pz = pz refl

-- ---- a merged list ascends

module _ (u : ℕ) where
  below_moved : (q : List ℕ) (ms : List Named) → Below q ms → Below q (map (moved_name u) ms)
  below_moved q [] below = tt
  below_moved q (m ∷ ms) below = (below.0, below_moved q ms below.1)

  below_from : (q : List ℕ) (n : Named) (rest : List Named → List Named) → ((ms : List Named) → Below q ms → Below q (rest ms)) → order_of q n.name ≡ Less → (ms : List Named) → Below q ms → Below q (merged_from u n rest ms)
  below_from q n rest later here [] below = (here, later [] tt)
  below_from q n rest later here (m ∷ ms) below =
      in_each (Below q) (order_of n.name m.name) (n ∷ rest (m ∷ ms)) (joined_name u n m ∷ rest ms) (moved_name u m ∷ merged_from u n rest ms)
      (here, later (m ∷ ms) below) (here, later ms below.1) (below.0, below_from q n rest later here ms below.1)

  pub below_merged : (q : List ℕ) (ns ms : List Named) → Below q ns → Below q ms → Below q (merged_lists u ns ms)
  below_merged q [] ms left right = below_moved q ms right
  below_merged q (n ∷ ns) ms left right = below_from q n (merged_lists u ns) (λ xs below. below_merged q ns xs left.1 below) left.0 ms right

  rises_moved : (ms : List Named) → Rises ms → Rises (map (moved_name u) ms)
  rises_moved [] rises = tt
  rises_moved (m ∷ ms) rises = (below_moved m.name ms rises.0, rises_moved ms rises.1)

  rises_from : (n : Named) (ns : List Named) → Below n.name ns → ((ms : List Named) → Rises ms → Rises (merged_lists u ns ms)) → (ms : List Named) → Rises ms → Rises (merged_from u n (merged_lists u ns) ms)
  rises_from n ns below later [] rises = (below_merged n.name ns [] below tt, later [] tt)
  rises_from n ns below later (m ∷ ms) rises =
      in_its Rises (order_of n.name m.name) (n ∷ merged_lists u ns (m ∷ ms)) (joined_name u n m ∷ merged_lists u ns ms) (moved_name u m ∷ merged_from u n (merged_lists u ns) ms)
      (λ less. (below_merged n.name ns (m ∷ ms) below (less, below_more n.name m.name ms less rises.0), later (m ∷ ms) rises))
      (λ equal. (below_merged n.name ns ms below (subst (λ q. Below q ms) (sym (same_names n.name m.name equal)) rises.0), later ms rises.1))
      (λ greater. let less = turned n.name m.name greater in (below_merged m.name (n ∷ ns) ms (less, below_more m.name n.name ns less below) rises.0, rises_from n ns below later ms rises.1))

  pub rises_merged : (ns ms : List Named) → Rises ns → Rises ms → Rises (merged_lists u ns ms)
  rises_merged [] ms left right = rises_moved ms right
  rises_merged (n ∷ ns) ms left right = rises_from n ns left.0 (λ xs rises. rises_merged ns xs left.1 rises) ms right

-- ---- ascending names differ

pub distinct_of : (ns : List Named) → Rises ns → AreDistinct ns
distinct_of [] rises i j d l m same = absurd (omega (arith, l))
distinct_of (n ∷ ns) rises zero zero d l m same = refl
distinct_of (n ∷ ns) rises zero (suc j) d l m same = absurd (not_itself n.name (get_or ns j d).name (below_at n.name ns j d rises.0 (omega (arith, m))) same)
distinct_of (n ∷ ns) rises (suc i) zero d l m same = absurd (not_itself n.name (get_or ns i d).name (below_at n.name ns i d rises.0 (omega (arith, l))) (sym same))
distinct_of (n ∷ ns) rises (suc i) (suc j) d l m same = ap suc (distinct_of ns rises.1 i j d (omega (arith, l)) (omega (arith, m)) same)
