-- The elements that a list of names holds for a name.
use Rattle.std.proofs.Common.{◌≡◌, ℕ, zero, suc, ◌<◌, Bool, true, false, cond, List, [], ◌∷◌, ◌++◌, length, map, get_or, Option, Some, Ok, refl, sym, ap, subst, ◌∙◌, arith}
use Rattle.std.specs.Prelude.{unwrap_or, find}
use Rattle.std.specs.Option.{option_map}
use Rattle.std.specs.Str.{bytes_eq}
use Rattle.std.specs.List.{All, Contains}
use Rattle.std.proofs.lemmas.List.{append-nil}
use Rattle.std.proofs.lemmas.List.Elements.{All-head, All-tail}
use Rattle.std.proofs.lemmas.Slice.Eq.{bytes_eq-Decides}
use Rattle.gdb_index_format.specs.Named.{Named, names_in}
use Rattle.gdb_index_format.specs.Probe.{probe}
use Rattle.gdb_index.specs.Answers.{is_sought, words_under}
use Rattle.index_browser.specs.NameList.{IsNameListOf, elements_in, elements_of}
use Rattle.index_merge.specs.Joined.{moved_element}
use Rattle.index_merge.specs.steps.Merging.{moved_name, joined_name, merged_from, merged_lists}
use Rattle.index_merge.proofs.Orders.{order_of, Below, Rises, not_itself, turned, same_names, below_more, in_its}

abbrev pub held : List ℕ → List Named → List ℕ
held q [] = []
held q (n ∷ ns) = cond (bytes_eq n.name q) n.words (held q ns)

pub is_name : (p q : List ℕ) → bytes_eq p q ≡ true → p ≡ q
is_name p q is = (bytes_eq-Decides p q).0 is

pub is_other : (p q : List ℕ) (t : Bool) → bytes_eq p q ≡ t → (p ≡ q → ⊥) → t ≡ false
is_other p q true is other = absurd (other (is_name p q is))
is_other p q false is other = refl

pub differs : (p q : List ℕ) → (p ≡ q → ⊥) → bytes_eq p q ≡ false
differs p q other = is_other p q (bytes_eq p q) refl other

-- ---- a name that no name of the list is

pub held_none : (q : List ℕ) (ns : List Named) → Below q ns → held q ns ≡ []
held_none q [] below = refl
held_none q (n ∷ ns) below = ap (λ t. cond t n.words (held q ns)) (differs n.name q (λ same. not_itself q n.name below.0 (sym same))) ∙ held_none q ns below.1

-- ---- merged lists

module _ (u : ℕ) (q : List ℕ) where
  abbrev moved : List ℕ → List ℕ
  moved ws = map (moved_element u) ws

  pub held_moved : (ms : List Named) → held q (map (moved_name u) ms) ≡ moved (held q ms)
  held_moved [] = refl
  held_moved (m ∷ ms) = by (bytes_eq m.name q) (held_moved ms) where
    by : (t : Bool) → held q (map (moved_name u) ms) ≡ moved (held q ms) → cond t (moved m.words) (held q (map (moved_name u) ms)) ≡ moved (cond t m.words (held q ms))
    by true later = refl
    by false later = later

  in_first : (t : Bool) (n ws ys zs : List ℕ) → (t ≡ true → zs ≡ []) → ws ≡ ys ++ moved zs → cond t n ws ≡ cond t n ys ++ moved zs
  in_first true n ws ys zs none later = sym (ap (λ xs. n ++ moved xs) (none refl) ∙ append-nil n)
  in_first false n ws ys zs none later = later

  in_both : (t : Bool) (n m ws ys zs : List ℕ) → ws ≡ ys ++ moved zs → cond t (n ++ moved m) ws ≡ cond t n ys ++ moved (cond t m zs)
  in_both true n m ws ys zs later = refl
  in_both false n m ws ys zs later = later

  in_second : (t : Bool) (m ws ys zs : List ℕ) → (t ≡ true → ys ≡ []) → ws ≡ ys ++ moved zs → cond t (moved m) ws ≡ ys ++ moved (cond t m zs)
  in_second true m ws ys zs none later = ap (λ xs. xs ++ moved m) (sym (none refl))
  in_second false m ws ys zs none later = later

  held_from : (n : Named) (ns : List Named) → Below n.name ns → ((ms : List Named) → Rises ms → held q (merged_lists u ns ms) ≡ held q ns ++ moved (held q ms)) → (ms : List Named) → Rises ms → held q (merged_from u n (merged_lists u ns) ms) ≡ held q (n ∷ ns) ++ moved (held q ms)
  held_from n ns below later [] rises = in_first (bytes_eq n.name q) n.words (held q (merged_lists u ns [])) (held q ns) [] (λ is. refl) (later [] tt)
  held_from n ns below later (m ∷ ms) rises =
      in_its (λ xs. held q xs ≡ held q (n ∷ ns) ++ moved (held q (m ∷ ms))) (order_of n.name m.name) (n ∷ merged_lists u ns (m ∷ ms)) (joined_name u n m ∷ merged_lists u ns ms) (moved_name u m ∷ merged_from u n (merged_lists u ns) ms)
      (λ less. in_first (bytes_eq n.name q) n.words (held q (merged_lists u ns (m ∷ ms))) (held q ns) (held q (m ∷ ms))
      (λ is. held_none q (m ∷ ms) (subst (λ p. Below p (m ∷ ms)) (is_name n.name q is) (less, below_more n.name m.name ms less rises.0))) (later (m ∷ ms) rises))
      (λ equal. in_both (bytes_eq n.name q) n.words m.words (held q (merged_lists u ns ms)) (held q ns) (held q ms) (later ms rises.1)
      ∙ ap (λ t. held q (n ∷ ns) ++ moved (cond t m.words (held q ms))) (ap (λ p. bytes_eq p q) (same_names n.name m.name equal)))
      (λ greater. let less = turned n.name m.name greater in
      in_second (bytes_eq m.name q) m.words (held q (merged_from u n (merged_lists u ns) ms)) (held q (n ∷ ns)) (held q ms)
      (λ is. held_none q (n ∷ ns) (subst (λ p. Below p (n ∷ ns)) (is_name m.name q is) (less, below_more m.name n.name ns less below))) (held_from n ns below later ms rises.1))

  pub held_merged : (ns ms : List Named) → Rises ns → Rises ms → held q (merged_lists u ns ms) ≡ held q ns ++ moved (held q ms)
  held_merged [] ms left right = held_moved ms
  held_merged (n ∷ ns) ms left right = held_from n ns left.0 (λ xs rises. held_merged ns xs left.1 rises) ms right

-- ---- the names of an index

abbrev IsFound : List ℕ → Named → Type 0
IsFound b n = (probe b n.name).answer ≡ Ok (Some n.words)

held_of : (b q : List ℕ) (ns : List Named) → All (IsFound b) ns → ((Contains (names_in ns) q → ⊥) → elements_of b q ≡ []) → held q ns ≡ elements_of b q
held_of b q [] all none = sym (none (λ has. omega (arith, has.1)))
held_of b q (n ∷ ns) all none = by (bytes_eq n.name q) refl (λ fewer. held_of b q ns (All-tail (IsFound b) n ns all) fewer) where
  later : bytes_eq n.name q ≡ false → (Contains (names_in ns) q → ⊥) → (k : ℕ) → k < length (names_in (n ∷ ns)) → get_or (names_in (n ∷ ns)) k q ≡ q → ⊥
  later is lacks zero l same = let clash : true ≡ false = sym ((bytes_eq-Decides n.name q).1 same) ∙ is in cc
  later is lacks (suc k) l same = lacks (k, omega (arith, l), same)

  by : (t : Bool) → bytes_eq n.name q ≡ t → (((Contains (names_in ns) q → ⊥) → elements_of b q ≡ []) → held q ns ≡ elements_of b q) → cond t n.words (held q ns) ≡ elements_of b q
  by true is rest = sym (ap (λ p. elements_in (probe b p).answer) (sym (is_name n.name q is)) ∙ ap elements_in (All-head (IsFound b) n ns all))
  by false is rest = rest (λ lacks. none (λ has. later is lacks has.0 has.1 has.2))

pub held_is : (b q : List ℕ) (ns : List Named) → IsNameListOf b ns → held q ns ≡ elements_of b q
held_is b q ns list = held_of b q ns list.found (λ lacks. ap elements_in (list.absent q lacks))

-- ---- as the index answers

abbrev pub elements_or_none : Option (List ℕ) → List ℕ
elements_or_none o = unwrap_or o []

pub under_is : (q : List ℕ) (ns : List Named) → elements_or_none (words_under q ns) ≡ held q ns
under_is q [] = refl
under_is q (n ∷ ns) = by (bytes_eq n.name q) (under_is q ns) where
  by : (t : Bool) → elements_or_none (words_under q ns) ≡ held q ns → elements_or_none (option_map (λ (m : Named). m.words) (cond t (Some n) (find (is_sought q) ns))) ≡ cond t n.words (held q ns)
  by true later = refl
  by false later = later
