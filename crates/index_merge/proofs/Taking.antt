-- The least name of two ascending lists, and what is left of them.
use Rattle.std.proofs.Common.{◌≡◌, ℕ, ◌<◌, List, [], ◌∷◌, length, drop, get_or, refl, sym, ap, subst, ◌∙◌, arith}
use Rattle.std.specs.declared.cmp.Ordering.{Ordering}
use Rattle.std.specs.declared.cmp.Ordering.TheVariants.{Less, Equal, Greater}
use Rattle.std.specs.Cmp.Lexicographic.{slice_cmp}
use Rattle.std.specs.Ordering.{nat_cmp}
use Rattle.std.specs.List.{All}
use Rattle.std.proofs.lemmas.List.Elements.{All-head, All-tail}
use Rattle.gdb_index_format.specs.Named.{Named}
use Rattle.index_browser.specs.declared.names.NameEntry.{NameEntry}
use Rattle.index_browser.specs.NameList.{listed_name, all_listed}
use Rattle.index_merge.specs.Joined.{moved_element}
use Rattle.index_merge.specs.steps.Merging.{HasElementRoom, moved_name, joined_name, by_order, merged_lists, IsOrderedName, IsNameTaken}
use Rattle.index_merge.proofs.Pushing.{map_same, element_stays}

-- a list as a pattern takes it apart
pub taken_apart : {X : Type 0} (xs : List X) (x : X) → 0 < length xs → x ≡ get_or xs 0 x → xs ≡ x ∷ drop 1 xs
taken_apart [] x some is = absurd (omega (arith, some))
taken_apart (y ∷ ys) x some is = ap (λ z. z ∷ ys) (sym is)

pub no_item : {X : Type 0} (xs : List X) → length xs ≡ 0 → xs ≡ []
no_item [] none = refl
no_item (x ∷ xs) none = absurd (omega (arith, none))

-- what is left of a list of entries after its first
abbrev pub rest : List NameEntry → List NameEntry
rest xs = drop 1 xs

pub apart : (xs : List NameEntry) (x : NameEntry) → 0 < length xs → x ≡ get_or xs 0 x → all_listed xs ≡ listed_name x ∷ all_listed (rest xs)
apart xs x some is = ap all_listed (taken_apart xs x some is)

module _ (u : ℕ) where
  abbrev pub HaveRoom : List Named → Type 0
  HaveRoom ms = All (λ m. All (HasElementRoom u) m.words) ms

  pub head_room : (ms rest : List Named) (m : Named) → ms ≡ m ∷ rest → HaveRoom ms → All (HasElementRoom u) m.words
  head_room ms rest m is all = All-head (λ (n : Named). All (HasElementRoom u) n.words) m rest (subst HaveRoom is all)

  rest_room : (ms rest : List Named) (m : Named) → ms ≡ m ∷ rest → HaveRoom ms → HaveRoom rest
  rest_room ms rest m is all = All-tail (λ (n : Named). All (HasElementRoom u) n.words) m rest (subst HaveRoom is all)

  stays : (n named : Named) → IsOrderedName (moved_name 0 n) named → IsOrderedName n named
  stays n named is = subst (λ (ws : List ℕ). IsOrderedName (record { name = n.name; words = ws }) named) (map_same (moved_element 0) element_stays n.words) is

  in_order : (o : Ordering) (n m : Named) (ns ms : List Named) → slice_cmp nat_cmp n.name m.name ≡ o → merged_lists u (n ∷ ns) (m ∷ ms) ≡ by_order o (n ∷ merged_lists u ns (m ∷ ms)) (joined_name u n m ∷ merged_lists u ns ms) (moved_name u m ∷ merged_lists u (n ∷ ns) ms)
  in_order o n m ns ms is = ap (λ (x : Ordering). by_order x (n ∷ merged_lists u ns (m ∷ ms)) (joined_name u n m ∷ merged_lists u ns ms) (moved_name u m ∷ merged_lists u (n ∷ ns) ms)) is

  both_are : (ns ms : List Named) (n m : Named) (ns_left ms_left : List Named) → ns ≡ n ∷ ns_left → ms ≡ m ∷ ms_left → merged_lists u ns ms ≡ merged_lists u (n ∷ ns_left) (m ∷ ms_left)
  both_are ns ms n m ns_left ms_left left right = ap (λ xs. merged_lists u xs ms) left ∙ ap (λ xs. merged_lists u (n ∷ ns_left) xs) right

  pub take_alone : (ns ms ns_left : List Named) (n named : Named) → ns ≡ n ∷ ns_left → ms ≡ [] → IsOrderedName (moved_name 0 n) named → IsNameTaken u ns ms named ns_left ms
  take_alone ns ms ns_left n named left right is = record {
    least = n;
    ordered = stays n named is;
    is = ap (λ xs. merged_lists u xs ms) left ∙ ap (λ xs. merged_lists u (n ∷ ns_left) xs) right ∙ ap (λ xs. n ∷ merged_lists u ns_left xs) (sym right);
    fewer = omega (arith, ap length left);
    room = λ all. all;
  }

  pub take_second_alone : (ns ms ms_left : List Named) (m named : Named) → ns ≡ [] → ms ≡ m ∷ ms_left → IsOrderedName (moved_name u m) named → IsNameTaken u ns ms named ns ms_left
  take_second_alone ns ms ms_left m named left right is = record {
    least = moved_name u m;
    ordered = is;
    is = ap (λ xs. merged_lists u xs ms) left ∙ ap (merged_lists u []) right ∙ ap (λ xs. moved_name u m ∷ merged_lists u xs ms_left) (sym left);
    fewer = omega (arith, ap length right);
    room = rest_room ms ms_left m right;
  }

  pub take_first : (ns ms ns_left ms_left : List Named) (n m named : Named) → ns ≡ n ∷ ns_left → ms ≡ m ∷ ms_left → slice_cmp nat_cmp n.name m.name ≡ Less → IsOrderedName (moved_name 0 n) named → IsNameTaken u ns ms named ns_left ms
  take_first ns ms ns_left ms_left n m named left right less is = record {
    least = n;
    ordered = stays n named is;
    is = both_are ns ms n m ns_left ms_left left right ∙ in_order Less n m ns_left ms_left less ∙ ap (λ xs. n ∷ merged_lists u ns_left xs) (sym right);
    fewer = omega (arith, ap length left);
    room = λ all. all;
  }

  pub take_both : (ns ms ns_left ms_left : List Named) (n m named : Named) → ns ≡ n ∷ ns_left → ms ≡ m ∷ ms_left → slice_cmp nat_cmp n.name m.name ≡ Equal → IsOrderedName (joined_name u n m) named → IsNameTaken u ns ms named ns_left ms_left
  take_both ns ms ns_left ms_left n m named left right same is = record {
    least = joined_name u n m;
    ordered = is;
    is = both_are ns ms n m ns_left ms_left left right ∙ in_order Equal n m ns_left ms_left same;
    fewer = omega (arith, ap length left, ap length right);
    room = rest_room ms ms_left m right;
  }

  pub take_second : (ns ms ns_left ms_left : List Named) (n m named : Named) → ns ≡ n ∷ ns_left → ms ≡ m ∷ ms_left → slice_cmp nat_cmp n.name m.name ≡ Greater → IsOrderedName (moved_name u m) named → IsNameTaken u ns ms named ns ms_left
  take_second ns ms ns_left ms_left n m named left right greater is = record {
    least = moved_name u m;
    ordered = is;
    is = both_are ns ms n m ns_left ms_left left right ∙ in_order Greater n m ns_left ms_left greater ∙ ap (λ xs. moved_name u m ∷ merged_lists u xs ms_left) (sym left);
    fewer = omega (arith, ap length right);
    room = rest_room ms ms_left m right;
  }
