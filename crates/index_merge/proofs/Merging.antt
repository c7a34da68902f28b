-- Two lists of names, merged step by step.
use Rattle.std.proofs.Common.{◌≡◌, ℕ, ◌+◌, ◌-◌, ◌%◌, ◌^◌, ◌<◌, ◌≤◌, List, [], ◌∷◌, ◌++◌, length, take, drop, get_or, sym, ap, subst, ◌∙◌, arith, append_assoc}
use Rattle.std.proofs.lemmas.List.{drop-drop, length-drop, take_rest}
use Rattle.gdb_index_format.specs.Named.{Named}
use Rattle.index_browser.specs.declared.names.NameEntry.{NameEntry}
use Rattle.index_browser.specs.Areas.{unit_count}
use Rattle.index_browser.specs.Checked.{IsWellFormedIndex}
use Rattle.index_browser.specs.NameList.{all_listed, IsNameListOf}
use Rattle.index_merge.specs.steps.Merging.{HasElementRoom, merged_lists, IsOrderedName, AreOrdered, IsNameTaken}
use Rattle.index_merge.proofs.Taking.{HaveRoom}

pub ordered_push : (ns ms : List Named) (n m : Named) → AreOrdered ns ms → IsOrderedName n m → AreOrdered (ns ++ n ∷ []) (ms ++ m ∷ [])
ordered_push [] [] n m all one = (one, tt)
ordered_push [] (y ∷ ys) n m all one = absurd all
ordered_push (x ∷ xs) [] n m all one = absurd all
ordered_push (x ∷ xs) (y ∷ ys) n m all one = (all.0, ordered_push xs ys n m all.1 one)

module _ (u : ℕ) (xs ys : List NameEntry) (i j : ℕ) where
  -- the name that is taken of what is left of two lists
  abbrev pub TakenAt : Named → ℕ → ℕ → Type 0
  TakenAt named a b = IsNameTaken u (all_listed (drop i xs)) (all_listed (drop j ys)) named (all_listed (drop a (drop i xs))) (all_listed (drop b (drop j ys)))

  pub taken_of_slices : (ss ts : List NameEntry) (named : Named) (a b : ℕ) → ss ≡ drop i xs → ts ≡ drop j ys → IsNameTaken u (all_listed ss) (all_listed ts) named (all_listed (drop a ss)) (all_listed (drop b ts)) → TakenAt named a b
  taken_of_slices ss ts named a b left right taken =
      subst (λ (t : List NameEntry). IsNameTaken u (all_listed (drop i xs)) (all_listed t) named (all_listed (drop a (drop i xs))) (all_listed (drop b t))) right
      (subst (λ (s : List NameEntry). IsNameTaken u (all_listed s) (all_listed ts) named (all_listed (drop a s)) (all_listed (drop b ts))) left taken)

  further : (k n : ℕ) (zs : List NameEntry) → drop k (drop n zs) ≡ drop (n + k) zs
  further k n zs = drop-drop k n zs ∙ ap (λ m. drop m zs) (omega arith)

  abbrev pub MergedSoFar : List Named → List Named → ℕ → ℕ → Type 0
  MergedSoFar all names a b = (done : List Named) × (done ++ merged_lists u (all_listed (drop a xs)) (all_listed (drop b ys)) ≡ all) × AreOrdered done names

  pub merged_more : (all names more : List Named) (named : Named) (a b : ℕ) → TakenAt named a b → more ≡ names ++ named ∷ [] → MergedSoFar all names i j → MergedSoFar all more (i + a) (j + b)
  merged_more all names more named a b t grows (done, is, ordered) = (
    done ++ t.least ∷ [],
    append_assoc done (t.least ∷ []) (merged_lists u (all_listed (drop (i + a) xs)) (all_listed (drop (j + b) ys)))
        ∙ ap (λ (zs : List NameEntry). done ++ t.least ∷ merged_lists u (all_listed zs) (all_listed (drop (j + b) ys))) (sym (further a i xs))
        ∙ ap (λ (zs : List NameEntry). done ++ t.least ∷ merged_lists u (all_listed (drop a (drop i xs))) (all_listed zs)) (sym (further b j ys))
        ∙ ap (λ (ns : List Named). done ++ ns) (sym t.is) ∙ is,
    subst (AreOrdered (done ++ t.least ∷ [])) (sym grows) (ordered_push done names t.least named ordered t.ordered),
  )

  pub room_more : (named : Named) (a b : ℕ) → TakenAt named a b → HaveRoom u (all_listed (drop j ys)) → HaveRoom u (all_listed (drop (j + b) ys))
  room_more named a b t room = subst (λ (zs : List NameEntry). HaveRoom u (all_listed zs)) (further b j ys) (t.room room)

-- what is left of a list, as a slice
pub slice_is : (xs : List NameEntry) (i : ℕ) → take (length xs - i) (drop i xs) ≡ drop i xs
slice_is xs i = take_rest xs i

pub slice_len : (xs : List NameEntry) (i : ℕ) → length (take (length xs - i) (drop i xs)) ≡ length xs - i
slice_len xs i = ap (λ (zs : List NameEntry). length zs) (slice_is xs i) ∙ length-drop i xs

-- ---- the elements of the second index have room

room_of : (units own element : ℕ) → units + own ≤ 2 ^ 24 → element % 2 ^ 24 < own → HasElementRoom units element
room_of units own element few below = omega (arith, few, below)

pub names_have_room : (b : List ℕ) (units : ℕ) (ns : List Named) → IsWellFormedIndex b → units + unit_count b ≤ 2 ^ 24 → IsNameListOf b ns → HaveRoom units ns
names_have_room b units ns w few list k d below e x inside =
    let n = get_or ns k d in
    let f = w.found n.name n.words (list.found k d below) in
    room_of units (unit_count b) (get_or n.words e x) few (f.well_formed e x inside).unit
